-- After some turns so many nodes of the order are worked.
use Rattle.std.proofs.Common.{◌≡◌, take, pos}
use Rattle.table.specs.Equations.{work}
use Rattle.meaning.specs.Local.{sides}
use Rattle.meaning.specs.Cells.{held}
use Rattle.engine.proofs.Accepted.work_nodes.Given as goal

abbrev pub invariant-loop-at : goal.invariant-loop-at
invariant-loop-at l = l.values ≡ work (pos 0) (sides l.self.s.now (l.row) (held l.self.s.now l.cells)) (take l.at-index l.order) l.fn.values
