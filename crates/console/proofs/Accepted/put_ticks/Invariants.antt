-- After t turns the lines of t ticks are put, and the cells are those before tick t.
use Rattle.std.proofs.Common.{◌≤◌}
use Rattle.engine.specs.Operations.{max_rows}
use Rattle.console.specs.Printing.{TicksPut}
use Rattle.console.proofs.Accepted.put_ticks.Given as goal

abbrev pub invariant-loop-t : goal.invariant-loop-t
invariant-loop-t l = (l.ticks ≤ max_rows) × TicksPut l.self.s.now l.rows l.t l.cells l.values l.fn.out.items l.out.items
