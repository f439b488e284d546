-- The house order is right, and the fresh cells are those before tick 0; the slices after t turns are those after t ticks.
use Rattle.std.proofs.Common.{◌≡◌}
use Rattle.engine.proofs.RunLaws.{After}
use Rattle.engine.proofs.Accepted.run_rows.Given as goal

abbrev pub invariant-loop-t : goal.invariant-loop-t
invariant-loop-t l = (l.run.ticks ≡ l.t) × After l.self.s.now l.rows l.fn.outputs l.outputs l.cells l.values l.t l.run.failing
