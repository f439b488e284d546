-- After the nodes before i, the count is that of those among them which fail.
use Rattle.std.proofs.Common.{◌≡◌}
use Rattle.finite.specs.Count.{count}
use Rattle.engine.proofs.FunctionLaws.{fails}
use Rattle.engine.proofs.Accepted.failures.Given as goal

abbrev pub invariant-loop-i : goal.invariant-loop-i
invariant-loop-i l = l.count ≡ count (fails l.self.s.now l.values) l.i
