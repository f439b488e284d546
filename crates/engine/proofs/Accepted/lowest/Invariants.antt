-- None of the nodes before i fails.
use Rattle.std.proofs.Common.{◌≡◌, ℕ, ◌<◌, false}
use Rattle.engine.proofs.FunctionLaws.{fails}
use Rattle.engine.proofs.Accepted.lowest.Given as goal

abbrev pub invariant-loop-i : goal.invariant-loop-i
invariant-loop-i l = (k : ℕ) → k < l.i → fails l.self.s.now l.values k ≡ false
