-- No node passed breaks the rule.
use Rattle.std.proofs.Common.{◌≡◌, ℕ, false, ◌<◌, ◌≤◌}
use Rattle.rules.specs.Check.{breaks}
use Rattle.rules.proofs.Tree.ruled.Given as goal

abbrev pub invariant-loop-i : goal.invariant-loop-i
invariant-loop-i g l = (j : ℕ) → 0 ≤ j → j < l.i → breaks l.self.s.now l.rule j ≡ false
