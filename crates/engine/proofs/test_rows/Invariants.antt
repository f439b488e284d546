-- No entry so far breaks the rule.
use Rattle.std.proofs.Common.{◌≡◌, ℕ, ◌<◌, false}
use Rattle.engine.specs.Rows.{bad_entry}
use Rattle.engine.proofs.test_rows.Given as goal

abbrev pub invariant-loop-at : goal.invariant-loop-at
invariant-loop-at l = (k : ℕ) → k < l.at → bad_entry l.s l.rows k ≡ false
