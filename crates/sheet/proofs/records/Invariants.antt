-- No record so far is bad.
use Rattle.std.proofs.Common.{◌≡◌, ℕ, ◌≤◌, ◌<◌, false}
use Rattle.sheet.specs.Form.{bad_record}
use Rattle.sheet.proofs.records.Given as goal

abbrev pub invariant-loop-i : goal.invariant-loop-i
invariant-loop-i l = (k : ℕ) → 0 ≤ k → k < l.i → bad_record l.s k ≡ false
