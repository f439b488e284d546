-- No type byte so far is over 1.
use Rattle.std.proofs.Common.{◌≡◌, ℕ, ◌≤◌, ◌<◌, false}
use Rattle.sheet.specs.Form.{untyped}
use Rattle.sheet.proofs.type_bytes.Given as goal

abbrev pub invariant-loop-at : goal.invariant-loop-at
invariant-loop-at l = (k : ℕ) → 4 ≤ k → k < l.at → untyped l.s k ≡ false
