-- The digits left are read after the number so far.
use Rattle.std.proofs.Common.{◌≡◌, drop}
use Rattle.text.specs.Text.{digits, digits_after}
use Rattle.text.proofs.digits.Given as goal

abbrev pub invariant-loop-b : goal.invariant-loop-b
invariant-loop-b l = digits l.word ≡ digits_after l.n (drop l.b-index l.word)
