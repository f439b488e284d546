-- From the last node down: where the form is right, the table has the ends of the nodes from `at` on.
use Rattle.std.proofs.Common.{◌≡◌, ℕ, ◌≤◌, ◌<◌, get_or}
use Rattle.sheet.specs.Bytes.{nodes, end_of}
use Rattle.sheet.specs.Form.{Formed}
use Rattle.sheet.proofs.fill_ends.Given as goal

abbrev pub invariant-loop-at : goal.invariant-loop-at
invariant-loop-at l = Formed l.s → (j : ℕ) → l.at ≤ j → j < nodes l.s → get_or l.ends j 0 ≡ end_of l.s j
