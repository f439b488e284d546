-- The first k ints stand.
use Rattle.std.proofs.Common.{◌≡◌, ℕ, ◌<◌, get_or, pos}
use Rattle.console.specs.Sheetrun.{int_at}
use Rattle.console.proofs.read_ints.Given as goal

abbrev pub invariant-loop-k : goal.invariant-loop-k
invariant-loop-k l = (j : ℕ) → j < l.k → get_or l.ints j (pos 0) ≡ int_at l.bytes j
