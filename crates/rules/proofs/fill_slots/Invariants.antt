-- So many FBYs came before each node passed.
use Rattle.std.proofs.Common.{◌≡◌, ℕ, ◌<◌, get_or}
use Rattle.finite.specs.Count.{count}
use Rattle.rules.specs.Scope.{fby_at}
use Rattle.rules.proofs.fill_slots.Given as goal

abbrev pub invariant-loop-i : goal.invariant-loop-i
invariant-loop-i l =
    (l.slot ≡ count (fby_at l.s) l.i) × ((j : ℕ) → j < l.i → get_or l.entry-items j 0 ≡ count (fby_at l.s) j)
