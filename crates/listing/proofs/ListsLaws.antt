-- Laws of `lists`: what it says plainly, and that no text lists a sheet over the longest.
use Prim.Native.Nat.{ℕ, ◌<◌, ◌≤◌}
use mathlib.Core.Path.{◌≡◌}
use mathlib.Core.Logic.{◌↔◌}
use mathlib.Core.Bool.{true, false}
use mathlib.Core.List.{List}
use native.Mathlib.Omega.{arith}
use lib.ListN.{length}
use Rattle.finite.proofs.Tests.{fails, and_l, and_r, and_both}
use Rattle.finite.proofs.SameLaws.{same_iff}
use Rattle.sheet.specs.Ruling.{passes}
use Rattle.sheet.specs.Form.{form, Formed}
use Rattle.sheet.proofs.FormLaws.{form_iff}
use Rattle.sheet.proofs.RulingLaws.{passes_is}
use Rattle.listing.specs.Listing.{listing}
use Rattle.sheet.specs.Ceilings.{max_sheet}
use Rattle.listing.specs.Answers.{lists}

pub lists_iff : (s t : List ℕ) → (lists s t ≡ true) ↔ (Formed s × (listing s ≡ t))
unfolding lists
lists_iff s t = (
  λ e. (
    (form_iff s).0 ((passes_is (form s)).0 (and_l (passes (form s)) _ e)),
    (same_iff (listing s) t).0 (and_r (passes (form s)) _ e),
  ),
  λ h. and_both (passes (form s)) _ ((passes_is (form s)).1 ((form_iff s).1 h.0)) ((same_iff (listing s) t).1 h.1),
)

-- a sheet that passes rules 1 to 6 is no longer than the longest
pub formed-length : (s : List ℕ) → Formed s → length s ≤ max_sheet
formed-length s f = omega (arith, f.whole, f.narrow, f.few)

pub too_long : (s t : List ℕ) → max_sheet < length s → lists s t ≡ false
too_long s t l = fails (lists s t) (λ e. omega (arith, formed-length s ((lists_iff s t).0 e).0))
