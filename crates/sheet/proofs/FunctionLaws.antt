-- Laws that several functions' proofs cite.
use Prim.Native.Nat.{ℕ, zero, suc, ◌+◌, ◌-◌, ◌≤◌}
use mathlib.Core.Path.{◌≡◌}
use mathlib.Core.Bool.{not}
use mathlib.Core.List.{List}
use native.Mathlib.Omega.{arith}
use lib.Dec.{T}
use denote.Enum.Declared.{tag_of}
use mir.Val.{has_key}
use types.Run.{OneOf, miss}
use Rattle.sheet.specs.contracts.Kind.{the_type}
use Rattle.sheet.specs.declared.Kind.{Kind}

-- x is none of 0, .., n - 1: what the last arm of a match on these knows
abbrev pub None : ℕ → ℕ → Type 0
None zero x = Unit {0}
None (suc n) x = None n x × (x ≡ n → ⊥)

-- n and k, which computes where n is written out
abbrev pub onward : ℕ → ℕ → ℕ
onward zero k = k
onward (suc n) k = suc (onward n k)

onward_is : (n k : ℕ) → onward n k ≡ n + k
onward_is zero k = omega arith
onward_is (suc n) k = omega (arith, onward_is n k)

none_from : (n x : ℕ) → None n x → n ≤ x
none_from zero x h = omega arith
none_from (suc n) x h = omega (arith, none_from n x h.0, h.1)

-- such an x is n or more, so that a table of n entries gives its default
pub none_more : (n x : ℕ) → None n x → x ≡ onward n (x - n)
none_more n x h = omega (arith, none_from n x h, onward_is n (x - n))

-- a kind of these variants, by their numbers: what the last arm of a match on a kind knows
abbrev pub Among : List ℕ → Kind → Type 0
Among tags k = OneOf tags (tag_of the_type k)

pub not-among {ℓ} : {X : Type ℓ} (tags : List ℕ) (k : Kind) → T (not (has_key tags (tag_of the_type k))) → Among tags k → X
not-among tags k other h = absurd (miss tags (tag_of the_type k) other h)
