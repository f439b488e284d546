-- What the methods of the integer types leave in 32 bits is what the definitions say. Assumes nothing.
use Rattle.std.proofs.Common.{◌≡◌, ◌≤◌, ℤ, pos, negsuc, ◌+ℤ◌, ◌-ℤ◌, neg_ℤ, nat_abs, refl, ap, ◌∙◌, arith, w32, to_z, of_z}
use Rattle.std.specs.Int.{int_wrap, int_rem_euclid, int_wrapping_add, int_wrapping_sub, int_wrapping_neg, int_wrapping_div}
use Rattle.std.proofs.lemmas.Int.{ints, wrapping_add_is, wrapping_sub_is, wrapping_neg_is}
use lib.Signed.{mag, quot_z}
use Rattle.number.specs.Word.{signed, wrap, InRange, sum, difference, negated, quotient, divided}

pub int_wrap_is : (z : ℤ) → int_wrap w32 z ≡ wrap z
unfolding int_wrap wrap
int_wrap_is z = grind (arith, ints)

-- ---- ADD, SUB and NEG

pub wrapping_sum : (a b : ℤ) → InRange a → InRange b → int_wrapping_add w32 a b ≡ sum a b
unfolding sum
wrapping_sum a b f g = wrapping_add_is w32 a b f g ∙ int_wrap_is (a +ℤ b)

pub wrapping_difference : (a b : ℤ) → InRange a → InRange b → int_wrapping_sub w32 a b ≡ difference a b
unfolding difference
wrapping_difference a b f g = wrapping_sub_is w32 a b f g ∙ int_wrap_is (a -ℤ b)

pub wrapping_negated : (a : ℤ) → InRange a → int_wrapping_neg w32 a ≡ negated a
unfolding negated
wrapping_negated a f = wrapping_neg_is w32 a f ∙ int_wrap_is (neg_ℤ a)

-- ---- MUL, by the remainder of a product of 64 bits

pub remainder_wrap : (p : ℤ) → signed (nat_abs (int_rem_euclid p (pos 4294967296))) ≡ wrap p
unfolding wrap
remainder_wrap (pos n) = refl
remainder_wrap (negsuc n) = refl

-- ---- DIV

quotient_is : (a b : ℤ) → (b ≡ pos 0 → ⊥) → quot_z a b ≡ quotient a b
quotient_is a b h = grind (arith, ints)

mag_quotient : (a b : ℤ) → mag (quot_z a b) ≤ nat_abs a
mag_quotient a b = grind (arith, ints)

-- a quotient is one of -2147483648 to 2147483648
wrap_near : (z : ℤ) → mag z ≤ 2147483648 → to_z w32 (of_z w32 z) ≡ wrap z
unfolding wrap
wrap_near z h = grind (arith, ints)

pub wrapping_divided : (a b : ℤ) → InRange a → (b ≡ pos 0 → ⊥) → int_wrapping_div w32 a b ≡ divided a b
unfolding divided
wrapping_divided a b f h = wrap_near (quot_z a b) (omega (arith, ints, mag_quotient a b)) ∙ ap wrap (quotient_is a b h)
