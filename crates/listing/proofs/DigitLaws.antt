-- Laws of numbers in decimal as words: each of their bytes is a digit, and an int's 32 bits are told by its text.
use Prim.Native.Nat.{ℕ, zero, suc, ◌+◌, ◌-◌, ◌/◌, ◌%◌, ◌<◌, ◌≤◌}
use mathlib.Core.Path.{◌≡◌, refl}
use mathlib.Core.Bool.{Bool, true, false, ◌&&◌}
use mathlib.Core.List.{List, [], ◌∷◌}
use native.Mathlib.Omega.{arith}
use lib.Dec.{ltb, leb}
use lib.ListN.{length, length-append}
use borrow.Author.Tests.{ltb-true, ltb-false, leb-true, lt-ltb, le-leb, ne_eqb}
use Rattle.finite.specs.Lists.{all, same}
use Rattle.finite.proofs.Tests.{by-test, and_l, and_r, and_both}
use Rattle.finite.proofs.MemberLaws.{all_append, all_more}
use Rattle.number.specs.Word.{signed}
use Rattle.text.specs.Text.{decimal_by, decimal, integer}
use Rattle.text.proofs.TextLaws.{digits_decimal}
use Rattle.sheet.specs.Bytes.{byte}
use Rattle.listing.specs.Telling.{parts, words, is_number, bits_of}
use Rattle.listing.proofs.SplitLaws.{apart, words_one}

abbrev pub digit : ℕ → Bool
digit b = leb 48 b && ltb b 58

digit_is : (b : ℕ) → digit b ≡ true → (48 ≤ b) × (b < 58)
digit_is b e = (leb-true 48 b (and_l (leb 48 b) _ e), ltb-true b 58 (and_r (leb 48 b) _ e))

is_digit : (n : ℕ) → n < 10 → digit (48 + n) ≡ true
is_digit n l = and_both (leb 48 (48 + n)) _ (le-leb 48 (48 + n) (omega arith)) (lt-ltb (48 + n) 58 (omega arith))

-- as many turns as the number
all_digits : (turns n : ℕ) → n ≤ turns → (all digit (decimal_by turns n) ≡ true) × (0 < length (decimal_by turns n))
unfolding all decimal_by
all_digits zero n l = (and_both (digit (48 + n)) true (is_digit n (omega arith)) refl, omega arith)
all_digits (suc turns) n l =
    by-test (ltb n 10)
    (λ e. rw e (and_both (digit (48 + n)) true (is_digit n (ltb-true n 10 e)) refl, omega arith))
    (λ e. let rest = all_digits turns (n / 10) (omega (arith, ltb-false n 10 e)) in
    rw e (
      all_append digit (decimal_by turns (n / 10)) _ rest.0 (and_both (digit (48 + n % 10)) true (is_digit (n % 10) (omega arith)) refl),
      rw (length-append (decimal_by turns (n / 10)) ((48 + n % 10) ∷ [])) (omega arith),
    ))

decimal-digits : (n : ℕ) → all digit (decimal n) ≡ true
unfolding decimal
decimal-digits n = (all_digits n n (omega arith)).0

decimal-some : (n : ℕ) → 0 < length (decimal n)
unfolding decimal
decimal-some n = (all_digits n n (omega arith)).1

first_digit : (w : List ℕ) → all digit w ≡ true → 0 < length w → (48 ≤ byte w 0) × (byte w 0 < 58)
unfolding all
first_digit [] e l = absurd (omega arith)
first_digit (b ∷ w) e l = digit_is b (and_l (digit b) (all digit w) e)

-- a number in decimal begins with a digit
pub decimal_front : (n : ℕ) → (48 ≤ byte (decimal n) 0) × (byte (decimal n) 0 < 58)
decimal_front n = first_digit (decimal n) (decimal-digits n) (decimal-some n)

-- and none of its bytes parts
digit_apart : (b : ℕ) → digit b ≡ true → apart b ≡ true
unfolding parts
digit_apart b e =
    let h = digit_is b e in
    rw (ne_eqb b 32 (λ q. omega (arith, h.0)), ne_eqb b 40 (λ q. omega (arith, h.0)), ne_eqb b 41 (λ q. omega (arith, h.0)))

decimal-apart : (n : ℕ) → all apart (decimal n) ≡ true
decimal-apart n = all_more digit apart digit_apart (decimal n) (decimal-digits n)

-- a byte that is part of a word, before a number
pub words-numbered : (b n : ℕ) → apart b ≡ true → words (b ∷ decimal n) ≡ (b ∷ decimal n) ∷ []
unfolding all
words-numbered b n e = words_one (b ∷ decimal n) (and_both (apart b) (all apart (decimal n)) e (decimal-apart n)) (omega arith)

-- ---- an int

module _ (a : ℕ) where
  -- by its sign
  integer_cases : (P : List ℕ → Type 0) → (a < 2147483648 → P (decimal a)) → (2147483648 ≤ a → P (45 ∷ decimal (suc (4294967295 - a))))
      → P (integer (signed a))
  unfolding integer
  integer_cases P f g =
      by-test (ltb a 2147483648) (λ e. rw e (f (ltb-true a 2147483648 e))) (λ e. rw e (g (ltb-false a 2147483648 e)))

  pub words-integer : words (integer (signed a)) ≡ integer (signed a) ∷ []
  unfolding parts
  words-integer =
      integer_cases (λ w. words w ≡ w ∷ [])
      (λ l. words_one (decimal a) (decimal-apart a) (decimal-some a))
      (λ l. words-numbered 45 (suc (4294967295 - a)) refl)

  pub integer_number : is_number (integer (signed a)) ≡ true
  unfolding is_number
  integer_number =
      integer_cases (λ w. ltb (byte w 0) 58 ≡ true)
      (λ l. lt-ltb (byte (decimal a) 0) 58 (decimal_front a).1)
      (λ l. refl)

  -- its 32 bits
  pub integer_bits : a < 4294967296 → bits_of (integer (signed a)) ≡ a
  unfolding bits_of
  integer_bits h =
      integer_cases (λ w. bits_of w ≡ a)
      (λ l. rw (ne_eqb (byte (decimal a) 0) 45 (λ q. omega (arith, (decimal_front a).0)), bits_of) (digits_decimal a h))
      (λ l. let e : suc (4294967295 - a) < 4294967296 = omega arith in
      rw (digits_decimal (suc (4294967295 - a)) e) (omega arith))

-- ---- words that differ from the first byte on

pub same_front : (w v : List ℕ) (b : ℕ) → (byte w 0 ≡ b → ⊥) → same w (b ∷ v) ≡ false
same_front [] v b n = refl
same_front (c ∷ w) v b n = rw (ne_eqb c b n)
