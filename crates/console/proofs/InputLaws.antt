-- Laws of an input: how it is cut, the rules that it is tried by, the ints of its rows, and that what is printed of it is one text.
use Prim.Native.Nat.{ℕ, zero, suc, ◌+◌, ◌-◌, ◌*◌, ◌/◌, ◌%◌, ◌≤◌, ◌<◌, min}
use mathlib.Core.Path.{◌≡◌, refl, sym, ap, ◌∙◌}
use mathlib.Core.Bool.{Bool, true, false}
use mathlib.Core.List.{List, ◌++◌}
use native.Mathlib.Nat.{mul-le-mul_right, mul_comm, mul_assoc, div-add-mod'}
use native.Mathlib.Omega.{arith}
use lib.Dec.{ltb}
use lib.IntN.{ℤ}
use lib.ListN.{length, take, drop, length-append, length-drop, drop_of_length-le}
use lib.Seq.{take_at, take_all}
use borrow.Author.Tests.{ltb-true, ltb-false, lt-ltb, le-ltb, not-false, eqb-true}
use Rattle.finite.proofs.Tests.{by-test}
use Rattle.finite.proofs.GatherLaws.{length_gather_all}
use Rattle.sheet.specs.Ruling.{Ruling, passed, refused, rule, ◌then◌, accepted, turned}
use Rattle.sheet.specs.Bytes.{stated, columns}
use Rattle.sheet.specs.declared.Sheet.{Sheet}
use Rattle.sheet.proofs.RulingLaws.{then_passed}
use Rattle.rules.specs.Check.{check, Sound}
use Rattle.rules.proofs.CheckLaws.{rules_exactly, check_exactly, check-turned}
use Rattle.engine.specs.Rows.{row_rule, row_at}
use Rattle.engine.specs.Operations.{max_rows}
use Rattle.engine.proofs.Demands.{meaning}
use Rattle.console.specs.declared.Accepted.{Accepted}
use Rattle.console.specs.Sheetrun.{max_input, sheet_in, rest, int_at, ints, broken_rows, rows_in, ticks_by, ticks, rest_rules, input_rules, PrintedBy, Printed}
use Rattle.console.specs.Printing.{max_ints}
use Rattle.console.proofs.AcceptedLaws.{columns_are}

-- ---- the ints of the rows

-- the ints, read into the first part of an array
length-ints : (bytes : List ℕ) → length (ints bytes) ≡ length bytes / 4
unfolding ints
length-ints bytes = length_gather_all (int_at bytes) (length bytes / 4)

module _ (bytes : List ℕ) {new : List ℤ} (old : List ℤ) (e : new ≡ ints bytes) where
  pub ints_kept : length bytes / 4 ≤ length (new ++ drop (length bytes / 4) old)
  ints_kept = rw (length-append, e, length-ints) (omega arith)

  pub ints_read : take (length bytes / 4) (new ++ drop (length bytes / 4) old) ≡ ints bytes
  ints_read = rw e (take_at (ints bytes) (drop (length bytes / 4) old) (length bytes / 4) (length-ints bytes))

  pub ints-length : length (take (length bytes / 4) (new ++ drop (length bytes / 4) old)) ≡ length bytes / 4
  ints-length = ap length ints_read ∙ length-ints bytes

-- ---- the bytes after an accepted sheet

-- whole rows have an int for each column of each tick
whole_rows : (c bytes : ℕ) → broken_rows c bytes ≡ false → bytes / 4 ≡ ticks_by c bytes * c
whole_rows zero bytes h = let e = eqb-true bytes 0 (not-false _ h) in rw e
whole_rows (suc c) bytes h =
    let e = eqb-true (bytes % (4 * suc c)) 0 (not-false _ h) in
    let q = bytes / (4 * suc c) in
    let all : q * (4 * suc c) + bytes % (4 * suc c) ≡ bytes = div-add-mod' bytes (4 * suc c) in
    let four : q * (4 * suc c) ≡ 4 * (q * suc c) = sym (mul_assoc q 4 (suc c)) ∙ rw (mul_comm q 4) (mul_assoc 4 q (suc c)) in
    omega arith

module _ (a : Accepted) (after : List ℕ) {broken : Bool} (h : broken ≡ broken_rows a.sheet.columns (length after)) where
  pub rest_broken : broken ≡ true → refused 12 1 ≡ rest_rules a.s.now after
  unfolding rest_rules rule ◌then◌
  rest_broken t = rw (← columns_are a, ← h, t)

  module _ (f : broken ≡ false) {T : ℕ} (e : T ≡ ticks_by a.sheet.columns (length after)) where
    pub rest_many : max_rows < T → refused 12 5 ≡ rest_rules a.s.now after
    unfolding rest_rules rule ◌then◌
    rest_many l = rw (← columns_are a, ← h, f, ← e, lt-ltb max_rows T l)

    pub rest_rows : T ≤ max_rows → row_rule a.s.now (ints after) ≡ rest_rules a.s.now after
    unfolding rest_rules rule ◌then◌
    rest_rows l = rw (← columns_are a, ← h, f, ← e, le-ltb max_rows T l)

    pub rest_whole : length after / 4 ≡ T * columns a.s.now
    rest_whole = rw (e, ← columns_are a) (whole_rows a.sheet.columns (length after) (sym h ∙ f))

    pub rest_fits : T ≤ max_rows → length after / 4 ≤ max_ints
    rest_fits l = omega (arith, rest_whole, a.few_columns, columns_are a, mul-le-mul_right (columns a.s.now) l)

-- ---- the input

module _ (input : List ℕ) where
  module _ {cut : ℕ} (e : cut ≡ min (stated input) (length input)) where
    pub cut_sheet : take cut input ≡ sheet_in input
    unfolding sheet_in
    cut_sheet =
        by-test (ltb (stated input) (length input))
        (λ t. let l = ltb-true (stated input) (length input) t in let q : cut ≡ stated input = omega arith in rw q)
        (λ f. let l = ltb-false (stated input) (length input) f in take_all cut input (omega arith) ∙ sym (take_all (stated input) input l))

    pub cut_rest : take (length input - cut) (drop cut input) ≡ rest input
    unfolding rest
    cut_rest =
        take_all (length input - cut) (drop cut input) (rw length-drop (omega arith))
        ∙ by-test (ltb (stated input) (length input))
        (λ t. let l = ltb-true (stated input) (length input) t in let q : cut ≡ stated input = omega arith in rw q)
        (λ f.
        let l = ltb-false (stated input) (length input) f in
        drop_of_length-le input {i = cut} (omega arith) ∙ sym (drop_of_length-le input {i = stated input} l))

  pub input_over : max_input < length input → refused 1 0 ≡ input_rules input
  unfolding input_rules rule ◌then◌
  input_over l = rw (lt-ltb max_input (length input) l)

  module _ (l : length input ≤ max_input) {s : List ℕ} (e : s ≡ sheet_in input) where
    pub input_refused : (number place : ℕ) → turned number place ≡ check s → refused number place ≡ input_rules input
    unfolding input_rules rule ◌then◌
    input_refused number place q = rw (le-ltb max_input (length input) l, ← e, check-turned s number place q)

    pub input_rest : {after : List ℕ} {z : Sheet} → after ≡ rest input → accepted z ≡ check s → rest_rules s after ≡ input_rules input
    unfolding input_rules rule ◌then◌
    input_rest {z = z} q k = rw (le-ltb max_input (length input) l, ← e, ← q, (rules_exactly s).1 ((check_exactly s z).0 (sym k)).0)

-- ---- one text

one_by : (q : Ruling) (s : List ℕ) (rows : List ℤ) (T : ℕ) {a b : List ℕ} → (q ≡ passed → Sound s) → PrintedBy q s rows T a → PrintedBy q s rows T b → a ≡ b
one_by passed s rows T z p q = let (X, m, one) = meaning (z refl) (row_at s rows) in p X m ∙ sym (q X m)
one_by (refused number place) s rows T z p q = p ∙ sym q

-- what is printed of an input is one text
pub printed_one : (input : List ℕ) {a b : List ℕ} → Printed input a → Printed input b → a ≡ b
unfolding input_rules
printed_one input =
    one_by (input_rules input) (sheet_in input) (rows_in input) (ticks input)
    (λ p. (rules_exactly (sheet_in input)).0 ((then_passed _ _).0 ((then_passed _ _).0 p).1).0)
