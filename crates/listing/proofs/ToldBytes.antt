-- Whatever a text tells, if it is no longer than a sheet may be, it consists of bytes.
use Prim.Native.Nat.{ℕ, zero, suc, ◌+◌, ◌-◌, ◌*◌, ◌/◌, ◌%◌, ◌<◌, ◌≤◌}
use mathlib.Core.Path.{◌≡◌, refl}
use mathlib.Core.Bool.{Bool, true, false, cond}
use mathlib.Core.List.{List, [], ◌∷◌}
use native.Mathlib.Omega.{arith}
use lib.Dec.{ltb, eqb}
use lib.ListN.{length, drop, length-append}
use borrow.Author.Tests.{ltb-true, lt-ltb}
use Rattle.finite.specs.Lists.{all, same}
use Rattle.finite.proofs.Tests.{by-test, and_both}
use Rattle.finite.proofs.LowestLaws.{lowest_most}
use Rattle.finite.proofs.MemberLaws.{all_append}
use Rattle.text.specs.Text.{digits_after, digits}
use Rattle.sheet.specs.Ceilings.{max_columns, max_sheet}
use Rattle.sheet.specs.Bytes.{byte}
use Rattle.sheet.specs.declared.ValueType.TheVariants.{Bool as bool}
use Rattle.words.specs.Words.{type_word}
use Rattle.listing.specs.Listing.{bool_word}
use Rattle.listing.specs.Telling.{words, record_of, is_number, bits_of, is_constant, constant_record, numbered, kind_no, code_no, named, name_no, is_type, type_no, name_record, record_told, takes_next, next, records_told, types_told, headed, told_by, sheet_told}
use Rattle.listing.specs.Answers.{is_bytes}

-- ---- bytes

more : (b : ℕ) (s : List ℕ) → b < 256 → is_bytes s ≡ true → is_bytes (b ∷ s) ≡ true
unfolding all
more b s l e = and_both (ltb b 256) (is_bytes s) (lt-ltb b 256 l) e

none : is_bytes [] ≡ true
unfolding all
none = refl

either : {A : Type 0} (P : A → Type 0) (b : Bool) (x y : A) → P x → P y → P (cond b x y)
either P true x y p q = p
either P false x y p q = q

-- ---- a record

digits_below : (n : ℕ) (w : List ℕ) → n < 4294967296 → digits_after n w < 4294967296
unfolding digits_after
digits_below n [] l = l
digits_below n (b ∷ w) l = digits_below ((n * 10 + b % 16) % 4294967296) w (omega arith)

digits_small : (w : List ℕ) → digits w < 4294967296
unfolding digits
digits_small w = digits_below 0 w (omega arith)

record_of_bytes : (kind code a : ℕ) → kind < 256 → code < 256 → a < 4294967296 → is_bytes (record_of kind code a) ≡ true
unfolding record_of
record_of_bytes kind code a k c l =
    more kind _ k (more code _ c
    (more (a / 16777216) _ (omega arith) (more (a / 65536 % 256) _ (omega arith)
    (more (a / 256 % 256) _ (omega arith) (more (a % 256) [] (omega arith) none)))))

constant_bytes : (kind : ℕ) (w : List ℕ) → kind < 256 → is_bytes (constant_record kind w) ≡ true
unfolding constant_record bits_of
constant_bytes kind w k =
    either (λ r. is_bytes r ≡ true) (is_number w) (record_of kind 1 (bits_of w)) (record_of kind 0 (cond (same w (bool_word 1)) 1 0))
    (record_of_bytes kind 1 (bits_of w) k (omega arith)
    (either (λ n. n < 4294967296) (eqb (byte w 0) 45) ((4294967296 - digits (drop 1 w)) % 4294967296) (digits w) (omega arith) (digits_small w)))
    (record_of_bytes kind 0 (cond (same w (bool_word 1)) 1 0) k (omega arith)
    (either (λ n. n < 4294967296) (same w (bool_word 1)) 1 0 (omega arith) (omega arith)))

type_small : (w : List ℕ) → type_no w < 256
unfolding type_no
type_small w = either (λ n. n < 256) (same w (type_word bool)) 0 1 (omega arith) (omega arith)

name_bytes : (n : ℕ) (v : List ℕ) → n ≤ 19 → is_bytes (name_record n v) ≡ true
unfolding name_record
name_bytes n v l =
    let plain = record_of (kind_no n) (code_no n) 0 in
    either (λ r. is_bytes r ≡ true) (eqb n 14) (constant_record 4 v) (cond (eqb n 15) (record_of 5 (type_no v) 0) plain)
    (constant_bytes 4 v (omega arith))
    (either (λ r. is_bytes r ≡ true) (eqb n 15) (record_of 5 (type_no v) 0) plain
    (record_of_bytes 5 (type_no v) 0 (omega arith) (type_small v) (omega arith))
    (record_of_bytes (kind_no n) (code_no n) 0
    (either (λ n. n < 256) (ltb n 14) 3 (n - 10) (omega arith) (omega arith))
    (by-test (ltb n 14) (λ e. rw e (omega (arith, ltb-true n 14 e))) (λ e. rw e (omega arith)))
    (omega arith)))

record_bytes : (w v : List ℕ) → is_bytes (record_told w v) ≡ true
unfolding record_told name_no
record_bytes w v =
    let P : List ℕ → Type 0 = λ r. is_bytes r ≡ true in
    let number : ℕ = digits (drop 1 w) in
    either P (is_constant w) (constant_record 0 w) _ (constant_bytes 0 w (omega arith))
    (either P (numbered 118 w) (record_of 2 0 number) _ (record_of_bytes 2 0 number (omega arith) (omega arith) (digits_small (drop 1 w)))
    (either P (numbered 105 w) (record_of 1 0 number) _ (record_of_bytes 1 0 number (omega arith) (omega arith) (digits_small (drop 1 w)))
    (name_bytes (name_no w) v (omega (arith, lowest_most (λ n. named n w) 0 19)))))

-- ---- a sheet

records_bytes : (pass : Bool) (ws : List (List ℕ)) → is_bytes (records_told pass ws) ≡ true
unfolding records_told
records_bytes true [] = none
records_bytes false [] = none
records_bytes true (w ∷ ws) = records_bytes false ws
records_bytes false (w ∷ ws) =
    all_append (λ b. ltb b 256) (record_told w (next ws)) (records_told (takes_next w) ws) (record_bytes w (next ws)) (records_bytes (takes_next w) ws)

types_bytes : (k : ℕ) (ws : List (List ℕ)) → (is_bytes (types_told k ws) ≡ true) × (length (types_told k ws) ≤ k)
unfolding types_told
types_bytes zero ws = (none, omega arith)
types_bytes (suc k) [] = (none, omega arith)
types_bytes (suc k) (w ∷ ws) =
    let rest = types_bytes k ws in
    either (λ r. (is_bytes r ≡ true) × (length r ≤ suc k)) (is_type w) (type_no w ∷ types_told k ws) []
    (more (type_no w) (types_told k ws) (type_small w) rest.0, omega (arith, rest.1)) (none, omega arith)

pub told_bytes : (t : List ℕ) → length (sheet_told t) ≤ max_sheet → is_bytes (sheet_told t) ≡ true
unfolding sheet_told told_by headed
told_bytes t l =
    let ws : List (List ℕ) = drop 1 (words t) in
    let types : List ℕ = types_told max_columns ws in
    let records : List ℕ = records_told false (drop (length types) ws) in
    let few = types_bytes max_columns ws in
    let n : ℕ = 4 + length types + length records in
    let short : n ≤ max_sheet = omega (arith, length-append types records) in
    more (n / 256) _ (omega arith) (more (n % 256) _ (omega arith) (more 1 _ (omega arith) (more (length types) _ (omega (arith, few.1))
    (all_append (λ b. ltb b 256) types records few.0 (records_bytes false (drop (length types) ws))))))
