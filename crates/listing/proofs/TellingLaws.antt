-- What the words of a listing tell: the words of each node its record, those of the columns the type bytes.
use Prim.Native.Nat.{ℕ, zero, suc, ◌+◌, ◌<◌, ◌≤◌}
use mathlib.Core.Path.{◌≡◌, refl, sym, ap, ◌∙◌}
use mathlib.Core.Bool.{true, false}
use mathlib.Core.List.{List, [], ◌∷◌, ◌++◌, append-nil, append_assoc}
use native.Mathlib.Nat.{zero-add}
use native.Mathlib.Omega.{arith}
use lib.Dec.{eqb}
use lib.ListN.{replicate}
use borrow.Author.Tests.{ltb-true, leb-true, lt-ltb, eqb-true}
use Rattle.finite.specs.Lists.{joined, same}
use Rattle.finite.specs.Lowest.{lowest}
use Rattle.finite.proofs.Tests.{by-test, not-both}
use Rattle.finite.proofs.EachLaws.{each-is, ◌also◌}
use Rattle.text.specs.Text.{decimal}
use Rattle.text.proofs.TextLaws.{digits_decimal}
use Rattle.sheet.specs.Bytes.{byte, kind_of}
use Rattle.sheet.specs.Form.{known, holds}
use Rattle.sheet.specs.declared.ValueType.{ValueType}
use Rattle.sheet.specs.declared.ValueType.TheVariants.{Bool as bool, Int as int}
use Rattle.sheet.specs.declared.Kind.{Kind}
use Rattle.sheet.specs.declared.Kind.TheVariants.{Const, Input, Var, Fby, Unknown}
use Rattle.words.specs.Words.{type_word}
use Rattle.listing.specs.Listing.{name, constant, carried, opening, opens}
use Rattle.listing.specs.Telling.{parts, split, filled, words, record_of, is_number, is_constant, constant_record, numbered, named, name_no, is_type, type_no, name_record, record_told, takes_next, next, records_told, types_told}
use Rattle.listing.proofs.SplitLaws.{words_part, words-after, words_closed}
use Rattle.listing.proofs.DigitLaws.{decimal_front, words-numbered, words-integer, integer_number, integer_bits, same_front}

-- for words that are known
unfoldable computes : ℕ
unfolding name carried words split filled parts records_told record_told takes_next is_constant is_number numbered named name_no name_record is_type type_no constant_record record_of kind_of lowest known
computes = 0

-- ---- the words of texts one after the other

-- each after a space
pub words-joined : (x : List ℕ) (f : ℕ → List ℕ) (n : ℕ) → words (x ++ joined (λ i. 32 ∷ f i) n) ≡ words x ++ joined (λ i. words (f i)) n
unfolding joined parts
words-joined x f zero = rw (append-nil x, append-nil (words x))
words-joined x f (suc n) =
    rw (← append_assoc x (joined (λ i. 32 ∷ f i) n) (32 ∷ f n), words_part (x ++ joined (λ i. 32 ∷ f i) n) 32 (f n) refl, words-joined x f n)
    (append_assoc (words x) (joined (λ i. words (f i)) n) (words (f n)))

-- a node's: brackets tell nothing
pub words_node : (k : Kind) (a n : ℕ) → words (opening k ++ (name k ++ (carried k a ++ replicate n 41))) ≡ words (name k ++ carried k a)
unfolding opening parts
words_node k a n =
    let rest : words (name k ++ (carried k a ++ replicate n 41)) ≡ words (name k ++ carried k a) =
    rw (← append_assoc (name k) (carried k a) (replicate n 41)) (words_closed (name k ++ carried k a) 41 n refl) in
    by-test (opens k) (λ e. rw e (words-after 40 _ refl ∙ rest)) (λ e. rw e rest)

-- ---- constants

words-constant : (t : ValueType) (a : ℕ) → words (constant t a) ≡ constant t a ∷ []
unfolding computes
words-constant bool zero = refl
words-constant bool (suc a) = refl
words-constant int a = words-integer a

-- "type bytes (0 bool, 1 int)"
unfoldable pub type_byte : ValueType → ℕ
type_byte bool = 0
type_byte int = 1

is-constant : (t : ValueType) (a : ℕ) → is_constant (constant t a) ≡ true
unfolding computes
is-constant bool zero = refl
is-constant bool (suc a) = refl
is-constant int a = rw (integer_number a)

constant_recorded : (kind : ℕ) (t : ValueType) (a : ℕ) → holds t a ≡ true → a < 4294967296 → constant_record kind (constant t a) ≡ record_of kind (type_byte t) a
unfolding constant_record type_byte computes
constant_recorded kind bool zero e l = refl
constant_recorded kind bool (suc zero) e l = refl
constant_recorded kind bool (suc (suc a)) e l = absurd (omega (arith, leb-true (suc (suc a)) 1 e))
constant_recorded kind int a e l = rw (integer_number a, integer_bits a l)

-- no number is a name that the next word belongs to, or a type
constant_alone : (t : ValueType) (a : ℕ) → (takes_next (constant t a) ≡ false) × (is_type (constant t a) ≡ false)
unfolding computes
constant_alone bool zero = (refl, refl)
constant_alone bool (suc a) = (refl, refl)
constant_alone int a =
    let w : List ℕ = constant int a in
    let low : byte w 0 < 58 = ltb-true (byte w 0) 58 (integer_number a) in
    let other : (v : List ℕ) (b : ℕ) → 58 ≤ b → same w (b ∷ v) ≡ false = λ v b l. same_front w v b (λ e. omega arith) in (
      rw (other (98 ∷ 121 ∷ []) 102 (omega arith)) (other (101 ∷ 99 ∷ []) 114 (omega arith)),
      rw (other (111 ∷ 111 ∷ 108 ∷ []) 98 (omega arith)) (other (110 ∷ 116 ∷ []) 105 (omega arith)),
    )

-- ---- nodes

-- a node's words tell the record r, whatever comes after them, and do not begin with a type
pub record NodeTells (k : Kind) (a : ℕ) (r : List ℕ) : Type 0 where
  pub told : (ws : List (List ℕ)) → records_told false (words (name k ++ carried k a) ++ ws) ≡ r ++ records_told false ws
  pub untyped : is_type (next (words (name k ++ carried k a))) ≡ false

module _ (k : Kind) (a : ℕ) (w r : List ℕ) (plain : is_type w ≡ false) where
  one_word : words (name k ++ carried k a) ≡ w ∷ [] → ((v : List ℕ) → record_told w v ≡ r) → takes_next w ≡ false → NodeTells k a r
  unfolding records_told
  one_word e h n = record { told = λ ws. rw (e, h (next ws), n); untyped = rw e plain }

  two_words : (v : List ℕ) → words (name k ++ carried k a) ≡ w ∷ v ∷ [] → record_told w v ≡ r → takes_next w ≡ true → NodeTells k a r
  unfolding records_told
  two_words v e h n = record { told = λ ws. rw (e, h, n); untyped = rw e plain }

const_tells : (t : ValueType) (a : ℕ) → holds t a ≡ true → a < 4294967296 → NodeTells (Const t) a (record_of 0 (type_byte t) a)
unfolding name carried record_told
const_tells t a e l =
    let alone = constant_alone t a in
    one_word (Const t) a (constant t a) (record_of 0 (type_byte t) a) alone.1 (words-constant t a)
    (λ v. rw (is-constant t a) (constant_recorded 0 t a e l)) alone.0

input_tells : (a : ℕ) → a < 4294967296 → NodeTells Input a (record_of 1 0 a)
unfolding computes
input_tells a l =
    let front : byte (decimal a) 0 < 58 = (decimal_front a).1 in
    one_word Input a (105 ∷ decimal a) (record_of 1 0 a) (same_front (decimal a) (116 ∷ []) 110 (λ e. omega arith)) (words-numbered 105 a refl)
    (λ v. rw (lt-ltb (byte (decimal a) 0) 58 front, digits_decimal a l)) refl

var_tells : (a : ℕ) → a < 4294967296 → NodeTells Var a (record_of 2 0 a)
unfolding computes
var_tells a l =
    let front : byte (decimal a) 0 < 58 = (decimal_front a).1 in
    one_word Var a (118 ∷ decimal a) (record_of 2 0 a) refl (words-numbered 118 a refl)
    (λ v. rw (lt-ltb (byte (decimal a) 0) 58 front, digits_decimal a l)) refl

fby_tells : (t : ValueType) (a : ℕ) → holds t a ≡ true → a < 4294967296 → NodeTells (Fby t) a (record_of 4 (type_byte t) a)
unfolding computes
fby_tells t a e l =
    let w : List ℕ = name (Fby t) in
    two_words (Fby t) a w (record_of 4 (type_byte t) a) refl (constant t a)
    (words_part w 32 (constant t a) refl ∙ rw (words-constant t a)) (constant_recorded 4 t a e l) refl

-- kind by kind and code by code, of a sheet with c columns
module _ (c : ℕ) where
  Told : (kind code : ℕ) → Type 0
  Told kind code = (a : ℕ) → known c (kind_of kind code) a ≡ true → a < 4294967296 → NodeTells (kind_of kind code) a (record_of kind code a)

  -- what the table of kinds does not have
  none : (kind code : ℕ) → kind_of kind code ≡ Unknown → Told kind code
  unfolding Told known
  none kind code u a e l = not-both false (rw u at e) refl

  -- nodes whose argument is 0
  Bare : (kind code : ℕ) → Type 0
  Bare kind code =
      let ws : List (List ℕ) = words (name (kind_of kind code) ++ carried (kind_of kind code) 0) in
      ((a : ℕ) → known c (kind_of kind code) a ≡ eqb a 0)
      × ((vs : List (List ℕ)) → records_told false (ws ++ vs) ≡ record_of kind code 0 ++ records_told false vs)
      × (is_type (next ws) ≡ false)

  bare : (kind code : ℕ) → Bare kind code → Told kind code
  unfolding Told Bare
  bare kind code h a e l = rw (eqb-true a 0 (sym (h.0 a) ∙ e)) (record { told = h.1; untyped = h.2 })

  const_told : (code : ℕ) → Told 0 code
  unfolding Told computes type_byte
  const_told zero = const_tells bool
  const_told (suc zero) = const_tells int
  const_told (suc (suc code)) = none 0 (suc (suc code)) refl

  input_told : (code : ℕ) → Told 1 code
  unfolding Told computes
  input_told zero = λ a e l. input_tells a l
  input_told (suc code) = none 1 (suc code) refl

  var_told : (code : ℕ) → Told 2 code
  unfolding Told computes
  var_told zero = λ a e l. var_tells a l
  var_told (suc code) = none 2 (suc code) refl

  -- the fourteen operators, and the codes past them
  op_told : (code : ℕ) → Told 3 code
  unfolding Bare computes
  op_told =
      each-is (Told 3) 14
      (bare _ _ (λ a. refl, λ vs. refl, refl)
      also bare _ _ (λ a. refl, λ vs. refl, refl)
      also bare _ _ (λ a. refl, λ vs. refl, refl)
      also bare _ _ (λ a. refl, λ vs. refl, refl)
      also bare _ _ (λ a. refl, λ vs. refl, refl)
      also bare _ _ (λ a. refl, λ vs. refl, refl)
      also bare _ _ (λ a. refl, λ vs. refl, refl)
      also bare _ _ (λ a. refl, λ vs. refl, refl)
      also bare _ _ (λ a. refl, λ vs. refl, refl)
      also bare _ _ (λ a. refl, λ vs. refl, refl)
      also bare _ _ (λ a. refl, λ vs. refl, refl)
      also bare _ _ (λ a. refl, λ vs. refl, refl)
      also bare _ _ (λ a. refl, λ vs. refl, refl)
      also bare _ _ (λ a. refl, λ vs. refl, refl)
      also λ code. none _ _ refl)

  fby_told : (code : ℕ) → Told 4 code
  unfolding Told computes type_byte
  fby_told zero = fby_tells bool
  fby_told (suc zero) = fby_tells int
  fby_told (suc (suc code)) = none 4 (suc (suc code)) refl

  rec_told : (code : ℕ) → Told 5 code
  unfolding Bare computes
  rec_told zero = bare 5 0 (λ a. refl, λ vs. refl, refl)
  rec_told (suc zero) = bare 5 1 (λ a. refl, λ vs. refl, refl)
  rec_told (suc (suc code)) = none 5 (suc (suc code)) refl

  -- kinds whose code is marked -
  plain-told : (kind : ℕ) → Bare kind 0 → ((code : ℕ) → kind_of kind (suc code) ≡ Unknown) → (code : ℕ) → Told kind code
  plain-told kind h u zero = bare kind 0 h
  plain-told kind h u (suc code) = none kind (suc code) (u code)

  let_told : (code : ℕ) → Told 6 code
  unfolding Bare computes
  let_told = plain-told 6 (λ a. refl, λ vs. refl, refl) (λ code. refl)

  check-told : (code : ℕ) → Told 7 code
  unfolding Bare computes
  check-told = plain-told 7 (λ a. refl, λ vs. refl, refl) (λ code. refl)

  contract_told : (code : ℕ) → Told 8 code
  unfolding Bare computes
  contract_told = plain-told 8 (λ a. refl, λ vs. refl, refl) (λ code. refl)

  -- a record as the table of kinds has it is told by its node's words
  pub tells : (kind code a : ℕ) → known c (kind_of kind code) a ≡ true → a < 4294967296 → NodeTells (kind_of kind code) a (record_of kind code a)
  unfolding Told kind_of
  tells =
      each-is (λ kind. (code : ℕ) → Told kind code) 9
      (const_told also input_told also var_told also op_told also fby_told also rec_told also let_told also check-told also contract_told
      also λ kind code. none _ _ refl)

-- ---- words one after the other

-- lists of words, each of which tells a record whatever comes after it
pub records-joined : (f : ℕ → List (List ℕ)) (r : ℕ → List ℕ) (n : ℕ)
    → ((i : ℕ) → i < n → (ws : List (List ℕ)) → records_told false (f i ++ ws) ≡ r i ++ records_told false ws)
    → (ws : List (List ℕ)) → records_told false (joined f n ++ ws) ≡ joined r n ++ records_told false ws
unfolding joined
records-joined f r zero h ws = refl
records-joined f r (suc n) h ws =
    rw (append_assoc (joined f n) (f n) ws, append_assoc (joined r n) (r n) (records_told false ws))
    (records-joined f r n (λ i l. h i (omega arith)) (f n ++ ws) ∙ rw (h n (omega arith) ws))

type_told : (t : ValueType) (k : ℕ) (ws : List (List ℕ)) → types_told (suc k) (type_word t ∷ ws) ≡ type_byte t ∷ types_told k ws
unfolding types_told type_byte computes
type_told bool k ws = refl
type_told int k ws = refl

-- the types of n columns, whatever comes after them
pub types-joined : (ty : ℕ → ValueType) (n k : ℕ) (ws : List (List ℕ))
    → types_told (n + k) (joined (λ c. type_word (ty c) ∷ []) n ++ ws) ≡ joined (λ c. type_byte (ty c) ∷ []) n ++ types_told k ws
unfolding joined
types-joined ty zero k ws = rw zero-add
types-joined ty (suc n) k ws =
    let e : suc n + k ≡ n + suc k = omega arith in
    rw (e, append_assoc (joined (λ c. type_word (ty c) ∷ []) n) (type_word (ty n) ∷ []) ws, append_assoc (joined (λ c. type_byte (ty c) ∷ []) n) (type_byte (ty n) ∷ []) (types_told k ws))
    (types-joined ty n (suc k) (type_word (ty n) ∷ ws) ∙ ap (λ (bs : List ℕ). joined (λ c. type_byte (ty c) ∷ []) n ++ bs) (type_told (ty n) k ws))

-- words that do not begin with a type tell none
pub types-end : (k : ℕ) (ws : List (List ℕ)) → is_type (next ws) ≡ false → types_told k ws ≡ []
unfolding types_told
types-end zero ws e = refl
types-end (suc k) [] e = refl
types-end (suc k) (w ∷ ws) e = rw e

pub untyped-joined : (f : ℕ → List (List ℕ)) (n : ℕ) → ((i : ℕ) → i < n → is_type (next (f i)) ≡ false) → is_type (next (joined f n)) ≡ false
unfolding joined computes
untyped-joined f zero h = refl
untyped-joined f (suc n) h = both (joined f n) (untyped-joined f n (λ i l. h i (omega arith)))
  where
    both : (ws : List (List ℕ)) → is_type (next ws) ≡ false → is_type (next (ws ++ f n)) ≡ false
    both [] e = h n (omega arith)
    both (w ∷ ws) e = e
