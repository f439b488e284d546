-- Request P1's theorems: a listing and its sheet tell each other.
use Prim.Native.Nat.{ℕ, zero, suc, ◌+◌, ◌-◌, ◌*◌, ◌/◌, ◌%◌, ◌<◌, ◌≤◌}
use mathlib.Core.Path.{◌≡◌, refl, sym, ap, ◌∙◌}
use mathlib.Core.Logic.{◌↔◌}
use mathlib.Core.Bool.{true, false, not}
use mathlib.Core.List.{List, [], ◌∷◌, ◌++◌, append-nil, append_assoc}
use native.Mathlib.Omega.{arith}
use Rattle.std.proofs.Common.{Result, Ok}
use lib.ListN.{length, replicate, take, drop, length-append, length-drop, take-append-drop}
use lib.Seq.{take-add, take_all, drop_at, drop-drop}
use borrow.Author.Tests.{not-false}
use Rattle.finite.specs.Lists.{joined}
use Rattle.finite.proofs.JoinedLaws.{joined_cong, joined_length, joined-parts, joined-entries}
use Rattle.number.specs.Word.{word}
use Rattle.sheet.specs.Ceilings.{max_columns}
use Rattle.sheet.specs.Ruling.{passed, rule, ◌then◌}
use Rattle.sheet.specs.declared.Refusal.{Refusal}
use Rattle.sheet.specs.Bytes.{byte, columns, type_of, column_type, nodes, start, kind_at, argument}
use Rattle.sheet.specs.Form.{bad_record, Formed}
use Rattle.sheet.specs.declared.ValueType.{ValueType}
use Rattle.sheet.specs.declared.ValueType.TheVariants.{Bool as bool, Int as int}
use Rattle.sheet.proofs.RulingLaws.{rule-passed, then_passed}
use Rattle.sheet.proofs.FormLaws.{form_iff}
use Rattle.words.specs.Words.{type_word}
use Rattle.listing.specs.Listing.{name, carried, opening, closings, node_text, node_at, column_at, listing}
use Rattle.listing.specs.Telling.{parts, split, filled, words, record_of, is_type, next, records_told, types_told, headed, told_by, sheet_told}
use Rattle.listing.specs.Answers.{is_bytes, is_listing, room_rule, writer_rules, text_rule, reader_rules, Answers}
use Rattle.listing.proofs.TellingLaws.{words-joined, words_node, type_byte, NodeTells, tells, records-joined, types-joined, types-end, untyped-joined}
use Rattle.listing.proofs.LengthLaws.{byte_small, argument_small}
use Rattle.listing.proofs.AnswerLaws.{listed_length}
use Rattle.listing.proofs.ListsLaws.{lists_iff, formed-length}
use Rattle.listing.proofs.ToldBytes.{told_bytes}

-- ---- the words of a listing

words_type : (t : ValueType) → words (type_word t) ≡ type_word t ∷ []
unfolding words split filled parts
words_type bool = refl
words_type int = refl

words-sheet : words (115 ∷ 104 ∷ 101 ∷ 101 ∷ 116 ∷ []) ≡ (115 ∷ 104 ∷ 101 ∷ 101 ∷ 116 ∷ []) ∷ []
unfolding words split filled parts
words-sheet = refl

-- those of node i
node_words : List ℕ → ℕ → List (List ℕ)
node_words s i = words (name (kind_at s i) ++ carried (kind_at s i) (argument s i))

words-listing : (s : List ℕ)
    → drop 1 (words (listing s)) ≡ joined (λ c. type_word (column_type s c) ∷ []) (columns s) ++ joined (node_words s) (nodes s)
unfolding listing column_at node_at node_text node_words
words-listing s =
    let sheet : List ℕ = 115 ∷ 104 ∷ 101 ∷ 101 ∷ 116 ∷ [] in
    let column : ℕ → List ℕ = λ c. type_word (column_type s c) in
    let node : ℕ → List ℕ = λ i. opening (kind_at s i) ++ (name (kind_at s i) ++ (carried (kind_at s i) (argument s i) ++ replicate (closings s i) 41)) in
    rw (
      ← append_assoc sheet (joined (λ c. 32 ∷ column c) (columns s)) (joined (λ i. 32 ∷ node i) (nodes s)),
      words-joined (sheet ++ joined (λ c. 32 ∷ column c) (columns s)) node (nodes s),
      words-joined sheet column (columns s),
      joined_cong (λ c. words (column c)) (λ c. column c ∷ []) (columns s) (λ c l. words_type (column_type s c)),
      joined_cong (λ i. words (node i)) (node_words s) (nodes s) (λ i l. words_node (kind_at s i) (argument s i) (closings s i)),
      words-sheet,
    )

-- ---- what they tell

told-types : (ty : ℕ → ValueType) (n : ℕ) (ws : List (List ℕ)) → n ≤ max_columns → is_type (next ws) ≡ false
    → told_by (joined (λ c. type_word (ty c) ∷ []) n ++ ws) ≡ headed (joined (λ c. type_byte (ty c) ∷ []) n) (records_told false ws)
unfolding told_by
told-types ty n ws l e =
    let most : n + (max_columns - n) ≡ max_columns = omega arith in
    let types : types_told max_columns (joined (λ c. type_word (ty c) ∷ []) n ++ ws) ≡ joined (λ c. type_byte (ty c) ∷ []) n =
    ap (λ (m : ℕ). types_told m (joined (λ c. type_word (ty c) ∷ []) n ++ ws)) (sym most)
    ∙ types-joined ty n (max_columns - n) ws ∙ rw (types-end (max_columns - n) ws e) (append-nil _) in
    let size : length (joined (λ c. type_word (ty c) ∷ []) n) ≡ length (joined (λ c. type_byte (ty c) ∷ []) n) =
    joined_length (λ c. type_word (ty c) ∷ []) 1 n (λ i l. refl) ∙ sym (joined_length (λ c. type_byte (ty c) ∷ []) 1 n (λ i l. refl)) in
    rw (types, drop_at (joined (λ c. type_word (ty c) ∷ []) n) ws _ size)

-- ---- a sheet by its parts

-- a record's bytes
record_word : (kind code x y z w : ℕ) → y < 256 → z < 256 → w < 256 → record_of kind code (word x y z w) ≡ kind ∷ code ∷ x ∷ y ∷ z ∷ w ∷ []
unfolding record_of
record_word kind code x y z w hy hz hw =
    let a : ℕ = word x y z w in
    let e₁ : a / 16777216 ≡ x = omega arith in
    let e₂ : a / 65536 % 256 ≡ y = omega arith in
    let e₃ : a / 256 % 256 ≡ z = omega arith in
    let e₄ : a % 256 ≡ w = omega arith in
    rw (e₁, e₂, e₃, e₄)

type_byte_told : (b : ℕ) → b ≤ 1 → type_byte (type_of b) ≡ b
unfolding type_byte
type_byte_told zero l = refl
type_byte_told (suc zero) l = refl
type_byte_told (suc (suc b)) l = absurd (omega arith)

-- record i, of its parts
record_at : List ℕ → ℕ → List ℕ
record_at s i = record_of (byte s (start s i)) (byte s (start s i + 1)) (argument s i)

module _ (s : List ℕ) (bytes : is_bytes s ≡ true) where
  small : (i : ℕ) → byte s i < 256
  small = byte_small s bytes

  record_taken : (i : ℕ) → start s i + 6 ≤ length s → record_at s i ≡ take 6 (drop (start s i) s)
  unfolding record_at argument joined
  record_taken i l =
      let at : ℕ = start s i in
      let e₀ : at + 0 ≡ at = omega arith in
      let e₁ : at + 2 + 1 ≡ at + 3 = omega arith in
      let e₂ : at + 2 + 2 ≡ at + 4 = omega arith in
      let e₃ : at + 2 + 3 ≡ at + 5 = omega arith in
      record_word (byte s at) (byte s (at + 1)) (byte s (at + 2)) (byte s (at + 2 + 1)) (byte s (at + 2 + 2)) (byte s (at + 2 + 3)) (small _) (small _) (small _)
      ∙ rw (e₁, e₂, e₃) (rw e₀ at (joined-entries s at 6 0 l))

  module _ (f : Formed s) where
    types_are : joined (λ c. type_byte (column_type s c) ∷ []) (columns s) ≡ take (columns s) (drop 4 s)
    unfolding column_type
    types_are =
        joined_cong (λ c. type_byte (column_type s c) ∷ []) (λ c. byte s (4 + c) ∷ []) (columns s)
        (λ c l. ap (λ (b : ℕ). b ∷ []) (type_byte_told (byte s (4 + c)) (f.types c l)))
        ∙ joined-entries s 4 (columns s) 0 (omega (arith, f.whole))

    records_are : joined (record_at s) (nodes s) ≡ take (6 * nodes s) (drop (4 + columns s) s)
    unfolding start
    records_are =
        joined_cong (record_at s) (λ i. take 6 (drop (4 + columns s + 6 * i) s)) (nodes s)
        (λ i l. record_taken i (omega (arith, f.whole)))
        ∙ joined-parts s (4 + columns s) 6 (nodes s)

    body_is : joined (λ c. type_byte (column_type s c) ∷ []) (columns s) ++ joined (record_at s) (nodes s) ≡ drop 4 s
    body_is =
        let fits : length (drop 4 s) ≤ columns s + 6 * nodes s = rw length-drop (omega (arith, f.whole)) in
        rw (types_are, records_are, ← drop-drop (columns s) 4 s, ← take-add (columns s) (6 * nodes s) (drop 4 s)) (take_all _ (drop 4 s) fits)

    sheet-parts : headed (joined (λ c. type_byte (column_type s c) ∷ []) (columns s)) (joined (record_at s) (nodes s)) ≡ s
    unfolding headed joined
    sheet-parts =
        let types : List ℕ = joined (λ c. type_byte (column_type s c) ∷ []) (columns s) in
        let rows : List ℕ = joined (record_at s) (nodes s) in
        let columns-length : length types ≡ columns s = rw (joined_length (λ c. type_byte (column_type s c) ∷ []) 1 (columns s) (λ i l. refl)) (omega arith) in
        let all-length : length types + length rows ≡ length s - 4 = sym (length-append types rows) ∙ ap length body_is ∙ length-drop 4 s in
        let e₀ : (4 + length types + length rows) / 256 ≡ byte s 0 = omega (arith, f.sized, f.whole, small 1) in
        let e₁ : (4 + length types + length rows) % 256 ≡ byte s 1 = omega (arith, f.sized, f.whole, small 1) in
        let whole : byte s 0 ∷ byte s 1 ∷ byte s 2 ∷ byte s 3 ∷ drop 4 s ≡ s =
        ap (λ (l : List ℕ). l ++ drop 4 s) (joined-entries s 0 4 0 (omega (arith, f.whole))) ∙ take-append-drop 4 s in
        rw (e₀, e₁, columns-length, body_is) (rw f.version at whole)

-- ---- the theorems

-- reading after writing is the identity
pub told_back : (s : List ℕ) → is_bytes s ≡ true → Formed s → sheet_told (listing s) ≡ s
unfolding sheet_told records_told node_words record_at kind_at bad_record
told_back s bytes f =
    let node : (i : ℕ) → i < nodes s → NodeTells (kind_at s i) (argument s i) (record_at s i) =
    λ i l. tells (columns s) (byte s (start s i)) (byte s (start s i + 1)) (argument s i) (not-false _ (f.records i l)) (argument_small s (byte_small s bytes) i) in
    let records : records_told false (joined (node_words s) (nodes s)) ≡ joined (record_at s) (nodes s) =
    ap (records_told false) (sym (append-nil (joined (node_words s) (nodes s))))
    ∙ records-joined (node_words s) (record_at s) (nodes s) (λ i l. (node i l).told) [] ∙ append-nil (joined (record_at s) (nodes s)) in
    ap told_by (words-listing s)
    ∙ told-types (column_type s) (columns s) (joined (node_words s) (nodes s)) f.narrow
    (untyped-joined (node_words s) (nodes s) (λ i l. (node i l).untyped))
    ∙ ap (headed (joined (λ c. type_byte (column_type s c) ∷ []) (columns s))) records
    ∙ sheet-parts s bytes f

-- two sheets with one listing are one sheet
pub one_sheet : (s u : List ℕ) → is_bytes s ≡ true → is_bytes u ≡ true → Formed s → Formed u → listing s ≡ listing u → s ≡ u
one_sheet s u p q f g e = sym (told_back s p f) ∙ ap sheet_told e ∙ told_back u q g

-- writing after reading is the identity on listings
pub written_back : (t : List ℕ) → is_listing t ≡ true → listing (sheet_told t) ≡ t
unfolding is_listing
written_back t e = ((lists_iff (sheet_told t) t).0 e).1

-- a text is a listing and tells s exactly where s is a sheet that passes rules 1 to 6, and the text its listing
pub told_exactly : (s t : List ℕ) → ((is_listing t ≡ true) × (sheet_told t ≡ s)) ↔ ((is_bytes s ≡ true) × Formed s × (listing s ≡ t))
unfolding is_listing
told_exactly s t = (
  λ e. let h = (lists_iff (sheet_told t) t).0 e.0 in
      (rw e.1 at (told_bytes t (formed-length (sheet_told t) h.0)), rw e.1 at h.0, rw e.1 at h.1),
  λ h. let back : sheet_told t ≡ s = ap sheet_told (sym h.2) ∙ told_back s h.0 h.1 in
      (rw back ((lists_iff s t).1 (h.1, h.2)), back),
)

-- a text is accepted exactly where it is the listing of some such sheet
pub listing_exactly : (t : List ℕ) → (is_listing t ≡ true) ↔ ((s : List ℕ) × (is_bytes s ≡ true) × Formed s × (listing s ≡ t))
listing_exactly t = (
  λ e. let h = (told_exactly (sheet_told t) t).0 (e, refl) in (sheet_told t, h.0, h.1, h.2),
  λ h. ((told_exactly h.0 t).1 (h.1, h.2, h.3)).0,
)

-- ---- the same of the operations, by their contracts

-- what was written is read as the sheet: only the room can be refused
pub read_after_write : {s before after room left : List ℕ} {n : ℕ} {r : Result ℕ Refusal} → is_bytes s ≡ true →
    Answers (writer_rules s (length before)) (listing s) before after (Ok n) →
    Answers (reader_rules (take n after) (length room)) (sheet_told (take n after)) room left r → Answers (room_rule (length room) s) s room left r
unfolding writer_rules reader_rules text_rule ◌then◌
read_after_write {s} {n = n} bytes w k =
    let done = listed_length w in
    let f : Formed s = (form_iff s).0 ((then_passed _ _).0 done.0).0 in
    let told = (told_exactly s (listing s)).1 (bytes, f, refl) in
    let passes : rule (not (is_listing (listing s))) 16 0 ≡ passed = (rule-passed _ _ _).1 (ap not told.0) in
    rw (passes, told.1) at (rw done.1 at k)

-- what was read is written as the text
pub write_after_read : {t before after room left : List ℕ} {n : ℕ} {r : Result ℕ Refusal} →
    Answers (reader_rules t (length before)) (sheet_told t) before after (Ok n) →
    Answers (writer_rules (take n after) (length room)) (listing (take n after)) room left r → Answers (room_rule (length room) t) t room left r
unfolding writer_rules reader_rules text_rule ◌then◌
write_after_read {t} {n = n} k w =
    let done = listed_length k in
    let listed : is_listing t ≡ true = not-false _ ((rule-passed _ _ _).0 ((then_passed _ _).0 done.0).0) in
    let told = (told_exactly (sheet_told t) t).0 (listed, refl) in
    rw ((form_iff (sheet_told t)).1 told.1, told.2) at (rw done.1 at w)
