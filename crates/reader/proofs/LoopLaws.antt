-- Laws of the loops over the words of a text: the type bytes, and the records.
use Rattle.std.proofs.Common.{◌≡◌, ℕ, suc, ◌+◌, ◌-◌, ◌<◌, true, false, cond, Option, Some, None, List, [], ◌∷◌, ◌++◌, length, drop, refl, sym, ap, ◌∙◌, arith, append-nil, append_assoc, length-append, drop-drop}
use Rattle.finite.proofs.Tests.{fails, not-both}
use Rattle.sheet.specs.Ceilings.{max_columns}
use Rattle.listing.specs.Telling.{words, is_type, type_no, next, record_told, takes_next, records_told, types_told}
use Rattle.reader.specs.Reading.{FirstWord, FrontWord, TypesRead}

-- ---- the type bytes

-- after n type bytes those are left that the words left tell
pub record TypesLeft (text types left : List ℕ) (n : ℕ) : Type 0 where
  pub counted : length types ≡ n
  pub told : types_told max_columns (drop 1 (words text)) ≡ types ++ types_told (max_columns - n) (words left)
  pub left_are : words left ≡ drop n (drop 1 (words text))

types_more : (k : ℕ) (ws : List (List ℕ)) → is_type (next ws) ≡ true → types_told (suc k) ws ≡ type_no (next ws) ∷ types_told k (drop 1 ws)
unfolding types_told is_type
types_more k [] b = not-both false b refl
types_more k (w ∷ ws) b = rw b

-- a word that tells no type byte is no type's
pub no_type : (w : List ℕ) {o : Option ℕ} → o ≡ cond (is_type w) (Some (type_no w)) None → ((x : ℕ) → o ≡ Some x → ⊥) → is_type w ≡ false
no_type w e n = fails (is_type w) (λ t. n (type_no w) (e ∙ rw t refl))

module _ {text types left : List ℕ} {n : ℕ} (p : TypesLeft text types left n) where
  pub types_step : {word rest : List ℕ} → n < max_columns → FrontWord left word rest → is_type word ≡ true → TypesLeft text (types ++ (type_no word ∷ [])) rest (n + 1)
  types_step {word} {rest} l k b =
      let some : max_columns - n ≡ suc (max_columns - (n + 1)) = omega arith in
      let more : types_told (max_columns - n) (words left) ≡ type_no word ∷ types_told (max_columns - (n + 1)) (words rest) =
      rw (some, k.rest_are, k.word_is) (types_more (max_columns - (n + 1)) (words left) (rw k.word_is at b)) in
      record {
        counted = omega (arith, p.counted, length-append types (type_no word ∷ []));
        told = p.told ∙ rw more (sym (append_assoc types (type_no word ∷ []) _));
        left_are = k.rest_are ∙ ap (drop 1) p.left_are ∙ drop-drop 1 n (drop 1 (words text));
      }

  pub types_all : types_told (max_columns - n) (words left) ≡ [] → TypesRead text types left
  types_all e = record { types_are = sym (p.told ∙ rw e (append-nil types)); left_are = rw p.counted p.left_are }

-- ---- the records

records-past : (ws : List (List ℕ)) → records_told true ws ≡ records_told false (drop 1 ws)
unfolding records_told
records-past [] = refl
records-past (w ∷ ws) = refl

-- after those that are put, those are left that the words left tell
pub record RecordsLeft (text records left : List ℕ) : Type 0 where
  pub told : records_told false (words text) ≡ records ++ records_told false (words left)

module _ {text records left word rest next_word after : List ℕ} (old : RecordsLeft text records left) (p : FirstWord left word rest)
    (k : FrontWord rest next_word after) where
  turn : records_told false (words text) ≡ (records ++ record_told word next_word) ++ records_told (takes_next word) (words rest)
  unfolding records_told
  turn = old.told ∙ rw (p.words_are, k.word_is, append_assoc) refl

  pub turn_on : takes_next word ≡ false → RecordsLeft text (records ++ record_told word next_word) rest
  turn_on e = record { told = rw e at turn }

  pub turn_past : takes_next word ≡ true → RecordsLeft text (records ++ record_told word next_word) after
  turn_past e = record { told = rw (e, records-past, ← k.rest_are) at turn }

  -- where there is no room for a record, there is none for all
  pub turn_over : {room : ℕ} → room < length records + length (record_told word next_word) → room < length (records_told false (words text))
  turn_over l = rw turn (simp length-append (omega arith))
