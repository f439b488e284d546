-- Laws of the sheet that a text tells: by its type bytes and records, and that a text of more records than a sheet has is no listing.
use Rattle.std.proofs.Common.{◌≡◌, ℕ, ◌+◌, ◌*◌, ◌<◌, false, cond, List, length, Some, None, refl, arith, unwrap_or, length-append}
use Rattle.finite.specs.Lists.{same}
use Rattle.finite.proofs.Tests.{by-test, fails}
use Rattle.sheet.specs.Ceilings.{max_nodes}
use Rattle.sheet.specs.Bytes.{columns}
use Rattle.sheet.specs.Form.{Formed}
use Rattle.sheet.specs.declared.ValueType.TheVariants.{Bool as bool, Int as int}
use Rattle.words.specs.Words.{type_word}
use Rattle.listing.specs.Telling.{is_type, type_no, words, records_told, headed, told_by, sheet_told}
use Rattle.listing.specs.Answers.{lists, is_listing}
use Rattle.listing.proofs.ListsLaws.{lists_iff}
use Rattle.reader.specs.Reading.{TypesRead}

-- the type byte of any word: one that is no type's counts as int's
pub type_or : (w : List ℕ) → unwrap_or (cond (is_type w) (Some (type_no w)) None) 1 ≡ type_no w
unfolding is_type type_no
type_or w = by-test (same w (type_word bool)) (λ b. rw b refl) (λ b. by-test (same w (type_word int)) (λ i. rw (b, i) refl) (λ i. rw (b, i) refl))

headed_columns : (types records : List ℕ) → columns (headed types records) ≡ length types
unfolding headed
headed_columns types records = refl

headed-length : (types records : List ℕ) → length (headed types records) ≡ 4 + length types + length records
unfolding headed
headed-length types records = omega (arith, length-append types records)

module _ {text types left : List ℕ} (p : TypesRead text types left) where
  pub told_is : sheet_told text ≡ headed types (records_told false (words left))
  unfolding sheet_told told_by
  told_is = rw (p.left_are, p.types_are) refl

  pub none_listed : 6 * max_nodes < length (records_told false (words left)) → is_listing text ≡ false
  unfolding is_listing
  none_listed l =
      let records = records_told false (words left) in
      fails (lists (sheet_told text) text)
      (λ e. let f : Formed (headed types records) = rw told_is at ((lists_iff (sheet_told text) text).0 e).0 in
      omega (arith, f.whole, f.few, headed_columns types records, headed-length types records))
