-- What is printed of the writer's and the reader's answers, where the first of their rules are those of the sheet or the text and the last is
-- that of the room; and sheetlist and sheetread, one after the other.
use Prim.Native.Nat.{ℕ, ◌-◌, ◌≤◌, ◌<◌}
use mathlib.Core.Path.{◌≡◌, refl, sym, ap, ◌∙◌}
use mathlib.Core.Bool.{true, not}
use mathlib.Core.List.{List, [], ◌∷◌, ◌++◌}
use native.Mathlib.Omega.{arith}
use Rattle.std.proofs.Common.{Ok, Err}
use lib.ListN.{length, length-append}
use lib.Seq.{length-take-le, get_or_at, take_at}
use borrow.Author.Tests.{le-ltb, ltb-false, not-false}
use Rattle.finite.proofs.ListLaws.{write_length}
use Rattle.text.specs.Text.{feed, Holds, Appends, Puts, Prints}
use Rattle.text.proofs.LentLaws.{holds_text, is_word, prints}
use Rattle.sheet.specs.Ruling.{Ruling, passed, refused, number_of, place_of, ◌then◌}
use Rattle.sheet.specs.Bytes.{byte}
use Rattle.sheet.specs.Form.{form, Formed}
use Rattle.sheet.specs.declared.Refusal.{Refusal}
use Rattle.sheet.proofs.RulingLaws.{rule-passed, then_passed}
use Rattle.sheet.proofs.FormLaws.{form_iff}
use Rattle.words.specs.Words.{refused_line}
use Rattle.listing.specs.Listing.{listing, max_text}
use Rattle.listing.specs.Telling.{sheet_told}
use Rattle.listing.specs.Answers.{is_bytes, is_listing, text_rule, Answers, room_rule}
use Rattle.listing.proofs.LengthLaws.{argument_small, listing_length_by}
use Rattle.listing.proofs.ListsLaws.{lists_iff, formed-length}
use Rattle.listing.proofs.Listings.{told_exactly}
use Rattle.listing.proofs.AnswerLaws.{listed_refused, listed_length}
use Rattle.exchange.specs.Exchange.{printed_by, sheetlist, text_in, sheetread, max_printed}

-- what is printed of a result, and of a refusal

pub printed_result : (rules : Ruling) (result : List ℕ) → passed ≡ rules → printed_by rules result ≡ result
unfolding printed_by
printed_result rules result e = rw (← e)

pub printed_refusal : (rules : Ruling) (result : List ℕ) (number place : ℕ) → refused number place ≡ rules → printed_by rules result ≡ refused_line number place
unfolding printed_by
printed_refusal rules result number place e = rw (← e)

-- where the last rules pass if the first do, a refusal is that of the first
first_refuses : (first last : Ruling) (number place : ℕ) → (first ≡ passed → last ≡ passed) → first then last ≡ refused number place → first ≡ refused number place
unfolding ◌then◌
first_refuses passed last number place passes e = sym (passes refl) ∙ e
first_refuses (refused n p) last number place passes e = e

module _ {first : Ruling} {result before between : List ℕ} (short : first ≡ passed → length result ≤ max_text) where
  pub prints_refusal : {q : Refusal} → Answers (first then room_rule (length before) result) result before between (Err q) → {after : List ℕ} {r : ℕ} →
      Puts 33 (refused_line (number_of q) (place_of q)) between after 0 r → (text : List ℕ) → Prints max_printed (λ t. t ≡ printed_by first text) before after r
  unfolding room_rule
  prints_refusal k p text =
      let told = listed_refused k in
      let put = rw told.1 at p in
      prints put max_printed (λ t. t ≡ printed_by first text)
      (λ room. let own = first_refuses first _ _ _ (λ f. (rule-passed _ _ _).1 (le-ltb (length before) (length result) (omega (arith, short f)))) told.0 in
      is_word put max_printed (omega arith) room ∙ sym (printed_refusal first text _ _ (sym own)))

  -- a result with a word after it
  pub prints_result : {n : ℕ} → Answers (first then room_rule (length before) result) result before between (Ok n) → {word after : List ℕ} {r : ℕ} →
      Appends word between after n r → length word ≤ 1 → Prints max_printed (λ t. t ≡ printed_by first (result ++ word)) before after r
  unfolding room_rule
  prints_result {n} k {word} {after} {r} p l =
      let told = listed_length k in
      let all = (then_passed first _).0 told.0 in
      let holds : Holds result before between n = told.2 in
      let fits : length result ≤ length before = ltb-false _ _ ((rule-passed _ _ _).0 all.1) in
      let size : length between ≡ length before = ap length holds.contents ∙ write_length result before (length result) refl fits in
      let inside : r ≤ length after = omega (arith, p.inside (omega (arith, holds.count)), p.same_length) in
      record {
        same_length = p.same_length ∙ size;
        inside = inside;
        counted = sym (length-take-le r after inside);
        text = λ room. holds_text (p.more holds (omega (arith, short all.0))) ∙ sym (printed_result first _ (sym all.0));
      }

-- a listing has room
pub listing-short : (s : List ℕ) → ((at : ℕ) → byte s at < 256) → form s ≡ passed → length (listing s) ≤ max_text
listing-short s small e = listing_length_by s (λ i h. argument_small s small i) ((form_iff s).0 e)

-- and so has a told sheet
pub told-short : (t : List ℕ) → text_rule t ≡ passed → length (sheet_told t) ≤ max_text
unfolding text_rule is_listing
told-short t e =
    let h = (lists_iff (sheet_told t) t).0 (not-false _ ((rule-passed _ _ _).0 e)) in
    omega (arith, formed-length (sheet_told t) h.0)

-- an input of no bytes is its text
pub text_none : (input : List ℕ) → length input ≡ 0 → [] ≡ text_in input
unfolding text_in
text_none [] e = refl
text_none (b ∷ input) e = absurd (omega arith)

-- ---- the programs, one after the other

-- one line feed after a text is not part of it
text_fed : (t : List ℕ) → text_in (t ++ feed) ≡ t
unfolding text_in
text_fed t =
    let last : length (t ++ feed) - 1 ≡ length t = rw length-append (omega arith) in
    rw (last, get_or_at t 10 [] 0 (length t) refl) (take_at t feed (length t) refl)

-- what sheetlist prints of a sheet, sheetread turns into the sheet
pub sheet_exchanged : (s : List ℕ) → is_bytes s ≡ true → Formed s → sheetread (sheetlist s) ≡ s
unfolding sheetlist sheetread printed_by text_rule
sheet_exchanged s bytes f =
    let told = (told_exactly s (listing s)).1 (bytes, f, refl) in
    rw ((form_iff s).1 f, text_fed (listing s), (rule-passed (not (is_listing (listing s))) 16 0).1 (ap not told.0)) told.1

-- and a listing with its line feed comes back from both
pub text_exchanged : (t : List ℕ) → is_listing t ≡ true → sheetlist (sheetread (t ++ feed)) ≡ t ++ feed
unfolding sheetlist sheetread printed_by text_rule
text_exchanged t e =
    let told = (told_exactly (sheet_told t) t).0 (e, refl) in
    rw (text_fed t, (rule-passed (not (is_listing t)) 16 0).1 (ap not e), (form_iff (sheet_told t)).1 told.1, told.2)
