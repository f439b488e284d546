-- What an answer of the writer or the reader tells; and two results that their contracts allow are one and the same, the answer and the end
-- contents of the lent room.
use Rattle.std.proofs.Common.{◌≡◌, ℕ, List, Result, Ok, Err, length, take, refl, sym, ◌∙◌}
use lib.Seq.{take_at}
use Rattle.text.specs.Text.{Holds}
use Rattle.sheet.specs.Ruling.{Ruling, passed, refused, at_end, number_of, place_of}
use Rattle.sheet.specs.declared.Refusal.{Refusal}
use Rattle.sheet.proofs.RulingLaws.{answer-accepted, answer-turned, one_said}
use Rattle.listing.specs.Answers.{Answers}

pub one_listed : {rules : Ruling} {result before after after' : List ℕ} {r r' : Result ℕ Refusal} →
    Answers rules result before after r → Answers rules result before after' r' → (r ≡ r') × (after ≡ after')
one_listed {r = r} {r' = r'} k k' = (one_said r r' (k.answers ∙ sym k'.answers), k.room ∙ sym k'.room)

module _ {rules : Ruling} {result before after : List ℕ} where
  -- a refusal is that of the rules, and the room is as it was
  pub listed_refused : {q : Refusal} → Answers rules result before after (Err q) → (rules ≡ refused (number_of q) (place_of q)) × (after ≡ before)
  unfolding at_end
  listed_refused {q} k =
      let turned_by : rules ≡ refused (number_of q) (place_of q) = answer-turned rules (length result) (number_of q) (place_of q) k.answers in
      (turned_by, k.room ∙ rw turned_by refl)

  -- a length is the result's, which the room begins with; after it the room is as it was
  pub listed_length : {n : ℕ} → Answers rules result before after (Ok n) → (rules ≡ passed) × (take n after ≡ result) × Holds result before after n
  unfolding at_end
  listed_length {n} k =
      let by = (answer-accepted rules (length result) n).0 (sym k.answers) in
      let all : rules ≡ passed = by.0 in
      (all, rw (k.room, all) (take_at result _ n by.1), record { contents = k.room ∙ rw all refl; count = sym by.1 })
