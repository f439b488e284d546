-- How the writer and the reader answer: by their first rules, and else as those after them say, or by the room's rule.
use Rattle.std.proofs.Common.{◌≡◌, ◌<◌, ℕ, List, length, lt-ltb, Result, Err}
use Rattle.sheet.specs.Ruling.{Ruling, passed, refused, rule, ◌then◌, answer, at_end, number_of, place_of}
use Rattle.sheet.specs.declared.Lent.TheVariants.{Room}
use Rattle.sheet.specs.declared.Refusal.{Refusal}
use Rattle.sheet.specs.declared.Refusal.TheVariants.{Lent}
use Rattle.listing.specs.Answers.{room_rule, Answers}

-- the first rules' refusal, or the answer by those after them
module _ {first : Ruling} (last : Ruling) {result before : List ℕ} where
  pub answer_first : {r : Refusal} → refused (number_of r) (place_of r) ≡ first → Answers (first then last) result before before (Err r)
  unfolding answer at_end ◌then◌
  answer_first e = record { answers = rw (← e); room = rw (← e) }

  pub answer_last : {after : List ℕ} {r : Result ℕ Refusal} → passed ≡ first → Answers last result before after r
      → Answers (first then last) result before after r
  unfolding ◌then◌
  answer_last e k = rw (← e) k

module _ (first : Ruling) (result room : List ℕ) where
  pub answer-refused : (r : Refusal) → refused (number_of r) (place_of r) ≡ first
      → Answers (first then room_rule (length room) result) result room room (Err r)
  answer-refused r e = answer_first (room_rule (length room) result) e

  module _ (e : passed ≡ first) where
    pub answer-short : length room < length result → Answers (first then room_rule (length room) result) result room room (Err (Lent Room))
    unfolding room_rule rule answer at_end ◌then◌
    answer-short l = let b = lt-ltb (length room) (length result) l in record { answers = rw (← e, b); room = rw (← e, b) }
