-- Request P1: what the writer and the reader answer, and what the lent room holds at the end.
use Rattle.std.specs.Prelude.{ℕ, ◌≡◌, Bool, not, ◌&&◌, List, ◌++◌, ltb, length, drop, Result}
use Rattle.finite.specs.Lists.{all, same}
use Rattle.sheet.specs.Ruling.{Ruling, rule, passes, ◌then◌, answer, at_end, lent_place, said}
use Rattle.sheet.specs.Form.{form}
use Rattle.sheet.specs.declared.Lent.TheVariants.{Room}
use Rattle.sheet.specs.declared.Refusal.{Refusal}
use Rattle.listing.specs.Listing.{listing}
use Rattle.listing.specs.Telling.{sheet_told}

-- sheets are of bytes
abbrev pub is_bytes : List ℕ → Bool
is_bytes s = all (λ b. ltb b 256) s

-- the text is the listing of s, which passes rules 1 to 6
unfoldable pub lists : (s text : List ℕ) → Bool
lists s text = passes (form s) && same (listing s) text

-- the text is some such sheet's listing: if any's, then that of the sheet it tells
unfoldable pub is_listing : List ℕ → Bool
is_listing text = lists (sheet_told text) text

-- 12 LENT at 7: "when the lent room is shorter than the result"
unfoldable pub room_rule : (room : ℕ) → (result : List ℕ) → Ruling
room_rule room result = rule (ltb room (length result)) 12 (lent_place Room)

-- "Refusals: 1 to 6 on writing"
unfoldable pub writer_rules : (s : List ℕ) → (room : ℕ) → Ruling
writer_rules s room = form s then room_rule room (listing s)

-- "16 TEXT, place 0, tried first on reading, exactly when the text is no such sheet's listing"
unfoldable pub text_rule : (text : List ℕ) → Ruling
text_rule text = rule (not (is_listing text)) 16 0

unfoldable pub reader_rules : (text : List ℕ) → (room : ℕ) → Ruling
reader_rules text room = text_rule text then room_rule room (sheet_told text)

-- "Both answer the result's length. Room past the result is unchanged." A refusal changes nothing
pub record Answers (rules : Ruling) (result before after : List ℕ) (r : Result ℕ Refusal) : Type 0 where
  pub answers : said r ≡ answer rules (length result)
  pub room : after ≡ at_end rules (result ++ drop (length result) before) before
