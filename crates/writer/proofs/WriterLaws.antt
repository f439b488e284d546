-- Laws of the writer: the listing that it makes for itself, and what it answers of a sheet that rules 1 to 6 refuse.
use Rattle.std.proofs.Common.{◌≡◌, ℕ, ◌<◌, List, [], false, length, Err}
use Rattle.text.specs.Text.{Adds}
use Rattle.text.proofs.TextLaws.{append_first}
use Rattle.sheet.specs.Ruling.{refused, number_of, place_of, passes}
use Rattle.sheet.specs.Bytes.{byte}
use Rattle.sheet.specs.Form.{form, Formed}
use Rattle.sheet.specs.declared.Refusal.{Refusal}
use Rattle.listing.specs.Listing.{listing, max_text}
use Rattle.listing.specs.Answers.{lists, writer_rules, Answers}
use Rattle.listing.proofs.LengthLaws.{argument_small, listing_length_by}
use Rattle.listing.proofs.RoomLaws.{answer-refused}

-- in room for any listing, what is put is the listing
pub own_listing : {s before after : List ℕ} → ((at : ℕ) → byte s at < 256) → Formed s → before ≡ [] → Adds max_text (listing s) before after
    → after ≡ listing s
own_listing {s} small f e a = append_first e a (listing_length_by s (λ i l. argument_small s small i) f)

pub lists-refused : (s t : List ℕ) {number place : ℕ} → refused number place ≡ form s → false ≡ lists s t
unfolding lists passes
lists-refused s t e = rw (← e)

pub write_refused : (s room : List ℕ) (r : Refusal) → refused (number_of r) (place_of r) ≡ form s
    → Answers (writer_rules s (length room)) (listing s) room room (Err r)
unfolding writer_rules
write_refused s room r e = answer-refused (form s) (listing s) room r e
