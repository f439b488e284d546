-- The form's refusal, or the answer by the room.
use Rattle.std.proofs.Common.{◌≡◌, Err, sym, arith, rules}
use Rattle.sheet.proofs.FormLaws.{form_iff}
use Rattle.listing.specs.Answers.{writer_rules}
use Rattle.listing.proofs.RoomLaws.{answer_first, answer_last}
use Rattle.writer.proofs.WriterLaws.{own_listing}
use Rattle.writer.proofs.write.Goals as goal

pub put_listing-requires : goal.put_listing-requires
put_listing-requires c = (omega arith, (form_iff _).0 (sym c.in_ok-form.ensures))

pub returns-in_err-form : goal.returns-in_err-form
unfolding writer_rules
returns-in_err-form c =
    let e : c.from_residual.result ≡ Err c.in_err-form.field-0.0 = search rules in rw e (answer_first _ c.in_err-form.ensures)

pub returns : goal.returns
unfolding writer_rules
returns c =
    let own = own_listing (λ at. omega (arith, c.type_inv.s at)) ((form_iff _).0 (sym c.in_ok-form.ensures)) c.new-own.ensures c.put_listing.ensures in
    answer_last _ c.in_ok-form.ensures (rw (c.as_slice.ensures.value, own) at c.answer.ensures)
