-- The text's refusal, or the answer by the room.
use Rattle.std.proofs.Common.{◌≡◌, Err, rules}
use Rattle.listing.specs.Answers.{reader_rules}
use Rattle.listing.proofs.RoomLaws.{answer_first, answer_last}
use Rattle.reader.proofs.read.Goals as goal

pub returns-in_err-put_sheet : goal.returns-in_err-put_sheet
unfolding reader_rules
returns-in_err-put_sheet c =
    let e : c.from_residual.result ≡ Err c.in_err-put_sheet.field-0.0 = search rules in rw e (answer_first _ c.in_err-put_sheet.ensures.rule)

pub returns : goal.returns
unfolding reader_rules
returns c = answer_last _ c.in_ok-put_sheet.ensures.rule (rw (c.as_slice.ensures.value, c.in_ok-put_sheet.ensures.bytes) at c.answer.ensures)
