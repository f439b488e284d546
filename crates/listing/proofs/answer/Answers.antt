-- A result has no room, or it is put at the start.
use Rattle.std.proofs.Common.{length, arith, lt-ltb, le-ltb}
use Rattle.text.proofs.LentLaws.{holds_none}
use Rattle.sheet.specs.Ruling.{rule, answer, at_end}
use Rattle.listing.specs.Answers.{room_rule}
use Rattle.listing.proofs.answer.Goals as goal

pub returns-then-room-whole : goal.returns-then-room-whole
unfolding room_rule rule answer at_end
returns-then-room-whole c = let short = lt-ltb _ _ c.if-room-whole.true in record { answers = rw short; room = rw short }

pub returns : goal.returns
unfolding room_rule rule answer at_end
returns c =
    let fits = le-ltb _ _ c.if-room-whole.false in
    let put = c.put.ensures.more (holds_none c.args.room.now) (omega arith) in
    record { answers = rw (fits, put.count); room = rw (fits, put.contents) }
