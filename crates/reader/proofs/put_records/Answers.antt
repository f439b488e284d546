-- A turn puts a record, if there is room for it.
use Rattle.std.proofs.Common.{◌≡◌, ◌+◌, ◌<◌, ◌++◌, length, refl, sym, ◌∙◌, append-nil, rules}
use Rattle.listing.specs.Telling.{records_told}
use Rattle.reader.specs.Reading.{FirstWord}
use Rattle.reader.proofs.LoopLaws.{turn_on, turn_past, turn_over}
use Rattle.reader.proofs.put_records.Goals as goal

pub loop-word-init : goal.loop-word-init
loop-word-init c = record { told = rw c.requires refl }

pub returns-in_err-ok : goal.returns-in_err-ok
returns-in_err-ok c =
    let first : FirstWord c.loop-word.left.now c.in-Some.word.now c.in-Some.rest.now = search rules in
    let full : 3072 < length c.loop-word.records.items + length c.record_told.result = search rules in
    rw c.from_residual.ensures (turn_over c.loop-word.invariant first c.word_and_rest.ensures (rw c.record_told.ensures at full))

pub loop-word-preserved-then-takes_next : goal.loop-word-preserved-then-takes_next
loop-word-preserved-then-takes_next c =
    let first : FirstWord c.loop-word.left.now c.in-Some.word.now c.in-Some.rest.now = search rules in
    let put : c.try_extend_from_slice.new.self.items ≡ c.loop-word.records.items ++ c.record_told.result = search rules in
    rw (put, c.record_told.ensures)
    (turn_past c.loop-word.invariant first c.word_and_rest.ensures (sym c.takes_next.ensures ∙ c.if-takes_next.true))

pub loop-word-preserved : goal.loop-word-preserved
loop-word-preserved c =
    let first : FirstWord c.loop-word.left.now c.in-Some.word.now c.in-Some.rest.now = search rules in
    let put : c.try_extend_from_slice.new.self.items ≡ c.loop-word.records.items ++ c.record_told.result = search rules in
    rw (put, c.record_told.ensures)
    (turn_on c.loop-word.invariant first c.word_and_rest.ensures (sym c.takes_next.ensures ∙ c.if-takes_next.false))

pub returns : goal.returns
unfolding records_told
returns c = sym (c.loop-word.invariant.told ∙ rw c.in_default.ensures (append-nil c.loop-word.records.items))
