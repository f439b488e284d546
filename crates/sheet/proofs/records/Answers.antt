-- The first bad record is the place.
use Rattle.std.proofs.Common.{sym, ◌∙◌, arith}
use Rattle.sheet.specs.Form.{records}
use Rattle.sheet.proofs.RulingLaws.{each_refused}
use Rattle.sheet.proofs.records.Goals as goal

pub returns-then-bad_record : goal.returns-then-bad_record
unfolding records
returns-then-bad_record c =
    each_refused _ _ _ _ _ (omega arith) (omega arith) (sym c.bad_record.ensures ∙ c.if-bad_record.true) c.loop-i.invariant
