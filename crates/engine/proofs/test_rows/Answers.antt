-- The first entry that breaks the rule, and none.
use Rattle.std.proofs.Common.{zero-le, rules, arith}
use Rattle.sheet.proofs.RulingLaws.{each_refused}
use Rattle.engine.specs.Rows.{bad_entry, row_rule}
use Rattle.engine.proofs.test_rows.Goals as goal

pub returns-then-faulty : goal.returns-then-faulty
unfolding row_rule bad_entry
returns-then-faulty c = each_refused _ _ _ _ _ zero-le (omega arith) (search rules) (λ k _ l. c.loop-at.invariant k l)
