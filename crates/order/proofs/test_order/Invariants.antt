-- No entry before position p is misplaced, and the marks agree with these entries.
use Rattle.std.proofs.Common.{◌≡◌, length}
use Rattle.sheet.specs.Bytes.{nodes}
use Rattle.order.specs.Needs.{Given}
use Rattle.order.proofs.FunctionLaws.{Tried}
use Rattle.order.proofs.test_order.Given as goal

abbrev pub invariant-loop-p : goal.invariant-loop-p
invariant-loop-p l = Given l.s l.ends → length l.order ≡ nodes l.s → Tried l.s l.order l.seen.marks l.p
