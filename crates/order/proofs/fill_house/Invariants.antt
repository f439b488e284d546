-- After p turns the order has the first p positions of the house order, and the marks agree with these.
use Rattle.std.proofs.Common.{◌≡◌, length}
use Rattle.sheet.specs.Bytes.{nodes}
use Rattle.order.specs.Needs.{Given}
use Rattle.order.proofs.FunctionLaws.{Filled}
use Rattle.order.proofs.fill_house.Given as goal

abbrev pub invariant-loop-entry : goal.invariant-loop-entry
invariant-loop-entry l =
    Given l.s l.ends → length l.fn.order ≡ nodes l.s → Filled l.s l.fn.order l.order l.placed.marks l.entry-index
