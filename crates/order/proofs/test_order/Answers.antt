-- An entry is misplaced where it is not under N, was seen, or has a need that was not.
use Rattle.std.proofs.Common.{true, false, arith}
use Rattle.table.specs.Order.{ready}
use Rattle.sheet.proofs.RulingLaws.{each_passes, each_refused}
use Rattle.order.specs.Orders.{ordered}
use Rattle.order.proofs.FunctionLaws.{met_is, bad_over, bad_ready, tried_more}
use Rattle.order.proofs.test_order.Goals as goal
use Rattle.order.proofs.test_order.Goals.{then-n-from-via-then-n-from, then-n-from-via-else-n-from+then-has, then-n-from-via-else-n-from+else-has+then-not-met}

pub returns-then-n-from : goal.returns-then-n-from
unfolding ordered ready
returns-then-n-from c g e =
    let t = c.loop-p.invariant g e in
    each_refused _ _ _ _ _ (omega arith) (omega arith)
    (elim c.then-n-from.branch [
      | then-n-from-via-then-n-from w ↦ bad_over _ _ _ _ t (omega arith)
      | then-n-from-via-else-n-from+then-has w ↦ bad_ready _ _ _ _ t false (omega arith) (rw (← w.has.ensures, w.if-has.true))
      | then-n-from-via-else-n-from+else-has+then-not-met w ↦
          bad_ready _ _ _ _ t false (omega arith) (rw (← w.has.ensures, w.if-has.false, ← met_is _ _ _ _ (w.met.ensures g (omega arith)), w.if-not-met.true))
    ])
    (λ q _ l. t.none q l)

pub loop-p-preserved : goal.loop-p-preserved
unfolding ready
loop-p-preserved c g e =
    let t = c.loop-p.invariant g e in
    rw c.put.ensures
    (tried_more _ _ _ _ t (omega arith)
    (bad_ready _ _ _ _ t true (omega arith) (rw (← c.has.ensures, c.if-has.false, ← met_is _ _ _ _ (c.met.ensures g (omega arith)), c.if-not-met.false)))
    (omega (arith, g.sound.formed.few, c.loop-p.seen.whole)))

pub returns : goal.returns
unfolding ordered
returns c g e = each_passes 15 _ 0 _ (λ q _ l. (c.loop-p.invariant g e).none q (omega arith))
