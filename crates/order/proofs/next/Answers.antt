-- A node that is not placed, whose needs are all placed, is ready, and none before it is.
use Rattle.std.proofs.Common.{not, sym, ap, arith}
use Rattle.finite.proofs.Tests.{and_both}
use Rattle.finite.proofs.LowestLaws.{lowest-is}
use Rattle.table.specs.Order.{ready}
use Rattle.order.specs.Needs.{need_count}
use Rattle.order.proofs.FunctionLaws.{mark, all_met}
use Rattle.order.proofs.next.Goals as goal

pub returns-in-nodes : goal.returns-in-nodes
unfolding ready
returns-in-nodes c g h =
    sym (lowest-is _ _ _ _ (omega arith) (omega arith)
    (and_both (not (mark c.args.placed.now.marks c.nodes.i)) _ (rw (← c.has.ensures, c.if-has.false)) (all_met _ _ _
    (λ k l. c.loop-k.invariant g (omega arith) k (omega (arith, ap need_count c.kind_at.ensures)))))
    (λ j _ l. c.nodes.invariant g h j l))
