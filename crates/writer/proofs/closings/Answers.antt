-- A loop over the nodes, which counts in the table where each expression closes.
use Rattle.std.proofs.Common.{sym, ◌∙◌, arith}
use Rattle.writer.proofs.ClosingLaws.{counted_none, counted_all, counted_no, past_some, past_within, past_few, counted_yes}
use Rattle.writer.proofs.closings.Goals as goal
use Rattle.writer.proofs.closings.Goals.{then-opens, else-opens}

pub loop-a-init : goal.loop-a-init
loop-a-init c = rw c.zeros-table.ensures (counted_none c.requires.formed)

pub overflow_sub-last : goal.overflow_sub-last
overflow_sub-last c =
    let past = c.from-last.ensures ∙ c.requires.ends c.loop-a.a (omega arith) in
    past_some c.loop-a.invariant c.requires.formed (omega arith) past

pub bounds-table-last : goal.bounds-table-last
bounds-table-last c =
    let past = c.from-last.ensures ∙ c.requires.ends c.loop-a.a (omega arith) in
    past_within c.loop-a.invariant c.requires.formed (omega arith) past

pub overflow_add-table : goal.overflow_add-table
overflow_add-table c =
    let past = c.from-last.ensures ∙ c.requires.ends c.loop-a.a (omega arith) in
    omega (arith, past_few c.loop-a.invariant c.requires.formed (omega arith) past)

pub bounds-table-last-then-opens : goal.bounds-table-last-then-opens
bounds-table-last-then-opens c =
    let past = c.from-last.ensures ∙ c.requires.ends c.loop-a.a (omega arith) in
    past_within c.loop-a.invariant c.requires.formed (omega arith) past

pub loop-a-preserved : goal.loop-a-preserved
loop-a-preserved c =
    let test = rw c.kind_at.ensures at (sym c.opens.ensures) in
    elim c.if-opens.branch [
      | then-opens w ↦
          let past = w.from-last.ensures ∙ c.requires.ends c.loop-a.a (omega arith) in
          rw w.table-is (counted_yes c.loop-a.invariant c.requires.formed (omega arith) past (test ∙ w.if-opens.true))
      | else-opens w ↦ rw w.table-is (counted_no c.loop-a.invariant (omega arith) (test ∙ w.if-opens.false))
    ]

pub returns : goal.returns
returns c = (c.loop-a.invariant.room, counted_all c.loop-a.invariant (omega arith))
