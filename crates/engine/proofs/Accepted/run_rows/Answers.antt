-- The house order is right, and the fresh cells are those before tick 0; the slices after t turns are those after t ticks.
use Rattle.std.proofs.Common.{refl, ap, ◌∙◌, pos, rules, arith}
use Rattle.number.proofs.Bridge.{back_ok}
use Rattle.table.specs.Equations.{at}
use Rattle.order.proofs.OrderLaws.{house_right}
use Rattle.engine.proofs.FunctionLaws.{given}
use Rattle.engine.proofs.RunLaws.{row_is, after_none, after_more, after-all}
use Rattle.engine.proofs.Accepted.run_rows.Goals as goal

pub loop-t-init : goal.loop-t-init
loop-t-init c =
    let p = c.requires in
    (c.fresh-run.ensures.0, after_none p.rows_len.1 c.fill_start.ensures p.values_len refl c.fresh-run.ensures.1)

pub step-requires-clause-right_order : goal.step-requires-clause-right_order
step-requires-clause-right_order c =
    let g = given c.args.self in
    rw (c.fill_house.ensures g c.requires.order_len) (house_right g.sound)

pub loop-t-preserved : goal.loop-t-preserved
loop-t-preserved c =
    let l = c.loop-t in (
      omega (arith, l.invariant.0, c.after-run.ensures.0),
      after_more l.invariant.1 (given c.args.self).sound (omega (arith, l.invariant.1.outputs-size)) (row_is c.args.self.s.now c.args.rows.now l.t c.columns-columns.result c.columns-columns.ensures.0)
          c.step.ensures (back_ok c.entry.type_inv ∙ c.entry.ensures.2 ∙ ap (at (pos 0) _) c.entry.ensures.1) c.failures.ensures refl refl c.after-run.ensures.1,
    )

pub returns : goal.returns
returns c = after-all c.loop-t.invariant.1 (omega arith)
