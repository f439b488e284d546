-- The house order is right, the fresh cells are those before tick 0, and no tick is refused.
use Rattle.std.proofs.Common.{◌≡◌, ◌+◌, ◌*◌, ◌≤◌, ◌∙◌, length, w32, SFits, rules, arith}
use Rattle.number.proofs.Bridge.{back}
use Rattle.engine.proofs.RuleLaws.{run_exactly}
use Rattle.engine.proofs.RunLaws.{row_end, row_is}
use Rattle.engine.proofs.Demands.{start_given}
use Rattle.finite.proofs.ListLaws.{length_part}
use Rattle.console.proofs.AcceptedLaws.{sound, nodes_are, columns_are, slots_are, right_order}
use Rattle.console.proofs.TickLaws.{ticks_none, tick_answers, ticks_more}
use Rattle.console.proofs.Accepted.put_ticks.Goals as goal

pub loop-t-init : goal.loop-t-init
loop-t-init c =
    let a = c.args.self in
    let cells = length_part _ _ _ a.few_slots c.cells-cells.ensures ∙ slots_are a in (
      ((run_exactly _ _ _).0 c.requires).2,
      ticks_none (start_given c.start.ensures (sound a) cells).1 (length_part _ _ _ a.few_nodes c.values-values.ensures ∙ nodes_are a),
    )

-- the tick's row ends within the rows
pub slice_bounds-row-end : goal.slice_bounds-row-end
slice_bounds-row-end c =
    let a = c.args.self in
    let under : c.loop-t.t * a.sheet.columns + a.sheet.columns ≤ length c.args.rows.now = row_end _ ((run_exactly _ _ _).0 c.requires).1 (columns_are a) (omega arith) in
    omega (arith, under)

pub returns-in_default : goal.returns-in_default
returns-in_default c =
    let a = c.args.self in
    let l = c.loop-t in
    let (x, e) = tick_answers c.requires l.invariant.1 (omega arith) (row_is _ _ l.t _ (columns_are a)) (right_order a _ c.fresh-order.ensures c.house_order.ensures) c.tick.ensures in
    absurd (c.in_default.not-Ok x e)

pub loop-t-preserved : goal.loop-t-preserved
loop-t-preserved c =
    let a = c.args.self in
    let l = c.loop-t in
    let f : SFits w32 c.in-Ok.answer.root = search rules in (
      l.invariant.0,
      ticks_more c.requires l.invariant.1 (omega arith) (row_is _ _ l.t _ (columns_are a)) (right_order a _ c.fresh-order.ensures c.house_order.ensures) c.tick.ensures c.in-Ok.is
          (rw (back f) at c.put_tick.ensures.text) (rw (back f) at c.put_tick.ensures.short),
    )

pub returns : goal.returns
returns c = λ X m.
    let e : c.loop-t.t ≡ c.args.ticks = omega arith in
    rw e at (c.loop-t.invariant.1.lines X m).1
