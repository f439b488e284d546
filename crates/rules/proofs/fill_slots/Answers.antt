-- So many FBYs came before each node passed.
use Rattle.std.proofs.Common.{◌≡◌, ℕ, ◌+◌, ◌<◌, get_or, refl, sym, ap, ◌∙◌, arith}
use lib.ListN.{set, get_or-append}
use Rattle.finite.specs.Count.{count}
use Rattle.finite.proofs.CountLaws.{count_step_yes, count_step_no, count_le}
use Rattle.finite.proofs.ListLaws.{filled_more}
use Rattle.sheet.specs.Bytes.{nodes, is_fby}
use Rattle.rules.specs.Scope.{fby_at}
use Rattle.rules.specs.Slots.{slot as slot_of, slots}
use Rattle.rules.proofs.fill_slots.Goals as goal
use Rattle.rules.proofs.fill_slots.Goals.{then-is_fby, else-is_fby}

pub loop-i-init : goal.loop-i-init
unfolding count
loop-i-init c = (refl, λ j h. absurd (omega arith))

pub overflow_add-slot : goal.overflow_add-slot
overflow_add-slot c = omega (arith, count_le (fby_at c.args.s.now) c.loop-i.i)

pub loop-i-preserved : goal.loop-i-preserved
loop-i-preserved c =
    let l = c.loop-i.invariant in
    let s = c.args.s.now in
    let i = c.loop-i.i in
    let fby = c.is_fby.ensures ∙ ap is_fby c.kind_at.ensures in
    let filled : (j : ℕ) → j < i + 1 → get_or (set c.loop-i.entry-items i c.loop-i.slot) j 0 ≡ count (fby_at s) j =
    λ j h. filled_more (count (fby_at s)) 0 c.loop-i.entry-items i c.loop-i.slot (omega arith) l.0 l.1 j h in
    elim c.if-is_fby.branch [
      | then-is_fby w ↦ (omega (arith, count_step_yes (fby_at s) i (sym fby ∙ w.if-is_fby.true)), filled)
      | else-is_fby w ↦ (omega (arith, count_step_no (fby_at s) i (sym fby ∙ w.if-is_fby.false)), filled)
    ]

pub returns : goal.returns
unfolding slot_of slots
returns c h =
    let l = c.loop-i in
    let e : l.i ≡ nodes c.args.s.now = omega arith in (
      c.from.ensures ∙ l.invariant.0 ∙ ap (count (fby_at c.args.s.now)) e,
      λ j u. get_or-append l.entry-items _ 0 j (omega arith) ∙ l.invariant.1 j (omega arith),
    )
