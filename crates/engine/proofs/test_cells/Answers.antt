-- Before node i come slot s i slots, and none of them breaks the rule.
use Rattle.std.proofs.Common.{◌≡◌, ℕ, ◌+◌, ◌<◌, true, List, get_or, ℤ, pos, sym, zero-le, arith, rules, below_more}
use Rattle.finite.proofs.Tests.{by-test}
use Rattle.finite.proofs.CountLaws.{count_lt, count_step_yes, count_step_no}
use Rattle.finite.proofs.GatherLaws.{gather-at}
use Rattle.sheet.specs.Bytes.{nodes, kind_at, is_fby}
use Rattle.sheet.specs.declared.ValueType.{ValueType}
use Rattle.sheet.specs.declared.ValueType.TheVariants.{Int as int}
use Rattle.sheet.specs.declared.Kind.TheVariants.{Fby}
use Rattle.sheet.proofs.RulingLaws.{each_passes, each_refused}
use Rattle.rules.specs.Scope.{fby_at}
use Rattle.rules.specs.Types.{type_at}
use Rattle.rules.specs.Slots.{slot, slots}
use Rattle.rules.proofs.TypeLaws.{fby_type}
use Rattle.meaning.proofs.LocalLaws.{fby_kind}
use Rattle.engine.specs.Rows.{faulty, slot_types, bad_cell, cell_rule}
use Rattle.engine.proofs.test_cells.Goals as goal
use Rattle.engine.proofs.test_cells.Goals.{in-Fby+else-faulty, in_default}

-- a FBY has a slot, and what is found of the cell there
module _ (s : List ℕ) (i : ℕ) {t : ValueType} (e : kind_at s i ≡ Fby t) where
  fby_here : fby_at s i ≡ true
  unfolding is_fby
  fby_here = rw e

  slot_under : i < nodes s → slot s i < slots s
  unfolding slot slots
  slot_under h = count_lt (fby_at s) (nodes s) i h fby_here

  slot_next : slot s (i + 1) ≡ slot s i + 1
  unfolding slot
  slot_next = count_step_yes (fby_at s) i fby_here

  bad_here : (cells : List ℤ) → i < nodes s → bad_cell s cells (slot s i) ≡ faulty t (get_or cells (slot s i) (pos 0))
  unfolding bad_cell slot_types slot
  bad_here cells h = rw (gather-at (fby_at s) (type_at s) int (nodes s) i h fby_here, fby_type s i t e)

-- another node has none
no_slot : (s : List ℕ) (i : ℕ) → ((t : ValueType) → kind_at s i ≡ Fby t → ⊥) → slot s (i + 1) ≡ slot s i
unfolding slot
no_slot s i other =
    count_step_no (fby_at s) i (by-test (fby_at s i) (λ t. let (u, e) = fby_kind (kind_at s i) t in absurd (other u e)) (λ f. f))

pub returns-then-faulty : goal.returns-then-faulty
unfolding cell_rule
returns-then-faulty c =
    let e = sym c.in-Fby.ensures in
    let i : c.loop-i.i < nodes c.args.s.now = omega arith in
    let under = slot_under _ _ e i in
    let bad = bad_here _ _ e c.args.cells.now i in
    each_refused _ _ _ _ _ zero-le (omega (arith, c.loop-i.invariant.1)) (search (rules, bad)) (λ k _ l. c.loop-i.invariant.2 k l)

pub loop-i-preserved : goal.loop-i-preserved
loop-i-preserved c =
    let inv = c.loop-i.invariant in
    elim c.match-kind_at.branch [
      | in-Fby+else-faulty w ↦
          let e : kind_at c.args.s.now c.loop-i.i ≡ Fby w.in-Fby.t = sym w.in-Fby.ensures in
          let i : c.loop-i.i < nodes c.args.s.now = omega arith in
          let bad = bad_here _ _ e c.args.cells.now i in
          rw w.j-is (omega arith, omega (arith, slot_next _ _ e), below_more _ _ inv.2 (search (rules, bad)))
      | in_default w ↦ rw w.j-is (omega arith, omega (arith, no_slot _ _ (rw c.kind_at.ensures at w.in_default.not-Fby)), inv.2)
    ]

pub returns : goal.returns
unfolding cell_rule slots slot
returns c = each_passes _ _ _ _ (λ k _ l. c.loop-i.invariant.2 k (search rules))
