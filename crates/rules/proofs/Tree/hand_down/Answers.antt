-- One more operand in each turn; no two operands of a node are one.
use Rattle.std.proofs.Common.{◌≡◌, ℕ, ◌+◌, ◌<◌, List, refl, ap, ◌∙◌, length, arith}
use native.Mathlib.Decide.{ℕ_discrete}
use lib.ListN.{set, length-set}
use lib.Seq.{get_or-set_other}
use Rattle.finite.proofs.ListLaws.{stored}
use Rattle.sheet.specs.Bytes.{arity_at, operand}
use Rattle.sheet.proofs.SheetLaws.{operand_node}
use Rattle.rules.specs.Scope.{HandedDown}
use Rattle.rules.proofs.Tree.hand_down.Goals as goal

handed_none : (s : List ℕ) (i over : ℕ) (table : List ℕ) → HandedDown s i 0 over table table
handed_none s i over table = record { size = refl; operands = λ k l. absurd (omega arith); others = λ j other. refl }

handed_more : (s : List ℕ) (i m over : ℕ) (old new : List ℕ) → HandedDown s i m over old new → operand s i m < length new
    → HandedDown s i (m + 1) over old (set new (operand s i m) over)
handed_more s i m over old new d h = record {
  size = length-set new (operand s i m) over ∙ d.size;
  operands = λ k l. stored (λ _. over) 0 new (operand s i m) over h refl (operand s i k)
      (λ n. elim (ℕ_discrete k m) [ yes q ↦ absurd (n (ap (operand s i) q)) | no q ↦ d.operands k (omega (arith, q)) ]);
  others = λ j other. get_or-set_other new (operand s i m) j over 0 (other m (omega arith)) ∙ d.others j (λ k l. other k (omega arith));
}

pub loop-k-init : goal.loop-k-init
loop-k-init c = handed_none _ _ _ _

pub bounds-table-from : goal.bounds-table-from
bounds-table-from c =
    let t = c.args.self in
    let h = c.requires.i_bound in
    let b : c.loop-k.k < arity_at t.s.now c.args.i.0 = omega arith in
    rw (c.from.ensures, c.operand.ensures h b) (omega (arith, t.formed.few, operand_node t.formed _ h c.loop-k.k b))

pub loop-k-preserved : goal.loop-k-preserved
loop-k-preserved c =
    let t = c.args.self in
    let h = c.requires.i_bound in
    let b : c.loop-k.k < arity_at t.s.now c.args.i.0 = omega arith in
    rw (c.from.ensures, c.operand.ensures h b)
    (handed_more _ _ _ _ _ _ c.loop-k.invariant (omega (arith, t.formed.few, c.loop-k.invariant.size, operand_node t.formed _ h c.loop-k.k b)))

pub returns : goal.returns
returns c =
    let e : c.loop-k.k ≡ arity_at c.args.self.s.now c.args.i.0 = omega arith in
    rw e at c.loop-k.invariant
