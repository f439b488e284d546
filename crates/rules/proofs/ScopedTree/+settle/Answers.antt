-- Operands come first, left to right, so that a node's type goes by types that the table has.
use mathlib.Core.Path.{◌≡◌, refl, sym, ap, ◌∙◌}
use mathlib.Core.List.{List}
use Prim.Native.Nat.{ℕ, ◌+◌, ◌<◌, ◌≤◌}
use native.Mathlib.Decide.{ℕ_discrete, dec_lt}
use native.Mathlib.Omega.{arith}
use lib.ListN.{length, set, length-set}
use lib.Seq.{get_or-set_same, get_or-set_other}
use Rattle.sheet.specs.Bytes.{nodes, arity_at, end_of, operand}
use Rattle.sheet.specs.Form.{Formed}
use Rattle.sheet.specs.declared.ValueType.{ValueType}
use Rattle.sheet.specs.declared.ValueType.TheVariants.{Bool as bool}
use Rattle.sheet.proofs.SheetLaws.{end_nests, end_is, operand_first, operand-next, operand_later, operand-within, operand_node}
use Rattle.rules.specs.Types.{type_at, type_in, type_rule, SettledBefore, Settled}
use Rattle.rules.specs.Check.{Scoped}
use Rattle.rules.proofs.TypeLaws.{settled_here}
use Rattle.rules.proofs.ScopedTree.+settle.Goals as goal

-- ---- tables settled from one node to another

settled_none : (s : List ℕ) (a : ℕ) (t : List ValueType) → Settled s a a t t
settled_none s a t = record { size = refl; inside = λ j l u. absurd (omega arith); before = λ j l. refl }

settled_more : {s : List ℕ} {a b d : ℕ} {old mid new : List ValueType} → a ≤ b → Settled s a b old mid → Settled s b d mid new → Settled s a d old new
settled_more {b = b} h m n = record {
  size = n.size ∙ m.size;
  inside = λ j l u. elim (dec_lt j b) [ yes v ↦ n.before j v ∙ m.inside j l v | no v ↦ n.inside j (omega (arith, v)) u ];
  before = λ j l. n.before j (omega arith) ∙ m.before j l;
}

module _ {s : List ℕ} (f : Formed s) (i : ℕ) (h : i < nodes s) where
  -- where an operand starts
  starts : (next k : ℕ) → next ≡ operand s i k → k < arity_at s i → (i < next) × (next < end_of s i) × (next < nodes s)
  starts next k e b = rw e (operand_later s i h k, operand-within f i h k b, operand_node f i h k b)

  module _ (old mid : List ValueType) (start : SettledBefore s i old) where
    -- what ends before an operand is settled
    settled_next : (next : ℕ) → i < next → next < end_of s i → Settled s (i + 1) next old mid → SettledBefore s next mid
    settled_next next l u d j v w =
        elim (dec_lt i j) [
          | yes x ↦ d.inside j (omega arith) v
          | no x ↦ d.before j (omega (arith, x))
              ∙ start j
              (elim (ℕ_discrete j i) [ yes q ↦ absurd (omega (arith, ap (end_of s) q)) | no q ↦ omega (arith, x, q) ])
              (elim (dec_lt i (end_of s j)) [
                | yes y ↦ absurd (elim (ℕ_discrete j i) [ yes q ↦ omega (arith, ap (end_of s) q) | no q ↦ omega (arith, end_nests s j i (omega (arith, x, q)) y) ])
                | no y ↦ omega (arith, y)
              ])
        ]

    -- and after the last the node itself
    settled_all : Scoped s → Settled s (i + 1) (end_of s i) old mid → (t : ValueType) → t ≡ type_rule s i (type_in mid) → i < length mid
        → Settled s i (end_of s i) old (set mid i t)
    settled_all sc d t e b =
        let here : t ≡ type_at s i =
        e ∙ settled_here f sc i h (type_in mid) (λ j l u. d.inside j (omega arith) u) (λ j l u. d.before j (omega arith) ∙ start j l u) in
        record {
          size = length-set mid i t ∙ d.size;
          inside = λ j l u. elim (ℕ_discrete j i) [
            | yes q ↦ rw q (get_or-set_same mid i t bool b ∙ here)
            | no q ↦ get_or-set_other mid i j t bool q ∙ d.inside j (omega (arith, q)) u
          ];
          before = λ j l. get_or-set_other mid i j t bool (λ q. omega (arith, q)) ∙ d.before j (omega arith);
        }

pub loop-init : goal.loop-init
loop-init t c = (sym (operand_first _ _), settled_none _ _ _)

pub settle-requires : goal.settle-requires
settle-requires t c =
    let f = c.args.self.tree.formed in
    let p = c.requires in
    let l = c.loop in
    let n = starts f _ p.i_bound _ _ l.invariant.0 (omega arith) in
    (omega (arith, n), (n.2, settled_next f _ p.i_bound _ l.table p.settled_before _ n.0 n.1 l.invariant.1))

pub loop-preserved : goal.loop-preserved
loop-preserved t c =
    let s = c.args.self.tree.s.now in
    let i = c.args.i.0 in
    let l = c.loop in
    let n = starts c.args.self.tree.formed _ c.requires.i_bound _ _ l.invariant.0 (omega arith) in
    let e = c.end-next.ensures n.2 in
    (e ∙ ap (end_of s) l.invariant.0 ∙ sym (operand-next s i l.counter) ∙ ap (operand s i) (omega arith), rw e (settled_more (omega (arith, n)) l.invariant.1 c.settle.ensures))

pub returns : goal.returns
returns t c =
    let z = c.args.self in
    let p = c.requires in
    let l = c.loop in
    let all : arity_at z.tree.s.now c.args.i.0 ≡ l.counter = omega arith in
    let e = end_is _ _ p.i_bound ∙ ap (operand z.tree.s.now c.args.i.0) all ∙ sym l.invariant.0 in
    rw c.from.ensures
    (settled_all z.tree.formed _ p.i_bound _ l.table p.settled_before z.scoped (rw e l.invariant.1) _ c.type_by.ensures (omega arith))
