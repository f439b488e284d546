-- A node's number is its parent's, and one more where the parent counts; it is there before the node is reached.
use Rattle.std.proofs.Common.{◌≡◌, ℕ, zero, suc, ◌+◌, ◌<◌, ◌≤◌, Bool, true, false, cond, refl, List, sym, ◌∙◌, get_or, arith}
use native.Mathlib.Decide.{ℕ_discrete}
use Rattle.std.specs.Int.{from_bool}
use lib.Seq.{get_or-set_same}
use Rattle.sheet.specs.Bytes.{nodes, arity_at, operand}
use Rattle.sheet.specs.Form.{Formed}
use Rattle.sheet.proofs.SheetLaws.{operand_later, parent, one_parent}
use Rattle.rules.specs.Scope.{over as over_of, counted, HandedDown}
use Rattle.rules.proofs.GuardLaws.{over_first, over_handed}
use Rattle.rules.proofs.FunctionLaws.{Reached, Small, Over}
use Rattle.rules.proofs.Tree.fill_overs.Goals as goal

module _ {s : List ℕ} (f : Formed s) (P : ℕ → ℕ → Type 0) where
  -- where the nodes before i are passed, the table is right at every node up to i
  passed_at : (i : ℕ) (table : List ℕ) → Reached s P i table → (j : ℕ) → j ≤ i → j < nodes s → P j (get_or table j 0)
  passed_at i table d zero l h = d.0
  passed_at i table d (suc j) l h =
      let r = parent f (suc j) (omega arith) h in
      rw r.4 at (d.1 r.0 r.1 (omega (arith, r.2)) r.3)

  passed_more : (i : ℕ) → i < nodes s → (old new : List ℕ) (over : ℕ) → ((k : ℕ) → k < arity_at s i → P (operand s i k) over)
      → Reached s P i old → HandedDown s i (arity_at s i) over old new → Reached s P (i + 1) new
  passed_more i h old new over e d n = (
    rw (n.others 0 (λ k l q. omega (arith, q, operand_later s i h k))) d.0,
    λ a k l b. elim (ℕ_discrete a i) [
      | yes q ↦ let b' = rw q at b in rw (q, n.operands k b') (e k b')
      | no q ↦ rw (n.others (operand s a k) (λ m u g. q (one_parent f a i (omega arith) h k m b u g).0)) (d.1 a k (omega (arith, q)) b)
    ],
  )

-- above a node's operands there is one more, if it counts
one_more : (b : Bool) → (from_bool b ≡ cond b 1 0) × (from_bool b ≤ 1)
one_more true = (refl, omega arith)
one_more false = (refl, omega arith)

pub loop-i-init : goal.loop-i-init
loop-i-init g c =
    let first = get_or-set_same c.args.table.now 0 0 0 (omega arith) in
    ((omega (arith, first), λ a k l. absurd (omega arith)), λ d t. (first ∙ sym (over_first _ _), λ a k l. absurd (omega arith)))

pub overflow_add-over : goal.overflow_add-over
overflow_add-over g c =
    let f = c.args.self.formed in
    let small : get_or c.loop-i.table c.from.result 0 ≤ c.loop-i.i =
    rw c.from.ensures (passed_at f Small _ c.loop-i.table c.loop-i.invariant.0 c.loop-i.i (omega arith) (omega arith)) in
    omega (arith, f.few, small, one_more c.counts.result)

pub loop-i-preserved : goal.loop-i-preserved
loop-i-preserved g c =
    let f = c.args.self.formed in
    let s = c.args.self.s.now in
    let l = c.loop-i in
    let small : get_or l.table c.from.result 0 ≤ l.i =
    rw c.from.ensures (passed_at f Small _ l.table l.invariant.0 l.i (omega arith) (omega arith)) in
    let one = c.from-in-loop-i.ensures ∙ (one_more c.counts.result).0 in (
      passed_more f Small _ (omega arith) _ _ _ (λ k b. omega (arith, small, c.from-in-loop-i.ensures, one_more c.counts.result, operand_later s l.i (omega arith) k)) l.invariant.0 c.hand_down.ensures,
      λ d t.
          let p = counted s d in
          let above : get_or l.table c.from.result 0 ≡ over_of s p l.i =
          rw c.from.ensures (passed_at f (Over s p) _ l.table (l.invariant.1 d t) l.i (omega arith) (omega arith)) in
          let passes : c.counts.result ≡ p l.i = t _ _ (omega arith) c.counts.ensures in
          passed_more f (Over s p) _ (omega arith) _ _ _ (λ k b. rw (above, one, passes) (sym (over_handed f p l.i (omega arith) k b))) (l.invariant.1 d t) c.hand_down.ensures,
    )

pub returns : goal.returns
returns g c d t j h = passed_at c.args.self.formed (Over _ (counted _ d)) _ c.loop-i.table (c.loop-i.invariant.1 d t) j (omega arith) h
