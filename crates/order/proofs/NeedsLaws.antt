-- Needs by their place in the list, for a loop over them, and the ways in which one node needs another.
use Prim.Native.Nat.{ℕ, suc, ◌<◌}
use mathlib.Core.Path.{◌≡◌, refl, sym, ◌∙◌}
use mathlib.Core.Bool.{true, false}
use mathlib.Core.List.{List, [], ◌∷◌}
use native.Mathlib.Omega.{arith}
use lib.ListN.{length, get_or}
use Rattle.finite.specs.Lists.{member}
use Rattle.finite.proofs.Tests.{not-both}
use Rattle.finite.proofs.MemberLaws.{member_where}
use Rattle.finite.proofs.GatherLaws.{length_gather_all, gather_all_at}
use Rattle.number.specs.Operators.{operands}
use Rattle.sheet.specs.Bytes.{nodes, kind_at, argument, arity, arity_at, is_var, is_fby, operand, lies}
use Rattle.sheet.specs.Form.{Formed}
use Rattle.sheet.specs.declared.Kind.{Kind}
use Rattle.sheet.specs.declared.Kind.TheVariants.{Const, Input, Var, Op, Fby, Rec, Let, Check, Contract, Unknown}
use Rattle.sheet.proofs.SheetLaws.{operand_node}
use Rattle.rules.specs.Scope.{fby_at, binds, is_rec}
use Rattle.rules.specs.Check.{Scoped}
use Rattle.rules.proofs.GuardLaws.{scoped-is}
use Rattle.order.specs.Needs.{named_need, needs_by, needs, need_count}

-- ---- how many needs a node of a kind has, and which stands at place k

abbrev pub need_by : List ℕ → (i : ℕ) → Kind → (k : ℕ) → ℕ
need_by s i (Const t) k = i
need_by s i Input k = i
need_by s i Var k = named_need s (argument s i) (kind_at s (argument s i))
need_by s i (Op o) k = operand s i k
need_by s i (Fby t) k = i
need_by s i (Rec t) k = operand s i 0
need_by s i Let k = operand s i 1
need_by s i Check k = operand s i 1
need_by s i Contract k = operand s i 1
need_by s i Unknown k = i

only : (x k : ℕ) → k < 1 → get_or (x ∷ []) k 0 ≡ x
only x k l = let e : k ≡ 0 = omega arith in rw e

module _ (s : List ℕ) (i : ℕ) where
  pub needs-count : (kind : Kind) → length (needs_by s i kind) ≡ need_count kind
  unfolding needs_by
  needs-count (Const t) = refl
  needs-count Input = refl
  needs-count Var = refl
  needs-count (Op o) = length_gather_all (operand s i) (operands o)
  needs-count (Fby t) = refl
  needs-count (Rec t) = refl
  needs-count Let = refl
  needs-count Check = refl
  needs-count Contract = refl
  needs-count Unknown = refl

  pub need_at : (kind : Kind) (k : ℕ) → k < need_count kind → get_or (needs_by s i kind) k 0 ≡ need_by s i kind k
  unfolding needs_by
  need_at (Const t) k l = absurd (omega arith)
  need_at Input k l = absurd (omega arith)
  need_at Var k l = only (named_need s (argument s i) (kind_at s (argument s i))) k l
  need_at (Op o) k l = gather_all_at (operand s i) (operands o) 0 k l
  need_at (Fby t) k l = absurd (omega arith)
  need_at (Rec t) k l = only (operand s i 0) k l
  need_at Let k l = only (operand s i 1) k l
  need_at Check k l = only (operand s i 1) k l
  need_at Contract k l = only (operand s i 1) k l
  need_at Unknown k l = absurd (omega arith)

  need_where : (j : ℕ) → member j (needs s i) ≡ true → (k : ℕ) × (k < need_count (kind_at s i)) × (need_by s i (kind_at s i) k ≡ j)
  unfolding needs
  need_where j m =
      let r = member_where j (needs s i) m in
      let l : r.0 < need_count (kind_at s i) = omega (arith, r.1, needs-count (kind_at s i)) in
      (r.0, l, sym (need_at (kind_at s i) r.0 l) ∙ r.2)

-- ---- the ways in which node i needs node j

pub data Way (s : List ℕ) (i j : ℕ) : Type 0 where
  -- j is an operand of i, which is no FBY
  own : (k : ℕ) → k < arity_at s i → fby_at s i ≡ false → j ≡ operand s i k → Way s i j
  -- j is the REC that the VAR i names
  recursive : is_var (kind_at s i) ≡ true → is_rec (kind_at s (argument s i)) ≡ true → argument s i < nodes s → j ≡ argument s i → Way s i j
  -- j is the operand of a LET or a CONTRACT before the one that i lies in
  defined : (b k : ℕ) → b < nodes s → suc k < arity_at s b → fby_at s b ≡ false → lies s b (suc k) i ≡ true → j ≡ operand s b k → Way s i j

module _ {s : List ℕ} (scope : Scoped s) (i : ℕ) (h : i < nodes s) where
  named : is_var (kind_at s i) ≡ true → (b : ℕ) → argument s i ≡ b → b < nodes s → (kind : Kind) → kind_at s b ≡ kind → binds s b kind i ≡ true → Way s i (named_need s b kind)
  unfolding binds named_need is_rec is_fby arity
  named v b a l (Const t) e p = not-both false p refl
  named v b a l Input e p = not-both false p refl
  named v b a l Var e p = not-both false p refl
  named v b a l (Op o) e p = not-both false p refl
  named v b a l (Fby t) e p = not-both false p refl
  named v b a l (Rec t) e p = recursive v (rw (a, e)) (rw a l) (sym a)
  named v b a l Let e p = defined b 0 l (rw e (omega arith)) (rw e) p refl
  named v b a l Check e p = not-both false p refl
  named v b a l Contract e p = defined b 1 l (rw e (omega arith)) (rw e) p refl
  named v b a l Unknown e p = not-both false p refl

  var_way : is_var (kind_at s i) ≡ true → Way s i (named_need s (argument s i) (kind_at s (argument s i)))
  var_way v =
      let b : ℕ = argument s i in
      let p = (scoped-is s b i).0 (scope i h v) in
      named v b refl p.0 (kind_at s b) refl p.1

  way_by : (kind : Kind) → kind_at s i ≡ kind → (k : ℕ) → k < need_count kind → Way s i (need_by s i kind k)
  unfolding is_var is_fby arity
  way_by (Const t) e k l = absurd (omega arith)
  way_by Input e k l = absurd (omega arith)
  way_by Var e k l = var_way (rw e)
  way_by (Op o) e k l = own k (rw e l) (rw e) refl
  way_by (Fby t) e k l = absurd (omega arith)
  way_by (Rec t) e k l = own 0 (rw e (omega arith)) (rw e) refl
  way_by Let e k l = own 1 (rw e (omega arith)) (rw e) refl
  way_by Check e k l = own 1 (rw e (omega arith)) (rw e) refl
  way_by Contract e k l = own 1 (rw e (omega arith)) (rw e) refl
  way_by Unknown e k l = absurd (omega arith)

  pub way : (j : ℕ) → member j (needs s i) ≡ true → Way s i j
  way j m = let r = need_where s i j m in rw r.2 at (way_by (kind_at s i) refl r.0 r.1)

-- needs are nodes
module _ {s : List ℕ} (f : Formed s) (scope : Scoped s) where
  way_node : (i j : ℕ) → i < nodes s → Way s i j → j < nodes s
  way_node i j h (own k b n e) = rw e (operand_node f i h k b)
  way_node i j h (recursive v r l e) = rw e l
  way_node i j h (defined b k l a n p e) = rw e (operand_node f b l k (omega arith))

  pub needs-within : (i : ℕ) → i < nodes s → (j : ℕ) → member j (needs s i) ≡ true → j < nodes s
  needs-within i h j m = way_node i j h (way scope i h j m)
