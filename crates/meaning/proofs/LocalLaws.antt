-- The local equations look at needs alone and have the solutions of document 01's equations, in which what is held counts at FBYs alone.
use Prim.Native.Nat.{ℕ, ◌<◌}
use mathlib.Core.Path.{◌≡◌, refl, sym, ◌∙◌}
use mathlib.Core.Logic.{◌↔◌}
use mathlib.Core.Bool.{true, false}
use mathlib.Core.List.{List, []}
use lib.Dec.{ltb}
use lib.IntN.{ℤ}
use borrow.Author.Tests.{ltb-true}
use Rattle.finite.specs.Lists.{member}
use Rattle.finite.proofs.Tests.{not-both, and_l}
use Rattle.finite.proofs.MemberLaws.{snoc_new}
use Rattle.finite.proofs.GatherLaws.{gather-member}
use Rattle.number.specs.Operators.{operands}
use Rattle.number.proofs.OperatorLaws.{applied-same}
use Rattle.table.specs.Equations.{Local, Solves as SolvesTable}
use Rattle.sheet.specs.Bytes.{nodes, kind_at, argument, operand, is_var, is_fby}
use Rattle.sheet.specs.declared.ValueType.{ValueType}
use Rattle.sheet.specs.declared.Kind.{Kind}
use Rattle.sheet.specs.declared.Kind.TheVariants.{Const, Input, Var, Op, Fby, Rec, Let, Check, Contract, Unknown}
use Rattle.rules.specs.Scope.{fby_at, scoped}
use Rattle.rules.specs.Check.{Scoped}
use Rattle.order.specs.Needs.{named_need, needs_by, needs}
use Rattle.meaning.specs.Equations.{source, value_by, value, Solves}
use Rattle.meaning.specs.Local.{local_by, local_value, sides}

-- a FBY is one of some type
pub fby_kind : (k : Kind) → is_fby k ≡ true → (t : ValueType) × (k ≡ Fby t)
unfolding is_fby
fby_kind (Const t) e = not-both false e refl
fby_kind Input e = not-both false e refl
fby_kind Var e = not-both false e refl
fby_kind (Op o) e = not-both false e refl
fby_kind (Fby t) e = (t, refl)
fby_kind (Rec t) e = not-both false e refl
fby_kind Let e = not-both false e refl
fby_kind Check e = not-both false e refl
fby_kind Contract e = not-both false e refl
fby_kind Unknown e = not-both false e refl

module _ (s : List ℕ) (row : List ℤ) where
  -- ---- right sides look at needs alone

  by_needs : (d : ℤ) (v w : ℕ → ℤ) (i : ℕ) (k : Kind) → ((j : ℕ) → member j (needs_by s i k) ≡ true → v j ≡ w j) →
      local_by s row d v i k ≡ local_by s row d w i k
  unfolding local_by value_by needs_by is_var
  by_needs d v w i (Const t) h = refl
  by_needs d v w i Input h = refl
  by_needs d v w i Var h = h _ (snoc_new [] _)
  by_needs d v w i (Op o) h =
      applied-same o (λ k. v (operand s i k)) (λ k. w (operand s i k)) (λ k l. h _ (gather-member (λ k. true) (operand s i) (operands o) k l refl))
  by_needs d v w i (Fby t) h = refl
  by_needs d v w i (Rec t) h = h _ (snoc_new [] _)
  by_needs d v w i Let h = h _ (snoc_new [] _)
  by_needs d v w i Check h = h _ (snoc_new [] _)
  by_needs d v w i Contract h = h _ (snoc_new [] _)
  by_needs d v w i Unknown h = refl

  pub local : (held : ℕ → ℤ) → Local (nodes s) (needs s) (sides s row held)
  unfolding local_value needs
  local held i l v w h = by_needs (held i) v w i (kind_at s i) h

  -- ---- what is held counts at FBYs alone

  by_held : (v : ℕ → ℤ) (i : ℕ) (d e : ℤ) (k : Kind) → (is_fby k ≡ true → d ≡ e) → value_by s row d v i k ≡ value_by s row e v i k
  unfolding value_by is_fby
  by_held v i d e (Const t) h = refl
  by_held v i d e Input h = refl
  by_held v i d e Var h = refl
  by_held v i d e (Op o) h = refl
  by_held v i d e (Fby t) h = h refl
  by_held v i d e (Rec t) h = refl
  by_held v i d e Let h = refl
  by_held v i d e Check h = refl
  by_held v i d e Contract h = refl
  by_held v i d e Unknown h = refl

  pub solves_held : (held held' v : ℕ → ℤ) → ((i : ℕ) → i < nodes s → fby_at s i ≡ true → held i ≡ held' i) → Solves s row held v → Solves s row held' v
  unfolding value
  solves_held held held' v same m i l = m i l ∙ by_held v i (held i) (held' i) (kind_at s i) (same i l)

-- ---- the same solutions

-- VARs name nodes
pub named : (s : List ℕ) → Scoped s → (i : ℕ) → i < nodes s → is_var (kind_at s i) ≡ true → argument s i < nodes s
unfolding scoped
named s sc i l e = ltb-true (argument s i) (nodes s) (and_l (ltb (argument s i) (nodes s)) _ (sc i l e))

module _ (s : List ℕ) (sc : Scoped s) (row : List ℤ) (held v : ℕ → ℤ) where
  -- a REC has its operand's value: what both forms say of it
  abbrev Recs : Type 0
  Recs = (b : ℕ) → b < nodes s → (t : ValueType) → kind_at s b ≡ Rec t → v b ≡ v (operand s b 0)

  named-same : Recs → (b : ℕ) → b < nodes s → (k : Kind) → kind_at s b ≡ k → v (named_need s b k) ≡ v (source s b k)
  unfolding named_need source
  named-same r b l (Const t) e = refl
  named-same r b l Input e = refl
  named-same r b l Var e = refl
  named-same r b l (Op o) e = refl
  named-same r b l (Fby t) e = refl
  named-same r b l (Rec t) e = r b l t e
  named-same r b l Let e = refl
  named-same r b l Check e = refl
  named-same r b l Contract e = refl
  named-same r b l Unknown e = refl

  by_kind : Recs → (i : ℕ) → i < nodes s → (d : ℤ) (k : Kind) → kind_at s i ≡ k → local_by s row d v i k ≡ value_by s row d v i k
  unfolding local_by value_by is_var
  by_kind r i l d (Const t) e = refl
  by_kind r i l d Input e = refl
  by_kind r i l d Var e = named-same r (argument s i) (named s sc i l (rw e)) (kind_at s (argument s i)) refl
  by_kind r i l d (Op o) e = refl
  by_kind r i l d (Fby t) e = refl
  by_kind r i l d (Rec t) e = refl
  by_kind r i l d Let e = refl
  by_kind r i l d Check e = refl
  by_kind r i l d Contract e = refl
  by_kind r i l d Unknown e = refl

  pub solves_iff : Solves s row held v ↔ SolvesTable (nodes s) (sides s row held) v
  unfolding value local_value local_by value_by is_var
  solves_iff = (
    λ m i l. m i l ∙ sym (by_kind (λ b h t e. m b h ∙ rw e) i l (held i) (kind_at s i) refl),
    λ m i l. m i l ∙ by_kind (λ b h t e. m b h ∙ rw e) i l (held i) (kind_at s i) refl,
  )
