-- Laws of scope and guard. A node stands above the VARs that may name it; how many stand above a node and above its operands; and a FBY
-- stands strictly between a node and one under it exactly when more FBYs stand above the second.
use Prim.Native.Nat.{ℕ, ◌+◌, ◌≤◌, ◌<◌}
use mathlib.Core.Path.{◌≡◌, refl, sym, ap, ◌∙◌}
use mathlib.Core.Logic.{◌↔◌}
use mathlib.Core.Bool.{Bool, true, false, cond, ◌&&◌}
use mathlib.Core.List.{List}
use native.Mathlib.Decide.{ℕ_discrete, dec_lt}
use native.Mathlib.Omega.{arith}
use lib.Dec.{ltb}
use borrow.Author.Tests.{ltb-true, lt-ltb, le-ltb}
use Rattle.finite.specs.Lowest.{lowest}
use Rattle.finite.proofs.Tests.{by-test, not-both, fails, and_l, and_r, and_both, and_not_r}
use Rattle.finite.proofs.LowestLaws.{lowest-passes, lowest_least}
use Rattle.finite.proofs.CountLaws.{count_le, count_imp, count-more}
use Rattle.sheet.specs.Bytes.{nodes, kind_at, arity, arity_at, is_fby, operand, above, end_of}
use Rattle.sheet.specs.Form.{Formed}
use Rattle.sheet.specs.declared.Kind.{Kind}
use Rattle.sheet.specs.declared.Kind.TheVariants.{Const, Input, Var, Op, Fby, Rec, Let, Check, Contract, Unknown}
use Rattle.sheet.proofs.SheetLaws.{above-is, above_of, above_trans, lies-inside, over_root, over-operand}
use Rattle.rules.specs.Scope.{over, depth, fby_at, counted, binds, scoped, is_rec, between, guarded, Guarded}

-- ---- scope

-- the number that a VAR gives is a node's, and the VAR lies where that node binds
pub scoped-is : (s : List ℕ) (b i : ℕ) → (scoped s b i ≡ true) ↔ ((b < nodes s) × (binds s b (kind_at s b) i ≡ true))
unfolding scoped
scoped-is s b i =
    let node : Bool = ltb b (nodes s) in
    (λ e. (ltb-true b (nodes s) (and_l node _ e), and_r node _ e), λ e. and_both node _ (lt-ltb b (nodes s) e.0) e.1)

module _ {s : List ℕ} (f : Formed s) (b i : ℕ) (n : b < nodes s) where
  binds-above : (k : Kind) → kind_at s b ≡ k → binds s b k i ≡ true → above s b i ≡ true
  unfolding binds arity
  binds-above (Const t) e l = not-both false l refl
  binds-above Input e l = not-both false l refl
  binds-above Var e l = not-both false l refl
  binds-above (Op o) e l = not-both false l refl
  binds-above (Fby t) e l = not-both false l refl
  binds-above (Rec t) e l = lies-inside f b n 0 (rw e (omega arith)) i l
  binds-above Let e l = lies-inside f b n 1 (rw e (omega arith)) i l
  binds-above Check e l = not-both false l refl
  binds-above Contract e l = lies-inside f b n 2 (rw e (omega arith)) i l
  binds-above Unknown e l = not-both false l refl

-- a node stands above the VARs that may name it
pub scoped-above : {s : List ℕ} → Formed s → (b i : ℕ) → scoped s b i ≡ true → above s b i ≡ true
scoped-above {s} f b i e = let r = (scoped-is s b i).0 e in binds-above f b i r.0 (kind_at s b) refl r.1

-- ---- how many stand above: as the tables count, at the root, and from a node to its operands

module _ (s : List ℕ) where
  pub over_delays : (i : ℕ) → over s (counted s true) i ≡ over s (fby_at s) i
  unfolding counted
  over_delays i = refl

  pub depth-counted : (i : ℕ) → depth s i ≡ 1 + over s (counted s false) i
  unfolding depth counted
  depth-counted i = refl

  pub over_first : (p : ℕ → Bool) → over s p 0 ≡ 0
  unfolding over
  over_first = over_root s

  pub over_most : (p : ℕ → Bool) (i : ℕ) → over s p i ≤ nodes s
  unfolding over
  over_most p i = count_le (λ a. p a && above s a i) (nodes s)

  -- what stands above b stands above what b stands above, and what stands between is one more
  module _ (p : ℕ → Bool) where
    still_above : (b i : ℕ) → above s b i ≡ true → (a : ℕ) → (p a && above s a b) ≡ true → (p a && above s a i) ≡ true
    still_above b i e a t =
        let r : (b < i) × (i < end_of s b) = above-is s b i e in
        and_both (p a) _ (and_l (p a) _ t) (above_trans s a b i (and_r (p a) _ t) (omega (arith, r)) r.1)

    pub over_under : (b i : ℕ) → above s b i ≡ true → over s p b ≤ over s p i
    unfolding over
    over_under b i e = count_imp (λ a. p a && above s a b) (λ a. p a && above s a i) (nodes s) (λ a l. still_above b i e a)

    pub over-between : (b f i : ℕ) → f < nodes s → p f ≡ true → above s b f ≡ true → above s f i ≡ true → over s p b < over s p i
    unfolding over
    over-between b f i h t l u =
        let r : (f < i) × (i < end_of s f) = above-is s f i u in
        count-more (λ a. p a && above s a b) (λ a. p a && above s a i) (nodes s)
        (λ a _. still_above b i (above_trans s b f i l (omega (arith, r)) r.1) a) f h
        (and_not_r (p f) _ (fails (above s f b) (λ e. omega (arith, above-is s f b e, above-is s b f l))))
        (and_both (p f) _ t u)

pub over_handed : {s : List ℕ} → Formed s → (p : ℕ → Bool) (a : ℕ) → a < nodes s → (k : ℕ) → k < arity_at s a → over s p (operand s a k) ≡ over s p a + cond (p a) 1 0
unfolding over
over_handed f p a h k b = over-operand f a h k b p

-- ---- the guard

pub rec_no_fby : (k : Kind) → is_rec k ≡ true → is_fby k ≡ false
unfolding is_rec is_fby
rec_no_fby (Const t) e = refl
rec_no_fby Input e = refl
rec_no_fby Var e = refl
rec_no_fby (Op o) e = refl
rec_no_fby (Fby t) e = sym e
rec_no_fby (Rec t) e = refl
rec_no_fby Let e = refl
rec_no_fby Check e = refl
rec_no_fby Contract e = refl
rec_no_fby Unknown e = refl

module _ (s : List ℕ) (b i : ℕ) where
  between_is : (f : ℕ) → (between s b i f ≡ true) ↔ ((fby_at s f ≡ true) × (above s b f ≡ true) × (above s f i ≡ true))
  unfolding between
  between_is f =
      let below : Bool = fby_at s f && above s b f in (
        λ e. (and_l (fby_at s f) _ (and_l below _ e), and_r (fby_at s f) _ (and_l below _ e), and_r below _ e),
        λ e. and_both below _ (and_both (fby_at s f) _ e.0 e.1) e.2,
      )

  -- the test finds a FBY strictly between the two
  pub guarded-is : (guarded s b i ≡ true) ↔ Guarded s b i
  unfolding guarded
  guarded-is =
      let at : ℕ = lowest (between s b i) 0 (nodes s) in (
        λ e. let l : at < nodes s = ltb-true at (nodes s) e in
            let r = (between_is at).0 (lowest-passes (between s b i) 0 (nodes s) (omega arith)) in
            (at, l, r.0, r.1, r.2),
        λ g. lt-ltb at (nodes s) (omega (arith, g.1, lowest_least (between s b i) 0 (nodes s) g.0 (omega arith) ((between_is g.0).1 (g.2, g.3, g.4)))),
      )

  module _ (e : above s b i ≡ true) where
    -- without one between, the FBYs above i stand above b
    no_more : fby_at s b ≡ false → guarded s b i ≡ false → over s (fby_at s) i ≤ over s (fby_at s) b
    unfolding over
    no_more n u =
        count_imp (λ a. fby_at s a && above s a i) (λ a. fby_at s a && above s a b) (nodes s)
        (λ a l t. let y : fby_at s a ≡ true = and_l (fby_at s a) _ t in
        let x : (a < i) × (i < end_of s a) = above-is s a i (and_r (fby_at s a) _ t) in
        elim (dec_lt a b) [
          | yes v ↦ and_both (fby_at s a) _ y (above_of s a b v (omega (arith, x, above-is s b i e)))
          | no v ↦ elim (ℕ_discrete a b) [
            | yes q ↦ not-both (fby_at s b) (ap (fby_at s) (sym q) ∙ y) n
            | no q ↦ not-both (guarded s b i)
                (guarded-is.1 (a, l, y, above_of s b a (omega (arith, v, q)) (omega (arith, x, above-is s b i e)), and_r (fby_at s a) _ t)) u
          ]
        ])

    -- so a FBY is between exactly when more stand above i than above b
    pub guarded_counts : fby_at s b ≡ false → guarded s b i ≡ ltb (over s (fby_at s) b) (over s (fby_at s) i)
    guarded_counts n =
        by-test (guarded s b i)
        (λ t. t ∙ sym (lt-ltb _ _ (let g = guarded-is.0 t in over-between s (fby_at s) b g.0 i g.1 g.2 g.3 g.4)))
        (λ u. u ∙ sym (le-ltb _ _ (no_more n u)))
