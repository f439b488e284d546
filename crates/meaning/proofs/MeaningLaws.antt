-- Exactly one set of values meets the equations, of one tick and over ticks, and it is what any right order of work fills in.
use Prim.Native.Nat.{ℕ, zero, suc, ◌<◌}
use mathlib.Core.Path.{◌≡◌, refl, sym}
use mathlib.Core.Logic.{◌↔◌}
use mathlib.Core.Bool.{true}
use mathlib.Core.List.{List}
use native.Mathlib.Omega.{arith}
use lib.IntN.{ℤ, pos}
use lib.ListN.{length, replicate, length-replicate}
use Rattle.finite.proofs.Tests.{by-test}
use Rattle.table.specs.Order.{Grounded, house}
use Rattle.table.specs.Equations.{at, work}
use Rattle.table.specs.Streams.{Sound as SoundMachine, holds, vals_at, Means as MeansTable}
use Rattle.table.proofs.HouseLaws.{house_right}
use Rattle.table.proofs.TickLaws as tick
use Rattle.table.proofs.StreamLaws.{means_unique, means_one, run_means}
use Rattle.sheet.specs.Bytes.{nodes, kind_at, arity, operand}
use Rattle.sheet.specs.Form.{Formed}
use Rattle.sheet.proofs.SheetLaws.{operand_node}
use Rattle.rules.specs.Scope.{fby_at}
use Rattle.rules.specs.Check.{Scoped}
use Rattle.order.specs.Needs.{needs}
use Rattle.order.specs.Orders.{RightOrder}
use Rattle.meaning.specs.Equations.{delayed, Solves, Means}
use Rattle.meaning.specs.Local.{sides, machine}
use Rattle.meaning.proofs.LocalLaws.{fby_kind, local, solves_held, solves_iff}

-- ---- one tick

module _ (s : List ℕ) (sc : Scoped s) (row : List ℤ) (held : ℕ → ℤ) where
  -- a right order worked, over any values
  pub work_solves : (o : List ℕ) → RightOrder s o → (start : List ℤ) → length start ≡ nodes s →
      Solves s row held (at (pos 0) (work (pos 0) (sides s row held) o start))
  work_solves o r start l = (solves_iff s sc row held _).1 (tick.work_solves (pos 0) _ (nodes s) (needs s) (local s row held) o r start l)

  -- which one, and what the values held before, does not matter
  pub work-same : (o o' : List ℕ) → RightOrder s o → RightOrder s o' → (start start' : List ℤ) → length start ≡ nodes s → length start' ≡ nodes s →
      work (pos 0) (sides s row held) o start ≡ work (pos 0) (sides s row held) o' start'
  work-same = tick.work-same (pos 0) _ (nodes s) (needs s) (local s row held)

  module _ (g : Grounded (nodes s) (needs s)) where
    pub tick_same : (v w : ℕ → ℤ) → Solves s row held v → Solves s row held w → (i : ℕ) → i < nodes s → v i ≡ w i
    tick_same v w p q =
        tick.unique (nodes s) (needs s) g _ (local s row held) v w ((solves_iff s sc row held v).0 p) ((solves_iff s sc row held w).0 q)

    pub tick_one : (v : ℕ → ℤ) × Solves s row held v × ((w : ℕ → ℤ) → Solves s row held w → (i : ℕ) → i < nodes s → w i ≡ v i)
    tick_one =
        let m = work_solves (house (nodes s) (needs s)) (house_right (nodes s) (needs s) g) (replicate (nodes s) (pos 0)) (length-replicate (nodes s) (pos 0)) in
        (_, m, λ w q. tick_same w _ q m)

-- ---- over ticks

-- the operand of a FBY is a node
pub fby_operand : {s : List ℕ} → Formed s → (i : ℕ) → i < nodes s → fby_at s i ≡ true → operand s i 0 < nodes s
unfolding arity
fby_operand {s} f i l e = operand_node f i l 0 (rw (fby_kind (kind_at s i) e).1 (omega arith))

machine-sound : {s : List ℕ} → Formed s → SoundMachine (machine s)
unfolding machine
machine-sound {s} f =
    record {
      local = local s;
      remembers = λ i l m v w h. by-test (fby_at s i) (λ t. rw t (h (operand s i 0) (fby_operand f i l t))) (λ n. rw n);
    }

-- what a FBY remembers is what it answers
remembered : (s : List ℕ) (X : ℕ → ℕ → ℤ) (t i : ℕ) → fby_at s i ≡ true → holds (machine s) X t i ≡ delayed s X t i
unfolding machine holds delayed
remembered s X zero i e = refl
remembered s X (suc t) i e = rw e

means_iff : (s : List ℕ) → Scoped s → (rows : ℕ → List ℤ) (X : ℕ → ℕ → ℤ) → Means s rows X ↔ MeansTable (machine s) rows X
unfolding machine
means_iff s sc rows X =
    let mem : ℕ → ℕ → ℤ = holds (machine s) X in (
      λ m t. (solves_iff s sc (rows t) (mem t) (X t)).0 (solves_held s (rows t) (delayed s X t) (mem t) (X t) (λ i l e. sym (remembered s X t i e)) (m t)),
      λ m t. solves_held s (rows t) (mem t) (delayed s X t) (X t) (λ i l e. remembered s X t i e) ((solves_iff s sc (rows t) (mem t) (X t)).1 (m t)),
    )

module _ {s : List ℕ} (f : Formed s) (sc : Scoped s) (g : Grounded (nodes s) (needs s)) (rows : ℕ → List ℤ) where
  pub meaning_same : (X Y : ℕ → ℕ → ℤ) → Means s rows X → Means s rows Y → (t i : ℕ) → i < nodes s → X t i ≡ Y t i
  unfolding machine
  meaning_same X Y p q = means_unique (machine s) rows (machine-sound f) g X Y ((means_iff s sc rows X).0 p) ((means_iff s sc rows Y).0 q)

  pub meaning_one : (X : ℕ → ℕ → ℤ) × Means s rows X × ((Y : ℕ → ℕ → ℤ) → Means s rows Y → (t i : ℕ) → i < nodes s → Y t i ≡ X t i)
  unfolding machine
  meaning_one =
      let r = means_one (machine s) rows (machine-sound f) (pos 0) g in
      (r.0, (means_iff s sc rows r.0).1 r.1, λ Y q. r.2 Y ((means_iff s sc rows Y).0 q))

  -- a right order worked at each tick, a new one each time and over any values, gives the meaning
  pub orders_mean : (orders : ℕ → List ℕ) → ((t : ℕ) → RightOrder s (orders t)) → (lent : ℕ → List ℤ) → ((t : ℕ) → length (lent t) ≡ nodes s) →
      Means s rows (λ t. at (pos 0) (vals_at (machine s) (pos 0) rows orders lent t))
  unfolding machine
  orders_mean orders r lent l = (means_iff s sc rows _).1 (run_means (machine s) rows (machine-sound f) (pos 0) orders r lent l)
