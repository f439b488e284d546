-- The slots over ticks: cells that hold what the FBYs answer at a tick lead to the tick's values and to the next tick's cells.
use Prim.Native.Nat.{ℕ, ◌+◌, ◌<◌}
use mathlib.Core.Path.{◌≡◌, refl}
use mathlib.Core.Bool.{true}
use mathlib.Core.List.{List}
use native.Mathlib.Numerals.{add-one}
use lib.IntN.{ℤ, pos}
use lib.ListN.{length}
use Rattle.finite.proofs.GatherLaws.{length-gather, gather-at, gather-same}
use Rattle.table.specs.Order.{Grounded}
use Rattle.sheet.specs.Bytes.{nodes, operand}
use Rattle.sheet.specs.Form.{Formed}
use Rattle.rules.specs.Scope.{fby_at}
use Rattle.rules.specs.Slots.{slot, slots}
use Rattle.rules.specs.Check.{Scoped}
use Rattle.order.specs.Needs.{needs}
use Rattle.meaning.specs.Equations.{literal, delayed, Solves, Means}
use Rattle.meaning.specs.Cells.{start_cells, next_cells, held, cells_at}
use Rattle.meaning.proofs.LocalLaws.{solves_held}
use Rattle.meaning.proofs.MeaningLaws.{tick_same, fby_operand}

module _ (s : List ℕ) where
  -- ---- a cell for each slot

  pub length-start : length (start_cells s) ≡ slots s
  unfolding start_cells slots
  length-start = length-gather (fby_at s) (literal s) (nodes s)

  pub length-next : (v : ℕ → ℤ) → length (next_cells s v) ≡ slots s
  unfolding next_cells slots
  length-next v = length-gather (fby_at s) (λ i. v (operand s i 0)) (nodes s)

  pub length_at : (X : ℕ → ℕ → ℤ) (t : ℕ) → length (cells_at s X t) ≡ slots s
  unfolding cells_at slots
  length_at X t = length-gather (fby_at s) (delayed s X t) (nodes s)

  -- ---- each FBY's value read from its slot

  module _ (i : ℕ) (l : i < nodes s) (e : fby_at s i ≡ true) where
    pub held_at : (X : ℕ → ℕ → ℤ) (t : ℕ) → held s (cells_at s X t) i ≡ delayed s X t i
    unfolding cells_at held slot
    held_at X t = gather-at (fby_at s) (delayed s X t) (pos 0) (nodes s) i l e

  -- ---- from tick to tick

  pub stream_start : (X : ℕ → ℕ → ℤ) → start_cells s ≡ cells_at s X 0
  unfolding start_cells cells_at delayed
  stream_start X = refl

module _ {s : List ℕ} (f : Formed s) (sc : Scoped s) (g : Grounded (nodes s) (needs s)) (rows : ℕ → List ℤ) (X : ℕ → ℕ → ℤ) (m : Means s rows X) where
  pub stream_step : (t : ℕ) (cells : List ℤ) (v : ℕ → ℤ) → cells ≡ cells_at s X t → Solves s (rows t) (held s cells) v →
      ((i : ℕ) → i < nodes s → v i ≡ X t i) × (next_cells s v ≡ cells_at s X (t + 1))
  unfolding next_cells cells_at delayed
  stream_step t cells v c p =
      let read : Solves s (rows t) (delayed s X t) v =
      solves_held s (rows t) (held s cells) (delayed s X t) v (λ i l e. rw c (held_at s i l e X t)) p in
      let same : (i : ℕ) → i < nodes s → v i ≡ X t i = tick_same s sc (rows t) (delayed s X t) g v (X t) read (m t) in (
        same,
        rw (add-one t) (gather-same (fby_at s) (fby_at s) _ _ (nodes s) (λ i l. refl) (λ i l e. same (operand s i 0) (fby_operand f i l e))),
      )
