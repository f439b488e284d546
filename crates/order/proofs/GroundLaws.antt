-- The needs of a sound sheet come to an end: the one theorem that rests on the guard rule. Along a need two numbers fall. The first is how many
-- FBYs stand above the node: an operand of a node that is no FBY keeps it, a VAR of a REC lowers it, and a VAR of a definition does not raise it.
-- The second is the node's rank, which falls from a node to its operand and from a VAR to a definition.
use Prim.Native.Nat.{ℕ, suc, ◌≤◌, ◌<◌}
use mathlib.Core.Path.{◌≡◌, ◌∙◌}
use mathlib.Core.Logic.{◌⊎◌, inl, inr}
use mathlib.Core.Bool.{false}
use mathlib.Core.List.{List}
use native.Mathlib.Omega.{arith}
use Rattle.table.specs.Order.{Grounded}
use Rattle.table.proofs.OrderLaws.{rank₂_grounded}
use Rattle.sheet.specs.Bytes.{nodes, argument, arity_at, end_of, operand}
use Rattle.sheet.proofs.SheetLaws.{operand-next, operand_later, operand-within, lies-is, lies-inside}
use Rattle.rules.specs.Scope.{over, fby_at}
use Rattle.rules.specs.Check.{Sound}
use Rattle.rules.proofs.GuardLaws.{over_under, over-between, over_handed}
use Rattle.rules.proofs.RankLaws.{rank, rank_under, rank_before}
use Rattle.rules.proofs.CheckLaws.{scoped_of}
use Rattle.order.specs.Needs.{needs}
use Rattle.order.proofs.NeedsLaws.{Way, own, recursive, defined, way, needs-within}

module _ {s : List ℕ} (z : Sound s) where
  abbrev delays : ℕ → ℕ
  delays i = over s (fby_at s) i

  level : (i : ℕ) → i < nodes s → (k : ℕ) → k < arity_at s i → fby_at s i ≡ false → delays (operand s i k) ≡ delays i
  level i h k b n = rw n at (over_handed z.formed (fby_at s) i h k b) ∙ omega arith

  falls : (i j : ℕ) → i < nodes s → Way s i j → (delays j < delays i) ⊎ ((delays j ≤ delays i) × (rank s j < rank s i))
  falls i j h (own k b n e) =
      rw e (inr (
        omega (arith, level i h k b n),
        rank_under z.formed i h (operand s i k) (operand_later s i h k) (operand-within z.formed i h k b),
      ))
  falls i j h (recursive v r l e) =
      let g = z.guard i h v r in rw e (inl (over-between s (fby_at s) (argument s i) g.0 i g.1 g.2 g.3 g.4))
  falls i j h (defined b k l a n p e) =
      let under = over_under s (fby_at s) b i (lies-inside z.formed b l (suc k) a i p) in
      let past : end_of s (operand s b k) ≤ i = rw operand-next at (lies-is s b (suc k) i p).0 in
      rw e (inr (omega (arith, level b l k (omega arith) n), rank_before z.formed i h (operand s b k) past))

  pub needs-end : Grounded (nodes s) (needs s)
  needs-end =
      rank₂_grounded (nodes s) (needs s) delays (rank s)
      (record { within = needs-within z.formed (scoped_of z); falls = λ i h j m. falls i j h (way (scoped_of z) i h j m) })
