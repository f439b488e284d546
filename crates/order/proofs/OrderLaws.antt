-- Right orders and the house order of a sheet: rule 15 passes exactly the right orders, a sound sheet has one, its house order is one, and at each
-- position has the lowest node that may stand there.
use Prim.Native.Nat.{ℕ, ◌≤◌, ◌<◌}
use mathlib.Core.Path.{◌≡◌, sym}
use mathlib.Core.Logic.{◌↔◌}
use mathlib.Core.Bool.{true, false}
use mathlib.Core.List.{List}
use native.Mathlib.Decide.{dec_lt}
use native.Mathlib.Omega.{arith}
use lib.ListN.{length, get_or, take}
use Rattle.finite.specs.Lists.{member}
use Rattle.finite.proofs.Tests.{not-both, fails}
use Rattle.finite.proofs.LowestLaws.{lowest-is}
use Rattle.table.specs.Order.{fit, misplaced, next}
use Rattle.table.proofs.OrderLaws.{right_exactly, right_fits, fit_under, fit_new, fit_needs, fit_of}
use Rattle.table.proofs.HouseLaws as table
use Rattle.sheet.specs.Bytes.{nodes}
use Rattle.sheet.specs.Ruling.{passed}
use Rattle.sheet.proofs.RulingLaws.{each-passed}
use Rattle.rules.specs.Check.{Sound}
use Rattle.order.specs.Needs.{needs}
use Rattle.order.specs.Orders.{RightOrder, house_order, ordered}
use Rattle.order.proofs.GroundLaws.{needs-end}

-- rule 15 passes exactly the right orders
pub ordered_exactly : (s order : List ℕ) → ((length order ≡ nodes s) × (ordered s order ≡ passed)) ↔ RightOrder s order
unfolding ordered
ordered_exactly s order =
    let tried = each-passed 15 (misplaced (nodes s) (needs s) order) 0 (nodes s) in
    let right = right_exactly (nodes s) (needs s) order in (
      λ t. right.1 (t.0, λ p h. tried.0 t.1 p (omega arith) (omega arith)),
      λ r. (r.entries, tried.1 (λ p _ h. (right.0 r).1 p (omega arith))),
    )

-- "not yet placed whose needs are all placed"
pub record Placeable (s placed : List ℕ) (i : ℕ) : Type 0 where
  pub node : i < nodes s
  pub new : member i placed ≡ false
  pub met : (j : ℕ) → member j (needs s i) ≡ true → member j placed ≡ true

-- "the lowest" such node
abbrev pub LowestPlaceable : (s placed : List ℕ) → ℕ → Type 0
LowestPlaceable s placed i = Placeable s placed i × ((j : ℕ) → Placeable s placed j → i ≤ j)

-- which is what the test of a position says
module _ (s placed : List ℕ) (i : ℕ) where
  fits_placeable : fit (nodes s) (needs s) placed i ≡ true → Placeable s placed i
  fits_placeable t =
      record { node = fit_under (nodes s) (needs s) placed i t; new = fit_new (nodes s) (needs s) placed i t; met = fit_needs (nodes s) (needs s) placed i t }

  placeable_fits : Placeable s placed i → fit (nodes s) (needs s) placed i ≡ true
  placeable_fits c = fit_of (nodes s) (needs s) placed i c.node c.new c.met

-- an order of N entries that has the lowest at each position is the house order
pub house_only : (s order : List ℕ) → length order ≡ nodes s
    → ((p : ℕ) → p < nodes s → LowestPlaceable s (take p order) (get_or order p 0)) → order ≡ house_order s
unfolding house_order next
house_only s order e low =
    table.house_only (nodes s) (needs s) order e (λ p h.
    let placed : List ℕ = take p order in
    let i : ℕ = get_or order p 0 in
    let r = low p h in
    sym (lowest-is (fit (nodes s) (needs s) placed) 0 (nodes s) i (omega arith) (omega (arith, r.0.node)) (placeable_fits s placed i r.0)
    (λ j _ l. fails (fit (nodes s) (needs s) placed j) (λ t. omega (arith, r.1 j (fits_placeable s placed j t))))))

module _ {s : List ℕ} (z : Sound s) where
  pub house_right : RightOrder s (house_order s)
  unfolding house_order
  house_right = table.house_right (nodes s) (needs s) (needs-end z)

  pub order_exists : (order : List ℕ) × RightOrder s order
  order_exists = (house_order s, house_right)

  -- and the house order does
  pub house-lowest : (p : ℕ) → p < nodes s → LowestPlaceable s (take p (house_order s)) (get_or (house_order s) p 0)
  unfolding house_order
  house-lowest p h =
      let o : List ℕ = house_order s in (
        fits_placeable s (take p o) (get_or o p 0) (right_fits (nodes s) (needs s) o house_right p (omega (arith, house_right.entries))),
        λ j c. elim (dec_lt j (get_or o p 0)) [
          | yes l ↦ not-both (fit (nodes s) (needs s) (take p o) j) (placeable_fits s (take p o) j c) (table.house-lowest (nodes s) (needs s) p h j l)
          | no l ↦ omega (arith, l)
        ],
      )
