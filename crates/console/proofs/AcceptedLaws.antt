-- What is known of an accepted sheet: it is sound, and Check's answer is its own.
use Rattle.std.proofs.Common.{◌≡◌, ℕ, List, Result, length, take, ap, ◌∙◌}
use Rattle.finite.proofs.ListLaws.{length_part}
use Rattle.sheet.proofs.RulingLaws.{passes_is}
use Rattle.sheet.specs.Ceilings.{max_nodes}
use Rattle.sheet.specs.Ruling.{passed}
use Rattle.sheet.specs.Bytes.{nodes, columns}
use Rattle.sheet.specs.declared.Refusal.{Refusal}
use Rattle.sheet.specs.declared.Sheet.{Sheet}
use Rattle.rules.specs.Types.{type_at}
use Rattle.rules.specs.Slots.{slots}
use Rattle.rules.specs.Check.{rules, sheet, Sound}
use Rattle.rules.proofs.CheckLaws.{rules_exactly}
use Rattle.order.specs.Orders.{RightOrder, HouseOrder}
use Rattle.engine.proofs.Demands.{house_given}
use Rattle.console.specs.declared.Accepted.{Accepted}

module _ (a : Accepted) where
  pub accepted : rules a.s.now ≡ passed
  accepted = (passes_is (rules a.s.now)).0 a.passes

  pub sound : Sound a.s.now
  sound = (rules_exactly a.s.now).0 accepted

  pub nodes_are : a.sheet.nodes ≡ nodes a.s.now
  unfolding sheet
  nodes_are = ap (λ (x : Sheet). x.nodes) a.answered

  pub columns_are : a.sheet.columns ≡ columns a.s.now
  unfolding sheet
  columns_are = ap (λ (x : Sheet). x.columns) a.answered

  pub slots_are : a.sheet.slots ≡ slots a.s.now
  unfolding sheet
  slots_are = ap (λ (x : Sheet). x.slots) a.answered

  pub root_is : a.sheet.root ≡ type_at a.s.now 0
  unfolding sheet
  root_is = ap (λ (x : Sheet). x.root) a.answered

-- a part of a local array, from its start

-- House order leaves a right order in one
pub right_order : (a : Accepted) (order : List ℕ) {new : List ℕ} {r : Result (Unit {0}) Refusal} → length order ≡ max_nodes →
    HouseOrder a.s.now (take a.sheet.nodes order) r new → RightOrder a.s.now new
right_order a order l k = (house_given k (sound a) (length_part order a.sheet.nodes max_nodes a.few_nodes l ∙ nodes_are a)).2
