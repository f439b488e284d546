-- Check's refusal is the answer; else the lent slice has as many entries as the sheet has nodes, or is refused; else it is filled.
use Rattle.std.proofs.Common.{Ok, Err, ◌≡◌, ℕ, List, length, sym, ap, ◌∙◌, eq-eqb, ne_eqb}
use Rattle.std.proofs.lemmas.Result.{err_from_is_err_and}
use Rattle.sheet.specs.Ruling.{rule, at_end, ◌then◌, passed, turned, accepted, number_of, place_of}
use Rattle.sheet.specs.Bytes.{nodes}
use Rattle.sheet.specs.declared.Sheet.{Sheet}
use Rattle.sheet.specs.declared.Refusal.{Refusal}
use Rattle.sheet.specs.declared.Refusal.TheVariants.{Lent}
use Rattle.sheet.specs.declared.Lent.TheVariants.{Order}
use Rattle.rules.specs.Check.{rules, sheet, check, Tables, Sound}
use Rattle.rules.proofs.CheckLaws.{rules_exactly, check_exactly, check-turned}
use Rattle.order.specs.Needs.{Given}
use Rattle.order.specs.Orders.{house_order, house_rules, HouseOrder}
use Rattle.order.proofs.house_order.Goals as goal

module _ (s old : List ℕ) where
  refused_sheet : (r : Refusal) → turned (number_of r) (place_of r) ≡ check s → HouseOrder s old (Err r) old
  unfolding house_rules at_end ◌then◌
  refused_sheet r e = let q = check-turned s (number_of r) (place_of r) e in record { answer = rw q; order = rw q }

  module _ (z : Sheet) (e : accepted z ≡ check s) where
    sound : Sound s
    sound = ((check_exactly s z).0 (sym e)).0

    as_many : z.nodes ≡ nodes s
    unfolding sheet
    as_many = ap (λ (x : Sheet). x.nodes) (sym ((check_exactly s z).0 (sym e)).1)

    refused_order : (length old ≡ z.nodes → ⊥) → HouseOrder s old (Err (Lent Order)) old
    unfolding house_rules rule at_end ◌then◌
    refused_order n =
        let r = (rules_exactly s).1 sound in
        let b = ne_eqb (length old) (nodes s) (λ x. n (x ∙ sym as_many)) in
        record { answer = rw (r, b); order = rw (r, b) }

    filled : (ends slotted new : List ℕ) → (rules s ≡ passed → Tables s ends slotted) → (Given s ends → length old ≡ nodes s → new ≡ house_order s)
        → length old ≡ z.nodes → HouseOrder s old (Ok tt) new
    unfolding house_rules rule at_end ◌then◌
    filled ends slotted new tables fill l =
        let r = (rules_exactly s).1 sound in
        let b = eq-eqb (length old) (nodes s) (l ∙ as_many) in
        record { answer = rw (r, b); order = rw (r, b) (fill (record { sound = sound; ends = (tables r).ends }) (l ∙ as_many)) }

pub returns-in_err-z : goal.returns-in_err-z
returns-in_err-z c =
    let p = err_from_is_err_and c.from_residual.result c.from_residual.ensures.1 in
    rw (p.1, p.2) (refused_sheet _ _ _ c.in_err-z.ensures.result_value)

pub returns-then-order-z : goal.returns-then-order-z
returns-then-order-z c = refused_order _ _ _ c.in_ok-z.ensures.result_value c.if-order-z.true

pub returns : goal.returns
returns c = filled _ _ _ c.in_ok-z.ensures.result_value _ _ _ c.in_ok-z.ensures.tables c.fill_house.ensures c.if-order-z.false
