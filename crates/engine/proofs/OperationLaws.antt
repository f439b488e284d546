-- How an operation's tests and work come together in its contract: Check's answer gives the sheet's rules, the tests give the rest.
use Prim.Native.Nat.{ℕ, ◌≤◌}
use mathlib.Core.Path.{◌≡◌, refl, sym, ap, ◌∙◌}
use mathlib.Core.Bool.{true}
use mathlib.Core.List.{List}
use native.Mathlib.Omega.{arith}
use Rattle.std.proofs.Common.{Result, Ok, Err}
use lib.IntN.{ℤ, pos}
use lib.ListN.{length}
use borrow.Author.Tests.{ne_eqb}
use Rattle.table.specs.Equations.{at}
use Rattle.sheet.specs.Ceilings.{max_nodes, max_slots}
use Rattle.sheet.specs.Ruling.{Ruling, passed, refused, passes, rule, lent, ◌then◌, at_end, answer, accepted, turned, number_of, place_of}
use Rattle.sheet.specs.Bytes.{nodes}
use Rattle.sheet.specs.declared.Sheet.{Sheet}
use Rattle.sheet.specs.declared.Refusal.{Refusal}
use Rattle.sheet.specs.declared.Refusal.TheVariants.{Lent as WrongLength}
use Rattle.sheet.specs.declared.Lent.TheVariants.{Cells}
use Rattle.rules.specs.Slots.{slots}
use Rattle.rules.specs.Check.{rules, sheet, check, Sound, Tables}
use Rattle.rules.proofs.CheckLaws.{rules_exactly, check_exactly, check-turned}
use Rattle.order.specs.Needs.{Given}
use Rattle.meaning.specs.Cells.{start_cells}
use Rattle.engine.specs.Operations.{start_rules, Start, tick_tests, tick_rules, answer_of, Worked, Tick, run_tests, run_rules, WorkedAll, Run}
use Rattle.engine.specs.declared.Answer.{Answer}

-- ---- an accepted sheet

module _ (s : List ℕ) (z : Sheet) (e : accepted z ≡ check s) where
  pub sound_by : Sound s
  sound_by = ((check_exactly s z).0 (sym e)).0

  pub size_by : z ≡ sheet s
  size_by = sym ((check_exactly s z).0 (sym e)).1

  pub rules_by : rules s ≡ passed
  rules_by = (rules_exactly s).1 sound_by

  pub passes_by : passes (rules s) ≡ true
  unfolding passes
  passes_by = rw rules_by

  pub given_by : {ends slotted : List ℕ} → (rules s ≡ passed → Tables s ends slotted) → Given s ends
  given_by t = record { sound = sound_by; ends = (t rules_by).ends }

  pub nodes_by : z.nodes ≡ nodes s
  unfolding sheet
  nodes_by = ap (λ (x : Sheet). x.nodes) size_by

  pub slots_by : z.slots ≡ slots s
  unfolding sheet
  slots_by = ap (λ (x : Sheet). x.slots) size_by

  pub few_nodes : z.nodes ≤ max_nodes
  few_nodes = omega (arith, nodes_by, sound_by.formed.few)

  pub few_slots : z.slots ≤ max_slots
  few_slots = omega (arith, slots_by, sound_by.few)

-- rules that follow those of the sheet
module _ (s : List ℕ) (tests : Ruling) where
  pub after_refusal : (number place : ℕ) → turned number place ≡ check s → rules s then tests ≡ refused number place
  unfolding ◌then◌
  after_refusal number place e = rw (check-turned s number place e)

  pub after-rules : {z : Sheet} → accepted z ≡ check s → rules s then tests ≡ tests
  unfolding ◌then◌
  after-rules {z} e = rw (rules_by s z e)

-- ---- Start

module _ (s : List ℕ) (old : List ℤ) where
  pub start_refused : (r : Refusal) → turned (number_of r) (place_of r) ≡ check s → Start s old (Err r) old
  unfolding start_rules at_end
  start_refused r e = let q = after_refusal s (lent Cells (length old) (slots s)) _ _ e in record { answer = rw q; cells = rw q }

  module _ {z : Sheet} (e : accepted z ≡ check s) where
    sized : rules s then lent Cells (length old) (slots s) ≡ lent Cells (length old) z.slots
    sized = after-rules s _ e ∙ ap (lent Cells (length old)) (sym (slots_by s z e))

    pub start_turned : (r : Refusal) → refused (number_of r) (place_of r) ≡ lent Cells (length old) z.slots → Start s old (Err r) old
    unfolding start_rules at_end
    start_turned r t = let q = sized ∙ sym t in record { answer = rw q; cells = rw q }

    pub start-lent : (length old ≡ z.slots → ⊥) → Start s old (Err (WrongLength Cells)) old
    unfolding rule
    start-lent n = start_turned (WrongLength Cells) (rw (ne_eqb (length old) z.slots n))

    pub start_done : passed ≡ lent Cells (length old) z.slots → (new : List ℤ) → new ≡ start_cells s → Start s old (Ok tt) new
    unfolding start_rules at_end
    start_done t new w = let q = sized ∙ sym t in record { answer = rw q; cells = rw q w }

-- ---- Tick

module _ (s : List ℕ) (row cells : List ℤ) (order : List ℕ) (values : List ℤ) where
  refused_by : (r : Refusal) → tick_rules s row cells order (length values) ≡ refused (number_of r) (place_of r) → Tick s row cells order values (Err r) cells values
  unfolding answer
  refused_by r q = record { answer = rw q; left = rw q (refl, refl) }

  pub tick_refused : (r : Refusal) → turned (number_of r) (place_of r) ≡ check s → Tick s row cells order values (Err r) cells values
  unfolding tick_rules
  tick_refused r e = refused_by r (after_refusal s _ _ _ e)

  module _ {z : Sheet} (e : accepted z ≡ check s) where
    pub tick_turned : (r : Refusal) → refused (number_of r) (place_of r) ≡ tick_tests s row cells order (length values) → Tick s row cells order values (Err r) cells values
    unfolding tick_rules
    tick_turned r t = refused_by r (after-rules s _ e ∙ sym t)

    pub tick_passed : passed ≡ tick_tests s row cells order (length values) → tick_rules s row cells order (length values) ≡ passed
    unfolding tick_rules
    tick_passed t = after-rules s _ e ∙ sym t

    pub tick_done : passed ≡ tick_tests s row cells order (length values) → (cells' values' : List ℤ) (a : Answer) → Worked s row cells cells' values' →
        a ≡ answer_of s (at (pos 0) values') → Tick s row cells order values (Ok a) cells' values'
    unfolding answer
    tick_done t cells' values' a w q = let p = tick_passed t in record { answer = rw (p, q); left = rw p w }

-- ---- Run

module _ (s : List ℕ) (rows old : List ℤ) where
  ended_by : (r : Refusal) → run_rules s rows (length old) ≡ refused (number_of r) (place_of r) → Run s rows old (Err r) old
  ended_by r q = record { left = rw q (refl, refl) }

  pub run_refused : (r : Refusal) → turned (number_of r) (place_of r) ≡ check s → Run s rows old (Err r) old
  unfolding run_rules
  run_refused r e = ended_by r (after_refusal s _ _ _ e)

  module _ {z : Sheet} (e : accepted z ≡ check s) where
    pub run_turned : (r : Refusal) → refused (number_of r) (place_of r) ≡ run_tests s rows (length old) → Run s rows old (Err r) old
    unfolding run_rules
    run_turned r t = ended_by r (after-rules s _ e ∙ sym t)

    pub run_passed : passed ≡ run_tests s rows (length old) → run_rules s rows (length old) ≡ passed
    unfolding run_rules
    run_passed t = after-rules s _ e ∙ sym t

    pub run_done : passed ≡ run_tests s rows (length old) → (r : Result ℕ Refusal) (new : List ℤ) → WorkedAll s rows (length old) r new → Run s rows old r new
    run_done t r new w = record { left = rw (run_passed t) w }
