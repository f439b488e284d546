-- Rules 1 to 6, then 7 to 10, then 11: each row that passes leaves the next; the first that does not is the answer.
use Rattle.std.proofs.Common.{◌≡◌, List, ℕ, sym, arith}
use Rattle.sheet.specs.Ruling.{passed, answer}
use Rattle.sheet.specs.Form.{Formed, form}
use Rattle.sheet.proofs.RulingLaws.{then_refused, then_next}
use Rattle.sheet.proofs.FormLaws.{form_iff}
use Rattle.rules.specs.Check.{rules, sheet, check}
use Rattle.rules.proofs.FunctionLaws.{turned_away}
use Rattle.rules.proofs.judge.Goals as goal

formed_by : {s : List ℕ} → passed ≡ form s → Formed s
formed_by e = (form_iff _).0 (sym e)

pub invariant_of-tree : goal.invariant_of-tree
invariant_of-tree c =
    let f = formed_by c.in_ok-form.ensures in
    record { formed = f; ended = c.fill_ends.ensures f }

pub returns-in_err-form-clause-result_value : goal.returns-in_err-form-clause-result_value
unfolding rules
returns-in_err-form-clause-result_value c =
    turned_away _ _ _ c.from_residual.ensures.1 (then_refused _ _ _ _ c.in_err-form.ensures)

pub returns-in_err-tree_rules-clause-result_value :
    goal.returns-in_err-tree_rules-clause-result_value
unfolding rules
returns-in_err-tree_rules-clause-result_value c =
    turned_away _ _ _ c.from_residual-in_err-tree_rules.ensures.1
    (then_next _ _ _ c.in_ok-form.ensures (then_refused _ _ _ _ c.in_err-tree_rules.ensures.result_value))

pub returns-in_err-ruled-clause-result_value : goal.returns-in_err-ruled-clause-result_value
unfolding rules
returns-in_err-ruled-clause-result_value c =
    turned_away _ _ _ c.from_residual-in_err-ruled.ensures.1
    (then_next _ _ _ c.in_ok-form.ensures (then_next _ _ _ c.in_ok-tree_rules.ensures.result_value c.in_err-ruled.ensures))

pub returns-clause-result_value : goal.returns-clause-result_value
unfolding check answer sheet rules
returns-clause-result_value c =
    let f = formed_by c.in_ok-form.ensures in
    let t = c.in_ok-tree_rules.ensures.result_value in
    let e : passed ≡ rules c.args.s.now = then_next _ _ _ c.in_ok-form.ensures (then_next _ _ _ t c.in_ok-ruled.ensures) in
    rw (← e, c.nodes.ensures, c.columns.ensures.0, (c.fill_slots-slots.ensures f.few).0, c.tree_rules.ensures.typed (sym t) 0 (omega (arith, f.some)))
