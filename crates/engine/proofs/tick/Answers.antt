-- Check's refusal is the answer, then that of the tests; else the tick is worked, and the answer is read off its values.
use Rattle.std.proofs.lemmas.Result.{err_from_is_err_and}
use Rattle.engine.proofs.RuleLaws.{tick_exactly}
use Rattle.engine.proofs.OperationLaws.{size_by, rules_by, passes_by, given_by, tick_refused, tick_turned, tick_passed, tick_done}
use Rattle.engine.proofs.tick.Goals as goal

pub test_tick-requires-clause-given : goal.test_tick-requires-clause-given
test_tick-requires-clause-given c = given_by _ _ c.in_ok-z.ensures.result_value c.in_ok-z.ensures.tables

pub test_tick-requires-clause-z_value : goal.test_tick-requires-clause-z_value
test_tick-requires-clause-z_value c = size_by _ _ c.in_ok-z.ensures.result_value

pub returns-in_err-test_tick : goal.returns-in_err-test_tick
returns-in_err-test_tick c =
    let p = err_from_is_err_and c.from_residual-in_err-test_tick.result c.from_residual-in_err-test_tick.ensures.1 in
    rw (p.1, p.2) (tick_turned _ _ _ _ _ c.in_ok-z.ensures.result_value _ c.in_err-test_tick.ensures)

pub invariant_of-accepted : goal.invariant_of-accepted
invariant_of-accepted c =
    let e = c.in_ok-z.ensures.result_value in
    let t = c.in_ok-z.ensures.tables (rules_by _ _ e) in
    record { accepted = passes_by _ _ e; ended = t.ends; in_slots = t.slotted }

pub step-requires : goal.step-requires
step-requires c =
    let k = (tick_exactly _ _ _ _ _).0 (tick_passed _ _ _ _ c.args.values.now c.in_ok-z.ensures.result_value c.in_ok-test_tick.ensures) in
    record { right_order = k.2; cells_len = k.0.cells-size; values_len = k.1 }

pub returns-in_err-z : goal.returns-in_err-z
returns-in_err-z c =
    let p = err_from_is_err_and c.from_residual.result c.from_residual.ensures.1 in
    rw (p.1, p.2) (tick_refused _ _ _ _ _ _ c.in_err-z.ensures.result_value)

pub returns : goal.returns
returns c =
    tick_done _ _ _ _ _ c.in_ok-z.ensures.result_value c.in_ok-test_tick.ensures _ _ _ c.step.ensures c.answer.ensures
