-- Check's refusal is the answer, then that of the tests; else the rows are run over parts of local arrays, of the sheet's own sizes.
use Rattle.engine.proofs.RuleLaws.{run_exactly}
use Rattle.engine.proofs.OperationLaws.{rules_by, passes_by, run_passed, run_done}
use Rattle.engine.proofs.run.Goals as goal

pub invariant_of-accepted : goal.invariant_of-accepted
invariant_of-accepted c =
    let e = c.in_ok-z.ensures.result_value in
    let t = c.in_ok-z.ensures.tables (rules_by _ _ e) in
    record { accepted = passes_by _ _ e; ended = t.ends; in_slots = t.slotted }

pub run_rows-requires-clause-rows_len : goal.run_rows-requires-clause-rows_len
run_rows-requires-clause-rows_len c =
    let x = (run_exactly _ _ _).0 (run_passed _ _ c.args.outputs.now c.in_ok-z.ensures.result_value c.in_ok-test_run.ensures) in
    (x.1, x.2)

pub returns : goal.returns
returns c = run_done _ _ _ c.in_ok-z.ensures.result_value c.in_ok-test_run.ensures _ _ c.run_rows.ensures
