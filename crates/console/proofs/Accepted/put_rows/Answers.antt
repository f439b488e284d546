-- What Run refuses is rule 13.
use Rattle.std.proofs.Common.{sym, ◌∙◌, arith}
use Rattle.std.proofs.lemmas.Result.{err_from_is_err_and}
use Rattle.console.proofs.TickLaws.{run_rows, run_told}
use Rattle.console.proofs.Accepted.put_rows.Goals as goal

pub put_run-requires-clause-ticks_value : goal.put_run-requires-clause-ticks_value
put_run-requires-clause-ticks_value c = run_rows c.args.self _ _ c.requires.rows_len ∙ sym (run_told c.args.self _ _ c.in_ok-run.ensures (omega arith) c.requires.rows_len)

pub returns-in_err-run-clause-rules : goal.returns-in_err-run-clause-rules
returns-in_err-run-clause-rules c =
    let p = err_from_is_err_and c.from_residual.result c.from_residual.ensures.1 in
    rw (p.1, p.2) (run_told c.args.self _ _ c.in_err-run.ensures (omega arith) c.requires.rows_len)

pub returns-clause-rules : goal.returns-clause-rules
returns-clause-rules c = run_told c.args.self _ _ c.in_ok-run.ensures (omega arith) c.requires.rows_len
