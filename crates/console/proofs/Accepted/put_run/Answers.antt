-- The first line and the ticks make the text.
use Rattle.console.proofs.TickLaws.{run_printed}
use Rattle.console.proofs.Accepted.put_run.Goals as goal

pub returns : goal.returns
returns c = run_printed c.args.self _ _ c.requires.ticks_value c.requires.empty c.put_ok.ensures c.put_ticks.ensures
