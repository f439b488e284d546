-- After so many turns so many brackets are appended.
use Rattle.std.proofs.Common.{replicate}
use Rattle.text.specs.Text.{Adds}
use Rattle.writer.proofs.put_closings.Given as goal

abbrev pub invariant-loop : goal.invariant-loop
invariant-loop g l = Adds g.row.N (replicate l.counter 41) l.fn.out.items l.out.items
