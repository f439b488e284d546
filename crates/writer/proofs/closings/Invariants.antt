-- A loop over the nodes, which counts in the table where each expression closes.
use Rattle.writer.proofs.ClosingLaws.{Counted}
use Rattle.writer.proofs.closings.Given as goal

abbrev pub invariant-loop-a : goal.invariant-loop-a
invariant-loop-a l = Counted l.s l.a l.table
