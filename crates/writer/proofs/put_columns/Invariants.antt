-- After c turns the types of the first c columns are appended.
use Rattle.finite.specs.Lists.{joined}
use Rattle.text.specs.Text.{Adds}
use Rattle.listing.specs.Listing.{column_at}
use Rattle.writer.proofs.put_columns.Given as goal

abbrev pub invariant-loop-c : goal.invariant-loop-c
invariant-loop-c g l = Adds g.row.N (joined (column_at l.s) l.c) l.fn.out.items l.out.items
