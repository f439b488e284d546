-- After i turns the texts of the first i nodes are appended.
use Rattle.finite.specs.Lists.{joined}
use Rattle.text.specs.Text.{Adds}
use Rattle.listing.specs.Listing.{node_at}
use Rattle.writer.proofs.put_nodes.Given as goal

abbrev pub invariant-loop-i : goal.invariant-loop-i
invariant-loop-i g l = Adds g.row.N (joined (node_at l.s) l.i) l.fn.out.items l.out.items
