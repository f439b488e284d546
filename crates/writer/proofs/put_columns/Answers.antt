-- A turn appends a space and a type.
use Rattle.text.proofs.TextLaws.{append_then, append_next}
use Rattle.listing.specs.Listing.{column_at}
use Rattle.writer.proofs.put_columns.Goals as goal

pub loop-c-preserved : goal.loop-c-preserved
unfolding column_at
loop-c-preserved g c =
    append_next _ _ c.loop-c.invariant (append_then c.put.ensures (rw (c.column_type.ensures, c.from.ensures) at c.put_type.ensures))
