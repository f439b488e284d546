-- Word by word.
use Rattle.number.proofs.Bridge.{back}
use Rattle.text.proofs.TextLaws.{append_then}
use Rattle.console.specs.Sheetrun.{tick_line}
use Rattle.console.proofs.put_tick.Goals as goal

pub returns-clause-text : goal.returns-clause-text
unfolding tick_line
returns-clause-text g c =
    append_then c.put_decimal.ensures
    (append_then c.put.ensures
    (append_then (rw (back c.ranges.value) at c.put_integer.ensures)
    (append_then c.put-2.ensures (append_then c.put_lowest.ensures.text c.put-3.ensures))))
