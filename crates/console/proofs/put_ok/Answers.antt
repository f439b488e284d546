-- Word by word.
use Rattle.text.proofs.TextLaws.{append_then}
use Rattle.console.specs.Sheetrun.{ok_line}
use Rattle.console.proofs.put_ok.Goals as goal

pub returns : goal.returns
unfolding ok_line
returns g c =
    append_then c.put.ensures
    (append_then c.put_decimal.ensures
    (append_then c.put-2.ensures
    (append_then c.put_decimal-2.ensures
    (append_then c.put-3.ensures (append_then c.put_decimal-3.ensures (append_then c.put-4.ensures (append_then c.put_type.ensures c.put-5.ensures)))))))
