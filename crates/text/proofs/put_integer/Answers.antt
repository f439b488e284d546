-- Below 0 a minus sign before the magnitude.
use Rattle.number.proofs.Bridge.{back, below_zero, from_zero}
use Rattle.text.specs.Text.{integer}
use Rattle.text.proofs.TextLaws.{append_then}
use Rattle.text.proofs.put_integer.Goals as goal
use Rattle.text.proofs.put_integer.Goals.{then-v-lt0, else-v-lt0}

pub returns : goal.returns
unfolding integer
returns g c =
    let f = c.ranges.v in
    let number = rw (c.from.ensures, c.unsigned_abs.ensures.value, back f) at c.put_decimal.ensures in
    elim c.if-v-lt0.branch [
      | then-v-lt0 w ↦
          let e = below_zero f w.if-v-lt0.true in rw e (append_then w.put.ensures (rw (e, w.out-is) at number))
      | else-v-lt0 w ↦ let e = from_zero f w.if-v-lt0.false in rw e (rw (e, w.out-is) at number)
    ]
