-- The three calls are the definition's.
use Rattle.std.proofs.Common.{ap, ◌∙◌}
use Rattle.number.specs.Word.{difference, modulo}
use Rattle.number.proofs.Bridge.{back, back_ok}
use Rattle.number.proofs.Wrapping.{wrapping_difference}
use Rattle.number.proofs.modulo.Goals as goal

pub returns : goal.returns
unfolding modulo
returns c =
    wrapping_difference c.args.a c.mul.result c.ranges.a (record { sfits = c.mul.type_inv })
    ∙ ap (difference c.args.a) (c.mul.ensures ∙ cc (back_ok c.div.type_inv, c.div.ensures, back c.ranges.a, back c.ranges.b))
