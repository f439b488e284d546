-- The walk so far.
use Rattle.std.proofs.Common.{◌≡◌, get_or, sym, arith, add-one}
use Rattle.std.proofs.lemmas.Grind.{common_steps}
use Rattle.sheet.specs.Bytes.{operand_by}
use Rattle.sheet.proofs.PrefixLaws.{times_none, times_last}
use Rattle.sheet.proofs.operand.Goals as goal

pub loop-init : goal.loop-init
loop-init c = sym (times_none _ 0 _ (omega arith))

pub loop-preserved : goal.loop-preserved
loop-preserved c =
    let next : c.unwrap_or-at.result ≡ get_or c.args.ends.now c.loop.at 0 = grind (arith, common_steps) in
    rw (add-one c.loop.counter, times_last, ← c.loop.invariant) next

pub returns : goal.returns
unfolding operand_by
returns c h = let e : c.loop.counter ≡ c.args.k = omega arith in rw (← e) c.loop.invariant
