-- All of the ints stand.
use Rattle.std.proofs.Common.{◌≡◌, ◌/◌, length, pos, arith}
use Rattle.finite.proofs.GatherLaws.{filled}
use Rattle.console.specs.Sheetrun.{int_at, ints}
use Rattle.console.proofs.read_ints.Goals as goal

pub returns : goal.returns
unfolding ints
returns c =
    let e : length c.loop-k.ints ≡ length c.args.bytes.now / 4 = omega arith in
    rw e at (filled (int_at c.args.bytes.now) (pos 0) c.loop-k.ints (λ j l. c.loop-k.invariant j (omega arith)))
