-- After i nodes, each FBY among them has in its cell what is given for it.
use Rattle.std.proofs.Common.{◌<◌, arith}
use Rattle.number.proofs.Bridge.{back_ok}
use Rattle.sheet.specs.Bytes.{nodes}
use Rattle.engine.proofs.FillLaws.{filled_none, filled-all, filled-past, filled-room, filled_more}
use Rattle.engine.proofs.fill.Goals as goal
use Rattle.engine.proofs.fill.Goals.{then-is_fby, else-is_fby}

pub loop-i-init : goal.loop-i-init
loop-i-init g c = filled_none _ _ _

pub bounds-cells-j : goal.bounds-cells-j
bounds-cells-j g c = filled-room c.requires.cells_len c.loop-i.invariant (omega arith) c.kind_at.ensures c.is_fby.ensures c.if-is_fby.true

pub loop-i-preserved : goal.loop-i-preserved
loop-i-preserved g c =
    let l = c.loop-i in
    let node : l.i < nodes c.args.s.now = omega arith in
    elim c.if-is_fby.branch [
      | then-is_fby w ↦ filled_more c.requires.cells_len l.invariant node c.kind_at.ensures c.is_fby.ensures w.if-is_fby.true w.given.ensures (rw (back_ok w.given.type_inv) at w.cells-is) w.j-is
      | else-is_fby w ↦ filled-past c.requires.cells_len l.invariant node c.kind_at.ensures c.is_fby.ensures w.if-is_fby.false w.cells-is w.j-is
    ]

pub returns : goal.returns
returns g c = filled-all c.requires.cells_len c.loop-i.invariant (omega arith)
