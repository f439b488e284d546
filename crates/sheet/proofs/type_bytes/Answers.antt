-- The first type byte over 1 is the place.
use Rattle.std.proofs.Common.{arith, lt-ltb}
use Rattle.sheet.proofs.RulingLaws.{each_refused}
use Rattle.sheet.proofs.type_bytes.Goals as goal

pub returns-then-byte-gt1 : goal.returns-then-byte-gt1
returns-then-byte-gt1 c =
    each_refused _ _ _ _ _ (omega arith) (omega arith) (rw (← c.byte.ensures) (lt-ltb _ _ c.if-byte-gt1.true)) c.loop-at.invariant
