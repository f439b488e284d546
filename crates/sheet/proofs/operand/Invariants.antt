-- The walk so far.
use Rattle.std.proofs.Common.{◌≡◌, get_or}
use Rattle.sheet.specs.Prefix.{times}
use Rattle.sheet.proofs.operand.Given as goal

abbrev pub invariant-loop : goal.invariant-loop
invariant-loop l = l.at ≡ times l.counter (λ j. get_or l.ends j 0) l.initial.at
