-- The records left fall, so reading ends; the operands read lead to where the next one starts.
use Rattle.std.proofs.Common.{◌≡◌, refl, sym, arith, add-one}
use Rattle.sheet.specs.Bytes.{arity_at}
use Rattle.sheet.proofs.PrefixLaws.{end_in, end_out, end-above, end_runs_out, times_none, times_last}
use Rattle.sheet.proofs.+expression.Goals as goal

pub returns-then-n-at-clause-end : goal.returns-then-n-at-clause-end
returns-then-n-at-clause-end t c = sym (end_out _ _ _ (omega arith))

pub loop-init : goal.loop-init
loop-init t c = (omega arith, omega arith, sym (times_none _ 0 _ (omega arith)))

pub returns-in_err-next-clause-end : goal.returns-in_err-next-clause-end
returns-in_err-next-clause-end t c =
    rw c.from_residual.ensures
    (end_runs_out (arity_at c.args.s.now) c.args.n c.args.at c.loop.counter c.loop.next (omega arith)
    (rw (← c.kind_at.ensures, ← c.arity-end.ensures) c.loop-test.true) c.loop.invariant.2 c.in_err-next.ensures.end)

pub loop-preserved : goal.loop-preserved
loop-preserved t c = (
  rw c.in_ok-next.ensures.end (end-above _ _ _ (omega arith) _ (omega arith)),
  c.in_ok-next.ensures.within,
  rw (c.in_ok-next.ensures.end, c.loop.invariant.2, add-one c.loop.counter, times_last) refl,
)

pub returns-clause-end : goal.returns-clause-end
returns-clause-end t c =
    let e : c.loop.counter ≡ c.arity-end.result = omega arith in
    rw (end_in (arity_at c.args.s.now) c.args.n c.args.at (omega arith), ← c.kind_at.ensures, ← c.arity-end.ensures, ← e) c.loop.invariant.2
