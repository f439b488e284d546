-- From the last node down: where the form is right, the table has the ends of the nodes from `at` on.
use Rattle.std.proofs.Common.{◌≡◌, ℕ, ◌-◌, ◌<◌, get_or, ◌∙◌, arith}
use Rattle.finite.proofs.ListLaws.{stored}
use Rattle.sheet.specs.Bytes.{nodes, end_of}
use Rattle.sheet.proofs.SheetLaws.{end_by_table}
use Rattle.sheet.proofs.fill_ends.Goals as goal

pub loop-at-init : goal.loop-at-init
loop-at-init c f j h h' = absurd (omega arith)

pub loop-at-preserved : goal.loop-at-preserved
loop-at-preserved c f j h h' =
    let i = c.loop-at.at - 1 in
    let s = c.args.s.now in
    let later : (k : ℕ) → i < k → k < nodes s → get_or c.loop-at.ends k 0 ≡ end_of s k = λ k b. c.loop-at.invariant f k (omega arith) in
    stored (end_of s) 0 c.loop-at.ends i _ (omega arith)
    (c.operand.ensures (omega arith) ∙ rw (c.arity.ensures, c.kind_at.ensures) (end_by_table f c.loop-at.ends i (omega arith) later))
    j
    (λ q. later j (omega arith) h')

pub returns : goal.returns
returns c f j h = c.loop-at.invariant f j (omega arith) h
