-- The values of operands are given.
use Rattle.std.proofs.Common.{◌≡◌, ℕ, ◌<◌, true, List, pos, rules, arith}
use Rattle.table.specs.Equations.{at}
use Rattle.sheet.specs.Bytes.{kind_at, arity, operand}
use Rattle.rules.specs.Scope.{fby_at}
use Rattle.meaning.specs.Cells.{next_cells}
use Rattle.meaning.proofs.LocalLaws.{fby_kind}
use Rattle.engine.proofs.Accepted.store.Goals as goal

has_operand : (s : List ℕ) (i : ℕ) → fby_at s i ≡ true → 0 < arity (kind_at s i)
unfolding arity
has_operand s i e = rw (fby_kind (kind_at s i) e).1 (omega arith)

pub returns : goal.returns
unfolding next_cells
returns c =
    let s = c.args.self.s.now in
    c.fill.ensures (λ i. at (pos 0) c.args.values.now (operand s i 0))
    (λ i l f v p. let o : 0 < arity (kind_at s i.0) = has_operand s i.0 f in search rules)
