-- Two results that a contract allows are one and the same: of each operation, its answer and the end contents of every lent slice.
use Prim.Native.Nat.{ℕ}
use mathlib.Core.Path.{◌≡◌, sym, ◌∙◌}
use mathlib.Core.List.{List}
use lib.IntN.{ℤ}
use lib.ListN.{length}
use Rattle.std.proofs.Common.{Result}
use Rattle.sheet.specs.Ruling.{said}
use Rattle.sheet.specs.declared.Sheet.{Sheet}
use Rattle.sheet.specs.declared.Refusal.{Refusal}
use Rattle.sheet.proofs.RulingLaws.{one_said, one_answer}
use Rattle.rules.specs.Check.{check}
use Rattle.order.specs.Orders.{HouseOrder}
use Rattle.engine.specs.Rows.{row_at}
use Rattle.engine.specs.Operations.{Start, tick_rules, Tick, run_rules, Run}
use Rattle.engine.specs.declared.Answer.{Answer}
use Rattle.engine.proofs.RuleLaws.{by-ruling, run_exactly}
use Rattle.engine.proofs.Demands.{meaning, refused_tick, ticks_equal, refused_run, run_values}

-- ---- the operations

pub one_check : (s : List ℕ) (r r' : Result Sheet Refusal) → said r ≡ check s → said r' ≡ check s → r ≡ r'
one_check s r r' k k' = one_said r r' (k ∙ sym k')

pub one_house : {s old : List ℕ} {r r' : Result (Unit {0}) Refusal} {new new' : List ℕ} → HouseOrder s old r new → HouseOrder s old r' new' → (r ≡ r') × (new ≡ new')
one_house {r = r} {r' = r'} k k' = (one_answer r r' (k.answer ∙ sym k'.answer), k.order ∙ sym k'.order)

pub one_start : {s : List ℕ} {old : List ℤ} {r r' : Result (Unit {0}) Refusal} {new new' : List ℤ} → Start s old r new → Start s old r' new' → (r ≡ r') × (new ≡ new')
one_start {r = r} {r' = r'} k k' = (one_answer r r' (k.answer ∙ sym k'.answer), k.cells ∙ sym k'.cells)

pub one_tick : {s : List ℕ} {row cells : List ℤ} {order : List ℕ} {values : List ℤ} {r r' : Result Answer Refusal} {c c' v v' : List ℤ} →
    Tick s row cells order values r c v → Tick s row cells order values r' c' v' → (r ≡ r') × (c ≡ c') × (v ≡ v')
one_tick {s} {row} {cells} {order} {values} {r} {r'} k k' =
    by-ruling (tick_rules s row cells order (length values))
    (λ p. ticks_equal k k' p p)
    (λ number place e.
    let (a, c, v) = refused_tick k number place e in
    let (a', c', v') = refused_tick k' number place e in
    (one_said r r' (a ∙ sym a'), c ∙ sym c', v ∙ sym v'))

pub one_run : {s : List ℕ} {rows old : List ℤ} {r r' : Result ℕ Refusal} {new new' : List ℤ} → Run s rows old r new → Run s rows old r' new' → (r ≡ r') × (new ≡ new')
one_run {s} {rows} {old} {r} {r'} k k' =
    by-ruling (run_rules s rows (length old))
    (λ p.
    let (X, m, one) = meaning ((run_exactly s rows (length old)).0 p).0 (row_at s rows) in
    let (a, o) = run_values k p X m in
    let (a', o') = run_values k' p X m in
    (a ∙ sym a', o ∙ sym o'))
    (λ number place e.
    let (a, o) = refused_run k number place e in
    let (a', o') = refused_run k' number place e in
    (one_said r r' (a ∙ sym a'), o ∙ sym o'))
