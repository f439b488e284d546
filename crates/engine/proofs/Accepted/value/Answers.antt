-- An arm for each kind that needs nothing, one for an OP, and a last arm for the kinds with the value of their one need.
use Rattle.std.proofs.Common.{◌≡◌, ℕ, zero, suc, ◌<◌, List, [], ◌∷◌, get_or, ℤ, pos, refl, sym, ap, ◌∙◌, w32, of_z, to_z}
use lib.Signed.{mag}
use Rattle.number.specs.Operators.{operands, applied}
use Rattle.number.specs.declared.Operator.{Operator}
use Rattle.number.proofs.Bridge.{back_ok}
use Rattle.number.proofs.OperatorLaws.{applied-same}
use Rattle.table.specs.Equations.{at}
use Rattle.sheet.specs.Bytes.{kind_at, is_var, operand}
use Rattle.sheet.specs.declared.Kind.{Kind}
use Rattle.sheet.specs.declared.Kind.TheVariants.{Op}
use Rattle.order.specs.Needs.{needs as needs_of, need_count}
use Rattle.order.proofs.NeedsLaws.{need_by, need_at}
use Rattle.meaning.specs.Equations.{value_by}
use Rattle.meaning.specs.Local.{local_by, local_value}
use Rattle.engine.proofs.Accepted.value.Goals as goal

-- the value of need k, of a node of a kind
need_value : (s : List ℕ) (i : ℕ) (kind : Kind) → kind_at s i ≡ kind → (v : ℕ → ℤ) (k : ℕ) (x : ℤ) → mag x < 2147483648
    → (k < need_count (kind_at s i) → x ≡ v (get_or (needs_of s i) k 0)) → k < need_count kind → to_z w32 (of_z w32 x) ≡ v (need_by s i kind k)
unfolding needs_of
need_value s i kind e v k x ok read l = back_ok ok ∙ read (rw e l) ∙ ap v (rw e (need_at s i kind k l))

-- operands past the operator's count are not looked at
operated : (o : Operator) (y : ℕ → ℤ) (p q r : ℤ) → (0 < operands o → p ≡ y 0) → (1 < operands o → q ≡ y 1) → (2 < operands o → r ≡ y 2)
    → applied o p q r ≡ applied o (y 0) (y 1) (y 2)
operated o y p q r first second third = applied-same o (λ k. get_or (p ∷ q ∷ r ∷ []) k (y k)) y same
  where
    same : (k : ℕ) → k < operands o → get_or (p ∷ q ∷ r ∷ []) k (y k) ≡ y k
    same zero l = first l
    same (suc zero) l = second l
    same (suc (suc zero)) l = third l
    same (suc (suc (suc k))) l = refl

pub returns-in-Op : goal.returns-in-Op
unfolding local_value local_by value_by is_var
returns-in-Op c =
    let a = c.args in
    let v : ℕ → ℤ = at (pos 0) a.values.now in
    let need = need_value a.self.s.now a.i.0 (Op c.in-Op.o) (sym c.in-Op.ensures) v in
    rw (← c.in-Op.ensures) (back_ok c.apply.type_inv ∙ c.apply.ensures
    ∙ operated _ (λ k. v (operand a.self.s.now a.i.0 k)) _ _ _
    (need 0 _ c.need-a.type_inv c.need-a.ensures) (need 1 _ c.need-b.type_inv c.need-b.ensures) (need 2 _ c.need-c.type_inv c.need-c.ensures))
