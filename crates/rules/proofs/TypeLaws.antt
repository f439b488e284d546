-- Every node's type is determined: the type equations have exactly one solution, type_at. A node goes by nodes that come before it where
-- operands come first, left to right: nodes under it, and nodes whose expressions end where it starts or earlier.
use Prim.Native.Nat.{ℕ, zero, suc, ◌+◌, ◌-◌, ◌*◌, ◌≤◌, ◌<◌}
use mathlib.Core.Path.{◌≡◌, refl, sym, ap, ◌∙◌}
use mathlib.Core.Bool.{true}
use mathlib.Core.List.{List}
use native.Mathlib.Nat.{mul-pos}
use native.Mathlib.Omega.{arith}
use Rattle.number.specs.Operators.{operands}
use Rattle.number.specs.declared.Operator.{Operator}
use Rattle.number.specs.declared.Operator.TheVariants.{Not, And, Or, Xor, If, Eq, Lt, Le, Add, Sub, Mul, Div, Neg, Mod}
use Rattle.sheet.specs.Bytes.{nodes, kind_at, argument, arity, arity_at, is_var, end_of, operand, lies}
use Rattle.sheet.specs.Form.{Formed}
use Rattle.sheet.specs.declared.ValueType.{ValueType}
use Rattle.sheet.specs.declared.Kind.{Kind}
use Rattle.sheet.specs.declared.Kind.TheVariants.{Const, Input, Var, Op, Fby, Rec, Let, Check, Contract, Unknown}
use Rattle.sheet.proofs.SheetLaws.{end_after, end-within, operand-next, operand_later, operand-within, operand_node, lies-is}
use Rattle.rules.specs.Scope.{binds}
use Rattle.rules.specs.Types.{named_type, operator_type, type_by, type_rule, types_after, type_at}
use Rattle.rules.specs.Check.{Scoped}
use Rattle.rules.proofs.GuardLaws.{scoped-is}
use Rattle.rules.proofs.RankLaws.{rank, rank_under, rank_before, rank_within}

-- ---- the types that a record tells by itself

module _ (s : List ℕ) (i : ℕ) where
  -- the type is the rule's, by some types of the other nodes
  by_rule : (T : ℕ → ValueType) × (type_at s i ≡ type_rule s i T)
  unfolding type_at types_after
  by_rule =
      let size : ℕ = (nodes s + 1) * (nodes s + 1) in
      let some : 0 < size = mul-pos (omega arith) (omega arith) in
      let e : size ≡ suc (size - 1) = omega arith in
      (types_after s (size - 1), ap (λ (k : ℕ). types_after s k i) e)

  pub fby_type : (t : ValueType) → kind_at s i ≡ Fby t → type_at s i ≡ t
  unfolding type_by
  fby_type t e = rw e at by_rule.1

-- an operator's type goes by its second operand only where it has one
pub operator_local : (t u : ValueType) (o : Operator) → (1 < operands o → t ≡ u) → operator_type o t ≡ operator_type o u
unfolding operator_type
operator_local t u Not h = refl
operator_local t u And h = refl
operator_local t u Or h = refl
operator_local t u Xor h = refl
operator_local t u If h = h (omega arith)
operator_local t u Eq h = refl
operator_local t u Lt h = refl
operator_local t u Le h = refl
operator_local t u Add h = refl
operator_local t u Sub h = refl
operator_local t u Mul h = refl
operator_local t u Div h = refl
operator_local t u Neg h = refl
operator_local t u Mod h = refl

-- ---- the rest by the nodes that come before

module _ {s : List ℕ} (f : Formed s) (sc : Scoped s) where
  -- types T and U that agree on the nodes that come before i
  module _ (i : ℕ) (h : i < nodes s) (T U : ℕ → ValueType)
      (under : (j : ℕ) → i < j → j < end_of s i → T j ≡ U j)
      (left : (j : ℕ) → j < i → end_of s j ≤ i → T j ≡ U j) where
    of_operand : (k : ℕ) → k < arity_at s i → T (operand s i k) ≡ U (operand s i k)
    of_operand k b = under (operand s i k) (operand_later s i h k) (operand-within f i h k b)

    module _ (b : ℕ) (n : b < nodes s) where
      -- an operand of b before the one that i lies in
      of_earlier : (k : ℕ) → k < arity_at s b → lies s b (suc k) i ≡ true → T (operand s b k) ≡ U (operand s b k)
      of_earlier k l e =
          let o : ℕ = operand s b k in
          let ends : end_of s o ≤ i = rw operand-next at (lies-is s b (suc k) i e).0 in
          left o (omega (arith, end_after s o (operand_node f b n k l))) ends

      of_named : (k : Kind) → kind_at s b ≡ k → binds s b k i ≡ true → named_type s T b k ≡ named_type s U b k
      unfolding named_type binds arity
      of_named (Const t) e l = refl
      of_named Input e l = refl
      of_named Var e l = refl
      of_named (Op o) e l = refl
      of_named (Fby t) e l = refl
      of_named (Rec t) e l = refl
      of_named Let e l = of_earlier 0 (rw e (omega arith)) l
      of_named Check e l = refl
      of_named Contract e l = of_earlier 1 (rw e (omega arith)) l
      of_named Unknown e l = refl

    of_kind : (k : Kind) → kind_at s i ≡ k → type_by s T i k ≡ type_by s U i k
    unfolding type_by arity is_var
    of_kind (Const t) e = refl
    of_kind Input e = refl
    of_kind Var e =
        let b : ℕ = argument s i in
        let r = (scoped-is s b i).0 (sc i h (rw e)) in
        of_named b r.0 (kind_at s b) refl r.1
    of_kind (Op o) e = operator_local (T (operand s i 1)) (U (operand s i 1)) o (λ b. of_operand 1 (rw e b))
    of_kind (Fby t) e = refl
    of_kind (Rec t) e = refl
    of_kind Let e = of_operand 1 (rw e (omega arith))
    of_kind Check e = of_operand 1 (rw e (omega arith))
    of_kind Contract e = of_operand 1 (rw e (omega arith))
    of_kind Unknown e = refl

    -- give it one type
    pub type_rule-local : type_rule s i T ≡ type_rule s i U
    type_rule-local = of_kind (kind_at s i) refl

  -- ---- down the ranks

  -- types that agree on the nodes of a rank under k give the next rank one type
  next_rank : (k i : ℕ) → i < nodes s → rank s i < suc k → (T U : ℕ → ValueType) → ((j : ℕ) → j < nodes s → rank s j < k → T j ≡ U j) → type_rule s i T ≡ type_rule s i U
  next_rank k i h r T U same =
      type_rule-local i h T U
      (λ j l u. same j (omega (arith, end-within f i h)) (omega (arith, rank_under f i h j l u)))
      (λ j l e. same j (omega arith) (omega (arith, rank_before f i h j e)))

  -- and so many times over are enough
  enough : (k i : ℕ) → i < nodes s → rank s i < k → types_after s k i ≡ types_after s (suc k) i
  unfolding types_after
  enough zero i h r = absurd (omega arith)
  enough (suc k) i h r = next_rank k i h r (types_after s k) (types_after s (suc k)) (enough k)

  -- ---- the laws

  -- type_at solves the equations
  pub type_at-is : (i : ℕ) → i < nodes s → type_at s i ≡ type_rule s i (type_at s)
  unfolding type_at types_after
  type_at-is i h = enough ((nodes s + 1) * (nodes s + 1)) i h (rank_within f i h)

  -- a node's type by those of the nodes that come before it
  pub settled_here : (i : ℕ) → i < nodes s → (T : ℕ → ValueType)
      → ((j : ℕ) → i < j → j < end_of s i → T j ≡ type_at s j) → ((j : ℕ) → j < i → end_of s j ≤ i → T j ≡ type_at s j)
      → type_rule s i T ≡ type_at s i
  settled_here i h T under left = type_rule-local i h T (type_at s) under left ∙ sym (type_at-is i h)

  -- and nothing else solves them
  module _ (T : ℕ → ValueType) (solves : (i : ℕ) → i < nodes s → T i ≡ type_rule s i T) where
    one_by_rank : (k i : ℕ) → i < nodes s → rank s i < k → T i ≡ types_after s k i
    unfolding types_after
    one_by_rank zero i h r = absurd (omega arith)
    one_by_rank (suc k) i h r = solves i h ∙ next_rank k i h r T (types_after s k) (one_by_rank k)

    pub types_one : (i : ℕ) → i < nodes s → T i ≡ type_at s i
    unfolding type_at
    types_one i h = one_by_rank ((nodes s + 1) * (nodes s + 1)) i h (rank_within f i h)
