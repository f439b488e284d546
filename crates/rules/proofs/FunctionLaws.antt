-- What functions' proofs cite: an INPUT's column, what a refusal says of Check, and the table of how many nodes stand above each while it is
-- filled. And operands by the table of ends, the node that a VAR names, rows of rules, and what the last arm of a match on a kind or an
-- operator knows.
use Prim.Native.Nat.{ℕ, ◌<◌, ◌≤◌}
use mathlib.Core.Path.{◌≡◌, ◌∙◌}
use mathlib.Core.Logic.{inl, inr}
use mathlib.Core.Bool.{Bool, true}
use mathlib.Core.List.{List, [], ◌∷◌}
use native.Mathlib.Omega.{arith}
use borrow.Author.Tests.{ltb-true, not-false}
use denote.Enum.Declared.{tag_of}
use lib.ListN.{get_or}
use types.Run.{OneOf}
use Rattle.std.proofs.Common.{Result, Ok, Err}
use Rattle.std.specs.Result.{IsErrAnd}
use Rattle.number.specs.contracts.Operator.{the_type as operators}
use Rattle.number.specs.declared.Operator.{Operator}
use Rattle.number.specs.declared.Operator.TheVariants.{Not, And, Or, Xor, If, Eq, Lt, Le, Add, Sub, Mul, Div, Neg, Mod}
use Rattle.sheet.specs.Ceilings.{max_nodes}
use Rattle.sheet.specs.Ruling.{Ruling, passed, refused, ◌then◌, answer, number_of, place_of, told, said}
use Rattle.sheet.specs.Bytes.{nodes, columns, kind_at, argument, arity_at, is_var, operand, Ends, operand_by}
use Rattle.sheet.specs.Form.{Formed, known, bad_record}
use Rattle.sheet.specs.contracts.Kind.{the_type as kinds}
use Rattle.sheet.specs.declared.Kind.{Kind}
use Rattle.sheet.specs.declared.Kind.TheVariants.{Const, Input, Var, Op, Fby, Rec, Let, Check, Contract, Unknown}
use Rattle.sheet.specs.declared.Refusal.{Refusal}
use Rattle.sheet.specs.declared.Sheet.{Sheet}
use Rattle.sheet.specs.declared.ValueType.{ValueType}
use Rattle.sheet.proofs.SheetLaws.{operand_by_table}
use Rattle.rules.specs.Scope.{over}
use Rattle.rules.specs.Check.{rules, check, Scoped}
use Rattle.rules.proofs.GuardLaws.{scoped-is}

-- an INPUT's number is a column's
pub input_small : {s : List ℕ} → Formed s → (i : ℕ) → i < nodes s → kind_at s i ≡ Input → argument s i < 65536
unfolding bad_record known
input_small {s} f i h e = omega (arith, f.narrow, ltb-true (argument s i) (columns s) (rw e at (not-false (known (columns s) (kind_at s i) (argument s i)) (f.records i h))))

-- a refusal by the rules, handed on, is Check's answer
pub turned_away : (s : List ℕ) (x : Refusal) (r : Result Sheet Refusal) → IsErrAnd r (λ y. y ≡ x) → refused (number_of x) (place_of x) ≡ rules s → said r ≡ check s
unfolding check answer
turned_away s x (Ok z) h e = absurd h
turned_away s x (Err y) h e = rw (h, ← e)

-- ---- what is read

-- what is read as operand k of node i is that operand
pub operand_read : {s : List ℕ} → Formed s → (ends : List ℕ) → Ends s ends → (i k o : ℕ) → i < nodes s → k < arity_at s i → (i < max_nodes → o ≡ operand_by ends i k) → o ≡ operand s i k
operand_read f ends e i k o h b r = r (omega (arith, f.few)) ∙ operand_by_table f ends e i h k b

-- what is read as the node that a VAR names is that node
pub binder_read : (s : List ℕ) → Formed s → Scoped s → (i b : ℕ) → i < nodes s → is_var (kind_at s i) ≡ true → (argument s i < 65536 → b ≡ argument s i)
    → (b ≡ argument s i) × (argument s i < nodes s)
binder_read s f sc i b h v r =
    let n : argument s i < nodes s = ((scoped-is s (argument s i) i).0 (sc i h v)).0 in
    (r (omega (arith, f.few)), n)

-- ---- a row of rules: a refusal ends it, and a pass goes on to the rest

module _ (a : Result (Unit {0}) Refusal) (first rest : Ruling) (e : told a ≡ first) where
  pub stops : (r : Refusal) → a ≡ Err r → refused (number_of r) (place_of r) ≡ first then rest
  unfolding ◌then◌
  stops r q = rw (← e, q)

  pub goes : a ≡ Ok tt → first then rest ≡ rest
  unfolding ◌then◌
  goes q = rw (← e, q)

pub not-passed {ℓ} : {X : Type ℓ} {number place : ℕ} {x : Ruling} → refused number place ≡ x → x ≡ passed → X
not-passed e p = let z : ◌≡◌ {A = ℕ} 0 1 = cc in absurd (omega arith)

-- ---- the last arm of a match

-- P of each of these numbers
abbrev pub All : (ℕ → Type 0) → List ℕ → Type 0
All P [] = Unit {0}
All P (n ∷ ns) = P n × All P ns

among : (P : ℕ → Type 0) (ns : List ℕ) (n : ℕ) → OneOf ns n → All P ns → P n
among P [] n h all = absurd h
among P (m ∷ []) n h all = rw h all.0
among P (m ∷ m' ∷ ns) n (inl e) all = rw e all.0
among P (m ∷ m' ∷ ns) n (inr h) all = among P (m' ∷ ns) n h all.1

module _ {X : Type 0} (x : X) where
  -- f is x at the kind with this number
  abbrev pub AtKind : (Kind → X) → ℕ → Type 0
  AtKind f n =
      get_or
      (((t : ValueType) → x ≡ f (Const t)) ∷ (x ≡ f Input) ∷ (x ≡ f Var) ∷ ((o : Operator) → x ≡ f (Op o)) ∷ ((t : ValueType) → x ≡ f (Fby t)) ∷ ((t : ValueType) → x ≡ f (Rec t)) ∷ (x ≡ f Let) ∷ (x ≡ f Check) ∷ (x ≡ f Contract) ∷ [])
      n (x ≡ f Unknown)

  -- so at each kind with one of these numbers
  pub rest_kinds : (f : Kind → X) (ns : List ℕ) (k : Kind) → OneOf ns (tag_of kinds k) → All (AtKind f) ns → x ≡ f k
  rest_kinds f ns (Const t) h all = among (AtKind f) ns 0 h all t
  rest_kinds f ns Input h all = among (AtKind f) ns 1 h all
  rest_kinds f ns Var h all = among (AtKind f) ns 2 h all
  rest_kinds f ns (Op o) h all = among (AtKind f) ns 3 h all o
  rest_kinds f ns (Fby t) h all = among (AtKind f) ns 4 h all t
  rest_kinds f ns (Rec t) h all = among (AtKind f) ns 5 h all t
  rest_kinds f ns Let h all = among (AtKind f) ns 6 h all
  rest_kinds f ns Check h all = among (AtKind f) ns 7 h all
  rest_kinds f ns Contract h all = among (AtKind f) ns 8 h all
  rest_kinds f ns Unknown h all = among (AtKind f) ns 9 h all

  abbrev pub AtOperator : (Operator → X) → ℕ → Type 0
  AtOperator f n =
      x ≡ f (get_or (Not ∷ And ∷ Or ∷ Xor ∷ If ∷ Eq ∷ Lt ∷ Le ∷ Add ∷ Sub ∷ Mul ∷ Div ∷ Neg ∷ []) n Mod)

  pub rest_operators : (f : Operator → X) (ns : List ℕ) (o : Operator) → OneOf ns (tag_of operators o) → All (AtOperator f) ns → x ≡ f o
  rest_operators f ns Not h all = among (AtOperator f) ns 0 h all
  rest_operators f ns And h all = among (AtOperator f) ns 1 h all
  rest_operators f ns Or h all = among (AtOperator f) ns 2 h all
  rest_operators f ns Xor h all = among (AtOperator f) ns 3 h all
  rest_operators f ns If h all = among (AtOperator f) ns 4 h all
  rest_operators f ns Eq h all = among (AtOperator f) ns 5 h all
  rest_operators f ns Lt h all = among (AtOperator f) ns 6 h all
  rest_operators f ns Le h all = among (AtOperator f) ns 7 h all
  rest_operators f ns Add h all = among (AtOperator f) ns 8 h all
  rest_operators f ns Sub h all = among (AtOperator f) ns 9 h all
  rest_operators f ns Mul h all = among (AtOperator f) ns 10 h all
  rest_operators f ns Div h all = among (AtOperator f) ns 11 h all
  rest_operators f ns Neg h all = among (AtOperator f) ns 12 h all
  rest_operators f ns Mod h all = among (AtOperator f) ns 13 h all

-- ---- a table of how many nodes stand above each

-- a table is right at the root and at the operands of the nodes before i, where P says when an entry is right
abbrev pub Reached : List ℕ → (P : ℕ → ℕ → Type 0) → ℕ → List ℕ → Type 0
Reached s P i table =
    P 0 (get_or table 0 0) × ((a k : ℕ) → a < i → k < arity_at s a → P (operand s a k) (get_or table (operand s a k) 0))

-- an entry of a table of counts is no larger than its node's number, and is how many nodes that pass p stand above
abbrev pub Small : ℕ → ℕ → Type 0
Small j x = x ≤ j

abbrev pub Over : List ℕ → (ℕ → Bool) → ℕ → ℕ → Type 0
Over s p j x = x ≡ over s p j
