-- The table has the types of the operands that there are, and no others are looked at.
use Rattle.std.proofs.Common.{◌≡◌, ℕ, ◌<◌, not, refl, ap, ◌∙◌, arith}
use Rattle.number.specs.Operators.{operands}
use Rattle.number.specs.declared.Operator.{Operator}
use Rattle.number.specs.declared.Operator.TheVariants.{Not, And, Or, Xor, If, Eq, Lt, Le, Add, Sub, Mul, Div, Neg, Mod}
use Rattle.sheet.specs.Bytes.{nodes, arity, arity_at, operand}
use Rattle.sheet.specs.declared.ValueType.{ValueType}
use Rattle.sheet.specs.declared.Kind.{Kind}
use Rattle.sheet.specs.declared.Kind.TheVariants.{Const, Input, Var, Op, Fby, Rec, Let, Check, Contract, Unknown}
use Rattle.sheet.proofs.SheetLaws.{operand_node}
use Rattle.rules.specs.Types.{type_in, type_at, fits, well_typed, mistyped}
use Rattle.rules.specs.Check.{breaks}
use Rattle.rules.proofs.Tree.mistyped.Goals as goal

-- types past a node's operands are not looked at
module _ {a b c a' b' c' : ValueType} where
  fits_local : (o : Operator) → (0 < operands o → a ≡ a') → (1 < operands o → b ≡ b') → (2 < operands o → c ≡ c') → fits o a b c ≡ fits o a' b' c'
  unfolding fits
  fits_local Not p q r = rw (p (omega arith))
  fits_local And p q r = rw (p (omega arith), q (omega arith))
  fits_local Or p q r = rw (p (omega arith), q (omega arith))
  fits_local Xor p q r = rw (p (omega arith), q (omega arith))
  fits_local If p q r = rw (p (omega arith), q (omega arith), r (omega arith))
  fits_local Eq p q r = rw (p (omega arith), q (omega arith))
  fits_local Lt p q r = rw (p (omega arith), q (omega arith))
  fits_local Le p q r = rw (p (omega arith), q (omega arith))
  fits_local Add p q r = rw (p (omega arith), q (omega arith))
  fits_local Sub p q r = rw (p (omega arith), q (omega arith))
  fits_local Mul p q r = rw (p (omega arith), q (omega arith))
  fits_local Div p q r = rw (p (omega arith), q (omega arith))
  fits_local Neg p q r = rw (p (omega arith))
  fits_local Mod p q r = rw (p (omega arith), q (omega arith))

  well_local : (k : Kind) → (0 < arity k → a ≡ a') → (1 < arity k → b ≡ b') → (2 < arity k → c ≡ c') → well_typed k a b c ≡ well_typed k a' b' c'
  unfolding well_typed arity
  well_local (Const t) p q r = refl
  well_local Input p q r = refl
  well_local Var p q r = refl
  well_local (Op o) p q r = fits_local o p q r
  well_local (Fby t) p q r = rw (p (omega arith))
  well_local (Rec t) p q r = rw (p (omega arith))
  well_local Let p q r = refl
  well_local Check p q r = rw (p (omega arith))
  well_local Contract p q r = rw (p (omega arith), r (omega arith))
  well_local Unknown p q r = refl

pub returns : goal.returns
unfolding breaks mistyped
returns c =
    let p = c.requires in
    let s = c.args.self.s.now in
    let i = c.args.i.0 in
    let typed : (k : ℕ) (t : ValueType) → (i < nodes s → k < arity_at s i → t ≡ type_in c.args.table.now (operand s i k)) → k < arity_at s i → t ≡ type_at s (operand s i k) =
    λ k t e b. e p.i_bound b ∙ p.typed _ (operand_node c.args.self.formed i p.i_bound k b) in
    rw (c.well_typed.ensures, c.kind.ensures)
    (ap not (well_local _ (typed 0 _ c.operand_type-a.ensures) (typed 1 _ c.operand_type-b.ensures) (typed 2 _ c.operand_type-c.ensures)))
