-- Document 01, "Types": the type of every node, also where another node breaks the type rule, and the rule itself.
use Rattle.std.specs.Prelude.{ℕ, zero, suc, ◌+◌, ◌*◌, ◌<◌, ◌≤◌, ◌≡◌, Bool, true, false, not, ◌&&◌, List, length, get_or}
use Rattle.number.specs.declared.Operator.{Operator}
use Rattle.number.specs.declared.Operator.TheVariants.{Not, And, Or, Xor, If, Eq, Lt, Le, Add, Sub, Mul, Div, Neg, Mod}
use Rattle.sheet.specs.Bytes.{nodes, kind_at, argument, column_type, operand, end_of}
use Rattle.sheet.specs.declared.ValueType.{ValueType}
use Rattle.sheet.specs.declared.ValueType.TheVariants.{Bool as bool, Int as int}
use Rattle.sheet.specs.declared.Kind.{Kind}
use Rattle.sheet.specs.declared.Kind.TheVariants.{Const, Input, Var, Op, Fby, Rec, Let, Check, Contract, Unknown}

-- "that of the REC, of the LET's definition, or of the CONTRACT's body"
unfoldable pub named_type : List ℕ → (T : ℕ → ValueType) → (b : ℕ) → Kind → ValueType
named_type s T b (Const t) = bool
named_type s T b Input = bool
named_type s T b Var = bool
named_type s T b (Op o) = bool
named_type s T b (Fby t) = bool
named_type s T b (Rec t) = t
named_type s T b Let = T (operand s b 0)
named_type s T b Check = bool
named_type s T b Contract = T (operand s b 1)
named_type s T b Unknown = bool

-- an operator's type, where t is the type of its second operand
unfoldable pub operator_type : Operator → (t : ValueType) → ValueType
operator_type Not t = bool
operator_type And t = bool
operator_type Or t = bool
operator_type Xor t = bool
operator_type If t = t
operator_type Eq t = bool
operator_type Lt t = bool
operator_type Le t = bool
operator_type Add t = int
operator_type Sub t = int
operator_type Mul t = int
operator_type Div t = int
operator_type Neg t = int
operator_type Mod t = int

-- the type of node i, of a kind, where T has the types of the nodes that it goes by
unfoldable pub type_by : List ℕ → (T : ℕ → ValueType) → (i : ℕ) → Kind → ValueType
type_by s T i (Const t) = t
type_by s T i Input = column_type s (argument s i)
type_by s T i Var = named_type s T (argument s i) (kind_at s (argument s i))
type_by s T i (Op o) = operator_type o (T (operand s i 1))
type_by s T i (Fby t) = t
type_by s T i (Rec t) = t
type_by s T i Let = T (operand s i 1)
type_by s T i Check = T (operand s i 1)
type_by s T i Contract = T (operand s i 1)
type_by s T i Unknown = bool

abbrev pub type_rule : List ℕ → (i : ℕ) → (T : ℕ → ValueType) → ValueType
type_rule s i T = type_by s T i (kind_at s i)

-- document 01's sentence on types, applied so many times over
unfoldable pub types_after : List ℕ → ℕ → ℕ → ValueType
types_after s zero i = bool
types_after s (suc k) i = type_rule s i (types_after s k)

-- the type of node i: a question that is handed on comes to its end within N + 1 times N + 1 steps
unfoldable pub type_at : List ℕ → ℕ → ValueType
type_at s i = types_after s ((nodes s + 1) * (nodes s + 1)) i

abbrev pub is_bool : ValueType → Bool
is_bool bool = true
is_bool int = false

abbrev pub is_int : ValueType → Bool
is_int t = not (is_bool t)

abbrev pub same_type : ValueType → ValueType → Bool
same_type bool t = is_bool t
same_type int t = is_int t

-- the operands' types fit the operator
unfoldable pub fits : Operator → (a b c : ValueType) → Bool
fits Not a b c = is_bool a
fits And a b c = is_bool a && is_bool b
fits Or a b c = is_bool a && is_bool b
fits Xor a b c = is_bool a && is_bool b
fits If a b c = is_bool a && same_type b c
fits Eq a b c = same_type a b
fits Lt a b c = is_int a && is_int b
fits Le a b c = is_int a && is_int b
fits Add a b c = is_int a && is_int b
fits Sub a b c = is_int a && is_int b
fits Mul a b c = is_int a && is_int b
fits Div a b c = is_int a && is_int b
fits Neg a b c = is_int a
fits Mod a b c = is_int a && is_int b

-- "an OP's operands don't fit, a FBY's or REC's operand hasn't its code's type, or a condition, rely or guarantee isn't bool":
-- a node of a kind keeps the rule, where a, b and c are its operands' types
unfoldable pub well_typed : Kind → (a b c : ValueType) → Bool
well_typed (Const t) a b c = true
well_typed Input a b c = true
well_typed Var a b c = true
well_typed (Op o) a b c = fits o a b c
well_typed (Fby t) a b c = same_type a t
well_typed (Rec t) a b c = same_type a t
well_typed Let a b c = true
well_typed Check a b c = is_bool a
well_typed Contract a b c = is_bool a && is_bool c
well_typed Unknown a b c = true

unfoldable pub mistyped : List ℕ → ℕ → Bool
mistyped s i = not (well_typed (kind_at s i) (type_at s (operand s i 0)) (type_at s (operand s i 1)) (type_at s (operand s i 2)))

-- a table that has the type of each node
abbrev pub type_in : List ValueType → ℕ → ValueType
type_in table i = get_or table i bool

abbrev pub Typed : List ℕ → List ValueType → Type 0
Typed s table = (i : ℕ) → i < nodes s → type_in table i ≡ type_at s i

-- the table has the type of each node whose expression ends before node i
abbrev pub SettledBefore : List ℕ → ℕ → List ValueType → Type 0
SettledBefore s i table = (j : ℕ) → j < i → end_of s j ≤ i → type_in table j ≡ type_at s j

-- of the two tables the second has the types of the nodes from .. to - 1, and the nodes before are as in the first
pub record Settled (s : List ℕ) (from to : ℕ) (old new : List ValueType) : Type 0 where
  pub size : length new ≡ length old
  pub inside : (j : ℕ) → from ≤ j → j < to → type_in new j ≡ type_at s j
  pub before : (j : ℕ) → j < from → type_in new j ≡ type_in old j
