-- Request P1: the listing of a sheet. "After `sheet` come the column types, then the expression, single spaces throughout, no line end."
use Rattle.std.specs.Prelude.{ℕ, ◌+◌, ◌*◌, ◌<◌, ◌≡◌, Bool, cond, ◌&&◌, List, [], ◌∷◌, ◌++◌, leb, eqb, get_or, replicate}
use Rattle.finite.specs.Count.{count}
use Rattle.finite.specs.Lists.{joined}
use Rattle.number.specs.Word.{signed}
use Rattle.number.specs.declared.Operator.{Operator}
use Rattle.number.specs.declared.Operator.TheVariants.{Not, And, Or, Xor, If, Eq, Lt, Le, Add, Sub, Mul, Div, Neg, Mod}
use Rattle.text.specs.Text.{decimal, integer, space}
use Rattle.sheet.specs.Ceilings.{max_columns, max_nodes}
use Rattle.sheet.specs.Bytes.{columns, column_type, nodes, kind_at, argument, arity, end_of}
use Rattle.sheet.specs.declared.ValueType.{ValueType}
use Rattle.sheet.specs.declared.ValueType.TheVariants.{Bool as bool, Int as int}
use Rattle.sheet.specs.declared.Kind.{Kind}
use Rattle.sheet.specs.declared.Kind.TheVariants.{Const, Input, Var, Op, Fby, Rec, Let, Check, Contract, Unknown}
use Rattle.words.specs.Words.{type_word}

-- THE WORDS

-- "operators use their lower-case names"
abbrev pub operator_name : Operator → List ℕ
operator_name Not = 110 ∷ 111 ∷ 116 ∷ []
operator_name And = 97 ∷ 110 ∷ 100 ∷ []
operator_name Or = 111 ∷ 114 ∷ []
operator_name Xor = 120 ∷ 111 ∷ 114 ∷ []
operator_name If = 105 ∷ 102 ∷ []
operator_name Eq = 101 ∷ 113 ∷ []
operator_name Lt = 108 ∷ 116 ∷ []
operator_name Le = 108 ∷ 101 ∷ []
operator_name Add = 97 ∷ 100 ∷ 100 ∷ []
operator_name Sub = 115 ∷ 117 ∷ 98 ∷ []
operator_name Mul = 109 ∷ 117 ∷ 108 ∷ []
operator_name Div = 100 ∷ 105 ∷ 118 ∷ []
operator_name Neg = 110 ∷ 101 ∷ 103 ∷ []
operator_name Mod = 109 ∷ 111 ∷ 100 ∷ []

-- the name of a node with operands: not, .., mod, fby, rec, let, check, contract. "CONST, INPUT and VAR stand bare"
unfoldable pub name : Kind → List ℕ
name (Const t) = []
name Input = []
name Var = []
name (Op o) = operator_name o
name (Fby t) = 102 ∷ 98 ∷ 121 ∷ []
name (Rec t) = 114 ∷ 101 ∷ 99 ∷ []
name Let = 108 ∷ 101 ∷ 116 ∷ []
name Check = 99 ∷ 104 ∷ 101 ∷ 99 ∷ 107 ∷ []
name Contract = 99 ∷ 111 ∷ 110 ∷ 116 ∷ 114 ∷ 97 ∷ 99 ∷ 116 ∷ []
name Unknown = []

-- "bools as true and false, ints in decimal with no leading zero, no plus and no -0"
abbrev pub bool_word : ℕ → List ℕ
bool_word a = get_or ((102 ∷ 97 ∷ 108 ∷ 115 ∷ 101 ∷ []) ∷ []) a (116 ∷ 114 ∷ 117 ∷ 101 ∷ [])

abbrev pub constant : ValueType → ℕ → List ℕ
constant bool a = bool_word a
constant int a = integer (signed a)

-- what a node carries: "`v` carries the binder's node number, `i` the column, `rec` its type. CONST prints as its value, FBY's first value
-- as its first word"
unfoldable pub carried : Kind → (argument : ℕ) → List ℕ
carried (Const t) a = constant t a
carried Input a = 105 ∷ decimal a
carried Var a = 118 ∷ decimal a
carried (Op o) a = []
carried (Fby t) a = space ++ constant t a
carried (Rec t) a = space ++ type_word t
carried Let a = []
carried Check a = []
carried Contract a = []
carried Unknown a = []

-- THE TEXT

-- "Brackets stand exactly round nodes with operands": one opens before the name ..
unfoldable pub opens : Kind → Bool
opens k = leb 1 (arity k)

unfoldable pub opening : Kind → List ℕ
opening k = cond (opens k) (40 ∷ []) []

-- .. and closes after the last node of the expression: node a's closes after node i
unfoldable pub closes : List ℕ → (i a : ℕ) → Bool
closes s i a = opens (kind_at s a) && eqb (end_of s a) (i + 1)

unfoldable pub closings : List ℕ → ℕ → ℕ
closings s i = count (closes s i) (nodes s)

-- a table that has the closings after each node
abbrev pub Closings : List ℕ → List ℕ → Type 0
Closings s table = (i : ℕ) → i < nodes s → get_or table i 0 ≡ closings s i

-- a node of kind k, after which so many expressions close
unfoldable pub node_text : Kind → (argument closings : ℕ) → List ℕ
node_text k a n = space ++ (opening k ++ (name k ++ (carried k a ++ replicate n 41)))

unfoldable pub node_at : List ℕ → ℕ → List ℕ
node_at s i = node_text (kind_at s i) (argument s i) (closings s i)

unfoldable pub column_at : List ℕ → ℕ → List ℕ
column_at s c = space ++ type_word (column_type s c)

-- `sheet`, the column types, and the nodes in prefix order, so that "operands follow the name"
unfoldable pub listing : List ℕ → List ℕ
listing s = (115 ∷ 104 ∷ 101 ∷ 101 ∷ 116 ∷ []) ++ (joined (column_at s) (columns s) ++ joined (node_at s) (nodes s))

-- no listing is longer: ` bool` for each column, and ` (fby -2147483648` with its closing bracket for each node
abbrev pub max_text : ℕ
max_text = 5 + 5 * max_columns + 18 * max_nodes
