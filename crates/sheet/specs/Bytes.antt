-- Document 01, "Sheet bytes". Bytes past the end read 0, so that every sentence has a meaning for any bytes.
use Rattle.std.specs.Prelude.{ℕ, ◌+◌, ◌-◌, ◌*◌, ◌/◌, ◌<◌, ◌≡◌, Bool, true, false, ◌&&◌, List, [], ◌∷◌, map, length, get_or, ltb, leb}
use Rattle.number.specs.Word.{word}
use Rattle.number.specs.Operators.{operands, operators}
use Rattle.sheet.specs.Prefix.{times, end}
use Rattle.sheet.specs.declared.ValueType.{ValueType}
use Rattle.sheet.specs.declared.ValueType.TheVariants.{Bool as bool, Int as int}
use Rattle.sheet.specs.declared.Kind.{Kind}
use Rattle.sheet.specs.declared.Kind.TheVariants.{Const, Input, Var, Op, Fby, Rec, Let, Check, Contract, Unknown}

abbrev pub byte : List ℕ → ℕ → ℕ
byte s at = get_or s at 0

-- "Bytes 0 and 1: total length, big-endian, these two included"
abbrev pub stated : List ℕ → ℕ
stated s = byte s 0 * 256 + byte s 1

-- "Byte 3: C"
abbrev pub columns : List ℕ → ℕ
columns s = byte s 3

-- "type bytes (0 bool, 1 int)"
abbrev pub type_of : ℕ → ValueType
type_of b = get_or (bool ∷ []) b int

-- "Then C type bytes"
unfoldable pub column_type : List ℕ → ℕ → ValueType
column_type s c = type_of (byte s (4 + c))

-- "Then N records of 6 bytes"
unfoldable pub nodes : List ℕ → ℕ
nodes s = (length s - (4 + columns s)) / 6

-- where node i's record starts
unfoldable pub start : List ℕ → ℕ → ℕ
start s i = 4 + columns s + 6 * i

-- THE TABLE OF KINDS

-- a code that is a type, one that is an operator, and one marked -
abbrev pub typed : (ValueType → Kind) → ℕ → Kind
typed kind code = get_or (kind bool ∷ kind int ∷ []) code Unknown

abbrev pub operated : ℕ → Kind
operated code = get_or (map Op operators) code Unknown

abbrev pub plain : Kind → ℕ → Kind
plain kind code = get_or (kind ∷ []) code Unknown

-- a record's first two bytes: its kind and its code
unfoldable pub kind_of : ℕ → ℕ → Kind
kind_of kind code =
    get_or
    (typed Const code ∷ plain Input code ∷ plain Var code ∷ operated code ∷ typed Fby code ∷ typed Rec code ∷ plain Let code ∷ plain Check code ∷ plain Contract code ∷ [])
    kind Unknown

unfoldable pub kind_at : List ℕ → ℕ → Kind
kind_at s i = kind_of (byte s (start s i)) (byte s (start s i + 1))

-- "a 4-byte big-endian argument"
unfoldable pub argument : List ℕ → ℕ → ℕ
argument s i = let at = start s i + 2 in word (byte s at) (byte s (at + 1)) (byte s (at + 2)) (byte s (at + 3))

-- how many operands a node has
unfoldable pub arity : Kind → ℕ
arity (Const t) = 0
arity Input = 0
arity Var = 0
arity (Op o) = operands o
arity (Fby t) = 1
arity (Rec t) = 1
arity Let = 2
arity Check = 2
arity Contract = 3
arity Unknown = 0

-- the kinds that later sentences single out
unfoldable pub is_var : Kind → Bool
is_var (Const t) = false
is_var Input = false
is_var Var = true
is_var (Op o) = false
is_var (Fby t) = false
is_var (Rec t) = false
is_var Let = false
is_var Check = false
is_var Contract = false
is_var Unknown = false

unfoldable pub is_fby : Kind → Bool
is_fby (Const t) = false
is_fby Input = false
is_fby Var = false
is_fby (Op o) = false
is_fby (Fby t) = true
is_fby (Rec t) = false
is_fby Let = false
is_fby Check = false
is_fby Contract = false
is_fby Unknown = false

-- THE TREE, in intervals: node i's expression is i up to end_of s i

abbrev pub arity_at : List ℕ → ℕ → ℕ
arity_at s i = arity (kind_at s i)

unfoldable pub end_of : List ℕ → ℕ → ℕ
end_of s i = end (arity_at s) (nodes s) i

-- where operand k of node i starts, k from 0
unfoldable pub operand : List ℕ → ℕ → ℕ → ℕ
operand s i k = times k (end_of s) (i + 1)

-- node i lies in operand k of node b
unfoldable pub lies : List ℕ → (b k i : ℕ) → Bool
lies s b k i = leb (operand s b k) i && ltb i (end_of s (operand s b k))

-- node a stands above node i
unfoldable pub above : List ℕ → (a i : ℕ) → Bool
above s a i = ltb a i && ltb i (end_of s a)

-- a table that has the end of each node's expression
abbrev pub Ends : List ℕ → List ℕ → Type 0
Ends s table = (i : ℕ) → i < nodes s → get_or table i 0 ≡ end_of s i

-- the operands by such a table
unfoldable pub operand_by : List ℕ → (i k : ℕ) → ℕ
operand_by table i k = times k (λ j. get_or table j 0) (i + 1)
