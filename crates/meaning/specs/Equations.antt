-- "At tick t (from 0) every node has a value." The equations over ticks and nodes; no slot and no order is named.
use Rattle.std.specs.Prelude.{ℕ, zero, suc, ◌<◌, ◌≡◌, List, ℤ, pos, get_or}
use Rattle.number.specs.Word.{signed}
use Rattle.number.specs.Operators.{applied}
use Rattle.sheet.specs.Bytes.{nodes, kind_at, argument, operand}
use Rattle.sheet.specs.declared.Kind.{Kind}
use Rattle.sheet.specs.declared.Kind.TheVariants.{Const, Input, Var, Op, Fby, Rec, Let, Check, Contract, Unknown}

-- "VAR and REC: the value at t of the REC's operand, the LET's definition or the CONTRACT's body": the node that a VAR of b goes by
unfoldable pub source : List ℕ → (b : ℕ) → Kind → ℕ
source s b (Const t) = b
source s b Input = b
source s b Var = b
source s b (Op o) = b
source s b (Fby t) = b
source s b (Rec t) = operand s b 0
source s b Let = operand s b 0
source s b Check = b
source s b Contract = operand s b 1
source s b Unknown = b

-- a node's first value, or its constant
unfoldable pub literal : List ℕ → (i : ℕ) → ℤ
literal s i = signed (argument s i)

-- the value of node i, of a kind, at a tick with this row: v has the values of the tick's nodes, and a FBY answers `delayed`
unfoldable pub value_by : List ℕ → (row : List ℤ) → (delayed : ℤ) → (v : ℕ → ℤ) → (i : ℕ) → Kind → ℤ
value_by s row delayed v i (Const t) = literal s i
value_by s row delayed v i Input = get_or row (argument s i) (pos 0)
value_by s row delayed v i Var = v (source s (argument s i) (kind_at s (argument s i)))
value_by s row delayed v i (Op o) = applied o (v (operand s i 0)) (v (operand s i 1)) (v (operand s i 2))
value_by s row delayed v i (Fby t) = delayed
value_by s row delayed v i (Rec t) = v (operand s i 0)
value_by s row delayed v i Let = v (operand s i 1)
value_by s row delayed v i Check = v (operand s i 1)
value_by s row delayed v i Contract = v (operand s i 1)
value_by s row delayed v i Unknown = pos 0

unfoldable pub value : List ℕ → (row : List ℤ) → (delayed : ℤ) → (v : ℕ → ℤ) → (i : ℕ) → ℤ
value s row delayed v i = value_by s row delayed v i (kind_at s i)

-- "FBY: its first value at tick 0, after that its operand's value at t-1", where X t i is node i's value at tick t
unfoldable pub delayed : List ℕ → (X : ℕ → ℕ → ℤ) → (t i : ℕ) → ℤ
delayed s X zero i = literal s i
delayed s X (suc t) i = X t (operand s i 0)

-- v meets the equations of one tick, where FBY i answers `held i`
abbrev pub Solves : List ℕ → (row : List ℤ) → (held : ℕ → ℤ) → (v : ℕ → ℤ) → Type 0
Solves s row held v = (i : ℕ) → i < nodes s → v i ≡ value s row (held i) v i

-- X meets the equations at every tick
abbrev pub Means : List ℕ → (rows : ℕ → List ℤ) → (X : ℕ → ℕ → ℤ) → Type 0
Means s rows X = (t : ℕ) → Solves s (rows t) (delayed s X t) (X t)
