-- "Needs within a tick: OP needs its operands; REC its operand; LET and CONTRACT the body; CHECK its value; a VAR the REC node, the LET's
-- definition, or the CONTRACT's body. CONST, INPUT and FBY need nothing."
use Rattle.std.specs.Prelude.{ℕ, ◌<◌, ◌≡◌, Bool, true, false, List, [], ◌∷◌, get_or}
use Rattle.finite.specs.Lists.{gather}
use Rattle.number.specs.Operators.{operands}
use Rattle.sheet.specs.Bytes.{kind_at, argument, operand, Ends}
use Rattle.rules.specs.Check.{Sound}
use Rattle.sheet.specs.declared.Kind.{Kind}
use Rattle.sheet.specs.declared.Kind.TheVariants.{Const, Input, Var, Op, Fby, Rec, Let, Check, Contract, Unknown}

-- what a VAR that names b, of a kind, needs
unfoldable pub named_need : List ℕ → (b : ℕ) → Kind → ℕ
named_need s b (Const t) = b
named_need s b Input = b
named_need s b Var = b
named_need s b (Op o) = b
named_need s b (Fby t) = b
named_need s b (Rec t) = b
named_need s b Let = operand s b 0
named_need s b Check = b
named_need s b Contract = operand s b 1
named_need s b Unknown = b

unfoldable pub needs_by : List ℕ → (i : ℕ) → Kind → List ℕ
needs_by s i (Const t) = []
needs_by s i Input = []
needs_by s i Var = named_need s (argument s i) (kind_at s (argument s i)) ∷ []
needs_by s i (Op o) = gather (λ k. true) (operand s i) (operands o)
needs_by s i (Fby t) = []
needs_by s i (Rec t) = operand s i 0 ∷ []
needs_by s i Let = operand s i 1 ∷ []
needs_by s i Check = operand s i 1 ∷ []
needs_by s i Contract = operand s i 1 ∷ []
needs_by s i Unknown = []

unfoldable pub needs : List ℕ → (i : ℕ) → List ℕ
needs s i = needs_by s i (kind_at s i)

-- how many needs a node of a kind has
abbrev pub need_count : Kind → ℕ
need_count (Const t) = 0
need_count Input = 0
need_count Var = 1
need_count (Op o) = operands o
need_count (Fby t) = 0
need_count (Rec t) = 1
need_count Let = 1
need_count Check = 1
need_count Contract = 1
need_count Unknown = 0

-- the needs of node i are all marked
abbrev pub Met : List ℕ → (marks : List Bool) → (i : ℕ) → Type 0
Met s marks i = (k : ℕ) → k < need_count (kind_at s i) → get_or marks (get_or (needs s i) k 0) false ≡ true

-- what needs are looked up by: a sheet that every rule accepts, and a table that has its ends
pub record Given (s endTable : List ℕ) : Type 0 where
  pub sound : Sound s
  pub ends : Ends s endTable
