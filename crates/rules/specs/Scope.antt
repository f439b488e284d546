-- Document 01, "Scope, type, guard": depth, scope and guard, each by where a node lies.
use Rattle.std.specs.Prelude.{ℕ, ◌+◌, ◌<◌, ◌≡◌, Bool, true, false, not, ◌&&◌, ◌||◌, List, ◌≢◌, length, get_or, ltb}
use Rattle.finite.specs.Lowest.{lowest}
use Rattle.finite.specs.Count.{count}
use Rattle.sheet.specs.Bytes.{nodes, kind_at, is_fby, operand, lies, above}
use Rattle.sheet.specs.declared.Kind.{Kind}
use Rattle.sheet.specs.declared.Node.{Node}
use Rattle.sheet.specs.declared.Kind.TheVariants.{Const, Input, Var, Op, Fby, Rec, Let, Check, Contract, Unknown}

-- how many nodes that pass p stand above node i
unfoldable pub over : List ℕ → (ℕ → Bool) → ℕ → ℕ
over s p i = count (λ a. p a && above s a i) (nodes s)

-- "the root has depth 1"
unfoldable pub depth : List ℕ → ℕ → ℕ
depth s i = 1 + over s (λ a. true) i

abbrev pub fby_at : List ℕ → ℕ → Bool
fby_at s i = is_fby (kind_at s i)

-- the nodes that a table of counts goes by: the FBYs alone, or all
unfoldable pub counted : List ℕ → (delaysOnly : Bool) → ℕ → Bool
counted s delaysOnly i = not delaysOnly || fby_at s i

-- what a call answers at a node of the sheet is whether the node passes p
abbrev pub Tests : List ℕ → (post : Node → Bool → Type 0) → (p : ℕ → Bool) → Type 0
Tests s post p = (i : Node) (b : Bool) → i.0 < nodes s → post i b → b ≡ p i.0

-- a table that has for each node how many such nodes stand above it
abbrev pub Overs : List ℕ → Bool → List ℕ → Type 0
Overs s delaysOnly table = (i : ℕ) → i < nodes s → get_or table i 0 ≡ over s (counted s delaysOnly) i

-- of the two tables the second is the first, with one number at each of node i's operands before operand m
pub record HandedDown (s : List ℕ) (i m over : ℕ) (old new : List ℕ) : Type 0 where
  pub size : length new ≡ length old
  pub operands : (k : ℕ) → k < m → get_or new (operand s i k) 0 ≡ over
  pub others : (j : ℕ) → ((k : ℕ) → k < m → j ≢ operand s i k) → get_or new j 0 ≡ get_or old j 0

-- "A VAR must name a REC and lie in its operand, or a LET and lie in its body, or a CONTRACT and lie in its guarantee"
unfoldable pub binds : List ℕ → (b : ℕ) → Kind → (i : ℕ) → Bool
binds s b (Const t) i = false
binds s b Input i = false
binds s b Var i = false
binds s b (Op o) i = false
binds s b (Fby t) i = false
binds s b (Rec t) i = lies s b 0 i
binds s b Let i = lies s b 1 i
binds s b Check i = false
binds s b Contract i = lies s b 2 i
binds s b Unknown i = false

-- b is a node that the VAR i may name
unfoldable pub scoped : List ℕ → (b i : ℕ) → Bool
scoped s b i = ltb b (nodes s) && binds s b (kind_at s b) i

unfoldable pub is_rec : Kind → Bool
is_rec (Const t) = false
is_rec Input = false
is_rec Var = false
is_rec (Op o) = false
is_rec (Fby t) = false
is_rec (Rec t) = true
is_rec Let = false
is_rec Check = false
is_rec Contract = false
is_rec Unknown = false

-- "a FBY on the path strictly between the two"
unfoldable pub between : List ℕ → (b i f : ℕ) → Bool
between s b i f = fby_at s f && above s b f && above s f i

-- such a FBY is there, as a test and plainly
unfoldable pub guarded : List ℕ → (b i : ℕ) → Bool
guarded s b i = ltb (lowest (between s b i) 0 (nodes s)) (nodes s)

abbrev pub Guarded : List ℕ → (b i : ℕ) → Type 0
Guarded s b i = (f : ℕ) × (f < nodes s) × (fby_at s f ≡ true) × (above s b f ≡ true) × (above s f i ≡ true)
