-- What the slots hold. "Start puts the first values there. After a tick the slot holds the FBY's operand's value."
use Rattle.std.specs.Prelude.{ℕ, List, ℤ, pos, get_or}
use Rattle.finite.specs.Lists.{gather}
use Rattle.sheet.specs.Bytes.{nodes, operand}
use Rattle.rules.specs.Scope.{fby_at}
use Rattle.rules.specs.Slots.{slot}
use Rattle.meaning.specs.Equations.{literal, delayed}

-- a cell for each FBY, by node number
unfoldable pub start_cells : List ℕ → List ℤ
start_cells s = gather (fby_at s) (literal s) (nodes s)

unfoldable pub next_cells : List ℕ → (v : ℕ → ℤ) → List ℤ
next_cells s v = gather (fby_at s) (λ i. v (operand s i 0)) (nodes s)

-- "each FBY's value read from its slot"
unfoldable pub held : List ℕ → (cells : List ℤ) → (i : ℕ) → ℤ
held s cells i = get_or cells (slot s i) (pos 0)

-- what the cells hold before tick t, if X t i is node i's value at tick t
unfoldable pub cells_at : List ℕ → (X : ℕ → ℕ → ℤ) → (t : ℕ) → List ℤ
cells_at s X t = gather (fby_at s) (delayed s X t) (nodes s)
