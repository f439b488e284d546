-- What a closure gives for the cells.
use Rattle.std.specs.Prelude.{ℕ, ◌<◌, ◌≡◌, true, List, ℤ}
use Rattle.sheet.specs.Bytes.{nodes}
use Rattle.sheet.specs.declared.Node.{Node}
use Rattle.rules.specs.Scope.{fby_at}

-- for each FBY f has the one value that the closure may answer
abbrev pub Gives : List ℕ → (post : Node → ℤ → Type 0) → (f : ℕ → ℤ) → Type 0
Gives s post f = (i : Node) → i.0 < nodes s → fby_at s i.0 ≡ true → (v : ℤ) → post i v → v ≡ f i.0
