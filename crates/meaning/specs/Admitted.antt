-- What a tick may be given: bool columns and bool FBYs hold 0 or 1.
use Rattle.std.specs.Prelude.{ℕ, ◌<◌, ◌≡◌, true, List, ℤ, pos, get_or}
use Rattle.number.specs.Operators.{is_bit}
use Rattle.sheet.specs.Bytes.{nodes, columns, column_type}
use Rattle.rules.specs.Scope.{fby_at}
use Rattle.rules.specs.Types.{type_at, is_bool}

-- the bool columns of the row do
abbrev pub AdmittedRow : List ℕ → (row : List ℤ) → Type 0
AdmittedRow s row = (c : ℕ) → c < columns s → is_bool (column_type s c) ≡ true → is_bit (get_or row c (pos 0)) ≡ true

-- the bool FBYs do, where FBY i answers `held i`
abbrev pub AdmittedHeld : List ℕ → (held : ℕ → ℤ) → Type 0
AdmittedHeld s held = (i : ℕ) → i < nodes s → fby_at s i ≡ true → is_bool (type_at s i) ≡ true → is_bit (held i) ≡ true
