-- 13 ROW and 14 CELL: a bool column or a bool slot that holds neither 0 nor 1.
use Rattle.std.specs.Prelude.{ℕ, ◌*◌, ◌%◌, Bool, not, ◌&&◌, List, ℤ, pos, length, get_or, take, drop}
use Rattle.finite.specs.Lists.{gather}
use Rattle.number.specs.Operators.{is_bit}
use Rattle.sheet.specs.Ruling.{Ruling, each}
use Rattle.sheet.specs.Bytes.{nodes, columns, column_type}
use Rattle.sheet.specs.declared.ValueType.{ValueType}
use Rattle.sheet.specs.declared.ValueType.TheVariants.{Int as int}
use Rattle.rules.specs.Scope.{fby_at}
use Rattle.rules.specs.Types.{type_at, is_bool}
use Rattle.rules.specs.Slots.{slots}

-- a value that its type does not have
abbrev pub faulty : ValueType → ℤ → Bool
faulty t v = is_bool t && not (is_bit v)

-- the entry at an index of rows laid end to end
unfoldable pub bad_entry : List ℕ → (rows : List ℤ) → (at : ℕ) → Bool
bad_entry s rows at = faulty (column_type s (at % columns s)) (get_or rows at (pos 0))

unfoldable pub row_rule : List ℕ → (rows : List ℤ) → Ruling
row_rule s rows = each 13 (bad_entry s rows) 0 (length rows)

-- the row of tick t, of rows laid end to end
unfoldable pub row_at : List ℕ → (rows : List ℤ) → (t : ℕ) → List ℤ
row_at s rows t = take (columns s) (drop (t * columns s) rows)

-- the types of the slots
unfoldable pub slot_types : List ℕ → List ValueType
slot_types s = gather (fby_at s) (type_at s) (nodes s)

unfoldable pub bad_cell : List ℕ → (cells : List ℤ) → (j : ℕ) → Bool
bad_cell s cells j = faulty (get_or (slot_types s) j int) (get_or cells j (pos 0))

unfoldable pub cell_rule : List ℕ → (cells : List ℤ) → Ruling
cell_rule s cells = each 14 (bad_cell s cells) 0 (slots s)
