-- How the text comes about: the most that it has of each part, and the lines of the ticks so far.
use Rattle.std.specs.Prelude.{ℕ, ◌*◌, ◌≤◌, ◌≡◌, List, ℤ, length}
use Rattle.text.specs.Text.{Adds}
use Rattle.sheet.specs.Ceilings.{max_columns}
use Rattle.sheet.specs.Bytes.{nodes}
use Rattle.rules.specs.Slots.{slots}
use Rattle.meaning.specs.Equations.{Means}
use Rattle.meaning.specs.Cells.{cells_at}
use Rattle.engine.specs.Rows.{row_at}
use Rattle.engine.specs.Operations.{max_rows}
use Rattle.console.specs.Sheetrun.{tick_lines, max_output}

-- the most ints that rows can have: 256 rows of 16
abbrev pub max_ints : ℕ
max_ints = max_rows * max_columns

-- the most bytes of a tick's line
abbrev pub max_line : ℕ
max_line = 29

-- a run's first t lines are appended to a text, and they are short
pub record LinesPut (s : List ℕ) (X : ℕ → ℕ → ℤ) (t : ℕ) (before after : List ℕ) : Type 0 where
  pub appends : Adds max_output (tick_lines s X t) before after
  pub short : length (tick_lines s X t) ≤ max_line * t

-- after t ticks: whatever values meet the equations, the cells are theirs and the lines of their ticks are put
pub record TicksPut (s : List ℕ) (rows : List ℤ) (t : ℕ) (cells values : List ℤ) (before after : List ℕ) : Type 0 where
  pub cells-size : length cells ≡ slots s
  pub values-size : length values ≡ nodes s
  pub lines : (X : ℕ → ℕ → ℤ) → Means s (row_at s rows) X → (cells ≡ cells_at s X t) × LinesPut s X t before after
