-- Document 01, "The printing program": from the bytes of standard input to the bytes that sheetrun prints.
use Rattle.std.specs.Prelude.{ℕ, zero, suc, ◌+◌, ◌*◌, ◌/◌, ◌%◌, ◌≡◌, Bool, true, not, List, [], ◌∷◌, ◌++◌, ltb, eqb, ℤ, length, take, drop, Option, Some, None}
use Rattle.finite.specs.Lists.{gather, joined}
use Rattle.number.specs.Word.{word, signed}
use Rattle.text.specs.Text.{decimal, integer, space, feed}
use Rattle.sheet.specs.Ruling.{Ruling, passed, refused, rule, ◌then◌}
use Rattle.sheet.specs.Bytes.{byte, stated, nodes, columns}
use Rattle.sheet.specs.declared.Node.{Node}
use Rattle.sheet.specs.declared.ValueType.{ValueType}
use Rattle.words.specs.Words.{type_word, refused_line}
use Rattle.rules.specs.Types.{type_at}
use Rattle.rules.specs.Slots.{slots}
use Rattle.rules.specs.Check.{rules}
use Rattle.meaning.specs.Equations.{Means}
use Rattle.meaning.specs.Verdicts.{lowest_failing}
use Rattle.meaning.specs.declared.Verdict.{Verdict}
use Rattle.meaning.specs.declared.Verdict.TheVariants.{Pass, Fail, Caller, Body}
use Rattle.engine.specs.Rows.{row_rule, row_at}
use Rattle.engine.specs.Operations.{max_rows}

-- "Input over 32768 bytes prints refused 1 0 before anything else is looked at"
abbrev pub max_input : ℕ
max_input = 32768

-- "a sheet, cut by its own first two bytes (all the input if there are fewer), then rows"
unfoldable pub sheet_in : List ℕ → List ℕ
sheet_in input = take (stated input) input

unfoldable pub rest : List ℕ → List ℕ
rest input = drop (stated input) input

-- "rows of 4-byte big-endian ints"
unfoldable pub int_at : List ℕ → ℕ → ℤ
int_at bytes k = signed (word (byte bytes (4 * k)) (byte bytes (4 * k + 1)) (byte bytes (4 * k + 2)) (byte bytes (4 * k + 3)))

unfoldable pub ints : List ℕ → List ℤ
ints bytes = gather (λ k. true) (int_at bytes) (length bytes / 4)

unfoldable pub rows_in : List ℕ → List ℤ
rows_in input = ints (rest input)

-- "With C 0 the rest must be empty and one tick is run"
abbrev pub ticks_by : (columns bytes : ℕ) → ℕ
ticks_by zero bytes = 1
ticks_by (suc c) bytes = bytes / (4 * suc c)

unfoldable pub ticks : List ℕ → ℕ
ticks input = ticks_by (columns (sheet_in input)) (length (rest input))

-- "a rest that isn't whole rows", of a sheet with so many columns
abbrev pub broken_rows : (columns bytes : ℕ) → Bool
broken_rows zero bytes = not (eqb bytes 0)
broken_rows (suc c) bytes = not (eqb (bytes % (4 * suc c)) 0)

-- the row faults, of the bytes after an accepted sheet
unfoldable pub rest_rules : (s after : List ℕ) → Ruling
rest_rules s after =
    rule (broken_rows (columns s) (length after)) 12 1
    then rule (ltb max_rows (ticks_by (columns s) (length after))) 12 5
    then row_rule s (ints after)

-- "A refused sheet comes before these row faults"
unfoldable pub input_rules : List ℕ → Ruling
input_rules input = rule (ltb max_input (length input)) 1 0 then rules (sheet_in input) then rest_rules (sheet_in input) (rest input)

-- THE LINES

-- "ok N C S type with the root's type as bool or int"
unfoldable pub ok_line : (N C S : ℕ) → ValueType → List ℕ
ok_line N C S type =
    (111 ∷ 107 ∷ 32 ∷ []) ++ (decimal N ++ (space ++ (decimal C ++ (space ++ (decimal S ++ (space ++ (type_word type ++ feed)))))))

-- "verdict one of fail, caller, body"
abbrev pub verdict_word : Verdict → List ℕ
verdict_word Pass = 112 ∷ 97 ∷ 115 ∷ 115 ∷ []
verdict_word Fail = 102 ∷ 97 ∷ 105 ∷ 108 ∷ []
verdict_word Caller = 99 ∷ 97 ∷ 108 ∷ 108 ∷ 101 ∷ 114 ∷ []
verdict_word Body = 98 ∷ 111 ∷ 100 ∷ 121 ∷ []

-- "pass, or verdict node for the lowest failing node"
abbrev pub lowest_words : Option (Node × Verdict) → List ℕ
lowest_words None = verdict_word Pass
lowest_words (Some (i, verdict)) = verdict_word verdict ++ (space ++ decimal i.0)

-- "per tick: tick value pass, or tick value verdict node"
unfoldable pub tick_line : (t : ℕ) → (value : ℤ) → Option (Node × Verdict) → List ℕ
tick_line t value w = decimal t ++ (space ++ (integer value ++ (space ++ (lowest_words w ++ feed))))

-- the lines of the first T ticks, where X t i is node i's value at tick t
unfoldable pub tick_lines : List ℕ → (X : ℕ → ℕ → ℤ) → (T : ℕ) → List ℕ
tick_lines s X T = joined (λ t. tick_line t (X t 0) (lowest_failing s (X t))) T

-- all that is printed of a sheet and T rows. A refusal names no values: a refused sheet may have none that meet the equations
abbrev pub PrintedBy : Ruling → (s : List ℕ) → (rows : List ℤ) → (T : ℕ) → (out : List ℕ) → Type 0
PrintedBy passed s rows T out =
    (X : ℕ → ℕ → ℤ) → Means s (row_at s rows) X → out ≡ ok_line (nodes s) (columns s) (slots s) (type_at s 0) ++ tick_lines s X T
PrintedBy (refused number place) s rows T out = out ≡ refused_line number place

abbrev pub Printed : (input out : List ℕ) → Type 0
Printed input = PrintedBy (input_rules input) (sheet_in input) (rows_in input) (ticks input)

-- room for any text that is printed: a first line, and a line of at most 29 bytes for each of at most 256 ticks
abbrev pub max_output : ℕ
max_output = 8192
