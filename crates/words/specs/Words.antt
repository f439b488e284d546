-- The words that more than one program prints: a type and a refusal.
use Rattle.std.specs.Prelude.{ℕ, List, [], ◌∷◌, ◌++◌}
use Rattle.text.specs.Text.{decimal, space, feed}
use Rattle.sheet.specs.declared.ValueType.{ValueType}
use Rattle.sheet.specs.declared.ValueType.TheVariants.{Bool as bool, Int as int}

abbrev pub type_word : ValueType → List ℕ
type_word bool = 98 ∷ 111 ∷ 111 ∷ 108 ∷ []
type_word int = 105 ∷ 110 ∷ 116 ∷ []

-- "refused number place"
unfoldable pub refused_line : (number place : ℕ) → List ℕ
refused_line number place =
    (114 ∷ 101 ∷ 102 ∷ 117 ∷ 115 ∷ 101 ∷ 100 ∷ 32 ∷ []) ++ (decimal number ++ (space ++ (decimal place ++ feed)))
