-- How the sheet that a text tells is read: its words one after the other, its type bytes.
use Rattle.std.specs.Prelude.{ℕ, ◌<◌, ◌≤◌, ◌≡◌, List, ◌∷◌, length, drop}
use Rattle.sheet.specs.Ceilings.{max_columns}
use Rattle.listing.specs.Telling.{words, next, types_told}

-- a text's first word, and the text after it
pub record FirstWord (text word rest : List ℕ) : Type 0 where
  pub words_are : words text ≡ word ∷ words rest
  pub shorter : length rest < length text

-- the same, of a text that may have none
pub record FrontWord (text word rest : List ℕ) : Type 0 where
  pub word_is : word ≡ next (words text)
  pub rest_are : words rest ≡ drop 1 (words text)
  pub within : length rest ≤ length text

-- the type bytes that the words after the first tell, and the text after their words
pub record TypesRead (text types left : List ℕ) : Type 0 where
  pub types_are : types ≡ types_told max_columns (drop 1 (words text))
  pub left_are : words left ≡ drop (length types) (drop 1 (words text))
