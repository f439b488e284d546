-- Request P1: what sheetlist and sheetread print, from the bytes of standard input.
use Rattle.std.specs.Prelude.{ℕ, ◌+◌, ◌-◌, cond, List, ◌++◌, eqb, length, take}
use Rattle.text.specs.Text.{feed}
use Rattle.sheet.specs.Ruling.{Ruling, passed, refused}
use Rattle.sheet.specs.Bytes.{byte}
use Rattle.sheet.specs.Form.{form}
use Rattle.words.specs.Words.{refused_line}
use Rattle.listing.specs.Listing.{listing, max_text}
use Rattle.listing.specs.Telling.{sheet_told}
use Rattle.listing.specs.Answers.{text_rule}

-- a result, or "a refusal prints `refused NUMBER PLACE`"
unfoldable pub printed_by : Ruling → (result : List ℕ) → List ℕ
printed_by passed result = result
printed_by (refused number place) result = refused_line number place

-- "sheetlist prints the listing of a sheet on standard input with one line feed after it"
unfoldable pub sheetlist : List ℕ → List ℕ
sheetlist input = printed_by (form input) (listing input ++ feed)

-- "one line feed at its end allowed"
unfoldable pub text_in : List ℕ → List ℕ
text_in input = let last = length input - 1 in cond (eqb (byte input last) 10) (take last input) input

-- "sheetread turns a listing on standard input into the sheet's bytes"
unfoldable pub sheetread : List ℕ → List ℕ
sheetread input = printed_by (text_rule (text_in input)) (sheet_told (text_in input))

-- room for all that is printed: a listing with its line feed
abbrev pub max_printed : ℕ
max_printed = max_text + 1
