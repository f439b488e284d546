-- What sheet a text tells: each of its words is read for itself. A text is a listing exactly where the sheet it tells passes rules 1 to 6 and
-- has it as its listing, so that here nothing has to be refused, and a word that stands in no listing may tell anything.
use Rattle.std.specs.Prelude.{ℕ, zero, suc, ◌+◌, ◌-◌, ◌/◌, ◌%◌, Bool, true, false, cond, ◌&&◌, ◌||◌, List, [], ◌∷◌, ◌++◌, ltb, eqb, length, drop}
use Rattle.finite.specs.Lowest.{lowest}
use Rattle.finite.specs.Lists.{same}
use Rattle.text.specs.Text.{digits}
use Rattle.sheet.specs.Ceilings.{max_columns}
use Rattle.sheet.specs.Bytes.{byte, kind_of}
use Rattle.sheet.specs.declared.ValueType.TheVariants.{Bool as bool, Int as int}
use Rattle.words.specs.Words.{type_word}
use Rattle.listing.specs.Listing.{name, bool_word}

-- THE WORDS OF A TEXT: what stands between spaces and brackets

unfoldable pub parts : ℕ → Bool
parts b = eqb b 32 || eqb b 40 || eqb b 41

-- a byte more at the front of the first word
abbrev pub grown : ℕ → List (List ℕ) → List (List ℕ)
grown b [] = (b ∷ []) ∷ []
grown b (w ∷ ws) = (b ∷ w) ∷ ws

-- what stands before, between and after the bytes that part, empty or not
unfoldable pub split : List ℕ → List (List ℕ)
split [] = [] ∷ []
split (b ∷ t) = let rest = split t in cond (parts b) ([] ∷ rest) (grown b rest)

-- those that are not empty
unfoldable pub filled : List (List ℕ) → List (List ℕ)
filled [] = []
filled ([] ∷ ws) = filled ws
filled ((b ∷ w) ∷ ws) = (b ∷ w) ∷ filled ws

unfoldable pub words : List ℕ → List (List ℕ)
words t = filled (split t)

-- THE RECORD THAT A WORD TELLS, with the word after it

-- "a 4-byte big-endian argument"
unfoldable pub record_of : (kind code argument : ℕ) → List ℕ
record_of kind code a = kind ∷ code ∷ a / 16777216 ∷ a / 65536 % 256 ∷ a / 256 % 256 ∷ a % 256 ∷ []

-- a number begins with a digit or a minus, which come before 58 and so before all letters
unfoldable pub is_number : List ℕ → Bool
is_number w = ltb (byte w 0) 58

-- an int's 32 bits; 45 is the minus
unfoldable pub bits_of : List ℕ → ℕ
bits_of w = cond (eqb (byte w 0) 45) ((4294967296 - digits (drop 1 w)) % 4294967296) (digits w)

unfoldable pub is_constant : List ℕ → Bool
is_constant w = is_number w || same w (bool_word 0) || same w (bool_word 1)

-- "A constant's type is told by its text": the record of a CONST or a FBY
unfoldable pub constant_record : (kind : ℕ) → List ℕ → List ℕ
constant_record kind w = cond (is_number w) (record_of kind 1 (bits_of w)) (record_of kind 0 (cond (same w (bool_word 1)) 1 0))

-- a letter and a number
unfoldable pub numbered : (letter : ℕ) → List ℕ → Bool
numbered letter w = eqb (byte w 0) letter && ltb (byte w 1) 58

-- the nineteen names by number: the fourteen operators by their codes, then FBY, REC, LET, CHECK and CONTRACT, kinds 4 to 8
abbrev pub kind_no : ℕ → ℕ
kind_no n = cond (ltb n 14) 3 (n - 10)

abbrev pub code_no : ℕ → ℕ
code_no n = cond (ltb n 14) n 0

unfoldable pub named : ℕ → List ℕ → Bool
named n w = same w (name (kind_of (kind_no n) (code_no n)))

-- the number of a word among the names; 19 where it is none
unfoldable pub name_no : List ℕ → ℕ
name_no w = lowest (λ n. named n w) 0 19

unfoldable pub is_type : List ℕ → Bool
is_type w = same w (type_word bool) || same w (type_word int)

unfoldable pub type_no : List ℕ → ℕ
type_no w = cond (same w (type_word bool)) 0 1

-- FBY, name 14, is followed by its first value, and REC, name 15, by its type
unfoldable pub name_record : (n : ℕ) → (next : List ℕ) → List ℕ
name_record n v = cond (eqb n 14) (constant_record 4 v) (cond (eqb n 15) (record_of 5 (type_no v) 0) (record_of (kind_no n) (code_no n) 0))

-- a constant; v, which is 118, or i, which is 105, and a number; or a name
unfoldable pub record_told : (word next : List ℕ) → List ℕ
record_told w v =
    cond (is_constant w) (constant_record 0 w)
    (cond (numbered 118 w) (record_of 2 0 (digits (drop 1 w)))
    (cond (numbered 105 w) (record_of 1 0 (digits (drop 1 w)))
    (name_record (name_no w) v)))

-- whether the word after it is part of what it tells
unfoldable pub takes_next : List ℕ → Bool
takes_next w = named 14 w || named 15 w

-- THE SHEET THAT A TEXT TELLS

abbrev pub next : List (List ℕ) → List ℕ
next [] = []
next (w ∷ ws) = w

-- the records that words tell; the first word is passed over where it was part of the one before
unfoldable pub records_told : (pass : Bool) → List (List ℕ) → List ℕ
records_told pass [] = []
records_told true (w ∷ ws) = records_told false ws
records_told false (w ∷ ws) = record_told w (next ws) ++ records_told (takes_next w) ws

-- the type bytes that the first words tell, at most so many
unfoldable pub types_told : ℕ → List (List ℕ) → List ℕ
types_told zero ws = []
types_told (suc k) [] = []
types_told (suc k) (w ∷ ws) = let rest = types_told k ws in cond (is_type w) (type_no w ∷ rest) []

-- a sheet of these type bytes and records
unfoldable pub headed : (types records : List ℕ) → List ℕ
headed types records =
    let n = 4 + length types + length records in n / 256 ∷ n % 256 ∷ 1 ∷ length types ∷ (types ++ records)

-- after the first word, which is `sheet`
unfoldable pub told_by : List (List ℕ) → List ℕ
told_by ws = let types = types_told max_columns ws in headed types (records_told false (drop (length types) ws))

unfoldable pub sheet_told : List ℕ → List ℕ
sheet_told t = told_by (drop 1 (words t))
