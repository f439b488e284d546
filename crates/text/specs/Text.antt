-- Text as lists of ASCII codes: numbers in decimal, what it is to append a word to a text, by itself or in a lent buffer, to copy a text
-- into a lent buffer, and to print it.
use Rattle.std.specs.Prelude.{ℕ, zero, suc, ◌+◌, ◌*◌, ◌/◌, ◌%◌, ◌≤◌, ◌≡◌, cond, List, [], ◌∷◌, ◌++◌, ltb, ℤ, pos, negsuc, length, min, take, drop}

-- one space, and a line feed
abbrev pub space : List ℕ
space = 32 ∷ []

abbrev pub feed : List ℕ
feed = 10 ∷ []

-- n in decimal; it takes as many turns as n has digits, and n turns are always enough
unfoldable pub decimal_by : ℕ → ℕ → List ℕ
decimal_by zero n = (48 + n) ∷ []
decimal_by (suc turns) n = let rest = decimal_by turns (n / 10) in cond (ltb n 10) ((48 + n) ∷ []) (rest ++ ((48 + n % 10) ∷ []))

-- n in decimal, the highest digit first, with no leading zero; 0 is "0"
unfoldable pub decimal : ℕ → List ℕ
decimal n = decimal_by n n

-- a number with a sign: "-" before the magnitude where it is below 0
unfoldable pub integer : ℤ → List ℕ
integer (pos n) = decimal n
integer (negsuc n) = 45 ∷ decimal (suc n)

-- the number that digits say after a number n, less multiples of 2 ^ 32; of any other byte the low four bits are taken for its digit
unfoldable pub digits_after : ℕ → List ℕ → ℕ
digits_after n [] = n
digits_after n (b ∷ word) = digits_after ((n * 10 + b % 16) % 4294967296) word

-- the number that a word in decimal says, less multiples of 2 ^ 32
unfoldable pub digits : List ℕ → ℕ
digits word = digits_after 0 word

-- from `before` to `after` a word is appended, if there is room for it
pub record Adds (room : ℕ) (word before after : List ℕ) : Type 0 where
  pub appended : length before + length word ≤ room → after ≡ before ++ word

-- the buffer `out` holds a text, of which `at` is the length, and after it what was there of old
pub record Holds (text old out : List ℕ) (at : ℕ) : Type 0 where
  pub contents : out ≡ text ++ drop (length text) old
  pub count : at ≡ length text

-- from `before` to `after` a word is appended to whatever text the buffer holds, if there is room, and r is the new text's length.
-- In any case the buffer keeps its length, and a place inside it stays inside.
pub record Appends (word before after : List ℕ) (at r : ℕ) : Type 0 where
  pub same_length : length after ≡ length before
  pub inside : at ≤ length before → r ≤ length before
  pub more : {text old : List ℕ} → Holds text old before at → length text + length word ≤ length old → Holds (text ++ word) old after r

-- a word of at most so many bytes is appended
pub record Puts (most : ℕ) (word before after : List ℕ) (at r : ℕ) : Type 0 where
  pub appends : Appends word before after at r
  pub short : length word ≤ most

-- the buffer's first r bytes are as many of the text's as there is room for. The others are what was there of old
pub record Copied (text before after : List ℕ) (r : ℕ) : Type 0 where
  pub count : r ≡ min (length text) (length before)
  pub contents : after ≡ take r text ++ drop r before

-- the buffer's first r bytes are a text of which P holds, if the buffer has so much room. In any case the buffer keeps its length and has r bytes
pub record Prints (room : ℕ) (P : List ℕ → Type 0) (before after : List ℕ) (r : ℕ) : Type 0 where
  pub same_length : length after ≡ length before
  pub inside : r ≤ length after
  pub counted : r ≡ length (take r after)
  pub text : room ≤ length before → P (take r after)
