-- How long the words are.
use Prim.Native.Nat.{ℕ, ◌≤◌, ◌<◌}
use native.Mathlib.Omega.{arith}
use lib.ListN.{length, length-append}
use Rattle.text.proofs.TextLaws.{decimal-length}
use Rattle.sheet.specs.declared.ValueType.{ValueType}
use Rattle.sheet.specs.declared.ValueType.TheVariants.{Bool as bool, Int as int}
use Rattle.words.specs.Words.{type_word, refused_line}

pub type_length : (t : ValueType) → length (type_word t) ≤ 4
type_length bool = omega arith
type_length int = omega arith

pub refused_length : (number place : ℕ) → number < 1000 → place < 18446744073709551616 → length (refused_line number place) ≤ 33
unfolding refused_line
refused_length number place n p = simp length-append (omega (arith, decimal-length 2 number (omega arith), decimal-length 19 place (omega arith)))
