-- Numbers in decimal, computed.
use mathlib.Core.Path.{◌≡◌, refl}
use mathlib.Core.List.{[], ◌∷◌}
use lib.IntN.{negsuc}
use Rattle.text.specs.Text.{decimal_by, decimal, integer}

nought : decimal 0 ≡ 48 ∷ []
unfolding decimal decimal_by
nought = refl

seven : decimal 7 ≡ 55 ∷ []
unfolding decimal decimal_by
seven = refl

ten : decimal 10 ≡ 49 ∷ 48 ∷ []
unfolding decimal decimal_by
ten = refl

highest : decimal 4294967295 ≡ 52 ∷ 50 ∷ 57 ∷ 52 ∷ 57 ∷ 54 ∷ 55 ∷ 50 ∷ 57 ∷ 53 ∷ []
unfolding decimal decimal_by
highest = refl

lowest : integer (negsuc 2147483647) ≡ 45 ∷ 50 ∷ 49 ∷ 52 ∷ 55 ∷ 52 ∷ 56 ∷ 51 ∷ 54 ∷ 52 ∷ 56 ∷ []
unfolding integer decimal decimal_by
lowest = refl
