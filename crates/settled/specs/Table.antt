-- "Those marked * are proved": the table of what the definitions say of the settled sheets.
use Rattle.std.specs.Prelude.{ℕ, ◌≡◌, true, List, [], ◌∷◌, ℤ, pos, negsuc, Some, None}
use Rattle.finite.specs.Lists.{gather}
use Rattle.sheet.specs.Ruling.{passed, refused, accepted, turned}
use Rattle.sheet.specs.declared.ValueType.TheVariants.{Int as int}
use Rattle.rules.specs.Check.{check}
use Rattle.order.specs.Orders.{house_order, ordered}
use Rattle.meaning.specs.Equations.{Means}
use Rattle.meaning.specs.Verdicts.{lowest_failing}
use Rattle.meaning.specs.declared.Verdict.TheVariants.{Caller, Body}
use Rattle.engine.specs.Rows.{row_at}
use Rattle.listing.specs.Listing.{listing}
use Rattle.listing.specs.Telling.{sheet_told}
use Rattle.settled.specs.Sheets.{A, A-text, bare, strict, B, D}

-- the first T of what a function of a tick's values says, tick by tick, of values that meet the equations on these rows
abbrev pub Gives : {R : Type 0} → List ℕ → (rows : List ℤ) → ((ℕ → ℤ) → R) → (T : ℕ) → List R → Type 0
Gives s rows f T said = (X : ℕ → ℕ → ℤ) → Means s (row_at s rows) X → gather (λ t. true) (λ t. f (X t)) T ≡ said

-- the root's value
abbrev pub root : (ℕ → ℤ) → ℤ
root v = v 0

pub record Settled : Type 0 where
  -- A is accepted: N 5, C 1, S 1, int
  pub A-accepted : check A ≡ accepted (record { nodes = 5; columns = 1; slots = 1; root = int })
  -- its house order is 2 4 1 0 3
  pub A-house : house_order A ≡ 2 ∷ 4 ∷ 1 ∷ 0 ∷ 3 ∷ []
  -- rows 1, 2, 3 give 1, 3, 6
  pub A-sums : Gives A (pos 1 ∷ pos 2 ∷ pos 3 ∷ []) root 3 (pos 1 ∷ pos 3 ∷ pos 6 ∷ [])
  -- rows 2147483647, 1 end in -2147483648
  pub A-wraps : Gives A (pos 2147483647 ∷ pos 1 ∷ []) root 2 (pos 2147483647 ∷ negsuc 2147483647 ∷ [])
  -- order 4 2 1 0 3 is accepted; 2 1 4 0 3 is refused 15 at 1
  pub A-order : ordered A (4 ∷ 2 ∷ 1 ∷ 0 ∷ 3 ∷ []) ≡ passed
  pub A-misordered : ordered A (2 ∷ 1 ∷ 4 ∷ 0 ∷ 3 ∷ []) ≡ refused 15 1
  -- REC int, VAR 0 is refused 10 at 1
  pub bare-refused : check bare ≡ turned 10 1
  -- refused 10 at 3
  pub strict-refused : check strict ≡ turned 10 3
  -- B gives 0, 1, 2, 4, 8; house order 1 0 4 6 3 2 5
  pub B-accepted : check B ≡ accepted (record { nodes = 7; columns = 0; slots = 2; root = int })
  pub B-doubles : Gives B [] root 5 (pos 0 ∷ pos 1 ∷ pos 2 ∷ pos 4 ∷ pos 8 ∷ [])
  pub B-house : house_order B ≡ 1 ∷ 0 ∷ 4 ∷ 6 ∷ 3 ∷ 2 ∷ 5 ∷ []
  -- D, rows -1, 0, 5: values -2, -1, 4, verdicts CALLER, BODY, PASS
  pub D-accepted : check D ≡ accepted (record { nodes = 10; columns = 1; slots = 0; root = int })
  pub D-values : Gives D (negsuc 0 ∷ pos 0 ∷ pos 5 ∷ []) root 3 (negsuc 1 ∷ negsuc 0 ∷ pos 4 ∷ [])
  pub D-verdicts : Gives D (negsuc 0 ∷ pos 0 ∷ pos 5 ∷ []) (lowest_failing D) 3 (Some (record { 0 = 0 }, Caller) ∷ Some (record { 0 = 0 }, Body) ∷ None ∷ [])
  -- request P1: A's listing, and the sheet that it tells
  pub A-listing : listing A ≡ A-text
  pub A-told : sheet_told A-text ≡ A
