-- Laws of rulings: what a ruling that passes tells of its rules, and that a refusal's number and place tell the refusal.
use Prim.Native.Nat.{ℕ, ◌+◌, ◌≤◌, ◌<◌}
use mathlib.Core.Path.{◌≡◌, refl, sym, ap, ◌∙◌}
use mathlib.Core.Logic.{◌↔◌}
use mathlib.Core.Bool.{Bool, true, false}
use Rattle.std.proofs.Common.{Result, Ok, Err, rules}
use mathlib.Core.List.{[], ◌∷◌}
use native.Mathlib.Omega.{arith}
use lib.ListN.{get_or}
use lib.Dec.{ltb}
use borrow.Author.Tests.{ltb-false, lt-ltb, le-ltb}
use Rattle.finite.specs.Lowest.{lowest}
use Rattle.finite.proofs.LowestLaws as low
use Rattle.finite.proofs.Tests.{not-both}
use Rattle.sheet.specs.Ruling.{Ruling, passed, refused, rule, each, ◌then◌, passes, accepted, turned, answer, lent_place, number_of, place_of, told, said}
use Rattle.sheet.specs.declared.Node.{Node}
use Rattle.sheet.specs.declared.Lent.{Lent}
use Rattle.sheet.specs.declared.Lent.TheVariants.{Rows, Cells, Order as Orders, Values, Outputs, Room}
use Rattle.sheet.specs.declared.Refusal.{Refusal}
use Rattle.sheet.specs.declared.Refusal.TheVariants.{Length, Version, Columns, Body, Record, Shape, Depth, Scope, Types, Unguarded, Slots, Lent as WrongLength, Row, Cell, Order, Text}

-- ---- rulings that pass

not-passed {ℓ} : {X : Type ℓ} (number place : ℕ) → refused number place ≡ passed → X
not-passed number place e = let z : ◌≡◌ {A = ℕ} 0 1 = cc in absurd (omega arith)

pub passes_is : (r : Ruling) → (passes r ≡ true) ↔ (r ≡ passed)
unfolding passes
passes_is passed = (λ e. refl, λ e. refl)
passes_is (refused number place) = (λ e. not-both false e refl, λ e. ap passes e)

pub rule-passed : (broken : Bool) (number place : ℕ) → (rule broken number place ≡ passed) ↔ (broken ≡ false)
unfolding rule
rule-passed true number place = (not-passed number place, λ e. cc)
rule-passed false number place = (λ e. refl, λ e. refl)

pub each-passed : (number : ℕ) (breaks : ℕ → Bool) (from count : ℕ)
    → (each number breaks from count ≡ passed) ↔ ((i : ℕ) → from ≤ i → i < from + count → breaks i ≡ false)
unfolding each
each-passed number breaks from count =
    let at : ℕ = lowest breaks from count in
    let r = rule-passed (ltb at (from + count)) number at in (
      λ e i l u. low.passed breaks from count i l (omega (arith, ltb-false at (from + count) (r.0 e))),
      λ none. r.1 (le-ltb at (from + count) (omega (arith, low.lowest_none breaks from count none))),
    )

pub each_passes : (number : ℕ) (breaks : ℕ → Bool) (from count : ℕ) → ((i : ℕ) → from ≤ i → i < from + count → breaks i ≡ false)
    → passed ≡ each number breaks from count
each_passes number breaks from count none = sym ((each-passed number breaks from count).1 none)

-- the lowest that breaks it is the place
pub each_refused : (number : ℕ) (breaks : ℕ → Bool) (from count i : ℕ) → from ≤ i → i < from + count → breaks i ≡ true
    → ((j : ℕ) → from ≤ j → j < i → breaks j ≡ false) → refused number i ≡ each number breaks from count
unfolding each rule
each_refused number breaks from count i l u broken none =
    let place : lowest breaks from count ≡ i = low.lowest-is breaks from count i l u broken none in
    rw (place, lt-ltb i (from + count) u)

pub then_passed : (a b : Ruling) → (a then b ≡ passed) ↔ ((a ≡ passed) × (b ≡ passed))
unfolding ◌then◌
then_passed passed b = (λ e. (refl, e), λ e. e.1)
then_passed (refused number place) b = (not-passed number place, λ e. e.0)

-- what a chain of tests answers, by the test that refuses or by the one that is left
pub then_refused : (a b : Ruling) (number place : ℕ) → refused number place ≡ a → refused number place ≡ a then b
unfolding ◌then◌
then_refused a b number place e = rw (← e)

pub then_next : (a b r : Ruling) → passed ≡ a → r ≡ b → r ≡ a then b
unfolding ◌then◌
then_next a b r e h = rw (← e) h

pub answer-accepted : {A : Type 0} (r : Ruling) (a x : A) → (answer r a ≡ accepted x) ↔ ((r ≡ passed) × (a ≡ x))
unfolding answer
answer-accepted passed a x = (λ e. (refl, cc), λ e. ap accepted e.1)
answer-accepted (refused number place) a x = (λ e. let z : ◌≡◌ {A = ℕ} 0 1 = cc in absurd (omega arith), λ e. not-passed number place e.0)

pub answer-turned : {A : Type 0} (r : Ruling) (a : A) (number place : ℕ) → turned number place ≡ answer r a → r ≡ refused number place
unfolding answer
answer-turned passed a number place e = let z : ◌≡◌ {A = ℕ} 0 1 = cc in absurd (omega arith)
answer-turned (refused n p) a number place e = let x : n ≡ number = cc in let y : p ≡ place = cc in rw (x, y)

-- ---- number and place tell the refusal

abbrev lent_at : ℕ → Lent
lent_at place = get_or (Rows ∷ Rows ∷ Cells ∷ Orders ∷ Values ∷ Outputs ∷ []) place Room

refusal_at : (number place : ℕ) → Refusal
refusal_at number place =
    let node : Node = record { 0 = place } in
    get_or
    (Length ∷ Length ∷ Version ∷ Columns place ∷ Body ∷ Record node ∷ Shape node ∷ Depth node ∷ Scope node ∷ Types node ∷ Unguarded node ∷ Slots node ∷ WrongLength (lent_at place) ∷ Row place ∷ Cell (record { 0 = place }) ∷ Order (record { 0 = place }) ∷ [])
    number Text

lent_back : (slice : Lent) → lent_at (lent_place slice) ≡ slice
lent_back Rows = refl
lent_back Cells = refl
lent_back Orders = refl
lent_back Values = refl
lent_back Outputs = refl
lent_back Room = refl

back : (r : Refusal) → refusal_at (number_of r) (place_of r) ≡ r
unfolding refusal_at
back Length = refl
back Version = refl
back (Columns at) = refl
back Body = refl
back (Record i) = refl
back (Shape i) = refl
back (Depth i) = refl
back (Scope i) = refl
back (Types i) = refl
back (Unguarded i) = refl
back (Slots i) = refl
back (WrongLength slice) = ap WrongLength (lent_back slice)
back (Row at) = refl
back (Cell j) = refl
back (Order p) = refl
back Text = refl

pub one_refusal : (a b : Refusal) → number_of a ≡ number_of b → place_of a ≡ place_of b → a ≡ b
one_refusal a b n p = sym (back a) ∙ rw (n, p) (back b)

-- and what an answer says, the answer
pub one_said : {A : Type 0} (a b : Result A Refusal) → said a ≡ said b → a ≡ b
one_said (Ok a) (Ok b) e = ap Ok (cc)
one_said (Ok a) (Err r) e = let z : ◌≡◌ {A = ℕ} 0 1 = cc in absurd (omega arith)
one_said (Err r) (Ok b) e = let z : ◌≡◌ {A = ℕ} 0 1 = cc in absurd (omega arith)
one_said (Err a) (Err b) e = ap Err (one_refusal a b (cc) (cc))

-- of a test, which answers nothing but whether it passes
pub one_answer : (a b : Result Unit Refusal) → told a ≡ told b → a ≡ b
one_answer (Ok a) (Ok b) e = ap Ok (search rules)
one_answer (Ok a) (Err r) e = not-passed _ _ (sym e)
one_answer (Err r) (Ok b) e = not-passed _ _ e
one_answer (Err a) (Err b) e = ap Err (one_refusal a b (cc) (cc))
