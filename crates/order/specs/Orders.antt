-- Right orders and the house order of a sheet, rule 15, and what House order answers and leaves.
use Rattle.std.specs.Prelude.{ℕ, ◌≡◌, List, length, Result}
use Rattle.table.specs.Order.{Right, misplaced, house}
use Rattle.sheet.specs.Ruling.{Ruling, lent, each, ◌then◌, told, at_end}
use Rattle.sheet.specs.Bytes.{nodes}
use Rattle.sheet.specs.declared.Lent.TheVariants.{Order}
use Rattle.sheet.specs.declared.Refusal.{Refusal}
use Rattle.rules.specs.Check.{rules}
use Rattle.order.specs.Needs.{needs}

-- "An order is right when it has N entries, every node once, each after its needs"
abbrev pub RightOrder : List ℕ → List ℕ → Type 0
RightOrder s order = Right (nodes s) (needs s) order

-- "The house order takes, at each position, the lowest node not yet placed whose needs are all placed"
unfoldable pub house_order : List ℕ → List ℕ
house_order s = house (nodes s) (needs s)

-- 15 ORDER: "entry not under N, seen earlier, or before a need", at the lowest position
unfoldable pub ordered : List ℕ → List ℕ → Ruling
ordered s order = each 15 (misplaced (nodes s) (needs s) order) 0 (nodes s)

-- House order's rules, of a lent slice of a length
unfoldable pub house_rules : List ℕ → ℕ → Ruling
house_rules s size = rules s then lent Order size (nodes s)

-- what House order answers, and what the lent slice holds at the end
pub record HouseOrder (s old : List ℕ) (r : Result (Unit {0}) Refusal) (new : List ℕ) : Type 0 where
  pub answer : told r ≡ house_rules s (length old)
  pub order : new ≡ at_end (house_rules s (length old)) (house_order s) old
