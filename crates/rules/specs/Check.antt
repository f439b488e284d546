-- Rules 7 to 11 of document 01's table, each a test on nodes, and what Check answers.
use Rattle.std.specs.Prelude.{ℕ, ◌<◌, ◌≤◌, ◌≡◌, Bool, true, not, ◌&&◌, List, ltb, leb}
use Rattle.sheet.specs.Ceilings.{max_depth, max_slots}
use Rattle.sheet.specs.Ruling.{Ruling, each, ◌then◌, Outcome, answer}
use Rattle.sheet.specs.Bytes.{nodes, columns, kind_at, argument, is_var, operand, Ends}
use Rattle.sheet.specs.Form.{form, Formed}
use Rattle.sheet.specs.declared.Sheet.{Sheet}
use Rattle.rules.specs.Scope.{depth, binds, scoped, is_rec, guarded, Guarded, fby_at}
use Rattle.rules.specs.Types.{type_at, well_typed, mistyped}
use Rattle.rules.specs.Slots.{slot, slots, Slotted}
use Rattle.rules.specs.declared.Rule.{Rule}
use Rattle.rules.specs.declared.Rule.TheVariants.{Depth, Scope, Types, Unguarded, Slots}

-- node i breaks a rule
unfoldable pub breaks : List ℕ → Rule → ℕ → Bool
breaks s Depth i = ltb max_depth (depth s i)
breaks s Scope i = is_var (kind_at s i) && not (scoped s (argument s i) i)
breaks s Types i = mistyped s i
breaks s Unguarded i = is_var (kind_at s i) && is_rec (kind_at s (argument s i)) && not (guarded s (argument s i) i)
breaks s Slots i = fby_at s i && leb max_slots (slot s i)

-- every VAR names a node that it may name
abbrev pub Scoped : List ℕ → Type 0
Scoped s = (i : ℕ) → i < nodes s → is_var (kind_at s i) ≡ true → scoped s (argument s i) i ≡ true

-- document 01's numbers of these rules
abbrev pub rule_number : Rule → ℕ
rule_number Depth = 7
rule_number Scope = 8
rule_number Types = 9
rule_number Unguarded = 10
rule_number Slots = 11

-- a rule over all nodes, at the lowest that breaks it
abbrev pub ruled : List ℕ → Rule → Ruling
ruled s r = each (rule_number r) (breaks s r) 0 (nodes s)

-- rules 7 to 10, in this order
unfoldable pub tree_rules : List ℕ → Ruling
tree_rules s = ruled s Depth then ruled s Scope then ruled s Types then ruled s Unguarded

-- rules 1 to 11, in this order
unfoldable pub rules : List ℕ → Ruling
rules s = form s then tree_rules s then ruled s Slots

-- "node count N, column count C, slot count S and the root's type"
unfoldable pub sheet : List ℕ → Sheet
sheet s = record { nodes = nodes s; columns = columns s; slots = slots s; root = type_at s 0 }

unfoldable pub check : List ℕ → Outcome Sheet
check s = answer (rules s) (sheet s)

-- what the tables hold after a sheet was accepted
pub record Tables (s endTable slotTable : List ℕ) : Type 0 where
  pub ends : Ends s endTable
  pub slotted : Slotted s slotTable

-- document 01's rules 1 to 11 as plain statements of a sheet's nodes
pub record Sound (s : List ℕ) : Type 0 where
  pub formed : Formed s
  pub shallow : (i : ℕ) → i < nodes s → depth s i ≤ max_depth
  pub scope : (i : ℕ) → i < nodes s → is_var (kind_at s i) ≡ true → (argument s i < nodes s) × (binds s (argument s i) (kind_at s (argument s i)) i ≡ true)
  pub types : (i : ℕ) → i < nodes s → well_typed (kind_at s i) (type_at s (operand s i 0)) (type_at s (operand s i 1)) (type_at s (operand s i 2)) ≡ true
  pub guard : (i : ℕ) → i < nodes s → is_var (kind_at s i) ≡ true → is_rec (kind_at s (argument s i)) ≡ true → Guarded s (argument s i) i
  pub few : slots s ≤ max_slots
