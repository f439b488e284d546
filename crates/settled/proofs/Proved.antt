-- The one theorem: the table of settled examples holds of the definitions.
use Prim.Native.Nat.{ℕ, ◌<◌}
use mathlib.Core.Path.{◌≡◌, refl, ◌∙◌}
use mathlib.Core.Bool.{true}
use mathlib.Core.List.{List, []}
use lib.IntN.{ℤ, pos}
use lib.ListN.{replicate, length-replicate}
use Rattle.finite.specs.Lowest.{lowest}
use Rattle.finite.specs.Count.{count}
use Rattle.finite.specs.Lists.{member, all, gather, joined, same}
use Rattle.finite.proofs.GatherLaws.{gather-same}
use Rattle.number.specs.Word.{wrap, sum, difference, negated, product, divided, modulo}
use Rattle.number.specs.Operators.{applied}
use Rattle.table.specs.Order.{ready, fit, misplaced, next, house_part, house}
use Rattle.table.specs.Equations.{at, work}
use Rattle.table.specs.Streams.{mem_at, vals_at}
use Rattle.text.specs.Text.{decimal_by, decimal, integer, digits, digits_after}
use Rattle.sheet.specs.Ruling.{rule, each, ◌then◌, answer, accepted}
use Rattle.sheet.specs.Prefix.{times, past, end}
use Rattle.sheet.specs.Bytes.{nodes, column_type, start, kind_of, kind_at, argument, arity, is_var, is_fby, end_of, operand, lies, above}
use Rattle.sheet.specs.Form.{whole_body, known, bad_record, length_version, column_types, body, records, shape, form}
use Rattle.sheet.specs.declared.Sheet.{Sheet}
use Rattle.sheet.specs.declared.ValueType.TheVariants.{Int as int}
use Rattle.rules.specs.Scope.{over, depth, binds, scoped, is_rec, between, guarded}
use Rattle.rules.specs.Types.{named_type, operator_type, type_by, types_after, type_at, fits, well_typed, mistyped}
use Rattle.rules.specs.Slots.{slot, slots}
use Rattle.rules.specs.Check.{breaks, tree_rules, rules, sheet, check, Sound}
use Rattle.rules.proofs.CheckLaws.{check_exactly, scoped_of}
use Rattle.order.specs.Needs.{named_need, needs_by, needs}
use Rattle.order.specs.Orders.{house_order, ordered}
use Rattle.order.proofs.GroundLaws.{needs-end}
use Rattle.order.proofs.OrderLaws.{house_right}
use Rattle.meaning.specs.Equations.{source, literal, value_by, value}
use Rattle.meaning.specs.Local.{local_by, local_value, machine}
use Rattle.meaning.specs.Verdicts.{verdict_by, verdict, lowest_failing}
use Rattle.meaning.proofs.MeaningLaws.{meaning_same, orders_mean}
use Rattle.meaning.proofs.VerdictLaws.{lowest_failing-same}
use Rattle.engine.specs.Rows.{row_at}
use Rattle.listing.specs.Listing.{listing, column_at, node_at, node_text, closings, closes, opens, opening, name, carried}
use Rattle.listing.specs.Telling.{parts, split, filled, words, record_of, is_number, bits_of, is_constant, constant_record, numbered, named, name_no, is_type, type_no, name_record, record_told, takes_next, records_told, types_told, headed, told_by, sheet_told}
use Rattle.settled.specs.Sheets.{A, A-text, bare, strict, B, D}
use Rattle.settled.specs.Table.{Gives, root, Settled}

-- `unfolding computes` opens all that the examples compute with
unfoldable pub computes : ℕ
unfolding lowest count member all gather wrap sum difference negated product divided modulo applied ready fit misplaced next house_part house work mem_at vals_at rule each ◌then◌ answer times past end nodes column_type start kind_of kind_at argument arity is_var is_fby end_of operand lies above whole_body known bad_record length_version column_types body records shape form over depth binds scoped is_rec between guarded named_type operator_type type_by types_after type_at fits well_typed mistyped slot slots breaks tree_rules rules sheet check named_need needs_by needs house_order ordered source literal value_by value local_by local_value machine verdict_by verdict lowest_failing row_at A bare strict B D joined decimal_by decimal integer digits digits_after listing column_at node_at node_text closings closes opens opening name carried parts split filled words record_of is_number bits_of is_constant constant_record numbered named name_no is_type type_no name_record record_told takes_next records_told types_told headed told_by sheet_told A-text
computes = 0

-- the values that working the house order at every tick fills in
unfoldable pub worked : List ℕ → List ℤ → ℕ → ℕ → ℤ
worked s rows t = at (pos 0) (vals_at (machine s) (pos 0) (row_at s rows) (λ t. house_order s) (λ t. replicate (nodes s) (pos 0)) t)

-- of an accepted sheet, what is said of those values is said of any that meet the equations
by_working : {R : Type 0} (s : List ℕ) (z : Sheet) → check s ≡ accepted z → (rows : List ℤ) (f : (ℕ → ℤ) → R) →
    ((v w : ℕ → ℤ) → ((i : ℕ) → i < nodes s → v i ≡ w i) → f v ≡ f w) → (T : ℕ) (said : List R) →
    gather (λ t. true) (λ t. f (worked s rows t)) T ≡ said → Gives s rows f T said
unfolding worked
by_working s z e rows f same T said w X m =
    let a : Sound s = ((check_exactly s z).0 e).0 in
    let g = needs-end a in
    let o = orders_mean a.formed (scoped_of a) g (row_at s rows) (λ t. house_order s) (λ t. house_right a) (λ t. replicate (nodes s) (pos 0)) (λ t. length-replicate (nodes s) (pos 0)) in
    gather-same (λ t. true) (λ t. true) _ _ T (λ t l. refl) (λ t l y. same _ _ (meaning_same a.formed (scoped_of a) g (row_at s rows) X _ m o t)) ∙ w

-- the accepted sheets, with their sizes
A-checked : check A ≡ accepted (record { nodes = 5; columns = 1; slots = 1; root = int })
unfolding computes
A-checked = refl

B-checked : check B ≡ accepted (record { nodes = 7; columns = 0; slots = 2; root = int })
unfolding computes
B-checked = refl

D-checked : check D ≡ accepted (record { nodes = 10; columns = 1; slots = 0; root = int })
unfolding computes
D-checked = refl

-- the root's value and the lowest failing node go by the values of nodes
root-same : (s : List ℕ) (z : Sheet) → check s ≡ accepted z → (v w : ℕ → ℤ) → ((i : ℕ) → i < nodes s → v i ≡ w i) → root v ≡ root w
root-same s z e v w h = h 0 ((check_exactly s z).0 e).0.formed.some

lowest_agrees : (s : List ℕ) (z : Sheet) → check s ≡ accepted z → (v w : ℕ → ℤ) → ((i : ℕ) → i < nodes s → v i ≡ w i) → lowest_failing s v ≡ lowest_failing s w
lowest_agrees s z e v w h = lowest_failing-same ((check_exactly s z).0 e).0.formed v w h

pub settled : Settled
unfolding computes worked
settled =
    record {
      A-accepted = A-checked;
      A-house = refl;
      A-sums = by_working A _ A-checked _ root (root-same A _ A-checked) 3 _ refl;
      A-wraps = by_working A _ A-checked _ root (root-same A _ A-checked) 2 _ refl;
      A-order = refl;
      A-misordered = refl;
      bare-refused = refl;
      strict-refused = refl;
      B-accepted = B-checked;
      B-doubles = by_working B _ B-checked [] root (root-same B _ B-checked) 5 _ refl;
      B-house = refl;
      D-accepted = D-checked;
      D-values = by_working D _ D-checked _ root (root-same D _ D-checked) 3 _ refl;
      D-verdicts = by_working D _ D-checked _ (lowest_failing D) (lowest_agrees D _ D-checked) 3 _ refl;
      A-listing = refl;
      A-told = refl;
    }
