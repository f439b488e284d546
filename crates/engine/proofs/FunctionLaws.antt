-- Laws that several functions' proofs cite: a rule that is tried place by place, the nodes that fail, and what needs of an accepted sheet are
-- looked up by.
use Prim.Native.Nat.{ℕ, ◌+◌, ◌-◌, ◌≤◌, ◌<◌}
use mathlib.Core.Path.{◌≡◌, ◌∙◌}
use mathlib.Core.Bool.{Bool, true, false, not}
use mathlib.Core.List.{List}
use native.Mathlib.Omega.{arith}
use lib.IntN.{ℤ, pos}
use lib.ListN.{length, get_or, set, take}
use borrow.Author.Tests.{ltb-true, lt-ltb, le-ltb, not-false}
use denote.Enum.Bare.{sameb}
use Rattle.std.proofs.Common.{Some, None, zero-le}
use Rattle.finite.specs.Lowest.{lowest}
use Rattle.finite.proofs.LowestLaws.{lowest_here, lowest-end, lowest-is, lowest_none}
use Rattle.table.specs.Equations.{at, work}
use Rattle.table.proofs.TickLaws.{work-more}
use Rattle.sheet.specs.Ceilings.{max_nodes}
use Rattle.sheet.specs.Bytes.{nodes, columns, kind_at, argument, arity, operand, operand_by}
use Rattle.sheet.specs.Form.{known, bad_record}
use Rattle.sheet.specs.Ruling.{passed, refused, rule, each}
use Rattle.sheet.specs.declared.Kind.TheVariants.{Input}
use Rattle.sheet.proofs.RulingLaws.{passes_is}
use Rattle.sheet.proofs.SheetLaws.{operand_by_table}
use Rattle.rules.specs.Check.{rules}
use Rattle.rules.proofs.CheckLaws.{rules_exactly}
use Rattle.order.specs.Needs.{Given}
use Rattle.meaning.specs.Verdicts.{verdict, failing, lowest_failing}
use Rattle.meaning.specs.declared.Verdict.{Verdict}
use Rattle.meaning.specs.declared.Verdict.TheVariants.{Pass}
use Rattle.meaning.specs.contracts.Verdict.{the_type}
use Rattle.meaning.proofs.VerdictLaws.{is_pass-same}
use Rattle.engine.specs.declared.Accepted.{Accepted}

-- of the places below count, none before i breaks the rule
abbrev pub Tried : (ℕ → Bool) → (count i : ℕ) → Type 0
Tried breaks count i = lowest breaks 0 count ≡ lowest breaks i (count - i)

module _ (number : ℕ) (breaks : ℕ → Bool) (count i : ℕ) (tried : Tried breaks count i) where
  pub refused_here : i < count → breaks i ≡ true → refused number i ≡ each number breaks 0 count
  unfolding each rule
  refused_here l b = rw (tried ∙ lowest_here breaks i count l b, lt-ltb i (0 + count) (omega arith))

  pub passed-all : count ≤ i → passed ≡ each number breaks 0 count
  unfolding each rule
  passed-all l = rw (tried ∙ lowest-end breaks i count l, le-ltb i (0 + count) (omega arith))

-- a node fails, by a list of values; and what is found of it
abbrev pub fails : (s : List ℕ) (values : List ℤ) → ℕ → Bool
fails s values = failing s (at (pos 0) values)

pub fails_is : (s : List ℕ) (values : List ℤ) (i : ℕ) (v : Verdict) (b : Bool) → v ≡ verdict s (at (pos 0) values) i → b ≡ not (sameb the_type v Pass)
    → fails s values i ≡ b
fails_is s values i v b e q = rw (← e, q, is_pass-same v)

module _ (s : List ℕ) (values : List ℤ) (i : ℕ) where
  pub first_fails : ((k : ℕ) → k < i → fails s values k ≡ false) → i < nodes s → fails s values i ≡ true
      → lowest_failing s (at (pos 0) values) ≡ Some (record { 0 = i }, verdict s (at (pos 0) values) i)
  unfolding lowest_failing
  first_fails none l found = rw (lowest-is (fails s values) 0 (nodes s) i zero-le (omega arith) found (λ j _ u. none j u), lt-ltb _ _ l)

  pub none_fails : ((k : ℕ) → k < i → fails s values k ≡ false) → nodes s ≤ i → lowest_failing s (at (pos 0) values) ≡ None
  unfolding lowest_failing
  none_fails none l =
      rw (lowest_none (fails s values) 0 (nodes s) (λ j _ u. none j (omega arith)), le-ltb (0 + nodes s) (nodes s) (omega arith))

-- what needs are looked up by
pub given : (a : Accepted) → Given a.s.now a.tables.now.ends
given a = record { sound = (rules_exactly a.s.now).0 ((passes_is (rules a.s.now)).0 a.accepted); ends = a.ended }

module _ (a : Accepted) where
  pub few : nodes a.s.now ≤ max_nodes
  few = (given a).sound.formed.few

  module _ (i : ℕ) where
    pub operand_is : (k : ℕ) → i < nodes a.s.now → k < arity (kind_at a.s.now i) → operand_by a.tables.now.ends i k ≡ operand a.s.now i k
    operand_is k h l = operand_by_table (given a).sound.formed a.tables.now.ends a.ended i h k l

    -- an INPUT names a column
    pub input_small : i < nodes a.s.now → kind_at a.s.now i ≡ Input → argument a.s.now i < 65536
    unfolding bad_record known
    input_small h e =
        let s = a.s.now in
        let f = (given a).sound.formed in
        omega (arith, f.narrow, ltb-true (argument s i) (columns s) (rw e at (not-false (known (columns s) (kind_at s i) (argument s i)) (f.records i h))))

-- one node of the order more is worked
pub work_more : (rhs : ℕ → (ℕ → ℤ) → ℤ) (order : List ℕ) (p : ℕ) (lent : List ℤ) → p < length order
    → work (pos 0) rhs (take (p + 1) order) lent ≡ (let old = work (pos 0) rhs (take p order) lent in let i = get_or order p 0 in set old i (rhs i (at (pos 0) old)))
work_more rhs order p lent l = work-more (pos 0) rhs order p lent l
