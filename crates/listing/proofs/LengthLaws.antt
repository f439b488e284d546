-- How long a listing can be: 5 bytes at most for a column, 17 for a node, and one for its bracket, which closes after one node.
use Prim.Native.Nat.{ℕ, zero, suc, ◌+◌, ◌-◌, ◌*◌, ◌≤◌, ◌<◌}
use mathlib.Core.Path.{◌≡◌, refl}
use mathlib.Core.Bool.{true}
use mathlib.Core.List.{List}
use native.Mathlib.Omega.{arith}
use lib.Dec.{ltb}
use lib.ListN.{length, length-append, length-replicate}
use borrow.Author.Tests.{ltb-true, eqb-true}
use Rattle.finite.specs.Count.{count}
use Rattle.finite.specs.Lists.{joined}
use Rattle.finite.proofs.Tests.{by-test, and_r}
use Rattle.finite.proofs.MemberLaws.{all_entry}
use Rattle.finite.proofs.SumLaws.{sum, sum_le, sum_same, sum_add, sum-turned, count_one, length-joined, joined_le}
use Rattle.number.proofs.Wrap.{signed-fits}
use Rattle.number.specs.Word.{signed}
use Rattle.number.specs.declared.Operator.{Operator}
use Rattle.number.specs.declared.Operator.TheVariants.{Not, And, Or, Xor, If, Eq, Lt, Le, Add, Sub, Mul, Div, Neg, Mod}
use Rattle.text.proofs.TextLaws.{decimal-length, integer-length}
use Rattle.sheet.specs.Bytes.{byte, columns, column_type, nodes, start, kind_at, argument, end_of}
use Rattle.sheet.specs.Form.{Formed}
use Rattle.sheet.specs.declared.ValueType.{ValueType}
use Rattle.sheet.specs.declared.ValueType.TheVariants.{Bool as bool, Int as int}
use Rattle.sheet.specs.declared.Kind.{Kind}
use Rattle.sheet.specs.declared.Kind.TheVariants.{Const, Input, Var, Op, Fby, Rec, Let, Check, Contract, Unknown}
use Rattle.words.proofs.WordLaws.{type_length}
use Rattle.listing.specs.Listing.{operator_name, name, constant, carried, opens, opening, closes, closings, node_text, node_at, column_at, listing, max_text}
use Rattle.listing.specs.Answers.{is_bytes}

-- ---- a node's words

operator_length : (o : Operator) → length (operator_name o) ≤ 3
operator_length Not = omega arith
operator_length And = omega arith
operator_length Or = omega arith
operator_length Xor = omega arith
operator_length If = omega arith
operator_length Eq = omega arith
operator_length Lt = omega arith
operator_length Le = omega arith
operator_length Add = omega arith
operator_length Sub = omega arith
operator_length Mul = omega arith
operator_length Div = omega arith
operator_length Neg = omega arith
operator_length Mod = omega arith

pub name-length : (k : Kind) → length (name k) ≤ 8
unfolding name
name-length (Const t) = omega arith
name-length Input = omega arith
name-length Var = omega arith
name-length (Op o) = omega (arith, operator_length o)
name-length (Fby t) = omega arith
name-length (Rec t) = omega arith
name-length Let = omega arith
name-length Check = omega arith
name-length Contract = omega arith
name-length Unknown = omega arith

constant-length : (t : ValueType) (a : ℕ) → a < 4294967296 → length (constant t a) ≤ 11
constant-length bool zero l = omega arith
constant-length bool (suc a) l = omega arith
constant-length int a l = integer-length (signed a) (signed-fits l)

opening-length : (k : Kind) → length (opening k) ≤ 1
unfolding opening
opening-length k = by-test (opens k) (λ t. rw t (omega arith)) (λ f. rw f (omega arith))

-- the name and what the node carries
words-length : (k : Kind) (a : ℕ) → a < 4294967296 → length (name k) + length (carried k a) ≤ 15
unfolding name carried
words-length (Const t) a l = omega (arith, constant-length t a l)
words-length Input a l = omega (arith, decimal-length 9 a (omega arith))
words-length Var a l = omega (arith, decimal-length 9 a (omega arith))
words-length (Op o) a l = omega (arith, operator_length o)
words-length (Fby t) a l = omega (arith, constant-length t a l)
words-length (Rec t) a l = omega (arith, type_length t)
words-length Let a l = omega arith
words-length Check a l = omega arith
words-length Contract a l = omega arith
words-length Unknown a l = omega arith

node_length : (k : Kind) (a n : ℕ) → a < 4294967296 → length (node_text k a n) ≤ 17 + n
unfolding node_text
node_length k a n l = simp (length-append, length-replicate) (omega (arith, opening-length k, words-length k a l))

-- ---- the listing

module _ (s : List ℕ) where
  columns-length : length (joined (column_at s) (columns s)) ≤ 5 * columns s
  unfolding column_at
  columns-length = joined_le (column_at s) 5 (columns s) (λ c l. omega (arith, type_length (column_type s c)))

  -- a node's bracket closes after one node at most
  closes-once : (a n : ℕ) → count (λ i. closes s i a) n ≤ 1
  unfolding closes
  closes-once a n =
      count_one (λ i. closes s i a) (end_of s a - 1) n (λ i l t. omega (arith, eqb-true (end_of s a) (i + 1) (and_r (opens (kind_at s a)) _ t)))

  closings-sum : sum (closings s) (nodes s) ≤ nodes s
  unfolding closings
  closings-sum =
      omega (
        arith,
        sum-turned (closes s) (nodes s) (nodes s),
        sum_le (λ a. count (λ i. closes s i a) (nodes s)) (λ a. 1) (nodes s) (λ a l. closes-once a (nodes s)),
        sum_same 1 (nodes s),
      )

  nodes-length : ((i : ℕ) → i < nodes s → argument s i < 4294967296) → length (joined (node_at s) (nodes s)) ≤ 18 * nodes s
  unfolding node_at
  nodes-length small =
      omega (
        arith,
        length-joined (node_at s) (nodes s),
        closings-sum,
        sum_le (λ i. length (node_at s i)) (λ i. 17 + closings s i) (nodes s) (λ i l. node_length (kind_at s i) (argument s i) (closings s i) (small i l)),
        sum_add (λ i. 17) (closings s) (nodes s),
        sum_same 17 (nodes s),
      )

  -- by arguments of 32 bits, as the code reads them
  pub listing_length_by : ((i : ℕ) → i < nodes s → argument s i < 4294967296) → Formed s → length (listing s) ≤ max_text
  unfolding listing
  listing_length_by small f = simp length-append (omega (arith, columns-length, nodes-length small, f.narrow, f.few))

  -- ---- bytes

  pub byte_small : is_bytes s ≡ true → (at : ℕ) → byte s at < 256
  byte_small e at = ltb-true (byte s at) 256 (all_entry (λ b. ltb b 256) s at 0 e refl)

  pub argument_small : ((at : ℕ) → byte s at < 256) → (i : ℕ) → argument s i < 4294967296
  unfolding argument
  argument_small small i = let at = start s i + 2 in omega (arith, small at, small (at + 1), small (at + 2), small (at + 3))

  pub listing-length : is_bytes s ≡ true → Formed s → length (listing s) ≤ max_text
  listing-length e = listing_length_by (λ i l. argument_small (byte_small e) i)
