-- Rules 1 to 6 of document 01's table: a sheet's bytes have the form of one expression in prefix order.
use Rattle.std.specs.Prelude.{ℕ, ◌+◌, ◌*◌, ◌≤◌, ◌<◌, min, ◌≡◌, Bool, true, false, not, ◌&&◌, ◌||◌, List, length, ltb, leb, eqb}
use Rattle.sheet.specs.Ceilings.{max_columns, max_nodes}
use Rattle.sheet.specs.Ruling.{Ruling, rule, each, ◌then◌}
use Rattle.sheet.specs.Bytes.{byte, stated, columns, nodes, kind_at, argument, end_of}
use Rattle.sheet.specs.declared.ValueType.{ValueType}
use Rattle.sheet.specs.declared.ValueType.TheVariants.{Bool as bool, Int as int}
use Rattle.sheet.specs.declared.Kind.{Kind}
use Rattle.sheet.specs.declared.Kind.TheVariants.{Const, Input, Var, Op, Fby, Rec, Let, Check, Contract, Unknown}

-- "a type byte over 1"
abbrev pub untyped : List ℕ → ℕ → Bool
untyped s at = ltb 1 (byte s at)

-- the rest is 6 times 1 to 512
unfoldable pub whole_body : List ℕ → Bool
whole_body s = eqb (4 + columns s + 6 * nodes s) (length s) && leb 1 (nodes s) && leb (nodes s) max_nodes

-- "bool arguments are 0 or 1"
abbrev pub holds : ValueType → ℕ → Bool
holds bool a = leb a 1
holds int a = true

-- a record as the table of kinds has it, of a sheet with so many columns
unfoldable pub known : (columns : ℕ) → Kind → (argument : ℕ) → Bool
known c (Const t) a = holds t a
known c Input a = ltb a c
known c Var a = true
known c (Op o) a = eqb a 0
known c (Fby t) a = holds t a
known c (Rec t) a = eqb a 0
known c Let a = eqb a 0
known c Check a = eqb a 0
known c Contract a = eqb a 0
known c Unknown a = false

-- "unknown kind, code or operator; a - field not 0; a bool argument over 1; column not under C"
unfoldable pub bad_record : List ℕ → ℕ → Bool
bad_record s i = not (known (columns s) (kind_at s i) (argument s i))

-- 1 LENGTH, 2 VERSION
unfoldable pub length_version : List ℕ → Ruling
length_version s =
    rule (ltb (length s) 4 || not (eqb (stated s) (length s))) 1 0
    then rule (not (eqb (byte s 2) 1)) 2 2

-- 3 COLUMNS: "C over 16 or type bytes missing; else a type byte over 1", at 3, else at that byte's offset
unfoldable pub column_types : List ℕ → Ruling
column_types s =
    rule (ltb max_columns (columns s) || ltb (length s) (4 + columns s)) 3 3
    then each 3 (untyped s) 4 (columns s)

-- 4 BODY
unfoldable pub body : List ℕ → Ruling
body s = rule (not (whole_body s)) 4 0

-- 5 RECORD
unfoldable pub records : List ℕ → Ruling
records s = each 5 (bad_record s) 0 (nodes s)

-- 6 SHAPE: the first expression ends at k < N, or records run out
unfoldable pub shape : List ℕ → Ruling
shape s = let k = end_of s 0 in rule (not (eqb k (nodes s))) 6 (min k (nodes s))

unfoldable pub form : List ℕ → Ruling
form s = length_version s then column_types s then body s then records s then shape s

-- rules 1 to 6 in plain statements, one after the other
pub record Formed (s : List ℕ) : Type 0 where
  pub sized : stated s ≡ length s
  pub version : byte s 2 ≡ 1
  pub narrow : columns s ≤ max_columns
  pub types : (c : ℕ) → c < columns s → byte s (4 + c) ≤ 1
  pub whole : 4 + columns s + 6 * nodes s ≡ length s
  pub some : 1 ≤ nodes s
  pub few : nodes s ≤ max_nodes
  pub records : (i : ℕ) → i < nodes s → bad_record s i ≡ false
  pub root : end_of s 0 ≡ nodes s
