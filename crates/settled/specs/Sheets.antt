-- The sheets of the settled examples, record by record.
use Rattle.std.specs.Prelude.{ℕ, List, [], ◌∷◌}

-- Sheet A, a running sum: REC int, ADD, FBY int 0, VAR 0, INPUT 0
unfoldable pub A : List ℕ
A =
    0 ∷ 35 ∷ 1 ∷ 1 ∷ 1 ∷
    5 ∷ 1 ∷ 0 ∷ 0 ∷ 0 ∷ 0 ∷
    3 ∷ 8 ∷ 0 ∷ 0 ∷ 0 ∷ 0 ∷
    4 ∷ 1 ∷ 0 ∷ 0 ∷ 0 ∷ 0 ∷
    2 ∷ 0 ∷ 0 ∷ 0 ∷ 0 ∷ 0 ∷
    1 ∷ 0 ∷ 0 ∷ 0 ∷ 0 ∷ 0 ∷
    []

-- its listing: `sheet int (rec int (add (fby 0 v0) i0))`
unfoldable pub A-text : List ℕ
A-text =
    115 ∷ 104 ∷ 101 ∷ 101 ∷ 116 ∷ 32 ∷ 105 ∷ 110 ∷ 116 ∷ 32 ∷
    40 ∷ 114 ∷ 101 ∷ 99 ∷ 32 ∷ 105 ∷ 110 ∷ 116 ∷ 32 ∷
    40 ∷ 97 ∷ 100 ∷ 100 ∷ 32 ∷
    40 ∷ 102 ∷ 98 ∷ 121 ∷ 32 ∷ 48 ∷ 32 ∷ 118 ∷ 48 ∷ 41 ∷ 32 ∷
    105 ∷ 48 ∷ 41 ∷ 41 ∷
    []

-- REC int, VAR 0
unfoldable pub bare : List ℕ
bare =
    0 ∷ 16 ∷ 1 ∷ 0 ∷
    5 ∷ 1 ∷ 0 ∷ 0 ∷ 0 ∷ 0 ∷
    2 ∷ 0 ∷ 0 ∷ 0 ∷ 0 ∷ 0 ∷
    []

-- REC int, LET, ADD, VAR 0, CONST 1, FBY 0, VAR 1: 000's own example of strictness
unfoldable pub strict : List ℕ
strict =
    0 ∷ 46 ∷ 1 ∷ 0 ∷
    5 ∷ 1 ∷ 0 ∷ 0 ∷ 0 ∷ 0 ∷
    6 ∷ 0 ∷ 0 ∷ 0 ∷ 0 ∷ 0 ∷
    3 ∷ 8 ∷ 0 ∷ 0 ∷ 0 ∷ 0 ∷
    2 ∷ 0 ∷ 0 ∷ 0 ∷ 0 ∷ 0 ∷
    0 ∷ 1 ∷ 0 ∷ 0 ∷ 0 ∷ 1 ∷
    4 ∷ 1 ∷ 0 ∷ 0 ∷ 0 ∷ 0 ∷
    2 ∷ 0 ∷ 0 ∷ 0 ∷ 0 ∷ 1 ∷
    []

-- B: REC int, FBY 0, REC int, ADD, FBY 1, VAR 2, VAR 0
unfoldable pub B : List ℕ
B =
    0 ∷ 46 ∷ 1 ∷ 0 ∷
    5 ∷ 1 ∷ 0 ∷ 0 ∷ 0 ∷ 0 ∷
    4 ∷ 1 ∷ 0 ∷ 0 ∷ 0 ∷ 0 ∷
    5 ∷ 1 ∷ 0 ∷ 0 ∷ 0 ∷ 0 ∷
    3 ∷ 8 ∷ 0 ∷ 0 ∷ 0 ∷ 0 ∷
    4 ∷ 1 ∷ 0 ∷ 0 ∷ 0 ∷ 1 ∷
    2 ∷ 0 ∷ 0 ∷ 0 ∷ 0 ∷ 2 ∷
    2 ∷ 0 ∷ 0 ∷ 0 ∷ 0 ∷ 0 ∷
    []

-- D: CONTRACT, LE, CONST 0, INPUT 0, SUB, INPUT 0, CONST 1, LE, CONST 0, VAR 0
unfoldable pub D : List ℕ
D =
    0 ∷ 65 ∷ 1 ∷ 1 ∷ 1 ∷
    8 ∷ 0 ∷ 0 ∷ 0 ∷ 0 ∷ 0 ∷
    3 ∷ 7 ∷ 0 ∷ 0 ∷ 0 ∷ 0 ∷
    0 ∷ 1 ∷ 0 ∷ 0 ∷ 0 ∷ 0 ∷
    1 ∷ 0 ∷ 0 ∷ 0 ∷ 0 ∷ 0 ∷
    3 ∷ 9 ∷ 0 ∷ 0 ∷ 0 ∷ 0 ∷
    1 ∷ 0 ∷ 0 ∷ 0 ∷ 0 ∷ 0 ∷
    0 ∷ 1 ∷ 0 ∷ 0 ∷ 0 ∷ 1 ∷
    3 ∷ 7 ∷ 0 ∷ 0 ∷ 0 ∷ 0 ∷
    0 ∷ 1 ∷ 0 ∷ 0 ∷ 0 ∷ 0 ∷
    2 ∷ 0 ∷ 0 ∷ 0 ∷ 0 ∷ 0 ∷
    []
