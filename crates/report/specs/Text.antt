-- What the program prints: two lines on a run and the table it leaves, or one line on an input that is too long. Texts
-- are lists of bytes.
use Rattle.std.specs.Prelude.{ℕ, List, [], ◌∷◌, ◌++◌}
use Rattle.text.specs.Decimal.{decimal}
use Rattle.text.specs.Put.{newline}
use Rattle.table.specs.declared.count.CountAnswer.{CountAnswer}

-- "refusal "
abbrev pub refusal_label : List ℕ
refusal_label = 114 ∷ 101 ∷ 102 ∷ 117 ∷ 115 ∷ 97 ∷ 108 ∷ 32 ∷ []

-- " done "
abbrev pub done_label : List ℕ
done_label = 32 ∷ 100 ∷ 111 ∷ 110 ∷ 101 ∷ 32 ∷ []

-- " used "
abbrev pub used_label : List ℕ
used_label = 32 ∷ 117 ∷ 115 ∷ 101 ∷ 100 ∷ 32 ∷ []

-- "s ", solids
abbrev pub solids_label : List ℕ
solids_label = 115 ∷ 32 ∷ []

-- " f ", faces
abbrev pub faces_label : List ℕ
faces_label = 32 ∷ 102 ∷ 32 ∷ []

-- " l ", loops
abbrev pub loops_label : List ℕ
loops_label = 32 ∷ 108 ∷ 32 ∷ []

-- " e ", edges
abbrev pub edges_label : List ℕ
edges_label = 32 ∷ 101 ∷ 32 ∷ []

-- " v ", vertices
abbrev pub vertices_label : List ℕ
vertices_label = 32 ∷ 118 ∷ 32 ∷ []

-- " r ", rings
abbrev pub rings_label : List ℕ
rings_label = 32 ∷ 114 ∷ 32 ∷ []

-- " h ", holes
abbrev pub holes_label : List ℕ
holes_label = 32 ∷ 104 ∷ 32 ∷ []

-- a label and its number
unfoldable pub field : List ℕ → ℕ → List ℕ
field label n = label ++ decimal n

-- the first line: the refusal, the operators done, the script bytes they took
unfoldable pub answer_line : ℕ → ℕ → ℕ → List ℕ
answer_line refusal done used = field refusal_label refusal ++ field done_label done ++ field used_label used ++ newline

-- the second line: what the table has in use, its rings and its holes
unfoldable pub count_line : CountAnswer → List ℕ
count_line c =
    field solids_label c.solids ++ field faces_label c.faces ++ field loops_label c.loops
    ++ field edges_label c.edges
    ++ field vertices_label c.vertices ++ field rings_label c.rings ++ field holes_label c.holes ++ newline

-- both lines
unfoldable pub text_of : ℕ → ℕ → ℕ → CountAnswer → List ℕ
text_of refusal done used c = answer_line refusal done used ++ count_line c

-- "input too long" and the end of the line
abbrev pub too_long : List ℕ
too_long = 105 ∷ 110 ∷ 112 ∷ 117 ∷ 116 ∷ 32 ∷ 116 ∷ 111 ∷ 111 ∷ 32 ∷ 108 ∷ 111 ∷ 110 ∷ 103 ∷ 10 ∷ []
