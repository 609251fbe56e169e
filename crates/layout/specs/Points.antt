-- The points: a record of three coordinates for each vertex, in hundredths of a millimetre, read and stored as the
-- words of the links are.
use Rattle.std.specs.Prelude.{ℕ, ◌*◌, Bool, ◌&&◌, List, ℤ, pos, negsuc}
use Rattle.std.specs.Int.Signed.{le_z}
use Rattle.laws.specs.Columns.{Kind, word_at, put_at}

-- how many coordinates a point has
abbrev pub point_width : ℕ
point_width = 3

-- how many the points of n vertices have
abbrev pub points_length : ℕ → ℕ
points_length n = point_width * n

-- the points of n vertices as a kind of record
abbrev pub point_kind : ℕ → Kind
point_kind n = record { base = 0; width = point_width; count = n }

-- coordinate i (0 x, 1 y, 2 z) of vertex v; vertex 0 is none and reads 0
abbrev pub coordinate : List ℤ → ℕ → ℕ → ℤ
coordinate p v i = word_at (pos 0) 0 point_width i p v

-- coordinate i of vertex v becomes c; nothing changes for vertex 0
abbrev pub set_coordinate : List ℤ → ℕ → ℕ → ℤ → List ℤ
set_coordinate p v i = put_at 0 point_width i p v

-- −50,000 ≤ c ≤ 50,000
abbrev pub range_test : ℤ → Bool
range_test c = le_z (negsuc 49999) c && le_z c (pos 50000)

-- c is 0
abbrev pub zero_test : ℤ → Bool
zero_test c = le_z (pos 0) c && le_z c (pos 0)

-- coordinate i of vertex v is in range
abbrev pub in_range : List ℤ → ℕ → ℕ → Bool
in_range p v i = range_test (coordinate p v i)

-- coordinate i of vertex v is 0
abbrev pub is_zero : List ℤ → ℕ → ℕ → Bool
is_zero p v i = zero_test (coordinate p v i)
