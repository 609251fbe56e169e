-- The lengths of a table's two slices (document 01, "The table"; refusal 1 where they or a capacity are wrong).
use Rattle.std.specs.Prelude.{ℕ, Bool, ◌&&◌, List, [], ◌∷◌, eqb, leb, ℤ, length, get_or}
use Rattle.laws.specs.Every.{every}
use Rattle.bounds.specs.Bounds.{most_items}
use Rattle.layout.specs.Points.{points_length}
use Rattle.layout.specs.Layout.{links_length}

-- a capacity is 1 to 4,096
abbrev pub capacity : ℕ → Bool
capacity n = leb 1 n && leb n most_items

-- each capacity is one, and m words and n coordinates are as many as the capacities say
abbrev pub size_tests : ℕ → ℕ → ℕ → ℕ → ℕ → ℕ → ℕ → List Bool
size_tests m n s f l e v =
    capacity s ∷ capacity f ∷ capacity l ∷ capacity e ∷ capacity v
    ∷ eqb m (links_length s f l e v) ∷ eqb n (points_length v) ∷ []

-- m words and n coordinates are the links and points of a table of these capacities
unfoldable pub sizes_fit : ℕ → ℕ → ℕ → ℕ → ℕ → ℕ → ℕ → Bool
sizes_fit m n s f l e v = every (size_tests m n s f l e v)

-- the two slices fit the capacities that the first five words say; a word past the end reads 0, which is no capacity
abbrev pub table_fits : List ℕ → List ℤ → Bool
table_fits x p = sizes_fit (length x) (length p) (get_or x 0 0) (get_or x 1 0) (get_or x 2 0) (get_or x 3 0)
    (get_or x 4 0)
