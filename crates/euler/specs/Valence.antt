-- The vertex words. That of a vertex in use is 1 plus the number of half-edges that start there (document 02, job 5).
-- So an operator takes one off where a half-edge has left and adds one where a half-edge has come: which vertices these
-- are, by code. Words change behind all other steps: amid kef's walk nothing differs but loop words (job 3).
use Rattle.std.specs.Prelude.{ℕ, ◌+◌, ◌-◌, List, [], ◌∷◌, ltb, get_or}
use Rattle.laws.specs.Bools.{pick}
use Rattle.script.specs.declared.Operator.{Operator}
use Rattle.layout.specs.declared.shape.Shape.{Shape}
use Rattle.layout.specs.Layout.{start_of, next_of, vertex_used, set_vertex_used}
use Rattle.layout.specs.Mate.{mate}
use Rattle.euler.specs.declared.records.Two.{Two}
use Rattle.euler.specs.Surgery.{item_of, half_by}

-- ---- one word

-- one more at vertex v, which stops at 65,535, the most that a word holds; at vertex 0, none, nothing changes
abbrev pub one_more : Shape → List ℕ → ℕ → List ℕ
one_more sh x v = pick (ltb (vertex_used sh x v) 65535) (set_vertex_used sh x v (vertex_used sh x v + 1)) x

-- one less, which stops at 0
abbrev pub one_less : Shape → List ℕ → ℕ → List ℕ
one_less sh x v = set_vertex_used sh x v (vertex_used sh x v - 1)

-- ---- by code: lists from code 0, which is none, to 13; `a` are the operands as items

-- two vertices, which may be one
abbrev pub two : ℕ → ℕ → Two
two u v = record { one = u; other = v }

abbrev pub none : Two
none = two 0 0

-- the starts of both halves of k's edge
abbrev pub ends : Shape → List ℕ → ℕ → Two
ends sh x k = two (start_of sh x k) (start_of sh x (mate k))

-- where half-edges leave: at the ends of the edge that kev, kef and kemr kill; two at the vertex that jekv kills
abbrev pub leave_by : Shape → List ℕ → (ℕ → ℕ) → List Two
leave_by sh x a =
    none ∷ none ∷ none ∷ none ∷ ends sh x (a 0) ∷ none ∷ ends sh x (a 0) ∷ ends sh x (a 0) ∷ none ∷ none ∷ none ∷ none
    ∷ two (start_of sh x (next_of sh x (a 0))) (start_of sh x (next_of sh x (a 0))) ∷ none ∷ []

-- where half-edges have come, read once they are in: at the ends of the edge that mev, mef and mekr make; two at the
-- vertex that semv makes (of the edge that it divides, one half-edge starts there now)
abbrev pub come_by : Shape → List ℕ → (ℕ → ℕ) → List Two
come_by sh x a =
    none ∷ none ∷ none ∷ ends sh x (half_by (a 2) (a 4)) ∷ none ∷ ends sh x (half_by (a 3) (a 6)) ∷ none ∷ none
    ∷ ends sh x (half_by (a 4) (a 5)) ∷ none ∷ none ∷ two (a 2) (a 2) ∷ none ∷ none ∷ []

-- of operator o
abbrev pub leave_of : Shape → List ℕ → Operator → Two
leave_of sh x o = get_or (leave_by sh x (item_of o)) o.code none

abbrev pub come_of : Shape → List ℕ → Operator → Two
come_of sh x o = get_or (come_by sh x (item_of o)) o.code none

-- ---- the links

-- one less at each of the two, and one more
abbrev pub less_at : Shape → List ℕ → Two → List ℕ
less_at sh x t = one_less sh (one_less sh x t.one) t.other

abbrev pub more_at : Shape → List ℕ → Two → List ℕ
more_at sh x t = one_more sh (one_more sh x t.one) t.other

-- y, which o has made of x, with one less where half-edges have left; the vertices are read in x, where they still are
unfoldable pub less_starts : Shape → List ℕ → Operator → List ℕ → List ℕ
less_starts sh x o y = less_at sh y (leave_of sh x o)

-- y with one more where half-edges have come
unfoldable pub more_starts : Shape → Operator → List ℕ → List ℕ
more_starts sh o y = more_at sh y (come_of sh y o)
