-- The shells of a table: faces that chains of faces link, neighbours sharing an edge (document 01, rule 6). Nothing is
-- assumed of the table: an edge with a side that is no face of it links nothing. `sh` is the table's shape, `x` its
-- links.
use Rattle.std.specs.Prelude.{◌≡◌, ℕ, ◌-◌, ◌*◌, ◌≤◌, Bool, not, ◌&&◌, ◌||◌, List, T, eqb, leb, get_or}
use Rattle.laws.specs.Bools.{pick}
use Rattle.laws.specs.Search.{all_to}
use Rattle.laws.specs.Walks.{Used}
use Rattle.laws.specs.Closure.{Edge, linkedb}
use Rattle.laws.specs.Union.{Classes}
use Rattle.laws.specs.UnionFind.{root}
use Rattle.layout.specs.declared.shape.Shape.{Shape}
use Rattle.layout.specs.Layout.{face_solid, start_of, loop_of, side}
use Rattle.check_shells.specs.Forest.{Forest}

-- and once loop l lies in face t. Loop 0 is none and lies in face 0, so with l = t = 0 it is the table as it is
abbrev pub side_as : Shape → List ℕ → ℕ → ℕ → ℕ → ℕ
side_as sh x l t k = pick (eqb (loop_of sh x k) l) t (side sh x k)

-- f is a number from 1 to n
unfoldable pub within : ℕ → ℕ → Bool
within n f = leb 1 f && leb f n

-- edge e is in use
abbrev pub edge_used : Shape → List ℕ → ℕ → Bool
edge_used sh x e = not (eqb (start_of sh x (2 * e)) 0)

-- ---- chains, where s gives each half-edge its face

-- the faces on the two sides of edge e: of half-edge 2e − 1, and of 2e
abbrev pub side_a : (ℕ → ℕ) → ℕ → ℕ
side_a s e = s (2 * e - 1)

abbrev pub side_b : (ℕ → ℕ) → ℕ → ℕ
side_b s e = s (2 * e)

-- edge e is in use and has a face on each side
unfoldable pub joins : Shape → List ℕ → (ℕ → ℕ) → ℕ → Bool
joins sh x s e = edge_used sh x e && within sh.faces (side_a s e) && within sh.faces (side_b s e)

-- both sides of edge e are numbers from 1 to n
abbrev pub Ends : ℕ → (ℕ → ℕ) → ℕ → Type 0
Ends n s e = (1 ≤ side_a s e) × (side_a s e ≤ n) × (1 ≤ side_b s e) × (side_b s e ≤ n)

-- each edge in use has faces on both sides; with `side`, a table that keeps rules 1 and 2 is such a table
pub record Sided (sh : Shape) (x : List ℕ) (s : ℕ → ℕ) : Type 0 where
  pub at : (e : ℕ) → 1 ≤ e → e ≤ sh.edges → T (edge_used sh x e) → Ends sh.faces s e

-- one of the edges 1 to m joins f to g
abbrev pub Joins : Shape → List ℕ → (ℕ → ℕ) → ℕ → ℕ → ℕ → Type 0
Joins sh x s m = Edge (Used m (joins sh x s)) (side_a s) (side_b s)

-- f and g are faces, and a chain of faces links them
unfoldable pub linked_by : Shape → List ℕ → (ℕ → ℕ) → ℕ → ℕ → Bool
linked_by sh x s f g =
    within sh.faces f && within sh.faces g
    && linkedb sh.faces sh.edges (joins sh x s) (side_a s) (side_b s) f g

-- ---- the shells

-- f and g are linked
abbrev pub faces_linked : Shape → List ℕ → ℕ → ℕ → Bool
faces_linked sh x = linked_by sh x (side sh x)

-- f and g are linked once loop l lies in face t
abbrev pub faces_linked_as : Shape → List ℕ → ℕ → ℕ → ℕ → ℕ → Bool
faces_linked_as sh x l t = linked_by sh x (side_as sh x l t)

-- face f is free or linked to the face that leads its solid, by the list `ls` of leaders
unfoldable pub face_whole : Shape → List ℕ → List ℕ → ℕ → Bool
face_whole sh x ls f = eqb (face_solid sh x f) 0 || faces_linked sh x (get_or ls (face_solid sh x f) 0) f

-- each face is
abbrev pub shells_whole : Shape → List ℕ → List ℕ → Bool
shells_whole sh x ls = all_to sh.faces (face_whole sh x ls)

-- ---- the same by parents

-- f and g are from 1 to n and have one root
unfoldable pub one_root : ℕ → List ℕ → ℕ → ℕ → Bool
one_root n p f g = within n f && within n g && eqb (root p f) (root p g)

-- the classes of the parents p are the shells: two faces have one root just if they are linked
pub record Shells (sh : Shape) (x : List ℕ) (s : ℕ → ℕ) (p : List ℕ) : Type 0 where
  pub forest : Forest p
  pub one : (f g : ℕ) → one_root sh.faces p f g ≡ linked_by sh x s f g

-- the classes are what the edges 1 to m link
pub record Joined (sh : Shape) (x : List ℕ) (s : ℕ → ℕ) (m : ℕ) (p : List ℕ) : Type 0 where
  pub forest : Forest p
  pub classes : Classes sh.faces (Joins sh x s m) p
