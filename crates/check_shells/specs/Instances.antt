-- Small tables, computed: the definitions tell linked faces from others.
use Rattle.std.specs.Prelude.{◌≡◌, refl, Bool, true, false, List, [], ◌∷◌, ℕ}
use Rattle.laws.specs.Search.{all_to}
use Rattle.laws.specs.Closure.{across, pass, rounds, linkedb}
use Rattle.layout.specs.Layout.{shape_of}
use Rattle.check_shells.specs.Shells.{within, joins, linked_by, faces_linked, faces_linked_as, face_whole, shells_whole}

-- document 01, example d: two faces share edge 2, and edge 1 too
abbrev linked_pair : List ℕ
linked_pair = 1 ∷ 2 ∷ 2 ∷ 2 ∷ 2 ∷ 1 ∷ 1 ∷ 1 ∷ 1 ∷ 2 ∷ 1 ∷ 2 ∷ 0 ∷ 2 ∷ 1 ∷ 0 ∷ 1 ∷ 2 ∷ 4 ∷ 4 ∷ 2 ∷ 1 ∷ 3 ∷ 3 ∷ 1 ∷ 1 ∷ 2
    ∷ 2 ∷ 2 ∷ 2 ∷ 1 ∷ 1 ∷ 3 ∷ 3 ∷ []

-- the same faces, each with its isolated vertex and no edge
abbrev lone_pair : List ℕ
lone_pair = 1 ∷ 2 ∷ 2 ∷ 1 ∷ 2 ∷ 1 ∷ 1 ∷ 1 ∷ 1 ∷ 2 ∷ 1 ∷ 0 ∷ 1 ∷ 2 ∷ 0 ∷ 2 ∷ 0 ∷ 0 ∷ 0 ∷ 0 ∷ 0 ∷ 0 ∷ 0 ∷ 0 ∷ 1 ∷ 1 ∷ []

-- the face of each solid: solid 1 is led by face 1
abbrev leaders : List ℕ
leaders = 0 ∷ 1 ∷ []

-- the answers for a table: whether its faces 1 and 2 are linked, face 1 to itself, face 1 to face 0, which is none; and
-- whether all is one
abbrev answers : List ℕ → List Bool
answers x = faces_linked (shape_of x) x 1 2 ∷ faces_linked (shape_of x) x 1 1 ∷ faces_linked (shape_of x) x 1 0
    ∷ shells_whole (shape_of x) x leaders ∷ []

linked_answers : answers linked_pair ≡ true ∷ true ∷ false ∷ true ∷ []
unfolding linked_by face_whole joins within linkedb rounds pass across all_to
linked_answers = refl

lone_answers : answers lone_pair ≡ false ∷ true ∷ false ∷ false ∷ []
unfolding linked_by face_whole joins within linkedb rounds pass across all_to
lone_answers = refl

-- example d once loop 2 lies in face 1: both edges then have face 1 on both sides
moved_answers : faces_linked_as (shape_of linked_pair) linked_pair 2 1 1 2
    ∷ faces_linked_as (shape_of linked_pair) linked_pair 2 1 1 1 ∷ [] ≡ false ∷ true ∷ []
unfolding linked_by joins within linkedb rounds pass across all_to
moved_answers = refl
