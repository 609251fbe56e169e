-- How many loops each face has, kept in a list beside a table so that no operator has to count them: face f's number
-- stands at place f.
use Rattle.std.specs.Prelude.{ℕ, ◌+◌, ◌-◌, ◌≤◌, ◌≡◌, Bool, ◌&&◌, List, [], ◌∷◌, leb, ltb, get_or, set}
use Rattle.laws.specs.Bools.{pick}
use Rattle.bounds.specs.Bounds.{most_items}
use Rattle.script.specs.declared.Operator.{Operator}
use Rattle.layout.specs.declared.shape.Shape.{Shape}
use Rattle.layout.specs.Layout.{loop_face, loop_of, face_outer}
use Rattle.euler.specs.Surgery.{item_of}
use Rattle.euler.specs.Queries.{loops_in}
use Rattle.euler.specs.Exec.{only_loop, links_after}

-- the list c holds the number of loops of each face; place 0 says nothing
pub record Counted (sh : Shape) (x c : List ℕ) : Type 0 where
  pub loops : (f : ℕ) → 1 ≤ f → f ≤ most_items → get_or c f 0 ≡ loops_in sh x f

-- the loop whose face the operator changes, the codes in order from 0; 0 for none
abbrev pub moved_loops : Shape → List ℕ → (ℕ → ℕ) → List ℕ
moved_loops sh x a =
    0 ∷ a 2 ∷ only_loop sh x (a 0) ∷ 0 ∷ 0 ∷ a 5 ∷ loop_of sh x (a 0) ∷ a 1 ∷ a 2 ∷ face_outer sh x (a 1) ∷ a 0 ∷ 0 ∷ 0
    ∷ a 0 ∷ []

unfoldable pub moved_loop : Shape → List ℕ → Operator → ℕ
moved_loop sh x o = get_or (moved_loops sh x (item_of o)) o.code 0

-- f names a face that a table can have
abbrev pub is_place : ℕ → Bool
is_place f = leb 1 f && leb f most_items

-- face f has one loop less, and one more; a number that fills its word stays
unfoldable pub lowered : List ℕ → ℕ → List ℕ
lowered c f = pick (is_place f) (set c f (get_or c f 0 - 1)) c

unfoldable pub raised : List ℕ → ℕ → List ℕ
raised c f = pick (is_place f && ltb (get_or c f 0) 65535) (set c f (get_or c f 0 + 1)) c

-- the numbers after the operator: the face of the loop that it moves has one less, that loop's new face one more
unfoldable pub counts_after : Shape → List ℕ → List ℕ → Operator → List ℕ
counts_after sh x c o =
    raised (lowered c (loop_face sh x (moved_loop sh x o))) (loop_face sh (links_after sh x o) (moved_loop sh x o))
