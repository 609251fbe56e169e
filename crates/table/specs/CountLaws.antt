-- A loop is a ring, the ways out of counting, and the counts one by one.
use Rattle.std.specs.Prelude.{◌≡◌, refl, ◌≢◌, not, ◌&&◌, List, ℕ, ◌*◌, eqb, ℤ}
use Rattle.std.proofs.Common.{sym, ap, ◌∙◌}
use borrow.Author.Tests.{eq-eqb, ne_eqb}
use Rattle.laws.specs.Sums.{count_to}
use Rattle.layout.specs.declared.shape.Shape.{Shape}
use Rattle.table.specs.declared.check.CheckAnswer.{CheckAnswer}
use Rattle.table.specs.declared.count.CountAnswer.{CountAnswer}
use Rattle.layout.specs.Layout.{shape_of, solid_used, face_solid, loop_face, face_outer, start_of, vertex_used}
use Rattle.layout.specs.Items.{some}
use Rattle.layout.specs.Small.{Small}
use Rattle.table.specs.SizesLaws.{fits_small}
use Rattle.table.specs.Check.{answer, check_of}
use Rattle.table.specs.CheckLaws.{checked_fits}
use Rattle.table.specs.Count.{ring_used, item_used, holes_of, counts, no_counts, tally_of, count_of}

-- a loop is a ring by its face and that face's outer loop, each read before
pub ring_read : (sh : Shape) (x : List ℕ) (n : ℕ) {f o : ℕ} → f ≡ loop_face sh x n → o ≡ face_outer sh x f
    → (some f && not (eqb o n)) ≡ ring_used sh x n
ring_read sh x n ef eo = rw (eo, ef)

-- ---- the ways out of counting

module _ (x : List ℕ) (p : List ℤ) (a : CheckAnswer) (h : a ≡ check_of x p) where
  pub count_refused : a.refusal ≢ 0 → no_counts a.refusal a.rule ≡ count_of x p
  unfolding count_of
  count_refused d = rw (← h, ne_eqb a.refusal 0 d)

  module _ (z : a.refusal ≡ 0) (sh : Shape) (s : sh ≡ shape_of x) where
    pub count_small : Small sh
    count_small = rw s (fits_small x p (checked_fits x p (ap (λ c. c.refusal) (sym h) ∙ z)))

    pub count_done : (r : CountAnswer) → r ≡ tally_of sh x → r ≡ count_of x p
    unfolding count_of
    count_done r e = rw (← h, eq-eqb a.refusal 0 z, ← s) e

-- a table that is counted has small capacities
pub counted_small : (x : List ℕ) (p : List ℤ) (sh : Shape) → answer 0 0 ≡ check_of x p → sh ≡ shape_of x → Small sh
counted_small x p sh h s = count_small x p (answer 0 0) h refl sh s

-- the counts one by one
pub tally_is : (sh : Shape) (x : List ℕ) (s f l e v r h : ℕ) → s ≡ count_to sh.solids (λ n. some (solid_used sh x n))
    → f ≡ count_to sh.faces (λ n. some (face_solid sh x n)) → l ≡ count_to sh.loops (λ n. some (loop_face sh x n))
    → e ≡ count_to sh.edges (λ n. some (start_of sh x (2 * n)))
    → v ≡ count_to sh.vertices (λ n. some (vertex_used sh x n)) → r ≡ count_to sh.loops (ring_used sh x)
    → h ≡ holes_of s f e v r → counts 0 0 s f l e v r h ≡ tally_of sh x
unfolding tally_of item_used
tally_is sh x s f l e v r h es ef el ee ev er eh = rw (eh, es, ef, el, ee, ev, er)
