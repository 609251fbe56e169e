-- Small tables on which the linear test computes, and one that goes through every assumption of its laws, so that none
-- is empty. They stand at the end of everything: no other module uses them.
use Rattle.std.specs.Prelude.{◌≡◌, refl, true, false, List, [], ◌∷◌, ℕ, zero, suc, ◌≤◌, get_or}
use Rattle.std.proofs.Common.{arith}
use Rattle.laws.specs.Search.{all_to}
use Rattle.laws.specs.Walks.{all_met}
use Rattle.laws.specs.Marks.{mark_from, mark_rep, mark_to, all_marked}
use Rattle.layout.specs.declared.shape.Shape.{Shape}
use Rattle.layout.specs.Layout.{shape_of, start_of, next_of, loop_of, loop_first, loop_isolated}
use Rattle.layout.specs.Mate.{mate}
use Rattle.layout.specs.Items.{half_used}
use Rattle.check_orbits.specs.Labels.{blank, down, least_naming, tally, copied}
use Rattle.check_orbits.specs.Cycles.{one_cycle_each}
use Rattle.check_orbits.specs.OrbitsLaws.{Half, NextFacts, LoopFacts, VertexFacts, starter, loops_one_cycle}
use Rattle.check_orbits.specs.OrbitsLaws.{vertices_one_cycle}

-- capacities 1, 2, 2, 2, 2: one edge from vertex 1 to vertex 2, its two halves being loop 1 (example c of document 01)
abbrev segment : List ℕ
segment =
    1 ∷ 2 ∷ 2 ∷ 2 ∷ 2 ∷ 1 ∷ 1 ∷ 1 ∷ 0 ∷ 0 ∷ 1 ∷ 1 ∷ 0 ∷ 0 ∷ 0 ∷ 0
    ∷ 1 ∷ 1 ∷ 2 ∷ 2 ∷ 2 ∷ 1 ∷ 1 ∷ 1 ∷ 0 ∷ 0 ∷ 0 ∷ 0 ∷ 0 ∷ 0 ∷ 0 ∷ 0 ∷ 2 ∷ 2 ∷ []

-- the same, but each half is followed by itself: two cycles in one loop
abbrev broken : List ℕ
broken =
    1 ∷ 2 ∷ 2 ∷ 2 ∷ 2 ∷ 1 ∷ 1 ∷ 1 ∷ 0 ∷ 0 ∷ 1 ∷ 1 ∷ 0 ∷ 0 ∷ 0 ∷ 0
    ∷ 1 ∷ 1 ∷ 1 ∷ 1 ∷ 2 ∷ 1 ∷ 2 ∷ 2 ∷ 0 ∷ 0 ∷ 0 ∷ 0 ∷ 0 ∷ 0 ∷ 0 ∷ 0 ∷ 2 ∷ 2 ∷ []

-- the shape of both
abbrev sh : Shape
sh = shape_of segment

-- ---- the passes compute

-- half-edge 2 is the least that starts at vertex 2
least_computes : get_or (least_naming (start_of sh segment) 4 blank) 2 0 ≡ 2
unfolding down
least_computes = refl

-- no loop has an isolated vertex: both count for 0
tally_computes : get_or (tally (loop_isolated sh segment) 2 blank) 0 0 ≡ 2
unfolding down
tally_computes = refl

-- one cycle passes
passes : one_cycle_each sh segment false (copied (loop_first sh segment) 2 blank) 2 ≡ true
unfolding one_cycle_each all_marked all_to mark_to mark_rep mark_from down
passes = refl

-- two do not
fails : one_cycle_each sh broken false (copied (loop_first sh broken) 2 blank) 2 ≡ false
unfolding one_cycle_each all_marked all_to mark_to mark_rep mark_from down
fails = refl

-- ---- the laws' assumptions hold of the segment

-- its half-edges in use are 1 and 2
halves : (P : ℕ → Type 0) → P 1 → P 2 → (k : ℕ) → Half sh segment k → P k
halves P a b zero u = absurd (omega (arith, u.0))
halves P a b (suc zero) u = a
halves P a b (suc (suc zero)) u = b
halves P a b (suc (suc (suc zero))) u = absurd u.2
halves P a b (suc (suc (suc (suc zero)))) u = absurd u.2
halves P a b (suc (suc (suc (suc (suc k))))) u = absurd (omega (arith, u.1))

-- both are
one : Half sh segment 1
one = (omega arith, omega arith, tt)

two : Half sh segment 2
two = (omega arith, omega arith, tt)

-- its loops are 1, which has a first, and 2, which has none
firsts : (P : ℕ → Type 0) → P 1 → (l : ℕ) → 1 ≤ l → l ≤ 2 → (loop_first sh segment l ≡ 0 → ⊥) → P l
firsts P a zero lo hi h = absurd (omega arith)
firsts P a (suc zero) lo hi h = a
firsts P a (suc (suc zero)) lo hi h = absurd (h refl)
firsts P a (suc (suc (suc l))) lo hi h = absurd (omega arith)

next_facts : NextFacts sh segment
next_facts = record {
  next_in = halves (λ k. Half sh segment (next_of sh segment k)) two one;
  next_undone = halves _ refl refl;
}

loop_facts : LoopFacts sh segment
loop_facts = record {
  links = next_facts;
  loop_kept = halves _ refl refl;
  loop_low = halves (λ k. 1 ≤ loop_of sh segment k) (omega arith) (omega arith);
  loop_high = halves (λ k. loop_of sh segment k ≤ 2) (omega arith) (omega arith);
  has_first = halves (λ k. loop_first sh segment (loop_of sh segment k) ≡ 0 → ⊥) (omega arith) (omega arith);
  first_in = firsts (λ l. Half sh segment (loop_first sh segment l)) one;
  first_names = firsts _ refl;
}

vertex_facts : VertexFacts sh segment
unfolding mate
vertex_facts = record {
  links = next_facts;
  mate_used = halves _ tt tt;
  next_start = halves _ refl refl;
  start_high = halves (λ k. start_of sh segment k ≤ 2) (omega arith) (omega arith);
}

-- so the linear test is the readable one, for its loops and for its vertices
loops : one_cycle_each sh segment false (copied (loop_first sh segment) 2 blank) 2
    ≡ all_met 4 (half_used sh segment) (next_of sh segment) (loop_first sh segment) (loop_of sh segment)
loops = loops_one_cycle sh segment loop_facts (omega arith) (omega arith)

vertices : one_cycle_each sh segment true (least_naming (start_of sh segment) 4 blank) 2
    ≡ all_met 4 (half_used sh segment) (λ k. next_of sh segment (mate k)) (starter sh segment) (start_of sh segment)
vertices = vertices_one_cycle sh segment vertex_facts (omega arith) (omega arith)
