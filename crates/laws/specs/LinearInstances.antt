-- Small instances of the laws that a linear check rests on: marks, closure and union.
use Rattle.std.specs.Prelude.{◌≡◌, refl, ◌≢◌, ◌⊎◌, Bool, true, false, List, [], ◌∷◌, ℕ, zero, suc, ◌≤◌, T, leb, eqb}
use Rattle.std.specs.Prelude.{get_or, set, replicate}
use Rattle.std.proofs.Common.{subst, arith, leb→le}
use Rattle.laws.specs.Search.{all_to}
use Rattle.laws.specs.Cycles.{Cycles}
use Rattle.laws.specs.Linked.{Linked, link}
use Rattle.laws.specs.Walks.{Used, all_met}
use Rattle.laws.specs.Marks.{mark_from, mark_rep, mark_to, zeros_at, Labelled, all_marked, marked_met, met_all_cycles}
use Rattle.laws.specs.Marks.{cycles_all_met}
use Rattle.laws.specs.Closure.{Edge, across, pass, rounds, linkedb, all_linked, all_linked_lem, linked_all}
use Rattle.laws.specs.Closure.{linked_sound, linked_complete}
use Rattle.laws.specs.UnionFind.{Down, root_of, root, hang, unite, unite_edge, unite_to, halve_path, point_root}
use Rattle.laws.specs.UnionFind.{United}
use Rattle.laws.specs.Union.{classes_short, Classes}
use Rattle.laws.specs.UnionFind.{unite_united, united_between, united_linked, same_roots_then}
use Rattle.laws.specs.Union.{classes_start, classes_to, classes_test, all_rooted, rooted_linked}
use Rattle.laws.specs.Instances.{U, below, each, use_of}

-- ---- marks: of 1..5 the first four are in use, in two cycles, 1 4 and 2 3; there is a third label, of which nothing
-- is in use

-- what each goes to
abbrev step : ℕ → ℕ
step i = get_or (0 ∷ 4 ∷ 3 ∷ 2 ∷ 1 ∷ []) i 0

-- its label
abbrev label : ℕ → ℕ
label i = get_or (0 ∷ 1 ∷ 2 ∷ 2 ∷ 1 ∷ []) i 0

-- the representative of a label
abbrev rep : ℕ → ℕ
rep l = get_or (0 ∷ 4 ∷ 2 ∷ []) l 0

-- all that the marks ask for
two_cycles : Labelled 5 3 U step rep label
two_cycles = record {
  perm = record {
    low = λ i u. u.0;
    high = λ i u. u.1;
    f_in =
        each (λ i. U (step i)) (use_of 4 (omega arith) tt) (use_of 3 (omega arith) tt) (use_of 2 (omega arith) tt)
        (use_of 1 (omega arith) tt);
    inv = step;
    undo = each (λ i. step (step i) ≡ i) refl refl refl refl;
  };
  keeps = each (λ i. label (step i) ≡ label i) refl refl refl refl;
  lab_low = each (λ i. 1 ≤ label i) (omega arith) (omega arith) (omega arith) (omega arith);
  lab_high = each (λ i. label i ≤ 3) (omega arith) (omega arith) (omega arith) (omega arith);
  has_rep = each (λ i. rep (label i) ≢ 0) (omega arith) (omega arith) (omega arith) (omega arith);
  rep_in = λ l lo hi h. in_use l lo hi h;
}
  where
    in_use : (l : ℕ) → 1 ≤ l → l ≤ 3 → rep l ≢ 0 → U (rep l) × (label (rep l) ≡ l)
    in_use zero lo hi h = absurd (h refl)
    in_use (suc zero) lo hi h = (use_of 4 (omega arith) tt, refl)
    in_use (suc (suc zero)) lo hi h = (use_of 2 (omega arith) tt, refl)
    in_use (suc (suc (suc zero))) lo hi h = absurd (h refl)
    in_use (suc (suc (suc (suc l)))) lo hi h = absurd (omega arith)

-- nothing is marked at first
abbrev blank : List ℕ
blank = replicate 6 0

-- in the end the first four are
marks_are : mark_to step 5 rep 3 blank ≡ 0 ∷ 1 ∷ 1 ∷ 1 ∷ 1 ∷ 0 ∷ []
unfolding mark_to mark_rep mark_from
marks_are = refl

-- so the test of the code passes
passes : T (all_marked 5 below (mark_to step 5 rep 3 blank))
unfolding all_marked all_to mark_to mark_rep mark_from
passes = tt

-- the readable test is the same
both_tests : all_marked 5 below (mark_to step 5 rep 3 blank) ≡ all_met 5 below step rep label
both_tests = marked_met 5 3 below step rep label blank two_cycles (omega arith) (λ k l. zeros_at 6 k)

-- and says that the cycles are one for each label
cycles_hold : Cycles 5 U step label
cycles_hold = met_all_cycles 5 3 below step rep label two_cycles (subst T both_tests passes)

-- and back
test_holds : T (all_met 5 below step rep label)
test_holds = cycles_all_met 5 3 below step rep label two_cycles cycles_hold

-- ---- closure: four items, edges 1 2 and 4 3; a third edge, 2 3, is not present

-- one end of each edge
abbrev left : ℕ → ℕ
left i = get_or (0 ∷ 1 ∷ 4 ∷ 2 ∷ []) i 0

-- the other
abbrev right : ℕ → ℕ
right i = get_or (0 ∷ 2 ∷ 3 ∷ 3 ∷ []) i 0

-- the first two are present
abbrev present : ℕ → Bool
present i = leb i 2

-- the ends are items
ends : (i : ℕ) → Used 3 present i → (1 ≤ left i) × (left i ≤ 4) × (1 ≤ right i) × (right i ≤ 4)
ends zero u = absurd (omega (arith, u.0))
ends (suc zero) u = (omega arith, omega arith, omega arith, omega arith)
ends (suc (suc zero)) u = (omega arith, omega arith, omega arith, omega arith)
ends (suc (suc (suc i))) u = absurd (omega (arith, leb→le (suc (suc (suc i))) 2 u.2))

-- 3 and 4 are linked, 2 and 3 are not, by computation
linked_computes : (linkedb 4 3 present left right 3 4 ≡ true) × (linkedb 4 3 present left right 2 3 ≡ false)
unfolding linkedb rounds pass across
linked_computes = (refl, refl)

-- from the test to the chain
chain_34 : Linked (Edge (Used 3 present) left right) 3 4
unfolding linkedb rounds pass across
chain_34 = linked_sound 4 3 present left right ends 3 4 tt

-- from the chain to the test
test_12 : T (linkedb 4 3 present left right 1 2)
test_12 = linked_complete 4 3 present left right ends 1 2 (omega arith) (omega arith)
    (link (1, (omega arith, omega arith, tt), refl, refl))

-- the class of each item
abbrev class : ℕ → ℕ
class g = get_or (0 ∷ 1 ∷ 1 ∷ 2 ∷ 2 ∷ []) g 0

-- the representative of a class
abbrev first_of : ℕ → ℕ
first_of l = get_or (0 ∷ 2 ∷ 3 ∷ []) l 0

-- a statement about each item
item : (P : ℕ → Type 0) → P 1 → P 2 → P 3 → P 4 → (g : ℕ) → Used 4 below g → P g
item P p q r s g u = each P p q r s g (u.0, omega (arith, u.1), u.2)

-- each label is one class, by computation
all_computes : T (all_linked 4 below 3 present left right first_of class)
unfolding all_linked all_to linkedb rounds pass across
all_computes = tt

-- so the items of one class are linked
one_class : Linked (Edge (Used 3 present) left right) 1 2
one_class = all_linked_lem 4 3 present left right ends below first_of class all_computes 1 2
    (omega arith, omega arith, tt)
    (omega arith, omega arith, tt) refl

-- and back
all_again : T (all_linked 4 below 3 present left right first_of class)
all_again = linked_all 4 3 present left right ends below first_of class
    (item (λ g. Used 4 below (first_of (class g)) × (class (first_of (class g)) ≡ class g))
    ((omega arith, omega arith, tt), refl) ((omega arith, omega arith, tt), refl) (
      (omega arith, omega arith, tt),
      refl,
    ) ((omega arith, omega arith, tt), refl))
    (all_linked_lem 4 3 present left right ends below first_of class all_computes)

-- ---- union: the same items and edges

-- each its own parent
abbrev own : List ℕ
own = 0 ∷ 1 ∷ 2 ∷ 3 ∷ 4 ∷ []

-- parents do not rise
own_down : Down own
own_down = record { at = at }
  where
    at : (i : ℕ) → get_or own i 0 ≤ i
    at zero = omega arith
    at (suc zero) = omega arith
    at (suc (suc zero)) = omega arith
    at (suc (suc (suc zero))) = omega arith
    at (suc (suc (suc (suc zero)))) = omega arith
    at (suc (suc (suc (suc (suc i))))) = omega arith

-- up to 4 each is its own
own_at : (i : ℕ) → i ≤ 4 → get_or own i 0 ≡ i
own_at zero l = refl
own_at (suc zero) l = refl
own_at (suc (suc zero)) l = refl
own_at (suc (suc (suc zero))) l = refl
own_at (suc (suc (suc (suc zero)))) l = refl
own_at (suc (suc (suc (suc (suc i))))) l = absurd (omega arith)

-- after all edges
united_are : unite_to present left right 3 own ≡ 0 ∷ 1 ∷ 1 ∷ 3 ∷ 3 ∷ []
unfolding unite_to unite_edge hang root_of
united_are = refl

-- one root is one chain
classes : Classes 4 (Edge (Used 3 present) left right) (unite_to present left right 3 own)
classes = classes_to 4 present left right 3 (λ i u. let e = ends i u in
    (e.1, e.3)) (classes_start 4 own own_down (omega arith) own_at)

-- and the two tests agree
roots_test : eqb (root (unite_to present left right 3 own) 1) (root (unite_to present left right 3 own) 3)
    ≡ linkedb 4 3 present left right 1 3
roots_test = classes_test 4 present left right 3 ends classes 1 3 (omega arith) (omega arith) (omega arith)

-- for all items at once
rooted_test : all_rooted 4 below (unite_to present left right 3 own) first_of class
    ≡ all_linked 4 below 3 present left right first_of class
rooted_test = rooted_linked 4 below 3 present left right first_of class (unite_to present left right 3 own) ends
    (item (λ g. (1 ≤ first_of (class g)) × (first_of (class g) ≤ 4)) (omega arith, omega arith)
    (omega arith, omega arith) (omega arith, omega arith) (omega arith, omega arith)) classes

-- a path shortened before and after a union
shortened : United own (set (unite (set own 4 4) 4 2) 4 2) 4 2
unfolding hang root_of
shortened = united_between (halve_path own own_down 4) (unite_united own own_down 4 2 (omega arith) (omega arith))
    (point_root (unite own 4 2) (unite_united own own_down 4 2 (omega arith) (omega arith)).down 4)

-- a shortened path changes no class
classes_again : Classes 4 (Edge (Used 3 present) left right) (0 ∷ 1 ∷ 1 ∷ 3 ∷ 3 ∷ [])
unfolding unite_to unite_edge hang root_of
classes_again =
    let s = halve_path (unite_to present left right 3 own) classes.down 4 in
    classes_short classes (same_roots_then s (point_root (0 ∷ 1 ∷ 1 ∷ 3 ∷ 3 ∷ []) s.down 2))

-- 2 and 4 are one class once they are united, and no others
pair_24 : (root (unite own 2 4) 2 ≡ root (unite own 2 4) 4
    → Linked (λ i j. (root own i ≡ root own j) ⊎ ((i ≡ 2) × (j ≡ 4))) 2 4)
pair_24 = (united_linked (unite_united own own_down 2 4 (omega arith) (omega arith)) 2 4).0
