-- The tests of refusal 12 as the code makes them, and the ways out of asking for a solid.
use Rattle.std.specs.Prelude.{◌≡◌, refl, ◌≢◌, Bool, true, false, not, ◌&&◌, List, ℕ, zero, suc, ◌≤◌, ◌<◌, eqb}
use Rattle.std.proofs.Common.{sym, ap, ◌∙◌, arith}
use borrow.Author.Tests.{le-leb, lt-leb}
use Rattle.refusals.specs.declared.Refusal.TheVariants.{NotPlain}
use Rattle.refusals.specs.Numbers.{refusal_in, unless}
use Rattle.laws.specs.Bools.{pick, eqb_same, eqb_other}
use Rattle.laws.specs.Search.{all_to}
use Rattle.layout.specs.declared.shape.Shape.{Shape}
use Rattle.layout.specs.Layout.{solid_used, face_solid, face_outer, loop_face, loop_first, prev_of}
use Rattle.wavefront.specs.Obj.{three_sides, outer_loop, sided_loop, no_ring_nor_lone, three_sided, solid_refusal}

-- ---- one loop

-- one side, two sides and more, by the two half-edges that were read
module _ (sh : Shape) (x : List ℕ) (k b : ℕ) (eb : b ≡ prev_of sh x k) where
  pub one_side : b ≡ k → false ≡ three_sides sh x k
  one_side e = rw (← eb, eqb_same e)

  module _ (q : ℕ) (eq : q ≡ prev_of sh x b) where
    sides_read : (not (eqb b k) && not (eqb q k)) ≡ three_sides sh x k
    sides_read = rw (eq, eb)

    pub two_sides : b ≢ k → q ≡ k → false ≡ three_sides sh x k
    two_sides d e = rw (eqb_other d, eqb_same e) at sides_read

    pub more_sides : b ≢ k → q ≢ k → true ≡ three_sides sh x k
    more_sides d e = rw (eqb_other d, eqb_other e) at sides_read

-- both tests of a loop
abbrev pub plain_loop : Shape → List ℕ → ℕ → ℕ → Bool
plain_loop sh x s l = outer_loop sh x s l && sided_loop sh x s l

module _ (sh : Shape) (x : List ℕ) (s l f n : ℕ) (ef : f ≡ loop_face sh x l) (en : n ≡ face_solid sh x f) where
  -- a loop of another solid passes
  pub other_loop : n ≢ s → true ≡ plain_loop sh x s l
  other_loop d =
      let e : eqb (face_solid sh x (loop_face sh x l)) s
      ≡ false = eqb_other (λ z. d (en ∙ ap (face_solid sh x) ef ∙ z)) in
      rw e

  -- one of the solid by what was read of it
  own_loop : (o first : ℕ) (t : Bool) → n ≡ s → o ≡ face_outer sh x f → first ≡ loop_first sh x l
      → t ≡ three_sides sh x first → (eqb o l && not (eqb first 0) && t) ≡ plain_loop sh x s l
  own_loop o first t d eo ei et =
      let e : eqb (face_solid sh x (loop_face sh x l)) s ≡ true
      = eqb_same (ap (face_solid sh x) (sym ef) ∙ sym en ∙ d) in
      rw (e, et, ei, eo, ef) (twice (eqb (face_outer sh x (loop_face sh x l)) l) _ _)
    where
      twice : (a b c : Bool) → (a && b && c) ≡ ((not (not a) && b) && c)
      twice true b c = refl
      twice false b c = refl

  module _ (d : n ≡ s) (o : ℕ) (eo : o ≡ face_outer sh x f) where
    -- a ring
    pub ring_loop : o ≢ l → false ≡ plain_loop sh x s l
    ring_loop r = let h = own_loop o (loop_first sh x l) _ d eo refl refl in rw (eqb_other r) at h

    module _ (r : o ≡ l) (first : ℕ) (ei : first ≡ loop_first sh x l) where
      -- a lone loop
      pub lone_loop : first ≡ 0 → false ≡ plain_loop sh x s l
      lone_loop z = let h = own_loop o first _ d eo ei refl in rw (eqb_same r, eqb_same z) at h

      -- one with half-edges by its sides
      pub sided_loop_lem : (t : Bool) → first ≢ 0 → t ≡ three_sides sh x first → t ≡ plain_loop sh x s l
      sided_loop_lem t z et = let h = own_loop o first t d eo ei et in rw (eqb_same r, eqb_other z) at h

-- ---- all loops

-- two tests of 1..n at once
pub all_and : (n : ℕ) (p q : ℕ → Bool) → all_to n (λ k. p k && q k) ≡ (all_to n p && all_to n q)
unfolding all_to
all_and zero p q = refl
all_and (suc n) p q = rw (all_and n p q) (mixed (p (suc n)) (q (suc n)) (all_to n p) (all_to n q))
  where
    mixed : (a b c d : Bool) → ((a && b) && (c && d)) ≡ ((a && c) && (b && d))
    mixed true true c d = refl
    mixed true false true d = refl
    mixed true false false d = refl
    mixed false b c d = refl

-- what all loops pass is what is asked
pub plain_all : (sh : Shape) (x : List ℕ) (s : ℕ) (r : Bool) → r ≡ all_to sh.loops (plain_loop sh x s)
    → r ≡ (no_ring_nor_lone sh x s && three_sided sh x s)
unfolding no_ring_nor_lone three_sided
plain_all sh x s r e = e ∙ all_and sh.loops (outer_loop sh x s) (sided_loop sh x s)

-- ---- the ways out

module _ (sh : Shape) (x : List ℕ) (s : ℕ) where
  pub refused_none : s ≡ 0 → 5 ≡ solid_refusal sh x s
  unfolding solid_refusal
  refused_none z = rw z

  pub refused_past : sh.solids < s → 5 ≡ solid_refusal sh x s
  unfolding solid_refusal
  refused_past h = rw (le-leb 1 s (omega arith), lt-leb s sh.solids h)

  module _ (d : s ≢ 0) (h : s ≤ sh.solids) (n : ℕ) (e : n ≡ solid_used sh x s) where
    pub refused_free : n ≡ 0 → 6 ≡ solid_refusal sh x s
    unfolding solid_refusal
    refused_free z = rw (le-leb 1 s (omega arith), le-leb s sh.solids h, ← e, z)

    module _ (u : n ≢ 0) (b : Bool) (q : b ≡ (no_ring_nor_lone sh x s && three_sided sh x s)) where
      -- then the last test decides
      pub shaped : refusal_in (unless b NotPlain) ≡ solid_refusal sh x s
      unfolding solid_refusal
      shaped = rw (le-leb 1 s (omega arith), le-leb s sh.solids h, ← e, eqb_other u, ← q) (decided b)
        where
          decided : (c : Bool) → refusal_in (unless c NotPlain) ≡ pick c 0 12
          decided true = refl
          decided false = refl
