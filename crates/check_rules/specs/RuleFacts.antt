-- What rules 1, 2 and the joins of rule 4 give to the walks and the shells: the facts that the linear passes ask of a
-- table.
use Rattle.std.specs.Prelude.{◌≡◌, ◌≢◌, List, ℕ, ◌-◌, ◌*◌, ◌≤◌, ℤ}
use Rattle.std.proofs.Common.{subst, ⊎_elim, arith}
use Rattle.layout.specs.declared.shape.Shape.{Shape}
use Rattle.layout.specs.Layout.{loop_first, start_of, loop_of, next_of, side}
use Rattle.layout.specs.Mate.{mate}
use Rattle.layout.specs.MateLaws.{mate_even}
use Rattle.check_orbits.specs.OrbitsLaws.{Half, NextFacts, LoopFacts, VertexFacts}
use Rattle.check_shells.specs.Shells.{Sided}
use Rattle.check_rules.specs.Says.{says_some}
use Rattle.check_rules.specs.RulesSay.{Together, OnlyWith, Rule1, Rule2, HalfLinks}

-- both are there where one is
together_some : {a b : ℕ} → Together a b → a ≢ 0 → b ≢ 0
together_some t h = ⊎_elim (λ z. absurd (h z.0)) (λ n. n.1) t

only_some : {a b : ℕ} → OnlyWith a b → b ≢ 0 → a ≢ 0
only_some t h = ⊎_elim (λ n. n) (λ z. absurd (h z)) t

module _ (sh : Shape) (x : List ℕ) (p : List ℤ) (r1 : Rule1 sh x p) (r2 : Rule2 sh x) where
  -- a half-edge in use has a start
  pub started : (k : ℕ) → Half sh x k → start_of sh x k ≢ 0
  started k u = (says_some (start_of sh x k)).out u.2

  in_use : (k : ℕ) → k ≢ 0 → k ≤ 2 * sh.edges → start_of sh x k ≢ 0 → Half sh x k
  in_use k l u h = (omega arith, u, (says_some (start_of sh x k)).back h)

  next_in : (k : ℕ) → Half sh x k → Half sh x (next_of sh x k)
  next_in k u =
      let r = r1.half k u.0 u.1 in
      in_use (next_of sh x k) (together_some r.with_next (started k u)) r.next
      (r2.half k u.0 u.1 (started k u)).next

  mate_used : (k : ℕ) → Half sh x k → start_of sh x (mate k) ≢ 0
  mate_used k u = together_some (r1.half k u.0 u.1).with_mate (started k u)

  loop_low : (k : ℕ) → Half sh x k → 1 ≤ loop_of sh x k
  loop_low k u = let n : loop_of sh x k ≢ 0 = together_some (r1.half k u.0 u.1).with_loop (started k u) in
      omega arith

  loop_high : (k : ℕ) → Half sh x k → loop_of sh x k ≤ sh.loops
  loop_high k u = (r1.half k u.0 u.1).loop

  first_in : (l : ℕ) → 1 ≤ l → l ≤ sh.loops → loop_first sh x l ≢ 0 → Half sh x (loop_first sh x l)
  first_in l lo hi f =
      let r = r1.loop l lo hi in
      in_use (loop_first sh x l) f r.first ((r2.loop l lo hi (only_some r.first_used f)).first f)

  -- the face that a half-edge in use lies in is one of the table's
  pub side_range : (k : ℕ) → Half sh x k → (1 ≤ side sh x k) × (side sh x k ≤ sh.faces)
  side_range k u =
      let n : side sh x k ≢ 0 = (r2.half k u.0 u.1 (started k u)).loop in
      (omega arith, (r1.loop (loop_of sh x k) (loop_low k u) (loop_high k u)).face)

  -- each edge in use has a face on each side
  pub sided : Sided sh x (side sh x)
  sided = record {
    at = λ e l u t.
        let h : Half sh x (2 * e) = (omega arith, omega arith, t) in
        let m : mate (2 * e) ≡ 2 * e - 1 = mate_even (2 * e) (omega arith) in
        let g : Half sh x (2 * e - 1) =
        in_use (2 * e - 1) (omega arith) (omega arith) (subst (λ j. start_of sh x j ≢ 0) m (mate_used (2 * e) h)) in
        let a = side_range (2 * e - 1) g in
        let b = side_range (2 * e) h in
        (a.0, a.1, b.0, b.1);
  }

  module _ (joined : (k : ℕ) → 1 ≤ k → k ≤ 2 * sh.edges → start_of sh x k ≢ 0 → HalfLinks sh x k) where
    of_half : (k : ℕ) → Half sh x k → HalfLinks sh x k
    of_half k u = joined k u.0 u.1 (started k u)

    next_facts : NextFacts sh x
    next_facts = record { next_in = next_in; next_undone = λ k u. (of_half k u).prev_next }

    pub vertex_facts : VertexFacts sh x
    vertex_facts = record {
      links = next_facts;
      mate_used = λ k u. (says_some (start_of sh x (mate k))).back (mate_used k u);
      next_start = λ k u. (of_half k u).next_start;
      start_high = λ k u. (r1.half k u.0 u.1).start;
    }

    pub loop_facts : ((l : ℕ) → 1 ≤ l → l ≤ sh.loops → loop_first sh x l ≢ 0 → loop_of sh x (loop_first sh x l) ≡ l)
        → LoopFacts sh x
    loop_facts named = record {
      links = next_facts;
      loop_kept = λ k u. (of_half k u).next_loop;
      loop_low = loop_low;
      loop_high = loop_high;
      has_first = λ k u. (of_half k u).has_first;
      first_in = first_in;
      first_names = named;
    }
