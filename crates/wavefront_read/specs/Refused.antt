-- When a solid is refused, for every table that passes the check: each number just where document 02 says so.
use Rattle.std.specs.Prelude.{◌≡◌, refl, ◌≢◌, ◌↔◌, ◌⊎◌, not, ◌&&◌, List, ℕ, zero, suc, ◌*◌, ◌≤◌, ◌<◌, ℤ}
use Rattle.std.proofs.Common.{ap, inl, inr, arith, leb→le, le→leb}
use Rattle.std.proofs.Math.Logic.{⊎_elim}
use Rattle.std.proofs.Math.Bool.{true, false}
use Rattle.std.proofs.Math.Dec.{T, leb, eqb→eq, not_T}
use Rattle.laws.specs.Bools.{T_true, true_T, T_false, false_T, ask, and_T, T_and, T_imp, split, le?}
use Rattle.laws.specs.Bools.{eqb_same, eqb_other}
use Rattle.laws.specs.Search.{all_of}
use Rattle.layout.specs.declared.shape.Shape.{Shape}
use Rattle.layout.specs.Layout.{shape_of, solid_used, face_solid, face_outer, loop_face, loop_first, loop_of}
use Rattle.layout.specs.Items.{some, is_ring}
use Rattle.table.specs.Valid.{Valid}
use Rattle.sound_tables.specs.Sound.{In, Sound}
use Rattle.sound_tables.specs.Labels.{many_with}
use Rattle.sound_tables.specs.Good.{own}
use Rattle.sound_tables.specs.ValidGood.{valid_good}
use Rattle.wavefront.specs.Obj.{own_loop, no_ring_nor_lone, three_sided, solid_refusal}
use Rattle.wavefront_read.specs.TurnedRound.{differ, Showable, showable, three_sides_lem}

-- ---- what is said

-- loop l is one of a face of solid s
abbrev pub LoopOf : Shape → List ℕ → ℕ → ℕ → Type 0
LoopOf sh x s l = In sh.loops l × (face_solid sh x (loop_face sh x l) ≡ s)

-- loop l cannot stand in OBJ: it is a ring of its face, or a lone loop, or under three half-edges name it
pub data Unshowable (sh : Shape) (x : List ℕ) (l : ℕ) : Type 0 where
  ring : face_outer sh x (loop_face sh x l) ≢ l → Unshowable sh x l
  lone : loop_first sh x l ≡ 0 → Unshowable sh x l
  few : many_with (2 * sh.edges) (loop_of sh x) l < 3 → Unshowable sh x l

-- s is the number of a solid in use
abbrev pub SolidIn : Shape → List ℕ → ℕ → Type 0
SolidIn sh x s = In sh.solids s × (solid_used sh x s ≢ 0)

-- refusal r of solid s, both ways
pub record RefusedAs (sh : Shape) (x : List ℕ) (s r : ℕ) : Type 0 where
  -- 5: NO NUMBER OF A SOLID
  pub refusal_5 : (r ≡ 5) ↔ (In sh.solids s → ⊥)
  -- 6: A FREE SOLID
  pub refusal_6 : (r ≡ 6) ↔ (In sh.solids s × (solid_used sh x s ≡ 0))
  -- 12: ONE IN USE, OF WHICH A FACE HAS A RING, A LONE LOOP OR UNDER THREE SIDES
  pub refusal_12 : (r ≡ 12) ↔ (SolidIn sh x s × ((l : ℕ) × LoopOf sh x s l × Unshowable sh x l))
  -- NONE: ONE IN USE, OF WHICH NO FACE HAS
  pub refusal_0 : (r ≡ 0) ↔ (SolidIn sh x s × ((l : ℕ) → LoopOf sh x s l → Unshowable sh x l → ⊥))

-- ---- the four cases

-- one of 1..n has P, or all have Q
some_or : (n : ℕ) (P Q : ℕ → Type 0) → ((k : ℕ) → P k ⊎ Q k)
    → ((k : ℕ) × In n k × P k) ⊎ ((k : ℕ) → In n k → Q k)
some_or zero P Q h = inr (λ k i. absurd (omega (arith, i)))
some_or (suc n) P Q h = ⊎_elim (λ r. inl (r.0, (r.1.0, omega (arith, r.1.1)), r.2))
    (λ a. ⊎_elim (λ p. inl (suc n, (omega arith, omega arith), p))
    (λ q. inr (λ k i. split k (suc n) (λ e. rw e q) (λ d. a k (i.0, omega (arith, i.1, d)))))
    (h (suc n)))
    (some_or n P Q h)

-- which case it is, and the number
data Case (sh : Shape) (x : List ℕ) (s r : ℕ) : Type 0 where
  no_number : r ≡ 5 → (In sh.solids s → ⊥) → Case sh x s r
  free : r ≡ 6 → In sh.solids s → solid_used sh x s ≡ 0 → Case sh x s r
  unshown : r ≡ 12 → SolidIn sh x s → (l : ℕ) → LoopOf sh x s l → Unshowable sh x l → Case sh x s r
  shown : r ≡ 0 → SolidIn sh x s → ((l : ℕ) → LoopOf sh x s l → Unshowable sh x l → ⊥) → Case sh x s r

-- no two cases are at once
case_refused : {sh : Shape} {x : List ℕ} {s r : ℕ} → Case sh x s r → RefusedAs sh x s r
case_refused (no_number e n) = record {
  refusal_5 = (λ q. n, λ h. e);
  refusal_6 = (λ q. absurd (omega arith), λ h. absurd (n h.0));
  refusal_12 = (λ q. absurd (omega arith), λ h. absurd (n h.0.0));
  refusal_0 = (λ q. absurd (omega arith), λ h. absurd (n h.0.0));
}
case_refused (free e i z) = record {
  refusal_5 = (λ q. absurd (omega arith), λ h. absurd (h i));
  refusal_6 = (λ q. (i, z), λ h. e);
  refusal_12 = (λ q. absurd (omega arith), λ h. absurd (h.0.1 z));
  refusal_0 = (λ q. absurd (omega arith), λ h. absurd (h.0.1 z));
}
case_refused (unshown e i l o b) = record {
  refusal_5 = (λ q. absurd (omega arith), λ h. absurd (h i.0));
  refusal_6 = (λ q. absurd (omega arith), λ h. absurd (i.1 h.1));
  refusal_12 = (λ q. (i, (l, o, b)), λ h. e);
  refusal_0 = (λ q. absurd (omega arith), λ h. absurd (h.1 l o b));
}
case_refused (shown e i n) = record {
  refusal_5 = (λ q. absurd (omega arith), λ h. absurd (h i.0));
  refusal_6 = (λ q. absurd (omega arith), λ h. absurd (i.1 h.1));
  refusal_12 = (λ q. absurd (omega arith), λ h. absurd (n h.1.0 h.1.1 h.1.2));
  refusal_0 = (λ q. (i, n), λ h. e);
}

module _ {sh : Shape} (x : List ℕ) {p : List ℤ} (a : Sound sh p (own sh x)) (s : ℕ) where
  module _ (i : SolidIn sh x s) where
    -- a loop of the solid is in use
    loop_used : (l : ℕ) → LoopOf sh x s l → loop_face sh x l ≢ 0
    loop_used l o z = omega (arith, ap (face_solid sh x) z, o.1, i.0.0)

    -- a solid that OBJ can show has no such loop
    none_bad : Showable sh x s → (l : ℕ) → LoopOf sh x s l → Unshowable sh x l → ⊥
    none_bad q l o (ring d) = d (q.outer l o.0 o.1)
    none_bad q l o (lone z) = q.edged l o.0 o.1 z
    none_bad q l o (few k) = omega (
      arith,
      k,
      (three_sides_lem _ a l o.0 (loop_used l o) (q.edged l o.0 o.1)).0 (q.sides l o.0 o.1),
    )

    -- and one that has none passes the tests
    none_passes : ((l : ℕ) → LoopOf sh x s l → Unshowable sh x l → ⊥)
        → T (no_ring_nor_lone sh x s && three_sided sh x s)
    unfolding no_ring_nor_lone three_sided
    none_passes h =
        let of : (l : ℕ) → 1 ≤ l → l ≤ sh.loops → T (own_loop sh x s l) → LoopOf sh x s l = λ l b c t.
        ((b, c), eqb→eq (face_solid sh x (loop_face sh x l)) s t) in
        T_and (no_ring_nor_lone sh x s) (three_sided sh x s)
        (all_of sh.loops _ (λ l b c. T_imp (own_loop sh x s l) _ (λ t.
        T_and (not (is_ring sh x l)) (some (loop_first sh x l))
        (not_T (is_ring sh x l) (λ r. h l (of l b c t) (ring ((differ (face_outer sh x (loop_face sh x l)) l).0 r))))
        ((differ (loop_first sh x l) 0).1 (λ z. h l (of l b c t) (lone z))))))
        (all_of sh.loops _ (λ l b c. T_imp (own_loop sh x s l) _ (λ t.
        let o = of l b c t in
        (three_sides_lem _ a l (b, c) (loop_used l o) (λ z. h l o (lone z))).1
        (⊎_elim (λ k. k) (λ k. absurd (h l o (few k))) (le? 3 (many_with (2 * sh.edges) (loop_of sh x) l))))))

    -- a loop can stand in OBJ or not
    bad_or : (l : ℕ) → Unshowable sh x l ⊎ (Unshowable sh x l → ⊥)
    bad_or l = split (face_outer sh x (loop_face sh x l)) l
        (λ e. split (loop_first sh x l) 0 (λ z. inl (lone z)) (λ d.
        ⊎_elim (λ k. inr (λ b. fine e d k b)) (λ k. inl (few k)) (le? 3 (many_with (2 * sh.edges) (loop_of sh x) l))))
        (λ d. inl (ring d))
      where
        -- it is none of the three
        fine : face_outer sh x (loop_face sh x l) ≡ l → loop_first sh x l ≢ 0
            → 3 ≤ many_with (2 * sh.edges) (loop_of sh x) l → Unshowable sh x l → ⊥
        fine e d k (ring c) = c e
        fine e d k (lone z) = d z
        fine e d k (few m) = omega arith

    -- the solid has a loop that cannot, or none
    bad_loop : ((l : ℕ) × LoopOf sh x s l × Unshowable sh x l) ⊎ ((l : ℕ) → LoopOf sh x s l → Unshowable sh x l → ⊥)
    bad_loop = ⊎_elim (λ r. inl (r.0, (r.1, r.2.0), r.2.1)) (λ h. inr (λ l o. h l o.0 o.1))
        (some_or sh.loops (λ l. (face_solid sh x (loop_face sh x l) ≡ s) × Unshowable sh x l)
        (λ l. face_solid sh x (loop_face sh x l) ≡ s → Unshowable sh x l → ⊥)
        (λ l. split (face_solid sh x (loop_face sh x l)) s
        (λ e. ⊎_elim (λ b. inl (e, b)) (λ n. inr (λ q. n)) (bad_or l)) (λ d. inr (λ e. absurd (d e)))))

  -- one of the four
  case_is : Case sh x s (solid_refusal sh x s)
  unfolding solid_refusal
  case_is = ⊎_elim known
      (λ e. no_number (rw e refl)
      (λ n. false_T e (T_and (leb 1 s) (leb s sh.solids) (le→leb 1 s n.0) (le→leb s sh.solids n.1))))
      (ask (leb 1 s && leb s sh.solids))
    where
      -- by the tests of a solid in use
      used : leb 1 s && leb s sh.solids ≡ true → SolidIn sh x s
          → ((l : ℕ) × LoopOf sh x s l × Unshowable sh x l) ⊎ ((l : ℕ) → LoopOf sh x s l → Unshowable sh x l → ⊥)
          → Case sh x s (solid_refusal sh x s)
      used e i (inl r) =
          let bad : no_ring_nor_lone sh x s && three_sided sh x s ≡ false = T_false (λ t.
          let good : no_ring_nor_lone sh x s && three_sided sh x s ≡ true = T_true t in
          none_bad i (showable sh x s (rw (e, eqb_other i.1, good) refl)) r.0 r.1 r.2) in
          unshown (rw (e, eqb_other i.1, bad) refl) i r.0 r.1 r.2
      used e i (inr h) =
          let good : no_ring_nor_lone sh x s && three_sided sh x s ≡ true = T_true (none_passes i h) in
          shown (rw (e, eqb_other i.1, good) refl) i h

      -- by the number
      known : leb 1 s && leb s sh.solids ≡ true → Case sh x s (solid_refusal sh x s)
      known e =
          let t = and_T (leb 1 s) (leb s sh.solids) (true_T e) in
          let n : In sh.solids s = (leb→le 1 s t.0, leb→le s sh.solids t.1) in
          split (solid_used sh x s) 0 (λ z. free (rw (e, eqb_same z) refl) n z) (λ u. used e (n, u) (bad_loop (n, u)))

-- EACH NUMBER JUST WHERE IT IS DUE, for every table that passes the check
pub solid_refused : (x : List ℕ) (p : List ℤ) → Valid x p → (s : ℕ)
    → RefusedAs (shape_of x) x s (solid_refusal (shape_of x) x s)
solid_refused x p v s = case_refused (case_is _ (valid_good x p v).sound s)
