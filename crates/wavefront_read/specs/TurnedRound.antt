-- The faces of a solid that is not refused, in a sound table: a face is one loop, the lap of its first half-edge, and
-- `backwards` is that lap turned round.
use Rattle.std.specs.Prelude.{◌≡◌, refl, ◌≢◌, ◌↔◌, Bool, true, false, not, ◌&&◌, List, ℕ, suc, ◌-◌, ◌*◌, ◌≤◌, ◌<◌, T}
use Rattle.std.specs.Prelude.{eqb, leb, ℤ, length, get_or}
use Rattle.std.proofs.Common.{sym, ap, ◌∙◌, arith, eqb→eq, leb→le, T_not}
use Rattle.std.proofs.Math.Dec.{not_T}
use Rattle.laws.specs.Bools.{pick, true_T, and_T, T_and, imp_T, eqb_same, split}
use Rattle.laws.specs.Search.{all_at}
use Rattle.layout.specs.declared.shape.Shape.{Shape}
use Rattle.layout.specs.Layout.{solid_used, face_solid, face_outer, loop_face, loop_first, loop_of, next_of, prev_of}
use Rattle.layout.specs.Layout.{side}
use Rattle.layout.specs.Fields.{Loop}
use Rattle.layout.specs.Items.{some, is_ring}
use Rattle.sound_tables.specs.Sound.{In, HalfUsed, Sound}
use Rattle.sound_tables.specs.Labels.{LeastIs, label_found, many_with}
use Rattle.sound_tables.specs.Good.{own}
use Rattle.wavefront.specs.Obj.{lap, backwards, own_loop, no_ring_nor_lone, three_sides, three_sided, solid_refusal}
use Rattle.wavefront_read.specs.Laps.{Among, Different, turn_round, lap_different, lap_whole, lap_only, lap_turned}
use Rattle.wavefront_read.specs.Laps.{lap_order, lap_three}
use Rattle.wavefront_read.specs.Counts.{different_count, count_most}

-- ---- what is said by a refusal of 0

-- numbers that differ pass the test, and those that pass it differ
pub differ : (m n : ℕ) → T (not (eqb m n)) ↔ (m ≢ n)
differ m n = (λ t e. T_not (eqb m n) t (true_T (eqb_same e)), λ h. not_T (eqb m n) (λ t. h (eqb→eq m n t)))

-- a solid that OBJ can show: it is in use, and each of its loops is the outer one of its face, has half-edges, three at
-- least
pub record Showable (sh : Shape) (x : List ℕ) (s : ℕ) : Type 0 where
  pub number : In sh.solids s
  pub used : solid_used sh x s ≢ 0
  pub outer : (l : ℕ) → In sh.loops l → face_solid sh x (loop_face sh x l) ≡ s → face_outer sh x (loop_face sh x l) ≡ l
  pub edged : (l : ℕ) → In sh.loops l → face_solid sh x (loop_face sh x l) ≡ s → loop_first sh x l ≢ 0
  pub sides : (l : ℕ) → In sh.loops l → face_solid sh x (loop_face sh x l) ≡ s
      → T (three_sides sh x (loop_first sh x l))

-- the three tests of a refusal of 0
none_refused : (a b c : Bool) → ◌≡◌ {A = ℕ} (pick a (pick b (pick c 0 12) 6) 5) 0
    → (a ≡ true) × (b ≡ true) × (c ≡ true)
none_refused true true true h = (refl, refl, refl)
none_refused true true false h = absurd (omega arith)
none_refused true false c h = absurd (omega arith)
none_refused false b c h = absurd (omega arith)

-- so it is
pub showable : (sh : Shape) (x : List ℕ) (s : ℕ) → solid_refusal sh x s ≡ 0 → Showable sh x s
unfolding solid_refusal no_ring_nor_lone three_sided
showable sh x s h =
    let r = none_refused (leb 1 s && leb s sh.solids) (some (solid_used sh x s))
    (no_ring_nor_lone sh x s && three_sided sh x s) h in
    let n = and_T (leb 1 s) (leb s sh.solids) (true_T r.0) in
    let t = and_T (no_ring_nor_lone sh x s) (three_sided sh x s) (true_T r.2) in
    let plain : (l : ℕ) → In sh.loops l → face_solid sh x (loop_face sh x l) ≡ s
    → T (not (is_ring sh x l)) × T (some (loop_first sh x l)) = λ l i e.
    and_T (not (is_ring sh x l)) (some (loop_first sh x l))
    (imp_T (own_loop sh x s l) _ (all_at sh.loops _ t.0 l i.0 i.1) (true_T (eqb_same e))) in
    record {
      number = (leb→le _ _ n.0, leb→le _ _ n.1);
      used = (differ (solid_used sh x s) 0).0 (true_T r.1);
      outer = λ l i e. let m = face_outer sh x (loop_face sh x l) in
          split m l (λ q. q) (λ d. absurd (T_not (not (eqb m l)) (plain l i e).0 ((differ m l).1 d)));
      edged = λ l i e. (differ (loop_first sh x l) 0).0 (plain l i e).1;
      sides = λ l i e.
          imp_T (own_loop sh x s l) _ (all_at sh.loops _ t.1 l i.0 i.1) (true_T (eqb_same e));
    }

-- ---- loops

module _ {sh : Shape} (x : List ℕ) {p : List ℤ} (a : Sound sh p (own sh x)) where
  -- the first half-edge of a loop is in use and names it
  first_used : (l : ℕ) → In sh.loops l → loop_face sh x l ≢ 0 → loop_first sh x l ≢ 0
      → HalfUsed sh (own sh x) (loop_first sh x l) × (loop_of sh x (loop_first sh x l) ≡ l)
  first_used l i u h =
      let e = (a.loop l i u).first in
      let m : LeastIs (2 * sh.edges) (own sh x Loop) l (loop_first sh x l) =
      rw e (label_found (2 * sh.edges) (own sh x Loop) l (λ z. h (e ∙ z))) in
      let k = loop_first sh x l in (
        (m.range.0, m.range.1, λ z. omega (arith, i.0, m.label, (a.half_free k m.range z).loop)),
        m.label,
      )

  -- the half-edges that name a loop are the lap from its first one
  loop_count : (l : ℕ) → In sh.loops l → loop_face sh x l ≢ 0 → loop_first sh x l ≢ 0
      → length (lap (next_of sh x) (loop_first sh x l) (2 * sh.edges) (loop_first sh x l))
      ≡ many_with (2 * sh.edges) (loop_of sh x) l
  loop_count l i u h =
      let n = 2 * sh.edges in
      let k = loop_first sh x l in
      let w = first_used l i u h in
      let c = a.rules.loops in
      omega (
        arith,
        different_count n (λ j. eqb (loop_of sh x j) l) (lap (next_of sh x) k n k) (lap_different c k w.0) (λ j m.
            let y = lap_only c k w.0 j m in
            ((y.0.0, y.0.1), true_T (eqb_same (y.1 ∙ w.1)))),
        count_most n (λ j. eqb (loop_of sh x j) l) (lap (next_of sh x) k n k) (λ j r t.
            let e = eqb→eq (loop_of sh x j) l t in
            let v : HalfUsed sh (own sh x) j = (r.0, r.1, λ z. omega (arith, i.0, e, (a.half_free j r z).loop)) in
            lap_whole c k w.0 j v (e ∙ sym w.1)),
      )

  -- the test of three sides says that three half-edges at least name the loop
  pub three_sides_lem : (l : ℕ) → In sh.loops l → loop_face sh x l ≢ 0 → loop_first sh x l ≢ 0
      → T (three_sides sh x (loop_first sh x l)) ↔ (3 ≤ many_with (2 * sh.edges) (loop_of sh x) l)
  three_sides_lem l i u h =
      let k = loop_first sh x l in
      let b = prev_of sh x k in
      let c = prev_of sh x b in
      let r = lap_three a.rules.loops k (first_used l i u h).0 (prev_of sh x) a.rules.undone in
      rw (sym (loop_count l i u h)) (
        λ t. let y = and_T (not (eqb b k)) (not (eqb c k)) t in r.1 ((differ b k).0 y.0, (differ c k).0 y.1),
        λ n. let y = r.0 n in T_and (not (eqb b k)) (not (eqb c k)) ((differ b k).1 y.0) ((differ c k).1 y.1),
      )

-- ---- faces

-- the half-edges of face f as the table has them: the first of its outer loop, and from there on
abbrev pub onwards : Shape → List ℕ → ℕ → List ℕ
onwards sh x f = let first = loop_first sh x (face_outer sh x f) in lap (next_of sh x) first (2 * sh.edges) first

-- face f is one loop: the first half-edge of its outer loop, from each the next, from the last one back to the first;
-- all of its half-edges, each once, three at least; they are written turned round
pub record FaceRound (sh : Shape) (x : List ℕ) (f : ℕ) : Type 0 where
  pub first : get_or (onwards sh x f) 0 0 ≡ loop_first sh x (face_outer sh x f)
  pub next : (i : ℕ) → suc i < length (onwards sh x f)
      → get_or (onwards sh x f) (suc i) 0 ≡ next_of sh x (get_or (onwards sh x f) i 0)
  pub closed : next_of sh x (get_or (onwards sh x f) (length (onwards sh x f) - 1) 0) ≡ get_or (onwards sh x f) 0 0
  pub written : backwards sh x f ≡ turn_round (onwards sh x f)
  pub whole : (k : ℕ) → HalfUsed sh (own sh x) k → side sh x k ≡ f → Among k (onwards sh x f)
  pub only : (k : ℕ) → Among k (onwards sh x f) → HalfUsed sh (own sh x) k × (side sh x k ≡ f)
  pub once : Different (onwards sh x f)
  pub three : 3 ≤ length (onwards sh x f)

-- so is each face of a solid that OBJ can show
pub turned_round : {sh : Shape} {x : List ℕ} {p : List ℤ} → Sound sh p (own sh x) → {s : ℕ} → Showable sh x s → (f : ℕ)
    → In sh.faces f → face_solid sh x f ≡ s → FaceRound sh x f
unfolding backwards
turned_round {sh} {x} a {s} q f i e =
    let l = face_outer sh x f in
    let r = a.face f i (λ z. omega (arith, e, z, q.number.0)) in
    let u : loop_face sh x l ≢ 0 = λ z. omega (arith, z, r.outer_face, i.0) in
    let o : face_solid sh x (loop_face sh x l) ≡ s = ap (face_solid sh x) r.outer_face ∙ e in
    let h = q.edged l r.outer_in o in
    let k = loop_first sh x l in
    let w = first_used _ a l r.outer_in u h in
    let c = a.rules.loops in
    let m = lap_order c k w.0 in
    record {
      first = m.0;
      next = m.1;
      closed = m.2 ∙ sym m.0;
      written = lap_turned c k w.0 (prev_of sh x) a.rules.undone;
      whole = λ j v d.
          let t = (a.half j (v.0, v.1) v.2).loop_in in
          let y : loop_of sh x j ≡ l =
          sym (q.outer (loop_of sh x j) t (ap (face_solid sh x) d ∙ e)) ∙ ap (face_outer sh x) d in
          lap_whole c k w.0 j v (y ∙ sym w.1);
      only = λ j m.
          let y = lap_only c k w.0 j m in
          (y.0, ap (loop_face sh x) (y.1 ∙ w.1) ∙ r.outer_face);
      once = lap_different c k w.0;
      three =
          rw (loop_count _ a l r.outer_in u h) ((three_sides_lem _ a l r.outer_in u h).0 (q.sides l r.outer_in o));
    }
