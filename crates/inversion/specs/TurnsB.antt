-- The tables that B's turns leave: they are good, an edge is gone, and what is known of their rings.
use Rattle.std.specs.Prelude.{◌≡◌, refl, ◌≢◌, ◌⊎◌, Bool, true, false, not, ◌&&◌, List, ℕ, ◌*◌, ◌<◌, eqb, ℤ}
use Rattle.std.proofs.Common.{sym, ap, ◌∙◌, subst, ⊎_elim, arith, eqb→eq, T_not}
use Rattle.std.proofs.lemmas.Bool.{false≢true}
use Rattle.std.proofs.Math.Dec.{not_T}
use Rattle.laws.specs.Bools.{ask, T_true, true_T, eqb_same}
use Rattle.laws.specs.Search.{least, Least, none_is, one_is, least_from_is}
use Rattle.layout.specs.declared.shape.Shape.{Shape}
use Rattle.layout.specs.Mate.{mate}
use Rattle.euler.specs.Queries.{faces_in}
use Rattle.euler.specs.Exec.{links_after, points_after}
use Rattle.layout.specs.Fields.{Solid, Outer, Face, Loop, Next}
use Rattle.layout.specs.Items.{is_ring}
use Rattle.sound_tables.specs.Sound.{In, HalfUsed, side}
use Rattle.sound_tables.specs.Good.{Good, own, marked}
use Rattle.sound_operators.specs.Theorems.{all_hold}
use Rattle.sound_spurs.specs.KevAccepted.{kev_accepted}
use Rattle.sound_bridges.specs.KemrAccepted.{kemr_accepted}
use Rattle.sound_cuts.specs.KefAccepted.{kef_points}
use Rattle.takedown.specs.Inversion.{solid_at, free_face, free_loop, edges_left, of_solid, in_ring, ring_half}
use Rattle.takedown.specs.Inversion.{spur_half}
use Rattle.takedown.specs.Inversion.{crossed, is_crossed, crossed_half, kev, kef, kemr, mfkrh}
use Rattle.inversion.specs.OfSolid.{both, joint, Of, of_solid_lem, solid_of, one_loop}
use Rattle.inversion.specs.KevLaws.{kev_law}
use Rattle.inversion.specs.KefLaws.{place_accepted}
use Rattle.inversion.specs.TurnSpur.{found as spur-found}
use Rattle.inversion.specs.TurnCross.{found as cross-found, span}
use Rattle.inversion.specs.TurnRing.{found as ring-found, ring_face, same_face, good₁, place₁, face₂}
use Rattle.inversion.specs.Uncrossed.{Parted, uncrossed_parts, parts_uncrossed}
use Rattle.inversion.specs.Gone.{Goes, kev_goes, kev_loop, kev_outer, kemr_goes, ring_goes, ring_loop, ring_outer}

-- the table after the ring turn
abbrev pub ring_left : Shape → List ℕ → List ℕ
ring_left sh x = links_after sh
    (links_after sh x (mfkrh (own sh x Loop (ring_half sh x (solid_at sh x))) (free_face sh x)))
    (kef (ring_half sh x (solid_at sh x)))

-- below the least none passes
pub least_before : (n : ℕ) (p : ℕ → Bool) (k : ℕ) → In n k → k < least n p → p k ≡ false
least_before n p k i h = go (least_from_is n 1 p)
  where
    go : Least n 1 p (least n p) → p k ≡ false
    go (none_is z f) = absurd (omega (arith, h, z))
    go (one_is l u t f) = f k i.0 h

-- what the test of a ring says, both ways
module _ {sh : Shape} {x : List ℕ} {p : List ℤ} (g : Good sh x p) {s : ℕ} (sn : s ≢ 0) where
  -- in a ring, the mate in another loop
  abbrev pub InRing : ℕ → Type 0
  InRing k = Of g sn k × (own sh x Outer (side (own sh x) k) ≢ own sh x Loop k)
      × (own sh x Loop (mate k) ≢ own sh x Loop k)

  pub in_ring_lem : (k : ℕ) → In (2 * sh.edges) k → in_ring sh x s k ≡ true → InRing k
  in_ring_lem k i t =
      let a = both (of_solid sh x s k && is_ring sh x (own sh x Loop k))
      (not (eqb (own sh x Loop (mate k)) (own sh x Loop k))) t in
      let b = both (of_solid sh x s k) (is_ring sh x (own sh x Loop k)) a.0 in (
        of_solid_lem g sn k i b.0,
        λ e. T_not (eqb (own sh x Outer (side (own sh x) k)) (own sh x Loop k)) (true_T b.1) (true_T (eqb_same e)),
        λ e. T_not (eqb (own sh x Loop (mate k)) (own sh x Loop k)) (true_T a.1) (true_T (eqb_same e)),
      )

  pub ring_in : (k : ℕ) → InRing k → in_ring sh x s k ≡ true
  ring_in k r = joint (of_solid sh x s k && is_ring sh x (own sh x Loop k))
      (not (eqb (own sh x Loop (mate k)) (own sh x Loop k)))
      (joint (of_solid sh x s k) (is_ring sh x (own sh x Loop k)) (solid_of g sn k r.0)
      (T_true (not_T (eqb (own sh x Outer (side (own sh x) k)) (own sh x Loop k)) (λ t. r.1 (eqb→eq _ _ t)))))
      (T_true (not_T (eqb (own sh x Loop (mate k)) (own sh x Loop k)) (λ t. r.2 (eqb→eq _ _ t))))

-- a test that fails and would pass only if another did
pub fails : (a b : Bool) → a ≡ false → (b ≡ true → a ≡ true) → b ≡ false
fails a b e f = ⊎_elim (λ t. absurd (false≢true (sym e ∙ f t))) (λ t. t) (ask b)

-- ---- kev

module _ {sh : Shape} {x : List ℕ} {p : List ℤ} (g : Good sh x p) (sn : solid_at sh x ≢ 0)
    (one : faces_in sh x (solid_at sh x) ≡ 1)
    (left : edges_left sh x (solid_at sh x) ≡ true) (none : ring_half sh x (solid_at sh x) ≡ 0)
    (spur : spur_half sh x (solid_at sh x) ≢ 0) where
  -- what the search found
  pub kev_half : HalfUsed sh (own sh x) (spur_half sh x (solid_at sh x))
  kev_half = (spur-found g sn one left none spur).0.0

  pub kev_next : own sh x Next (spur_half sh x (solid_at sh x)) ≡ mate (spur_half sh x (solid_at sh x))
  kev_next = (spur-found g sn one left none spur).1

  pub kev_good : Good sh (links_after sh x (kev (spur_half sh x (solid_at sh x))))
      (points_after sh x p (kev (spur_half sh x (solid_at sh x))))
  kev_good = (all_hold sh x p (kev (spur_half sh x (solid_at sh x))) g refl
      (kev_accepted (marked g) kev_half kev_next)).0

  pub kev_goes_on : Goes sh x (links_after sh x (kev (spur_half sh x (solid_at sh x)))) (spur_half sh x (solid_at sh x))
  kev_goes_on = kev_goes g kev_half kev_next

  loop_same : (i : ℕ) → HalfUsed sh (own sh (links_after sh x (kev (spur_half sh x (solid_at sh x))))) i
      → own sh (links_after sh x (kev (spur_half sh x (solid_at sh x)))) Loop i ≡ own sh x Loop i
  loop_same = kev_loop g kev_half kev_next

  outer_same : (n : ℕ) → In sh.faces n → own sh (links_after sh x (kev (spur_half sh x (solid_at sh x)))) Outer n
      ≡ own sh x Outer n
  outer_same = kev_outer g kev_half kev_next

  face_same : (n : ℕ) → In sh.loops n → own sh (links_after sh x (kev (spur_half sh x (solid_at sh x)))) Face n
      ≡ own sh x Face n
  face_same = (kev_law g kev_half kev_next).face

  -- none of a ring has its mate in another loop afterwards, as none had
  pub kev_ring : (i : ℕ) → In (2 * sh.edges) i → in_ring sh x (solid_at sh x) i ≡ false
      → in_ring sh (links_after sh x (kev (spur_half sh x (solid_at sh x)))) (solid_at sh x) i ≡ false
  kev_ring i j f = fails (in_ring sh x (solid_at sh x) i) _ f (λ t.
      let r = in_ring_lem kev_good sn i j t in
      let G = kev_goes_on in
      let c = G.edge.used i r.0.0 in
      let h = g.sound.half i j c.0.2 in
      let S = g.sound.solids.side_in_lem i c.0 in
      let e = loop_same i r.0.0 in
      let ef = ap (own sh (links_after sh x (kev (spur_half sh x (solid_at sh x)))) Face) e
      ∙ face_same (own sh x Loop i) h.loop_in in
      let em = loop_same (mate i) (kev_good.sound.rules.mate_in i r.0.0) in
      ring_in g sn i (
        (c.0, sym (G.of i r.0.0) ∙ r.0.1),
        λ q. r.1 (ap (own sh (links_after sh x (kev (spur_half sh x (solid_at sh x)))) Outer) ef
            ∙ outer_same (side (own sh x) i) (S.0, S.1) ∙ q ∙ sym e),
        λ q. r.2 (em ∙ q ∙ sym e),
      ))

-- ---- crossed or not

module _ {sh : Shape} {x : List ℕ} {p : List ℤ} (g : Good sh x p) {s : ℕ} (sn : s ≢ 0) (one : faces_in sh x s ≡ 1)
    (none : ring_half sh x s ≡ 0) where
  -- a half-edge of the solid is uncrossed just where it parts the others
  pub parted_of : (i : ℕ) → In (2 * sh.edges) i → of_solid sh x s i ≡ true → crossed sh x i ≡ false
      → Parted sh (own sh x) i
  parted_of i j t f = let u = of_solid_lem g sn i j t in uncrossed_parts g u.0 (one_loop g sn one none i u) f

  pub uncrossed_of : (i : ℕ) → In (2 * sh.edges) i → (of_solid sh x s i ≡ true → Parted sh (own sh x) i)
      → is_crossed sh x s i ≡ false
  uncrossed_of i j f = ⊎_elim
      (λ t.
      let u = of_solid_lem g sn i j t in
      let c = parts_uncrossed g u.0 (one_loop g sn one none i u)
      (λ m v e. one_loop g sn one none m (v, ap (λ l. own sh x Solid (own sh x Face l)) e ∙ u.1)) (f t) in
      fails false (is_crossed sh x s i) refl (λ b. sym c ∙ (both (of_solid sh x s i) (crossed sh x i) b).1))
      (λ t. fails (of_solid sh x s i) (is_crossed sh x s i) t (λ b. (both (of_solid sh x s i) (crossed sh x i) b).0))
      (ask (of_solid sh x s i))

-- ---- kemr

module _ {sh : Shape} {x : List ℕ} {p : List ℤ} (g : Good sh x p) (free : free_loop sh x ≢ 0) (sn : solid_at sh x ≢ 0)
    (one : faces_in sh x (solid_at sh x) ≡ 1)
    (left : edges_left sh x (solid_at sh x) ≡ true) (none : ring_half sh x (solid_at sh x) ≡ 0)
    (no-spur : spur_half sh x (solid_at sh x) ≡ 0) where
  pub kemr_half : HalfUsed sh (own sh x) (crossed_half sh x (solid_at sh x))
  kemr_half = (cross-found g free sn one left none no-spur).0.0

  pub kemr_good : Good sh (links_after sh x (kemr (crossed_half sh x (solid_at sh x)) (free_loop sh x)))
      (points_after sh x p (kemr (crossed_half sh x (solid_at sh x)) (free_loop sh x)))
  kemr_good = (all_hold sh x p (kemr (crossed_half sh x (solid_at sh x)) (free_loop sh x)) g refl
      (kemr_accepted sh x g.capacities (span g free sn one left none no-spur))).0

  pub kemr_goes_on : Goes sh x (links_after sh x (kemr (crossed_half sh x (solid_at sh x)) (free_loop sh x)))
      (crossed_half sh x (solid_at sh x))
  kemr_goes_on = let o = span g free sn one left none no-spur in
      kemr_goes g o

-- ---- mfkrh and kef

module _ {sh : Shape} {x : List ℕ} {p : List ℤ} (g : Good sh x p) (free : free_face sh x ≢ 0) (sn : solid_at sh x ≢ 0)
    (one : faces_in sh x (solid_at sh x) ≡ 1)
    (left : edges_left sh x (solid_at sh x) ≡ true) (some : ring_half sh x (solid_at sh x) ≢ 0) where
  pub ring_of : Of g sn (ring_half sh x (solid_at sh x))
  ring_of = (ring-found g free sn one left some).0

  pub ring_half_lem : HalfUsed sh (own sh x) (ring_half sh x (solid_at sh x))
  ring_half_lem = (ring-found g free sn one left some).0.0

  -- the mate lies in another loop
  pub ring_apart : own sh x Loop (mate (ring_half sh x (solid_at sh x)))
      ≢ own sh x Loop (ring_half sh x (solid_at sh x))
  ring_apart = (ring-found g free sn one left some).2

  pub ring_good : Good sh (ring_left sh x) p
  ring_good =
      let F = ring_face g free sn one left some in
      let S = same_face g free sn one left some in
      subst (Good sh (ring_left sh x)) (kef_points sh _ p (ring_half sh x (solid_at sh x)))
      (all_hold sh _ p (kef (ring_half sh x (solid_at sh x))) (good₁ g ring_half_lem refl ring_apart S F) refl
      (place_accepted (good₁ g ring_half_lem refl ring_apart S F) (place₁ g ring_half_lem refl ring_apart S F))).0

  pub ring_goes_on : Goes sh x (ring_left sh x) (ring_half sh x (solid_at sh x))
  ring_goes_on = ring_goes g ring_half_lem refl ring_apart (same_face g free sn one left some)
      (ring_face g free sn one left some)

  -- what becomes of a loop's name
  pub named : (i : ℕ) → HalfUsed sh (own sh (ring_left sh x)) i
      → ((own sh x Loop i ≡ own sh x Loop (ring_half sh x (solid_at sh x)))
      × (own sh (ring_left sh x) Loop i ≡ own sh x Loop (mate (ring_half sh x (solid_at sh x)))))
      ⊎ ((own sh x Loop i ≢ own sh x Loop (ring_half sh x (solid_at sh x)))
      × (own sh (ring_left sh x) Loop i ≡ own sh x Loop i))
  named = ring_loop g ring_half_lem refl ring_apart (same_face g free sn one left some)
      (ring_face g free sn one left some)

  -- two of one name have one name
  pub name_same : (i j : ℕ) → HalfUsed sh (own sh (ring_left sh x)) i → HalfUsed sh (own sh (ring_left sh x)) j
      → own sh x Loop i ≡ own sh x Loop j → own sh (ring_left sh x) Loop i ≡ own sh (ring_left sh x) Loop j
  name_same i j u v e = ⊎_elim
      (λ a. ⊎_elim (λ b. a.1 ∙ sym b.1) (λ b. absurd (b.0 (sym e ∙ a.0))) (named j v))
      (λ a. ⊎_elim (λ b. absurd (a.0 (e ∙ b.0))) (λ b. a.1 ∙ e ∙ sym b.1) (named j v))
      (named i u)

  -- none of a ring that had its mate in its loop, or was in no ring, is one with its mate elsewhere
  pub ring_keeps : (i : ℕ) → In (2 * sh.edges) i → in_ring sh x (solid_at sh x) i ≡ false
      → in_ring sh (ring_left sh x) (solid_at sh x) i ≡ false
  ring_keeps i j f = fails (in_ring sh x (solid_at sh x) i) _ f (λ t.
      let r = in_ring_lem ring_good sn i j t in
      let G = ring_goes_on in
      let c = G.edge.used i r.0.0 in
      ring_in g sn i (
        (c.0, sym (G.of i r.0.0) ∙ r.0.1),
        ⊎_elim
            (λ a q. (ring-found g free sn one left some).1 (ap (λ l. own sh x Outer (own sh x Face l)) (sym a.0) ∙ q
            ∙ a.0))
            (λ a q. r.1 (outer i c a ∙ q ∙ sym a.1))
            (named i r.0.0),
        λ q. r.2 (name_same (mate i) i (ring_good.sound.rules.mate_in i r.0.0) r.0.0 q),
      ))
    where
      outer : (i : ℕ) → HalfUsed sh (own sh x) i × (i ≢ ring_half sh x (solid_at sh x))
          × (i ≢ mate (ring_half sh x (solid_at sh x)))
          → (own sh x Loop i ≢ own sh x Loop (ring_half sh x (solid_at sh x)))
          × (own sh (ring_left sh x) Loop i ≡ own sh x Loop i)
          → own sh (ring_left sh x) Outer (side (own sh (ring_left sh x)) i) ≡ own sh x Outer (side (own sh x) i)
      outer i c a =
          let F = ring_face g free sn one left some in
          let S = same_face g free sn one left some in
          let h = g.sound.half i (c.0.0, c.0.1) c.0.2 in
          let w = g.sound.solids.side_in_lem i c.0 in
          ap (own sh (ring_left sh x) Outer) (ap (own sh (ring_left sh x) Face) a.1
          ∙ face₂ g ring_half_lem refl ring_apart S F (own sh x Loop i) h.loop_in a.0)
          ∙ ring_outer g ring_half_lem refl ring_apart S F (side (own sh x) i) (
            w.0,
            w.1,
          ) (λ e. w.2 (ap (own sh x Solid) e ∙ F.face_free))
