-- After kemr the edges lie in one loop each, but those that lead from the new ring to the rest of the old loop; the
-- ring turn joins the two again.
use Rattle.std.specs.Prelude.{◌≡◌, ◌≢◌, ◌⊎◌, true, false, List, ℕ, ◌*◌, ◌<◌, ℤ}
use Rattle.std.proofs.Common.{sym, ◌∙◌, inl, inr, ⊎_elim}
use Rattle.laws.specs.Bools.{ask}
use Rattle.laws.specs.Permutations.{iter}
use Rattle.layout.specs.declared.shape.Shape.{Shape}
use Rattle.layout.specs.Mate.{mate}
use Rattle.euler.specs.Queries.{faces_in}
use Rattle.euler.specs.Exec.{links_after}
use Rattle.layout.specs.Fields.{Loop, Next}
use Rattle.sound_tables.specs.Sound.{In, HalfUsed}
use Rattle.sound_tables.specs.Names.{loop_unnamed}
use Rattle.sound_tables.specs.Good.{Good, own}
use Rattle.sound_bridges.specs.Runs.{met?}
use Rattle.sound_bridges.specs.KemrColumns.{walk}
use Rattle.takedown.specs.Inversion.{solid_at, free_face, free_loop, edges_left, in_ring, ring_half, spur_half}
use Rattle.takedown.specs.Inversion.{crossed_half}
use Rattle.takedown.specs.Inversion.{kemr}
use Rattle.inversion.specs.OfSolid.{one_loop}
use Rattle.inversion.specs.KemrTurn.{rest_loop}
use Rattle.inversion.specs.TurnCross.{span}
use Rattle.inversion.specs.Gone.{kemr_loop}
use Rattle.inversion.specs.SwiftKept.{Spans}
use Rattle.inversion.specs.TurnsB.{ring_left, in_ring_lem, kemr_goes_on, ring_good, ring_goes_on, ring_apart, ring_of}
use Rattle.inversion.specs.TurnsB.{InRing, named, name_same}

module _ {sh : Shape} {x : List ℕ} {p : List ℤ} (g : Good sh x p) (free : free_loop sh x ≢ 0) (sn : solid_at sh x ≢ 0)
    (one : faces_in sh x (solid_at sh x) ≡ 1)
    (left : edges_left sh x (solid_at sh x) ≡ true) (none : ring_half sh x (solid_at sh x) ≡ 0)
    (no-spur : spur_half sh x (solid_at sh x) ≡ 0) where
  -- a half-edge names its loop, or the new ring
  ring_name : (i : ℕ)
      → HalfUsed sh (own sh (links_after sh x (kemr (crossed_half sh x (solid_at sh x)) (free_loop sh x)))) i
      → (own sh (links_after sh x (kemr (crossed_half sh x (solid_at sh x)) (free_loop sh x))) Loop i ≡ own sh x Loop i)
      ⊎ ((own sh (links_after sh x (kemr (crossed_half sh x (solid_at sh x)) (free_loop sh x))) Loop i ≡ free_loop sh x)
      × (own sh x Loop i ≡ own sh x Loop (crossed_half sh x (solid_at sh x))))
  ring_name = kemr_loop g (span g free sn one left none no-spur)

  pub kemr_spans : {q : List ℤ}
      → Good sh (links_after sh x (kemr (crossed_half sh x (solid_at sh x)) (free_loop sh x))) q
      → Spans sh (links_after sh x (kemr (crossed_half sh x (solid_at sh x)) (free_loop sh x))) (solid_at sh x)
      (free_loop sh
      x) (own sh x Loop (crossed_half sh x (solid_at sh x)))
  kemr_spans gz i u t =
      let G = kemr_goes_on g free sn one left none no-spur in
      let c = G.edge.used i u in
      let e = one_loop g sn one none i (c.0, sym (G.of i u) ∙ t) in
      let m = ring_name (mate i) (gz.sound.rules.mate_in i u) in
      ⊎_elim
      (λ a. ⊎_elim (λ b. inl (b ∙ e ∙ sym a)) (λ b. inr (inr (a ∙ sym e ∙ b.1, b.0))) m)
      (λ a. ⊎_elim (λ b. inr (inl (a.0, b ∙ e ∙ a.1))) (λ b. inl (b.0 ∙ sym a.0)) m)
      (ring_name i u)

  -- what names the new ring was met on the walk from k to its mate
  pub kemr_from : (i : ℕ)
      → HalfUsed sh (own sh (links_after sh x (kemr (crossed_half sh x (solid_at sh x)) (free_loop sh x)))) i
      → own sh (links_after sh x (kemr (crossed_half sh x (solid_at sh x)) (free_loop sh x))) Loop i ≡ free_loop sh x
      → (t : ℕ) × (t < (walk g.sound (span g free sn one left none no-spur)).0)
      × (iter (own sh x Next) t (own sh x Next (crossed_half sh x (solid_at sh x))) ≡ i)
  kemr_from i u e =
      let o = span g free sn one left none no-spur in
      let c = (kemr_goes_on g free sn one left none no-spur).edge.used i u in
      ⊎_elim (λ m. m)
      (λ m. absurd (loop_unnamed g.sound (free_loop sh x) o.ring_in o.free i (u.0, u.1)
      (sym (rest_loop g o i m (u.0, u.1) c.1 c.2) ∙ e)))
      (met? (own sh x Next) (walk g.sound o).0 (own sh x Next (crossed_half sh x (solid_at sh x))) i)

-- ---- the ring turn behind it

module _ {sh : Shape} {x : List ℕ} {p : List ℤ} (g : Good sh x p) (free : free_face sh x ≢ 0) (sn : solid_at sh x ≢ 0)
    (one : faces_in sh x (solid_at sh x) ≡ 1)
    (left : edges_left sh x (solid_at sh x) ≡ true) (some : ring_half sh x (solid_at sh x) ≢ 0) where
  pub spans_none : {a b : ℕ} → Spans sh x (solid_at sh x) a b → (i : ℕ) → In (2 * sh.edges) i
      → in_ring sh (ring_left sh x) (solid_at sh x) i ≡ false
  spans_none {a} {b} S i j = ⊎_elim (λ t. absurd (clash (in_ring_lem gy sn i j t))) (λ t. t)
      (ask (in_ring sh (ring_left sh x) (solid_at sh x) i))
    where
      gy : Good sh (ring_left sh x) p
      gy = ring_good g free sn one left some

      -- each of the two loops is now named as that of k's mate
      to : (n : ℕ) → HalfUsed sh (own sh (ring_left sh x)) n
          → (own sh x Loop n ≡ own sh x Loop (ring_half sh x (solid_at sh x)))
          ⊎ (own sh x Loop n ≡ own sh x Loop (mate (ring_half sh x (solid_at sh x))))
          → own sh (ring_left sh x) Loop n ≡ own sh x Loop (mate (ring_half sh x (solid_at sh x)))
      to n u (inl e) = ⊎_elim (λ a. a.1) (λ a. absurd (a.0 e)) (named g free sn one left some n u)
      to n u (inr e) = ⊎_elim (λ a. a.1) (λ a. a.1 ∙ e) (named g free sn one left some n u)

      -- a and b are those of k and its mate
      ends : (n : ℕ) → (n ≡ a) ⊎ (n ≡ b) → (n ≡ own sh x Loop (ring_half sh x (solid_at sh x)))
          ⊎ (n ≡ own sh x Loop (mate (ring_half sh x (solid_at sh x))))
      ends n q = ⊎_elim (λ e. absurd (ring_apart g free sn one left some e))
          (⊎_elim (λ e. ⊎_elim (λ z. inl (z ∙ sym e.0)) (λ z. inr (z ∙ sym e.1)) q)
          (λ e. ⊎_elim (λ z. inr (z ∙ sym e.1)) (λ z. inl (z ∙ sym e.0)) q))
          (S (ring_half sh x (solid_at sh x)) (ring_of g free sn one left some).0 (ring_of g free sn one left some).1)

      clash : InRing gy sn i → ⊥
      clash r =
          let G = ring_goes_on g free sn one left some in
          let c = G.edge.used i r.0.0 in
          let um = gy.sound.rules.mate_in i r.0.0 in
          let both : ((own sh x Loop i ≡ a) ⊎ (own sh x Loop i ≡ b)) → ((own sh x Loop (mate i) ≡ a)
          ⊎ (own sh x Loop (mate i) ≡ b)) → ⊥ =
          λ e f. r.2 (to (mate i) um (ends (own sh x Loop (mate i)) f)
          ∙ sym (to i r.0.0 (ends (own sh x Loop i) e))) in
          ⊎_elim (λ e. r.2 (name_same g free sn one left some (mate i) i um r.0.0 e))
          (⊎_elim (λ e. both (inl e.0) (inr e.1)) (λ e. both (inr e.0) (inl e.1)))
          (S i c.0 (sym (G.of i r.0.0) ∙ r.0.1))
