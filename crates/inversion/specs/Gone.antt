-- B's turns, each of which takes an edge out of the solid at hand: which half-edges are left, what they are followed
-- by, and that they stay in their solid.
use Rattle.std.specs.Prelude.{◌≡◌, refl, ◌≢◌, ◌⊎◌, Bool, true, false, List, ℕ, ◌*◌, eqb, ℤ}
use Rattle.std.proofs.Common.{sym, ap, ◌∙◌, inl, inr, ⊎_elim}
use Rattle.laws.specs.Bools.{pick, split}
use Rattle.laws.specs.Update.{upd, upd_at, upd_same, upd_off, relabel_at, relabel_off}
use Rattle.layout.specs.declared.shape.Shape.{Shape}
use Rattle.layout.specs.Mate.{mate}
use Rattle.euler.specs.Exec.{links_after}
use Rattle.layout.specs.Fields.{Columns, SolidUsed, Solid, Outer, Face, Start, Loop, Next, Prev, VertexUsed}
use Rattle.sound_tables.specs.Mates.{mate_other}
use Rattle.sound_tables.specs.EdgeIn.{next_prev}
use Rattle.sound_tables.specs.Sound.{In, HalfUsed, side}
use Rattle.sound_tables.specs.Cells.{Shows}
use Rattle.sound_tables.specs.WriteLaws.{with_column}
use Rattle.sound_tables.specs.Walking.{run_other}
use Rattle.sound_tables.specs.Good.{Good, own}
use Rattle.sound_spurs.specs.KevSound.{Left, kev_columns}
use Rattle.sound_bridges.specs.KemrColumns.{Span, walk}
use Rattle.sound_cuts.specs.KefPlace.{spot_at}
use Rattle.sound_cuts.specs.Relation.{tie_p, tie_n, tie_p', tie_n'}
use Rattle.sound_holes.specs.MfkrhSound.{RingFace}
use Rattle.takedown.specs.Inversion.{mfkrh, kef, kev, kemr}
use Rattle.inversion.specs.KevLaws.{kev_law, kev_shown}
use Rattle.inversion.specs.KefLaws.{kef_shown, kef_law}
use Rattle.inversion.specs.KemrTurn.{v as kemr-shown, b as kemr-bridged, mark_same, solid_same, face_same}
use Rattle.inversion.specs.KemrTurn.{face_new, start_kept}
use Rattle.inversion.specs.TurnRing.{ring_shows, good₁, place₁, mark₁, solid₂, face₂, loop₁, start₁}
use Rattle.inversion.specs.Uncrossed.{EdgeGone}

-- the edge of h goes from the table x, which leaves the table y; solids and faces stay
pub record Goes (sh : Shape) (x y : List ℕ) (h : ℕ) : Type 0 where
  pub edge : EdgeGone sh (own sh x) (own sh y) h
  pub mark : (n : ℕ) → In sh.solids n → own sh y SolidUsed n ≡ own sh x SolidUsed n
  pub solid : (n : ℕ) → In sh.faces n → own sh y Solid n ≡ own sh x Solid n
  pub of : (i : ℕ) → HalfUsed sh (own sh y) i → own sh y Solid (side (own sh y) i) ≡ own sh x Solid (side (own sh x) i)

-- ---- kev

module _ {sh : Shape} {x : List ℕ} {p : List ℤ} (g : Good sh x p) {k : ℕ} (uk : HalfUsed sh (own sh x) k)
    (nk : own sh x Next k ≡ mate k) where
  used : (i : ℕ) → HalfUsed sh (own sh (links_after sh x (kev k))) i → HalfUsed sh (own sh x) i × (i ≢ k) × (i ≢ mate k)
  used i w = let c = kev_law g uk nk in (
    (w.0, w.1, λ z. w.2 (c.start_kept i (w.0, w.1) z)),
    λ e. w.2 (ap (own sh (links_after sh x (kev k)) Start) e
        ∙ c.gone_k),
    λ e. w.2 (ap (own sh (links_after sh x (kev k)) Start) e ∙ c.gone_b),
  )

  module _ {I : ℕ} (left : Left (own sh x) k I) where
    v : Shows sh (links_after sh x (kev k)) (with_column (kev_columns sh (own sh x) k I) VertexUsed
        (own sh (links_after sh x (kev k)) VertexUsed))
    v = kev_shown g uk nk left

    loop_at : (i : ℕ) → HalfUsed sh (own sh (links_after sh x (kev k))) i
        → own sh (links_after sh x (kev k)) Loop i ≡ own sh x Loop i
    loop_at i w = let u = used i w in v.at Loop i w.1 ∙ upd_off _ 0 u.2 ∙ upd_off _ 0 u.1

    outer_at : (n : ℕ) → In sh.faces n → own sh (links_after sh x (kev k)) Outer n ≡ own sh x Outer n
    outer_at n i = v.at Outer n i.1

    goes_at : Goes sh x (links_after sh x (kev k)) k
    goes_at =
        let c = kev_law g uk nk in
        record {
          edge = record {
            half = uk;
            used = used;
            next = λ i w.
                let u = used i w in
                let e = v.at Next i w.1 ∙ upd_off _ 0 u.2 ∙ upd_off _ 0 u.1 ∙ upd_off _ (mate k) u.1 in
                split i (own sh x Prev k)
                (λ q. inr (
                  inl (ap (own sh x Next) q ∙ next_prev g.sound.rules k uk),
                  inr (e ∙ upd_at (own sh x Next) (own sh x Next (mate k)) q),
                ))
                (λ q. inl (e ∙ upd_off (own sh x Next) (own sh x Next (mate k)) q));
          };
          mark = c.mark;
          solid = c.solid;
          of = λ i w.
              let u = used i w in
              let h = g.sound.half i (w.0, w.1) u.0.2 in
              let s = g.sound.solids.side_in_lem i u.0 in
              ap (λ l. own sh (links_after sh x (kev k)) Solid (own sh (links_after sh x (kev k)) Face l)) (loop_at i w)
              ∙ ap (own sh (links_after sh x (kev k)) Solid) (c.face (own sh x Loop i) h.loop_in)
              ∙ c.solid (side (own sh x) i) (s.0, s.1);
        }

  -- whichever way the loop is left
  pub kev_goes : Goes sh x (links_after sh x (kev k)) k
  kev_goes = split (own sh x Next (mate k)) k (λ e. goes_at {I = own sh x Start k} (inl (e, refl)))
      (λ d. goes_at {I = 0} (inr (d, refl)))

  pub kev_loop : (i : ℕ) → HalfUsed sh (own sh (links_after sh x (kev k))) i
      → own sh (links_after sh x (kev k)) Loop i ≡ own sh x Loop i
  kev_loop = split (own sh x Next (mate k)) k (λ e. loop_at {I = own sh x Start k} (inl (e, refl)))
      (λ d. loop_at {I = 0} (inr (d, refl)))

  pub kev_outer : (n : ℕ) → In sh.faces n → own sh (links_after sh x (kev k)) Outer n ≡ own sh x Outer n
  kev_outer = split (own sh x Next (mate k)) k (λ e. outer_at {I = own sh x Start k} (inl (e, refl)))
      (λ d. outer_at {I = 0} (inr (d, refl)))

-- ---- kemr

module _ {sh : Shape} {x : List ℕ} {p : List ℤ} (g : Good sh x p) {k l2 : ℕ} (o : Span sh (own sh x) k l2) where
  used₂ : (i : ℕ) → HalfUsed sh (own sh (links_after sh x (kemr k l2))) i
      → HalfUsed sh (own sh x) i × (i ≢ k) × (i ≢ mate k)
  used₂ i w =
      let b = kemr-bridged g o in
      let v = kemr-shown g o in (
        (w.0, w.1, λ q. w.2 (start_kept g o i (w.0, w.1) q)),
        λ e. w.2 (ap (own sh (links_after sh x (kemr k l2)) Start) e ∙ v.at Start k o.half.1 ∙ b.ends.zero_k.s),
        λ e. w.2 (ap (own sh (links_after sh x (kemr k l2)) Start) e
            ∙ v.at Start (mate k) (g.sound.rules.mate_in k o.half).1 ∙ b.ends.zero_a.s),
      )

  -- a half-edge names its loop or the new ring, and then its loop was that of k
  pub kemr_loop : (i : ℕ) → HalfUsed sh (own sh (links_after sh x (kemr k l2))) i
      → (own sh (links_after sh x (kemr k l2)) Loop i ≡ own sh x Loop i)
      ⊎ ((own sh (links_after sh x (kemr k l2)) Loop i ≡ l2) × (own sh x Loop i ≡ own sh x Loop k))
  kemr_loop i w =
      let b = kemr-bridged g o in
      let e = (kemr-shown g o).at Loop i w.1 in
      let u = used₂ i w in
      split (own sh (links_after sh x (kemr k l2)) Loop i) l2
      (λ q. inr (q, b.loop_2 i (w.0, w.1) (sym e ∙ q)))
      (λ q. inl (e ∙ sym (b.loop_o i u.1 u.2 (λ d. q (e ∙ d)))))

  pub kemr_goes : Goes sh x (links_after sh x (kemr k l2)) k
  kemr_goes = record {
    edge = record {
      half = o.half;
      used = used₂;
      next = λ i w.
          let A = g.sound in
          let u = used₂ i w in
          let e = (kemr-shown g o).at Next i w.1 ∙ upd_off _ 0 u.2 ∙ upd_off _ 0 u.1 in
          split i (own sh x Prev (mate k))
          (λ q. inr (
            inr (ap (own sh x Next) q ∙ next_prev A.rules (mate k) (A.rules.mate_in k o.half)),
            inl (e ∙ upd_at _ (own sh x Next k) q),
          ))
          (λ q. split i (own sh x Prev k)
          (λ d. inr (
            inl (ap (own sh x Next) d ∙ next_prev A.rules k o.half),
            inr (e ∙ upd_off _ (own sh x Next k) q ∙ upd_at _ (own sh x Next (mate k)) d),
          ))
          (λ d. inl (e ∙ upd_off _ (own sh x Next k) q ∙ upd_off _ (own sh x Next (mate k)) d
          ∙ run_other (own sh x) (walk A o).0 (own sh x Next k) l2 Next refl i)));
    };
    mark = mark_same g o;
    solid = solid_same g o;
    of = λ i w.
        let u = used₂ i w in
        let h = g.sound.half i (w.0, w.1) u.0.2 in
        let s = g.sound.solids.side_in_lem i u.0 in
        ap (own sh (links_after sh x (kemr k l2)) Solid) (faces i w h.loop_in h.loop_used)
        ∙ solid_same g o (side (own sh x) i) (s.0, s.1);
  }
    where
      faces : (i : ℕ) → HalfUsed sh (own sh (links_after sh x (kemr k l2))) i → In sh.loops (own sh x Loop i)
          → own sh x Face (own sh x Loop i) ≢ 0 → side (own sh (links_after sh x (kemr k l2))) i ≡ side (own sh x) i
      faces i w j d = ⊎_elim
          (λ e. ap (own sh (links_after sh x (kemr k l2)) Face) e
          ∙ face_same g o (own sh x Loop i) j (λ q. d (ap (own sh x Face) q ∙ o.free)))
          (λ e. ap (own sh (links_after sh x (kemr k l2)) Face) e.0 ∙ face_new g o ∙ ap (own sh x Face) (sym e.1))
          (kemr_loop i w)

-- ---- kef

-- what kef ties: p, before one half, to n, after one half
mend_next : (c : Columns) (k i n : ℕ) → c Next (c Prev k) ≡ k → c Next (c Prev (mate k)) ≡ mate k
    → n ≡ upd (upd (c Next) (tie_p (spot_at c k)) (tie_n (spot_at c k))) (tie_p' (spot_at c k)) (tie_n' (spot_at c k)) i
    → (n ≡ c Next i) ⊎ (((c Next i ≡ k) ⊎ (c Next i ≡ mate k)) × ((n ≡ c Next k) ⊎ (n ≡ c Next (mate k))))
mend_next c k i n pk pm e =
    split i (tie_p' (spot_at c k))
    (λ q. inr (
      before' (eqb (c Next k) k) q,
      after' (eqb (c Next (mate k)) (mate k)) (e
          ∙ upd_at _ (tie_n' (spot_at c k)) q),
    ))
    (λ q. split i (tie_p (spot_at c k))
    (λ d. inr (
      before (eqb (c Next (mate k)) (mate k)) d,
      after (eqb (c Next k) k) (e ∙ upd_off _ (tie_n' (spot_at c k)) q
          ∙ upd_at _ (tie_n (spot_at c k)) d),
    ))
    (λ d. inl (e ∙ upd_off _ (tie_n' (spot_at c k)) q ∙ upd_off _ (tie_n (spot_at c k)) d)))
  where
    before : (t : Bool) → i ≡ pick t (c Prev k) (c Prev (mate k)) → (c Next i ≡ k) ⊎ (c Next i ≡ mate k)
    before true q = inl (ap (c Next) q ∙ pk)
    before false q = inr (ap (c Next) q ∙ pm)

    before' : (t : Bool) → i ≡ pick t (c Prev (mate k)) (c Prev k) → (c Next i ≡ k) ⊎ (c Next i ≡ mate k)
    before' true q = inr (ap (c Next) q ∙ pm)
    before' false q = inl (ap (c Next) q ∙ pk)

    after : (t : Bool) → n ≡ pick t (c Next (mate k)) (c Next k) → (n ≡ c Next k) ⊎ (n ≡ c Next (mate k))
    after true q = inr q
    after false q = inl q

    after' : (t : Bool) → n ≡ pick t (c Next k) (c Next (mate k)) → (n ≡ c Next k) ⊎ (n ≡ c Next (mate k))
    after' true q = inl q
    after' false q = inr q

-- ---- mfkrh and kef

module _ {sh : Shape} {x : List ℕ} {p : List ℤ} (g : Good sh x p) {k l f f₀ s : ℕ} (u : HalfUsed sh (own sh x) k)
    (kl : own sh x Loop k ≡ l) (ml : own sh x Loop (mate k) ≢ l)
    (mf : side (own sh x) (mate k) ≡ f₀) (r : RingFace sh (own sh x) l f f₀ s) where
  um : HalfUsed sh (own sh x) (mate k)
  um = g.sound.rules.mate_in k u

  used₃ : (i : ℕ) → HalfUsed sh (own sh (links_after sh (links_after sh x (mfkrh l f)) (kef k))) i
      → HalfUsed sh (own sh x) i × (i ≢ k) × (i ≢ mate k)
  used₃ i w =
      let v = kef_shown (good₁ g u kl ml mf r) (place₁ g u kl ml mf r) in
      let c = kef_law (good₁ g u kl ml mf r) (place₁ g u kl ml mf r) in (
        (w.0, w.1, λ z. w.2 (c.start_kept i (w.0, w.1) (start₁ g u kl ml mf r i (w.0, w.1) ∙ z))),
        λ e. w.2 (v.at Start i w.1 ∙ upd_at _ 0 e),
        λ e. w.2 (v.at Start i w.1 ∙ upd_off _ 0 (λ q. mate_other k u.0 (sym q ∙ e)) ∙ upd_at _ 0 e),
      )

  next₁ : (j : ℕ) → In (2 * sh.edges) j → own sh (links_after sh x (mfkrh l f)) Next j ≡ own sh x Next j
  next₁ j t = (ring_shows g u kl ml mf r).at Next j t.1

  -- what named the ring names the loop of k's mate
  pub ring_loop : (i : ℕ) → HalfUsed sh (own sh (links_after sh (links_after sh x (mfkrh l f)) (kef k))) i
      → ((own sh x Loop i ≡ l) × (own sh (links_after sh (links_after sh x (mfkrh l f)) (kef k)) Loop i
      ≡ own sh x Loop (mate k)))
      ⊎ ((own sh x Loop i ≢ l) × (own sh (links_after sh (links_after sh x (mfkrh l f)) (kef k)) Loop i
      ≡ own sh x Loop i))
  ring_loop i w =
      let v = kef_shown (good₁ g u kl ml mf r) (place₁ g u kl ml mf r) in
      let q = used₃ i w in
      let e = v.at Loop i w.1 ∙ upd_off _ 0 q.1 ∙ upd_off _ 0 q.2 in
      let li = loop₁ g u kl ml mf r i (w.0, w.1) in
      let lk = loop₁ g u kl ml mf r k (u.0, u.1) ∙ kl in
      let lm = loop₁ g u kl ml mf r (mate k) (um.0, um.1) in
      split (own sh x Loop i) l
      (λ d. inl (d, e ∙ relabel_at (own sh (links_after sh x (mfkrh l f)) Loop) _ _ (li ∙ d ∙ sym lk) ∙ lm))
      (λ d. inr (d, e ∙ relabel_off (own sh (links_after sh x (mfkrh l f)) Loop) _ _ (λ z. d (sym li ∙ z ∙ lk)) ∙ li))

  -- the outer loops stay
  pub ring_outer : (n : ℕ) → In sh.faces n → n ≢ f
      → own sh (links_after sh (links_after sh x (mfkrh l f)) (kef k)) Outer n ≡ own sh x Outer n
  ring_outer n i d =
      let v = kef_shown (good₁ g u kl ml mf r) (place₁ g u kl ml mf r) in
      v.at Outer n i.1 ∙ upd_off _ 0 (λ e. d (e ∙ face_k)) ∙ (ring_shows g u kl ml mf r).at Outer n i.1
      ∙ upd_off _ l d
    where
      face_k : side (own sh (links_after sh x (mfkrh l f))) k ≡ f
      face_k = ap (own sh (links_after sh x (mfkrh l f)) Face) (loop₁ g u kl ml mf r k (u.0, u.1) ∙ kl)
          ∙ (ring_shows g u kl ml mf r).at Face l r.loop_in.1 ∙ upd_same _ l f

  pub ring_goes : Goes sh x (links_after sh (links_after sh x (mfkrh l f)) (kef k)) k
  ring_goes = record {
    edge = record { half = u; used = used₃; next = next };
    mark = λ n i. (kef_law (good₁ g u kl ml mf r) (place₁ g u kl ml mf r)).mark n i ∙ mark₁ g u kl ml mf r n i;
    solid = solid₂ g u kl ml mf r;
    of = λ i w.
        let q = used₃ i w in
        let s = g.sound.solids.side_in_lem i q.0 in
        ap (own sh (links_after sh (links_after sh x (mfkrh l f)) (kef k)) Solid) (faces i w)
        ∙ solid₂ g u kl ml mf r (side (own sh x) i) (s.0, s.1);
  }
    where
      faces : (i : ℕ) → HalfUsed sh (own sh (links_after sh (links_after sh x (mfkrh l f)) (kef k))) i
          → side (own sh (links_after sh (links_after sh x (mfkrh l f)) (kef k))) i ≡ side (own sh x) i
      faces i w =
          let q = used₃ i w in
          let h = g.sound.half i (w.0, w.1) q.0.2 in
          let hm = g.sound.half (mate k) (um.0, um.1) um.2 in
          ⊎_elim
          (λ e. ap (own sh (links_after sh (links_after sh x (mfkrh l f)) (kef k)) Face) e.1
          ∙ face₂ g u kl ml mf r (own sh x Loop (mate k)) hm.loop_in ml ∙ mf ∙ sym r.loop_face
          ∙ ap (own sh x Face) (sym e.0))
          (λ e. ap (own sh (links_after sh (links_after sh x (mfkrh l f)) (kef k)) Face) e.1
          ∙ face₂ g u kl ml mf r (own sh x Loop i) h.loop_in e.0)
          (ring_loop i w)

      next : (i : ℕ) → HalfUsed sh (own sh (links_after sh (links_after sh x (mfkrh l f)) (kef k))) i
          → (own sh (links_after sh (links_after sh x (mfkrh l f)) (kef k)) Next i ≡ own sh x Next i)
          ⊎ (((own sh x Next i ≡ k) ⊎ (own sh x Next i ≡ mate k))
          × ((own sh (links_after sh (links_after sh x (mfkrh l f)) (kef k)) Next i ≡ own sh x Next k)
          ⊎ (own sh (links_after sh (links_after sh x (mfkrh l f)) (kef k)) Next i ≡ own sh x Next (mate k))))
      next i w =
          let c₁ = own sh (links_after sh x (mfkrh l f)) in
          let v = kef_shown (good₁ g u kl ml mf r) (place₁ g u kl ml mf r) in
          let q = used₃ i w in
          let e = v.at Next i w.1 ∙ upd_off _ 0 q.1 ∙ upd_off _ 0 q.2 in
          let R = (good₁ g u kl ml mf r).sound.rules in
          let u₁ = (place₁ g u kl ml mf r).used in
          let ni = next₁ i (w.0, w.1) in
          let nk = next₁ k (u.0, u.1) in
          let nm = next₁ (mate k) (um.0, um.1) in
          ⊎_elim (λ t. inl (t ∙ ni))
          (λ t. inr (
            ⊎_elim (λ z. inl (sym ni ∙ z)) (λ z. inr (sym ni ∙ z)) t.0,
            ⊎_elim (λ z. inl (z ∙ nk)) (λ z. inr (z ∙ nm)) t.1,
          ))
          (mend_next c₁ k i (own sh (links_after sh (links_after sh x (mfkrh l f)) (kef k)) Next i) (next_prev R k u₁)
          (next_prev R (mate k) (R.mate_in k u₁)) e)
