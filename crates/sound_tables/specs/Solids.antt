-- Rule 6 under mfkrh: a face is split, and where that cuts the chains the part with the new face becomes a solid of its
-- own.
use Rattle.std.specs.Prelude.{◌≡◌, refl, ◌≢◌, ◌⊎◌, Bool, true, false, ℕ}
use Rattle.std.proofs.Common.{sym, ap, ◌∙◌, subst, inl, inr, ⊎_elim}
use Rattle.std.proofs.lemmas.Bool.{false≢true}
use Rattle.laws.specs.Bools.{pick, split, ask}
use Rattle.laws.specs.Update.{upd, upd_at, upd_off, upd_same}
use Rattle.laws.specs.Linked.{Linked, same, link, back, via, map_within}
use Rattle.sound_tables.specs.Faces.{Share, Near, split_face}

-- the half-edges U, the faces F, the solid of each face
pub record Solids (U F : ℕ → Type 0) (side mate solid : ℕ → ℕ) : Type 0 where
  pub side_in_lem : (i : ℕ) → U i → F (side i)
  pub edge : (i : ℕ) → U i → solid (side (mate i)) ≡ solid (side i)
  pub one : (g h : ℕ) → F g → F h → solid g ≡ solid h → Linked (Share U side mate) g h

module _ {U F : ℕ → Type 0} {side side' mate solid : ℕ → ℕ} {f0 f : ℕ} (r : Solids U F side mate solid)
    (mate_in : (i : ℕ) → U i → U (mate i)) (in0 : F f0) (fresh : ¬ F f)
    (changed : (i : ℕ) → (side' i ≡ side i) ⊎ ((side i ≡ f0) × (side' i ≡ f))) where
  -- the faces with the new one
  abbrev F' : ℕ → Type 0
  F' g = (g ≡ f) ⊎ F g

  -- faces that are linked afterwards
  abbrev L : ℕ → ℕ → Type 0
  L = Linked (Share U side' mate)

  -- an old face is not the new one
  fne : (g : ℕ) → F g → g ≢ f
  fne g u e = fresh (subst F e u)

  -- the sides are faces
  in' : (i : ℕ) → U i → F' (side' i)
  in' i u = ⊎_elim (λ e. inr (subst F (sym e) (r.side_in_lem i u))) (λ e. inl e.1) (changed i)

  -- away from the old solid nothing changes
  still : (i : ℕ) → solid (side i) ≢ solid f0 → side' i ≡ side i
  still i h = ⊎_elim (λ e. e) (λ e. absurd (h (ap solid e.0))) (changed i)

  -- so faces of another solid are linked as before
  far : {g h : ℕ} → F g → F h → solid g ≡ solid h → solid g ≢ solid f0 → L g h
  far {g} {h} u v e x = map_within (λ k. solid k ≢ solid f0)
      (λ a b s. (
        λ w z. w (ap solid (sym s.2) ∙ sym (r.edge s.0 s.1) ∙ ap solid s.3 ∙ z),
        λ w z.
            w (ap solid (sym s.3) ∙ r.edge s.0 s.1 ∙ ap solid s.2 ∙ z),
      ))
      (λ a b s w.
      link (
        s.0,
        s.1,
        still s.0 (λ z. w (ap solid (sym s.2) ∙ z)) ∙ s.2,
        still (mate s.0) (λ z. w (ap solid (sym s.2) ∙ sym (r.edge s.0 s.1) ∙ z)) ∙ s.3,
      ))
      (r.one g h u v e) x

  -- a face of the old solid is linked to the old face or to the new one
  near : {g : ℕ} → F g → solid g ≡ solid f0 → Near U mate changed g
  near {g} u e = split_face U mate changed (r.one f0 g in0 u (sym e))

  -- an edge links its two sides
  across : (i : ℕ) → U i → L (side' i) (side' (mate i))
  across i u = link (i, u, refl, refl)

  -- the new face is still linked to the old one: it joins its solid
  pub stays : L f0 f → Solids U F' side' mate (upd solid f (solid f0))
  stays l = record {
    side_in_lem = in';
    edge = λ i u. value (mate i) (mate_in i u) ∙ r.edge i u ∙ sym (value i u);
    one = λ g h u v e. ⊎_elim
        (λ p. ⊎_elim (λ q. same (p ∙ sym q))
        (λ w. back (subst (L h) (sym p)
        (to_f w (sym (upd_off solid _ (fne h w)) ∙ sym e ∙ ap (upd solid f (solid f0)) p ∙ upd_same solid f _)))) v)
        (λ z. ⊎_elim (λ q. subst (L g) (sym q)
        (to_f z (sym (upd_off solid _ (fne g z)) ∙ e ∙ ap (upd solid f (solid f0)) q ∙ upd_same solid f _)))
        (λ w. old z w (sym (upd_off solid _ (fne g z)) ∙ e ∙ upd_off solid _ (fne h w))) v) u;
  }
    where
      -- each side has the solid that it had
      value : (i : ℕ) → U i → upd solid f (solid f0) (side' i) ≡ solid (side i)
      value i u = ⊎_elim (λ e. ap (upd solid f (solid f0)) e ∙ upd_off solid _ (fne _ (r.side_in_lem i u)))
          (λ e. upd_at solid _ e.1 ∙ ap solid (sym e.0)) (changed i)

      -- a face of the old solid is linked to the new face
      to_f : {g : ℕ} → F g → solid g ≡ solid f0 → L g f
      to_f u e = ⊎_elim (λ n. via f0 (back n) l) (λ n. back n) (near u e)

      -- old faces of one solid are linked
      old : {g h : ℕ} → F g → F h → solid g ≡ solid h → L g h
      old {g} {h} u v e = split (solid g) (solid f0) (λ x. via f (to_f u x) (back (to_f v (sym e ∙ x))))
          (λ x. far u v e x)

  -- it is not: all that is linked to it goes to the new solid s
  pub parts : (lk : ℕ → Bool) → ((g : ℕ) → lk g ≡ true → L f g) → ((g : ℕ) → L f g → lk g ≡ true) → lk f0 ≡ false
      → (s : ℕ) → ((g : ℕ) → F g → solid g ≢ s) → Solids U F' side' mate (λ g. pick (lk g) s (solid g))
  parts lk yes-lk lk-yes cut s new = record {
    side_in_lem = in';
    edge = λ i u. ⊎_elim (λ t. yes_at t ∙ sym (yes_at (lk-yes _ (via _ (yes-lk _ t) (back (across i u))))))
        (λ t. no_at t ∙ ap solid (no_side t) ∙ r.edge i u ∙ sym (ap solid (no_side (no_back u t)))
        ∙ sym (no_at (no_back u t))) (ask (lk (side' (mate i))));
    one = λ g h u v e. ⊎_elim
        (λ a. ⊎_elim (λ b. via f (back (yes-lk g a)) (yes-lk h b))
        (λ b. absurd (new h (old v b) (sym (no_at b) ∙ sym e ∙ yes_at a))) (ask (lk h)))
        (λ a. ⊎_elim (λ b. absurd (new g (old u a) (sym (no_at a) ∙ e ∙ yes_at b)))
        (λ b. both (old u a) (old v b) a b (sym (no_at a) ∙ e ∙ no_at b)) (ask (lk h))) (ask (lk g));
  }
    where
      -- what goes lies in s
      yes_at : {g : ℕ} → lk g ≡ true → pick (lk g) s (solid g) ≡ s
      yes_at {g} e = rw e

      -- what does not lies where it lay
      no_at : {g : ℕ} → lk g ≡ false → pick (lk g) s (solid g) ≡ solid g
      no_at {g} e = rw e

      -- what does not go is not linked to f
      clash : {g : ℕ} → lk g ≡ false → L f g → ⊥
      clash {g} e l = false≢true (sym e ∙ lk-yes g l)

      -- an old face, if it does not go
      old : {g : ℕ} → F' g → lk g ≡ false → F g
      old u e = ⊎_elim (λ q. absurd (clash e (same (sym q)))) (λ w. w) u

      -- a side that does not go is the old one
      no_side : {i : ℕ} → lk (side' i) ≡ false → side' i ≡ side i
      no_side {i} e = ⊎_elim (λ q. q) (λ q. absurd (clash e (same (sym q.1)))) (changed i)

      -- nor does the side across the edge
      no_back : {i : ℕ} → U i → lk (side' (mate i)) ≡ false → lk (side' i) ≡ false
      no_back {i} u e = ⊎_elim (λ t. absurd (clash e (via _ (yes-lk _ t) (across i u)))) (λ t. t) (ask (lk (side' i)))

      -- two faces that do not go are linked as before
      both : {g h : ℕ} → F g → F h → lk g ≡ false → lk h ≡ false → solid g ≡ solid h → L g h
      both {g} {h} u v a b e = split (solid g) (solid f0)
          (λ x. via f0 (⊎_elim (λ n. back n) (λ n. absurd (clash a n)) (near u x))
          (⊎_elim (λ n. n) (λ n. absurd (clash b n)) (near v (sym e ∙ x)))) (λ x. far u v e x)
