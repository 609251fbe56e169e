-- Faces that share an edge, and what becomes of the chains when a face is split.
use Rattle.std.specs.Prelude.{◌≡◌, refl, ◌⊎◌, ℕ}
use Rattle.std.proofs.Common.{sym, subst, inl, inr, ⊎_elim}
use Rattle.laws.specs.Linked.{Linked, same, link, back, via, carry}

-- half-edge i has the face `side i` on its side and `side (mate i)` on the other
abbrev pub Share : (ℕ → Type 0) → (ℕ → ℕ) → (ℕ → ℕ) → ℕ → ℕ → Type 0
Share U side mate g h = (i : ℕ) × U i × (side i ≡ g) × (side (mate i) ≡ h)

-- one face, f0, becomes two: some of its sides become f, the others stay. Each face that was linked to f0 is linked to
-- f0 or to f.
module _ (U : ℕ → Type 0) (mate : ℕ → ℕ) {side side' : ℕ → ℕ} {f0 f : ℕ}
    (changed : (i : ℕ) → (side' i ≡ side i) ⊎ ((side i ≡ f0) × (side' i ≡ f))) where
  -- g is linked to f0 or to f
  abbrev pub Near : ℕ → Type 0
  Near g = Linked (Share U side' mate) f0 g ⊎ Linked (Share U side' mate) f g

  -- either end of the new side is near if the old one is
  near_side : (i : ℕ) → Near (side i) → Near (side' i)
  near_side i p = ⊎_elim (λ e. subst Near (sym e) p) (λ e. inr (same (sym e.1))) (changed i)

  -- so a step leads from near to near
  near_step : (i j : ℕ) → Linked (Share U side' mate) (side' i) (side' j) → Near (side i) → Near (side j)
  near_step i j l p =
      ⊎_elim (λ e. subst Near e (⊎_elim (λ q. inl (via (side' i) q l)) (λ q. inr (via (side' i) q l)) (near_side i p)))
      (λ e. inl (same (sym e.0))) (changed j)

  -- what was linked to the face that is split is linked to one of its parts
  pub split_face : {g : ℕ} → Linked (Share U side mate) f0 g → Near g
  split_face l = (carry Near
      (λ g h s. let k = link (s.0, s.1, refl, refl) in (
        λ p. subst Near s.3 (near_step s.0 (mate s.0) k (subst Near (sym s.2) p)),
        λ p. subst Near s.2 (near_step (mate s.0) s.0 (back k) (subst Near (sym s.3) p)),
      ))
      l).0 (inl (same refl))
