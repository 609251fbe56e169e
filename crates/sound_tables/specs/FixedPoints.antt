-- Fixed points with labels of their own beside a labelled permutation: the dummies of all isolated loops come in at
-- once, and go.
use Rattle.std.specs.Prelude.{◌≡◌, refl, ◌≢◌, ◌⊎◌, ℕ, ◌≤◌, ◌<◌}
use Rattle.std.proofs.Common.{sym, ap, ◌∙◌, subst, inl, inr, ⊎_elim, arith}
use Rattle.laws.specs.Bools.{le?}
use Rattle.laws.specs.Linked.{same, link, map_linked, map_within}
use Rattle.laws.specs.Cycles.{Cycles, alone}

-- above n stand fixed points D; below, f and its labels are as they were
pub record Extra (n m : ℕ) (U D : ℕ → Type 0) (f lab f' lab' : ℕ → ℕ) : Type 0 where
  pub above : (i : ℕ) → D i → n < i
  pub below : (i : ℕ) → D i → i ≤ m
  pub n≤m : n ≤ m
  pub f_u : (i : ℕ) → U i → f' i ≡ f i
  pub f_d : (i : ℕ) → D i → f' i ≡ i
  pub lab_u : (i : ℕ) → U i → lab' i ≡ lab i

-- two labels of D differ, and none is one of U
abbrev pub Own : (U D : ℕ → Type 0) (lab' : ℕ → ℕ) → Type 0
Own U D lab' = ((i j : ℕ) → D i → D j → lab' i ≡ lab' j → i ≡ j) × ((i j : ℕ) → U i → D j → lab' i ≢ lab' j)

-- one of U or of D
abbrev pub With : (U D : ℕ → Type 0) → ℕ → Type 0
With U D i = U i ⊎ D i

module _ {n m : ℕ} {U D : ℕ → Type 0} {f lab f' lab' : ℕ → ℕ} (x : Extra n m U D f lab f' lab') where
  -- with their own labels they make labelled cycles together with U
  pub more : Cycles n U f lab → Own U D lab' → Cycles m (With U D) f' lab'
  more c o = record {
    perm = record {
      low = λ i. ⊎_elim (λ u. c.perm.low i u) (λ d. omega (arith, x.above i d));
      high = λ i. ⊎_elim (λ u. omega (arith, c.perm.high i u, x.n≤m)) (λ d. x.below i d);
      f_in = λ i. ⊎_elim (λ u. inl (rw (x.f_u i u) (c.perm.f_in i u))) (λ d. inr (rw (x.f_d i d) d));
      inv = λ i. back_of i (le? i n);
      undo = λ i. ⊎_elim (λ u. rw (x.f_u i u)
          (low_inv (f i) (c.perm.high _ (c.perm.f_in i u)) (le? (f i) n) ∙ c.perm.undo i u))
          (λ d. rw (x.f_d i d) (high_inv i (x.above i d) (le? i n)));
    };
    keeps = λ i. ⊎_elim (λ u. rw (x.f_u i u) (x.lab_u _ (c.perm.f_in i u) ∙ c.keeps i u ∙ sym (x.lab_u i u)))
        (λ d. ap lab' (x.f_d i d));
    one = λ i j u v e. ⊎_elim
        (λ p. ⊎_elim (λ q. map_linked (λ k. k) (λ a b s. link (inl s.0, x.f_u a s.0 ∙ s.1))
        (c.one i j p q (sym (x.lab_u i p) ∙ e ∙ x.lab_u j q))) (λ q. absurd (o.1 i j p q e)) v)
        (λ p. ⊎_elim (λ q. absurd (o.1 j i q p (sym e))) (λ q. same (o.0 i j p q e)) v) u;
  }
    where
      -- the way back: below n the old one
      back_of : (i : ℕ) → (i ≤ n) ⊎ (n < i) → ℕ
      back_of i (inl h) = c.perm.inv i
      back_of i (inr h) = i

      -- below n it is the old one
      low_inv : (i : ℕ) → i ≤ n → (h : (i ≤ n) ⊎ (n < i)) → back_of i h ≡ c.perm.inv i
      low_inv i l (inl h) = refl
      low_inv i l (inr h) = absurd (omega arith)

      -- above n the number itself
      high_inv : (i : ℕ) → n < i → (h : (i ≤ n) ⊎ (n < i)) → back_of i h ≡ i
      high_inv i l (inl h) = absurd (omega arith)
      high_inv i l (inr h) = refl

  -- and back: the permutation of U, and what the dummies' labels say
  pub fewer : Cycles m (With U D) f' lab' → ((i : ℕ) → U i → i ≤ n) → ((i : ℕ) → U i → U (f i))
      → Cycles n U f lab × Own U D lab'
  fewer c low fi = (
    record {
      perm = record {
        low = λ i u. c.perm.low i (inl u);
        high = low;
        f_in = fi;
        inv = c.perm.inv;
        undo =
            λ i u. ap c.perm.inv (sym (x.f_u i u)) ∙ c.perm.undo i (inl u);
      };
      keeps = λ i u. sym (x.lab_u _ (fi i u)) ∙ ap lab' (sym (x.f_u i u)) ∙ c.keeps i (inl u) ∙ x.lab_u i u;
      one = λ i j u v e. map_within U
          (λ a b s. (
            λ w. subst U (sym (x.f_u a w) ∙ s.1) (fi a w),
            λ w. ⊎_elim (λ z. z) (λ z. subst U (sym s.1 ∙ x.f_d a z) w) s.0,
          ))
          (λ a b s w. link (w, sym (x.f_u a w) ∙ s.1))
          (c.one i j (inl u) (inl v) (x.lab_u i u ∙ e ∙ sym (x.lab_u j v))) u;
    },
    (
      λ i j p q e. alone c (inr q) (x.f_d j q) i (inr p) e,
      λ i j u q e.
          absurd (clash i j u q (alone c (inr q) (x.f_d j q) i (inl u) e)),
    ),
  )
    where
      -- one of U is not one of D
      clash : (i j : ℕ) → U i → D j → i ≡ j → ⊥
      clash i j u d e = omega (arith, low i u, x.above j d)
