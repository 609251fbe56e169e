-- The moves of `Cycles` and `Exchange` for functions written with `upd`.
use Rattle.std.specs.Prelude.{◌≡◌, refl, ◌≢◌, ◌⊎◌, ℕ, ◌≤◌}
use Rattle.std.proofs.Common.{sym, ap, ◌∙◌, subst, inl, inr}
use Rattle.laws.specs.Update.{upd, upd_off, upd_same, relabel, relabel_at, relabel_off}
use Rattle.laws.specs.Cycles.{Cycles, insert, remove}
use Rattle.laws.specs.Exchange.{merge, halve, Till}

-- U, and x
abbrev pub Or : ℕ → (ℕ → Type 0) → ℕ → Type 0
Or x U i = (i ≡ x) ⊎ U i

-- U, but not x
abbrev pub But : ℕ → (ℕ → Type 0) → ℕ → Type 0
But x U i = U i × (i ≢ x)

-- x goes in after y
abbrev pub ins : (ℕ → ℕ) → ℕ → ℕ → ℕ → ℕ
ins f x y = upd (upd f x (f y)) y x

-- x, which comes after y, goes out
abbrev pub out : (ℕ → ℕ) → ℕ → ℕ → ℕ → ℕ
out f x y = upd f y (f x)

-- x and y exchange what they go to
abbrev pub xchg : (ℕ → ℕ) → ℕ → ℕ → ℕ → ℕ
xchg f x y = upd (upd f x (f y)) y (f x)

module _ {n : ℕ} {U : ℕ → Type 0} {f lab : ℕ → ℕ} (c : Cycles n U f lab) (x y : ℕ) where
  -- x goes in after y, with y's label
  pub ins_cycles : ¬ U x → 1 ≤ x → x ≤ n → U y → Cycles n (Or x U) (ins f x y) (upd lab x (lab y))
  ins_cycles fresh l h u = insert c (record {
    fresh = fresh;
    x_low = l;
    x_high = h;
    y_in = u;
    old = λ i v. inr v;
    new = inl refl;
    cases = λ i v. v;
    f_y = upd_same _ y x;
    f_x = upd_off _ x x≢y ∙ upd_same _ x (f y);
    f_o = λ i p q. upd_off _ x p ∙ upd_off _ (f y) q;
    lab_x = upd_same _ x (lab y);
    lab_o = λ i p. upd_off _ (lab y) p;
  })
    where
      x≢y : x ≢ y
      x≢y e = fresh (subst U (sym e) u)

  -- x goes out
  pub out_cycles : U y → f y ≡ x → x ≢ y → Cycles n (But x U) (out f x y) lab
  out_cycles u e h = remove c (record {
    y_in = u;
    f_yx = e;
    apart = h;
    old = λ i v p. (v, p);
    in_old = λ i v. v.0;
    not_x = λ v. v.1 refl;
    f_y = upd_same _ y (f x);
    f_o = λ i p q. upd_off _ (f x) p;
    lab_o = λ i p. refl;
  })

  -- two cycles become one, with x's label
  pub merge_cycles : U x → U y → lab x ≢ lab y → Cycles n U (xchg f x y) (relabel lab (lab y) (lab x))
  merge_cycles u v h = merge c (record {
    x_in = u;
    y_in = v;
    apart = λ e. h (ap lab e);
    f_x = upd_off _ (f x) (λ e. h (ap lab e)) ∙ upd_same _ x (f y);
    f_y = upd_same _ y (f x);
    f_o = λ i p q. upd_off _ (f x) q ∙ upd_off _ (f y) p;
  }) (record {
    two = h;
    lab_y = λ i w e. relabel_at lab (lab y) (lab x) e;
    lab_o =
        λ i w e. relabel_off lab (lab y) (lab x) e;
  })

  -- the run from f x up to y gets the label d; the rest keeps its own
  pub halve_cycles : (d : ℕ) (lab' : ℕ → ℕ) → U x → U y → x ≢ y → lab x ≡ lab y → ((i : ℕ) → U i → lab i ≢ d)
      → ((i : ℕ) → U i → Till f x y i → lab' i ≡ d)
      → ((i : ℕ) → U i → Till f y x i → lab' i ≡ lab i) → ((i : ℕ) → U i → lab i ≢ lab x → lab' i ≡ lab i)
      → Cycles n U (xchg f x y) lab'
  halve_cycles d lab' u v h e fr run rest far = halve c (record {
    x_in = u;
    y_in = v;
    apart = h;
    f_x = upd_off _ (f x) h ∙ upd_same _ x (f y);
    f_y = upd_same _ y (f x);
    f_o = λ i p q. upd_off _ (f x) q ∙ upd_off _ (f y) p;
  }) (record { one_label = e; fresh = fr; lab_run = run; lab_rest = rest; lab_far = far })
