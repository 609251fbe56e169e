-- Labelled cycles: other labels that tell the same apart, a cycle of one that comes, and one that goes.
use Rattle.std.specs.Prelude.{◌≡◌, refl, ◌≢◌, ℕ, ◌≤◌}
use Rattle.std.proofs.Common.{inl, inr}
use Rattle.laws.specs.Update.{upd, upd_same, upd_off}
use Rattle.laws.specs.Cycles.{Cycles, birth, death}
use Rattle.laws.specs.Moves.{Or, But}

module _ {n : ℕ} {U : ℕ → Type 0} {f lab : ℕ → ℕ} (c : Cycles n U f lab) (x : ℕ) where
  -- x comes, alone with the new label o
  pub birth_cycles : (o : ℕ) → ¬ U x → 1 ≤ x → x ≤ n → ((i : ℕ) → U i → lab i ≢ o) → Cycles n (Or x U) (upd f x x)
      (upd lab x o)
  birth_cycles o fresh low high new = birth c (record {
    fresh = fresh;
    x_low = low;
    x_high = high;
    old = λ i u. inr u;
    new = inl refl;
    cases = λ i u. u;
    f_x = upd_same f x x;
    f_o = λ i e. upd_off f x e;
    lab_x = λ i u. rw (upd_same lab x o) (new i u);
    lab_o = λ i e. upd_off lab o e;
  })

  -- x, which is alone, goes
  pub death_cycles : U x → f x ≡ x → Cycles n (But x U) f lab
  death_cycles u e =
      death c
      (record {
        x_in = u;
        f_x = e;
        old = λ i w d. (w, d);
        in_old = λ i w. w.0;
        not_x = λ w. w.1 refl;
        f_o =
            λ i d. refl;
        lab_o = λ i d. refl;
      })
