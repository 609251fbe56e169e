-- What a run between two half-edges meets, where it has so many steps.
use Rattle.std.specs.Prelude.{◌≡◌, refl, ◌⊎◌, Bool, true, false, ◌||◌, List, ℕ, zero, suc, ◌≤◌, ◌<◌, eqb}
use Rattle.std.proofs.Common.{inl, inr, ⊎_elim, arith, eqb→eq}
use Rattle.std.proofs.lemmas.Bool.{false≢true}
use Rattle.laws.specs.Bools.{true_T, eqb_same, eqb_other}
use Rattle.laws.specs.Permutations.{iter}
use Rattle.layout.specs.declared.shape.Shape.{Shape}
use Rattle.layout.specs.Layout.{next_of}
use Rattle.sound_tables.specs.Walking.{Steps, steps_on}
use Rattle.takedown.specs.Inversion.{on_run}

or_split : (a b : Bool) → (a || b) ≡ true → (a ≡ true) ⊎ (b ≡ true)
or_split true b h = inl refl
or_split false b h = inr h

or_right : (a b : Bool) → b ≡ true → (a || b) ≡ true
or_right true b h = refl
or_right false b h = h

-- what is found on a run of d steps is one of its half-edges
pub run_at : (sh : Shape) (n d : ℕ) (x : List ℕ) (k stop j : ℕ) → d ≤ n → Steps (next_of sh x) k stop d
    → on_run sh n x k stop j ≡ true
    → (t : ℕ) × (t < d) × (iter (next_of sh x) t k ≡ j)
unfolding on_run iter
run_at sh zero d x k stop j h w t = absurd (false≢true t)
run_at sh (suc n) zero x k stop j h w t = absurd (false≢true (rw (eqb_same w.at) at t))
run_at sh (suc n) (suc d) x k stop j h w t =
    let o = steps_on (next_of sh x) k stop d w in
    ⊎_elim (λ e. (0, omega arith, eqb→eq k j (true_T e)))
    (λ e. let r = run_at sh n d x (next_of sh x k) stop j (omega arith) o.1 e in
    (suc r.0, omega (arith, r.1), r.2))
    (or_split (eqb k j) (on_run sh n x (next_of sh x k) stop j) (rw (eqb_other o.0) at t))

-- and each of them is found
pub at_run : (sh : Shape) (n d : ℕ) (x : List ℕ) (k stop j : ℕ) → d ≤ n → Steps (next_of sh x) k stop d → (t : ℕ)
    → t < d
    → iter (next_of sh x) t k ≡ j → on_run sh n x k stop j ≡ true
unfolding on_run iter
at_run sh n zero x k stop j h w t l e = absurd (omega arith)
at_run sh zero (suc d) x k stop j h w t l e = absurd (omega arith)
at_run sh (suc n) (suc d) x k stop j h w zero l e =
    let o = steps_on (next_of sh x) k stop d w in
    rw (eqb_other o.0, eqb_same e)
at_run sh (suc n) (suc d) x k stop j h w (suc t) l e =
    let o = steps_on (next_of sh x) k stop d w in
    rw (eqb_other o.0) (or_right (eqb k j) (on_run sh n x (next_of sh x k) stop j)
    (at_run sh n d x (next_of sh x k) stop j (omega arith) o.1 t (omega arith) e))
