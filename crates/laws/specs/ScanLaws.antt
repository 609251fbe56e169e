-- A scan of 1..n for any test: k items have passed, and the next one passes, fails, or is past the end.
use Rattle.std.specs.Prelude.{◌≡◌, refl, Bool, true, false, not, ℕ, ◌+◌, ◌≤◌, ◌<◌}
use Rattle.std.proofs.Common.{sym, ◌∙◌, add-one, arith}
use Rattle.std.proofs.lemmas.Bool.{not-true, not-false}
use Rattle.laws.specs.Bools.{T_false, false_T}
use Rattle.laws.specs.Search.{all_to, all_at}

-- none is passed at first
pub all_start : (p : ℕ → Bool) → all_to 0 p ≡ true
unfolding all_to
all_start p = refl

-- the next one passes
pub all_turn : (p : ℕ → Bool) (k : ℕ) (b : Bool) → all_to k p ≡ true → b ≡ p (k + 1) → not b ≡ false
    → all_to (k + 1) p ≡ true
unfolding all_to
all_turn p k b h e t = rw (add-one k) (rw (sym (rw (add-one k) at e), not-false b t) h)

-- the next one fails, and so do all
pub all_fail : (p : ℕ → Bool) (k n : ℕ) (b : Bool) → k < n → b ≡ p (k + 1) → not b ≡ true → false ≡ all_to n p
all_fail p k n b l e f =
    sym (T_false (λ t. false_T (sym e ∙ not-true b f) (all_at n p t (k + 1) (omega arith) (omega arith))))

-- all have passed
pub all_end : (p : ℕ → Bool) (k n : ℕ) → k ≤ n → n ≤ k → all_to k p ≡ true → true ≡ all_to n p
all_end p k n a b h = let e : n ≡ k = omega arith in rw e (sym h)
