-- Bounded search: whether all of 1..n pass a test, whether one does, and the least that does.
use Rattle.std.specs.Prelude.{◌≡◌, refl, ◌≢◌, ◌⊎◌, Bool, true, false, ◌&&◌, ◌||◌, ℕ, zero, suc, ◌+◌, ◌≤◌, ◌<◌, T}
use Rattle.std.proofs.Common.{sym, ap, ◌∙◌, subst, inl, inr, ⊎_elim, arith}
use Rattle.laws.specs.Bools.{pick, true_T, false_T, and_T, T_and, or_T, T_or_l, T_or_r, same?, split}

-- ---- all, or any, of 1..n

-- all of 1..n pass
unfoldable pub all_to : ℕ → (ℕ → Bool) → Bool
all_to zero p = true
all_to (suc n) p = p (suc n) && all_to n p

-- then each passes
pub all_at : (n : ℕ) (p : ℕ → Bool) → T (all_to n p) → (k : ℕ) → 1 ≤ k → k ≤ n → T (p k)
unfolding all_to
all_at zero p t k l u = absurd (omega arith)
all_at (suc n) p t k l u =
    let s = and_T (p (suc n)) (all_to n p) t in
    go (all_at n p s.1 k l) s.0 (same? k (suc n))
  where
    go : (k ≤ n → T (p k)) → T (p (suc n)) → (k ≡ suc n) ⊎ (k ≢ suc n) → T (p k)
    go ih here (inl e) = rw e here
    go ih here (inr f) = ih (omega arith)

-- and if each passes, all do
pub all_of : (n : ℕ) (p : ℕ → Bool) → ((k : ℕ) → 1 ≤ k → k ≤ n → T (p k)) → T (all_to n p)
unfolding all_to
all_of zero p h = tt
all_of (suc n) p h = T_and (p (suc n)) (all_to n p) (h (suc n) (omega arith) (omega arith))
    (all_of n p (λ k l u. h k l (omega arith)))

-- all tests of 1..n agree, and so do the answers
pub all_ext : (n : ℕ) (p q : ℕ → Bool) → ((k : ℕ) → 1 ≤ k → k ≤ n → p k ≡ q k) → all_to n p ≡ all_to n q
unfolding all_to
all_ext zero p q h = refl
all_ext (suc n) p q h = rw (h (suc n) (omega arith) (omega arith), all_ext n p q (λ k l u. h k l (omega arith)))

-- one of 1..n passes
unfoldable pub any_to : ℕ → (ℕ → Bool) → Bool
any_to zero p = false
any_to (suc n) p = p (suc n) || any_to n p

-- then here it is
pub any_at : (n : ℕ) (p : ℕ → Bool) → T (any_to n p) → (k : ℕ) × (1 ≤ k) × (k ≤ n) × T (p k)
unfolding any_to
any_at zero p t = absurd t
any_at (suc n) p t = ⊎_elim (λ s. (suc n, omega arith, omega arith, s)) (λ s. let r = any_at n p s in
    (r.0, r.1, omega (arith, r.2), r.3)) (or_T (p (suc n)) (any_to n p) t)

-- and if one is there, the answer is yes
pub any_of : (n : ℕ) (p : ℕ → Bool) (k : ℕ) → 1 ≤ k → k ≤ n → T (p k) → T (any_to n p)
unfolding any_to
any_of zero p k l u t = absurd (omega arith)
any_of (suc n) p k l u t = split k (suc n) (λ e. T_or_l (p (suc n)) (any_to n p) (subst (λ j. T (p j)) e t))
    (λ h. T_or_r (p (suc n)) (any_to n p) (any_of n p k l (omega arith) t))

-- ---- the least of 1..n, or 0

-- the least of k..k+n-1 that passes, or 0
unfoldable pub least_from : ℕ → ℕ → (ℕ → Bool) → ℕ
least_from zero k p = 0
least_from (suc n) k p = pick (p k) k (least_from n (suc k) p)

-- the least of 1..n that passes, or 0
abbrev pub least : ℕ → (ℕ → Bool) → ℕ
least n p = least_from n 1 p

-- what is known of the least: there is none, or it is one and those before are not
pub data Least (n k : ℕ) (p : ℕ → Bool) (r : ℕ) : Type 0 where
  none_is : r ≡ 0 → ((j : ℕ) → k ≤ j → j < k + n → p j ≡ false) → Least n k p r
  one_is : k ≤ r → r < k + n → p r ≡ true → ((j : ℕ) → k ≤ j → j < r → p j ≡ false) → Least n k p r

-- the search finds it
pub least_from_is : (n k : ℕ) (p : ℕ → Bool) → Least n k p (least_from n k p)
unfolding least_from
least_from_is zero k p = none_is refl (λ j l u. absurd (omega arith))
least_from_is (suc n) k p = go (p k) refl (least_from_is n (suc k) p)
  where
    at : {j : ℕ} → p k ≡ false → k ≤ j → (suc k ≤ j → p j ≡ false) → p j ≡ false
    at {j} e l f = by (same? j k)
      where
        by : (j ≡ k) ⊎ (j ≢ k) → p j ≡ false
        by (inl q) = ap p q ∙ e
        by (inr q) = f (omega arith)

    go : (b : Bool) → p k ≡ b → Least n (suc k) p (least_from n (suc k) p) → Least (suc n) k p (least_from (suc n) k p)
    go true e ih = rw (e, least_from) (one_is (omega arith) (omega arith) e (λ j l u. absurd (omega arith)))
    go false e (none_is z f) = rw (e, least_from) (none_is z (λ j l u. at e l (λ m. f j m (omega arith))))
    go false e (one_is l u t f) =
        rw (e, least_from) (one_is (omega arith) (omega arith) t (λ j m v. at e m (λ m'. f j m' v)))

-- the least is the only number that passes with none before it
pub least_unique : (n : ℕ) (p : ℕ → Bool) (r : ℕ) → 1 ≤ r → r ≤ n → p r ≡ true → ((j : ℕ) → 1 ≤ j → j < r → p j ≡ false)
    → least n p ≡ r
least_unique n p r l u t f = go (least_from_is n 1 p)
  where
    clash : {b : Bool} → b ≡ true → b ≡ false → ⊥
    clash {b} s e = false_T e (true_T s)

    go : Least n 1 p (least n p) → least n p ≡ r
    go (none_is z g) = absurd (clash t (g r l (omega arith)))
    go (one_is l' u' t' f') = omega (arith, lower, upper)
      where
        lower : ¬ (least n p < r)
        lower h = clash t' (f (least n p) l' h)

        upper : ¬ (r < least n p)
        upper h = clash t (f' r l h)

-- where none passes it is 0
pub least_none : (n : ℕ) (p : ℕ → Bool) → ((j : ℕ) → 1 ≤ j → j ≤ n → p j ≡ false) → least n p ≡ 0
least_none n p f = go (least_from_is n 1 p)
  where
    go : Least n 1 p (least n p) → least n p ≡ 0
    go (none_is z g) = z
    go (one_is l u t g) = absurd (false_T (f _ l (omega arith)) (true_T t))

-- two tests that agree on 1..n have one least
pub least_ext : (n : ℕ) (p q : ℕ → Bool) → ((j : ℕ) → 1 ≤ j → j ≤ n → p j ≡ q j) → least n p ≡ least n q
least_ext n p q h = go (least_from_is n 1 q)
  where
    go : Least n 1 q (least n q) → least n p ≡ least n q
    go (none_is z g) = least_none n p (λ j l u. h j l u ∙ g j l (omega arith)) ∙ sym z
    go (one_is l u t g) = least_unique n p (least n q) l (omega arith) (h _ l (omega arith) ∙ t)
        (λ j l' u'. h j l' (omega arith) ∙ g j l' u')
