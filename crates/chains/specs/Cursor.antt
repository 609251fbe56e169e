-- For code: a series grows at its end, and so does its script; the next free number comes after the last one.
use Rattle.std.specs.Prelude.{◌≡◌, refl, ◌⊎◌, Bool, true, false, List, [], ◌∷◌, ◌++◌, ℕ, zero, suc, ◌+◌, ◌≤◌, ◌<◌}
use Rattle.std.proofs.Common.{sym, ap, ◌∙◌, inl, inr, append_assoc, append-nil, arith}
use Rattle.laws.specs.Bools.{ask, split}
use Rattle.script.specs.declared.Operator.{Operator}
use Rattle.script.specs.Operator.{operator_bytes, write_script}
use Rattle.chains.specs.Series.{series, joined}
use Rattle.chains.specs.Ranks.{nth_from, count_from, count_yes, count_no, nth_zero, nth_suc}
use Rattle.chains.specs.Ranks.{nth_no}

-- ---- one more at the end

pub series_last : {A : Type 0} (i n : ℕ) (f : ℕ → A) → series i (suc n) f ≡ series i n f ++ (f (i + n) ∷ [])
unfolding series
series_last i zero f = let e : i ≡ i + 0 = omega arith in ap (λ k. f k ∷ []) e
series_last i (suc n) f =
    let e : suc i + n ≡ i + suc n = omega arith in
    ap (λ l. f i ∷ l) (series_last (suc i) n f ∙ ap (λ k. series (suc i) n f ++ (f k ∷ [])) e)

pub joined_last : {A : Type 0} (i n : ℕ) (f : ℕ → List A) → joined i (suc n) f ≡ joined i n f ++ f (i + n)
unfolding joined
joined_last i zero f = let e : i ≡ i + 0 = omega arith in append-nil (f i) ∙ ap f e
joined_last i (suc n) f =
    let e : suc i + n ≡ i + suc n = omega arith in
    ap (λ l. f i ++ l) (joined_last (suc i) n f ∙ ap (λ k. joined (suc i) n f ++ f k) e)
    ∙ sym (append_assoc (f i) (joined (suc i) n f) (f (i + suc n)))

-- two lists of operators, written
pub write_append : (os ns : List Operator) → write_script (os ++ ns) ≡ write_script os ++ write_script ns
unfolding write_script
write_append [] ns = refl
write_append (o ∷ os) ns = ap (λ l. operator_bytes o ++ l) (write_append os ns)
    ∙ sym (append_assoc (operator_bytes o) (write_script os) (write_script ns))

-- ---- the next free number

-- none in front of the first passes
pub before_first : (n k : ℕ) (p : ℕ → Bool) (m : ℕ) → 0 < count_from n k p → k ≤ m → m < nth_from n k p 0 → p m ≡ false
unfolding count_from
before_first zero k p m h a b = absurd (omega arith)
before_first (suc n) k p m h a b = go (λ c d. before_first n (suc k) p m c (omega (arith, d))) (ask (p k))
  where
    go : (0 < count_from n (suc k) p → suc k ≤ m → m < nth_from n (suc k) p 0 → p m ≡ false) → (p k ≡ true) ⊎ (p k ≡
        false)
        → p m ≡ false
    go ih (inl t) = absurd (omega (arith, a, b, nth_zero n k p t))
    go ih (inr t) = split m k (λ e. ap p e ∙ t)
        (λ e. ih (omega (arith, h, count_no n k p t)) (omega (arith, a, e)) (omega (arith, b, nth_no n k p 0 t)))

-- nor between one and the next
pub between : (n k : ℕ) (p : ℕ → Bool) (j m : ℕ) → suc j < count_from n k p → nth_from n k p j < m
    → m < nth_from n k p (suc j) → p m ≡ false
unfolding count_from
between zero k p j m h a b = absurd (omega arith)
between (suc n) k p j m h a b = go (λ i. between n (suc k) p i m) j h a b (ask (p k))
  where
    go : ((i : ℕ) → suc i < count_from n (suc k) p → nth_from n (suc k) p i < m → m < nth_from n (suc k) p (suc i) → p m
        ≡ false)
        → (j : ℕ) → suc j < count_from (suc n) k p → nth_from (suc n) k p j < m → m < nth_from (suc n) k p (suc j)
        → (p k ≡ true) ⊎ (p k ≡ false) → p m ≡ false
    go ih zero h a b (inl t) = before_first n (suc k) p m (omega (arith, h, count_yes n k p t))
        (omega (arith, a, nth_zero n k p t)) (omega (arith, b, nth_suc n k p 0 t))
    go ih (suc j) h a b (inl t) = ih j (omega (arith, h, count_yes n k p t)) (omega (arith, a, nth_suc n k p j t))
        (omega (arith, b, nth_suc n k p (suc j) t))
    go ih j h a b (inr t) = ih j (omega (arith, h, count_no n k p t)) (omega (arith, a, nth_no n k p j t))
        (omega (arith, b, nth_no n k p (suc j) t))
