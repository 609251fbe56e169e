-- Free numbers by rank: the j-th number from k on, of n, that passes a test.
use Rattle.std.specs.Prelude.{◌≡◌, ◌≢◌, ◌⊎◌, Bool, true, false, ℕ, zero, suc, ◌+◌, ◌-◌, ◌≤◌, ◌<◌, eqb}
use Rattle.std.proofs.Common.{inl, inr, ⊎_elim, arith}
use Rattle.laws.specs.Bools.{pick, ask, split, le?, eqb_other}
use Rattle.laws.specs.Sums.{bit}

-- the j-th number from k on that passes, of the n numbers there; 0 if fewer pass
unfoldable pub nth_from : ℕ → ℕ → (ℕ → Bool) → ℕ → ℕ
nth_from zero k p j = 0
nth_from (suc n) k p j = pick (p k) (pick (eqb j 0) k (nth_from n (suc k) p (j - 1))) (nth_from n (suc k) p j)

-- how many there are
unfoldable pub count_from : ℕ → ℕ → (ℕ → Bool) → ℕ
count_from zero k p = 0
count_from (suc n) k p = bit (p k) + count_from n (suc k) p

-- the j-th of 1 to n, from 0
abbrev pub nth : ℕ → (ℕ → Bool) → ℕ → ℕ
nth n p j = nth_from n 1 p j

-- one that passes counts
pub count_yes : (n k : ℕ) (p : ℕ → Bool) → p k ≡ true → count_from (suc n) k p ≡ suc (count_from n (suc k) p)
unfolding count_from
count_yes n k p t = rw t (omega arith)

-- one that does not, does not
pub count_no : (n k : ℕ) (p : ℕ → Bool) → p k ≡ false → count_from (suc n) k p ≡ count_from n (suc k) p
unfolding count_from
count_no n k p t = rw t (omega arith)

-- the first
pub nth_zero : (n k : ℕ) (p : ℕ → Bool) → p k ≡ true → nth_from (suc n) k p 0 ≡ k
unfolding nth_from
nth_zero n k p t = rw t

-- a later one
pub nth_suc : (n k : ℕ) (p : ℕ → Bool) (j : ℕ) → p k ≡ true → nth_from (suc n) k p (suc j) ≡ nth_from n (suc k) p j
unfolding nth_from
nth_suc n k p j t =
    let z : suc j ≢ 0 = λ (e : suc j ≡ 0). omega (arith, e) in
    let e : suc j - 1 ≡ j = omega arith in
    rw (t, eqb_other z, e)

pub nth_no : (n k : ℕ) (p : ℕ → Bool) (j : ℕ) → p k ≡ false → nth_from (suc n) k p j ≡ nth_from n (suc k) p j
unfolding nth_from
nth_no n k p j t = rw t

-- where it stands
pub record Stands (n k : ℕ) (p : ℕ → Bool) (v : ℕ) : Type 0 where
  pub low : k ≤ v
  pub high : v < k + n
  pub passes : p v ≡ true

-- one number later
later : (n k : ℕ) (p : ℕ → Bool) (v : ℕ) → Stands n (suc k) p v → Stands (suc n) k p v
later n k p v s = record { low = omega (arith, s.low); high = omega (arith, s.high); passes = s.passes }

pub nth_in : (n k : ℕ) (p : ℕ → Bool) (j : ℕ) → j < count_from n k p → Stands n k p (nth_from n k p j)
unfolding count_from
nth_in zero k p j h = absurd (omega arith)
nth_in (suc n) k p j h = go (λ i u. nth_in n (suc k) p i u) j h (ask (p k))
  where
    go : ((i : ℕ) → i < count_from n (suc k) p → Stands n (suc k) p (nth_from n (suc k) p i)) → (j : ℕ)
        → j < count_from (suc n) k p → (p k ≡ true) ⊎ (p k ≡ false) → Stands (suc n) k p (nth_from (suc n) k p j)
    go ih zero h (inl t) = rw (nth_zero n k p t) (record { low = omega arith; high = omega arith; passes = t })
    go ih (suc j) h (inl t) = rw (nth_suc n k p j t) (later n k p _ (ih j (omega (arith, h, count_yes n k p t))))
    go ih j h (inr t) = rw (nth_no n k p j t) (later n k p _ (ih j (omega (arith, h, count_no n k p t))))

-- they rise
pub nth_rises : (n k : ℕ) (p : ℕ → Bool) (i j : ℕ) → i < j → j < count_from n k p → nth_from n k p i < nth_from n k p j
unfolding count_from
nth_rises zero k p i j l h = absurd (omega arith)
nth_rises (suc n) k p i j l h = go (λ i j l u. nth_rises n (suc k) p i j l u) i j l h (ask (p k))
  where
    go : ((i j : ℕ) → i < j → j < count_from n (suc k) p → nth_from n (suc k) p i < nth_from n (suc k) p j) → (i j : ℕ)
        → i < j → j < count_from (suc n) k p → (p k ≡ true) ⊎ (p k ≡ false)
        → nth_from (suc n) k p i < nth_from (suc n) k p j
    go ih i zero l h t = absurd (omega (arith, l))
    go ih zero (suc j) l h (inl t) = rw (nth_zero n k p t, nth_suc n k p j t)
        (omega (arith, (nth_in n (suc k) p j (omega (arith, h, count_yes n k p t))).low))
    go ih (suc i) (suc j) l h (inl t) = rw (nth_suc n k p i t, nth_suc n k p j t)
        (ih i j (omega (arith, l)) (omega (arith, h, count_yes n k p t)))
    go ih i (suc j) l h (inr t) = rw (nth_no n k p i t, nth_no n k p (suc j) t)
        (ih i (suc j) l (omega (arith, h, count_no n k p t)))

-- so each has a number of its own
pub nth_apart : (n k : ℕ) (p : ℕ → Bool) (i j : ℕ) → i < count_from n k p → j < count_from n k p
    → nth_from n k p i ≡ nth_from n k p j → i ≡ j
nth_apart n k p i j u v e = split i j (λ z. z) (λ z. ⊎_elim
    (λ l. absurd (omega (arith, e, nth_rises n k p i j l v)))
    (λ l. absurd (omega (arith, e, nth_rises n k p j i (omega arith) u)))
    (le? (suc i) j))
