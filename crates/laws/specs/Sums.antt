-- Sums and counts over 1..n: equal terms, one term changed, sums in either order.
use Rattle.std.specs.Prelude.{◌≡◌, refl, ◌≢◌, ◌⊎◌, Bool, true, false, ℕ, zero, suc, ◌+◌, ◌≤◌, ◌<◌, T}
use Rattle.std.proofs.Common.{sym, ap, subst, inl, inr, ⊎_elim, arith}
use Rattle.laws.specs.Bools.{T_true, true_T, ask, same?, split}

-- f 1 + .. + f n
unfoldable pub sum_to : ℕ → (ℕ → ℕ) → ℕ
sum_to zero f = 0
sum_to (suc n) f = f (suc n) + sum_to n f

-- a test as a number
abbrev pub bit : Bool → ℕ
bit true = 1
bit false = 0

-- how many of 1..n pass
abbrev pub count_to : ℕ → (ℕ → Bool) → ℕ
count_to n p = sum_to n (λ k. bit (p k))

-- equal terms, equal sums
pub sum_ext : (n : ℕ) (f g : ℕ → ℕ) → ((k : ℕ) → 1 ≤ k → k ≤ n → f k ≡ g k) → sum_to n f ≡ sum_to n g
unfolding sum_to
sum_ext zero f g h = refl
sum_ext (suc n) f g h =
    omega (arith, h (suc n) (omega arith) (omega arith), sum_ext n f g (λ k l u. h k l (omega arith)))

-- term by term
pub sum_add : (n : ℕ) (f g : ℕ → ℕ) → sum_to n (λ k. f k + g k) ≡ sum_to n f + sum_to n g
unfolding sum_to
sum_add zero f g = refl
sum_add (suc n) f g = omega (arith, sum_add n f g)

-- smaller terms, a smaller sum
pub sum_le : (n : ℕ) (f g : ℕ → ℕ) → ((k : ℕ) → 1 ≤ k → k ≤ n → f k ≤ g k) → sum_to n f ≤ sum_to n g
unfolding sum_to
sum_le zero f g h = omega arith
sum_le (suc n) f g h = omega (arith, h (suc n) (omega arith) (omega arith), sum_le n f g (λ k l u. h k l (omega arith)))

-- and strictly so if one term is
pub sum_lt : (n : ℕ) (f g : ℕ → ℕ) (c : ℕ) → 1 ≤ c → c ≤ n → f c < g c → ((k : ℕ) → 1 ≤ k → k ≤ n → f k ≤ g k)
    → sum_to n f < sum_to n g
unfolding sum_to
sum_lt zero f g c l u s h = absurd (omega arith)
sum_lt (suc n) f g c l u s h = split c (suc n)
    (λ e. let t : f (suc n) < g (suc n) = subst (λ k. f k < g k) e s in
    omega (arith, sum_le n f g (λ k l' u'. h k l' (omega arith))))
    (λ d. omega (
      arith,
      h (suc n) (omega arith) (omega arith),
      sum_lt n f g c l (omega arith) s (λ k l' u'. h k l' (omega arith)),
    ))

-- a test counts once at most
pub bit_le : (b : Bool) → bit b ≤ 1
bit_le true = omega arith
bit_le false = omega arith

-- at most n of 1..n pass
pub count_le : (n : ℕ) (p : ℕ → Bool) → count_to n p ≤ n
unfolding sum_to
count_le zero p = omega arith
count_le (suc n) p = omega (arith, count_le n p, bit_le (p (suc n)))

-- one term changes: the sum changes by as much
pub sum_change : (n : ℕ) (f g : ℕ → ℕ) (c : ℕ) → 1 ≤ c → c ≤ n → ((k : ℕ) → k ≢ c → f k ≡ g k)
    → sum_to n f + g c ≡ sum_to n g + f c
unfolding sum_to
sum_change zero f g c l u h = absurd (omega arith)
sum_change (suc n) f g c l u h = go (λ v. sum_change n f g c l v h) (same? c (suc n))
  where
    go : (c ≤ n → sum_to n f + g c ≡ sum_to n g + f c) → (c ≡ suc n) ⊎ (c ≢ suc n)
        → sum_to (suc n) f + g c ≡ sum_to (suc n) g + f c
    go ih (inl e) = omega (arith, sum_ext n f g (λ k l' u'. h k (omega arith)), ap f e, ap g e)
    go ih (inr e) = omega (arith, ih (omega arith), h (suc n) (λ q. e (sym q)))

-- nothing but zeros
pub sum_zero : (n : ℕ) → sum_to n (λ j. 0) ≡ 0
unfolding sum_to
sum_zero zero = refl
sum_zero (suc n) = omega (arith, sum_zero n)

-- double counting: sums in either order
pub sum_swap : (m n : ℕ) (f : ℕ → ℕ → ℕ) → sum_to m (λ i. sum_to n (λ j. f i j)) ≡ sum_to n (λ j. sum_to m (λ i. f i j))
unfolding sum_to
sum_swap zero n f = sym (sum_zero n)
sum_swap (suc m) n f = omega (arith, sum_swap m n f, sum_add n (f (suc m)) (λ j. sum_to m (λ i. f i j)))

-- a test that one number passes is counted once
pub count_one : (n : ℕ) (p : ℕ → Bool) (c : ℕ) → 1 ≤ c → c ≤ n → p c ≡ true → ((k : ℕ) → k ≢ c → p k ≡ false)
    → count_to n p ≡ 1
unfolding sum_to
count_one n p c l u t h =
    omega (arith, sum_change n (λ k. bit (p k)) (λ k. 0) c l u (λ k f. ap bit (h k f)), ap bit t, sum_zero n)

-- q passes wherever p does, and no oftener on 1..n: then p passes wherever q does
pub count_tight : (n : ℕ) (p q : ℕ → Bool) → ((k : ℕ) → T (p k) → T (q k)) → count_to n q ≤ count_to n p → (k : ℕ)
    → 1 ≤ k
    → k ≤ n → T (q k) → T (p k)
count_tight n p q h c k l u t =
    ⊎_elim (λ e. true_T e)
    (λ e. absurd
    (omega (arith, sum_lt n (λ i. bit (p i)) (λ i. bit (q i)) k l u (less e) (λ i a b. le (p i) (q i) (h i)))))
    (ask (p k))
  where
    le : (a b : Bool) → (T a → T b) → bit a ≤ bit b
    le true true f = omega arith
    le true false f = absurd (f tt)
    le false b f = omega arith

    less : p k ≡ false → bit (p k) < bit (q k)
    less e = omega (arith, ap bit e, ap bit (T_true {b = q k} t))
