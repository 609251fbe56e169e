-- A function followed from a number: how far, and that a permutation of finitely many numbers comes back.
use Rattle.std.specs.Prelude.{◌≡◌, refl, ◌≢◌, ◌⊎◌}
use Rattle.std.proofs.Math.Path.{sym, ap}
use Rattle.std.proofs.Common.{◌∙◌, subst, inl, inr, suc-add, zero-add}
use Prim.Native.Nat.{ℕ, zero, suc, ◌+◌, ◌-◌, ◌≤◌, ◌<◌}
use native.Mathlib.Omega.{arith}
use Rattle.laws.specs.Bools.{same?, le?}

-- n steps of f from x
unfoldable pub iter : (ℕ → ℕ) → ℕ → ℕ → ℕ
iter f zero x = x
iter f (suc n) x = iter f n (f x)

-- m steps, then n
pub iter_add : (f : ℕ → ℕ) (m n x : ℕ) → iter f (m + n) x ≡ iter f n (iter f m x)
unfolding iter
iter_add f zero n x = rw (zero-add n)
iter_add f (suc m) n x = rw (suc-add m n) (iter_add f m n (f x))

-- one step more, at the end
pub iter_last : (f : ℕ → ℕ) (n x : ℕ) → iter f (suc n) x ≡ f (iter f n x)
unfolding iter
iter_last f zero x = refl
iter_last f (suc n) x = iter_last f n (f x)

-- ---- pigeonhole: n + 1 numbers of 1..n hold two equal ones

-- two of h 0 .. h n are equal
pub record Twice (n : ℕ) (h : ℕ → ℕ) : Type 0 where
  pub i : ℕ
  pub j : ℕ
  pub i<j : i < j
  pub j≤n : j ≤ n
  pub eq : h i ≡ h j

-- c is one of h 0 .. h n, or none
find : (n c : ℕ) (h : ℕ → ℕ) → ((i : ℕ) × (i ≤ n) × (h i ≡ c)) ⊎ ((i : ℕ) → i ≤ n → h i ≢ c)
find zero c h = go (same? (h 0) c)
  where
    go : (h 0 ≡ c) ⊎ (h 0 ≢ c) → ((i : ℕ) × (i ≤ 0) × (h i ≡ c)) ⊎ ((i : ℕ) → i ≤ 0 → h i ≢ c)
    go (inl e) = inl (0, omega arith, e)
    go (inr e) = inr (λ i l q. e (ap h (omega arith) ∙ q))
find (suc n) c h = go (same? (h (suc n)) c) (find n c h)
  where
    go : (h (suc n) ≡ c) ⊎ (h (suc n) ≢ c) → ((i : ℕ) × (i ≤ n) × (h i ≡ c)) ⊎ ((i : ℕ) → i ≤ n → h i ≢ c)
        → ((i : ℕ) × (i ≤ suc n) × (h i ≡ c)) ⊎ ((i : ℕ) → i ≤ suc n → h i ≢ c)
    go (inl e) r = inl (suc n, omega arith, e)
    go (inr e) (inl r) = inl (r.0, omega (arith, r.1), r.2)
    go (inr e) (inr r) = inr (λ i l. at i l (same? i (suc n)))
      where
        at : (i : ℕ) → i ≤ suc n → (i ≡ suc n) ⊎ (i ≢ suc n) → h i ≢ c
        at i l (inl q) z = e (ap h (sym q) ∙ z)
        at i l (inr q) z = r i (omega arith) z

-- so it is
pub pigeonhole : (n : ℕ) (h : ℕ → ℕ) → ((i : ℕ) → i ≤ n → (1 ≤ h i) × (h i ≤ n)) → Twice n h
pigeonhole zero h b = absurd (omega (arith, b 0 (omega arith)))
pigeonhole (suc n) h b = go (λ k u. pigeonhole n k u) (find n (h (suc n)) h)
  where
    swap : (x : ℕ) → (x ≡ suc n) ⊎ (x ≢ suc n) → ℕ
    swap x (inl e) = h (suc n)
    swap x (inr e) = x

    h' : ℕ → ℕ
    h' i = swap (h i) (same? (h i) (suc n))

    low : ((i : ℕ) → i ≤ n → h i ≢ h (suc n)) → (i : ℕ) → i ≤ n → (q : (h i ≡ suc n) ⊎ (h i ≢ suc n))
        → (1 ≤ swap (h i) q) × (swap (h i) q ≤ n)
    low f i l (inl e) = omega (arith, b (suc n) (omega arith), f i l)
    low f i l (inr e) = omega (arith, b i (omega arith))

    same : ((i : ℕ) → i ≤ n → h i ≢ h (suc n)) → (i j : ℕ) → i ≤ n → j ≤ n
        → (p : (h i ≡ suc n) ⊎ (h i ≢ suc n)) (q : (h j ≡ suc n) ⊎ (h j ≢ suc n))
        → swap (h i) p ≡ swap (h j) q → h i ≡ h j
    same f i j li lj (inl d) (inl e) z = d ∙ sym e
    same f i j li lj (inl d) (inr e) z = absurd (f j lj (sym z))
    same f i j li lj (inr d) (inl e) z = absurd (f i li z)
    same f i j li lj (inr d) (inr e) z = z

    go : ((k : ℕ → ℕ) → ((i : ℕ) → i ≤ n → (1 ≤ k i) × (k i ≤ n)) → Twice n k) → ((i : ℕ) × (i ≤ n) × (h i ≡ h (suc n)))
        ⊎ ((i : ℕ) → i ≤ n → h i ≢ h (suc n)) → Twice (suc n) h
    go ih (inl r) = record { i = r.0; j = suc n; i<j = omega (arith, r.1); j≤n = omega arith; eq = r.2 }
    go ih (inr f) =
        let t : Twice n h' = ih h' (λ i l. low f i l (same? (h i) (suc n))) in
        record {
          i = t.i;
          j = t.j;
          i<j = t.i<j;
          j≤n = omega arith;
          eq =
              same f t.i t.j (omega arith) (omega arith) (same? (h t.i) (suc n)) (same? (h t.j) (suc n))
              t.eq;
        }

-- ---- a permutation of some of the numbers 1..n

-- f maps U, a part of 1..n, into U, and can be undone there
pub record Perm (n : ℕ) (U : ℕ → Type 0) (f : ℕ → ℕ) : Type 0 where
  pub low : (i : ℕ) → U i → 1 ≤ i
  pub high : (i : ℕ) → U i → i ≤ n
  pub f_in : (i : ℕ) → U i → U (f i)
  pub inv : ℕ → ℕ
  pub undo : (i : ℕ) → U i → inv (f i) ≡ i

module _ {n : ℕ} {U : ℕ → Type 0} {f : ℕ → ℕ} (p : Perm n U f) where
  -- different numbers go to different ones
  pub inj : {i j : ℕ} → U i → U j → f i ≡ f j → i ≡ j
  inj {i} {j} u v e = sym (p.undo i u) ∙ ap p.inv e ∙ p.undo j v

  -- steps stay in U
  pub iter_in : (m x : ℕ) → U x → U (iter f m x)
  unfolding iter
  iter_in zero x u = u
  iter_in (suc m) x u = iter_in m (f x) (p.f_in x u)

  -- different numbers stay different after any number of steps
  pub iter_inj : (m x y : ℕ) → U x → U y → iter f m x ≡ iter f m y → x ≡ y
  unfolding iter
  iter_inj zero x y u v e = e
  iter_inj (suc m) x y u v e = inj u v (iter_inj m (f x) (f y) (p.f_in x u) (p.f_in y v) e)

  -- among n + 1 steps two are at one place
  twice : (x : ℕ) → U x → Twice n (λ i. iter f i x)
  twice x u = pigeonhole n (λ i. iter f i x) (λ i l. (p.low _ (iter_in i x u), p.high _ (iter_in i x u)))

  -- it comes back
  pub comes_back : (x : ℕ) → U x → (m : ℕ) × (iter f m (f x) ≡ x)
  unfolding iter
  comes_back x u = go (twice x u)
    where
      go : Twice n (λ i. iter f i x) → (m : ℕ) × (iter f m (f x) ≡ x)
      go t =
          let m : ℕ = t.j - suc t.i in
          let s : t.j ≡ suc m + t.i = omega arith in (
            m,
            sym (iter_inj t.i x (iter f (suc m) x) u (iter_in (suc m) x u) (t.eq ∙ ap (λ k. iter f k x) s
                ∙ iter_add f (suc m) t.i x)),
          )

  -- what is met at all is met within n steps, and no later
  pub soon : (fuel m x : ℕ) → m ≤ fuel → U x → (k : ℕ) × (k < n) × (k ≤ m) × (iter f k x ≡ iter f m x)
  soon zero m x l u = (0, omega (arith, p.low x u, p.high x u), omega arith, ap (λ k. iter f k x) (omega arith))
  soon (suc fuel) m x l u = go (λ k h. soon fuel k x h u) (twice x u) (le? n m)
    where
      go : ((k : ℕ) → k ≤ fuel → (r : ℕ) × (r < n) × (r ≤ k) × (iter f r x ≡ iter f k x)) → Twice n (λ i. iter f i x)
          → (n ≤ m) ⊎ (m < n) → (k : ℕ) × (k < n) × (k ≤ m) × (iter f k x ≡ iter f m x)
      go ih t (inr h) = (m, h, omega arith, refl)
      go ih t (inl h) =
          let d : ℕ = m - t.j in
          let r = ih (t.i + d) (omega arith) in
          let s : t.j + d ≡ m = omega arith in (
            r.0,
            r.1,
            omega (arith, r.2),
            r.3 ∙ iter_add f t.i d x ∙ ap (iter f d) t.eq ∙ sym (iter_add f t.j d x)
                ∙ ap (λ k. iter f k x) s,
          )

  -- so every number of U comes from one of U, and g undoes f on the other side too
  pub onto : (x : ℕ) → U x → (z : ℕ) × U z × (f z ≡ x)
  unfolding iter
  onto x u = let r = comes_back x u in (iter f r.0 x, iter_in r.0 x u, sym (iter_last f r.0 x) ∙ r.1)

  -- what undoes f on one side undoes it on the other
  pub redo : (g : ℕ → ℕ) → ((i : ℕ) → U i → g (f i) ≡ i) → (x : ℕ) → U x → f (g x) ≡ x
  redo g h x u = let r = onto x u in subst (λ y. f (g y) ≡ y) r.2 (ap f (h r.0 r.1))

  -- and it stays in U
  pub undo_in : (g : ℕ → ℕ) → ((i : ℕ) → U i → g (f i) ≡ i) → (x : ℕ) → U x → U (g x)
  undo_in g h x u = let r = onto x u in subst U (sym (h r.0 r.1) ∙ ap g r.2) r.1

  -- so what undoes f is fixed by f on U
  pub inverse_same : (f' g g' : ℕ → ℕ) → ((i : ℕ) → U i → g (f i) ≡ i) → ((i : ℕ) → U i → g' (f' i) ≡ i)
      → ((i : ℕ) → U i → f' i ≡ f i) → (i : ℕ) → U i → g' i ≡ g i
  inverse_same f' g g' h h' e i u =
      let z = onto i u in
      ap g' (sym (e z.0 z.1 ∙ z.2)) ∙ h' z.0 z.1 ∙ sym (h z.0 z.1) ∙ ap g z.2
