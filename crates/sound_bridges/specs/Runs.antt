-- A run: the numbers that a walk along a permutation meets after k, up to a of the same cycle.
use Rattle.std.specs.Prelude.{◌≡◌, refl, ◌≢◌, ◌⊎◌}
use Rattle.std.proofs.Math.Path.{sym}
use Rattle.std.proofs.Common.{ap, ◌∙◌, subst, ⊎_elim}
use Rattle.std.proofs.Math.Logic.{inl, inr}
use Prim.Native.Nat.{ℕ, zero, suc, ◌+◌, ◌-◌, ◌<◌}
use native.Mathlib.Omega.{arith}
use Rattle.laws.specs.Bools.{split, le?}
use Rattle.laws.specs.Permutations.{iter, iter_add, iter_last, iter_in, Perm, inj, soon}
use Rattle.laws.specs.Cycles.{Cycles, forwards}
use Rattle.laws.specs.Exchange.{Till, stop, go}
use Rattle.sound_tables.specs.Walking.{Steps, first_hit, iter_keeps}

-- i is one of the d numbers from x on
abbrev pub Met : (ℕ → ℕ) → ℕ → ℕ → ℕ → Type 0
Met f x d i = (t : ℕ) × (t < d) × (iter f t x ≡ i)

-- it is, or it is not
pub met? : (f : ℕ → ℕ) (d x i : ℕ) → Met f x d i ⊎ ((t : ℕ) → t < d → iter f t x ≢ i)
unfolding iter
met? f zero x i = inr (λ t h. absurd (omega arith))
met? f (suc d) x i = split x i (λ e. inl (0, omega arith, e))
    (λ e. ⊎_elim (λ m. inl (suc m.0, omega (arith, m.1), m.2)) (λ m. inr (later e m)) (met? f d (f x) i))
  where
    -- none of the first and of the others
    later : x ≢ i → ((t : ℕ) → t < d → iter f t (f x) ≢ i) → (t : ℕ) → t < suc d → iter f t x ≢ i
    later e m zero h = e
    later e m (suc t) h = m t (omega arith)

module _ {n : ℕ} {U : ℕ → Type 0} {f lab : ℕ → ℕ} (c : Cycles n U f lab) where
  -- two of one label: from one the other is met in fewer than n steps
  pub run_to : {x y : ℕ} → U x → U y → lab x ≡ lab y → (d : ℕ) × (d < n) × Steps f x y d
  run_to {x} {y} u v e =
      let m = forwards c.perm (c.one x y u v e) in
      let s = soon c.perm m.0.0 m.0.0 x (omega arith) u in
      let r = first_hit f s.0 x y (s.3 ∙ m.0.1) in
      (r.0, omega (arith, r.1, s.1), r.2)

  -- what is met is of the cycle
  pub met_in : {x d i : ℕ} → U x → Met f x d i → U i × (lab i ≡ lab x)
  met_in {x} u m = (subst U m.2 (iter_in c.perm m.0 x u), ap lab (sym m.2) ∙ iter_keeps c m.0 x u)

module _ {n : ℕ} {U : ℕ → Type 0} {f : ℕ → ℕ} (p : Perm n U f) {k a d : ℕ} (u : U k) (s : Steps f (f k) a d) where
  -- k is not met
  pub not_k : Met f (f k) d k → ⊥
  not_k m =
      let e : suc m.0 + (d - suc m.0) ≡ d = omega (arith, m.1) in
      let z : iter f (suc m.0) (f k) ≡ f k = iter_last f m.0 (f k) ∙ ap f m.2 in
      s.first (d - suc m.0) (omega (arith, m.1)) (ap (iter f (d - suc m.0)) (sym z)
      ∙ sym (iter_add f (suc m.0) (d - suc m.0) (f k)) ∙ ap (λ t. iter f t (f k)) e ∙ s.at)

  -- a is not met
  pub not_a : Met f (f k) d a → ⊥
  not_a m = s.first m.0 m.1 m.2

  -- what comes after one that is met is a, or met
  pub met_next : {i : ℕ} → Met f (f k) d i → (f i ≡ a) ⊎ Met f (f k) d (f i)
  met_next {i} m =
      let e : iter f (suc m.0) (f k) ≡ f i = iter_last f m.0 (f k) ∙ ap f m.2 in
      ⊎_elim (λ h. inr (suc m.0, h, e)) (λ h. let q : suc m.0 ≡ d = omega (arith, h, m.1) in
      inl (sym e ∙ ap (λ t. iter f t (f k)) q ∙ s.at)) (le? (suc (suc m.0)) d)

  -- what comes before one that is met is k, or met
  pub met_prev : {i : ℕ} → U i → Met f (f k) d (f i) → (i ≡ k) ⊎ Met f (f k) d i
  unfolding iter
  met_prev {i} v (zero, h, e) = inl (inj p v u (sym e))
  met_prev {i} v (suc t, h, e) =
      inr (t, omega (arith, h), inj p (iter_in p t (f k) (p.f_in k u)) v (sym (iter_last f t (f k)) ∙ e))

  -- the one before a is met, unless the run is empty
  pub met_last : {i : ℕ} → U i → f i ≡ a → f k ≢ a → Met f (f k) d i
  unfolding iter
  met_last {i} v e h = by d s
    where
      -- by the length of the run
      by : (d : ℕ) → Steps f (f k) a d → Met f (f k) d i
      by zero r = absurd (h r.at)
      by (suc t) r =
          (t, omega arith, inj p (iter_in p t (f k) (p.f_in k u)) v (sym (iter_last f t (f k)) ∙ r.at ∙ sym e))

  -- and so is the first
  pub met_first : f k ≢ a → Met f (f k) d (f k)
  unfolding iter
  met_first h = by d s
    where
      -- by the length of the run
      by : (d : ℕ) → Steps f (f k) a d → Met f (f k) d (f k)
      by zero r = absurd (h r.at)
      by (suc t) r = (0, omega arith, refl)

-- a label that no step changes but those from x and from y is y's along the run up to y
pub till_same : {U : ℕ → Type 0} {f lab : ℕ → ℕ} {x y : ℕ} → ((i : ℕ) → U i → U (f i))
    → ((i : ℕ) → U i → i ≢ x → i ≢ y → lab (f i) ≡ lab i) → {i : ℕ} → U i → Till f x y i → lab i ≡ lab y
till_same {lab = lab} stays keep u (stop e) = ap lab e
till_same {lab = lab} stays keep u (go {z} h h' t) = sym (keep z u h h')
    ∙ till_same {lab = lab} stays keep (stays z u) t
