-- Walks that compute, with fuel, and the cycles that they speak of: what is met from a number, the run between two
-- numbers as a test and as a loop of code walks it, and the tests over 1..n that say what `Cycles` says.
use Rattle.std.specs.Prelude.{◌≡◌, refl, ◌≢◌, Bool, true, false, not, ◌||◌, List, [], ◌∷◌, T, eqb, leb}
use Rattle.std.proofs.Common.{sym, ap, ◌∙◌, subst, arith, eqb→eq, leb→le}
use Rattle.std.proofs.Math.Logic.{⊎_elim}
use Rattle.std.proofs.lemmas.Bool.{false≢true}
use Prim.Native.Nat.{ℕ, zero, suc, ◌+◌, ◌-◌, ◌≤◌, ◌<◌}
use Rattle.std.proofs.Math.Dec.{le→leb}
use Rattle.laws.specs.Bools.{pick, le?, T_true, true_T, eqb_same, eqb_other, split, allb, All, allb_T, T_allb}
use Rattle.laws.specs.Bools.{imp_T, T_imp}
use Rattle.laws.specs.Search.{all_to, all_at, all_of}
use Rattle.laws.specs.Permutations.{iter, iter_add, iter_last, Perm, inj, iter_in, iter_inj, soon}
use Rattle.laws.specs.Linked.{Linked, same, link, back, via}
use Rattle.laws.specs.Cycles.{Cycles, Step, forwards}
use Rattle.laws.specs.Exchange.{Till, stop, go, either, till_steps}

-- from z on, y is met before x (a Till that computes)
unfoldable pub first : (ℕ → ℕ) → ℕ → ℕ → ℕ → ℕ → Bool
first f zero x y z = false
first f (suc n) x y z = pick (eqb z y) true (pick (eqb z x) false (first f n x y (f z)))

module _ (f : ℕ → ℕ) (n x : ℕ) {y z : ℕ} where
  -- at y the answer is yes
  pub first_at : z ≡ y → first f (suc n) x y z ≡ true
  unfolding first
  first_at e = rw (eqb_same e, first)

  -- at x, which is not y, it is no
  pub first_no : z ≢ y → z ≡ x → first f (suc n) x y z ≡ false
  unfolding first
  first_no h e = rw (eqb_other h, eqb_same e, first)

  -- elsewhere the walk goes on
  pub first_on : z ≢ y → z ≢ x → first f (suc n) x y z ≡ first f n x y (f z)
  unfolding first
  first_on h k = rw (eqb_other h, eqb_other k, first)

-- what the test finds is so
pub first_till : (f : ℕ → ℕ) (n x y z : ℕ) → first f n x y z ≡ true → Till f x y z
unfolding first
first_till f zero x y z t = absurd (false≢true t)
first_till f (suc n) x y z t = split z y (λ e. stop e) λ h. split z x
    (λ e. absurd (false≢true (sym (first_no f n x h e) ∙ t)))
    λ k. go k h (first_till f n x y (f z) (sym (first_on f n x h k) ∙ t))

-- if y is met after m steps, m + 1 are enough to see it
pub till_first : (f : ℕ → ℕ) (n m x y z : ℕ) → m < n → iter f m z ≡ y → Till f x y z → first f n x y z ≡ true
unfolding iter
till_first f zero m x y z l e t = absurd (omega arith)
till_first f (suc n) m x y z l e (stop d) = first_at f n x d
till_first f (suc n) zero x y z l e (go h k t) = absurd (k e)
till_first f (suc n) (suc m) x y z l e (go h k t) = first_on f n x k h ∙ till_first f n m x y (f z) (omega arith) e t

-- j is met from s within n steps
unfoldable pub meets : (ℕ → ℕ) → ℕ → ℕ → ℕ → Bool
meets f zero s j = false
meets f (suc n) s j = pick (eqb s j) true (meets f n (f s) j)

-- at j the answer is yes
pub meets_at : (f : ℕ → ℕ) (n : ℕ) {s j : ℕ} → s ≡ j → meets f (suc n) s j ≡ true
unfolding meets
meets_at f n e = rw (eqb_same e, meets)

-- elsewhere the walk goes on
pub meets_on : (f : ℕ → ℕ) (n : ℕ) {s j : ℕ} → s ≢ j → meets f (suc n) s j ≡ meets f n (f s) j
unfolding meets
meets_on f n h = rw (eqb_other h, meets)

-- what the test finds is so many steps away
pub meets_iter : (f : ℕ → ℕ) (n s j : ℕ) → meets f n s j ≡ true → (m : ℕ) × (m < n) × (iter f m s ≡ j)
unfolding meets iter
meets_iter f zero s j t = absurd (false≢true t)
meets_iter f (suc n) s j t = split s j (λ e. (0, omega arith, e)) λ h.
    let r = meets_iter f n (f s) j (sym (meets_on f n h) ∙ t) in (suc r.0, omega (arith, r.1), r.2)

-- and what is fewer than n steps away is found
pub iter_meets : (f : ℕ → ℕ) (n m s j : ℕ) → m < n → iter f m s ≡ j → meets f n s j ≡ true
unfolding iter
iter_meets f zero m s j l e = absurd (omega arith)
iter_meets f (suc n) zero s j l e = meets_at f n e
iter_meets f (suc n) (suc m) s j l e = split s j (λ d. meets_at f n d) λ h. meets_on f n h
    ∙ iter_meets f n m (f s) j (omega arith) e

-- in a permutation of 1..n, what is met at all is met within n steps
pub met_soon : {n : ℕ} {U : ℕ → Type 0} {f : ℕ → ℕ} {s j : ℕ} → Perm n U f → U s → (m : ℕ) → iter f m s ≡ j
    → meets f n s j ≡ true
met_soon {n} {f = f} {s} {j} p u m e = let r = soon p m m s (omega arith) u in
    iter_meets f n r.0 s j r.1 (r.3 ∙ e)

-- along f from one in use, all are linked
pub chain : {U : ℕ → Type 0} {f : ℕ → ℕ} → ((i : ℕ) → U i → U (f i)) → (m s : ℕ) → U s
    → Linked (Step U f) s (iter f m s)
unfolding iter
chain c zero s u = same refl
chain {f = f} c (suc m) s u = via (f s) (link (u, refl)) (chain c m (f s) (c s u))

-- if each is met from its label's representative, those of one label are in one cycle
pub met_cycles : {n : ℕ} {U : ℕ → Type 0} {f lab : ℕ → ℕ} → Perm n U f → ((i : ℕ) → U i → lab (f i) ≡ lab i)
    → (rep : ℕ → ℕ) → ((i : ℕ) → U i → U (rep (lab i)))
    → ((i : ℕ) → U i → meets f n (rep (lab i)) i ≡ true) → Cycles n U f lab
met_cycles {n} {U} {f} {lab} p keeps rep rooted met = record {
  perm = p;
  keeps = keeps;
  one = λ i j v w e. via (rep (lab i)) (back (from i v))
      (subst (λ k. Linked (Step U f) k j) (ap rep (sym e)) (from j w));
}
  where
    from : (i : ℕ) → U i → Linked (Step U f) (rep (lab i)) i
    from i v = let r = meets_iter f n (rep (lab i)) i (met i v) in
        subst (Linked (Step U f) (rep (lab i))) r.2 (chain p.f_in r.0 (rep (lab i)) (rooted i v))

-- and back: n steps are enough for each walk
pub cycles_met : {n : ℕ} {U : ℕ → Type 0} {f lab : ℕ → ℕ} → Cycles n U f lab → (rep : ℕ → ℕ)
    → ((i : ℕ) → U i → U (rep (lab i)) × (lab (rep (lab i)) ≡ lab i))
    → (i : ℕ) → U i → meets f n (rep (lab i)) i ≡ true
cycles_met {n} {U} {f} {lab} c rep rooted i v =
    let m = forwards c.perm (c.one (rep (lab i)) i (rooted i v).0 v (rooted i v).1) in
    met_soon c.perm (rooted i v).0 m.0.0 m.0.1

-- ---- the same as tests over 1..n

-- i is of 1..n and in use
abbrev pub Used : ℕ → (ℕ → Bool) → ℕ → Type 0
Used n u i = (1 ≤ i) × (i ≤ n) × T (u i)

-- the tests of one number: f leads to a number of 1..n in use, g leads back, and the label is kept
abbrev pub step_tests : ℕ → (ℕ → Bool) → (ℕ → ℕ) → (ℕ → ℕ) → (ℕ → ℕ) → ℕ → List Bool
step_tests n u f g lab i = leb 1 (f i) ∷ leb (f i) n ∷ u (f i) ∷ eqb (g (f i)) i ∷ eqb (lab (f i)) (lab i) ∷ []

-- each number in use passes them
unfoldable pub all_step : ℕ → (ℕ → Bool) → (ℕ → ℕ) → (ℕ → ℕ) → (ℕ → ℕ) → Bool
all_step n u f g lab = all_to n (λ i. not (u i) || allb (step_tests n u f g lab i))

-- each number in use is met from its label's representative
unfoldable pub all_met : ℕ → (ℕ → Bool) → (ℕ → ℕ) → (ℕ → ℕ) → (ℕ → ℕ) → Bool
all_met n u f rep lab = all_to n (λ k. not (u k) || meets f n (rep (lab k)) k)

module _ (n : ℕ) (u : ℕ → Bool) (f g lab : ℕ → ℕ) where
  -- the facts of one number
  facts : T (all_step n u f g lab) → (i : ℕ) → Used n u i → All (step_tests n u f g lab i)
  unfolding all_step
  facts t i v = allb_T (step_tests n u f g lab i) (imp_T (u i) _ (all_at n _ t i v.0 v.1) v.2)

  -- the first test says that f permutes the numbers in use
  pub steps_perm : T (all_step n u f g lab) → Perm n (Used n u) f
  steps_perm t = record {
    low = λ i v. v.0;
    high = λ i v. v.1;
    f_in = λ i v. let a = facts t i v in (leb→le _ _ a.0, leb→le _ _ a.1.0, a.1.1.0);
    inv = g;
    undo = λ i v. eqb→eq _ _ (facts t i v).1.1.1.0;
  }

  -- and keeps labels
  pub steps_keep : T (all_step n u f g lab) → (i : ℕ) → Used n u i → lab (f i) ≡ lab i
  steps_keep t i v = eqb→eq _ _ (facts t i v).1.1.1.1.0

  -- and back
  pub perm_steps : Perm n (Used n u) f → ((i : ℕ) → Used n u i → g (f i) ≡ i)
      → ((i : ℕ) → Used n u i → lab (f i) ≡ lab i) → T (all_step n u f g lab)
  unfolding all_step
  perm_steps p gf keeps = all_of n _ λ i l h. T_imp (u i) _ λ t.
      let v : Used n u i = (l, h, t) in
      let w = p.f_in i v in
      T_allb (step_tests n u f g lab i) (
        le→leb _ _ w.0,
        (le→leb _ _ w.1, (w.2, (true_T (eqb_same (gf i v)), (true_T (eqb_same (keeps i v)), tt)))),
      )

module _ (n : ℕ) (u : ℕ → Bool) (f rep lab : ℕ → ℕ) where
  -- the second test says that each is met
  pub met_at : T (all_met n u f rep lab) → (i : ℕ) → Used n u i → meets f n (rep (lab i)) i ≡ true
  unfolding all_met
  met_at t i v = T_true (imp_T (u i) _ (all_at n _ t i v.0 v.1) v.2)

  -- and back
  pub met_of : ((i : ℕ) → Used n u i → meets f n (rep (lab i)) i ≡ true) → T (all_met n u f rep lab)
  unfolding all_met
  met_of h = all_of n _ (λ i l r. T_imp (u i) _ (λ t. true_T (h i (l, r, t))))

  -- both tests say what `Cycles` says
  pub cycles_of : (g : ℕ → ℕ) → ((i : ℕ) → Used n u i → Used n u (rep (lab i))) → T (all_step n u f g lab)
      → T (all_met n u f rep lab) → Cycles n (Used n u) f lab
  cycles_of g rooted s t = met_cycles (steps_perm n u f g lab s) (steps_keep n u f g lab s) rep rooted (met_at t)

  -- and back
  pub of_cycles : (g : ℕ → ℕ) → ((i : ℕ) → Used n u i → Used n u (rep (lab i)) × (lab (rep (lab i)) ≡ lab i))
      → ((i : ℕ) → Used n u i → g (f i) ≡ i)
      → Cycles n (Used n u) f lab → T (all_step n u f g lab) × T (all_met n u f rep lab)
  of_cycles g rooted gf c = (perm_steps n u f g lab c.perm gf c.keeps, met_of (cycles_met c rep rooted))

-- ---- the run after k up to a, as a test: of the numbers of k's cycle, those from which a is met before k

module _ {n : ℕ} {U : ℕ → Type 0} {f lab : ℕ → ℕ} (c : Cycles n U f lab) {k a q : ℕ} (uk : U k) (ua : U a) (uq : U q)
    (qa : f q ≡ a) (ka : k ≢ a) (one : lab k ≡ lab a) where
  -- from a number other than a: where a is met before k, its predecessor q is
  to_run : {i : ℕ} → U i → i ≢ a → Till f k a i → Till f k q i
  to_run u h (stop e) = absurd (h e)
  to_run u h (go {z} p p' t) =
      split z q (λ e. stop e) λ g. go p g (to_run (c.perm.f_in z u) (λ e. g (inj c.perm u uq (e ∙ sym qa))) t)

  -- and where k is met before a, k is met before q
  to_rest : {i : ℕ} → U i → i ≢ a → Till f a k i → Till f q k i
  to_rest u h (stop e) = stop e
  to_rest u h (go {z} p p' t) = split z q (λ e. absurd (not_here (subst (Till f a k) (ap f e ∙ qa) t))) λ g. go g p'
      (to_rest (c.perm.f_in z u) (λ e. g (inj c.perm u uq (e ∙ sym qa))) t)
    where
      not_here : Till f a k a → ⊥
      not_here (stop e) = ka (sym e)
      not_here (go g g' s) = g refl

  -- a is met from each number of its cycle
  ahead : (i : ℕ) → U i → lab i ≡ lab k → (m : ℕ) × (iter f m i ≡ a)
  ahead i u e = (forwards c.perm (c.one i a u ua (e ∙ one))).0

  -- what the test says, either way
  pub run_yes : (i : ℕ) → U i → i ≢ a → lab i ≡ lab k → first f n k a i ≡ true → Till f k q i
  run_yes i u h e t = to_run u h (first_till f n k a i t)

  -- the test says no: on the rest
  pub run_no : (i : ℕ) → U i → i ≢ a → lab i ≡ lab k → first f n k a i ≡ false → Till f q k i
  run_no i u h e t =
      ⊎_elim (λ s. absurd (seen s)) (λ s. to_rest u h s) (either f k a ka (ahead i u e).0 i (ahead i u e).1)
    where
      seen : Till f k a i → ⊥
      seen s =
          let r = ahead i u e in
          let w = soon c.perm r.0 r.0 i (omega arith) u in
          false≢true (sym t ∙ till_first f n w.0 k a i w.1 (w.3 ∙ r.1) s)

-- ---- the run as a loop of code walks it: from f k on, step by step, until a

module _ {n : ℕ} {U : ℕ → Type 0} {f lab : ℕ → ℕ} (c : Cycles n U f lab) {k a : ℕ} (uk : U k) (ka : k ≢ a)
    -- a is met for the first time after d steps from f k
    (d : ℕ) (at-d : iter f d (f k) ≡ a) (first_d : (t : ℕ) → t < d → iter f t (f k) ≢ a) where
  -- f k is in use
  ufk : U (f k)
  ufk = c.perm.f_in k uk

  -- k is not met on the way: the walk would begin again
  no_k : (t : ℕ) → t < d → iter f t (f k) ≢ k
  no_k t l e = first_d (d - suc t) (omega arith) (ap (iter f (d - suc t)) (sym (iter_last f t (f k) ∙ ap f e))
      ∙ sym (iter_add f (suc t) (d - suc t) (f k)) ∙ ap (λ m. iter f m (f k)) steps ∙ at-d)
    where
      steps : suc t + (d - suc t) ≡ d
      steps = omega arith

  -- what the walk meets is on the run
  pub walk_till : (r t : ℕ) → t + r ≡ d → Till f k a (iter f t (f k))
  walk_till zero t e = stop (ap (λ m. iter f m (f k)) same_t ∙ at-d)
    where
      same_t : t ≡ d
      same_t = omega arith
  walk_till (suc r) t e =
      go (no_k t (omega arith)) (first_d t (omega arith))
      (subst (Till f k a) (iter_last f t (f k)) (walk_till r (suc t) (omega arith)))

  -- and the walk meets all of the run
  pub till_walk : (i : ℕ) → U i → i ≢ a → Till f k a i → (t : ℕ) × (t < d) × (iter f t (f k) ≡ i)
  unfolding iter
  till_walk i u h s = from (till_steps s)
    where
      from : ((e : ℕ) × (iter f e i ≡ a) × ((t : ℕ) → t < e → iter f t i ≢ k)) → (t : ℕ) × (t < d)
          × (iter f t (f k) ≡ i)
      from r = ⊎_elim near (λ l. absurd (r.2 (r.0 - suc d) (omega arith) (far l))) (le? r.0 d)
        where
          some_step : 1 ≤ r.0
          some_step = split r.0 0 (λ z. absurd (h (sym (ap (λ m. iter f m i) z) ∙ r.1))) (λ z. omega arith)

          near : r.0 ≤ d → (t : ℕ) × (t < d) × (iter f t (f k) ≡ i)
          near l =
              let steps : d - r.0 + r.0 ≡ d = omega arith in (
                d - r.0,
                omega (arith, some_step),
                iter_inj c.perm r.0 _ i (iter_in c.perm (d - r.0) (f k) ufk) u
                    (sym (iter_add f (d - r.0) r.0 (f k)) ∙ ap (λ m. iter f m (f k)) steps ∙ at-d ∙ sym r.1),
              )

          far : d < r.0 → iter f (r.0 - suc d) i ≡ k
          far l =
              let steps : r.0 - suc d + suc d ≡ r.0 = omega arith in
              iter_inj c.perm (suc d) _ k (iter_in c.perm (r.0 - suc d) i u) uk
              (sym (iter_add f (r.0 - suc d) (suc d) i) ∙ ap (λ m. iter f m i) steps ∙ r.1 ∙ sym at-d)
