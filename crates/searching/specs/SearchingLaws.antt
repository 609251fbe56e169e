-- A search by a test that has one answer for each number finds what the definitions say.
use Rattle.std.specs.Prelude.{◌≡◌, Bool, true, false, ℕ, zero, suc, ◌+◌, ◌-◌, ◌≤◌, ◌<◌, T, Option, None, Some}
use Rattle.std.proofs.Common.{sym, subst, ⊎_elim, add_comm, arith}
use Rattle.std.proofs.Math.Nat.{eq-or-lt_of_le}
use Rattle.std.specs.Option.{unwrap_or}
use Rattle.laws.specs.Bools.{T_true, true_T, T_false, false_T}
use Rattle.laws.specs.Search.{all_to, all_at, all_of, any_to, any_at, any_of, least_from, Least, least_from_is}
use Rattle.laws.specs.Search.Least.{none_is, one_is}
use Rattle.laws.specs.Sums.{sum_to, count_to}
use Rattle.searching.specs.Searching.{AllPass, OnePasses, LeastPasses, Adds, Counted}

module _ {answers : ℕ → Bool → Type 0} {n : ℕ} (p : ℕ → Bool) where
  -- all pass
  pub all_by : {r : Bool} → AllPass answers n r
      → ((k : ℕ) → 1 ≤ k → k ≤ n → (b : Bool) → answers k b → b ≡ p k) → r ≡ all_to n p
  all_by {r = true} s h = sym (T_true (all_of n p (λ k l u. true_T (sym (h k l u true (s.found k l u))))))
  all_by {r = false} s h = let f = s.found in
      sym (T_false (λ t. false_T (sym (h f.0 f.1 f.2 false f.3)) (all_at n p t f.0 f.1 f.2)))

  -- one passes
  pub one_by : {r : Bool} → OnePasses answers n r
      → ((k : ℕ) → 1 ≤ k → k ≤ n → (b : Bool) → answers k b → b ≡ p k) → r ≡ any_to n p
  one_by {r = true} s h = let f = s.found in sym
      (T_true (any_of n p f.0 f.1 f.2 (true_T (sym (h f.0 f.1 f.2 true f.3)))))
  one_by {r = false} s h = sym (T_false (λ t. let f = any_at n p t in
      false_T (sym (h f.0 f.1 f.2 false (s.found f.0 f.1 f.2))) f.3))

  -- the least that passes, 0 for none
  pub least_by : {low : ℕ} {r : Option ℕ} → LeastPasses answers low n r
      → ((k : ℕ) → low ≤ k → k ≤ n → (b : Bool) → answers k b → b ≡ p k)
      → unwrap_or r 0 ≡ least_from (n + 1 - low) low p
  least_by {low = low} {r = None} s h = go (least_from_is (n + 1 - low) low p)
    where
      go : Least (n + 1 - low) low p (least_from (n + 1 - low) low p) → 0 ≡ least_from (n + 1 - low) low p
      go (none_is z f) = sym z
      go (one_is l u t f) =
          absurd (false_T (sym (h _ l (omega arith) false (s.found _ l (omega arith)))) (true_T t))
  least_by {low = low} {r = Some r} s h = go (least_from_is (n + 1 - low) low p)
    where
      f : (low ≤ r) × (r ≤ n) × answers r true × ((k : ℕ) → low ≤ k → k < r → answers k false)
      f = s.found

      t : T (p r)
      t = true_T (sym (h r f.0 f.1 true f.2))

      go : Least (n + 1 - low) low p (least_from (n + 1 - low) low p) → r ≡ least_from (n + 1 - low) low p
      go (none_is z g) = absurd (false_T (g r f.0 (omega (arith, f.0, f.1))) t)
      go (one_is l' u' t' g) = omega (arith, lower, upper)
        where
          lower : least_from (n + 1 - low) low p < r → ⊥
          lower d = false_T (sym (h _ l' (omega arith) false (f.3 _ l' d))) (true_T t')

          upper : r < least_from (n + 1 - low) low p → ⊥
          upper d = false_T (g r f.0 d) t

adds_by : {answers : ℕ → Bool → Type 0} (p : ℕ → Bool) (n r : ℕ) → Adds answers n r
    → ((k : ℕ) → 1 ≤ k → k ≤ n → (b : Bool) → answers k b → b ≡ p k) → r ≡ count_to n p
unfolding sum_to
adds_by p zero r e h = e
adds_by p (suc n) r (b, a, m, c, e) h =
    let now : b ≡ p (suc n) = h (suc n) (omega arith) (omega arith) b a in
    let before : m ≡ count_to n p = adds_by p n m c (λ k l u. h k l (omega arith)) in
    rw (e, now, before) (add_comm _ _)

-- how many pass
pub count_by : {answers : ℕ → Bool → Type 0} {n : ℕ} (p : ℕ → Bool) {r : ℕ} → Counted answers n r
    → ((k : ℕ) → 1 ≤ k → k ≤ n → (b : Bool) → answers k b → b ≡ p k) → r ≡ count_to n p
count_by p s h = adds_by p _ _ s.adds h

-- none of low to k passes where none before k does and k does not
pub none_to : (answers : ℕ → Bool → Type 0) {low : ℕ} (k : ℕ) → ((j : ℕ) → low ≤ j → j < k → answers j false)
    → answers k false → (j : ℕ) → low ≤ j → j ≤ k → answers j false
none_to answers k f p j l u = ⊎_elim (λ e. subst (λ i. answers i false) (sym e) p) (λ m. f j l m) (eq-or-lt_of_le u)
