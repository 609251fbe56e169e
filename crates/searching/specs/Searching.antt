-- What a search has found, for a test that answers by a relation.
use Rattle.std.specs.Prelude.{◌≡◌, Bool, true, false, ℕ, zero, suc, ◌+◌, ◌≤◌, ◌<◌, Option, MatchBool, MatchOption}
use Rattle.laws.specs.Sums.{bit}

-- true: each of 1 to n passes; false: one doesn't
pub record AllPass (answers : ℕ → Bool → Type 0) (n : ℕ) (r : Bool) : Type 0 where
  pub found : MatchBool r ((k : ℕ) → 1 ≤ k → k ≤ n → answers k true)
      ((k : ℕ) × (1 ≤ k) × (k ≤ n) × answers k false)

-- true: one of 1 to n passes; false: none does
pub record OnePasses (answers : ℕ → Bool → Type 0) (n : ℕ) (r : Bool) : Type 0 where
  pub found : MatchBool r ((k : ℕ) × (1 ≤ k) × (k ≤ n) × answers k true)
      ((k : ℕ) → 1 ≤ k → k ≤ n → answers k false)

-- the least of low to n that passes, or none does
pub record LeastPasses (answers : ℕ → Bool → Type 0) (low n : ℕ) (r : Option ℕ) : Type 0 where
  pub found : MatchOption r ((k : ℕ) → low ≤ k → k ≤ n → answers k false)
      (λ m. (low ≤ m) × (m ≤ n) × answers m true × ((k : ℕ) → low ≤ k → k < m → answers k false))

-- r is what the answers to 1, .., n come to
abbrev pub Adds : (ℕ → Bool → Type 0) → ℕ → ℕ → Type 0
Adds answers zero r = r ≡ 0
Adds answers (suc n) r = (b : Bool) × answers (suc n) b × (m : ℕ) × Adds answers n m × (r ≡ m + bit b)

-- so many of 1 to n pass
pub record Counted (answers : ℕ → Bool → Type 0) (n r : ℕ) : Type 0 where
  pub adds : Adds answers n r
  pub bound : r ≤ n
