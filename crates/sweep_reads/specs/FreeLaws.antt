-- The free numbers by a test that answers by a relation, as the code goes over them.
use Rattle.std.specs.Prelude.{◌≡◌, Bool, List, ℕ, ◌≤◌}
use Rattle.chains.specs.Ranked.{Filled}

-- the numbers 1 to n are filled in by every test that the answers agree with
abbrev pub FilledBy : (ℕ → Bool → Type 0) → ℕ → ℕ → List ℕ → ℕ → Type 0
FilledBy answers n size out count =
    (p : ℕ → Bool) → ((k : ℕ) → 1 ≤ k → k ≤ n → (b : Bool) → answers k b → b ≡ p k) → Filled p n size out count
