-- What a search finds: the least number of a range that passes, 0 where none does.
use Rattle.std.specs.Prelude.{◌≡◌, ℕ, ◌≤◌, Bool, Option, None, Some}
use Rattle.std.specs.Option.{unwrap_or}
use Rattle.std.proofs.Common.{◌∙◌, arith}
use Rattle.takedown.specs.Swift.{seek}
use Rattle.searching.specs.Searching.{LeastPasses}
use Rattle.searching.specs.SearchingLaws.{least_by}

-- r is the least of low to n that passes, or 0, for a test that answers by a relation
abbrev pub Sought : (ℕ → Bool → Type 0) → ℕ → ℕ → ℕ → Type 0
Sought answers low n r = (o : Option ℕ) × LeastPasses answers low n o × (r ≡ unwrap_or o 0)

-- for a test that has one answer for each number it is what the definitions seek
pub seek_by : {answers : ℕ → Bool → Type 0} {n low r : ℕ} (p : ℕ → Bool) → Sought answers low n r
    → ((k : ℕ) → low ≤ k → k ≤ n → (b : Bool) → answers k b → b ≡ p k)
    → r ≡ seek n low p
seek_by p (o, s, e) h = e ∙ least_by p s h

-- the number that is found is at most the last
pub found_most : {answers : ℕ → Bool → Type 0} {n low r : ℕ} (o : Option ℕ) → LeastPasses answers low n o
    → r ≡ unwrap_or o 0 → r ≤ n
found_most None s e = omega (arith, e)
found_most (Some m) s e = omega (arith, e, s.found.1)
