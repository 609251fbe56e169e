-- Parents of the numbers 0 to 4,096, held in an array. The union and find of crate `laws` is over such lists.
use Rattle.std.specs.Prelude.{◌≡◌, ℕ, ◌≤◌, ◌<◌, List, length, get_or}
use Rattle.laws.specs.UnionFind.{Down, root, SameRoots}
use Rattle.bounds.specs.Bounds.{item_places}

-- a number has a parent that is not larger
pub record Forest (p : List ℕ) : Type 0 where
  pub long : length p ≡ item_places
  pub down : Down p

-- the numbers below n are their own parents
pub record Apart (p : List ℕ) (n : ℕ) : Type 0 where
  pub long : length p ≡ item_places
  pub own : (i : ℕ) → i < n → get_or p i 0 ≡ i

-- a walk from x to its root stands at k: shortening p₀ to p has changed no root, and k has the root of x
pub record Climb (p₀ p : List ℕ) (x k : ℕ) : Type 0 where
  pub kept : SameRoots p₀ p
  pub low : k ≤ x
  pub one : root p₀ k ≡ root p₀ x
