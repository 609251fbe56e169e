-- Clearing: the table with nothing in use.
use Rattle.std.specs.Prelude.{ℕ, ◌-◌, List, ◌∷◌, ℤ, pos, length, set, replicate}
use Rattle.laws.specs.Bools.{pick}
use Rattle.layout.specs.Points.{points_length}
use Rattle.layout.specs.Fields.{head}
use Rattle.layout.specs.Layout.{links_length}
use Rattle.table.specs.declared.clear.ClearAnswer.{ClearAnswer}
use Rattle.table.specs.Sizes.{sizes_fit}

-- the links of an empty table: the five capacities, then zeros to the end
abbrev pub empty_links : ℕ → ℕ → ℕ → ℕ → ℕ → List ℕ
empty_links s f l e v = s ∷ f ∷ l ∷ e ∷ v ∷ replicate (links_length s f l e v - head) 0

-- its points
abbrev pub empty_points : ℕ → List ℤ
empty_points v = replicate (points_length v) (pos 0)

-- the five capacities in the first five words
abbrev pub with_capacities : List ℕ → ℕ → ℕ → ℕ → ℕ → ℕ → List ℕ
with_capacities x s f l e v = set (set (set (set (set x 0 s) 1 f) 2 l) 3 e) 4 v

-- the answer of clearing with the two slices after it
pub record Cleared : Type 0 where
  pub answer : ClearAnswer
  pub links : List ℕ
  pub points : List ℤ

abbrev pub cleared : ℕ → List ℕ → List ℤ → Cleared
cleared refusal x p = record { answer = record { refusal = refusal }; links = x; points = p }

-- an empty table; or refusal 1, and nothing is changed
unfoldable pub clear_of : List ℕ → List ℤ → ℕ → ℕ → ℕ → ℕ → ℕ → Cleared
clear_of x p s f l e v =
    pick (sizes_fit (length x) (length p) s f l e v) (cleared 0 (empty_links s f l e v) (empty_points v))
    (cleared 1 x p)
