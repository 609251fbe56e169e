-- Passes down a column, a function `f` of a record's number, into a list with an entry for each label.
use Rattle.std.specs.Prelude.{ℕ, zero, suc, ◌+◌, List, get_or, set, replicate}
use Rattle.bounds.specs.Bounds.{item_places}

-- an entry for 0 and for each label of 1 to 4,096
abbrev pub blank : List ℕ
blank = replicate item_places 0

-- what g makes of a list for n, then for n - 1, and so on down to 1
unfoldable pub down : (ℕ → List ℕ → List ℕ) → ℕ → List ℕ → List ℕ
down g zero a = a
down g (suc n) a = down g n (g (suc n) a)

-- at each label the least of the records 1 to n that names it: the last that is stored
abbrev pub least_naming : (ℕ → ℕ) → ℕ → List ℕ → List ℕ
least_naming f = down (λ k a. set a (f k) k)

-- at each label how many of the records 1 to n name it
abbrev pub tally : (ℕ → ℕ) → ℕ → List ℕ → List ℕ
tally f = down (λ k a. set a (f k) (get_or a (f k) 0 + 1))

-- at each of 1 to n what the column has there
abbrev pub copied : (ℕ → ℕ) → ℕ → List ℕ → List ℕ
copied f = down (λ k a. set a k (f k))
