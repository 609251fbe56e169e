-- Padded bytes and their shortest form (document 02, job 1). A padded script does what its shortest form does; what is
-- read and written comes back in shortest form.
use Rattle.std.specs.Prelude.{ℕ, zero, suc, ◌+◌, ◌/◌, ◌%◌, Bool, true, false, ◌&&◌, List, [], ◌∷◌, ◌++◌, length, take}
use Rattle.std.specs.Prelude.{drop, leb, eqb}
use Rattle.laws.specs.Bools.{pick}
use Rattle.numbers.specs.Number.{read_number, groups, on_num}

-- n in g groups, for n below 128 ^ g
abbrev pub form : ℕ → ℕ → List ℕ
form zero n = []
form (suc zero) n = n ∷ []
form (suc (suc g)) n = (n % 128 + 128) ∷ form (suc g) (n / 128)

-- at most n numbers in fewest groups
unfoldable pub shorten_for : ℕ → List ℕ → List ℕ
shorten_for zero s = s
shorten_for (suc n) s = on_num (read_number s 0) (λ v next. groups v ++ shorten_for n (drop next s)) s

-- THE SHORTEST FORM of any bytes: number by number from the front, each in its fewest groups, up to the first that is
-- cut off or too long; from there the bytes stay (there are no more numbers than bytes)
unfoldable pub shorten : List ℕ → List ℕ
shorten s = shorten_for (length s) s

-- the same from a place on, as of a log's live part
abbrev pub shorten_from : ℕ → List ℕ → List ℕ
shorten_from at s = take at s ++ shorten (drop at s)

-- IS IT SHORTEST? No byte of 128 or more has a 0 behind it: no number of several groups ends with a group 0
unfoldable pub shortest : List ℕ → Bool
shortest [] = true
shortest (b ∷ []) = true
shortest (b ∷ d ∷ r) = pick (leb 128 b && eqb d 0) false (shortest (d ∷ r))
