-- A number is groups of seven bits, lowest first, the high bit set on all but the last, at most three. Reading takes
-- any such form, writing takes the fewest groups (document 02, job 1).
use Rattle.std.specs.Prelude.{ℕ, ◌+◌, ◌*◌, ◌/◌, ◌%◌, List, [], ◌∷◌, drop, ltb}
use Rattle.std.specs.Prelude.{Option, Some, None}
use Rattle.laws.specs.Bools.{pick}

-- the third group, `low` the value of the two before it
unfoldable pub third : ℕ → ℕ → List ℕ → Option (ℕ × ℕ)
third at low [] = None
third at low (b ∷ r) = pick (ltb b 128) (Some (low + b * 16384, at + 3)) None

-- the second group, `low` the value of the first
unfoldable pub second : ℕ → ℕ → List ℕ → Option (ℕ × ℕ)
unfolding third
second at low [] = None
second at low (b ∷ r) = pick (ltb b 128) (Some (low + b * 128, at + 2)) (third at (low + b % 128 * 128) r)

-- the first group of the bytes that stand at `at`
unfoldable pub first : ℕ → List ℕ → Option (ℕ × ℕ)
unfolding second
first at [] = None
first at (b ∷ r) = pick (ltb b 128) (Some (b, at + 1)) (second at (b % 128) r)

-- the number that stands at `at` and the place behind it, or none where it is cut off or too long (refusal 3)
unfoldable pub read_number : List ℕ → ℕ → Option (ℕ × ℕ)
unfolding first
read_number s at = first at (drop at s)

-- the bytes of a number below 2 ^ 21, in the fewest groups (of a larger one, three groups of its lowest 21 bits)
unfoldable pub groups : ℕ → List ℕ
groups n =
    pick (ltb n 128) (n ∷ [])
    (pick (ltb n 16384) ((n % 128 + 128) ∷ (n / 128) ∷ [])
    ((n % 128 + 128) ∷ (n / 128 % 128 + 128) ∷ (n / 16384 % 128) ∷ []))

-- what follows a number that was read, or a refusal
abbrev pub on_num {ℓ} : {X : Type ℓ} → Option (ℕ × ℕ) → (ℕ → ℕ → X) → X → X
on_num (Some (n, next)) got bad = got n next
on_num None got bad = bad
