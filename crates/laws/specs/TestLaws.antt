-- Two tests of numbers are one test where the numbers lie alike, whichever side they are written on. `omega` takes
-- these laws, so that a test of other numbers is refused, and the same test written the other way round is not.
use Rattle.std.specs.Prelude.{◌≡◌, not, ℕ, ◌+◌, ◌-◌, ◌≤◌, eqb, leb}
use Rattle.std.proofs.Common.{arith, eqb→eq, leb→le, le→leb}
use Rattle.laws.specs.Bools.{same_T, true_T, eqb_same}

-- a and b are as far apart as c and d
pub as_far : (a b c d : ℕ) → a - b + (b - a) ≡ c - d + (d - c) → eqb a b ≡ eqb c d
as_far a b c d h =
    let f : a ≡ b → c ≡ d = omega arith in
    let g : c ≡ d → a ≡ b = omega arith in
    same_T (λ t. true_T (eqb_same (f (eqb→eq a b t)))) (λ t. true_T (eqb_same (g (eqb→eq c d t))))

-- and so for "not equal"
pub as_far_not : (a b c d : ℕ) → a - b + (b - a) ≡ c - d + (d - c) → not (eqb a b) ≡ not (eqb c d)
as_far_not a b c d h = rw (as_far a b c d h)

-- a is above b by as much as c above d
pub as_low : (a b c d : ℕ) → a - b ≡ c - d → leb a b ≡ leb c d
as_low a b c d h =
    let f : a ≤ b → c ≤ d = omega arith in
    let g : c ≤ d → a ≤ b = omega arith in
    same_T (λ t. le→leb c d (f (leb→le a b t))) (λ t. le→leb a b (g (leb→le c d t)))
