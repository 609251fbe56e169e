-- A slip that a definition could have, as a row: what the definition says at a small example, and what it would say
-- there with the slip. The second is a literal or is said by definitions that the slip leaves alone, so that with the
-- slip in the definition the two would be equal, and the row would not hold.
use Rattle.std.proofs.Common.{subst, T_not}
use Rattle.std.specs.Prelude.{◌≢◌, Bool, true, not, ◌&&◌, List, [], ◌∷◌, map, ℕ, T, eqb, ℤ}
use Rattle.std.proofs.Math.Dec.{eqb_refl}
use Rattle.laws.specs.Bools.{and_T, T_and}
use Rattle.codec.specs.Operands.{zig}
use Rattle.script.specs.Examples.{same}

-- what the definition says at an example, and what it would say with the slip
pub record Slip : Type 0 where
  pub is : List ℕ
  pub slip : List ℕ

-- a row of the two
abbrev pub row : List ℕ → List ℕ → Slip
row is slip = record { is = is; slip = slip }

-- coordinates as they travel, which tells any two apart
abbrev pub signed : List ℤ → List ℕ
signed p = map zig p

-- ---- rows that differ

-- the test: in each row the two lists differ
abbrev pub apart : List Slip → Bool
apart [] = true
apart (r ∷ rs) = not (same r.is r.slip) && apart rs

-- the fact: in no row is what the definition says what it would say with the slip
abbrev pub Differ : List Slip → Type 0
Differ [] = Unit {0}
Differ (r ∷ rs) = (r.is ≢ r.slip) × Differ rs

-- a list passes the test of equality with itself
same_refl : (ms : List ℕ) → T (same ms ms)
same_refl [] = tt
same_refl (m ∷ ms) = T_and (eqb m m) (same ms ms) (eqb_refl m) (same_refl ms)

-- so two lists that do not pass it are not equal
two_lists : (ms ns : List ℕ) → T (not (same ms ns)) → ms ≢ ns
two_lists ms ns t e = T_not (same ms ns) t (subst (λ l. T (same ms l)) e (same_refl ms))

-- from the test to the fact
pub apart_differ : (rs : List Slip) → T (apart rs) → Differ rs
apart_differ [] t = tt
apart_differ (r ∷ rs) t =
    let s = and_T (not (same r.is r.slip)) (apart rs) t in
    (two_lists r.is r.slip s.0, apart_differ rs s.1)
