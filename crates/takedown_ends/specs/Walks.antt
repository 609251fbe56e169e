-- The least of what a walk along a loop meets, by a key that each half-edge has.
use Rattle.std.specs.Prelude.{◌≡◌, refl, ◌≢◌, Bool, true, false, List, eqb, ltb, min, max}
use Rattle.std.proofs.Common.{ap}
use Prim.Native.Nat.{ℕ, zero, suc, ◌-◌, ◌≤◌, ◌<◌}
use native.Mathlib.Omega.{arith}
use borrow.Author.Tests.{eq-eqb, ne_eqb, ltb-false}
use Rattle.std.proofs.lemmas.Bool.{ltb-true}
use Rattle.laws.specs.Bools.{pick}
use Rattle.layout.specs.declared.shape.Shape.{Shape}
use Rattle.layout.specs.Layout.{next_of}
use Rattle.layout.specs.Mate.{mate}
use Rattle.takedown.specs.Swift.{lesser, greater, least_mate, least_run}

-- ---- the lesser and the greater

pub min_lesser : (a b : ℕ) → min a b ≡ lesser a b
unfolding lesser
min_lesser a b = go (ltb a b) refl
  where
    go : (t : Bool) → ltb a b ≡ t → min a b ≡ pick t a b
    go true e = omega (arith, ltb-true a b e)
    go false e = omega (arith, ltb-false a b e)

pub max_greater : (a b : ℕ) → max a b ≡ greater a b
unfolding greater
max_greater a b = go (ltb a b) refl
  where
    go : (t : Bool) → ltb a b ≡ t → max a b ≡ pick t b a
    go true e = omega (arith, ltb-true a b e)
    go false e = omega (arith, ltb-false a b e)

-- ---- the walk

-- the least of b and the keys of the half-edges from j up to before stop, at most n of them
unfoldable pub least_met : (ℕ → ℕ) → Shape → ℕ → List ℕ → ℕ → ℕ → ℕ → ℕ
least_met key sh zero x j stop b = b
least_met key sh (suc n) x j stop b = pick (eqb j stop) b (least_met key sh n x (next_of sh x j) stop (min (key j) b))

-- what a walk has found, for a key that answers by a relation
abbrev pub Met : (ℕ → ℕ → Type 0) → Shape → ℕ → List ℕ → ℕ → ℕ → ℕ → ℕ → Type 0
Met answers sh n x j stop b r =
    (key : ℕ → ℕ) → ((i : ℕ) → i < 65536 → (k : ℕ) → answers i k → k ≡ key i) → r ≡ least_met key sh n x j stop b

-- by their mates
pub mates_met : (sh : Shape) (n : ℕ) (x : List ℕ) (j stop b : ℕ)
    → least_met mate sh n x j stop b ≡ least_mate sh n x j stop b
unfolding least_met least_mate
mates_met sh zero x j stop b = refl
mates_met sh (suc n) x j stop b =
    ap (pick (eqb j stop) b)
    (rw (min_lesser (mate j) b) (mates_met sh n x (next_of sh x j) stop (lesser (mate j) b)))

-- by themselves and their mates
pub run_met : (sh : Shape) (n : ℕ) (x : List ℕ) (j stop b : ℕ)
    → least_met (λ i. min i (mate i)) sh n x j stop b ≡ least_run sh n x j stop b
unfolding least_met least_run
run_met sh zero x j stop b = refl
run_met sh (suc n) x j stop b =
    ap (pick (eqb j stop) b)
    (rw (min_lesser (min j (mate j)) b, min_lesser j (mate j))
    (run_met sh n x (next_of sh x j) stop (lesser (lesser j (mate j)) b)))

-- at the end of the run, one step more, no step left
module _ (key : ℕ → ℕ) (sh : Shape) (left : ℕ) (x : List ℕ) (j stop b whole : ℕ)
    (rest : least_met key sh left x j stop b ≡ whole) where
  pub met_stop : 0 < left → j ≡ stop → b ≡ whole
  unfolding least_met
  met_stop h e = let n : left ≡ suc (left - 1) = omega arith in rw (n, eq-eqb j stop e) at rest

  pub met_turn : j ≢ stop → (k : ℕ) → k ≡ key j → (d : ℕ) → d ≡ min k b → (i : ℕ) → i ≡ next_of sh x j
      → (n : ℕ) → left ≡ suc n → least_met key sh n x i stop d ≡ whole
  unfolding least_met
  met_turn e k ek d ed i ei n en = rw (ei, ed, ek) (rw (en, ne_eqb j stop e) at rest)

  pub met_out : left ≤ 0 → b ≡ whole
  unfolding least_met
  met_out h = let n : left ≡ 0 = omega arith in rw n at rest
