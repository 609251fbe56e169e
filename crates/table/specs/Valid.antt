-- A table is valid when the check answers 0: its lengths fit its capacities and the six rules hold.
use Rattle.std.specs.Prelude.{◌≡◌, refl, Bool, true, false, List, ℕ, ℤ}
use Rattle.std.proofs.Common.{ap, arith}
use Rattle.laws.specs.Bools.{pick, split, eqb_other}
use Rattle.layout.specs.Layout.{shape_of}
use Rattle.check_items.specs.Rules.{rule1, rule2, rule3, rule4, rule5, rule6, broken_rule}
use Rattle.table.specs.Sizes.{table_fits}
use Rattle.table.specs.Check.{answer, ruled, check_of}
use Rattle.table.specs.CheckLaws.{checked_fits}

abbrev pub Valid : List ℕ → List ℤ → Type 0
Valid x p = check_of x p ≡ answer 0 0

-- its parts
pub record Parts (x : List ℕ) (p : List ℤ) : Type 0 where
  pub fits : table_fits x p ≡ true
  pub first : rule1 (shape_of x) x p ≡ true
  pub second : rule2 (shape_of x) x ≡ true
  pub third : rule3 (shape_of x) x ≡ true
  pub fourth : rule4 (shape_of x) x ≡ true
  pub fifth : rule5 (shape_of x) x ≡ true
  pub sixth : rule6 (shape_of x) x ≡ true

-- no rule is broken just if all hold
all_hold : (a b c d e f : Bool) → ◌≡◌ {A = ℕ} (pick a (pick b (pick c (pick d (pick e (pick f 0 6) 5) 4) 3) 2) 1) 0
    → (a ≡ true) × (b ≡ true) × (c ≡ true) × (d ≡ true) × (e ≡ true) × (f ≡ true)
all_hold true true true true true true h = (refl, refl, refl, refl, refl, refl)
all_hold true true true true true false h = absurd (omega arith)
all_hold true true true true false f h = absurd (omega arith)
all_hold true true true false e f h = absurd (omega arith)
all_hold true true false d e f h = absurd (omega arith)
all_hold true false c d e f h = absurd (omega arith)
all_hold false b c d e f h = absurd (omega arith)

-- a refusal of 0 is no broken rule
ruled_none : (n : ℕ) → (ruled n).refusal ≡ 0 → n ≡ 0
ruled_none n h = split n 0 (λ e. e) (λ d. let z : ◌≡◌ {A = ℕ} 2 0 = rw (eqb_other d) at h in absurd (omega arith))

pub valid_parts : (x : List ℕ) (p : List ℤ) → Valid x p → Parts x p
unfolding check_of broken_rule
valid_parts x p v =
    let f = checked_fits x p (ap (λ a. a.refusal) v) in
    let n = ruled_none (broken_rule (shape_of x) x p) (ap (λ a. a.refusal) (rw f at v)) in
    let h = all_hold (rule1 (shape_of x) x p) (rule2 (shape_of x) x) (rule3 (shape_of x) x) (rule4 (shape_of x) x)
    (rule5 (shape_of x) x) (rule6 (shape_of x) x) n in
    record { fits = f; first = h.0; second = h.1; third = h.2; fourth = h.3; fifth = h.4; sixth = h.5 }

pub parts_valid : (x : List ℕ) (p : List ℤ) → Parts x p → Valid x p
unfolding check_of broken_rule
parts_valid x p h = rw (h.fits, h.first, h.second, h.third, h.fourth, h.fifth, h.sixth)
