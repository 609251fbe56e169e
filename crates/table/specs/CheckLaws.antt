-- The way of the check to its answer, and what a passed check says.
use Rattle.std.specs.Prelude.{◌≡◌, refl, true, List, ℕ, ℤ, Result, Ok, Err}
use Rattle.std.specs.Result.{MatchResult, IsErrAnd}
use Rattle.std.proofs.Common.{⊎_elim, arith}
use Rattle.std.proofs.lemmas.Result.{err_from_is_err_and}
use Rattle.laws.specs.Bools.{ask}
use Rattle.refusals.specs.declared.Rule.{Rule}
use Rattle.refusals.specs.declared.Rule.TheVariants.{Ranges, Names, Either, Joins, Vertices, Shells}
use Rattle.refusals.specs.declared.Refusal.{Refusal}
use Rattle.refusals.specs.declared.Refusal.TheVariants.{Unsound}
use Rattle.refusals.specs.Numbers.{rule_number, refusal_in, rule_in, broken_in}
use Rattle.layout.specs.declared.shape.Shape.{Shape}
use Rattle.layout.specs.Layout.{shape_of}
use Rattle.check_items.specs.Rules.{broken_rule}
use Rattle.table.specs.Sizes.{table_fits}
use Rattle.layout.specs.Small.{Small}
use Rattle.table.specs.SizesLaws.{fits_small}
use Rattle.table.specs.Check.{answer, ruled, check_of}

-- where the lengths fit, the capacities are small
pub check_small : (x : List ℕ) (p : List ℤ) (sh : Shape) → table_fits x p ≡ true → sh ≡ shape_of x → Small sh
check_small x p sh h s = rw s (fits_small x p h)

-- no rule has the number 0
ruled_number : (e : Rule) → answer 2 (rule_number e) ≡ ruled (rule_number e)
ruled_number Ranges = refl
ruled_number Names = refl
ruled_number Either = refl
ruled_number Joins = refl
ruled_number Vertices = refl
ruled_number Shells = refl

-- a broken rule is refused as an unsound table
pub ruled_is : (r : Result (Unit {0}) Rule) (q : Result (Unit {0}) Refusal) {Q : Rule → Refusal → Type 0}
    → MatchResult r (λ x. q ≡ Ok x) (λ e. IsErrAnd q (Q e)) → ((e : Rule) (f : Refusal) → Q e f → f ≡ Unsound e)
    → answer (refusal_in q) (rule_in q) ≡ ruled (broken_in r)
ruled_is (Ok x) q m h = rw m
ruled_is (Err e) q m h = let y = err_from_is_err_and q m in rw (y.1, h e y.0 y.2) (ruled_number e)

-- where the lengths fit, the rules give the answer
pub check_ruled : (x : List ℕ) (p : List ℤ) (sh : Shape) (n : ℕ) → table_fits x p ≡ true → sh ≡ shape_of x
    → n ≡ broken_rule sh x p → ruled n ≡ check_of x p
unfolding check_of
check_ruled x p sh n h s e = rw (h, e, s)

-- a check that does not refuse has found that the lengths fit
pub checked_fits : (x : List ℕ) (p : List ℤ) → (check_of x p).refusal ≡ 0 → table_fits x p ≡ true
unfolding check_of
checked_fits x p e = ⊎_elim (λ t. t) (λ f. let z : ◌≡◌ {A = ℕ} 1 0 = rw f at e in absurd (omega arith))
    (ask (table_fits x p))
