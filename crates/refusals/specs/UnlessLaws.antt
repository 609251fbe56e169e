-- What the answer of a test, and what is handed on of it, tells.
use Rattle.std.specs.Prelude.{◌≡◌, ◌≢◌, Bool, true, false, ℕ, Result, Ok, Err, IsErrAnd}
use Rattle.std.proofs.Common.{refl, sym, ap, ◌∙◌, arith}
use Rattle.std.proofs.lemmas.Result.{err_from_is_err_and}
use Rattle.refusals.specs.declared.Refusal.{Refusal}
use Rattle.refusals.specs.declared.Refusal.TheVariants.{Memory, Unsound, BadNumber, BadCode, OutOfRange, ItemFree}
use Rattle.refusals.specs.declared.Refusal.TheVariants.{ItemUsed, ConditionFails, LogFull, NoNumberLeft}
use Rattle.refusals.specs.declared.Refusal.TheVariants.{LogEnded, NotPlain, TextTooLong, LoneLoop}
use Rattle.refusals.specs.Numbers.{number_of, refusal_in, unless}

-- no refusal has the number 0
pub refused_some : (e : Refusal) → number_of e ≢ 0
refused_some Memory z = omega (arith, z)
refused_some (Unsound rule) z = omega (arith, z)
refused_some BadNumber z = omega (arith, z)
refused_some BadCode z = omega (arith, z)
refused_some OutOfRange z = omega (arith, z)
refused_some ItemFree z = omega (arith, z)
refused_some ItemUsed z = omega (arith, z)
refused_some ConditionFails z = omega (arith, z)
refused_some LogFull z = omega (arith, z)
refused_some NoNumberLeft z = omega (arith, z)
refused_some LogEnded z = omega (arith, z)
refused_some NotPlain z = omega (arith, z)
refused_some TextTooLong z = omega (arith, z)
refused_some LoneLoop z = omega (arith, z)

-- a test that held
pub held : (b : Bool) (e : Refusal) (u : Unit {0}) → Ok u ≡ unless b e → b ≡ true
held true e u h = refl
held false e u h = absurd (refused_some e (sym (ap refusal_in h)))

-- what is handed on is the refusal that came
pub handed_on : {A : Type 0} (r : Result A Refusal) (e : Refusal) → IsErrAnd r (λ g. g ≡ e)
    → refusal_in r ≡ number_of e
handed_on r e h = let p = err_from_is_err_and r h in ap refusal_in p.1 ∙ ap number_of p.2

-- a test that did not hold, and what is handed on of it
pub not_held : {A : Type 0} (r : Result A Refusal) (b : Bool) (e d : Refusal) → IsErrAnd r (λ g. g ≡ d)
    → Err d ≡ unless b e → (b ≡ false) × (refusal_in r ≡ number_of e)
not_held r true e d q h = absurd (refused_some d (ap refusal_in h))
not_held r false e d q h = (refl, handed_on r d q ∙ ap refusal_in h)
