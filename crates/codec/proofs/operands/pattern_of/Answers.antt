use mathlib.Core.Path.{refl}
use mathlib.Core.Logic.{⊎_elim, inl, inr}
use Rattle.codec.specs.Operands.{pattern, rows}
use Rattle.codec.specs.OperandLaws.{by_row, pattern_none}
use Rattle.codec.proofs.operands.pattern_of.Goals as goal

-- each arm knows which codes it has; the table gives their row by computing

pub returns-in-1 : goal.returns-in-1
unfolding pattern rows
returns-in-1 c = by_row _ _ _ c.in-1.is refl

pub returns-in-2 : goal.returns-in-2
unfolding pattern rows
returns-in-2 c = by_row _ _ _ c.in-2.is refl

pub returns-in-3 : goal.returns-in-3
unfolding pattern rows
returns-in-3 c = by_row _ _ _ c.in-3.is refl

pub returns-in-4 : goal.returns-in-4
unfolding pattern rows
returns-in-4 c = ⊎_elim (λ e. by_row _ _ _ e refl) (⊎_elim (λ e. by_row _ _ _ e refl) (λ e. by_row _ _ _ e refl))
    c.in-4.is

pub returns-in-5 : goal.returns-in-5
unfolding pattern rows
returns-in-5 c = by_row _ _ _ c.in-5.is refl

pub returns-in-7 : goal.returns-in-7
unfolding pattern rows
returns-in-7 c = by_row _ _ _ c.in-7.is refl

pub returns-in-8 : goal.returns-in-8
unfolding pattern rows
returns-in-8 c = by_row _ _ _ c.in-8.is refl

pub returns-in-9 : goal.returns-in-9
unfolding pattern rows
returns-in-9 c = by_row _ _ _ c.in-9.is refl

pub returns-in-10 : goal.returns-in-10
unfolding pattern rows
returns-in-10 c = by_row _ _ _ c.in-10.is refl

pub returns-in-11 : goal.returns-in-11
unfolding pattern rows
returns-in-11 c = by_row _ _ _ c.in-11.is refl

pub returns-in-13 : goal.returns-in-13
unfolding pattern rows
returns-in-13 c = by_row _ _ _ c.in-13.is refl

pub returns-in_default : goal.returns-in_default
returns-in_default c = let r = c.in_default.in_default-own.rest in
    let k13 = r.1 in
    let k11 = r.0.1 in
    let k10 = r.0.0.1 in
    let k9 = r.0.0.0.1 in
    let k8 = r.0.0.0.0.1 in
    let k7 = r.0.0.0.0.0.1 in
    let k5 = r.0.0.0.0.0.0.1 in
    let k4 = r.0.0.0.0.0.0.0.1 in
    let k3 = r.0.0.0.0.0.0.0.0.1 in
    let k2 = r.0.0.0.0.0.0.0.0.0.1 in
    let k1 = r.0.0.0.0.0.0.0.0.0.0.1 in
    pattern_none _ ((
      (
        (((((((((((tt, k1), k2), k3), λ e. k4 (inl e)), k5), λ e. k4 (inr (inl e))), k7), k8), k9), k10), k11),
        λ e. k4 (inr (inr e)),
      ),
      k13,
    ))
