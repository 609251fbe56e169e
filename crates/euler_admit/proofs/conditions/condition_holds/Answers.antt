use mathlib.Core.Path.{refl}
use mathlib.Core.Logic.{⊎_elim, inl, inr}
use Rattle.euler.specs.EdgeOperators.{mev_test, kev_test, mef_test, kef_test, kemr_test, mekr_test, jekv_test}
use Rattle.euler.specs.FaceOperators.{kvsf_test, kfmrh_test, mfkrh_test, rmov_test}
use Rattle.euler_admit.specs.Chosen.{condition_at, condition_of, condition_none}
use Rattle.euler_admit.proofs.conditions.condition_holds.Goals as goal

pub returns-in-1 : goal.returns-in-1
returns-in-1 c = ⊎_elim (λ e. condition_at _ _ _ 1 _ _ e refl refl) (λ e. condition_at _ _ _ 11 _ _ e refl refl)
    c.in-1.is

pub returns-in-2 : goal.returns-in-2
returns-in-2 c = let z = c.item_at-a0.ensures.0 in
    condition_of _ _ _ 2 (λ sh x a _ _ _. kvsf_test sh x a) c.in-2.is
    c.kvsf_fits.ensures z z z z refl

pub returns-in-3 : goal.returns-in-3
returns-in-3 c = let z = c.item_at-a0.ensures.0 in
    condition_of _ _ _ 3 (λ sh x a b _ _. mev_test sh x a b) c.in-3.is c.mev_fits.ensures z
    c.item_at-a1.ensures.0 z z refl

pub returns-in-4 : goal.returns-in-4
returns-in-4 c = let z = c.item_at-a0.ensures.0 in
    condition_of _ _ _ 4 (λ sh x a _ _ _. kev_test sh x a) c.in-4.is c.kev_fits.ensures z z z z refl

pub returns-in-5 : goal.returns-in-5
returns-in-5 c = let z = c.item_at-a0.ensures.0 in
    condition_of _ _ _ 5 mef_test c.in-5.is c.mef_fits.ensures z
    c.item_at-a1.ensures.0 c.item_at.ensures.0
    c.item_at-in-5.ensures.0 refl

pub returns-in-6 : goal.returns-in-6
returns-in-6 c = let z = c.item_at-a0.ensures.0 in
    condition_of _ _ _ 6 (λ sh x a _ _ _. kef_test sh x a) c.in-6.is c.kef_fits.ensures z z z z refl

pub returns-in-7 : goal.returns-in-7
returns-in-7 c = let z = c.item_at-a0.ensures.0 in
    condition_of _ _ _ 7 (λ sh x a _ _ _. kemr_test sh x a) c.in-7.is
    c.kemr_fits.ensures z z z z refl

pub returns-in-8 : goal.returns-in-8
returns-in-8 c = let z = c.item_at-a0.ensures.0 in
    condition_of _ _ _ 8 mekr_test c.in-8.is c.mekr_fits.ensures z
    c.item_at-a1.ensures.0 c.item_at-in-8.ensures.0
    c.item_at-in-8-2.ensures.0 refl

pub returns-in-9 : goal.returns-in-9
returns-in-9 c = let z = c.item_at-a0.ensures.0 in
    condition_of _ _ _ 9 (λ sh x a b _ _. kfmrh_test sh x a b) c.in-9.is c.kfmrh_fits.ensures z
    c.item_at-a1.ensures.0 z z refl

pub returns-in-10 : goal.returns-in-10
returns-in-10 c = let z = c.item_at-a0.ensures.0 in
    condition_of _ _ _ 10 (λ sh x a b d _. mfkrh_test sh x a b d) c.in-10.is
    c.mfkrh_fits.ensures z c.item_at-a1.ensures.0
    c.item_at-in-10.ensures.0 z refl

pub returns-in-12 : goal.returns-in-12
returns-in-12 c = let z = c.item_at-a0.ensures.0 in
    condition_of _ _ _ 12 (λ sh x a _ _ _. jekv_test sh x a) c.in-12.is
    c.jekv_fits.ensures z z z z refl

pub returns-in-13 : goal.returns-in-13
returns-in-13 c = let z = c.item_at-a0.ensures.0 in
    condition_of _ _ _ 13 (λ sh x a b _ _. rmov_test sh x a b) c.in-13.is c.rmov_fits.ensures z
    c.item_at-a1.ensures.0 z z refl

pub returns-in_default : goal.returns-in_default
returns-in_default c = let r = c.in_default.in_default-own.rest in
    let k13 = r.1 in
    let k12 = r.0.1 in
    let k10 = r.0.0.1 in
    let k9 = r.0.0.0.1 in
    let k8 = r.0.0.0.0.1 in
    let k7 = r.0.0.0.0.0.1 in
    let k6 = r.0.0.0.0.0.0.1 in
    let k5 = r.0.0.0.0.0.0.0.1 in
    let k4 = r.0.0.0.0.0.0.0.0.1 in
    let k3 = r.0.0.0.0.0.0.0.0.0.1 in
    let k2 = r.0.0.0.0.0.0.0.0.0.0.1 in
    let two = r.0.0.0.0.0.0.0.0.0.0.0.1 in
    condition_none _ _ _
    (((((((((((((tt, λ e. two (inl e)), k2), k3), k4), k5), k6), k7), k8), k9), k10), λ e. two (inr e)), k12), k13)
