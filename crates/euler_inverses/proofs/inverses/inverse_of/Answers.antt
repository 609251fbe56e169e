use mathlib.Core.Path.{refl, ◌∙◌, ap}
use Rattle.layout.specs.Mate.{mate}
use Rattle.layout.specs.Items.{face_in}
use Rattle.layout.specs.Layout.{next_of}
use Rattle.euler.specs.Surgery.{half_by}
use Rattle.euler.specs.EdgeOperators.{mev_inverse, kev_inverse, mef_inverse, kef_inverse}
use Rattle.euler.specs.EdgeOperators.{kemr_inverse, mekr_inverse, semv_inverse, jekv_inverse}
use Rattle.euler.specs.FaceOperators.{mvsf_inverse, kvsf_inverse, kfmrh_inverse, mfkrh_inverse, rmov_inverse}
use Rattle.euler.specs.Exec.{only_loop, only_vertex}
use Rattle.euler_inverses.specs.Chosen.{mekr_undone, inverse_none}
use Rattle.euler_inverses.specs.Chosen.{inverse_of_one, inverse_of_two, inverse_of_three}
use Rattle.euler_inverses.proofs.inverses.inverse_of.Goals as goal

pub returns-in-1 : goal.returns-in-1
returns-in-1 c = inverse_of_one _ _ _ _ 1 0 (λ _ _ _. mvsf_inverse) c.in-1.is refl
    c.item_at-a0.ensures.0
    c.mvsf_inverse.ensures

pub returns-in-2 : goal.returns-in-2
returns-in-2 c = inverse_of_one _ _ _ _ 2 0
    (λ sh x p s. kvsf_inverse p s (face_in sh x s) (only_loop sh x s) (only_vertex sh x s))
    c.in-2.is refl c.item_at-a0.ensures.0
    c.solid_again.ensures

pub returns-in-3 : goal.returns-in-3
returns-in-3 c = inverse_of_two _ _ _ _ 3 2 4 (λ _ _ _ e w. mev_inverse (half_by e w)) c.in-3.is refl
    c.item_at-a2.ensures.0
    c.item_at-a4.ensures.0
    (c.mev_inverse.ensures ∙ ap mev_inverse c.half_by.ensures.0)

pub returns-in-4 : goal.returns-in-4
returns-in-4 c = inverse_of_one _ _ _ _ 4 0 kev_inverse c.in-4.is refl
    c.item_at-a0.ensures.0
    c.kev_inverse.ensures

pub returns-in-5 : goal.returns-in-5
returns-in-5 c = inverse_of_two _ _ _ _ 5 3 6 (λ _ _ _ e w. mef_inverse (mate (half_by e w))) c.in-5.is refl
    c.item_at-a3.ensures.0 c.item_at-a6.ensures.0
    c.edge_again.ensures

pub returns-in-6 : goal.returns-in-6
returns-in-6 c = inverse_of_one _ _ _ _ 6 0 (λ sh x _. kef_inverse sh x) c.in-6.is refl
    c.item_at-a0.ensures.0
    c.kef_inverse.ensures

pub returns-in-7 : goal.returns-in-7
returns-in-7 c = inverse_of_two _ _ _ _ 7 0 1 (λ sh x _. kemr_inverse sh x) c.in-7.is refl
    c.item_at-a0.ensures.0
    c.item_at-a1.ensures.0
    c.kemr_inverse.ensures

pub returns-in-8 : goal.returns-in-8
returns-in-8 c = inverse_of_three _ _ _ _ 8 4 5 2 (λ _ _ _ e w l. mekr_inverse (half_by e w) l) c.in-8.is refl
    c.item_at-a4.ensures.0
    c.item_at-a5.ensures.0
    c.item_at-a2.ensures.0
    (mekr_undone _ _ _ c.half_by-in-8.ensures.0 c.mekr_inverse.ensures)

pub returns-in-9 : goal.returns-in-9
returns-in-9 c = inverse_of_two _ _ _ _ 9 0 1 (λ sh x _. kfmrh_inverse sh x) c.in-9.is refl
    c.item_at-a0.ensures.0
    c.item_at-a1.ensures.0
    c.kfmrh_inverse.ensures

pub returns-in-10 : goal.returns-in-10
returns-in-10 c = inverse_of_two _ _ _ _ 10 0 1 (λ sh x _. mfkrh_inverse sh x) c.in-10.is refl
    c.item_at-a0.ensures.0
    c.item_at-a1.ensures.0
    c.mfkrh_inverse.ensures

pub returns-in-11 : goal.returns-in-11
returns-in-11 c = inverse_of_one _ _ _ _ 11 0 (λ _ _ _. semv_inverse) c.in-11.is refl
    c.item_at-a0.ensures.0
    c.semv_inverse.ensures

pub returns-in-12 : goal.returns-in-12
returns-in-12 c = inverse_of_one _ _ _ _ 12 0 (λ sh x p k. jekv_inverse sh x p k (next_of sh x k)) c.in-12.is refl
    c.item_at-a0.ensures.0
    c.vertex_again.ensures

pub returns-in-13 : goal.returns-in-13
returns-in-13 c = inverse_of_two _ _ _ _ 13 0 1 (λ sh x _. rmov_inverse sh x) c.in-13.is refl
    c.item_at-a0.ensures.0
    c.item_at-a1.ensures.0
    c.rmov_inverse.ensures

pub returns-in_default : goal.returns-in_default
returns-in_default c = inverse_none _ _ _ _ _ c.in_default.in_default-own.rest c.blank.ensures
