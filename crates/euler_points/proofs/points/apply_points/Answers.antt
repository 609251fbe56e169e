use mathlib.Core.Path.{refl}
use mathlib.Core.Logic.{inl, inr}
use Rattle.euler_points.specs.Chosen.{points_at, points_cleared, points_none}
use Rattle.euler_points.proofs.points.apply_points.Goals as goal

pub returns-in-1 : goal.returns-in-1
returns-in-1 c = points_at _ _ _ 1 _ _ c.in-1.is refl cc

pub returns-in-3 : goal.returns-in-3
returns-in-3 c = points_at _ _ _ 3 _ _ c.in-3.is refl cc

pub returns-in-11 : goal.returns-in-11
returns-in-11 c = points_at _ _ _ 11 _ _ c.in-11.is refl cc

pub returns-in-2 : goal.returns-in-2
returns-in-2 c = let b = c.args in
    points_cleared b.points.now _ b.v _ c.in-2.is
    c.clear_point.ensures

pub returns-in_default : goal.returns-in_default
returns-in_default c = let r = c.in_default.in_default-own.rest in
    points_none _ _ _ r.0.0.0.1 (λ e. r.1 (inl e)) r.0.0.1 (λ e. r.1 (inr (inl e))) r.0.1
    (λ e. r.1 (inr (inr e)))
