use mathlib.Core.Path.{refl}
use mathlib.Core.Logic.{inl, inr}
use native.Mathlib.Omega.{arith}
use Rattle.euler_counted.specs.Moved.{moved_at_lem, moved_either, moved_of, moved_none}
use Rattle.layout.specs.Layout.{loop_of, face_outer}
use Rattle.euler.specs.Exec.{only_loop}
use Rattle.euler_counted.proofs.counted.moved_loop.Goals as goal

pub returns-in-2 : goal.returns-in-2
returns-in-2 c = (
  moved_of _ _ _ _ 2 0 only_loop c.in-2.is c.item_at.ensures.0
      c.lone_solid.ensures.any.outer
      refl,
  c.lone_solid.ensures.any.outer_small,
)

pub returns-in-6 : goal.returns-in-6
returns-in-6 c = (
  moved_of _ _ _ _ 6 0 loop_of c.in-6.is c.item_at-in-6.ensures.0
      c.loop_of.ensures.0 refl,
  c.loop_of.ensures.1,
)

pub returns-in-9 : goal.returns-in-9
returns-in-9 c = let e = c.face_outer.ensures in
    (moved_of _ _ _ _ 9 1 face_outer c.in-9.is c.item_at-in-9.ensures.0 e.0 refl, e.1)

pub returns-in-1 : goal.returns-in-1
returns-in-1 c = let e = c.item_at-in-1.ensures in
    (moved_either _ _ _ _ 1 8 _ c.in-1.is e.0 e.0, omega (arith, e.1))

pub returns-in-5 : goal.returns-in-5
returns-in-5 c = let e = c.item_at-in-5.ensures in
    (moved_at_lem _ _ _ _ 5 _ c.in-5.is e.0, omega (arith, e.1))

pub returns-in-7 : goal.returns-in-7
returns-in-7 c = let e = c.item_at-in-7.ensures in
    (moved_at_lem _ _ _ _ 7 _ c.in-7.is e.0, omega (arith, e.1))

pub returns-in-10 : goal.returns-in-10
returns-in-10 c = let e = c.item_at-in-10.ensures in
    (moved_either _ _ _ _ 10 13 _ c.in-10.is e.0 e.0, omega (arith, e.1))

pub returns-in_default : goal.returns-in_default
returns-in_default c = let r = c.in_default.in_default-own.rest in
    let q = r.0.0.0 in (
      moved_none _ _ _ _ (λ e. q.1 (inl e)) q.0.0.0.1 r.0.0.1 q.0.0.1 r.0.1 (λ e. q.1 (inr e))
          q.0.1 (λ e. r.1 (inl e)) (λ e. r.1 (inr e)),
      omega arith,
    )
