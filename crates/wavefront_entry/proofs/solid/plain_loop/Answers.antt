use Rattle.wavefront_entry.specs.SolidLaws.{other_loop, ring_loop, lone_loop, sided_loop_lem}
use native.Mathlib.Omega.{arith}
use Rattle.wavefront_entry.proofs.solid.plain_loop.Goals as goal

pub returns-then-face_solid-s : goal.returns-then-face_solid-s
returns-then-face_solid-s c = let a = c.args in
    other_loop a.sh a.links.now a.s a.l _ _ c.loop_face-f.ensures.0
    c.face_solid.ensures.0 (λ e. absurd (omega arith))

pub returns-then-face_outer-l : goal.returns-then-face_outer-l
returns-then-face_outer-l c = let a = c.args in
    ring_loop a.sh a.links.now a.s a.l _ _ c.loop_face-f.ensures.0
    c.face_solid.ensures.0 (omega arith) _ c.face_outer.ensures.0
    (λ e. absurd (omega arith))

pub returns-then-first-eq0 : goal.returns-then-first-eq0
returns-then-first-eq0 c = let a = c.args in
    lone_loop a.sh a.links.now a.s a.l
    _ _ c.loop_face-f.ensures.0
    c.face_solid.ensures.0 (omega arith)
    _ c.face_outer.ensures.0
    (omega arith) _ c.loop_first-first.ensures.0 (omega arith)

pub returns : goal.returns
returns c = let a = c.args in
    sided_loop_lem a.sh a.links.now a.s a.l
    _ _ c.loop_face-f.ensures.0
    c.face_solid.ensures.0 (omega arith)
    _ c.face_outer.ensures.0
    (omega arith) _ c.loop_first-first.ensures.0 _ (λ e. absurd (omega arith))
    c.three_sides.ensures
