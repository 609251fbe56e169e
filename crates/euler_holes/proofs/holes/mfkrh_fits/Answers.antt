use borrow.Author.Tests.{not-true, not-false}
use Rattle.std.proofs.Common.{ap, not, ◌∙◌, arith}
use Rattle.euler_holes.specs.HolesLaws.{mfkrh_outer, mfkrh_within, mfkrh_parts}
use Rattle.euler_holes.proofs.holes.mfkrh_fits.Goals as goal

pub returns-then-not-is_ring : goal.returns-then-not-is_ring
returns-then-not-is_ring c = let a = c.args in
    mfkrh_outer a.sh a.links.now a.l a.f a.s _ c.is_ring.ensures (not-true _ (ap not c.if-not-is_ring.true))

pub returns-then-linked_faces : goal.returns-then-linked_faces
returns-then-linked_faces c = let a = c.args in
    mfkrh_within a.sh a.links.now a.l a.f a.s _ c.is_ring.ensures (not-false _ (ap not c.if-not-is_ring.false))
    _ c.loop_face-old.ensures.0 _ c.linked_faces.ensures c.if-linked_faces.true

pub returns-else-linked_faces : goal.returns-else-linked_faces
returns-else-linked_faces c = let a = c.args in
    grind arith ∙ mfkrh_parts a.sh a.links.now a.l a.f a.s _ c.is_ring.ensures
    (not-false _ (ap not c.if-not-is_ring.false)) _ c.loop_face-old.ensures.0 _ c.linked_faces.ensures
    c.if-linked_faces.false
