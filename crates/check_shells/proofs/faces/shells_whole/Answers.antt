use Rattle.std.proofs.Common.{ap, not}
use Rattle.check_shells.specs.ShellsLaws.{shells_here}
use Rattle.laws.specs.ScanLaws.{all_start, all_turn, all_fail}
use Rattle.check_shells.proofs.faces.shells_whole.Goals as goal

pub loop-k-init : goal.loop-k-init
loop-k-init c = (shells_here c.link_faces.ensures, all_start _)

pub returns-then-not-face_whole : goal.returns-then-not-face_whole
returns-then-not-face_whole c = all_fail _ _ _ _ c.loop-k-test.true c.face_whole.ensures.0
    (ap not c.if-not-face_whole.true)

pub loop-k-preserved : goal.loop-k-preserved
loop-k-preserved c = let r = c.face_whole.ensures in
    (r.1, all_turn _ _ _ c.loop-k.invariant.1 r.0 (ap not c.if-not-face_whole.false))
