use mathlib.Core.Path.{sym, ◌∙◌}
use Rattle.check_shells.specs.ShellsLaws.{whole_free, whole_asked, shells_short}
use Rattle.check_shells.proofs.faces.face_whole.Goals as goal

pub returns-then-s-eq0 : goal.returns-then-s-eq0
returns-then-s-eq0 c = (whole_free _ _ _ _ (sym c.face_solid-s.ensures.0 ∙ c.if-s-eq0.true), c.requires.shells)

pub returns : goal.returns
returns c = let r = c.same_shell.ensures in (
  whole_asked _ _ _ _ c.requires.shells _ _
      c.face_solid-s.ensures.0 c.if-s-eq0.false
      c.leader_of-g.ensures r.0,
  shells_short c.requires.shells r.1,
)
