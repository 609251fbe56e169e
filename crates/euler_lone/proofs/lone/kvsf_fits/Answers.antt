use Rattle.std.proofs.Common.{rules, arith, ◌≡◌, ◌∙◌, Bool, ◌&&◌, eqb}
use Rattle.layout.specs.Items.{some}
use Rattle.euler_lone.specs.LoneLaws.{face_after, none_first, none_behind, kvsf_not, kvsf_last}
use Rattle.euler_lone.proofs.lone.kvsf_fits.Goals.{then-f-ne0, else-f-ne0}
use Rattle.euler_lone.proofs.lone.kvsf_fits.Goals as goal

-- the third of three tests in a row
in_a_row : {a p b : Bool} (q : Bool) → a ≡ p → b ≡ (a && q) → b ≡ (p && q)
in_a_row q e g = rw (← e) g

-- the answers name no test of the face behind f, so that it may be written otherwise
pub returns-then-loops_kept-eq1 : goal.returns-then-loops_kept-eq1
returns-then-loops_kept-eq1 c = let a = c.args in let f = c.face_in-f.result in
    let e : c.if-f-ne0.value ≡ (some f && eqb (face_after a.sh a.links.now a.s f) 0) = elim c.if-f-ne0.branch [
      | then-f-ne0 w ↦
          w.value-is
          ∙ none_behind a.sh a.links.now a.s f (omega arith) w.face_after.ensures (search rules) (search rules)
      | else-f-ne0 w ↦ w.value-is ∙ none_first a.sh a.links.now a.s f (omega arith)
    ] in
    kvsf_last a.sh a.links.now a.s f c.face_in-f.ensures.0 _ (in_a_row _ e (search rules)) c.if-loops_kept-eq1.true _ _
    c.face_outer.ensures.0 c.loop_isolated.ensures.0

pub returns-else-loops_kept-eq1 : goal.returns-else-loops_kept-eq1
returns-else-loops_kept-eq1 c = let a = c.args in let f = c.face_in-f.result in
    let e : c.if-f-ne0.value ≡ (some f && eqb (face_after a.sh a.links.now a.s f) 0) = elim c.if-f-ne0.branch [
      | then-f-ne0 w ↦
          w.value-is
          ∙ none_behind a.sh a.links.now a.s f (omega arith) w.face_after.ensures (search rules) (search rules)
      | else-f-ne0 w ↦ w.value-is ∙ none_first a.sh a.links.now a.s f (omega arith)
    ] in
    kvsf_not a.sh a.links.now a.s f c.face_in-f.ensures.0 _ (in_a_row _ e (search rules)) c.if-loops_kept-eq1.false
