-- The take-down is exact wherever it is not refused, and where the mission supposes a free number of each kind.
use Rattle.std.specs.Prelude.{◌≡◌, false, ℕ}
use Rattle.std.proofs.Common.{sym, ap, ◌∙◌, subst, arith}
use Rattle.std.proofs.Common.{le-ltb}
use Rattle.layout.specs.Layout.{shape_of}
use Rattle.table.specs.declared.check.CheckAnswer.{CheckAnswer}
use Rattle.table.specs.Count.{tally_of}
use Rattle.runs.specs.Run.{State}
use Rattle.promises.specs.Checked.{checked_good, good_entry}
use Rattle.takedown.specs.Inversion.{Ended, ended, Inverted, inverted_by}
use Rattle.takedown.specs.Inversion.{short_log, begin}
use Rattle.inversion.specs.Path.{Path, acted}
use Rattle.inversion.specs.Promise.{clear_links, clear_points, Asked, Exact, InversionExact, SpareExact}
use Rattle.inversion.specs.Main.{half_is, course}
use Rattle.inversion.specs.Main.{invert_by_lem}
use Rattle.inversion.specs.Main.{invert_passed, emptied_is}
use Rattle.inversion.specs.Theorem.{spare_done}
use Rattle.inversion.proofs.Whole.{whole}

-- THE TAKE-DOWN IS EXACT
pub inversion_exact : InversionExact
inversion_exact t h eu z =
    let a = invert_passed t z in
    let c = course t h eu a.0 a.1 in
    let l : c.lack ≡ false = sym (ap (λ (e : Ended). e.lack) c.made) ∙ a.2 in
    let m = emptied_is c.stop l in
    let p : Path (shape_of t.links) (clear_links t.links) (clear_points t.links) c.os t.links t.points =
    rw (← m.links, ← m.points) c.path in
    let is = invert_by_lem t _ a.0 a.1 c.made
    ∙ ap (λ b. inverted_by t (ended b (acted (shape_of t.links) (begin t) c.os))) l in
    subst (λ (r : Inverted). Exact t r h) (sym is)
    (whole t h c.os c.start_in c.good p (c.joins m) c.short c.room)

-- enough room, said with the counts
not_short : (t : State) (h : ℕ) → Asked t h → short_log (shape_of t.links) t ≡ false
unfolding tally_of
not_short t h a = rw (half_is _ _ _ _ _ h a.formula) (le-ltb t.start _ (omega (arith, a.room)))

pub spare_exact : SpareExact
spare_exact t h a =
    let g = checked_good t.links t.points a.sound in
    inversion_exact t h a.formula
    (spare_done t a.free (ap (λ (r : CheckAnswer). r.refusal) (good_entry t g a.start_in)) (not_short t h a))
