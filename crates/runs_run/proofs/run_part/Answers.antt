use Rattle.std.proofs.Common.{refl, arith}
use Rattle.runs.specs.RunLaws.{entered_small}
use Rattle.runs.specs.MoveLaws.{part_refused, part_entered}
use Rattle.refusals.specs.UnlessLaws.{refused_some}
use Rattle.promises.specs.Checked.{entered_start, entered_good}
use Rattle.runs_run.proofs.run_part.Goals as goal

pub returns-in-Err : goal.returns-in-Err
returns-in-Err c = rw (c.ran.ensures, c.number.ensures, c.rule.ensures)
    (part_refused _ _ _ _ _ c.in-Err.ensures _ _ _ (refused_some _))

pub ranges_of-most-requires : goal.ranges_of-most-requires
ranges_of-most-requires c = entered_small _ _ _ _ _ c.in_default.ensures refl _ c.shape_of-sh.ensures

pub fill_counts-requires : goal.fill_counts-requires
fill_counts-requires c = entered_small _ _ _ _ _ c.in_default.ensures refl _ c.shape_of-sh.ensures

pub run_some-requires : goal.run_some-requires
run_some-requires c = let e = c.in_default.ensures in
    let h = c.shape_of-sh.ensures in
    let f = c.fill_counts.ensures in record {
      standing = record { good = entered_good _ _ _ _ _ e refl _ h; size = f.1; counted = f.0 };
      most_value = (c.ranges_of-most.ensures, omega (arith, entered_start _ _ _ _ _ e refl _ h));
    }

pub returns : goal.returns
returns c = part_entered _ _ _ _ _ c.in_default.ensures _ _ _ refl _ c.shape_of-sh.ensures _ c.run_some.ensures
