use Prim.Native.Nat.{◌≤◌}
use native.Mathlib.Omega.{arith}
use lib.ListN.{length}
use Rattle.std.proofs.Common.{rules}
use Rattle.takedown_search.specs.Sought.{seek_by}
use Rattle.zoghvari_obj.specs.ProgramLaws.{good_small, least_sought, part_written, part_refused}
use Rattle.zoghvari_obj.proofs.program.put_part.Goals as goal

pub seek-s-requires : goal.seek-s-requires
seek-s-requires c = λ k l u. omega (
  arith,
  u,
  (good_small _ _ c.args.points.now c.requires c.shape_of-sh.ensures).solids,
)

pub returns-then-a-ne0 : goal.returns-then-a-ne0
returns-then-a-ne0 c = let a = c.args in
    let room : 38912 ≤ length a.out.now = omega arith in
    let e = least_sought c.shape_of-sh.result a.links.now c.seek-s.result c.shape_of-sh.ensures
    (seek_by _ c.seek-s.ensures.0 (λ k l u b p. search rules)) in record {
      put = part_refused _ a.points.now c.requires
          a.out.now room _ e _ _ _ _ c.obj-a.ensures (omega arith) _ _
          c.put_refusal.ensures.put;
      upper_bound = c.put_refusal.ensures.upper_bound;
    }

pub returns : goal.returns
returns c = let a = c.args in
    let room : 38912 ≤ length a.out.now = omega arith in
    let e = least_sought c.shape_of-sh.result a.links.now c.seek-s.result c.shape_of-sh.ensures
    (seek_by _ c.seek-s.ensures.0 (λ k l u b p. search rules)) in
    let both = part_written _ a.points.now c.requires
    a.out.now room _ e _ _ _ _ c.obj-a.ensures (omega arith) in record { put = both.0; upper_bound = both.1 }
