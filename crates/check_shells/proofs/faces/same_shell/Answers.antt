use Rattle.laws.specs.UnionFind.{same_roots_then}
use Rattle.check_shells.specs.ForestLaws.{same_roots_here, forest_short}
use Rattle.check_shells.specs.ShellsLaws.{faces_low, one_root_none, one_root_found}
use Rattle.std.proofs.Common.{ap, not}
use Rattle.check_shells.proofs.faces.same_shell.Goals as goal

pub returns-then-not-both : goal.returns-then-not-both
returns-then-not-both c = (
  one_root_none _ _ _ c.is_within.ensures c.is_within-2.ensures (ap not c.if-not-both.true) _,
  same_roots_here c.requires.forest.down,
)

pub find_root-a-requires : goal.find_root-a-requires
find_root-a-requires c = let low = faces_low _ _ _ c.is_within.ensures c.is_within-2.ensures
    (ap not c.if-not-both.false) c.requires.faces_le_most_items in
    record {
      forest = c.requires.forest;
      x_le_most_items = low.0;
    }

pub find_root-b-requires : goal.find_root-b-requires
find_root-b-requires c = let low = faces_low _ _ _ c.is_within.ensures
    c.is_within-2.ensures (ap not c.if-not-both.false)
    c.requires.faces_le_most_items in record {
      forest = forest_short c.requires.forest
          c.find_root-a.ensures.2;
      x_le_most_items = low.1;
    }

pub returns : goal.returns
returns c = let s = c.find_root-a.ensures in
    let t = c.find_root-b.ensures in (
      one_root_found _ _ _ c.is_within.ensures
          c.is_within-2.ensures
          (ap not c.if-not-both.false)
          s.2 _ _ s.0 t.0,
      same_roots_then s.2 t.2,
    )
