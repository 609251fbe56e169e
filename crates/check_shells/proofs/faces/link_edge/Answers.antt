use mathlib.Core.Path.{sym, ◌∙◌}
use native.Mathlib.Omega.{arith}
use borrow.Author.Tests.{not-true, not-false}
use Rattle.check_shells.specs.ShellsLaws.{joins_low, joined_skip, joined_edge}
use Rattle.std.proofs.Common.{ap, not}
use Rattle.check_shells.proofs.faces.link_edge.Goals as goal

pub returns-then-not-here : goal.returns-then-not-here
returns-then-not-here c = joined_skip _ (sym c.edge_joins-here.ensures ∙ not-true _ (ap not c.if-not-here.true))
    c.requires.joined

pub unite-requires : goal.unite-requires
unite-requires c = let low = joins_low _ _ _ _ (sym c.edge_joins-here.ensures
    ∙ not-false _ (ap not c.if-not-here.false))
    c.requires.faces_le_most_items.0 in record {
      forest = c.requires.joined.forest;
      x_le_most_items = (omega (arith, c.side_as-a.ensures.0), omega (arith, c.side_as-b.ensures.0));
    }

pub returns : goal.returns
returns c = joined_edge _ (sym c.edge_joins-here.ensures
    ∙ not-false _ (ap not c.if-not-here.false))
    c.requires.joined
    (rw (
      c.side_as-a.ensures.0,
      c.side_as-b.ensures.0,
    ) at c.unite.ensures)
