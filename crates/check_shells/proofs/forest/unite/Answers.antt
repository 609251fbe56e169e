use Rattle.check_shells.specs.ForestLaws.{hung_low, hung_high}
use Rattle.check_shells.proofs.forest.unite.Goals as goal

pub returns-then-a-b : goal.returns-then-a-b
returns-then-a-b c = hung_low c.requires.forest
    c.find_root-a.ensures.2 c.find_root-b.ensures.2 _ _ _ _
    c.requires.x_le_most_items.0 c.requires.x_le_most_items.1
    c.find_root-a.ensures.0 c.find_root-b.ensures.0 c.if-a-b.true

pub returns : goal.returns
returns c = hung_high c.requires.forest
    c.find_root-a.ensures.2 c.find_root-b.ensures.2 _ _ _ _
    c.requires.x_le_most_items.0 c.requires.x_le_most_items.1
    c.find_root-a.ensures.0 c.find_root-b.ensures.0 c.if-a-b.false
