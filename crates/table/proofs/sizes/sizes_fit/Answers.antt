use Rattle.std.proofs.Common.{ap, ◌∙◌}
use Rattle.layout.specs.Layout.{length_of}
use Rattle.table.specs.FitLaws.{lengths_fit}
use Rattle.table.proofs.sizes.sizes_fit.Goals as goal

pub returns : goal.returns
returns c = lengths_fit _ _ _ _ _ _ _ _ _ _ _ _ _ c.is_capacity.ensures c.is_capacity-2.ensures
    c.is_capacity-3.ensures c.is_capacity-4.ensures c.is_capacity-5.ensures
    (c.links_length.ensures ∙ ap length_of c.shape_from.ensures)
