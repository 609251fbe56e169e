use Rattle.std.proofs.Common.{ap, ◌∙◌, ◌*◌}
use Rattle.layout.specs.Items.{half_used}
use Rattle.laws.specs.Marks.{all_marked}
use Rattle.check_orbits.proofs.cycles.one_cycle_each.Goals as goal

pub returns : goal.returns
returns g c = λ f h. c.all_marked.ensures
    ∙ ap (all_marked (2 * c.args.sh.edges) (half_used c.args.sh c.args.links.now)) (c.mark_all.ensures f h)
