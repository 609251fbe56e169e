use Rattle.searching.specs.SearchingLaws.{all_by}
use Rattle.std.proofs.Common.{rules}
use Rattle.wavefront_entry.specs.SolidLaws.{plain_loop, plain_all}
use Rattle.wavefront_entry.proofs.solid.plain.Goals as goal

pub returns : goal.returns
returns c = plain_all c.args.sh c.args.links.now c.args.s _
    (all_by (plain_loop c.args.sh c.args.links.now c.args.s) c.all_pass.ensures (λ k l u b p. search rules))
