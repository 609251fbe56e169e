use mathlib.Core.Path.{refl}
use Rattle.euler.specs.EdgeOperators.{mev_links}
use Rattle.euler_effects.specs.Chosen.{half_read, links_of}
use Rattle.euler_effects.proofs.effects.make_vertex.Goals as goal

pub returns : goal.returns
returns c = let z = c.item_at-a0.ensures.0 in
    links_of _ _ c.args.args.now 3 (λ sh x a b k v _ _ _. mev_links sh x a b k v) c.mev_links.ensures z
    c.item_at-a1.ensures.0
    (half_read _ _ c.item_at-a2.ensures.0
    c.item_at-a4.ensures.0 c.half_by.ensures.0)
    c.item_at-a3.ensures.0 z z z refl
