use mathlib.Core.Path.{refl}
use Rattle.euler.specs.EdgeOperators.{semv_links}
use Rattle.euler_effects.specs.Chosen.{half_read, links_of}
use Rattle.euler_effects.proofs.effects.split_edge.Goals as goal

pub returns : goal.returns
returns c = let z = c.item_at-a0.ensures.0 in
    links_of _ _ c.args.args.now 11
    (λ sh x a k v _ _ _ _. semv_links sh x a k v) c.semv_links.ensures z
    (half_read _ _ c.item_at-a1.ensures.0
    c.item_at-a3.ensures.0 c.half_by.ensures.0)
    c.item_at-a2.ensures.0
    z z z z refl
