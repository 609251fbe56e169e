use mathlib.Core.Path.{refl}
use Rattle.euler.specs.EdgeOperators.{mef_links}
use Rattle.euler_effects.specs.Chosen.{half_read, links_of}
use Rattle.euler_effects.proofs.effects.make_face.Goals as goal

pub returns : goal.returns
returns c = links_of _ _ c.args.args.now 5 mef_links c.mef_links.ensures
    c.item_at-a0.ensures.0
    c.item_at-a1.ensures.0
    c.item_at-a2.ensures.0
    (half_read _ _ c.item_at-a3.ensures.0
    c.item_at-a6.ensures.0 c.half_by.ensures.0)
    c.item_at-a4.ensures.0
    c.item_at-a5.ensures.0
    c.item_at-a6.ensures.0 refl
