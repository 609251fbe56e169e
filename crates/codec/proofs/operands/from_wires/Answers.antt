use lib.IntN.{pos}
use Rattle.std.proofs.Common.{rules, ◌≡◌}
use mathlib.Core.Path.{sym, ◌∙◌, refl}
use native.Mathlib.Omega.{arith}
use lib.ListN.{get_or}
use Rattle.codec.specs.Operands.{unwire}
use Rattle.codec.specs.OperandLaws.{each_by, made_by}
use Rattle.codec.proofs.operands.from_wires.Goals as goal

pub returns : goal.returns
returns c = let made = c.from_fn.ensures.items in
    let ks = c.well_formed.0.1.0.1 in
    each_by unwire c.args.kinds c.args.numbers c.from_fn.result 0 (pos 0) (c.well_formed.1.0.1.0.1 ∙ sym ks)
    (made.long ∙ sym ks)
    (λ i l. made_by _ (λ f. (f.0.now ≡ c.args.kinds) × (f.1.now ≡ c.args.numbers))
    (λ i. unwire (get_or c.args.kinds i 0) (get_or c.args.numbers i 0)) _ (pos 0)
    (λ p q i y s d. (search rules, search rules)) 8 0 _ (refl, refl) made.each i (omega arith) (rw ks at l))
