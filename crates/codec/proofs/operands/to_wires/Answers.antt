use lib.IntN.{pos}
use Rattle.std.proofs.Common.{rules, ◌≡◌}
use mathlib.Core.Path.{sym, ◌∙◌, refl}
use native.Mathlib.Omega.{arith}
use lib.ListN.{get_or}
use Rattle.codec.specs.Operands.{wire}
use Rattle.codec.specs.OperandLaws.{each_by, made_by}
use Rattle.codec.proofs.operands.to_wires.Goals as goal

pub returns : goal.returns
returns c = let made = c.from_fn.ensures.items in
    let ks = c.well_formed.0.1.0.1 in
    each_by wire c.args.kinds c.args.args c.from_fn.result (pos 0) 0 (c.well_formed.1.0.1.0.1 ∙ sym ks)
    (made.long ∙ sym ks)
    (λ i l. made_by _ (λ f. (f.0.now ≡ c.args.kinds) × (f.1.now ≡ c.args.args))
    (λ i. wire (get_or c.args.kinds i 0) (get_or c.args.args i (pos 0))) _ 0
    (λ p q i y s d. (search rules, search rules)) 8 0 _ (refl, refl) made.each i (omega arith) (rw ks at l))
