use Rattle.wavefront_entry.specs.RankLaws.{number_none, number_one}
use mathlib.Core.Path.{refl}
use native.Mathlib.Omega.{arith}
use Rattle.wavefront_entry.proofs.ranks.number.Goals as goal

pub returns-then-ranks-v-eq0 : goal.returns-then-ranks-v-eq0
returns-then-ranks-v-eq0 c = number_none c.args.ranks.now _ _ _ refl (omega arith)

pub returns : goal.returns
returns c = number_one c.args.ranks.now _ _ _ _ _ refl (λ e. absurd (omega arith))
    (omega arith) (omega arith)
