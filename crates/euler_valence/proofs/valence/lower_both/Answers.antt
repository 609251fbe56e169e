use Rattle.euler_valence.specs.Starts.{less_both}
use Rattle.euler_valence.proofs.valence.lower_both.Goals as goal

pub returns : goal.returns
returns c = let a = c.args in
    less_both a.sh a.links.now a.t c.lower_word.ensures c.lower_word-2.ensures
