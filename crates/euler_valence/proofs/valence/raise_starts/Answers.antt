use Rattle.euler_valence.specs.Starts.{more_read}
use Rattle.euler_valence.proofs.valence.raise_starts.Goals as goal

pub returns : goal.returns
returns c = more_read _ _ _ c.raise_both.ensures c.coming-t.ensures.0
