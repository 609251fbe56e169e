use Rattle.kernel.specs.Kernel.{counted_keeps}
use Rattle.kernel.proofs.zoghvari_count.Goals as goal

pub returns : goal.returns
returns c = (c.count.ensures, counted_keeps _ _ _ c.count.ensures)
