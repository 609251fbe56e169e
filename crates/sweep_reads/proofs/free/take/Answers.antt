use mathlib.Core.Path.{refl}
use Rattle.sweep_reads.specs.TakeLaws.{took, left}
use Rattle.sweep_reads.proofs.free.take.Goals as goal

pub returns-then-free : goal.returns-then-free
returns-then-free c = let both = took _ _ _ _ _ _ c.if-free.true refl refl in record
    { value = both.0; out_after = both.1 }

pub returns : goal.returns
returns c = let both = left _ _ _ _ c.if-free.false in record { value = both.0; out_after = both.1 }
