use mathlib.Core.Path.{refl}
use native.Mathlib.Omega.{arith}
use Rattle.sweep_puts.specs.Laid.{laid_one}
use Rattle.sweep_puts.proofs.place.put_one.Goals as goal

pub returns : goal.returns
returns c = laid_one _ _ _ _ _ _ _ _ _ c.requires.0
    c.put_bytes-size.ensures.value.0
    c.put_bytes-size.ensures.value.1 (omega arith) c.put_bytes-size.ensures.out_after refl refl
