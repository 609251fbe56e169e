use mathlib.Core.Path.{refl}
use Rattle.numbers.proofs.write_before.Goals as goal

pub returns : goal.returns
returns c = rw (← c.number_size.ensures)
    (record {
      value = refl;
      out_after = c.write_number.ensures.out_after;
    })
