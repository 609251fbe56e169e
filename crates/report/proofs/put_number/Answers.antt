use native.Mathlib.Omega.{arith}
use Rattle.report.specs.TextLaws.{few_digits, put_digits}
use Rattle.report.proofs.put_number.Goals as goal

pub put_bytes-requires : goal.put_bytes-requires
put_bytes-requires c = let d = c.decimal-count.ensures in
    omega (arith, d.in_bounds, few_digits _ _ d.len c.ranges.n.fits)

pub returns : goal.returns
returns c = let d = c.decimal-count.ensures in record {
  value = put_digits _ _ _ _ _ _ _ d.len d.digits c.put_bytes.ensures;
  upper_bound = omega (
    arith,
    d.in_bounds,
    few_digits _ _ d.len
        c.ranges.n.fits,
  );
}
