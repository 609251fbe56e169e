use native.Mathlib.Omega.{arith}
use Rattle.report.specs.TextLaws.{put_counts}
use Rattle.report.proofs.put_count_line.Goals as goal

pub put_field-h-requires : goal.put_field-h-requires
put_field-h-requires c = omega (
  arith,
  c.requires,
  c.put_field-s.ensures.upper_bound,
  c.put_field-f.ensures.upper_bound,
  c.put_field-l.ensures.upper_bound,
  c.put_field-e.ensures.upper_bound,
  c.put_field-v.ensures.upper_bound,
  c.put_field-r.ensures.upper_bound,
)

pub put_bytes-requires : goal.put_bytes-requires
put_bytes-requires c = omega (
  arith,
  c.requires,
  c.put_field-s.ensures.upper_bound,
  c.put_field-f.ensures.upper_bound,
  c.put_field-l.ensures.upper_bound,
  c.put_field-e.ensures.upper_bound,
  c.put_field-v.ensures.upper_bound,
  c.put_field-r.ensures.upper_bound,
  c.put_field-h.ensures.upper_bound,
)

pub returns : goal.returns
returns c = record {
  value = put_counts _ _ _ _ _ _ _ _ _ _ _ _ _ _ _ _ _ _ _
      c.put_field-s.ensures.value
      c.put_field-f.ensures.value
      c.put_field-l.ensures.value
      c.put_field-e.ensures.value
      c.put_field-v.ensures.value
      c.put_field-r.ensures.value
      c.put_field-h.ensures.value c.put_bytes.ensures;
  upper_bound = omega (
    arith,
    c.put_bytes.ensures.0,
    c.put_field-s.ensures.upper_bound,
    c.put_field-f.ensures.upper_bound,
    c.put_field-l.ensures.upper_bound,
    c.put_field-e.ensures.upper_bound,
    c.put_field-v.ensures.upper_bound,
    c.put_field-r.ensures.upper_bound,
    c.put_field-h.ensures.upper_bound,
  );
}
