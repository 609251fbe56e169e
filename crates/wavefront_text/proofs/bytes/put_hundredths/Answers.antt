use native.Mathlib.Omega.{arith}
use Rattle.wavefront_text.specs.PutLaws.{place_point, put_hundredths}
use Rattle.wavefront_text.proofs.bytes.put_hundredths.Goals as goal

pub put_byte-tens-requires : goal.put_byte-tens-requires
put_byte-tens-requires c = let h = place_point _ _ _ _ _ (omega arith)
    c.put_number-point.ensures in omega arith

pub put_byte-ones-requires : goal.put_byte-ones-requires
put_byte-ones-requires c = let h = place_point _ _ _ _ _ (omega arith)
    c.put_number-point.ensures in omega arith

pub put_byte-requires : goal.put_byte-requires
put_byte-requires c = let h = place_point _ _ _ _ _ (omega arith)
    c.put_number-point.ensures in omega arith

pub returns : goal.returns
returns c = put_hundredths _ _ _ _ _ _ _ _ _ _ _ _ _ _
    c.put_number-point.ensures c.put_byte-tens.ensures c.put_byte-ones.ensures
    c.put_byte.ensures (omega arith) (omega arith) (omega arith)
