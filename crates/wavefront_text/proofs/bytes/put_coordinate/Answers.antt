use native.Mathlib.Omega.{arith}
use Rattle.codec.specs.SignedLaws.{negative, positive}
use Rattle.wavefront_text.specs.PutLaws.{size_held, put_positive, put_negative}
use Rattle.wavefront.specs.Lengths.{range_size}
use Rattle.wavefront_text.proofs.bytes.put_coordinate.Goals as goal

pub put_hundredths-requires : goal.put_hundredths-requires
put_hundredths-requires c = let h = range_size c.args.c c.requires.1 in
    let e = size_held _ _ c.ranges.c c.magnitude.ensures in
    (omega arith, omega (arith, h, e))

pub returns-then-c-lt0 : goal.returns-then-c-lt0
returns-then-c-lt0 c = let z = negative _ c.ranges.c
    c.if-c-lt0.true in
    put_negative c.args.out.now _ _ _ _ _ _ _ z.size
    _ c.args.c z.is
    (size_held _ c.magnitude.result
    c.ranges.c c.magnitude.ensures)
    c.put_byte-place.ensures c.put_byte-digits.ensures
    c.put_hundredths.ensures

pub put_hundredths-requires-2 : goal.put_hundredths-requires-2
put_hundredths-requires-2 c = let h = range_size c.args.c
    c.requires.1 in
    let e = size_held _ _ c.ranges.c
    c.magnitude-2.ensures in
    (omega arith, omega (arith, h, e))

pub returns : goal.returns
returns c = let z = positive _ c.ranges.c c.if-c-lt0.false in
    put_positive c.args.out.now _ _ _ _ _ z.size
    _ c.args.c
    z.is (size_held _ c.magnitude-2.result
    c.ranges.c
    c.magnitude-2.ensures)
    c.put_byte-place.ensures
    c.put_hundredths-2.ensures
