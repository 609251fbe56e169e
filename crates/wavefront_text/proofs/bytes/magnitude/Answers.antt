use native.Mathlib.Omega.{arith}
use Rattle.codec.specs.SignedLaws.{negative, positive}
use Rattle.wavefront_text.specs.PutLaws.{size_below, size_above}
use Rattle.wavefront_text.proofs.bytes.magnitude.Goals as goal

pub overflow_sub-result : goal.overflow_sub-result
overflow_sub-result c = let z = negative _ c.ranges.x c.if-x-lt0.true in
    rw z.flipped (record { sfits = z.small })

pub overflow_cast-result : goal.overflow_cast-result
overflow_cast-result c = let z = negative _ c.ranges.x c.if-x-lt0.true in
    rw (z.flipped, z.held) (tt, record { fits = omega arith })

pub overflow_add-result : goal.overflow_add-result
overflow_add-result c = let z = negative _ c.ranges.x c.if-x-lt0.true in
    rw (z.flipped, z.held) (record { fits = omega arith })

pub returns-then-x-lt0 : goal.returns-then-x-lt0
returns-then-x-lt0 c = let z = negative _ c.ranges.x c.if-x-lt0.true in
    rw (z.flipped, z.held) (size_below _ _ z.is)

pub overflow_cast-result-2 : goal.overflow_cast-result-2
overflow_cast-result-2 c = let z = positive _ c.ranges.x c.if-x-lt0.false in
    rw z.held (tt, record { fits = omega arith })

pub returns : goal.returns
returns c = let z = positive _ c.ranges.x c.if-x-lt0.false in
    rw z.held (size_above _ _ z.is)
