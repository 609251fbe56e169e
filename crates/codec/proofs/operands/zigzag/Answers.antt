use native.Mathlib.Omega.{arith}
use Rattle.codec.specs.SignedLaws.{negative, positive}
use Rattle.codec.proofs.operands.zigzag.Goals as goal

pub overflow_sub-result : goal.overflow_sub-result
overflow_sub-result c = let z = negative _ c.ranges.c c.if-c-lt0.true in
    rw z.flipped (record { sfits = z.small })

pub overflow_cast-result : goal.overflow_cast-result
overflow_cast-result c = let z = negative _ c.ranges.c c.if-c-lt0.true in
    rw (z.flipped, z.held) (tt, record { fits = omega arith })

pub overflow_mul-result : goal.overflow_mul-result
overflow_mul-result c = let z = negative _ c.ranges.c c.if-c-lt0.true in
    rw (z.flipped, z.held) (record { fits = omega arith })

pub overflow_add-result : goal.overflow_add-result
overflow_add-result c = let z = negative _ c.ranges.c c.if-c-lt0.true in
    rw (z.flipped, z.held) (record { fits = omega arith })

pub returns-then-c-lt0 : goal.returns-then-c-lt0
returns-then-c-lt0 c = let z = negative _ c.ranges.c c.if-c-lt0.true in
    let e = z.code in
    rw (z.flipped, z.held) (omega arith)

pub overflow_cast-result-2 : goal.overflow_cast-result-2
overflow_cast-result-2 c = let z = positive _ c.ranges.c c.if-c-lt0.false in
    rw z.held (tt, record { fits = omega arith })

pub overflow_mul-result-2 : goal.overflow_mul-result-2
overflow_mul-result-2 c = let z = positive _ c.ranges.c c.if-c-lt0.false in
    rw z.held (record { fits = omega arith })

pub returns : goal.returns
returns c = let z = positive _ c.ranges.c c.if-c-lt0.false in
    let e = z.code in
    rw z.held (omega arith)
