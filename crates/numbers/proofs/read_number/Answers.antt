use Rattle.numbers.specs.NumberLaws.{bad_0, got_1, bad_1, got_2, bad_2, got_3, bad_3}
use Rattle.numbers.specs.NumberLaws.{joined}
use native.Mathlib.Omega.{arith}
use mathlib.Core.Path.{◌∙◌}
use Rattle.numbers.proofs.read_number.Goals as goal

pub returns-in_err-get : goal.returns-in_err-get
returns-in_err-get c = c.from_residual.ensures ∙ bad_0 _ _ c.in_err-get.ensures.lookup.3

pub returns-then-b0-lt128 : goal.returns-then-b0-lt128
returns-then-b0-lt128 c = let x = c.in_ok-get.ensures.lookup.3 in
    got_1 _ _ _ x.0 (omega (arith, x.1 0)) (c.from-b0.ensures ∙ x.1 0)

pub returns-in_err-get-2 : goal.returns-in_err-get-2
returns-in_err-get-2 c = let x = c.in_ok-get.ensures.lookup.3 in
    c.from_residual-in_err-get-2.ensures
    ∙ bad_1 _ _ x.0 (omega (arith, x.1 0)) c.in_err-get-2.ensures.lookup.3

pub returns-then-b1-lt128 : goal.returns-then-b1-lt128
returns-then-b1-lt128 c = let x = c.in_ok-get.ensures.lookup.3 in let y = c.in_ok-get-2.ensures.lookup.3 in
    got_2 _ _ _ (omega (arith, x.1 0)) y.0 (omega (arith, y.1 0)) (omega (arith, x.1 0, y.1 0))

pub returns-in_err-get-3 : goal.returns-in_err-get-3
returns-in_err-get-3 c = let x = c.in_ok-get.ensures.lookup.3 in let y = c.in_ok-get-2.ensures.lookup.3 in
    c.from_residual-in_err-get-3.ensures
    ∙ bad_2 _ _ (omega (arith, x.1 0)) y.0 (omega (arith, y.1 0)) c.in_err-get-3.ensures.lookup.3

pub returns-then-b2-lt128 : goal.returns-then-b2-lt128
returns-then-b2-lt128 c = let x = c.in_ok-get.ensures.lookup.3 in let y = c.in_ok-get-2.ensures.lookup.3 in
    let z = c.in_ok-get-3.ensures.lookup.3 in
    got_3 _ _ _ (omega (arith, x.1 0)) (omega (arith, y.1 0)) z.0 (omega (arith, z.1 0))
    (joined _ _ _ _ _ _ _ _ c.join-then-b2-lt128-2.ensures c.join-then-b2-lt128.ensures
    (c.from-b0.ensures ∙ x.1 0) (c.from-b1.ensures ∙ y.1 0) (c.from-b2.ensures ∙ z.1 0))

pub returns : goal.returns
returns c = let x = c.in_ok-get.ensures.lookup.3 in let y = c.in_ok-get-2.ensures.lookup.3 in
    let z = c.in_ok-get-3.ensures.lookup.3 in
    bad_3 _ _ (omega (arith, x.1 0)) (omega (arith, y.1 0)) z.0 (omega (arith, z.1 0))
