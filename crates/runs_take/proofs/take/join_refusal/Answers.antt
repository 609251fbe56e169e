use Rattle.std.proofs.Common.{ap, arith, length, ◌∙◌}
use Rattle.std.proofs.lemmas.Result.{err_from_is_err_and}
use Rattle.refusals.specs.Numbers.{refusal_in}
use Rattle.runs_take.specs.Pass.{use_high, item_small}
use Rattle.runs_take.specs.Turns.{not_held, joined_range, joined_first, joined_use, range_is}
use Rattle.refusals.specs.UnlessLaws.{refused_some, held}
use Rattle.runs_take.proofs.take.join_refusal.Goals as goal

pub in_range-requires : goal.in_range-requires
in_range-requires c = ap length c.requires.most_value

pub returns-in_err-ensure : goal.returns-in_err-ensure
returns-in_err-ensure c = let p = err_from_is_err_and c.from_residual.result c.from_residual.ensures.1 in
    let f = not_held _ _ _ c.in_err-ensure.ensures in
    rw (p.1, p.2) (f.1 ∙ joined_range _ _ _ (range_is _ _ _ _ _ _ c.requires.most_value c.in_range.ensures f.0))

pub returns-in_err-before : goal.returns-in_err-before
returns-in_err-before c =
    let p = err_from_is_err_and c.from_residual-in_err-before.result c.from_residual-in_err-before.ensures.1 in
    let b = held _ _ _ c.in_ok-ensure.ensures in
    rw (p.1, p.2, c.in_err-before.was) (joined_first _ _ _
    (range_is _ _ _ _ _ _ c.requires.most_value c.in_range.ensures b) (refused_some _))

pub returns-then-kind-gt11 : goal.returns-then-kind-gt11
returns-then-kind-gt11 c = let b = held _ _ _ c.in_ok-ensure.ensures in
    joined_use _ _ _ (ap refusal_in c.in_ok-before.was)
    (range_is _ _ _ _ _ _ c.requires.most_value c.in_range.ensures b) _ (use_high _ _ _ _ c.if-kind-gt11.true)

pub use_refusal-requires : goal.use_refusal-requires
use_refusal-requires c = let b = held _ _ _ c.in_ok-ensure.ensures in
    item_small _ c.requires.small _ _ (omega (arith, c.if-kind-gt11.false))
    (range_is _ _ _ _ _ _ c.requires.most_value c.in_range.ensures b)

pub returns : goal.returns
returns c = let b = held _ _ _ c.in_ok-ensure.ensures in
    joined_use _ _ _ (ap refusal_in c.in_ok-before.was)
    (range_is _ _ _ _ _ _ c.requires.most_value c.in_range.ensures b) _ c.use_refusal.ensures
