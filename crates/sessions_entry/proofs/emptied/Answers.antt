use native.Mathlib.Omega.{arith}
use Rattle.sessions_entry.specs.EntryLaws.{redo_kept, redo_emptied}
use Rattle.sessions_entry.proofs.emptied.Goals as goal

pub returns-then-done-eq0 : goal.returns-then-done-eq0
returns-then-done-eq0 c = redo_kept c.args.session c.args.redo c.args.done _
    (omega (arith, c.if-done-eq0.true)) (omega arith)

pub returns : goal.returns
returns c = redo_emptied c.args.session c.args.redo c.args.done _
    (λ z. omega (arith, z, c.if-done-eq0.false)) (omega arith)
