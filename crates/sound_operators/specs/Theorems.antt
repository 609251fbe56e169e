-- The two theorems about the operators, for all thirteen: a valid table stays valid, and the inverse of an accepted
-- operator gives everything back. (An operator has eight operands, as the record of the code has; unused ones are 0.)
use Rattle.std.specs.Prelude.{◌≡◌, List, ℕ, ℤ, length}
use Rattle.std.proofs.Common.{subst}
use Rattle.script.specs.declared.Operator.{Operator}
use Rattle.layout.specs.declared.shape.Shape.{Shape}
use Rattle.layout.specs.Layout.{shape_of}
use Rattle.euler.specs.Exec.{Table, exec, refusal_of, links_after, points_after}
use Rattle.table.specs.Valid.{Valid}
use Rattle.sound_tables.specs.Good.{Good}
use Rattle.sound_tables.specs.Undone.{UndoneBy}
use Rattle.sound_tables.specs.ValidGood.{valid_good, good_valid}
use Rattle.sound_valence.specs.Kept.{good_kept}
use Rattle.sound_valence.specs.Undo.{good_undone}

-- whichever it is, the table stays good and the inverse undoes it
pub all_hold : (sh : Shape) (x : List ℕ) (p : List ℤ) (o : Operator) → Good sh x p → length o.args ≡ 8
    → refusal_of sh x o ≡ 0 → Good sh (links_after sh x o) (points_after sh x p o) × UndoneBy links_after sh x p o
all_hold sh x p o g len h = (good_kept o g len h, good_undone o g len h)

-- a valid table stays valid
pub valid_kept : (x : List ℕ) (p : List ℤ) (o : Operator) → Valid x p → length o.args ≡ 8
    → refusal_of (shape_of x) x o ≡ 0
    → Valid (links_after (shape_of x) x o) (points_after (shape_of x) x p o)
valid_kept x p o v len h =
    let k = (all_hold (shape_of x) x p o (valid_good x p v) len h).0 in
    good_valid _ _ (subst (λ sh. Good sh (links_after (shape_of x) x o) (points_after (shape_of x) x p o)) k.shape k)

-- what is undone, said of `exec`
undone_exec : (sh : Shape) (t : Table) (o : Operator) → refusal_of sh t.links o ≡ 0
    → UndoneBy links_after sh t.links t.points o
    → exec sh (exec sh o t).inverse (exec sh o t).table ≡ record { refusal = 0; inverse = o; table = t }
unfolding exec
undone_exec sh t o h u = rw (h, u.accepted, u.links, u.points, u.again)

-- the inverse is accepted on what the operator left, gives back every word of links and points, and has the operator
-- for its own inverse
pub inverse_exact : (t : Table) (o : Operator) → Valid t.links t.points → length o.args ≡ 8
    → refusal_of (shape_of t.links) t.links o ≡ 0
    → exec (shape_of t.links) (exec (shape_of t.links) o t).inverse (exec (shape_of t.links) o t).table
    ≡ record { refusal = 0; inverse = o; table = t }
inverse_exact t o v len h =
    let sh = shape_of t.links in
    undone_exec sh t o h (all_hold sh t.links t.points o (valid_good t.links t.points v) len h).1
