-- A rule as a list of small tests, joined from the left as code joins them with `&`; the facts come out by place.
use Rattle.std.specs.Prelude.{Bool, true, ◌&&◌, List, [], ◌∷◌, T}
use Rattle.laws.specs.Bools.{All, and_T, T_and}

-- `done` and all tests of the list, from the left
abbrev pub every_from : Bool → List Bool → Bool
every_from done [] = done
every_from done (b ∷ bs) = every_from (done && b) bs

-- all tests of the list hold
abbrev pub every : List Bool → Bool
every bs = every_from true bs

-- all of a list that is tested after `done`
from_T : (done : Bool) (bs : List Bool) → T (every_from done bs) → T done × All bs
from_T done [] t = (t, tt)
from_T done (b ∷ bs) t =
    let r = from_T (done && b) bs t in
    let s = and_T done b r.0 in
    (s.0, (s.1, r.1))

-- and back
T_from : (done : Bool) (bs : List Bool) → T done → All bs → T (every_from done bs)
T_from done [] d a = d
T_from done (b ∷ bs) d a = T_from (done && b) bs (T_and done b d a.0) a.1

-- the tests, by place
pub every_T : (bs : List Bool) → T (every bs) → All bs
every_T bs t = (from_T true bs t).1

-- and back
pub T_every : (bs : List Bool) → All bs → T (every bs)
T_every bs a = T_from true bs tt a
