-- What the operators share: operands, corners, an edge going in, an edge coming out, a run given another loop, a loop's
-- first anew.
-- `sh` is the table's shape, `x` its links. Walks carry fuel; on a sound table that cuts nothing off.
use Rattle.std.specs.Prelude.{ℕ, zero, suc, ◌+◌, ◌-◌, ◌*◌, ◌%◌, Bool, ◌&&◌, ◌||◌, List, [], ◌∷◌, ◌++◌, eqb, leb, ltb, ℤ}
use Rattle.std.specs.Prelude.{pos, length, get_or, set}
use Rattle.laws.specs.Bools.{pick}
use Rattle.laws.specs.Permutations.{iter}
use Rattle.bounds.specs.Bounds.{most_halves}
use Rattle.script.specs.declared.Operator.{Operator}
use Rattle.script.specs.Operator.{nat_of, blank_of, with_number}
use Rattle.layout.specs.declared.shape.Shape.{Shape}
use Rattle.layout.specs.Layout.{loop_isolated, start_of, loop_of, next_of, set_loop_first, set_loop_isolated}
use Rattle.layout.specs.Layout.{set_loop}
use Rattle.layout.specs.Mate.{mate}
use Rattle.layout.specs.Fields.{Solid, Outer, Face, First, Isolated, Start, Loop, Next, Prev, half_kind}
use Rattle.layout.specs.Writes.{Write, write, writes, cleared}
use Rattle.layout.specs.Points.{coordinate, set_coordinate}
use Rattle.layout.specs.Items.{some}

-- operand i of a list as the number of an item; past 8,192, the most that any table has, it names none
abbrev pub item_in : List ℤ → ℕ → ℕ
item_in args i = pick (leb (nat_of (get_or args i (pos 0))) most_halves) (nat_of (get_or args i (pos 0))) 0

-- and of an operator
abbrev pub item_of : Operator → ℕ → ℕ
item_of o i = item_in o.args i

-- ---- ways

-- the half of edge e that a way names: 2e − 1 for an even way, 2e for an odd one
abbrev pub half_by : ℕ → ℕ → ℕ
half_by e w = pick (eqb (w % 2) 0) (2 * e - 1) (2 * e)

-- the way that names half-edge k: 0 for an odd one, 1 for an even one
abbrev pub way_of : ℕ → ℕ
way_of k = pick (eqb (k % 2) 1) 0 1

-- ---- corners

-- (l, h) is a corner: h is a half-edge of l, or h is 0 and l isolated (document 01: lone)
unfoldable pub corner : Shape → List ℕ → ℕ → ℕ → Bool
corner sh x l h = (eqb h 0 && some (loop_isolated sh x l)) || (some h && eqb (loop_of sh x h) l)

-- its vertex
abbrev pub corner_vertex : Shape → List ℕ → ℕ → ℕ → ℕ
corner_vertex sh x l h = pick (eqb h 0) (loop_isolated sh x l) (start_of sh x h)

-- ---- whole records, as writes: field, item, value

-- face f: its solid s, its outer loop l
abbrev pub face_record : ℕ → ℕ → ℕ → List Write
face_record f s l = write Solid f s ∷ write Outer f l ∷ []

-- loop l: its face f, its first k, its isolated vertex v
abbrev pub loop_record : ℕ → ℕ → ℕ → ℕ → List Write
loop_record l f k v = write Face l f ∷ write First l k ∷ write Isolated l v ∷ []

-- half-edge k: its start v, its loop l, next n, previous p
abbrev pub half_record : ℕ → ℕ → ℕ → ℕ → ℕ → List Write
half_record k v l n p = write Start k v ∷ write Loop k l ∷ write Next k n ∷ write Prev k p ∷ []

abbrev pub put_face : Shape → List ℕ → ℕ → ℕ → ℕ → List ℕ
put_face sh x f s l = writes sh (face_record f s l) x

abbrev pub put_loop : Shape → List ℕ → ℕ → ℕ → ℕ → ℕ → List ℕ
put_loop sh x l f k v = writes sh (loop_record l f k v) x

abbrev pub put_half : Shape → List ℕ → ℕ → ℕ → ℕ → ℕ → ℕ → List ℕ
put_half sh x k v l n p = writes sh (half_record k v l n p) x

-- the three coordinates of vertex v
abbrev pub put_point : List ℤ → ℕ → ℤ → ℤ → ℤ → List ℤ
put_point p v a b c = set_coordinate (set_coordinate (set_coordinate p v 0 a) v 1 b) v 2 c

-- the point that stands at operands i, i + 1, i + 2 of a list goes to vertex v
abbrev pub point_in : List ℤ → List ℤ → ℕ → ℕ → List ℤ
point_in p args v i = put_point p v (get_or args i (pos 0)) (get_or args (i + 1) (pos 0)) (get_or args (i + 2) (pos 0))

-- and that of an operator
abbrev pub point_to : List ℤ → Operator → ℕ → ℕ → List ℤ
point_to p o v i = point_in p o.args v i

-- an operator with c for operand i
abbrev pub with_operand : Operator → ℕ → ℤ → Operator
with_operand o i c = record { code = o.code; count = o.count; args = set o.args i c }

-- an operator with the point of vertex v for operands i, i + 1, i + 2
abbrev pub with_point : Operator → ℕ → List ℤ → ℕ → Operator
with_point o i p v = with_operand (with_operand (with_operand o i (coordinate p v 0)) (i + 1) (coordinate p v 1))
    (i + 2)
    (coordinate p v 2)

-- ---- operators as records

-- the operands ns from place i on
abbrev pub fill : Operator → ℕ → List ℕ → Operator
fill op i [] = op
fill op i (n ∷ ns) = fill (with_number op i n) (i + 1) ns

-- the operator of this code with the operands ns
abbrev pub operator : ℕ → List ℕ → Operator
operator code ns = fill (blank_of code (length ns)) 0 ns

-- the same with the point of vertex v behind them
abbrev pub operator_at : ℕ → List ℕ → List ℤ → ℕ → Operator
operator_at code ns p v = with_point (fill (blank_of code (length ns + 3)) 0 ns) (length ns) p v

-- ---- an edge goes in, an edge comes out

-- a is followed by b
abbrev pub tied : ℕ → ℕ → List Write
tied a b = write Next a b ∷ write Prev b a ∷ []

-- k stands between p and n, as these see it
abbrev pub seated : ℕ → ℕ → ℕ → List Write
seated p k n = write Next p k ∷ write Prev n k ∷ []

-- half-edge n from vertex v in loop l between k and o
abbrev pub inserted : ℕ → ℕ → ℕ → ℕ → ℕ → List Write
inserted k n v l o = half_record n v l o k ++ seated k n o

-- half-edge k from vertex u in loop l between p and n, and its mate from u' in l' between p' and n'
abbrev pub edge_writes : ℕ → ℕ → ℕ → ℕ → ℕ → ℕ → ℕ → ℕ → ℕ → List Write
edge_writes k u l n p u' l' n' p' =
    half_record k u l n p ++ (half_record (mate k) u' l' n' p' ++ (seated p k n ++ seated p' (mate k) n'))

-- the edge of k is killed: p is followed by n, and p' by n'. (Where these are k or its mate, what is stored is cleared
-- with them.)
abbrev pub no_edge_writes : ℕ → ℕ → ℕ → ℕ → ℕ → List Write
no_edge_writes k p n p' n' = tied p n ++ (tied p' n' ++ (cleared half_kind k ++ cleared half_kind (mate k)))

abbrev pub tie : Shape → List ℕ → ℕ → ℕ → List ℕ
tie sh x a b = writes sh (tied a b) x

abbrev pub between : Shape → List ℕ → ℕ → ℕ → ℕ → List ℕ
between sh x p k n = writes sh (seated p k n) x

-- half-edge n from vertex v in loop l after k
abbrev pub insert_after : Shape → List ℕ → ℕ → ℕ → ℕ → ℕ → List ℕ
insert_after sh x k n v l = writes sh (inserted k n v l (next_of sh x k)) x

unfoldable pub edge_in : Shape → List ℕ → ℕ → ℕ → ℕ → ℕ → ℕ → ℕ → ℕ → ℕ → ℕ → List ℕ
edge_in sh x k u l n p u' l' n' p' = writes sh (edge_writes k u l n p u' l' n' p') x

unfoldable pub edge_out : Shape → List ℕ → ℕ → ℕ → ℕ → ℕ → ℕ → List ℕ
edge_out sh x k p n p' n' = writes sh (no_edge_writes k p n p' n') x

-- ---- walks

-- the half-edges from k up to before stop, at most n of them, are given loop l
unfoldable pub relabel : Shape → ℕ → List ℕ → ℕ → ℕ → ℕ → List ℕ
relabel sh zero x k stop l = x
relabel sh (suc n) x k stop l =
    pick (eqb k stop) x (relabel sh n (set_loop sh x k l) (next_of sh (set_loop sh x k l) k) stop l)

-- a run given loop l
abbrev pub relabel_run : Shape → List ℕ → ℕ → ℕ → ℕ → List ℕ
relabel_run sh x k stop l = relabel sh (2 * sh.edges) x k stop l

-- amid such a walk: the links once the first n half-edges from k on have been given loop l
unfoldable pub passed : Shape → ℕ → List ℕ → ℕ → ℕ → List ℕ
passed sh zero x k l = x
passed sh (suc n) x k l = set_loop sh (passed sh n x k l) (iter (next_of sh x) n k) l

-- ---- a loop's first

-- the lesser of two half-edges; f may be 0, none
abbrev pub lower : ℕ → ℕ → ℕ
lower f k = pick (eqb f 0) k (pick (ltb f k) f k)

-- the least half-edge of loop l, looked for in two ways at once: n numbers from j on are tried (does half-edge j name
-- l?), and with each trial goes one step along the loop's cycle, from k up to stop, keeping the least in `best`.
-- Whichever way ends first has the answer
unfoldable pub seek : Shape → ℕ → List ℕ → ℕ → ℕ → ℕ → ℕ → ℕ → ℕ
seek sh zero x l j k stop best = best
seek sh (suc n) x l j k stop best =
    pick (eqb (loop_of sh x j) l) j
    (pick (eqb k stop) best (seek sh n x l (j + 1) (next_of sh x k) stop (pick (ltb k best) k best)))

-- the least half-edge that names loop l, where k names it and none below `low` does: the numbers to try end before k
abbrev pub first_from : Shape → List ℕ → ℕ → ℕ → ℕ → ℕ
first_from sh x l low k = seek sh (k - low) x l low (next_of sh x k) k k

-- loop l now has the cycle of half-edge k, no half-edge below `low` names it, and first is the least that does; where k
-- is 0, first is 0 and l is isolated at vertex u
unfoldable pub renew : Shape → List ℕ → ℕ → ℕ → ℕ → ℕ → List ℕ
renew sh x l low k u = set_loop_isolated sh (set_loop_first sh x l (first_from sh x l low k)) l (pick (eqb k 0) u 0)
