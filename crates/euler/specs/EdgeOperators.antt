-- The eight operators that make and kill edges (document 01: 3 to 8, 11, 12), in pairs of which each undoes the other.
-- For each: the document's words, a picture, when it is refused with 8 (`Test`, where it has a condition), what it does
-- to the links (`Steps`, from the first to the last; `Links` are the links after them), and the operator that undoes it
-- (`Inverse`).
-- `x` are the links before the first step, and what an operator names is read there. In the pictures m is k's mate.
-- Points are `pointsBy` in Exec: made with a vertex, cleared with it. The steps store the word of a vertex only where
-- they make it (1) or kill it (0). After them the half-edges that vertex words count are added and taken off:
-- `linksAfter` in Exec has the links with these words.
-- Where a loop gets its first anew (`Renew`), no half-edge below the old firsts of the loops concerned and the new
-- half-edges names it: the search begins at the least of these.
use Rattle.std.specs.Prelude.{ℕ, ◌+◌, Bool, not, ◌&&◌, ◌||◌, List, [], ◌∷◌, eqb, leb, ℤ}
use Rattle.laws.specs.Bools.{pick}
use Rattle.laws.specs.Every.{every}
use Rattle.script.specs.declared.Operator.{Operator}
use Rattle.layout.specs.declared.shape.Shape.{Shape}
use Rattle.layout.specs.Layout.{face_solid, loop_face, loop_first, start_of, loop_of, next_of, prev_of, side}
use Rattle.layout.specs.Mate.{mate, edge_of}
use Rattle.layout.specs.Fields.{Start, VertexUsed, face_kind, loop_kind, half_kind}
use Rattle.layout.specs.Writes.{cleared}
use Rattle.layout.specs.Items.{some, is_ring}
use Rattle.euler.specs.Surgery.{way_of, corner, corner_vertex, operator, operator_at}
use Rattle.euler.specs.Surgery.{face_record, loop_record, tied, lower}
use Rattle.euler.specs.Queries.{loops_in, first_by}
use Rattle.euler.specs.Steps.{Step, Store, EdgeIn, EdgeOut, InsertAfter, InsertBefore, TieBefore, Relabel, Renew}
use Rattle.euler.specs.Steps.{half, assign, after}

-- the half-edge n behind an edge whose one half is k; 0 where that is k again
abbrev pub behind : Shape → List ℕ → ℕ → ℕ → ℕ
behind sh x k n = pick (eqb n k) 0 n

-- k is alone in its loop
abbrev pub alone : Shape → List ℕ → ℕ → Bool
alone sh x k = eqb (next_of sh x k) k

-- ---- 3 mev l h e v w x y z
-- At corner (l, h), vertex u, a half-edge k from u to the new v, then its mate, both just before h.
--
--     |                      |  --k->
--     u        mev -->       u --------- v
--     | h     <-- kev        |  <-m--
--     v                      v h

abbrev pub mev_test : Shape → List ℕ → ℕ → ℕ → Bool
mev_test sh x l h = every (
    corner sh x l h  -- (l, h) is a corner
    ∷ [])

-- at a lone corner the two halves follow each other
abbrev pub mev_steps : Shape → List ℕ → ℕ → ℕ → ℕ → ℕ → List Step
mev_steps sh x l h k v =
    -- k from u, followed by its mate; the mate from v, followed by h
    EdgeIn k
    (half (corner_vertex sh x l h) l (mate k) (pick (eqb h 0) (mate k) (prev_of sh x h)))
    (half v l (pick (eqb h 0) k h) k)
    ∷ Renew l (lower (loop_first sh x l) (lower k (mate k))) k 0  -- l's first anew
    ∷ assign VertexUsed v 1  -- v is in use
    ∷ []

unfoldable pub mev_links : Shape → List ℕ → ℕ → ℕ → ℕ → ℕ → List ℕ
mev_links sh x l h k v = after sh (mev_steps sh x l h k v) x

abbrev pub mev_inverse : ℕ → Operator
mev_inverse k = operator 4 (k ∷ [])

-- ---- 4 kev k
-- Next of k must be its mate. Kills the edge and the mate's start. (The picture of mev, from right to left.)

unfoldable pub kev_test : Shape → List ℕ → ℕ → Bool
kev_test sh x k = every (
    eqb (next_of sh x k) (mate k)  -- next of k is its mate
    ∷ [])

abbrev pub kev_steps : Shape → List ℕ → ℕ → List Step
kev_steps sh x k =
    EdgeOut k (prev_of sh x k) (next_of sh x (mate k)) (prev_of sh x (mate k)) (next_of sh x k)  -- the edge comes out
    -- the first of its loop anew, which is lone at k's start where nothing is left
    ∷ Renew (loop_of sh x k) (first_by sh x k) (behind sh x k (next_of sh x (mate k))) (start_of sh x k)
    ∷ assign VertexUsed (start_of sh x (mate k)) 0  -- the mate's start is killed
    ∷ []

unfoldable pub kev_links : Shape → List ℕ → ℕ → List ℕ
kev_links sh x k = after sh (kev_steps sh x k) x

abbrev pub kev_inverse : Shape → List ℕ → List ℤ → ℕ → Operator
kev_inverse sh x p k =
    operator_at 3
    (loop_of sh x k ∷ behind sh x k (next_of sh x (mate k)) ∷ edge_of k ∷ start_of sh x (mate k) ∷ way_of k ∷ [])
    p (start_of sh x (mate k))

-- ---- 5 mef l h1 h2 e f l2 w
-- Half-edge a from corner (l, h1) to (l, h2). Loop l keeps previous of h1, a, h2 onward; new loop l2 of new face f
-- (same solid) has h1 up to before h2, then a's mate b. With h1 = h2, l2 has the mate alone; ways 2 and 3 then give l2
-- the whole old loop, and l keeps a alone.
--
--     +----> u -h1->+                     +----> u -h1->+
--     |             |                     |      |^     |
--     |      l      |      mef -->        |  l  a||b l2 |
--     |             |     <-- kef         |      v|     |
--     +<-h2- v <----+                     +<-h2- v <----+

unfoldable pub mef_test : Shape → List ℕ → ℕ → ℕ → ℕ → ℕ → Bool
mef_test sh x l h1 h2 w = every (
    corner sh x l h1  -- (l, h1) is a corner
    ∷ corner sh x l h2  -- and (l, h2)
    ∷ (not (leb 2 w) || (eqb h1 h2 && some h1))  -- ways 2 and 3 need h1 = h2, not 0
    ∷ [])

-- l keeps a alone
abbrev pub a_alone : ℕ → ℕ → ℕ → Bool
a_alone h1 h2 w = eqb h1 h2 && (eqb h1 0 || leb 2 w)

-- l2 has a's mate alone
abbrev pub b_alone : ℕ → ℕ → ℕ → Bool
b_alone h1 h2 w = eqb h1 h2 && not (leb 2 w)

-- a from the first corner, followed by h2; its mate from the second, followed by h1; the run between them still names l
abbrev pub mef_edge : Shape → List ℕ → ℕ → ℕ → ℕ → ℕ → ℕ → ℕ → Step
mef_edge sh x l h1 h2 a l2 w =
    EdgeIn a
    (half (corner_vertex sh x l h1) l
    (pick (a_alone h1 h2 w) a h2) (pick (a_alone h1 h2 w) a (prev_of sh x h1)))
    (half (corner_vertex sh x l h2) l2
    (pick (b_alone h1 h2 w) (mate a) h1) (pick (b_alone h1 h2 w) (mate a) (prev_of sh x h2)))

abbrev pub mef_steps : Shape → List ℕ → ℕ → ℕ → ℕ → ℕ → ℕ → ℕ → ℕ → List Step
mef_steps sh x l h1 h2 a f l2 w =
    mef_edge sh x l h1 h2 a l2 w  -- the edge between the two corners
    ∷ Relabel (pick (b_alone h1 h2 w) (mate a) h1) (mate a) l2  -- the run from h1 up to b names l2
    ∷ Store (loop_record l2 f 0 0)  -- l2 is a loop of f
    ∷ Store (face_record f (face_solid sh x (loop_face sh x l)) l2)  -- f is a face of the same solid
    ∷ Renew l (lower (loop_first sh x l) (lower a (mate a))) a 0  -- l's first anew
    ∷ Renew l2 (lower (loop_first sh x l) (lower a (mate a))) (mate a) 0  -- and l2's
    ∷ []

unfoldable pub mef_links : Shape → List ℕ → ℕ → ℕ → ℕ → ℕ → ℕ → ℕ → ℕ → List ℕ
mef_links sh x l h1 h2 a f l2 w = after sh (mef_steps sh x l h1 h2 a f l2 w) x

abbrev pub mef_inverse : ℕ → Operator
mef_inverse b = operator 6 (b ∷ [])

-- ---- 6 kef k
-- k's loop is the only loop of its face, the mate's face is another. Kills edge, face and loop of k; the rest of that
-- loop takes the mate's place. (The picture of mef from right to left, where k is b.)

unfoldable pub kef_test : Shape → List ℕ → ℕ → Bool
kef_test sh x k = every (
    eqb (loops_in sh x (side sh x k)) 1  -- k's loop is the only one of its face
    ∷ not (eqb (side sh x (mate k)) (side sh x k))  -- the mate's face is another
    ∷ [])

-- one half-edge of the loop that is left: the rest of k's loop, else the rest of the mate's, else none
abbrev pub kef_rest : Shape → List ℕ → ℕ → ℕ
kef_rest sh x k = pick (alone sh x k) (pick (alone sh x (mate k)) 0 (next_of sh x (mate k))) (next_of sh x k)

-- the rest of k's loop goes between the neighbours of the mate; where one rest is empty the other closes on itself
abbrev pub kef_edge : Shape → List ℕ → ℕ → Step
kef_edge sh x k =
    EdgeOut k
    (pick (alone sh x (mate k)) (prev_of sh x k) (prev_of sh x (mate k)))
    (pick (alone sh x k) (next_of sh x (mate k)) (next_of sh x k))
    (pick (alone sh x k) (prev_of sh x (mate k)) (prev_of sh x k))
    (pick (alone sh x (mate k)) (next_of sh x k) (next_of sh x (mate k)))

abbrev pub kef_steps : Shape → List ℕ → ℕ → List Step
kef_steps sh x k =
    Relabel (next_of sh x k) k (loop_of sh x (mate k))  -- the rest of k's loop names the mate's
    ∷ kef_edge sh x k  -- the edge comes out
    ∷ Store (cleared face_kind (side sh x k))  -- k's face is killed
    ∷ Store (cleared loop_kind (loop_of sh x k))  -- and its loop
    -- the first of the mate's loop anew; it is lone at k's start where nothing is left
    ∷ Renew (loop_of sh x (mate k)) (lower (first_by sh x k) (first_by sh x (mate k))) (kef_rest sh x k)
    (start_of sh x k)
    ∷ []

unfoldable pub kef_links : Shape → List ℕ → ℕ → List ℕ
kef_links sh x k = after sh (kef_steps sh x k) x

-- the corners are the ends of the two rests; where only k's loop has a rest, it was the whole: way 2 or 3
abbrev pub kef_inverse : Shape → List ℕ → ℕ → Operator
kef_inverse sh x k =
    operator 5
    (loop_of sh x (mate k) ∷ kef_rest sh x k
    ∷ pick (alone sh x (mate k)) (pick (alone sh x k) 0 (next_of sh x k)) (next_of sh x (mate k))
    ∷ edge_of k ∷ side sh x k ∷ loop_of sh x k
    ∷ (way_of (mate k) + pick (alone sh x (mate k) && not (alone sh x k)) 2 0) ∷ [])

-- ---- 7 kemr k l2
-- k and its mate in one loop. The run after k up to the mate becomes ring l2 of that face (lone at k's end if empty);
-- the run after the mate stays (lone at k's start if empty).
--
--     +---> u --->+                  +---> u --->+
--     |     |^    |                  |           |
--     |    k||m   |    kemr -->      |           |
--     |     v|    |   <-- mekr       |           |
--     |    +-o-+  |                  |    +-o-+  |
--     |    +---+  |                  |    +l2-+  |
--     +<----------+                  +<----------+

unfoldable pub kemr_test : Shape → List ℕ → ℕ → Bool
kemr_test sh x k = every (
    eqb (loop_of sh x (mate k)) (loop_of sh x k)  -- k and its mate are in one loop
    ∷ [])

abbrev pub kemr_steps : Shape → List ℕ → ℕ → ℕ → List Step
kemr_steps sh x k l2 =
    Relabel (next_of sh x k) (mate k) l2  -- the run after k names l2
    ∷ EdgeOut k (prev_of sh x k) (next_of sh x (mate k)) (prev_of sh x (mate k)) (next_of sh x k)  -- the edge comes out
    ∷ Store (loop_record l2 (side sh x k) 0 0)  -- l2 is a loop of the same face
    -- l2's first anew, and that of the loop that stays
    ∷ Renew l2 (first_by sh x k) (behind sh x (mate k) (next_of sh x k)) (start_of sh x (mate k))
    ∷ Renew (loop_of sh x k) (first_by sh x k) (behind sh x k (next_of sh x (mate k))) (start_of sh x k)
    ∷ []

unfoldable pub kemr_links : Shape → List ℕ → ℕ → ℕ → List ℕ
kemr_links sh x k l2 = after sh (kemr_steps sh x k l2) x

abbrev pub kemr_inverse : Shape → List ℕ → ℕ → ℕ → Operator
kemr_inverse sh x k l2 =
    operator 8
    (loop_of sh x k ∷ behind sh x k (next_of sh x (mate k)) ∷ l2 ∷ behind sh x (mate k) (next_of sh x k)
    ∷ edge_of k ∷ way_of k ∷ [])

-- ---- 8 mekr l h1 l2 h2 e w
-- Two loops of one face, l2 a ring, not l. Half-edge k from corner (l, h1) to (l2, h2), the cycle of l2 from h2, the
-- mate, then h1. (The picture of kemr, from right to left.)

unfoldable pub mekr_test : Shape → List ℕ → ℕ → ℕ → ℕ → ℕ → Bool
mekr_test sh x l h1 l2 h2 = every (
    not (eqb l l2)  -- two loops
    ∷ eqb (loop_face sh x l) (loop_face sh x l2)  -- of one face
    ∷ is_ring sh x l2  -- l2 a ring
    ∷ corner sh x l h1  -- (l, h1) is a corner
    ∷ corner sh x l2 h2  -- and (l2, h2)
    ∷ [])

-- k from the first corner, followed by h2; its mate from the second, followed by h1; the cycle of l2 still names l2
abbrev pub mekr_edge : Shape → List ℕ → ℕ → ℕ → ℕ → ℕ → ℕ → Step
mekr_edge sh x l h1 l2 h2 k =
    EdgeIn k
    (half (corner_vertex sh x l h1) l (pick (eqb h2 0) (mate k) h2) (pick (eqb h1 0) (mate k) (prev_of sh x h1)))
    (half (corner_vertex sh x l2 h2) l (pick (eqb h1 0) k h1) (pick (eqb h2 0) k (prev_of sh x h2)))

abbrev pub mekr_steps : Shape → List ℕ → ℕ → ℕ → ℕ → ℕ → ℕ → List Step
mekr_steps sh x l h1 l2 h2 k =
    mekr_edge sh x l h1 l2 h2 k  -- the edge between the two corners
    ∷ Relabel (pick (eqb h2 0) (mate k) h2) (mate k) l  -- the cycle of l2 names l
    ∷ Store (cleared loop_kind l2)  -- l2 is killed
    ∷ Renew l (lower (loop_first sh x l) (lower (loop_first sh x l2) (lower k (mate k)))) k 0  -- l's first anew
    ∷ []

unfoldable pub mekr_links : Shape → List ℕ → ℕ → ℕ → ℕ → ℕ → ℕ → List ℕ
mekr_links sh x l h1 l2 h2 k = after sh (mekr_steps sh x l h1 l2 h2 k) x

abbrev pub mekr_inverse : ℕ → ℕ → Operator
mekr_inverse k l2 = operator 7 (k ∷ l2 ∷ [])

-- ---- 11 semv k e v w x y z
-- v divides k; after k comes a new half-edge n of e from v, and before k's mate, which now starts at v, the other.
--
--        --k->                          --k->     --n->
--     o --------- o     semv -->     o ------- v ------- o
--        <-m--         <-- jekv         <-m--

-- next of k may be the mate: what comes before the mate is read when n is in
abbrev pub semv_steps : Shape → List ℕ → ℕ → ℕ → ℕ → List Step
semv_steps sh x k n v =
    InsertAfter k n v (loop_of sh x k)  -- n from v after k
    ∷ InsertBefore (mate k) (mate n) (start_of sh x (mate k)) (loop_of sh x (mate k))  -- its mate before k's
    ∷ assign Start (mate k) v  -- which now starts at v
    ∷ Renew (loop_of sh x k) (lower (first_by sh x k) (lower n (mate n))) k 0  -- firsts anew on both sides
    ∷ Renew (loop_of sh x (mate k)) (lower (first_by sh x (mate k)) (lower n (mate n))) (mate k) 0
    ∷ assign VertexUsed v 1  -- v is in use
    ∷ []

unfoldable pub semv_links : Shape → List ℕ → ℕ → ℕ → ℕ → List ℕ
semv_links sh x k n v = after sh (semv_steps sh x k n v) x

abbrev pub semv_inverse : ℕ → Operator
semv_inverse k = operator 12 (k ∷ [])

-- ---- 12 jekv k
-- n, next of k, is of another edge, and next of n's mate is k's mate. Kills n's edge and start. (The picture of semv,
-- from right to left.)

unfoldable pub jekv_test : Shape → List ℕ → ℕ → Bool
jekv_test sh x k = every (
    not (eqb (edge_of (next_of sh x k)) (edge_of k))  -- next of k is of another edge
    ∷ eqb (next_of sh x (mate (next_of sh x k))) (mate k)  -- whose other half is followed by k's mate
    ∷ [])

-- what comes before n's mate may be n, and then is k once n is out
abbrev pub jekv_steps : Shape → List ℕ → ℕ → ℕ → List Step
jekv_steps sh x k n =
    Store (tied k (next_of sh x n))  -- k is followed by what comes after n
    ∷ TieBefore (mate n) (mate k)  -- what comes before n's mate is followed by k's mate
    ∷ assign Start (mate k) (start_of sh x (mate n))  -- which starts where n's mate did
    ∷ Store (cleared half_kind n)  -- n and its mate are killed
    ∷ Store (cleared half_kind (mate n))
    ∷ Renew (loop_of sh x k) (first_by sh x k) k 0  -- firsts anew on both sides
    ∷ Renew (loop_of sh x (mate k)) (first_by sh x (mate k)) (mate k) 0
    ∷ assign VertexUsed (start_of sh x n) 0  -- n's start is killed
    ∷ []

unfoldable pub jekv_links : Shape → List ℕ → ℕ → ℕ → List ℕ
jekv_links sh x k n = after sh (jekv_steps sh x k n) x

abbrev pub jekv_inverse : Shape → List ℕ → List ℤ → ℕ → ℕ → Operator
jekv_inverse sh x p k n = operator_at 11 (k ∷ edge_of n ∷ start_of sh x n ∷ way_of n ∷ []) p (start_of sh x n)
