-- What each function of this crate computes step by step is what the operator's definition says: one premise for each
-- call.
use Rattle.std.specs.Prelude.{◌≡◌, ℕ, List, eqb, ℤ}
use Rattle.laws.specs.Bools.{pick}
use Rattle.script.specs.declared.Operator.{Operator}
use Rattle.script.specs.Operator.{blank_of, with_number}
use Rattle.layout.specs.declared.shape.Shape.{Shape}
use Rattle.layout.specs.Layout.{loop_first, prev_of, set_vertex_used}
use Rattle.layout.specs.Mate.{mate, edge_of}
use Rattle.euler.specs.declared.records.Half.{Half}
use Rattle.euler.specs.Surgery.{way_of, corner_vertex, with_point, edge_in, edge_out, lower, renew}
use Rattle.euler.specs.EdgeOperators.{mev_links, kev_links, kev_inverse}
use Rattle.euler_edges.specs.Parts.{IsHalf, with_three}

pub mev_steps : (sh : Shape) (x : List ℕ) (l h k v : ℕ) {m u b p n f o low : ℕ} {x1 x2 x3 : List ℕ}
    → m ≡ mate k → u ≡ corner_vertex sh x l h → b ≡ prev_of sh x h → p ≡ pick (eqb h 0) m b → n ≡ pick (eqb h 0) k h
    → f ≡ loop_first sh x l → o ≡ lower k m → low ≡ lower f o
    → x1 ≡ edge_in sh x k u l m p v l n k → x2 ≡ renew sh x1 l low k 0 → x3 ≡ set_vertex_used sh x2 v 1
    → x3 ≡ mev_links sh x l h k v
unfolding mev_links
mev_steps sh x l h k v em eu eb ep en ef eo el e1 e2 e3 = rw (e3, e2, e1, el, eo, ef, ep, en, eb, eu, em)

pub kev_steps : (sh : Shape) (x : List ℕ) (k : ℕ) {m rest low : ℕ} {a b : Half} {x1 x2 x3 : List ℕ}
    → m ≡ mate k → IsHalf sh x k a → IsHalf sh x m b → rest ≡ pick (eqb b.next k) 0 b.next
    → low ≡ loop_first sh x a.owner
    → x1 ≡ edge_out sh x k a.prev b.next b.prev a.next → x2 ≡ renew sh x1 a.owner low rest a.start
    → x3 ≡ set_vertex_used sh x2 b.start 0
    → x3 ≡ kev_links sh x k
unfolding kev_links
kev_steps sh x k em ha hb er el e1 e2 e3 =
    rw (e3, e2, e1, er, el, ha.start, ha.owner, ha.next, ha.prev, hb.start, hb.next, hb.prev, em)

pub kev_undone : (sh : Shape) (x : List ℕ) (p : List ℤ) (k : ℕ) {m h e w : ℕ} {a b : Half} {o1 o2 o3 o4 r : Operator}
    → m ≡ mate k → IsHalf sh x k a → IsHalf sh x m b → h ≡ pick (eqb b.next k) 0 b.next → e ≡ edge_of k
    → w ≡ way_of k
    → o1 ≡ blank_of 3 8 → o2 ≡ with_three o1 0 a.owner h e → o3 ≡ with_number o2 3 b.start → o4 ≡ with_number o3 4 w
    → r ≡ with_point o4 5 p b.start
    → r ≡ kev_inverse sh x p k
unfolding with_three
kev_undone sh x p k em ha hb eh ee ew e1 e2 e3 e4 e5 =
    rw (e5, e4, e3, e2, e1, eh, ee, ew, ha.owner, hb.start, hb.next, em)
