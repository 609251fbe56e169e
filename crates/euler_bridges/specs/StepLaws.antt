-- What each function of this crate computes step by step is what the operator's definition says: one premise for each
-- call.
use Rattle.std.specs.Prelude.{◌≡◌, ℕ, List, eqb}
use Rattle.laws.specs.Bools.{pick}
use Rattle.script.specs.declared.Operator.{Operator}
use Rattle.script.specs.Operator.{blank_of}
use Rattle.layout.specs.declared.shape.Shape.{Shape}
use Rattle.layout.specs.Layout.{loop_face, loop_first, prev_of}
use Rattle.layout.specs.Mate.{mate, edge_of}
use Rattle.euler.specs.declared.records.Half.{Half}
use Rattle.euler.specs.Surgery.{way_of, corner_vertex, put_loop, edge_in, edge_out, relabel_run, lower, renew}
use Rattle.euler.specs.EdgeOperators.{kemr_links, kemr_inverse, mekr_links}
use Rattle.euler_edges.specs.Parts.{IsHalf, with_three}
use Rattle.euler_bridges.specs.Parts.{mekr_in}

pub kemr_steps : (sh : Shape) (x : List ℕ) (k l2 : ℕ) {m f ring rest low : ℕ} {a b : Half} {x1 x2 x3 x4 x5 : List ℕ}
    → m ≡ mate k → IsHalf sh x k a → IsHalf sh x m b → f ≡ loop_face sh x a.owner
    → ring ≡ pick (eqb a.next m) 0 a.next → rest ≡ pick (eqb b.next k) 0 b.next
    → low ≡ loop_first sh x a.owner
    → x1 ≡ relabel_run sh x a.next m l2 → x2 ≡ edge_out sh x1 k a.prev b.next b.prev a.next
    → x3 ≡ put_loop sh x2 l2 f 0 0 → x4 ≡ renew sh x3 l2 low ring b.start
    → x5 ≡ renew sh x4 a.owner low rest a.start
    → x5 ≡ kemr_links sh x k l2
unfolding kemr_links
kemr_steps sh x k l2 em ha hb ef eg er el e1 e2 e3 e4 e5 =
    rw (e5, e4, e3, e2, e1, eg, er, el, ef, ha.start, ha.owner, ha.next, ha.prev, hb.start, hb.next, hb.prev, em)

pub kemr_undone : (sh : Shape) (x : List ℕ) (k l2 : ℕ) {m h1 h2 e w : ℕ} {a b : Half} {o1 o2 r : Operator}
    → m ≡ mate k → IsHalf sh x k a → IsHalf sh x m b
    → h1 ≡ pick (eqb b.next k) 0 b.next → h2 ≡ pick (eqb a.next m) 0 a.next → e ≡ edge_of k → w ≡ way_of k
    → o1 ≡ blank_of 8 6 → o2 ≡ with_three o1 0 a.owner h1 l2 → r ≡ with_three o2 3 h2 e w
    → r ≡ kemr_inverse sh x k l2
unfolding with_three
kemr_undone sh x k l2 em ha hb eh1 eh2 ee ew e1 e2 e3 =
    rw (e3, e2, e1, eh1, eh2, ee, ew, ha.owner, ha.next, hb.next, em)

pub mekr_edge_steps : (sh : Shape) (x : List ℕ) (l h1 l2 h2 k : ℕ) {m u v p q n1 p1 n2 p2 : ℕ} {x1 : List ℕ}
    → m ≡ mate k → u ≡ corner_vertex sh x l h1 → v ≡ corner_vertex sh x l2 h2 → p ≡ prev_of sh x h1
    → q ≡ prev_of sh x h2
    → n1 ≡ pick (eqb h2 0) m h2 → p1 ≡ pick (eqb h1 0) m p → n2 ≡ pick (eqb h1 0) k h1 → p2 ≡ pick (eqb h2 0) k q
    → x1 ≡ edge_in sh x k u l n1 p1 v l n2 p2
    → x1 ≡ mekr_in sh x l h1 l2 h2 k
unfolding mekr_in
mekr_edge_steps sh x l h1 l2 h2 k em eu ev ep eq en1 ep1 en2 ep2 e1 = rw (e1, en1, ep1, en2, ep2, ep, eq, eu, ev, em)

pub mekr_steps : (sh : Shape) (x : List ℕ) (l h1 l2 h2 k : ℕ) {m from f g o p low : ℕ} {x1 x2 x3 x4 : List ℕ}
    → m ≡ mate k → from ≡ pick (eqb h2 0) m h2
    → f ≡ loop_first sh x l → g ≡ loop_first sh x l2 → o ≡ lower k m → p ≡ lower g o → low ≡ lower f p
    → x1 ≡ mekr_in sh x l h1 l2 h2 k → x2 ≡ relabel_run sh x1 from m l → x3 ≡ put_loop sh x2 l2 0 0 0
    → x4 ≡ renew sh x3 l low k 0
    → x4 ≡ mekr_links sh x l h1 l2 h2 k
unfolding mekr_links mekr_in
mekr_steps sh x l h1 l2 h2 k em er ef eg eo ep el e1 e2 e3 e4 = rw (e4, e3, e2, e1, el, ep, eo, eg, ef, er, em)
