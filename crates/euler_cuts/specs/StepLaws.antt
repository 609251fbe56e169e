-- What each function of this crate computes step by step is what the operator's definition says: one premise for each
-- call.
use Rattle.std.specs.Prelude.{◌≡◌, ℕ, ◌+◌, not, ◌&&◌, List, eqb}
use Rattle.laws.specs.Bools.{pick}
use Rattle.script.specs.declared.Operator.{Operator}
use Rattle.script.specs.Operator.{blank_of, with_number}
use Rattle.layout.specs.declared.shape.Shape.{Shape}
use Rattle.layout.specs.Layout.{loop_face, loop_first, face_solid, prev_of}
use Rattle.layout.specs.Mate.{mate, edge_of}
use Rattle.euler.specs.declared.records.Half.{Half}
use Rattle.euler.specs.Surgery.{way_of, corner_vertex, put_face, put_loop, edge_in, edge_out, relabel_run, lower, renew}
use Rattle.euler.specs.EdgeOperators.{a_alone, b_alone, mef_links, kef_links, kef_inverse}
use Rattle.euler_edges.specs.Parts.{IsHalf, with_three, renew_sides}
use Rattle.euler_cuts.specs.Parts.{mef_in, rest_of, kef_out}

pub mef_edge_steps : (sh : Shape) (x : List ℕ) (l h1 h2 a l2 w : ℕ) {b u v p q n1 p1 n2 p2 : ℕ} {x1 : List ℕ}
    → b ≡ mate a → u ≡ corner_vertex sh x l h1 → v ≡ corner_vertex sh x l h2 → p ≡ prev_of sh x h1 → q ≡ prev_of sh x h2
    → n1 ≡ pick (a_alone h1 h2 w) a h2 → p1 ≡ pick (a_alone h1 h2 w) a p
    → n2 ≡ pick (b_alone h1 h2 w) b h1 → p2 ≡ pick (b_alone h1 h2 w) b q
    → x1 ≡ edge_in sh x a u l n1 p1 v l2 n2 p2
    → x1 ≡ mef_in sh x l h1 h2 a l2 w
unfolding mef_in
mef_edge_steps sh x l h1 h2 a l2 w eb eu ev ep eq en1 ep1 en2 ep2 e1 = rw (e1, en1, ep1, en2, ep2, ep, eq, eu, ev, eb)

pub mef_steps : (sh : Shape) (x : List ℕ) (l h1 h2 a f l2 w : ℕ) {b g s from r o low : ℕ} {x1 x2 x3 x4 x5 : List ℕ}
    → b ≡ mate a → g ≡ loop_face sh x l → s ≡ face_solid sh x g → from ≡ pick (b_alone h1 h2 w) b h1
    → r ≡ loop_first sh x l → o ≡ lower a b → low ≡ lower r o
    → x1 ≡ mef_in sh x l h1 h2 a l2 w → x2 ≡ relabel_run sh x1 from b l2 → x3 ≡ put_loop sh x2 l2 f 0 0
    → x4 ≡ put_face sh x3 f s l2 → x5 ≡ renew_sides sh x4 l low l2 low a
    → x5 ≡ mef_links sh x l h1 h2 a f l2 w
unfolding mef_links mef_in renew_sides
mef_steps sh x l h1 h2 a f l2 w eb eg es ef er eo el e1 e2 e3 e4 e5 =
    rw (e5, e4, e3, e2, e1, el, eo, er, ef, es, eg, eb)

pub kef_edge_steps : (sh : Shape) (x : List ℕ) (k : ℕ) (a b : Half) {m p n q o : ℕ} {x1 : List ℕ}
    → m ≡ mate k
    → p ≡ pick (eqb b.next m) a.prev b.prev → n ≡ pick (eqb a.next k) b.next a.next
    → q ≡ pick (eqb a.next k) b.prev a.prev → o ≡ pick (eqb b.next m) a.next b.next
    → x1 ≡ edge_out sh x k p n q o
    → x1 ≡ kef_out sh x k a b
unfolding kef_out
kef_edge_steps sh x k a b em ep en eq eo e1 = rw (e1, ep, en, eq, eo, em)

pub kef_steps : (sh : Shape) (x : List ℕ) (k : ℕ) {m f rest g h low : ℕ} {a b : Half} {x1 x2 x3 x4 x5 : List ℕ}
    → m ≡ mate k → IsHalf sh x k a → IsHalf sh x m b → f ≡ loop_face sh x a.owner
    → rest ≡ rest_of k a.next m b.next
    → g ≡ loop_first sh x a.owner → h ≡ loop_first sh x b.owner → low ≡ lower g h
    → x1 ≡ relabel_run sh x a.next k b.owner → x2 ≡ kef_out sh x1 k a b → x3 ≡ put_face sh x2 f 0 0
    → x4 ≡ put_loop sh x3 a.owner 0 0 0 → x5 ≡ renew sh x4 b.owner low rest a.start
    → x5 ≡ kef_links sh x k
unfolding kef_links kef_out
kef_steps sh x k em ha hb ef er eg eh el e1 e2 e3 e4 e5 =
    rw (
      e5,
      e4,
      e3,
      e2,
      e1,
      ef,
      er,
      el,
      eg,
      eh,
      ha.start,
      ha.owner,
      ha.next,
      ha.prev,
      hb.owner,
      hb.next,
      hb.prev,
      em,
    )

pub kef_undone : (sh : Shape) (x : List ℕ) (k : ℕ) {m f h1 h2 t d e : ℕ} {a b : Half} {o1 o2 o3 r : Operator}
    → m ≡ mate k → IsHalf sh x k a → IsHalf sh x m b → f ≡ loop_face sh x a.owner
    → h1 ≡ rest_of k a.next m b.next → h2 ≡ rest_of m b.next k a.next
    → t ≡ way_of m → d ≡ pick (eqb b.next m && not (eqb a.next k)) 2 0 → e ≡ edge_of k
    → o1 ≡ blank_of 5 7 → o2 ≡ with_three o1 0 b.owner h1 h2 → o3 ≡ with_three o2 3 e f a.owner
    → r ≡ with_number o3 6 (t + d)
    → r ≡ kef_inverse sh x k
unfolding with_three
kef_undone sh x k em ha hb ef eh1 eh2 et ed ee e1 e2 e3 e4 =
    rw (e4, e3, e2, e1, eh1, eh2, et, ed, ee, ef, ha.owner, ha.next, hb.owner, hb.next, em)
