-- What each function of this crate computes step by step is what the operator's definition says: one premise for each
-- call.
use Rattle.std.specs.Prelude.{◌≡◌, ℕ, List, ℤ}
use Rattle.script.specs.declared.Operator.{Operator}
use Rattle.script.specs.Operator.{blank_of, with_number}
use Rattle.layout.specs.declared.shape.Shape.{Shape}
use Rattle.layout.specs.Layout.{loop_first, start_of, loop_of, prev_of, set_start, set_vertex_used}
use Rattle.layout.specs.Mate.{mate, edge_of}
use Rattle.euler.specs.Surgery.{way_of, with_point, lower, insert_after}
use Rattle.euler.specs.EdgeOperators.{semv_links, jekv_links, jekv_inverse}
use Rattle.euler_edges.specs.Parts.{with_three, renew_sides, clear_edge}
use Rattle.euler_splits.specs.Parts.{join_halves}

pub semv_steps : (sh : Shape) (x : List ℕ) (k n v : ℕ) {m t l o u p f g w low low' : ℕ} {x1 x2 x3 x4 x5 : List ℕ}
    → m ≡ mate k → t ≡ mate n → l ≡ loop_of sh x k → o ≡ loop_of sh x m → u ≡ start_of sh x m
    → f ≡ loop_first sh x l → g ≡ loop_first sh x o → w ≡ lower n t → low ≡ lower f w → low' ≡ lower g w
    → x1 ≡ insert_after sh x k n v l → p ≡ prev_of sh x1 m → x2 ≡ insert_after sh x1 p t u o → x3 ≡ set_start sh x2 m v
    → x4 ≡ renew_sides sh x3 l low o low' k → x5 ≡ set_vertex_used sh x4 v 1
    → x5 ≡ semv_links sh x k n v
unfolding semv_links renew_sides
semv_steps sh x k n v em et el eo eu ef eg ew ea eb e1 ep e2 e3 e4 e5 =
    rw (e5, e4, e3, e2, ep, e1, ea, eb, ef, eg, ew, el, eo, eu, et, em)

pub jekv_steps : (sh : Shape) (x : List ℕ) (k n : ℕ) {m l o v f g : ℕ} {x1 x2 x3 x4 : List ℕ}
    → m ≡ mate k → l ≡ loop_of sh x k → o ≡ loop_of sh x m → v ≡ start_of sh x n → f ≡ loop_first sh x l
    → g ≡ loop_first sh x o
    → x1 ≡ join_halves sh x k n → x2 ≡ clear_edge sh x1 n → x3 ≡ renew_sides sh x2 l f o g k
    → x4 ≡ set_vertex_used sh x3 v 0
    → x4 ≡ jekv_links sh x k n
unfolding jekv_links join_halves clear_edge renew_sides
jekv_steps sh x k n em el eo ev ef eg e1 e2 e3 e4 = rw (e4, e3, e2, e1, ef, eg, el, eo, ev, em)

pub jekv_undone : (sh : Shape) (x : List ℕ) (p : List ℤ) (k n : ℕ) {v e w : ℕ} {o1 o2 o3 r : Operator}
    → v ≡ start_of sh x n → e ≡ edge_of n → w ≡ way_of n
    → o1 ≡ blank_of 11 7 → o2 ≡ with_three o1 0 k e v → o3 ≡ with_number o2 3 w → r ≡ with_point o3 4 p v
    → r ≡ jekv_inverse sh x p k n
unfolding with_three
jekv_undone sh x p k n ev ee ew e1 e2 e3 e4 = rw (e4, e3, e2, e1, ee, ew, ev)
