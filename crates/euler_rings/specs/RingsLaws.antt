-- The tests of a half-edge that shares an edge with a face outside the ring: which one decides.
use Rattle.std.specs.Prelude.{◌≡◌, ◌≢◌, refl, Bool, true, false, not, ◌&&◌, List, ℕ, eqb}
use Rattle.std.proofs.Common.{sym, ◌∙◌, ap}
use Rattle.laws.specs.Bools.{eqb_same, eqb_other}
use Rattle.layout.specs.declared.shape.Shape.{Shape}
use Rattle.layout.specs.Layout.{loop_face, start_of, loop_of, side}
use Rattle.layout.specs.Mate.{mate}
use Rattle.layout.specs.Items.{some}
use Rattle.euler.specs.FaceOperators.{shares_outside}

-- where three tests hold, the fourth decides
last_of : (p q r z : Bool) → ((p && q) && r) ≡ true → z ≡ (((p && q) && z) && r)
last_of true true true true e = refl
last_of true true true false e = refl
last_of false q r z e = cc
last_of true false r z e = cc
last_of true true false z e = cc

-- half-edge k of loop o is in use, lies in l's face and has its mate in f: it shares where o is another loop than l
pub shares_last : (sh : Shape) (x : List ℕ) (l f k : ℕ) {b : Bool} {o : ℕ}
    → b ≡ ((some (start_of sh x k) && eqb (side sh x k) (loop_face sh x l)) && eqb (side sh x (mate k)) f) → b ≡ true
    → o ≡ loop_of sh x k → not (eqb o l) ≡ shares_outside sh x l f k
shares_last sh x l f k e t h = ap (λ n. not (eqb n l)) h ∙ last_of (some (start_of sh x k))
    (eqb (side sh x k) (loop_face sh x l)) (eqb (side sh x (mate k)) f) _ (sym e ∙ t)

-- half-edge k of loop o is in use and lies in l's face outside l: it shares where its mate lies in f
pub shares_there : (sh : Shape) (x : List ℕ) (l f k : ℕ) {o : ℕ} → o ≡ loop_of sh x k → start_of sh x k ≢ 0 → o ≢ l
    → loop_face sh x o ≡ loop_face sh x l → eqb (side sh x (mate k)) f ≡ shares_outside sh x l f k
shares_there sh x l f k h s d e = rw (eqb_other s, ← h, eqb_same e, eqb_other d)
