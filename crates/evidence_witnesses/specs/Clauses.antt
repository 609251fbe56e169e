-- The conditions of the thirteen operators, taken apart into their clauses: an operator is refused with 8 just where
-- one of them fails.
use Rattle.std.specs.Prelude.{ℕ, zero, suc, ◌*◌, ◌≡◌, refl, Bool, true, false, not, ◌&&◌, ◌||◌, List, [], ◌∷◌, map, T}
use Rattle.std.specs.Prelude.{eqb, leb, get_or}
use Rattle.std.proofs.Common.{sym, ap, subst, ◌∙◌, arith}
use Rattle.laws.specs.Bools.{T_true, true_T, false_T, eqb_other}
use Rattle.laws.specs.Every.{every, every_T, T_every}
use Rattle.laws.specs.Search.{least, Least, none_is, one_is, least_from_is}
use Rattle.script.specs.declared.Operator.{Operator}
use Rattle.layout.specs.declared.shape.Shape.{Shape}
use Rattle.layout.specs.Layout.{face_outer, loop_face, loop_isolated, start_of, loop_of, next_of, side}
use Rattle.layout.specs.Mate.{mate, edge_of}
use Rattle.layout.specs.Items.{some, face_in, is_ring}
use Rattle.euler.specs.Surgery.{item_of, corner}
use Rattle.euler.specs.Queries.{faces_in, loops_in}
use Rattle.euler.specs.EdgeOperators.{kev_test, mef_test, kef_test, kemr_test, mekr_test, jekv_test}
use Rattle.euler.specs.FaceOperators.{linked_after, shares_outside, kvsf_test, kfmrh_test, mfkrh_test, rmov_test}
use Rattle.euler.specs.Exec.{conditions, condition}

-- ---- the clauses of each operator, in document 01's order; 1 mvsf and 11 semv have none

-- one face; one loop; it is lone
abbrev pub kvsf_clauses : Shape → List ℕ → ℕ → List Bool
kvsf_clauses sh x s =
    eqb (faces_in sh x s) 1 ∷ eqb (loops_in sh x (face_in sh x s)) 1
    ∷ some (loop_isolated sh x (face_outer sh x (face_in sh x s))) ∷ []

-- a corner
abbrev pub mev_clauses : Shape → List ℕ → ℕ → ℕ → List Bool
mev_clauses sh x l h = corner sh x l h ∷ []

-- next of k is its mate
abbrev pub kev_clauses : Shape → List ℕ → ℕ → List Bool
kev_clauses sh x k = eqb (next_of sh x k) (mate k) ∷ []

-- two corners of l; in the ways 2 and 3 they are one, and not 0
abbrev pub mef_clauses : Shape → List ℕ → ℕ → ℕ → ℕ → ℕ → List Bool
mef_clauses sh x l h1 h2 w =
    corner sh x l h1 ∷ corner sh x l h2 ∷ (not (leb 2 w) || eqb h1 h2) ∷ (not (leb 2 w) || some h1) ∷ []

-- k's loop is the only one of its face; the mate's face is another
abbrev pub kef_clauses : Shape → List ℕ → ℕ → List Bool
kef_clauses sh x k = eqb (loops_in sh x (side sh x k)) 1 ∷ not (eqb (side sh x (mate k)) (side sh x k)) ∷ []

-- k and its mate in one loop
abbrev pub kemr_clauses : Shape → List ℕ → ℕ → List Bool
kemr_clauses sh x k = eqb (loop_of sh x (mate k)) (loop_of sh x k) ∷ []

-- two loops; of one face; l2 a ring; two corners
abbrev pub mekr_clauses : Shape → List ℕ → ℕ → ℕ → ℕ → ℕ → List Bool
mekr_clauses sh x l h1 l2 h2 =
    not (eqb l l2) ∷ eqb (loop_face sh x l) (loop_face sh x l2) ∷ is_ring sh x l2 ∷ corner sh x l h1 ∷ corner sh x l2 h2
    ∷ []

-- two faces; f2 without rings
abbrev pub kfmrh_clauses : Shape → List ℕ → ℕ → ℕ → List Bool
kfmrh_clauses sh x f1 f2 = not (eqb f1 f2) ∷ eqb (loops_in sh x f2) 1 ∷ []

-- l is a ring; where f is unlinked s is not 0; where it stays linked s is 0
abbrev pub mfkrh_clauses : Shape → List ℕ → ℕ → ℕ → ℕ → List Bool
mfkrh_clauses sh x l f s =
    is_ring sh x l ∷ (linked_after sh x l f f (loop_face sh x l) || some s)
    ∷ (not (linked_after sh x l f f (loop_face sh x l)) || eqb s 0) ∷ []

-- n is of another edge; next of n's mate is k's mate
abbrev pub jekv_clauses : Shape → List ℕ → ℕ → List Bool
jekv_clauses sh x k =
    not (eqb (edge_of (next_of sh x k)) (edge_of k)) ∷ eqb (next_of sh x (mate (next_of sh x k))) (mate k) ∷ []

-- half-edge k lies in l's face, with its mate in f
abbrev pub shares : Shape → List ℕ → ℕ → ℕ → ℕ → Bool
shares sh x l f k = every (some (start_of sh x k) ∷ eqb (side sh x k) (loop_face sh x l) ∷ eqb (side sh x (mate k)) f
    ∷ [])

-- some half-edge does
abbrev pub sharing : Shape → List ℕ → ℕ → ℕ → Bool
sharing sh x l f = some (least (2 * sh.edges) (shares sh x l f))

-- some half-edge does that lies outside l
abbrev pub sharing_outside : Shape → List ℕ → ℕ → ℕ → Bool
sharing_outside sh x l f = some (least (2 * sh.edges) (shares_outside sh x l f))

-- l is a ring; if f is another face, it shares an edge with l's face, and one whose half in l's face lies outside l
abbrev pub rmov_clauses : Shape → List ℕ → ℕ → ℕ → List Bool
rmov_clauses sh x l f =
    is_ring sh x l ∷ (eqb f (loop_face sh x l) || sharing sh x l f)
    ∷ (eqb f (loop_face sh x l) || (not (sharing sh x l f) || sharing_outside sh x l f)) ∷ []

-- from code 0, which is none, to 13; `a` are the operands as items
abbrev pub clauses : Shape → List ℕ → (ℕ → ℕ) → List (List Bool)
clauses sh x a =
    [] ∷ [] ∷ kvsf_clauses sh x (a 0) ∷ mev_clauses sh x (a 0) (a 1) ∷ kev_clauses sh x (a 0)
    ∷ mef_clauses sh x (a 0) (a 1) (a 2) (a 6)
    ∷ kef_clauses sh x (a 0) ∷ kemr_clauses sh x (a 0) ∷ mekr_clauses sh x (a 0) (a 1) (a 2) (a 3)
    ∷ kfmrh_clauses sh x (a 0) (a 1)
    ∷ mfkrh_clauses sh x (a 0) (a 1) (a 2) ∷ [] ∷ jekv_clauses sh x (a 0) ∷ rmov_clauses sh x (a 0) (a 1) ∷ []

-- the clauses of an operator
unfoldable pub clauses_of : Shape → List ℕ → Operator → List Bool
clauses_of sh x o = get_or (clauses sh x (item_of o)) o.code []

-- ---- they are the conditions

-- "if r then s and t" is "if r then s" and "if r then t"
mef_bools : (p q r s t : Bool) → every (p ∷ q ∷ (not r || (s && t)) ∷ []) ≡ every (p ∷ q ∷ (not r || s) ∷ (not r || t)
    ∷ [])
mef_bools false q r s t = refl
mef_bools true false r s t = refl
mef_bools true true false s t = refl
mef_bools true true true false t = refl
mef_bools true true true true t = refl

mef_same : (sh : Shape) (x : List ℕ) (l h1 h2 w : ℕ) → mef_test sh x l h1 h2 w ≡ every (mef_clauses sh x l h1 h2 w)
unfolding mef_test
mef_same sh x l h1 h2 w = mef_bools (corner sh x l h1) (corner sh x l h2) (leb 2 w) (eqb h1 h2) (some h1)

-- both or neither is "if one then the other", both ways
mfkrh_bools : (p q z : Bool) → (p && ((q && z) || (not q && not z))) ≡ every (p ∷ (q || not z) ∷ (not q || z) ∷ [])
mfkrh_bools false q z = refl
mfkrh_bools true true true = refl
mfkrh_bools true true false = refl
mfkrh_bools true false true = refl
mfkrh_bools true false false = refl

mfkrh_same : (sh : Shape) (x : List ℕ) (l f s : ℕ) → mfkrh_test sh x l f s ≡ every (mfkrh_clauses sh x l f s)
unfolding mfkrh_test
mfkrh_same sh x l f s = mfkrh_bools (is_ring sh x l) (linked_after sh x l f f (loop_face sh x l)) (eqb s 0)

-- where a test is met, a weaker one is
weaker : (n : ℕ) (p q : ℕ → Bool) → ((j : ℕ) → p j ≡ true → q j ≡ true) → T (some (least n p)) → T (some (least n q))
weaker n p q h t = go (least_from_is n 1 p) (least_from_is n 1 q)
  where
    go : Least n 1 p (least n p) → Least n 1 q (least n q) → T (some (least n q))
    go a (one_is l u e g) = subst (λ b. T (not b)) (sym (eqb_other {m = least n q} {n = 0} (λ z. omega arith))) tt
    go (none_is z f) (none_is y g) = absurd (subst (λ r. T (some r)) z t)
    go (one_is l u e f) (none_is y g) = absurd (false_T (g (least n p) l u) (true_T (h (least n p) e)))

-- what is shared outside l is shared
outside_shares : (sh : Shape) (x : List ℕ) (l f : ℕ) → T (sharing_outside sh x l f) → T (sharing sh x l f)
outside_shares sh x l f t =
    weaker (2 * sh.edges) (shares_outside sh x l f) (shares sh x l f)
    (λ k e.
    let a = every_T (some (start_of sh x k) ∷ eqb (side sh x k) (loop_face sh x l) ∷ not (eqb (loop_of sh x k) l)
    ∷ eqb (side sh x (mate k)) f ∷ []) (true_T e) in
    T_true {b = shares sh x l f k}
    (T_every (some (start_of sh x k) ∷ eqb (side sh x k) (loop_face sh x l) ∷ eqb (side sh x (mate k)) f ∷ [])
    (a.0, (a.1.0, (a.1.1.1.0, tt)))))
    t

-- a clause that implies another may be said with it
rmov_bools : (p q r t : Bool) → (T t → T r) → (p && (q || t)) ≡ every (p ∷ (q || r) ∷ (q || (not r || t)) ∷ [])
rmov_bools false q r t h = refl
rmov_bools true true r t h = refl
rmov_bools true false true t h = refl
rmov_bools true false false true h = absurd (h tt)
rmov_bools true false false false h = refl

rmov_same : (sh : Shape) (x : List ℕ) (l f : ℕ) → rmov_test sh x l f ≡ every (rmov_clauses sh x l f)
unfolding rmov_test
rmov_same sh x l f =
    rmov_bools (is_ring sh x l) (eqb f (loop_face sh x l)) (sharing sh x l f) (sharing_outside sh x l f)
    (outside_shares sh x l f)

-- an item of a mapped list
at_map : {A B : Type 0} (f : A → B) (xs : List A) (n : ℕ) (d : A) → get_or (map f xs) n (f d) ≡ f (get_or xs n d)
at_map f [] n d = refl
at_map f (x ∷ xs) zero d = refl
at_map f (x ∷ xs) (suc n) d = at_map f xs n d

-- the condition of each code is all of its clauses
pub conditions_same : (sh : Shape) (x : List ℕ) (a : ℕ → ℕ) → conditions sh x a ≡ map every (clauses sh x a)
unfolding kvsf_test kev_test kef_test kemr_test mekr_test kfmrh_test jekv_test
conditions_same sh x a =
    rw (mef_same sh x (a 0) (a 1) (a 2) (a 6), mfkrh_same sh x (a 0) (a 1) (a 2), rmov_same sh x (a 0) (a 1)) refl

-- and so an operator's condition is all of its clauses
pub condition_same : (sh : Shape) (x : List ℕ) (o : Operator) → condition sh x o ≡ every (clauses_of sh x o)
unfolding condition clauses_of
condition_same sh x o =
    ap (λ bs. get_or bs o.code true) (conditions_same sh x (item_of o))
    ∙ at_map every (clauses sh x (item_of o)) o.code []
