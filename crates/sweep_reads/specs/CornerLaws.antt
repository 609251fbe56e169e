-- The ways through the count of corners.
use Rattle.std.specs.Prelude.{◌≡◌, refl, List, ℕ, suc, ◌+◌, ◌-◌, ◌*◌, ◌≤◌, ◌<◌, eqb}
use Rattle.std.proofs.Common.{sym, ap, ◌∙◌, arith}
use Rattle.laws.specs.Permutations.{iter, iter_last}
use Rattle.laws.specs.Bools.{eqb_same, eqb_other}
use Rattle.laws.specs.Search.{least, least_from}
use Rattle.euler.specs.Scans.{least_all, found_here, found_on, found_none}
use Rattle.layout.specs.declared.shape.Shape.{Shape}
use Rattle.layout.specs.Layout.{next_of, loop_first, loop_face}
use Rattle.sweeps.specs.Sweep.{corner_of, corners_in, corners_of, corners_to}
use Rattle.laws.specs.Sums.{sum_to}

-- one step further
pub walked : (sh : Shape) (x : List ℕ) (l j k k' : ℕ) → 1 ≤ j → k ≡ corner_of sh x l (j - 1) → k' ≡ next_of sh x k
    → k' ≡ corner_of sh x l j
walked sh x l j k k' h e q =
    let z : suc (j - 1) ≡ j = omega arith in
    q ∙ ap (next_of sh x) e ∙ sym (iter_last (next_of sh x) (j - 1) (loop_first sh x l)) ∙ ap (corner_of sh x l) z

-- the loop's invariant: k is the corner before j, and none of 1 to j - 1 leads back
pub record Rounding (sh : Shape) (x : List ℕ) (l first n k j : ℕ) : Type 0 where
  pub low : 1 ≤ j
  pub high : j ≤ n + 1
  pub many : n ≡ 2 * sh.edges
  pub is_first : first ≡ loop_first sh x l
  pub at : k ≡ corner_of sh x l (j - 1)
  pub rest : least_from (n + 1 - j) j (λ i. eqb (corner_of sh x l i) (loop_first sh x l)) ≡ corners_in sh x l

-- at first
pub round_begin : (sh : Shape) (x : List ℕ) (l first n : ℕ) → first ≡ loop_first sh x l → n ≡ 2 * sh.edges
    → Rounding sh x l first n first 1
unfolding iter corners_in
round_begin sh x l first n e m = record {
  low = omega arith;
  high = omega arith;
  many = m;
  is_first = e;
  at = e;
  rest = least_all n _ ∙ ap (λ i. least i (λ j. eqb (corner_of sh x l j) (loop_first sh x l))) m;
}

module _ (sh : Shape) (x : List ℕ) (l first n k j k' : ℕ) (r : Rounding sh x l first n k j) (q : k' ≡ next_of sh x k)
  where
    -- back again
    pub round_here : j ≤ n → k' ≡ first → j ≡ corners_in sh x l
    round_here h e = found_here _ n j _ r.rest h
        (eqb_same (sym (walked sh x l j k k' r.low r.at q) ∙ e ∙ r.is_first))

    -- not yet
    pub round_on : j ≤ n → (k' ≡ first → ⊥) → Rounding sh x l first n k' (j + 1)
    round_on h e =
        let z : j + 1 - 1 ≡ j = omega arith in
        let w = walked sh x l j k k' r.low r.at q in
        record {
          low = omega arith;
          high = omega arith;
          many = r.many;
          is_first = r.is_first;
          at = w ∙ ap (corner_of sh x l) (sym z);
          rest = found_on _ n j _ r.rest h (eqb_other (λ y. e (w ∙ y ∙ sym r.is_first)));
        }

-- never
pub round_none : (sh : Shape) (x : List ℕ) (l first n k j : ℕ) → Rounding sh x l first n k j → n < j
    → 0 ≡ corners_in sh x l
round_none sh x l first n k j r h = found_none _ n j _ r.rest h

-- ---- of a face

pub of_yes : (sh : Shape) (x : List ℕ) (f l r g : ℕ) → g ≡ loop_face sh x l → g ≡ f → r ≡ corners_in sh x l
    → r ≡ corners_of sh x f l
unfolding corners_of
of_yes sh x f l r g e h q = q ∙ rw (eqb_same (sym e ∙ h)) refl

pub of_no : (sh : Shape) (x : List ℕ) (f l g : ℕ) → g ≡ loop_face sh x l → (g ≡ f → ⊥) → 0 ≡ corners_of sh x f l
unfolding corners_of
of_no sh x f l g e h = rw (eqb_other (λ z. h (e ∙ z))) refl

pub to_none : (sh : Shape) (x : List ℕ) (f : ℕ) → 0 ≡ corners_to sh x f 0
unfolding sum_to
to_none sh x f = refl

pub to_more : (sh : Shape) (x : List ℕ) (f l l' s c : ℕ) → s ≡ corners_to sh x f l → c ≡ corners_of sh x f l'
    → l' ≡ l + 1
    → s + c ≡ corners_to sh x f l'
unfolding sum_to
to_more sh x f l l' s c e q i =
    let z : l' ≡ suc l = omega arith in rw (q, z, e) (omega arith)

pub to_end : (sh : Shape) (x : List ℕ) (f l n s : ℕ) → l ≤ n → n ≤ l → l ≤ 4096
    → (s ≡ corners_to sh x f l) × (s ≤ 8192 * l) → n ≡ sh.loops → (s ≡ corners_to sh x f sh.loops) × (s ≤ 33554432)
to_end sh x f l n s a b m h e =
    let z : l ≡ sh.loops = omega arith in
    (h.0 ∙ ap (corners_to sh x f) z, omega (arith, h.1, m))
