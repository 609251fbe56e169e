-- The ways out of kvsf's test, one law each: a solid has one face where it has a least one and no other behind it.
use Rattle.std.specs.Prelude.{◌≡◌, refl, ◌≢◌, Bool, true, false, ◌&&◌, List, ℕ, ◌+◌, ◌-◌, ◌≤◌, ◌<◌}
use Rattle.std.proofs.Common.{sym, ◌∙◌, ⊎_elim, arith}
use Rattle.std.proofs.Math.Path.{ap}
use Rattle.std.proofs.Math.Dec.{eqb}
use Rattle.laws.specs.Bools.{split, le?, eqb_same, eqb_other}
use Rattle.laws.specs.Search.{Least, none_is, one_is, least, least_from, least_from_is}
use Rattle.laws.specs.Sums.{bit, count_to, sum_ext, sum_zero, sum_lt, count_one}
use Rattle.layout.specs.declared.shape.Shape.{Shape}
use Rattle.layout.specs.Layout.{face_solid, face_outer, loop_isolated}
use Rattle.layout.specs.Items.{some, face_in}
use Rattle.euler.specs.Queries.{faces_in, loops_in}
use Rattle.euler.specs.FaceOperators.{kvsf_test}

-- ---- one of 1 to n passes

-- c alone, counted
alone : (n c : ℕ) → 1 ≤ c → c ≤ n → count_to n (λ k. eqb k c) ≡ 1
alone n c l u = count_one n (λ k. eqb k c) c l u (eqb_same {m = c} refl) (λ k d. eqb_other d)

module _ (n : ℕ) (p : ℕ → Bool) where
  -- none is the least
  count_none : least n p ≡ 0 → count_to n p ≡ 0
  count_none z = go (least_from_is n 1 p)
    where
      go : Least n 1 p (least n p) → count_to n p ≡ 0
      go (none_is e f) = sum_ext n (λ k. bit (p k)) (λ k. 0) (λ k l u. ap bit (f k l (omega arith))) ∙ sum_zero n
      go (one_is l u t f) = absurd (omega arith)

  module _ (c : ℕ) (e : c ≡ least n p) (d : c ≢ 0) where
    -- the least is one of them, and passes; those before it do not
    abbrev First : Type 0
    First = (1 ≤ c) × (c ≤ n) × (p c ≡ true) × ((k : ℕ) → 1 ≤ k → k < c → p k ≡ false)

    first_is : First
    first_is = go (least_from_is n 1 p)
      where
        go : Least n 1 p (least n p) → First
        go (none_is z f) = absurd (d (e ∙ z))
        go (one_is l u t f) = (omega arith, omega arith, ap p e ∙ t, λ k a b. f k a (omega arith))

    -- none follows
    count_single : least_from (n - c) (c + 1) p ≡ 0 → count_to n p ≡ 1
    count_single z = go (least_from_is (n - c) (c + 1) p)
      where
        only : (k : ℕ) → 1 ≤ k → k ≤ n → (c + 1 ≤ k → p k ≡ false) → p k ≡ eqb k c
        only k l u f = split k c (λ q. ap p q ∙ first_is.2 ∙ sym (eqb_same q)) (λ q. off q ∙ sym (eqb_other q))
          where
            off : k ≢ c → p k ≡ false
            off q = ⊎_elim (λ h. f (omega arith)) (λ h. first_is.3 k l h) (le? c k)

        go : Least (n - c) (c + 1) p (least_from (n - c) (c + 1) p) → count_to n p ≡ 1
        go (none_is q f) =
            sum_ext n (λ k. bit (p k)) (λ k. bit (eqb k c)) (λ k l u. ap bit (only k l u (λ h. f k h (omega arith))))
            ∙ alone n c first_is.0 first_is.1
        go (one_is l u t f) = absurd (omega arith)

    -- another one follows
    count_several : least_from (n - c) (c + 1) p ≢ 0 → 1 < count_to n p
    count_several h = go (least_from_is (n - c) (c + 1) p)
      where
        at_most : (k : ℕ) → bit (eqb k c) ≤ bit (p k)
        at_most k = split k c
            (λ q. omega (arith, ap bit (eqb_same q), ap (λ j. bit (p j)) q, ap bit first_is.2))
            (λ q. omega (arith, ap bit (eqb_other q)))

        more : (g : ℕ) → c + 1 ≤ g → g ≤ n → p g ≡ true → 1 < count_to n p
        more g l u t =
            let d : g ≢ c = omega arith in
            let here : bit (eqb g c) < bit (p g) = omega (arith, ap bit (eqb_other d), ap bit t) in
            let less = sum_lt n (λ k. bit (eqb k c)) (λ k. bit (p k)) g (omega arith) u here (λ k a b. at_most k) in
            omega (arith, alone n c first_is.0 first_is.1, less)

        go : Least (n - c) (c + 1) p (least_from (n - c) (c + 1) p) → 1 < count_to n p
        go (none_is q f) = absurd (h q)
        go (one_is l u t f) = more _ l (omega arith) t

-- ---- kvsf

-- the faces of s behind face f, the least of them; 0 where there is none
abbrev pub face_after : Shape → List ℕ → ℕ → ℕ → ℕ
face_after sh x s f = least_from (sh.faces - f) (f + 1) (λ g. eqb (face_solid sh x g) s)

-- the search for it begins behind f
pub from_here : (n f : ℕ) (p : ℕ → Bool) → least_from (n + 1 - (f + 1)) (f + 1) p ≡ least_from (n - f) (f + 1) p
from_here n f p = let m : n + 1 - (f + 1) ≡ n - f = omega arith in rw m

-- the test of face f and of the one behind it, n, however the latter is written: t says whether n is 0
pub none_first : (sh : Shape) (x : List ℕ) (s f : ℕ) → f ≡ 0 → some f ≡ (some f && eqb (face_after sh x s f) 0)
none_first sh x s f z = rw (eqb_same z) refl

pub none_behind : (sh : Shape) (x : List ℕ) (s f : ℕ) → f ≢ 0 → {n : ℕ} → n ≡ face_after sh x s f → {t : Bool}
    → (t ≡ true → n ≡ 0) → (t ≡ false → n ≢ 0) → t ≡ (some f && eqb (face_after sh x s f) 0)
none_behind sh x s f d {n} e {t = true} y o = rw (eqb_other d, ← e, eqb_same (y refl)) refl
none_behind sh x s f d {n} e {t = false} y o = rw (eqb_other d, ← e, eqb_other (o refl)) refl

-- s has one face where it has a least one and none follows
module _ (sh : Shape) (x : List ℕ) (s f : ℕ) (e : f ≡ face_in sh x s) where
  one_face : (some f && eqb (face_after sh x s f) 0) ≡ eqb (faces_in sh x s) 1
  one_face = split f 0
      (λ z. let n : faces_in sh x s ≡ 0 = count_none sh.faces _ (sym e ∙ z) in rw (eqb_same z, n) refl)
      (λ d. split (face_after sh x s f) 0
      (λ z. rw (eqb_other d, eqb_same z, eqb_same (count_single sh.faces _ f e d z)) refl)
      (λ h.
      let n : faces_in sh x s ≢ 1 = λ q. omega (arith, q, count_several sh.faces _ f e d h) in
      rw (eqb_other d, eqb_other h, eqb_other n) refl))

  -- the tests one after the other: those before the last came to b, and the last looks at vertex v
  module _ (b : Bool) (eb : b ≡ ((some f && eqb (face_after sh x s f) 0) && eqb (loops_in sh x f) 1)) where
    pub kvsf_not : b ≡ false → b ≡ kvsf_test sh x s
    unfolding kvsf_test
    kvsf_not h = rw (← e, ← one_face, ← eb, h) refl

    pub kvsf_last : b ≡ true → (l v : ℕ) → l ≡ face_outer sh x f → v ≡ loop_isolated sh x l → some v ≡ kvsf_test sh x s
    unfolding kvsf_test
    kvsf_last h l v el ev = rw (← e, ← one_face, ← eb, h, ← el, ← ev) refl
