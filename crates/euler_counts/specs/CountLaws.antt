-- The ways out of the functions that keep the numbers, one law each; and counting all loops, one loop after the other.
use Rattle.std.specs.Prelude.{◌≡◌, refl, ◌≢◌, true, false, ◌&&◌, List, ℕ, suc, ◌+◌, ◌-◌, ◌≤◌, ◌<◌, eqb, ltb, length}
use Rattle.std.specs.Prelude.{get_or, set, replicate, min}
use Rattle.std.proofs.Math.Path.{sym}
use Rattle.std.proofs.Math.Logic.{⊎_elim}
use Rattle.std.proofs.Common.{ap, ◌∙◌, add-one, length-set, get_or-set_same, get_or-set_other}
use native.Mathlib.Omega.{arith}
use Rattle.std.proofs.lemmas.List.{length-replicate, get_or-replicate}
use Rattle.std.proofs.Math.Seq.{set-get_or}
use borrow.Author.Tests.{le-leb, lt-leb, lt-ltb, le-ltb}
use Rattle.laws.specs.Bools.{pick_ind, split, le?, eqb_same, eqb_other}
use Rattle.laws.specs.Sums.{sum_to, count_to, count_le}
use Rattle.bounds.specs.Bounds.{item_places, most_items}
use Rattle.layout.specs.declared.shape.Shape.{Shape}
use Rattle.layout.specs.Layout.{loop_face}
use Rattle.euler_counts.specs.Counts.{Counted, is_place, lowered, raised}

-- ---- no place of a face

module _ (c : List ℕ) (f : ℕ) (out : ¬ ((1 ≤ f) × (f ≤ most_items))) where
  no_place : is_place f ≡ false
  no_place = ⊎_elim (λ (h : 1 ≤ f). rw (le-leb 1 f h) (lt-leb f most_items (high h)))
      (λ (h : f < 1). rw (lt-leb 1 f h) refl) (le? 1 f)
    where
      high : 1 ≤ f → most_items < f
      high h = ⊎_elim (λ (u : f ≤ most_items). absurd (out (h, u))) (λ (u : most_items < f). u) (le? f most_items)

  pub low_out : c ≡ lowered c f
  unfolding lowered
  low_out = rw no_place

  pub raise_out : c ≡ raised c f
  unfolding raised
  raise_out = rw no_place

-- ---- the place of face f, whose number becomes n

module _ (c : List ℕ) (f n : ℕ) (l : 1 ≤ f) (u : f ≤ most_items) where
  pub low_in : n ≡ get_or c f 0 - 1 → set c f n ≡ lowered c f
  unfolding lowered
  low_in e = rw (le-leb 1 f l, le-leb f most_items u, e)

  pub raise_in : get_or c f 0 < 65536 → n ≡ min (get_or c f 0 + 1) 65535 → set c f n ≡ raised c f
  unfolding raised
  raise_in h e = ⊎_elim
      (λ (k : 65535 ≤ get_or c f 0).
      let q : n ≡ get_or c f 0 = omega arith in
      rw (le-leb 1 f l, le-leb f most_items u, le-ltb (get_or c f 0) 65535 k, q) (set-get_or c f 0))
      (λ (k : get_or c f 0 < 65535).
      let q : n ≡ get_or c f 0 + 1 = omega arith in
      rw (le-leb 1 f l, le-leb f most_items u, lt-ltb (get_or c f 0) 65535 k, q))
      (le? 65535 (get_or c f 0))

-- ---- all loops

-- the loops 1 to i are counted
pub record Filled (sh : Shape) (x : List ℕ) (i : ℕ) (c : List ℕ) : Type 0 where
  pub size : length c ≡ item_places
  pub loops : (f : ℕ) → 1 ≤ f → f ≤ most_items → get_or c f 0 ≡ count_to i (λ l. eqb (loop_face sh x l) f)

-- none is counted at the beginning
pub filled_none : (sh : Shape) (x : List ℕ) → Filled sh x 0 (replicate item_places 0)
unfolding sum_to
filled_none sh x = record {
  size = length-replicate {A = ℕ} item_places 0;
  loops =
      λ f l u. get_or-replicate {A = ℕ} item_places f 0 0 (omega arith);
}

-- one more number where it is wanted, and elsewhere as before
raised_at : (c : List ℕ) (f : ℕ) → length c ≡ item_places → 1 ≤ f → f ≤ most_items → get_or c f 0 < 65535
    → get_or (raised c f) f 0 ≡ get_or c f 0 + 1
unfolding raised
raised_at c f s l u h =
    rw (le-leb 1 f l, le-leb f most_items u, lt-ltb (get_or c f 0) 65535 h)
    (get_or-set_same c f (get_or c f 0 + 1) 0 (omega (arith, s)))

raised_off : (c : List ℕ) (f g : ℕ) → f ≢ g → get_or (raised c f) g 0 ≡ get_or c g 0
unfolding raised
raised_off c f g d = pick_ind (λ l. get_or l g 0 ≡ get_or c g 0) (is_place f && ltb (get_or c f 0) 65535)
    (set c f (get_or c f 0 + 1)) c
    (get_or-set_other c f g (get_or c f 0 + 1) 0 (λ e. d (sym e))) refl

raised_length : (c : List ℕ) (f : ℕ) → length (raised c f) ≡ length c
unfolding raised
raised_length c f = pick_ind {X = List ℕ} (λ l. length l ≡ length c) (is_place f && ltb (get_or c f 0) 65535)
    (set c f (get_or c f 0 + 1)) c
    (length-set c f (get_or c f 0 + 1)) refl

-- loop i + 1 lies in face f
pub filled_next : (sh : Shape) (x : List ℕ) (i : ℕ) (c : List ℕ) (f : ℕ) (d : List ℕ) → i < 65535 → Filled sh x i c
    → f ≡ loop_face sh x (i + 1) → d ≡ raised c f → Filled sh x (i + 1) d
unfolding sum_to
filled_next sh x i c f d h a e q = record {
  size = rw q (raised_length c f ∙ a.size);
  loops = λ g l u. split f g
      (λ y.
      let b : get_or c f 0 ≡ count_to i (λ k. eqb (loop_face sh x k) g) = rw y (a.loops g l u) in
      let n = count_le i (λ k. eqb (loop_face sh x k) g) in
      let t = raised_at c f a.size (omega arith) (omega arith) (omega (arith, b, n)) in
      let z : eqb (loop_face sh x (suc i)) g ≡ true = eqb_same (sym (e ∙ ap (loop_face sh x) (add-one i)) ∙ y) in
      let w : get_or (raised c f) g 0 ≡ get_or c f 0 + 1 = rw (← y) t in
      rw (q, add-one i, z) (omega (arith, w, b)))
      (λ n.
      let z : eqb (loop_face sh x (suc i)) g ≡ false = eqb_other (λ m. n (e ∙ ap (loop_face sh x) (add-one i) ∙ m)) in
      rw (q, add-one i, z) (omega (arith, raised_off c f g n, a.loops g l u)));
}

-- all of them are
pub filled_all : (sh : Shape) (x : List ℕ) (i : ℕ) (c : List ℕ) → Filled sh x i c → i ≤ sh.loops → sh.loops ≤ i
    → Counted sh x c
filled_all sh x i c a h k = let e : sh.loops ≡ i = omega arith in record { loops = λ f l u. rw e (a.loops f l u) }
