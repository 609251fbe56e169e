-- What each step of the code does to the parents.
use Rattle.std.specs.Prelude.{◌≡◌, refl, ◌≢◌, ℕ, ◌≤◌, ◌<◌, List, length, get_or, set}
use Rattle.std.proofs.Common.{sym, ap, ◌∙◌, ⊎_elim, arith, lt-ltb, le-ltb}
use Rattle.std.proofs.Math.ListN.{get_or-eq_default}
use Rattle.laws.specs.Bools.{le?}
use Rattle.laws.specs.UnionFind.{Down, root, hang, root_end, root_step, SameRoots, halve_path, same_roots_then, United}
use Rattle.laws.specs.UnionFind.{unite_united, united_between}
use Rattle.bounds.specs.Bounds.{item_places, most_items}
use Rattle.check_shells.specs.Forest.{Forest, Apart, Climb}

-- ---- each its own parent

-- all are, so parents do not rise
pub apart_forest : {p : List ℕ} {n : ℕ} → Apart p n → item_places ≤ n → Forest p
apart_forest {p} a h = record {
  long = a.long;
  down = record {
    at = λ i. ⊎_elim (λ l. omega (arith, get_or-eq_default p 0 l))
        (λ l. omega (arith, a.own i (omega (arith, a.long)))) (le? (length p) i);
  };
}

-- ---- roots stay

-- nothing is changed
pub same_roots_here : {p : List ℕ} → Down p → SameRoots p p
same_roots_here d = record { down = d; len = refl; roots = λ z. refl }

-- shortened paths are a forest still
pub forest_short : {p q : List ℕ} → Forest p → SameRoots p q → Forest q
forest_short f s = record { long = s.len ∙ f.long; down = s.down }

-- united classes too
pub forest_united : {p q : List ℕ} {x y : ℕ} → Forest p → United p q x y → Forest q
forest_united f u = record { long = u.len ∙ f.long; down = u.down }

-- ---- finding the root

-- the walk begins
pub climb_start : (p : List ℕ) (x : ℕ) → Down p → Climb p p x x
climb_start p x d = record { kept = same_roots_here d; low = omega arith; one = refl }

-- k gets its grandparent g as its parent, and the walk goes on there
pub climb_turn : {p₀ p : List ℕ} {x k : ℕ} → Climb p₀ p x k → (q g : ℕ) → q ≡ get_or p k 0 → g ≡ get_or p q 0
    → Climb p₀ (set p k (get_or p q 0)) x g
climb_turn {p₀} {p} {x} {k} c q g eq eg = record {
  kept = same_roots_then c.kept (rw eq (halve_path p d k));
  low = omega (arith, c.low, d.at k, d.at q);
  one = sym (c.kept.roots g) ∙ ap (root p) eg ∙ sym (root_step p d q) ∙ ap (root p) eq ∙ sym (root_step p d k)
      ∙ c.kept.roots k ∙ c.one;
}
  where
    d : Down p
    d = c.kept.down

-- each turn goes down
pub climb_less : {p₀ p : List ℕ} {x k : ℕ} → Climb p₀ p x k → (q g : ℕ) → q ≡ get_or p k 0 → q ≢ k → g ≡ get_or p q 0
    → g < k
climb_less {p = p} {k = k} c q g eq h eg = omega (arith, c.kept.down.at k, c.kept.down.at q)

-- it ends at a number that is its own parent
pub climb_end : {p₀ p : List ℕ} {x k : ℕ} → Climb p₀ p x k → get_or p k 0 ≡ k → k ≡ root p₀ x
climb_end {p = p} {k = k} c e = sym (root_end p k k e) ∙ c.kept.roots k ∙ c.one

-- ---- uniting

module _ {p q r : List ℕ} (f : Forest p) (s : SameRoots p q) (t : SameRoots q r) (x y a b : ℕ) (hx : x ≤ most_items)
    (hy : y ≤ most_items) (ea : a ≡ root p x) (eb : b ≡ root q y) where
  -- both roots are found, and one becomes the other's parent
  hung : United p (hang r a b) x y
  hung = united_between (same_roots_then s t) (rw (ea ∙ sym (s.roots x) ∙ sym (t.roots x), eb ∙ sym (t.roots y)) u)
      (same_roots_here (rw (ea ∙ sym (s.roots x) ∙ sym (t.roots x), eb ∙ sym (t.roots y)) u.down))
    where
      u : United r (hang r (root r x) (root r y)) x y
      u = unite_united r t.down x y (omega (arith, f.long, s.len, t.len)) (omega (arith, f.long, s.len, t.len))

  pub hung_low : a < b → United p (set r b a) x y
  unfolding hang
  hung_low l = rw (lt-ltb a b l) at hung

  pub hung_high : b ≤ a → United p (set r a b) x y
  unfolding hang
  hung_high l = rw (le-ltb a b l) at hung
