-- Union and find over a list of parents that never rise. Two numbers are in one class if they have one root. Uniting
-- joins two classes and no more, shortening a path changes no root, and after all edges the classes are what chains of
-- edges link.
use Rattle.std.specs.Prelude.{◌≡◌, refl, ◌≢◌, ◌⊎◌, Bool, true, false, not, ◌||◌, List, T, eqb, length, get_or}
use Rattle.std.proofs.Common.{sym, ap, ◌∙◌, subst, inl, inr, eqb→eq}
use Rattle.std.proofs.Math.Logic.{⊎_elim}
use Prim.Native.Nat.{ℕ, zero, suc, ◌≤◌, ◌<◌}
use native.Mathlib.Omega.{arith}
use Rattle.laws.specs.Bools.{true_T, false_T, ask, same_T, imp_same, split, eqb_same}
use Rattle.laws.specs.Search.{all_to, all_ext}
use Rattle.laws.specs.Linked.{Linked, same, link, back, via, map_linked, linked_same}
use Rattle.laws.specs.Walks.{Used}
use Rattle.laws.specs.Closure.{Edge, linkedb, all_linked, linked_sound, linked_complete}
use Rattle.laws.specs.UnionFind.{Down, root, unite_edge, unite_to, root_end, SameRoots, United, unite_united}

-- ---- the classes are what chains link

-- among 0..n, one root is one chain of R
pub record Classes (n : ℕ) (R : ℕ → ℕ → Type 0) (p : List ℕ) : Type 0 where
  pub down : Down p
  pub long : n < length p
  pub one_root : {z w : ℕ} → Linked R z w → root p z ≡ root p w
  pub linked : (z w : ℕ) → z ≤ n → w ≤ n → root p z ≡ root p w → Linked R z w

-- R, and a step from x to y
abbrev pub Plus : (ℕ → ℕ → Type 0) → ℕ → ℕ → ℕ → ℕ → Type 0
Plus R x y i j = R i j ⊎ ((i ≡ x) × (j ≡ y))

-- each its own parent: no steps
pub classes_start : (n : ℕ) (p : List ℕ) → Down p → n < length p → ((i : ℕ) → i ≤ n → get_or p i 0 ≡ i)
    → Classes n (λ i j. ⊥) p
classes_start n p d l own = record {
  down = d;
  long = l;
  one_root = linked_same (root p) (λ i j r. absurd r);
  linked = λ z w hz hw e. same (sym (root_end p z z (own z hz)) ∙ e ∙ root_end p w w (own w hw));
}

-- steps that are chains of each other make the same classes
pub classes_as : {n : ℕ} {R S : ℕ → ℕ → Type 0} {p : List ℕ} → ((i j : ℕ) → R i j → Linked S i j)
    → ((i j : ℕ) → S i j → Linked R i j) → Classes n R p → Classes n S p
classes_as to from c =
    record {
      down = c.down;
      long = c.long;
      one_root = λ l. c.one_root (map_linked (λ k. k) from l);
      linked =
          λ z w hz hw e. map_linked (λ k. k) to (c.linked z w hz hw e);
    }

-- a shortened path changes no class
pub classes_short : {n : ℕ} {R : ℕ → ℕ → Type 0} {p p' : List ℕ} → Classes n R p → SameRoots p p' → Classes n R p'
classes_short c s = record {
  down = s.down;
  long = omega (arith, s.len, c.long);
  one_root = λ {z} {w} l. s.roots z ∙ c.one_root l ∙ sym (s.roots w);
  linked = λ z w hz hw e. c.linked z w hz hw (sym (s.roots z) ∙ e ∙ s.roots w);
}

-- uniting x and y adds a step between them
pub classes_unite : {n : ℕ} {R : ℕ → ℕ → Type 0} {p p' : List ℕ} {x y : ℕ} → x ≤ n → y ≤ n → Classes n R p
    → United p p' x y → Classes n (Plus R x y) p'
classes_unite {n} {R} {p} {p'} {x} {y} hx hy c u = record {
  down = u.down;
  long = omega (arith, u.len, c.long);
  one_root =
      linked_same (root p') (λ i j. ⊎_elim (λ r. u.keeps i j (c.one_root (link r))) (λ e. ap (root p') e.0
      ∙ u.joins ∙ ap (root p') (sym e.1)));
  linked = λ z w hz hw e. ⊎_elim (old z w hz hw)
      (⊎_elim (λ s. via x (old z x hz hx s.0) (via y xy (old y w hy hw (sym s.1))))
      (λ s. via y (old z y hz hy s.0) (via x (back xy) (old x w hx hw (sym s.1))))) (u.only z w e);
}
  where
    old : (z w : ℕ) → z ≤ n → w ≤ n → root p z ≡ root p w → Linked (Plus R x y) z w
    old z w hz hw e = map_linked (λ k. k) (λ i j r. link (inl r)) (c.linked z w hz hw e)

    xy : Linked (Plus R x y) x y
    xy = link (inr (refl, refl))

module _ (n : ℕ) (present : ℕ → Bool) (a b : ℕ → ℕ) where
  -- before the first edge
  pub classes_none : {p : List ℕ} → Classes n (λ i j. ⊥) p → Classes n (Edge (Used 0 present) a b) p
  classes_none = classes_as (λ i j r. absurd r) (λ i j r. absurd (omega (arith, r.1.0, r.1.1)))

  -- an edge among the first m is one among the first m + 1
  later : (m i j : ℕ) → Edge (Used m present) a b i j → Edge (Used (suc m) present) a b i j
  later m i j r = (r.0, (r.1.0, omega (arith, r.1.1), r.1.2), r.2, r.3)

  -- and back, if it is not the last
  earlier : (m i j : ℕ) (r : Edge (Used (suc m) present) a b i j) → r.0 ≢ suc m → Edge (Used m present) a b i j
  earlier m i j r h = (r.0, (r.1.0, omega (arith, r.1.1), r.1.2), r.2, r.3)

  -- an edge that is not present changes nothing
  pub classes_skip : {p : List ℕ} (m : ℕ) → present (suc m) ≡ false → Classes n (Edge (Used m present) a b) p
      → Classes n (Edge (Used (suc m) present) a b) p
  classes_skip m e = classes_as (λ i j r. link (later m i j r))
      (λ i j r. split r.0 (suc m) (λ q. absurd (false_T e (subst (λ k. T (present k)) q r.1.2)))
      (λ q. link (earlier m i j r q)))

  -- one that is present unites its ends
  pub classes_edge : {p p' : List ℕ} (m : ℕ) → present (suc m) ≡ true → a (suc m) ≤ n → b (suc m) ≤ n
      → Classes n (Edge (Used m present) a b) p → United p p' (a (suc m)) (b (suc m))
      → Classes n (Edge (Used (suc m) present) a b) p'
  classes_edge m e ha hb c u = classes_as
      (λ i j. ⊎_elim (λ r. link (later m i j r))
      (λ s. link (suc m, (omega arith, omega arith, true_T e), sym s.0, sym s.1)))
      (λ i j r. split r.0 (suc m) (λ q. link (inr (sym r.2 ∙ ap a q, sym r.3 ∙ ap b q)))
      (λ q. link (inl (earlier m i j r q))))
      (classes_unite ha hb c u)

  -- the edges 1 to m, one after another
  pub classes_to : {p : List ℕ} (m : ℕ) → ((i : ℕ) → Used m present i → (a i ≤ n) × (b i ≤ n)) → Classes n (λ i j. ⊥) p
      → Classes n (Edge (Used m present) a b) (unite_to present a b m p)
  unfolding unite_to unite_edge
  classes_to zero ends c = classes_none c
  classes_to {p} (suc m) ends c = go (classes_to m (λ i u. ends i (u.0, omega (arith, u.1), u.2)) c)
    where
      go : Classes n (Edge (Used m present) a b) (unite_to present a b m p)
          → Classes n (Edge (Used (suc m) present) a b) (unite_to present a b (suc m) p)
      go k = ⊎_elim
          (λ e. let h = ends (suc m) (omega arith, omega arith, true_T e) in
          rw e (classes_edge m e h.0 h.1 k (unite_united (unite_to present a b m p) k.down (a (suc m))
          (b (suc m)) (omega (arith, h.0, k.long)) (omega (arith, h.1, k.long)))))
          (λ e. rw e (classes_skip m e k)) (ask (present (suc m)))

  -- one root, by test, is the readable test of a chain
  pub classes_test : {p : List ℕ} (m : ℕ) → ((i : ℕ) → Used m present i → (1 ≤ a i) × (a i ≤ n) × (1 ≤ b i) × (b i ≤ n))
      → Classes n (Edge (Used m present) a b) p
      → (z w : ℕ) → 1 ≤ z → z ≤ n → w ≤ n → eqb (root p z) (root p w) ≡ linkedb n m present a b z w
  classes_test {p} m ends c z w lz hz hw = same_T
      (λ t. linked_complete n m present a b ends z w lz hz (c.linked z w hz hw (eqb→eq (root p z) (root p w) t)))
      (λ t. true_T (eqb_same (c.one_root (linked_sound n m present a b ends z w t))))

-- each item in use has the root of its label's representative: the test of the code
unfoldable pub all_rooted : ℕ → (ℕ → Bool) → List ℕ → (ℕ → ℕ) → (ℕ → ℕ) → Bool
all_rooted n used p rep lab = all_to n (λ g. not (used g) || eqb (root p (rep (lab g))) (root p g))

-- it is the readable one
pub rooted_linked : (n : ℕ) (used : ℕ → Bool) (m : ℕ) (present : ℕ → Bool) (a b rep lab : ℕ → ℕ) (p : List ℕ)
    → ((i : ℕ) → Used m present i → (1 ≤ a i) × (a i ≤ n) × (1 ≤ b i) × (b i ≤ n))
    → ((g : ℕ) → Used n used g → (1 ≤ rep (lab g)) × (rep (lab g) ≤ n)) → Classes n (Edge (Used m present) a b) p
    → all_rooted n used p rep lab ≡ all_linked n used m present a b rep lab
unfolding all_rooted all_linked
rooted_linked n used m present a b rep lab p ends reps c =
    all_ext n _ _ (λ g l u. imp_same (used g) (λ t. let r = reps g (l, u, t) in
    classes_test n present a b m ends c (rep (lab g)) g r.0 r.1 u))
