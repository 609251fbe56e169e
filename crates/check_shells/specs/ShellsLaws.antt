-- Union and find over the edges of a table, one edge after another, finds its shells; and what the code asks of them.
use Rattle.std.specs.Prelude.{◌≡◌, refl, ◌≢◌, Bool, true, false, not, ◌&&◌, ℕ, suc, ◌+◌, ◌≤◌, List, T, eqb, leb, get_or}
use Rattle.std.proofs.Common.{◌∙◌, subst, add-one, arith, leb→le, le→leb}
use Rattle.std.proofs.Math.Path.{fun_ext}
use borrow.Author.Tests.{not-true, not-false}
use Rattle.laws.specs.Bools.{true_T, and_T, T_and, split, eqb_same, eqb_other}
use Rattle.laws.specs.Walks.{Used}
use Rattle.laws.specs.Closure.{linkedb}
use Rattle.laws.specs.Union.{classes_start, classes_none, classes_skip, classes_edge}
use Rattle.laws.specs.UnionFind.{root, SameRoots, United}
use Rattle.laws.specs.Union.{classes_test}
use Rattle.bounds.specs.Bounds.{item_places, most_items}
use Rattle.layout.specs.declared.shape.Shape.{Shape}
use Rattle.layout.specs.Layout.{face_solid, loop_face, loop_of, side}
use Rattle.check_shells.specs.Forest.{Apart}
use Rattle.check_shells.specs.ForestLaws.{apart_forest, forest_short, forest_united}
use Rattle.check_shells.specs.Shells.{side_as, side_a, side_b, edge_used, within, joins, Ends, linked_by, face_whole}
use Rattle.check_shells.specs.Shells.{one_root, Shells, Joined}

-- ---- tests

-- what follows a test matters only where it passes
and_same : (a b d : Bool) → (T a → b ≡ d) → (a && b) ≡ (a && d)
and_same true b d h = h tt
and_same false b d h = refl

-- the test of a range as a fact
pub within_T : (n f : ℕ) → T (within n f) → (1 ≤ f) × (f ≤ n)
unfolding within
within_T n f t = let s = and_T (leb 1 f) (leb f n) t in (leb→le 1 f s.0, leb→le f n s.1)

-- and back
pub T_within : (n f : ℕ) → 1 ≤ f → f ≤ n → T (within n f)
unfolding within
T_within n f l h = T_and (leb 1 f) (leb f n) (le→leb 1 f l) (le→leb f n h)

module _ (sh : Shape) (x : List ℕ) (s : ℕ → ℕ) where
  -- an edge that joins faces is in use and has both
  pub joins_T : (e : ℕ) → T (joins sh x s e) → T (edge_used sh x e) × Ends sh.faces s e
  unfolding joins
  joins_T e t =
      let q = and_T (edge_used sh x e && within sh.faces (side_a s e)) (within sh.faces (side_b s e)) t in
      let r = and_T (edge_used sh x e) (within sh.faces (side_a s e)) q.0 in
      let a = within_T sh.faces (side_a s e) r.1 in
      let b = within_T sh.faces (side_b s e) q.1 in
      (r.0, (a.0, a.1, b.0, b.1))

  -- and back
  pub T_joins : (e : ℕ) → T (edge_used sh x e) → Ends sh.faces s e → T (joins sh x s e)
  unfolding joins
  T_joins e u n =
      T_and (edge_used sh x e && within sh.faces (side_a s e)) (within sh.faces (side_b s e))
      (T_and (edge_used sh x e) (within sh.faces (side_a s e)) u (T_within sh.faces (side_a s e) n.0 n.1))
      (T_within sh.faces (side_b s e) n.2 n.3)

  -- then both can be looked up
  pub joins_low : (e : ℕ) → joins sh x s e ≡ true → sh.faces ≤ most_items
      → (side_a s e ≤ most_items) × (side_b s e ≤ most_items)
  joins_low e t h = let a = (joins_T e (true_T t)).1 in (omega (arith, a.1), omega (arith, a.3))

  -- what joins has ends, as the laws of closure ask
  pub ends : (e : ℕ) → Used sh.edges (joins sh x s) e → Ends sh.faces s e
  ends e u = (joins_T e u.2).1

-- shortened paths change no answer
pub one_root_short : {p q : List ℕ} (n : ℕ) → SameRoots p q → (f g : ℕ) → one_root n q f g ≡ one_root n p f g
unfolding one_root
one_root_short n r f g = rw (r.roots f, r.roots g)

-- ---- edge after edge

module _ {sh : Shape} {x : List ℕ} {s : ℕ → ℕ} {p : List ℕ} where
  -- before the first
  pub joined_start : Apart p item_places → sh.faces ≤ most_items → Joined sh x s 0 p
  joined_start a h = record {
    forest = apart_forest a (omega arith);
    classes = classes_none sh.faces (joins sh x s) (side_a s) (side_b s)
        (classes_start sh.faces p (apart_forest a (omega arith)).down (omega (arith, a.long))
        (λ i l. a.own i (omega arith)));
  }

  -- an edge that joins no faces is passed over
  pub joined_skip : (k : ℕ) → joins sh x s (k + 1) ≡ false → Joined sh x s k p → Joined sh x s (k + 1) p
  joined_skip k t j = rw (add-one k) (record {
    forest = j.forest;
    classes = classes_skip sh.faces (joins sh x s) (side_a s) (side_b s) k (rw (add-one k) at t) j.classes;
  })

  -- at another its faces are united
  pub joined_edge : {q : List ℕ} (k : ℕ) → joins sh x s (k + 1) ≡ true → Joined sh x s k p
      → United p q (side_a s (k + 1)) (side_b s (k + 1)) → Joined sh x s (k + 1) q
  joined_edge k t j u = go (rw (add-one k) at t) (rw (add-one k) at u)
    where
      go : {q : List ℕ} → joins sh x s (suc k) ≡ true → United p q (side_a s (suc k)) (side_b s (suc k))
          → Joined sh x s (k + 1) q
      go t u = let a = (joins_T sh x s (suc k) (true_T t)).1 in rw (add-one k) (record {
        forest = forest_united j.forest u;
        classes = classes_edge sh.faces (joins sh x s) (side_a s) (side_b s) k t a.1 a.3 j.classes u;
      })

  -- after the last one root is one shell
  pub joined_shells : Joined sh x s sh.edges p → Shells sh x s p
  unfolding one_root linked_by
  joined_shells j = record {
    forest = j.forest;
    one = λ f g. and_same (within sh.faces f && within sh.faces g) (eqb (root p f) (root p g))
        (linkedb sh.faces sh.edges (joins sh x s) (side_a s) (side_b s) f g)
        (λ t. let b = and_T (within sh.faces f) (within sh.faces g) t in
        let a = within_T sh.faces f b.0 in
        classes_test sh.faces (joins sh x s) (side_a s) (side_b s) sh.edges (ends sh x s) j.classes f g a.0
        a.1 (within_T sh.faces g b.1).1);
  }

  -- shortened paths change no shell
  pub shells_short : {q : List ℕ} → Shells sh x s p → SameRoots p q → Shells sh x s q
  shells_short c r = record {
    forest = forest_short c.forest r;
    one = λ f g. one_root_short sh.faces r f g
        ∙ c.one f g;
  }

-- ---- one root or not

-- u and w say whether f and g are from 1 to n
module _ (n f g : ℕ) {u w : Bool} (eu : u ≡ within n f) (ew : w ≡ within n g) where
  -- one of the two is no face
  pub one_root_none : not (u && w) ≡ true → (p : List ℕ) → false ≡ one_root n p f g
  unfolding one_root
  one_root_none e p = rw (← eu, ← ew, not-true (u && w) e)

  -- both are, and their roots are compared
  pub one_root_found : not (u && w) ≡ false → {p q : List ℕ} → SameRoots p q → (a b : ℕ) → a ≡ root p f → b ≡ root q g
      → eqb a b ≡ one_root n p f g
  unfolding one_root
  one_root_found e s a b ea eb = rw (← eu, ← ew, not-false (u && w) e, ea, eb, s.roots g)

  -- both can be looked up
  pub faces_low : not (u && w) ≡ false → n ≤ most_items → (f ≤ most_items) × (g ≤ most_items)
  faces_low e h =
      let t = and_T u w (true_T (not-false (u && w) e)) in
      (omega (arith, (within_T n f (subst T eu t.0)).1), omega (arith, (within_T n g (subst T ew t.1)).1))

-- ---- the face of half-edge k once loop l lies in face t

-- o is its loop
module _ (sh : Shape) (x : List ℕ) (l t k o : ℕ) (e : o ≡ loop_of sh x k) where
  pub side_moved : o ≡ l → t ≡ side_as sh x l t k
  side_moved h = rw (← e, eqb_same h)

  pub side_left : o ≢ l → (f : ℕ) → f ≡ loop_face sh x o → f ≡ side_as sh x l t k
  side_left h f q = rw (← e, eqb_other h) q

-- with loop 0 in face 0 each lies where it lies in the table
pub side_here : (sh : Shape) (x : List ℕ) (k : ℕ) → side_as sh x 0 0 k ≡ side sh x k
side_here sh x k = split (loop_of sh x k) 0 (λ e. rw e) (λ f. rw (eqb_other f))

-- and so do the shells
pub shells_here : {sh : Shape} {x p : List ℕ} → Shells sh x (side_as sh x 0 0) p → Shells sh x (side sh x) p
shells_here {sh} {x} {p} c = subst (λ s. Shells sh x s p) (fun_ext (side_here sh x)) c

-- ---- face after face

module _ (sh : Shape) (x ls : List ℕ) (f : ℕ) where
  -- a free face passes
  pub whole_free : face_solid sh x f ≡ 0 → true ≡ face_whole sh x ls f
  unfolding face_whole
  whole_free e = rw (eqb_same e)

  -- of another one the roots are asked
  pub whole_asked : {p : List ℕ} → Shells sh x (side sh x) p → (s g : ℕ) → s ≡ face_solid sh x f → s ≢ 0
      → g ≡ get_or ls s 0 → {r : Bool} → r ≡ one_root sh.faces p g f → r ≡ face_whole sh x ls f
  unfolding face_whole
  whole_asked c s g es h eg er = rw (← es, eqb_other h, er, c.one g f, eg)
