-- Union-find: parents that never rise, the root found, paths shortened, two classes united.
use Rattle.std.specs.Prelude.{◌≡◌, refl, ◌≢◌, ◌⊎◌, Bool, List, ℕ, zero, suc, ◌≤◌, ◌<◌, eqb, length, get_or, set}
use Rattle.std.proofs.Common.{sym, ap, ◌∙◌, subst, inl, inr, arith, ltb→lt, lt→ltb, length-set, get_or-set_same}
use Rattle.std.proofs.Common.{get_or-set_other}
use Rattle.std.proofs.Math.Logic.{⊎_elim}
use Rattle.std.proofs.Math.Bool.{false}
use Rattle.std.proofs.Math.Dec.{ltb}
use Rattle.std.proofs.Math.Seq.{set_out}
use Rattle.laws.specs.Bools.{pick, true_T, false_T, ask, split, le?, eqb_same, eqb_other}
use Rattle.laws.specs.Update.{relabel, relabel_at, relabel_off, relabel_same}
use Rattle.laws.specs.Linked.{Linked, link, back, via, linked_same}

-- parents never rise
pub record Down (p : List ℕ) : Type 0 where
  pub at : (i : ℕ) → get_or p i 0 ≤ i

-- the root of x, in at most n steps
unfoldable pub root_of : List ℕ → ℕ → ℕ → ℕ
root_of p zero x = x
root_of p (suc n) x = pick (eqb (get_or p x 0) x) x (root_of p n (get_or p x 0))

-- the root of x: x steps are enough
abbrev pub root : List ℕ → ℕ → ℕ
root p x = root_of p x x

-- the larger of two roots gets the smaller one as its parent
unfoldable pub hang : List ℕ → ℕ → ℕ → List ℕ
hang p a b = pick (ltb a b) (set p b a) (set p a b)

-- the classes of x and y become one
abbrev pub unite : List ℕ → ℕ → ℕ → List ℕ
unite p x y = hang p (root p x) (root p y)

-- the ends of edge i, if it is present
unfoldable pub unite_edge : (ℕ → Bool) → (ℕ → ℕ) → (ℕ → ℕ) → ℕ → List ℕ → List ℕ
unite_edge present a b i p = pick (present i) (unite p (a i) (b i)) p

-- the ends of the edges 1 to m, in this order
unfoldable pub unite_to : (ℕ → Bool) → (ℕ → ℕ) → (ℕ → ℕ) → ℕ → List ℕ → List ℕ
unite_to present a b zero p = p
unite_to present a b (suc m) p = unite_edge present a b (suc m) (unite_to present a b m p)

-- ---- parents that never rise

-- a store of something not larger keeps parents from rising, wherever it goes
pub down_set : (p : List ℕ) (i v : ℕ) → Down p → v ≤ i → Down (set p i v)
down_set p i v d l = record {
  at = λ j. split j i
      (λ e. ⊎_elim (λ h. rw (set_out p i v h) (d.at j)) (λ h. rw (e, get_or-set_same p i v 0 h) l) (le? (length p) i))
      (λ h. rw (get_or-set_other p i j v 0 h) (d.at j));
}

-- ---- finding the root

-- at its own parent the walk ends
pub root_end : (p : List ℕ) (n k : ℕ) → get_or p k 0 ≡ k → root_of p n k ≡ k
unfolding root_of
root_end p zero k h = refl
root_end p (suc n) k h = rw (eqb_same h)

-- elsewhere it goes on at the parent
pub root_on : (p : List ℕ) (n k : ℕ) → get_or p k 0 ≢ k → root_of p (suc n) k ≡ root_of p n (get_or p k 0)
unfolding root_of
root_on p n k h = rw (eqb_other h)

-- what holds of a number once it holds of all below holds of all
by_less : (P : ℕ → Type 0) → ((k : ℕ) → ((j : ℕ) → j < k → P j) → P k) → (k : ℕ) → P k
by_less P h k = up (suc k) k (omega arith)
  where
    up : (n k : ℕ) → k < n → P k
    up zero k l = absurd (omega arith)
    up (suc n) k l = h k (λ j m. up n j (omega arith))

module _ (p : List ℕ) (d : Down p) where
  -- more steps than needed change nothing
  pub root_fuel : (m n k : ℕ) → k ≤ m → k ≤ n → root_of p m k ≡ root_of p n k
  root_fuel zero n k hm hn = root_end p zero k (omega (arith, d.at k)) ∙ sym (root_end p n k (omega (arith, d.at k)))
  root_fuel (suc m) n k hm hn = split (get_or p k 0) k (λ e. root_end p (suc m) k e ∙ sym (root_end p n k e))
      (λ h. go (root_fuel m) n hn h)
    where
      go : ((n k : ℕ) → k ≤ m → k ≤ n → root_of p m k ≡ root_of p n k) → (n : ℕ) → k ≤ n → get_or p k 0 ≢ k
          → root_of p (suc m) k ≡ root_of p n k
      go ih zero l h = absurd (h (omega (arith, d.at k)))
      go ih (suc n) l h = root_on p m k h ∙ ih n (get_or p k 0) (omega (arith, d.at k)) (omega (arith, d.at k))
          ∙ sym (root_on p n k h)

  -- a number and its parent have one root
  pub root_step : (k : ℕ) → root p k ≡ root p (get_or p k 0)
  root_step k = split (get_or p k 0) k (λ e. ap (root p) (sym e))
      (λ h. root_fuel k (suc k) k (omega arith) (omega arith) ∙ root_on p k k h
      ∙ root_fuel k (get_or p k 0) (get_or p k 0) (d.at k) (omega arith))

  -- what holds of roots, and of a number once it holds of its parent, holds of all
  by_parent : (P : ℕ → Type 0) → ((k : ℕ) → get_or p k 0 ≡ k → P k)
      → ((k : ℕ) → get_or p k 0 ≢ k → P (get_or p k 0) → P k)
      → (k : ℕ) → P k
  by_parent P end on =
      by_less P (λ k ih. split (get_or p k 0) k (end k) (λ h. on k h (ih (get_or p k 0) (omega (arith, d.at k)))))

  -- a root is its own parent
  pub root_fix : (k : ℕ) → get_or p (root p k) 0 ≡ root p k
  root_fix = by_parent (λ k. get_or p (root p k) 0 ≡ root p k) (λ k e. rw (root_end p k k e) e)
      (λ k h ih. subst (λ r. get_or p r 0 ≡ r) (sym (root_step k)) ih)

  -- and not larger than what it is the root of
  pub root_le : (k : ℕ) → root p k ≤ k
  root_le = by_parent (λ k. root p k ≤ k) (λ k e. omega (arith, root_end p k k e))
      (λ k h ih. omega (arith, root_step k, d.at k))

  -- the root of a root is itself
  pub root_root : (k : ℕ) → root p (root p k) ≡ root p k
  root_root k = root_end p (root p k) (root p k) (root_fix k)

-- ---- shortening paths

-- every root is as it was
pub record SameRoots (p p' : List ℕ) : Type 0 where
  pub down : Down p'
  pub len : length p' ≡ length p
  pub roots : (z : ℕ) → root p' z ≡ root p z

-- k gets a parent v that has its root: no root changes
pub shorten : (p : List ℕ) → Down p → (k v : ℕ) → v ≤ k → root p v ≡ root p k → (v ≡ k → get_or p k 0 ≡ k)
    → SameRoots p (set p k v)
shorten p d k v l e end = ⊎_elim
    (λ h. rw (set_out p k v h) (record { down = d; len = refl; roots = λ z. refl }))
    (λ h. record {
      down = d';
      len = length-set p k v;
      roots =
          by_less (λ z. root (set p k v) z ≡ root p z)
          (λ z ih. split z k (λ q. subst (λ i. root (set p k v) i ≡ root p i) (sym q)
          (here h (λ j m. ih j (omega arith)))) (λ q. there z q ih));
    })
    (le? (length p) k)
  where
    d' : Down (set p k v)
    d' = down_set p k v d l

    there : (z : ℕ) → z ≢ k → ((j : ℕ) → j < z → root (set p k v) j ≡ root p j) → root (set p k v) z ≡ root p z
    there z q ih =
        let s : get_or (set p k v) z 0 ≡ get_or p z 0 = get_or-set_other p k z v 0 q in
        split (get_or p z 0) z (λ f. root_end (set p k v) z z (s ∙ f) ∙ sym (root_end p z z f))
        (λ f. root_step (set p k v) d' z ∙ ap (root (set p k v)) s ∙ ih (get_or p z 0) (omega (arith, d.at z))
        ∙ sym (root_step p d z))

    here : k < length p → ((j : ℕ) → j < k → root (set p k v) j ≡ root p j) → root (set p k v) k ≡ root p k
    here h ih =
        let s : get_or (set p k v) k 0 ≡ v = get_or-set_same p k v 0 h in
        split v k (λ f. root_end (set p k v) k k (s ∙ f) ∙ sym (root_end p k k (end f)))
        (λ f. root_step (set p k v) d' k ∙ ap (root (set p k v)) s ∙ ih v (omega arith) ∙ e)

-- the parent of the parent
pub halve_path : (p : List ℕ) → Down p → (k : ℕ) → SameRoots p (set p k (get_or p (get_or p k 0) 0))
halve_path p d k = shorten p d k (get_or p (get_or p k 0) 0) (omega (arith, d.at k, d.at (get_or p k 0)))
    (sym (root_step p d k ∙ root_step p d (get_or p k 0))) (λ e. omega (arith, d.at k, d.at (get_or p k 0)))

-- the root itself
pub point_root : (p : List ℕ) → Down p → (k : ℕ) → SameRoots p (set p k (root p k))
point_root p d k = shorten p d k (root p k) (root_le p d k) (root_root p d k) (λ e. ap (λ i. get_or p i 0) (sym e)
    ∙ root_fix p d k ∙ e)

-- one after another
pub same_roots_then : {p q r : List ℕ} → SameRoots p q → SameRoots q r → SameRoots p r
same_roots_then a b = record { down = b.down; len = b.len ∙ a.len; roots = λ z. b.roots z ∙ a.roots z }

-- ---- uniting

-- the classes of x and y are one class of p', and nothing else has changed
pub record United (p p' : List ℕ) (x y : ℕ) : Type 0 where
  pub down : Down p'
  pub len : length p' ≡ length p
  pub keeps : (z w : ℕ) → root p z ≡ root p w → root p' z ≡ root p' w
  pub joins : root p' x ≡ root p' y
  pub only : (z w : ℕ) → root p' z ≡ root p' w → (root p z ≡ root p w) ⊎ ((root p z ≡ root p x) × (root p w ≡ root p y))
      ⊎ ((root p z ≡ root p y) × (root p w ≡ root p x))

-- the same with x and y exchanged
united_turn : {p p' : List ℕ} {x y : ℕ} → United p p' x y → United p p' y x
united_turn u = record {
  down = u.down;
  len = u.len;
  keeps = u.keeps;
  joins = sym u.joins;
  only =
      λ z w e. ⊎_elim (λ s. inl s) (⊎_elim (λ s. inr (inr s)) (λ s. inr (inl s))) (u.only z w e);
}

module _ (p : List ℕ) (d : Down p) where
  -- a root b becomes a child of a smaller root a: what had the root b has the root a
  pub root_hung : (a b : ℕ) → get_or p a 0 ≡ a → get_or p b 0 ≡ b → a < b → b < length p → (z : ℕ)
      → root (set p b a) z ≡ relabel (root p) b a z
  root_hung a b fa fb l h = by_parent p d (λ z. root (set p b a) z ≡ relabel (root p) b a z)
      (λ z e. split z b
      (λ q. subst (λ i. root (set p b a) i ≡ relabel (root p) b a i) (sym q) (root_step (set p b a) d' b
      ∙ ap (root (set p b a)) (get_or-set_same p b a 0 h) ∙ root_end (set p b a) a a (other a (omega arith) ∙ fa)
      ∙ sym (relabel_at (root p) b a (root_end p b b fb))))
      (λ q. root_end (set p b a) z z (other z q ∙ e) ∙ sym (root_end p z z e)
      ∙ sym (relabel_off (root p) b a (λ r. q (sym (root_end p z z e) ∙ r)))))
      (λ z e ih. root_step (set p b a) d' z
      ∙ ap (root (set p b a)) (other z (λ q. e (ap (λ i. get_or p i 0) q ∙ fb ∙ sym q))) ∙ ih
      ∙ relabel_same (root p) b a (sym (root_step p d z)))
    where
      d' : Down (set p b a)
      d' = down_set p b a d (omega arith)

      other : (z : ℕ) → z ≢ b → get_or (set p b a) z 0 ≡ get_or p z 0
      other z q = get_or-set_other p b z a 0 q

  -- so the two classes are one
  hung_united : (x y : ℕ) → root p x < root p y → y < length p → United p (set p (root p y) (root p x)) x y
  hung_united x y l h = record {
    down = down_set p b a d (omega arith);
    len = length-set p b a;
    keeps = λ z w e. is z ∙ relabel_same (root p) b a e ∙ sym (is w);
    joins = is x ∙ relabel_off (root p) b a (omega arith) ∙ sym (relabel_at (root p) b a refl) ∙ sym (is y);
    only = λ z w e. cases z w (sym (is z) ∙ e ∙ is w);
  }
    where
      a : ℕ
      a = root p x

      b : ℕ
      b = root p y

      is : (z : ℕ) → root (set p b a) z ≡ relabel (root p) b a z
      is = root_hung a b (root_fix p d x) (root_fix p d y) l (omega (arith, root_le p d y))

      cases : (z w : ℕ) → relabel (root p) b a z ≡ relabel (root p) b a w → (root p z ≡ root p w)
          ⊎ ((root p z ≡ root p x) × (root p w ≡ root p y)) ⊎ ((root p z ≡ root p y) × (root p w ≡ root p x))
      cases z w e = split (root p z) b
          (λ q. split (root p w) b (λ r. inl (q ∙ sym r))
          (λ r. inr (inr (q, sym (relabel_off (root p) b a r) ∙ sym e ∙ relabel_at (root p) b a q))))
          (λ q. split (root p w) b
          (λ r. inr (inl (sym (relabel_off (root p) b a q) ∙ e ∙ relabel_at (root p) b a r, r)))
          (λ r. inl (sym (relabel_off (root p) b a q) ∙ e ∙ relabel_off (root p) b a r)))

  -- uniting does what it should
  pub unite_united : (x y : ℕ) → x < length p → y < length p → United p (unite p x y) x y
  unfolding hang
  unite_united x y hx hy = ⊎_elim
      (λ e. rw e (hung_united x y (ltb→lt (root p x) (root p y) (true_T e)) hy))
      (λ e. rw e (split (root p x) (root p y) level (λ h. united_turn (hung_united y x (more e h) hx))))
      (ask (ltb (root p x) (root p y)))
    where
      more : ltb (root p x) (root p y) ≡ false → root p x ≢ root p y → root p y < root p x
      more e h = ⊎_elim (λ l. omega arith) (λ l. absurd (false_T e (lt→ltb (root p x) (root p y) l)))
          (le? (root p y) (root p x))

      level : root p x ≡ root p y → United p (set p (root p x) (root p y)) x y
      level e =
          let s = shorten p d (root p x) (root p y) (omega arith) (root_root p d y ∙ sym e ∙ sym (root_root p d x))
          (λ q. root_fix p d x) in
          record {
            down = s.down;
            len = s.len;
            keeps = λ z w q. s.roots z ∙ q ∙ sym (s.roots w);
            joins = s.roots x
                ∙ e ∙ sym (s.roots y);
            only = λ z w q. inl (sym (s.roots z) ∙ q ∙ s.roots w);
          }

-- paths may be shortened before and after
pub united_between : {p q r s : List ℕ} {x y : ℕ} → SameRoots p q → United q r x y → SameRoots r s → United p s x y
united_between {p} {q} {r} {s} {x} {y} a u b = record {
  down = b.down;
  len = b.len ∙ u.len ∙ a.len;
  keeps = λ z w e. b.roots z ∙ u.keeps z w (a.roots z ∙ e ∙ sym (a.roots w)) ∙ sym (b.roots w);
  joins = b.roots x ∙ u.joins ∙ sym (b.roots y);
  only = λ z w e. ⊎_elim (λ t. inl (old z w t)) (⊎_elim (λ t. inr (inl (old z x t.0, old w y t.1)))
      (λ t. inr (inr (old z y t.0, old w x t.1)))) (u.only z w (sym (b.roots z) ∙ e ∙ b.roots w));
}
  where
    old : (z w : ℕ) → root q z ≡ root q w → root p z ≡ root p w
    old z w e = sym (a.roots z) ∙ e ∙ a.roots w

-- the classes after are the finest that hold those before and the pair x, y
pub united_linked : {p p' : List ℕ} {x y : ℕ} → United p p' x y → (z w : ℕ)
    → (root p' z ≡ root p' w → Linked (λ i j. (root p i ≡ root p j) ⊎ ((i ≡ x) × (j ≡ y))) z w)
    × (Linked (λ i j. (root p i ≡ root p j) ⊎ ((i ≡ x) × (j ≡ y))) z w → root p' z ≡ root p' w)
united_linked {p} {p'} {x} {y} u z w = (
  λ e. ⊎_elim (λ s. link (inl s)) (⊎_elim (λ s. via x (link (inl s.0)) (via y xy (link (inl (sym s.1)))))
      (λ s. via y (link (inl s.0)) (via x (back xy) (link (inl (sym s.1)))))) (u.only z w e),
  linked_same (root p') (λ i j. ⊎_elim (u.keeps i j) (λ s. ap (root p') s.0 ∙ u.joins
      ∙ ap (root p') (sym s.1))),
)
  where
    xy : Linked (λ i j. (root p i ≡ root p j) ⊎ ((i ≡ x) × (j ≡ y))) x y
    xy = link (inr (refl, refl))
