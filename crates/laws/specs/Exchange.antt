-- Two elements of a labelled permutation exchange what they go to: two cycles become one, or one becomes two.
-- `Till` is the run of a cycle: from z on, y is met before x is left.
use Rattle.std.specs.Prelude.{◌≡◌, refl, ◌≢◌, ◌⊎◌}
use Rattle.std.proofs.Common.{sym, ap, ◌∙◌, subst, arith}
use Rattle.std.proofs.Math.Logic.{inl, inr, ⊎_elim}
use Prim.Native.Nat.{ℕ, zero, suc, ◌<◌}
use Rattle.laws.specs.Bools.{split}
use Rattle.laws.specs.Update.{upd, upd_at, upd_off}
use Rattle.laws.specs.Permutations.{iter, Perm, inj, comes_back}
use Rattle.laws.specs.Linked.{Linked, same, link, back, via, map_linked, map_within}
use Rattle.laws.specs.Cycles.{Cycles, Step, forwards}

-- ---- exchange what x and y go to

-- what the exchange changes: f' leads from x to where y went, from y to where x went
pub record Swap (U : ℕ → Type 0) (f f' : ℕ → ℕ) (x y : ℕ) : Type 0 where
  pub x_in : U x
  pub y_in : U y
  pub apart : x ≢ y
  pub f_x : f' x ≡ f y
  pub f_y : f' y ≡ f x
  pub f_o : (i : ℕ) → i ≢ x → i ≢ y → f' i ≡ f i

-- the same, seen from y
turn : {U : ℕ → Type 0} {f f' : ℕ → ℕ} {x y : ℕ} → Swap U f f' x y → Swap U f f' y x
turn r = record {
  x_in = r.y_in;
  y_in = r.x_in;
  apart = λ e. r.apart (sym e);
  f_x = r.f_y;
  f_y = r.f_x;
  f_o =
      λ i h k. r.f_o i k h;
}

-- a statement about each number: about x, about y, about another one
three : {x y : ℕ} (P : ℕ → Type 0) → P x → P y → ((i : ℕ) → i ≢ x → i ≢ y → P i) → (i : ℕ) → P i
three {x} {y} P px py po i =
    split i x (λ e. subst P (sym e) px) (λ h. split i y (λ e. subst P (sym e) py) (λ k. po i h k))

module _ {n : ℕ} {U : ℕ → Type 0} {f f' : ℕ → ℕ} {x y : ℕ} (p : Perm n U f) (r : Swap U f f' x y) where
  -- what undoes f'
  g : ℕ → ℕ
  g = upd (upd p.inv (f y) x) (f x) y

  -- f' permutes U
  pub swap_perm : Perm n U f'
  unfolding g
  swap_perm = record {
    low = p.low;
    high = p.high;
    f_in = three (λ i. U i → U (f' i)) (λ u. rw r.f_x (p.f_in y r.y_in)) (λ u. rw r.f_y (p.f_in x r.x_in))
        (λ i h k u. rw (r.f_o i h k) (p.f_in i u));
    inv = g;
    undo = three (λ i. U i → g (f' i) ≡ i)
        (λ u. rw r.f_x (upd_off _ y (λ e. r.apart (inj p r.x_in r.y_in (sym e))) ∙ upd_at _ x refl))
        (λ u. rw r.f_y (upd_at _ y refl))
        (λ i h k u. rw (r.f_o i h k) (upd_off _ y (λ e. h (inj p u r.x_in e))
        ∙ upd_off _ x (λ e. k (inj p u r.y_in e)) ∙ p.undo i u));
  }

-- two cycles become one, which keeps the label of x

-- x and y had different labels; what had y's gets x's
pub record Merged (U : ℕ → Type 0) (lab lab' : ℕ → ℕ) (x y : ℕ) : Type 0 where
  pub two : lab x ≢ lab y
  pub lab_y : (i : ℕ) → U i → lab i ≡ lab y → lab' i ≡ lab x
  pub lab_o : (i : ℕ) → U i → lab i ≢ lab y → lab' i ≡ lab i

module _ {n : ℕ} {U : ℕ → Type 0} {f lab f' lab' : ℕ → ℕ} {x y : ℕ} (c : Cycles n U f lab) (r : Swap U f f' x y)
    (m : Merged U lab lab' x y) where
  -- from one of y's cycle on to y
  to_y : (k z : ℕ) → U z → lab z ≡ lab y → iter f k z ≡ y → Linked (Step U f') z y
  unfolding iter
  to_y zero z u e q = same q
  to_y (suc k) z u e q =
      split z y (λ d. same d) (λ h. via (f z) (link (u, r.f_o z (λ d. m.two (ap lab (sym d) ∙ e)) h))
      (to_y k (f z) (c.perm.f_in z u) (c.keeps z u ∙ e) q))

  -- x and y are in one cycle now
  x~y : Linked (Step U f') x y
  x~y = let b = comes_back c.perm y r.y_in in
      via (f y) (link (r.x_in, r.f_x)) (to_y b.0 (f y) (c.perm.f_in y r.y_in) (c.keeps y r.y_in) b.1)

  -- chains of steps stay chains
  merge_old : {i j : ℕ} → Linked (Step U f) i j → Linked (Step U f') i j
  merge_old = map_linked (λ i. i) (λ i j s. three (λ k. i ≡ k → Linked (Step U f') k j)
      (λ e. via y x~y (link (r.y_in, r.f_y ∙ ap f (sym e) ∙ s.1)))
      (λ e. via x (back x~y) (link (r.x_in, r.f_x ∙ ap f (sym e) ∙ s.1)))
      (λ k h h' e. link (subst U e s.0, r.f_o k h h' ∙ ap f (sym e) ∙ s.1)) i refl)

  -- the cycles after the move
  pub merge : Cycles n U f' lab'
  merge = record {
    perm = swap_perm c.perm r;
    keeps = three (λ i. U i → lab' (f' i) ≡ lab' i)
        (λ u. ap lab' r.f_x ∙ m.lab_y (f y) (c.perm.f_in y r.y_in) (c.keeps y r.y_in)
        ∙ sym (m.lab_o x u m.two))
        (λ u. ap lab' r.f_y
        ∙ m.lab_o (f x) (c.perm.f_in x r.x_in) (λ e. m.two (sym (c.keeps x r.x_in) ∙ e))
        ∙ c.keeps x r.x_in ∙ sym (m.lab_y y u refl))
        (λ i h k u. ap lab' (r.f_o i h k) ∙ split (lab i) (lab y)
        (λ e. m.lab_y (f i) (c.perm.f_in i u) (c.keeps i u ∙ e) ∙ sym (m.lab_y i u e))
        (λ e. m.lab_o (f i) (c.perm.f_in i u) (λ q. e (sym (c.keeps i u) ∙ q)) ∙ c.keeps i u
        ∙ sym (m.lab_o i u e)));
    one = λ i j u v e. let a = near i u in let b = near j v in
        via a.0 a.3 (via b.0 (merge_old (c.one a.0 b.0 a.1 b.1 (sym a.2 ∙ e ∙ b.2)))
        (back b.3));
  }
    where
      near : (i : ℕ) → U i → (k : ℕ) × U k × (lab' i ≡ lab k) × Linked (Step U f') i k
      near i u = split (lab i) (lab y)
          (λ e. (x, r.x_in, m.lab_y i u e, via y (merge_old (c.one i y u r.y_in e)) (back x~y)))
          (λ e. (i, u, m.lab_o i u e, same refl))

-- ---- one cycle becomes two: those from which y is met before x is left get a new label

-- from z on, y is met before x is left
pub data Till (f : ℕ → ℕ) (x y : ℕ) : ℕ → Type 0 where
  stop : {z : ℕ} → z ≡ y → Till f x y z
  go : {z : ℕ} → z ≢ x → z ≢ y → Till f x y (f z) → Till f x y z

module _ (f : ℕ → ℕ) (x y : ℕ) (apart : x ≢ y) where
  -- to leave x is to begin again at f x
  again : (m z : ℕ) → iter f m z ≡ y → Till f x y z ⊎ Till f x y (f x)
  unfolding iter
  again zero z e = inl (stop e)
  again (suc m) z e =
      ⊎_elim (λ t. split z y (λ d. inl (stop d)) (λ k. split z x (λ d. inr (subst (λ w. Till f x y (f w)) d t))
      (λ h. inl (go h k t)))) (λ t. inr t) (again m (f z) e)

  -- the run begins at f x, if y is met from there at all
  pub till_fx : (m : ℕ) → iter f m (f x) ≡ y → Till f x y (f x)
  till_fx m e = ⊎_elim (λ t. t) (λ t. t) (again m (f x) e)

  -- from each number of the cycle, y or x is met first
  pub either : (m z : ℕ) → iter f m z ≡ y → Till f x y z ⊎ Till f y x z
  unfolding iter
  either zero z e = inl (stop e)
  either (suc m) z e =
      split z y (λ d. inl (stop d))
      (λ k. split z x (λ d. inr (stop d)) (λ h. ⊎_elim (λ t. inl (go h k t)) (λ t. inr (go k h t)) (either m (f z) e)))

  -- and not both
  pub not_both : {z : ℕ} → Till f x y z → Till f y x z → ⊥
  not_both (stop d) (stop e) = apart (sym e ∙ d)
  not_both (stop d) (go h k t) = h d
  not_both (go h k t) (stop e) = h e
  not_both (go h k t) (go h' k' t') = not_both t t'

-- the steps of a Till
pub till_steps : {f : ℕ → ℕ} {x y z : ℕ} → Till f x y z → (e : ℕ) × (iter f e z ≡ y)
    × ((t : ℕ) → t < e → iter f t z ≢ x)
unfolding iter
till_steps (stop e) = (0, e, λ t l. absurd (omega arith))
till_steps {f} {x} {y} (go {z} h k s) = let r = till_steps s in (suc r.0, r.1, at r.0 r.2)
  where
    at : (m : ℕ) → ((t : ℕ) → t < m → iter f t (f z) ≢ x) → (t : ℕ) → t < suc m → iter f t z ≢ x
    at m rest zero l = h
    at m rest (suc t) l = rest t (omega arith)

-- x and y had one label; the run up to y gets the new label c, the rest and all other cycles keep theirs
pub record Halved (U : ℕ → Type 0) (f lab lab' : ℕ → ℕ) (x y c : ℕ) : Type 0 where
  pub one_label : lab x ≡ lab y
  pub fresh : (i : ℕ) → U i → lab i ≢ c
  pub lab_run : (i : ℕ) → U i → Till f x y i → lab' i ≡ c
  pub lab_rest : (i : ℕ) → U i → Till f y x i → lab' i ≡ lab i
  pub lab_far : (i : ℕ) → U i → lab i ≢ lab x → lab' i ≡ lab i

module _ {n : ℕ} {U : ℕ → Type 0} {f f' lab : ℕ → ℕ} {x y : ℕ} (c : Cycles n U f lab) (r : Swap U f f' x y) where
  -- what is met before y stays linked to y
  till_linked : {z : ℕ} → U z → Till f x y z → Linked (Step U f') z y
  till_linked u (stop e) = same e
  till_linked u (go {z} h k t) = via (f z) (link (u, r.f_o z h k)) (till_linked (c.perm.f_in z u) t)

  -- f' stays on the run
  till_next : lab x ≡ lab y → {z : ℕ} → Till f x y z → Till f x y (f' z)
  till_next e (stop {z} d) =
      let w = forwards c.perm (c.one (f x) y (c.perm.f_in x r.x_in) r.y_in (c.keeps x r.x_in ∙ e)) in
      subst (Till f x y) (sym (ap f' d ∙ r.f_y)) (till_fx f x y r.apart w.0.0 w.0.1)
  till_next e (go {z} h k t) = subst (Till f x y) (sym (r.f_o z h k)) t

  -- the run is of y's label
  till_lab : {z : ℕ} → U z → Till f x y z → lab z ≡ lab y
  till_lab u (stop e) = ap lab e
  till_lab u (go {z} h k t) = sym (c.keeps z u) ∙ till_lab (c.perm.f_in z u) t

module _ {n : ℕ} {U : ℕ → Type 0} {f lab f' lab' : ℕ → ℕ} {x y d : ℕ} (c : Cycles n U f lab) (r : Swap U f f' x y)
    (m : Halved U f lab lab' x y d) where
  -- where a number lies: on the run, on the rest of the cycle, or in another cycle
  data Side (i : ℕ) : Type 0 where
    run : Till f x y i → lab' i ≡ d → Side i
    rest : Till f y x i → lab' i ≡ lab i → lab i ≡ lab x → Side i
    far : lab i ≢ lab x → lab' i ≡ lab i → Side i

  -- each number of U lies in one of the three
  side : (i : ℕ) → U i → Side i
  side i u = split (lab i) (lab x) near (λ e. far e (m.lab_far i u e))
    where
      near : lab i ≡ lab x → Side i
      near e = let w = forwards c.perm (c.one i y u r.y_in (e ∙ m.one_label)) in
          ⊎_elim (λ t. run t (m.lab_run i u t)) (λ t. rest t (m.lab_rest i u t) e)
          (either f x y r.apart w.0.0 i w.0.1)

  -- the cycles after the move
  pub halve : Cycles n U f' lab'
  halve = record {
    perm = swap_perm c.perm r;
    keeps = λ i u. keep i u (side i u);
    one =
        λ i j u v e. join i j u v e (side i u) (side j v);
  }
    where
      keep : (i : ℕ) → U i → Side i → lab' (f' i) ≡ lab' i
      keep i u (run t e) = m.lab_run _ ((swap_perm c.perm r).f_in i u) (till_next c r m.one_label t) ∙ sym e
      keep i u (rest t e q) =
          let t' = till_next c (turn r) (sym m.one_label) t in
          let u' = (swap_perm c.perm r).f_in i u in
          m.lab_rest _ u' t' ∙ till_lab c (turn r) u' t' ∙ sym q ∙ sym e
      keep i u (far h e) =
          let same-f = r.f_o i (λ q. h (ap lab q)) (λ q. h (ap lab q ∙ sym m.one_label)) in
          ap lab' same-f ∙ m.lab_far (f i) (c.perm.f_in i u) (λ q. h (sym (c.keeps i u) ∙ q)) ∙ c.keeps i u ∙ sym e

      join : (i j : ℕ) → U i → U j → lab' i ≡ lab' j → Side i → Side j → Linked (Step U f') i j
      join i j u v e (run t p) (run s q) = via y (till_linked c r u t) (back (till_linked c r v s))
      join i j u v e (rest t p a) (rest s q b) = via x (till_linked c (turn r) u t) (back (till_linked c (turn r) v s))
      join i j u v e (far h p) (far k q) =
          map_within (λ z. lab z ≢ lab x)
          (λ a b s. (
            λ w z. w (sym (c.keeps a s.0) ∙ ap lab s.1 ∙ z),
            λ w z. w (ap lab (sym s.1)
                ∙ c.keeps a s.0 ∙ z),
          ))
          (λ a b s w. link (s.0, r.f_o a (λ z. w (ap lab z)) (λ z. w (ap lab z ∙ sym m.one_label)) ∙ s.1))
          (c.one i j u v (sym p ∙ e ∙ q)) h
      join i j u v e (run t p) (rest s q b) = absurd (m.fresh j v (sym q ∙ sym e ∙ p))
      join i j u v e (run t p) (far k q) = absurd (m.fresh j v (sym q ∙ sym e ∙ p))
      join i j u v e (rest t p a) (run s q) = absurd (m.fresh i u (sym p ∙ e ∙ q))
      join i j u v e (far h p) (run s q) = absurd (m.fresh i u (sym p ∙ e ∙ q))
      join i j u v e (rest t p a) (far k q) = absurd (k (sym q ∙ sym e ∙ p ∙ a))
      join i j u v e (far h p) (rest s q b) = absurd (h (sym p ∙ e ∙ q ∙ b))
