-- A permutation whose cycles are told apart by a label, and what becomes of them when an element is put in or taken
-- out, or when a cycle of one comes or goes. (`Exchange` has the two moves that join and part cycles.)
use Rattle.std.specs.Prelude.{◌≡◌, refl, ◌≢◌, ◌⊎◌, ℕ, ◌+◌, ◌≤◌}
use Rattle.std.proofs.Common.{sym, ap, ◌∙◌}
use Rattle.std.proofs.Math.Path.{subst}
use Rattle.std.proofs.Math.Logic.{⊎_elim}
use Rattle.laws.specs.Bools.{split}
use Rattle.laws.specs.Update.{upd, upd_at, upd_off}
use Rattle.laws.specs.Permutations.{iter, iter_add, Perm, inj, comes_back}
use Rattle.laws.specs.Linked.{Linked, same, link, back, via, map_linked, map_within, carry}

-- f leads from i, one of U, to j
abbrev pub Step : (ℕ → Type 0) → (ℕ → ℕ) → ℕ → ℕ → Type 0
Step U f i j = U i × (f i ≡ j)

-- f permutes U, keeps labels, and those of one label are in one cycle
pub record Cycles (n : ℕ) (U : ℕ → Type 0) (f lab : ℕ → ℕ) : Type 0 where
  pub perm : Perm n U f
  pub keeps : (i : ℕ) → U i → lab (f i) ≡ lab i
  pub one : (i j : ℕ) → U i → U j → lab i ≡ lab j → Linked (Step U f) i j

-- a chain of steps of a permutation can be gone forwards, from either end
pub forwards : {n : ℕ} {U : ℕ → Type 0} {f : ℕ → ℕ} (p : Perm n U f) {i j : ℕ} → Linked (Step U f) i j
    → ((m : ℕ) × (iter f m i ≡ j)) × ((m : ℕ) × (iter f m j ≡ i))
unfolding iter
forwards p (same e) = ((0, e), (0, sym e))
forwards {f = f} p (link {i} s) = let b = comes_back p i s.0 in
    ((1, s.1), (b.0, ap (iter f b.0) (sym s.1) ∙ b.1))
forwards p (back l) = let r = forwards p l in (r.1, r.0)
forwards {f = f} p (via {i} {k} j l m) =
    let a = forwards p l in
    let b = forwards p m in (
      (a.0.0 + b.0.0, iter_add f a.0.0 b.0.0 i ∙ ap (iter f b.0.0) a.0.1 ∙ b.0.1),
      (b.1.0 + a.1.0, iter_add f b.1.0 a.1.0 k ∙ ap (iter f a.1.0) b.1.1 ∙ a.1.1),
    )

-- ---- put x in after y

-- what the move changes: x, not of U, comes after y with y's label; all else stays
pub record Insert (n : ℕ) (U U' : ℕ → Type 0) (f lab f' lab' : ℕ → ℕ) (x y : ℕ) : Type 0 where
  pub fresh : ¬ U x
  pub x_low : 1 ≤ x
  pub x_high : x ≤ n
  pub y_in : U y
  pub old : (i : ℕ) → U i → U' i
  pub new : U' x
  pub cases : (i : ℕ) → U' i → (i ≡ x) ⊎ U i
  pub f_y : f' y ≡ x
  pub f_x : f' x ≡ f y
  pub f_o : (i : ℕ) → i ≢ y → i ≢ x → f' i ≡ f i
  pub lab_x : lab' x ≡ lab y
  pub lab_o : (i : ℕ) → i ≢ x → lab' i ≡ lab i

module _ {n : ℕ} {U U' : ℕ → Type 0} {f lab f' lab' : ℕ → ℕ} {x y : ℕ} (c : Cycles n U f lab)
    (r : Insert n U U' f lab f' lab' x y) where
  -- x is not of U
  ne : (i : ℕ) → U i → i ≢ x
  ne i u e = r.fresh (subst U e u)

  -- f stays in U
  fi : (i : ℕ) → U i → U (f i)
  fi i u = c.perm.f_in i u

  -- a statement about each number of U': about x, about y, about another one of U
  each : (P : ℕ → Type 0) → P x → P y → ((i : ℕ) → U i → i ≢ y → P i) → (i : ℕ) → U' i → P i
  each P px py po i u' = ⊎_elim (λ e. subst P (sym e) px) (λ u. split i y (λ e. subst P (sym e) py) (λ h. po i u h))
      (r.cases i u')

  -- what undoes f'
  g' : ℕ → ℕ
  g' = upd (upd c.perm.inv x y) (f y) x

  -- f' permutes U'
  insert_perm : Perm n U' f'
  unfolding g'
  insert_perm = record {
    low = λ i u. ⊎_elim (λ e. subst (λ k. 1 ≤ k) (sym e) r.x_low) (λ v. c.perm.low i v) (r.cases i u);
    high = λ i u. ⊎_elim (λ e. subst (λ k. k ≤ n) (sym e) r.x_high) (λ v. c.perm.high i v) (r.cases i u);
    f_in = each (λ i. U' (f' i)) (rw r.f_x (r.old _ (fi y r.y_in))) (rw r.f_y r.new)
        (λ i u h. rw (r.f_o i h (ne i u)) (r.old _ (fi i u)));
    inv = g';
    undo = each (λ i. g' (f' i) ≡ i) (rw r.f_x (upd_at _ x refl))
        (rw r.f_y (upd_off _ x (λ e. ne _ (fi y r.y_in) (sym e)) ∙ upd_at _ y refl))
        (λ i u h. rw (r.f_o i h (ne i u)) (upd_off _ x (λ e. h (inj c.perm u r.y_in e))
        ∙ upd_off _ y (ne _ (fi i u)) ∙ c.perm.undo i u));
  }

  -- chains of steps stay chains
  insert_old : {i j : ℕ} → Linked (Step U f) i j → Linked (Step U' f') i j
  insert_old = map_linked (λ i. i) (λ i j s. split i y
      (λ e. via x (link (r.old i s.0, ap f' e ∙ r.f_y)) (link (r.new, r.f_x ∙ ap f (sym e) ∙ s.1)))
      (λ h. link (r.old i s.0, r.f_o i h (ne i s.0) ∙ s.1)))

  -- the cycles after the move
  pub insert : Cycles n U' f' lab'
  insert = record {
    perm = insert_perm;
    keeps = each (λ i. lab' (f' i) ≡ lab' i)
        (rw (r.f_x, r.lab_x, r.lab_o (f y) (ne _ (fi y r.y_in))) (c.keeps y r.y_in))
        (rw (r.f_y, r.lab_x, r.lab_o y (ne y r.y_in)))
        (λ i u h. rw (r.f_o i h (ne i u), r.lab_o i (ne i u), r.lab_o (f i) (ne _ (fi i u))) (c.keeps i u));
    one = λ i j u v e. let a = near i u in let b = near j v in
        via a.0 a.3 (via b.0 (insert_old (c.one a.0 b.0 a.1 b.1 (sym a.2 ∙ e ∙ b.2)))
        (back b.3));
  }
    where
      -- each is linked to one of U with its label
      near : (i : ℕ) → U' i → (k : ℕ) × U k × (lab' i ≡ lab k) × Linked (Step U' f') i k
      near i u' = ⊎_elim (λ e. (y, r.y_in, ap lab' e ∙ r.lab_x, back (link (r.old y r.y_in, r.f_y ∙ sym e))))
          (λ u. (i, u, r.lab_o i (ne i u), same refl)) (r.cases i u')

-- ---- take x out, which comes after y

-- what the move changes: y goes on to where x went; all else stays
pub record Remove (U U' : ℕ → Type 0) (f lab f' lab' : ℕ → ℕ) (x y : ℕ) : Type 0 where
  pub y_in : U y
  pub f_yx : f y ≡ x
  pub apart : x ≢ y
  pub old : (i : ℕ) → U i → i ≢ x → U' i
  pub in_old : (i : ℕ) → U' i → U i
  pub not_x : ¬ U' x
  pub f_y : f' y ≡ f x
  pub f_o : (i : ℕ) → i ≢ y → i ≢ x → f' i ≡ f i
  pub lab_o : (i : ℕ) → i ≢ x → lab' i ≡ lab i

module _ {n : ℕ} {U U' : ℕ → Type 0} {f lab f' lab' : ℕ → ℕ} {x y : ℕ} (c : Cycles n U f lab)
    (r : Remove U U' f lab f' lab' x y) where
  -- x is not of U'
  rne : (i : ℕ) → U' i → i ≢ x
  rne i u e = r.not_x (subst U' e u)

  -- x is of U
  x_in : U x
  x_in = subst U r.f_yx (c.perm.f_in y r.y_in)

  -- y is of U'
  y' : U' y
  y' = r.old y r.y_in (λ e. r.apart (sym e))

  -- x does not go to itself
  fx_ne : f x ≢ x
  fx_ne e = r.apart (inj c.perm x_in r.y_in (e ∙ sym r.f_yx))

  -- only y goes to x
  f_ne : (i : ℕ) → U i → i ≢ y → f i ≢ x
  f_ne i u h e = h (inj c.perm u r.y_in (e ∙ sym r.f_yx))

  -- a statement about each number of U': about y, about another one of U
  reach' : (P : ℕ → Type 0) → P y → ((i : ℕ) → U i → i ≢ y → i ≢ x → P i) → (i : ℕ) → U' i → P i
  reach' P py po i u' = split i y (λ e. subst P (sym e) py) (λ h. po i (r.in_old i u') h (rne i u'))

  -- the cycles after the move
  pub remove : Cycles n U' f' lab'
  remove = record {
    perm = record {
      low = λ i u. c.perm.low i (r.in_old i u);
      high = λ i u. c.perm.high i (r.in_old i u);
      f_in = reach' (λ i. U' (f' i)) (rw r.f_y (r.old (f x) (c.perm.f_in x x_in) fx_ne))
          (λ i u h k. rw (r.f_o i h k) (r.old (f i) (c.perm.f_in i u) (f_ne i u h)));
      inv = upd c.perm.inv (f x) y;
      undo = reach' (λ i. upd c.perm.inv (f x) y (f' i) ≡ i) (rw r.f_y (upd_at _ y refl))
          (λ i u h k. rw (r.f_o i h k) (upd_off _ y (λ e. k (inj c.perm u x_in e)) ∙ c.perm.undo i u));
    };
    keeps = reach' (λ i. lab' (f' i) ≡ lab' i)
        (rw (r.f_y, r.lab_o (f x) fx_ne, r.lab_o y (rne y y')) (c.keeps x x_in ∙ ap lab (sym r.f_yx)
        ∙ c.keeps y r.y_in))
        (λ i u h k. rw (r.f_o i h k, r.lab_o i k, r.lab_o (f i) (f_ne i u h)) (c.keeps i u));
    one = λ i j u v e. subst (λ k. Linked (Step U' f') k j) (φ_o i (rne i u))
        (subst (Linked (Step U' f') (φ i)) (φ_o j (rne j v))
        (map_linked φ step (c.one i j (r.in_old i u) (r.in_old j v) (sym (r.lab_o i (rne i u)) ∙ e
        ∙ r.lab_o j (rne j v)))));
  }
    where
      φ : ℕ → ℕ
      φ = upd (λ i. i) x y

      φ_x : φ x ≡ y
      φ_x = upd_at (λ i. i) y refl

      φ_o : (i : ℕ) → i ≢ x → φ i ≡ i
      φ_o i h = upd_off (λ i. i) y h

      step : (i j : ℕ) → Step U f i j → Linked (Step U' f') (φ i) (φ j)
      step i j s = split i y
          (λ e. same (φ_o i (λ q. rne y y' (sym e ∙ q)) ∙ e ∙ sym φ_x ∙ ap φ (sym r.f_yx ∙ ap f (sym e) ∙ s.1)))
          (λ h. split i x
          (λ e. link (
            subst U' (sym φ_x ∙ ap φ (sym e)) y',
            ap f' (ap φ e ∙ φ_x) ∙ r.f_y ∙ sym (φ_o (f x) fx_ne) ∙ ap φ (ap f (sym e) ∙ s.1),
          ))
          (λ k. link (
            subst U' (sym (φ_o i k)) (r.old i s.0 k),
            ap f' (φ_o i k) ∙ r.f_o i h k ∙ sym (φ_o (f i) (f_ne i s.0 h)) ∙ ap φ s.1,
          )))

-- ---- the same cycles, said of other functions that agree

-- the same labelled cycles for another set, function and label that agree on U
pub agree : {n : ℕ} {U U' : ℕ → Type 0} {f lab f' lab' : ℕ → ℕ} → Cycles n U f lab → ((i : ℕ) → U i → U' i)
    → ((i : ℕ) → U' i → U i)
    → ((i : ℕ) → U i → f' i ≡ f i) → ((i : ℕ) → U i → lab' i ≡ lab i) → Cycles n U' f' lab'
agree {f = f} {f' = f'} c to from ef el = record {
  perm = record {
    low = λ i u. c.perm.low i (from i u);
    high = λ i u. c.perm.high i (from i u);
    f_in = λ i u. rw (ef i (from i u)) (to _ (c.perm.f_in i (from i u)));
    inv = c.perm.inv;
    undo = λ i u. rw (ef i (from i u)) (c.perm.undo i (from i u));
  };
  keeps = λ i u. rw (ef i (from i u), el i (from i u), el (f i) (c.perm.f_in i (from i u))) (c.keeps i (from i u));
  one = λ i j u v e. map_linked (λ k. k) (λ a b s. link (to a s.0, ef a s.0 ∙ s.1))
      (c.one i j (from i u) (from j v) (sym (el i (from i u)) ∙ e ∙ el j (from j v)));
}

-- ---- a new cycle of one, and its end

-- what the move changes: x, not of U, goes to itself, with a label of its own
pub record Birth (n : ℕ) (U U' : ℕ → Type 0) (f lab f' lab' : ℕ → ℕ) (x : ℕ) : Type 0 where
  pub fresh : ¬ U x
  pub x_low : 1 ≤ x
  pub x_high : x ≤ n
  pub old : (i : ℕ) → U i → U' i
  pub new : U' x
  pub cases : (i : ℕ) → U' i → (i ≡ x) ⊎ U i
  pub f_x : f' x ≡ x
  pub f_o : (i : ℕ) → i ≢ x → f' i ≡ f i
  pub lab_x : (i : ℕ) → U i → lab i ≢ lab' x
  pub lab_o : (i : ℕ) → i ≢ x → lab' i ≡ lab i

module _ {n : ℕ} {U U' : ℕ → Type 0} {f lab f' lab' : ℕ → ℕ} {x : ℕ} (c : Cycles n U f lab)
    (r : Birth n U U' f lab f' lab' x) where
  -- x is not of U
  bne : (i : ℕ) → U i → i ≢ x
  bne i u e = r.fresh (subst U e u)

  -- a statement about each number of U': about x, about one of U
  at : (P : ℕ → Type 0) → P x → ((i : ℕ) → U i → P i) → (i : ℕ) → U' i → P i
  at P px po i u' = ⊎_elim (λ e. subst P (sym e) px) (λ u. po i u) (r.cases i u')

  -- the cycles after the move
  pub birth : Cycles n U' f' lab'
  birth = record {
    perm = record {
      low = at (λ i. 1 ≤ i) r.x_low c.perm.low;
      high = at (λ i. i ≤ n) r.x_high c.perm.high;
      f_in = at (λ i. U' (f' i)) (rw r.f_x r.new) (λ i u. rw (r.f_o i (bne i u)) (r.old _ (c.perm.f_in i u)));
      inv = upd c.perm.inv x x;
      undo = at (λ i. upd c.perm.inv x x (f' i) ≡ i) (rw r.f_x (upd_at _ x refl))
          (λ i u. rw (r.f_o i (bne i u)) (upd_off _ x (bne _ (c.perm.f_in i u)) ∙ c.perm.undo i u));
    };
    keeps = at (λ i. lab' (f' i) ≡ lab' i) (ap lab' r.f_x) (λ i u. ap lab' (r.f_o i (bne i u))
        ∙ r.lab_o _ (bne _ (c.perm.f_in i u)) ∙ c.keeps i u ∙ sym (r.lab_o i (bne i u)));
    one = λ i j u v e. ⊎_elim
        (λ p. ⊎_elim (λ q. same (p ∙ sym q))
        (λ w. absurd (r.lab_x j w (sym (r.lab_o j (bne j w)) ∙ sym e ∙ ap lab' p))) (r.cases j v))
        (λ z. ⊎_elim (λ q. absurd (r.lab_x i z (sym (r.lab_o i (bne i z)) ∙ e ∙ ap lab' q)))
        (λ w. map_linked (λ k. k) (λ a b s. link (r.old a s.0, r.f_o a (bne a s.0) ∙ s.1))
        (c.one i j z w (sym (r.lab_o i (bne i z)) ∙ e ∙ r.lab_o j (bne j w)))) (r.cases j v))
        (r.cases i u);
  }

-- one that goes to itself is alone with its label
pub alone : {n : ℕ} {U : ℕ → Type 0} {f lab : ℕ → ℕ} {x : ℕ} → Cycles n U f lab → U x → f x ≡ x → (i : ℕ) → U i
    → lab i ≡ lab x → i ≡ x
alone {f = f} {x = x} c ux fx i u e =
    (carry (λ k. k ≡ x) (λ a b s. (λ q. sym s.1 ∙ ap f q ∙ fx, λ q. inj c.perm s.0 ux (s.1 ∙ q ∙ sym fx)))
    (c.one i x u ux e)).1 refl

-- what the move changes: x, which goes to itself, is no more in use
pub record Death (U U' : ℕ → Type 0) (f lab f' lab' : ℕ → ℕ) (x : ℕ) : Type 0 where
  pub x_in : U x
  pub f_x : f x ≡ x
  pub old : (i : ℕ) → U i → i ≢ x → U' i
  pub in_old : (i : ℕ) → U' i → U i
  pub not_x : ¬ U' x
  pub f_o : (i : ℕ) → i ≢ x → f' i ≡ f i
  pub lab_o : (i : ℕ) → i ≢ x → lab' i ≡ lab i

module _ {n : ℕ} {U U' : ℕ → Type 0} {f lab f' lab' : ℕ → ℕ} {x : ℕ} (c : Cycles n U f lab)
    (r : Death U U' f lab f' lab' x) where
  -- x is not of U'
  dne : (i : ℕ) → U' i → i ≢ x
  dne i u e = r.not_x (subst U' e u)

  -- only x goes to x
  fne : (i : ℕ) → U i → i ≢ x → f i ≢ x
  fne i u h e = h (inj c.perm u r.x_in (e ∙ sym r.f_x))

  -- the cycles after the move
  pub death : Cycles n U' f' lab'
  death = record {
    perm = record {
      low = λ i u. c.perm.low i (r.in_old i u);
      high = λ i u. c.perm.high i (r.in_old i u);
      f_in = λ i u. rw (r.f_o i (dne i u))
          (r.old _ (c.perm.f_in i (r.in_old i u)) (fne i (r.in_old i u) (dne i u)));
      inv = c.perm.inv;
      undo = λ i u. rw (r.f_o i (dne i u)) (c.perm.undo i (r.in_old i u));
    };
    keeps = λ i u. ap lab' (r.f_o i (dne i u)) ∙ r.lab_o _ (fne i (r.in_old i u) (dne i u))
        ∙ c.keeps i (r.in_old i u) ∙ sym (r.lab_o i (dne i u));
    one = λ i j u v e. map_within (λ k. k ≢ x)
        (λ a b s. (λ h q. fne a s.0 h (s.1 ∙ q), λ h q. h (sym s.1 ∙ ap f q ∙ r.f_x)))
        (λ a b s h. link (r.old a s.0 h, r.f_o a h ∙ s.1))
        (c.one i j (r.in_old i u) (r.in_old j v) (sym (r.lab_o i (dne i u)) ∙ e ∙ r.lab_o j (dne j v))) (dne i u);
  }
