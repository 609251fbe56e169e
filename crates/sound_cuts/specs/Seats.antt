-- Moves of labelled permutations that mef and kef are made of: x goes in after y, or alone where y is x itself, and
-- comes out again. So a half-edge that is alone in its loop needs no case of its own.
use Rattle.std.specs.Prelude.{◌≡◌, refl, ◌≢◌, ◌⊎◌, ℕ, ◌≤◌}
use Rattle.std.proofs.Common.{sym, ap, ◌∙◌, subst, inl, inr, ⊎_elim}
use Rattle.laws.specs.Bools.{split}
use Rattle.laws.specs.Update.{upd, upd_same, upd_at, upd_off}
use Rattle.laws.specs.Cycles.{Cycles, agree}
use Rattle.laws.specs.Moves.{Or, ins, xchg, ins_cycles, out_cycles}
use Rattle.sound_tables.specs.LoneCycles.{birth_cycles, death_cycles}

-- ---- in and out

-- x with label l goes in after y, which has it too; or it comes alone, and no other has it
pub seat_in : {n : ℕ} {U : ℕ → Type 0} {f lab : ℕ → ℕ} → Cycles n U f lab → (x y l : ℕ) → ¬ U x → (1 ≤ x) × (x ≤ n)
    → (U y × (lab y ≡ l)) ⊎ ((y ≡ x) × ((i : ℕ) → U i → lab i ≢ l)) → Cycles n (Or x U) (ins f x y) (upd lab x l)
seat_in {n} {U} {f} {lab} c x y l fx r (inl o) =
    subst (λ z. Cycles n (Or x U) (ins f x y) (upd lab x z)) o.1 (ins_cycles c x y fx r.0 r.1 o.0)
seat_in {f = f} c x y l fx r (inr o) = agree (birth_cycles c x l fx r.0 r.1 o.1) (λ i u. u) (λ i u. u)
    (λ i u. split i x (λ e. upd_at _ x (e ∙ sym o.0) ∙ sym (upd_at f x e))
    (λ e. upd_off _ x (λ z. e (z ∙ o.0)) ∙ upd_off f _ e ∙ sym (upd_off f x e)))
    (λ i u. refl)

-- it comes out
pub seat_out : {n : ℕ} {U : ℕ → Type 0} {f lab : ℕ → ℕ} {x y : ℕ} → Cycles n (Or x U) (ins f x y) lab → ¬ U x → U y
    ⊎ (y ≡ x)
    → Cycles n U f lab
seat_out {U = U} {f} {x = x} {y} c fx (inl u) =
    let f1 : x ≢ y = λ e. fx (subst U (sym e) u) in
    agree (out_cycles c x y (inr u) (upd_same _ y x) f1) (λ i w. ⊎_elim (λ e. absurd (w.1 e)) (λ v. v) w.0)
    (λ i w. (inr w, λ e. fx (subst U e w)))
    (λ i w. split i y (λ e. ap f e ∙ sym (upd_at _ _ e ∙ upd_off _ x f1 ∙ upd_same f x _))
    (λ e. sym (upd_off _ _ e ∙ upd_off _ x e ∙ upd_off f _ w.1)))
    (λ i w. refl)
seat_out {U = U} {f} {x = x} {y} c fx (inr e) =
    agree (death_cycles c x (inl refl) (upd_at _ x (sym e))) (λ i w. ⊎_elim (λ e. absurd (w.1 e)) (λ v. v) w.0)
    (λ i w. (inr w, λ e. fx (subst U e w)))
    (λ i w. sym (upd_off _ x (λ z. w.1 (z ∙ e)) ∙ upd_off f _ w.1))
    (λ i w. refl)

-- ---- an exchange undoes itself

-- where g is f with x and y exchanged, f is g with x and y exchanged
pub xchg_back : (f g : ℕ → ℕ) (x y : ℕ) → x ≢ y → g x ≡ xchg f x y x → g y ≡ xchg f x y y
    → (i : ℕ) → g i ≡ xchg f x y i → f i ≡ xchg g x y i
xchg_back f g x y d gx gy i gi = split i y
    (λ e. ap f e ∙ sym (upd_at _ _ e ∙ gx ∙ upd_off _ _ d ∙ upd_same f x _))
    (λ e. split i x
    (λ z. ap f z ∙ sym (upd_off _ _ e ∙ upd_at g _ z ∙ gy ∙ upd_same _ y _))
    (λ z. sym (upd_off _ _ e ∙ upd_off g _ z ∙ gi ∙ upd_off _ _ e ∙ upd_off f _ z)))

-- ---- the same seen from the vertices: next of the mate

module _ (U : ℕ → Type 0) (f mate : ℕ → ℕ) (mm : (i : ℕ) → mate (mate i) ≡ i) {a b p w q : ℕ} (ab : mate a ≡ b)
    (two : a ≢ b)
    (fa : ¬ U a) (fb : ¬ U b) (mate_in : (i : ℕ) → U i → U (mate i)) (pw : (U p × (w ≡ mate p)) ⊎ ((p ≡ a) × (w ≡ a)))
    (qa : q ≢ a) (qb : (q ≡ b) ⊎ U q) where
  -- a goes in among the half-edges of a loop
  abbrev g : ℕ → ℕ
  g = ins f a p

  -- and among those of a vertex
  abbrev h : ℕ → ℕ
  h = ins (λ i. f (mate i)) a w

  -- the mate of b
  ba : mate b ≡ a
  ba = ap mate (sym ab) ∙ mm a

  -- equal mates
  mate_same : {i j : ℕ} → mate i ≡ mate j → i ≡ j
  mate_same {i} {j} e = sym (mm i) ∙ ap mate e ∙ mm j

  -- what a goes to
  at_a : h a ≡ g a
  at_a = ⊎_elim
      (λ o. let d : p ≢ a = λ e. fa (subst U e o.0) in
      let e : w ≢ a = λ e. fb (subst U (mate_same (sym o.1 ∙ e ∙ sym ba)) o.0) in
      upd_off _ a (λ z. e (sym z)) ∙ upd_same _ a _ ∙ ap (λ i. f (mate i)) o.1 ∙ ap f (mm p)
      ∙ sym (upd_off _ a (λ z. d (sym z)) ∙ upd_same f a _))
      (λ o. upd_at _ a (sym o.1) ∙ sym (upd_at _ a (sym o.0))) pw

  -- what another goes to
  at_other : (i : ℕ) → U i → h (mate i) ≡ g i
  at_other i u =
      let d : i ≢ a = λ e. fa (subst U e u) in
      let e : mate i ≢ a = λ e. fb (subst U (mate_same (e ∙ sym ba)) u) in
      split i p
      (λ z. ⊎_elim (λ o. upd_at _ a (ap mate z ∙ sym o.1) ∙ sym (upd_at _ a z)) (λ o. absurd (d (z ∙ o.0))) pw)
      (λ z.
      let y : mate i ≢ w = ⊎_elim (λ o v. z (mate_same (v ∙ o.1))) (λ o v. e (v ∙ o.1)) pw in
      upd_off _ a y ∙ upd_off _ _ e ∙ ap f (mm i) ∙ sym (upd_off _ a z ∙ upd_off f _ d))

  -- b after the mate of q is, from the loops, b after a and then a and q exchanged
  pub turned : (i : ℕ) → Or b (Or a U) i → ins (ins (λ i. f (mate i)) a w) b (mate q) (mate i) ≡ xchg
      (ins (ins f a p) b a) a q i
  turned i u = split i q
      (λ e. upd_at _ b (ap mate e) ∙ sym (upd_at _ _ e ∙ upd_same _ a b))
      (λ e. upd_off _ b (λ z. e (mate_same z)) ∙ ⊎_elim
      (λ z. upd_off _ _ (λ y. two (sym ba ∙ ap mate (sym z) ∙ y)) ∙ ap h (ap mate z ∙ ba) ∙ at_a
      ∙ sym (upd_off _ _ e ∙ upd_off _ _ (λ y. two (sym y ∙ z)) ∙ upd_off _ b (λ y. two (sym y ∙ z)) ∙ upd_at _ _ z))
      (⊎_elim
      (λ z. upd_at _ _ (ap mate z ∙ ab) ∙ at_q ∙ sym (upd_off _ _ e ∙ upd_at _ _ z))
      (λ v.
      let d : i ≢ a = λ y. fa (subst U y v) in
      upd_off _ _ (λ y. d (mate_same (y ∙ sym ab))) ∙ at_other i v
      ∙ sym (upd_off _ _ e ∙ upd_off _ _ d ∙ upd_off _ b d ∙ upd_off _ _ (λ y. fb (subst U y v))))) u)
    where
      -- what the mate of q goes to
      at_q : h (mate q) ≡ ins g b a q
      at_q = ⊎_elim
          (λ z. ap h (ap mate z ∙ ba) ∙ at_a ∙ sym (upd_off _ b qa ∙ upd_at _ _ z))
          (λ v. at_other q v ∙ sym (upd_off _ b qa ∙ upd_off _ _ (λ y. fb (subst U y v)))) qb
