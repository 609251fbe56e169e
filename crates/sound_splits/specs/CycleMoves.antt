-- Three more moves of a labelled permutation: an element goes in before another, one that comes before another goes
-- out, and elements are given other names.
use Rattle.std.specs.Prelude.{◌≡◌, refl, ◌≢◌, ℕ, ◌≤◌}
use Rattle.std.proofs.Common.{sym, ap, ◌∙◌, subst, ⊎_elim}
use Rattle.laws.specs.Bools.{split}
use Rattle.laws.specs.Update.{upd, upd_at, upd_off, upd_same}
use Rattle.laws.specs.Permutations.{inj, onto}
use Rattle.laws.specs.Linked.{Linked, link, map_linked}
use Rattle.laws.specs.Cycles.{Cycles, Step, agree}
use Rattle.laws.specs.Moves.{Or, But, ins_cycles, out_cycles}

-- a is read as b, all others as themselves
abbrev pub swap_for : ℕ → ℕ → ℕ → ℕ
swap_for a b = upd (λ i. i) a b

-- a itself
pub swap_at : {a i : ℕ} (b : ℕ) → i ≡ a → swap_for a b i ≡ b
swap_at b e = upd_at (λ j. j) b e

-- another
pub swap_off : {a i : ℕ} (b : ℕ) → i ≢ a → swap_for a b i ≡ i
swap_off b h = upd_off (λ j. j) b h

-- and back, for what is not b
pub swap_back : (a b i : ℕ) → i ≢ b → swap_for b a (swap_for a b i) ≡ i
swap_back a b i h = split i a
    (λ e. ap (swap_for b a) (swap_at b e) ∙ swap_at {a = b} a refl ∙ sym e)
    (λ e. ap (swap_for b a) (swap_off b e) ∙ swap_off a h)

module _ {n : ℕ} {U : ℕ → Type 0} {f lab : ℕ → ℕ} (c : Cycles n U f lab) (x z : ℕ) where
  -- x goes in before z, with z's label: what went to z goes to x
  pub before_cycles : ¬ U x → 1 ≤ x → x ≤ n → U z → Cycles n (Or x U) (upd (λ i. swap_for z x (f i)) x z)
      (upd lab x (lab z))
  before_cycles fresh l h u =
      let y = onto c.perm z u in
      let off : (i : ℕ) → U i → i ≢ x = λ i w e. fresh (subst U e w) in
      agree (ins_cycles c x y.0 fresh l h y.1) (λ i w. w) (λ i w. w)
      (λ i. ⊎_elim
      (λ e. rw e (upd_same _ x z ∙ sym (upd_off _ x (λ q. off y.0 y.1 (sym q)) ∙ upd_same f x (f y.0) ∙ y.2)))
      (λ w. upd_off _ z (off i w) ∙ split i y.0
      (λ e. swap_at x (ap f e ∙ y.2) ∙ sym (upd_at _ x e))
      (λ e. swap_off x (λ q. e (inj c.perm w y.1 (q ∙ sym y.2)))
      ∙ sym (upd_off _ x e ∙ upd_off f (f y.0) (off i w)))))
      (λ i w. ap (λ t. upd lab x t i) (ap lab (sym y.2) ∙ c.keeps y.0 y.1))

  -- x, which comes before z, goes out: what went to x goes to z
  pub before_out : U x → f x ≡ z → x ≢ z → Cycles n (But x U) (λ i. swap_for x z (f i)) lab
  before_out u e h =
      let y = onto c.perm x u in
      let x≢y : x ≢ y.0 = λ q. h (sym y.2 ∙ ap f (sym q) ∙ e) in
      agree (out_cycles c x y.0 y.1 y.2 x≢y) (λ i w. w) (λ i w. w)
      (λ i w. split i y.0
      (λ q. swap_at z (ap f q ∙ y.2) ∙ sym (upd_at f (f x) q ∙ e))
      (λ q. swap_off z (λ r. q (inj c.perm w.0 y.1 (r ∙ sym y.2))) ∙ sym (upd_off f (f x) q)))
      (λ i w. refl)

-- each element of U is given the name φ of it, and ψ gives the old name back
pub record Renamed (n : ℕ) (U U' : ℕ → Type 0) (f lab f' lab' φ ψ : ℕ → ℕ) : Type 0 where
  pub to : (i : ℕ) → U i → U' (φ i)
  pub from : (j : ℕ) → U' j → U (ψ j)
  pub there : (j : ℕ) → U' j → φ (ψ j) ≡ j
  pub back : (i : ℕ) → U i → ψ (φ i) ≡ i
  pub low : (j : ℕ) → U' j → 1 ≤ j
  pub high : (j : ℕ) → U' j → j ≤ n
  pub step : (i : ℕ) → U i → f' (φ i) ≡ φ (f i)
  pub label : (i : ℕ) → U i → lab' (φ i) ≡ lab i

-- the same cycles under other names
pub rename : {n : ℕ} {U U' : ℕ → Type 0} {f lab f' lab' φ ψ : ℕ → ℕ} → Cycles n U f lab
    → Renamed n U U' f lab f' lab' φ ψ → Cycles n U' f' lab'
rename {U' = U'} {f = f} {lab = lab} {f' = f'} {lab' = lab'} {φ = φ} {ψ = ψ} c r = record {
  perm = record {
    low = r.low;
    high = r.high;
    f_in = λ j u. subst U' (sym (move j u)) (r.to (f (ψ j)) (c.perm.f_in (ψ j) (r.from j u)));
    inv = λ j. φ (c.perm.inv (ψ j));
    undo = λ j u.
        let w = r.from j u in
        ap (λ t. φ (c.perm.inv (ψ t))) (move j u) ∙ ap (λ t. φ (c.perm.inv t))
        (r.back (f (ψ j)) (c.perm.f_in (ψ j) w)) ∙ ap φ (c.perm.undo (ψ j) w) ∙ r.there j u;
  };
  keeps = λ j u.
      let w = r.from j u in
      ap lab' (move j u) ∙ r.label (f (ψ j)) (c.perm.f_in (ψ j) w) ∙ c.keeps (ψ j) w ∙ name j u;
  one = λ i j u v e.
      subst (λ k. Linked (Step U' f') k j) (r.there i u) (subst (Linked (Step U' f') (φ (ψ i))) (r.there j v)
      (map_linked φ (λ a b s. link (r.to a s.0, r.step a s.0 ∙ ap φ s.1))
      (c.one (ψ i) (ψ j) (r.from i u) (r.from j v) (name i u ∙ e ∙ sym (name j v)))));
}
  where
    -- a step, said of the new names
    move : (j : ℕ) → U' j → f' j ≡ φ (f (ψ j))
    move j u = ap f' (sym (r.there j u)) ∙ r.step (ψ j) (r.from j u)

    -- and a label
    name : (j : ℕ) → U' j → lab (ψ j) ≡ lab' j
    name j u = sym (r.label (ψ j) (r.from j u)) ∙ ap lab' (r.there j u)
