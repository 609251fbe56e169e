-- Corners as operands: what the test of a corner says, that it passes, and the corner that is left when an edge goes.
use Rattle.std.specs.Prelude.{◌≡◌, ◌≢◌, ◌⊎◌, true, ◌&&◌, List, ℕ, ◌*◌, ◌≤◌, T}
use Rattle.std.proofs.Math.Path.{refl}
use Rattle.std.proofs.Math.Logic.{inl, inr, ⊎_elim}
use Rattle.std.proofs.Math.Bool.{not}
use Rattle.std.proofs.Common.{arith}
use Rattle.std.proofs.Math.Dec.{eqb, eqb→eq, T_not}
use Rattle.laws.specs.Bools.{pick, true_T, and_T, or_T, eqb_same, eqb_other}
use Rattle.layout.specs.declared.shape.Shape.{Shape}
use Rattle.euler.specs.Surgery.{corner}
use Rattle.euler.specs.Exec.{use_word, use_refusal}
use Rattle.layout.specs.Fields.{Isolated, Loop, Next, Columns}
use Rattle.sound_tables.specs.Sound.{HalfUsed}
use Rattle.sound_tables.specs.Accepted.{use_old, old_use, zero_use}
use Rattle.sound_tables.specs.Good.{own}

-- (l, h) is a corner: h is 0 and l isolated, or h is a half-edge of l
abbrev pub CornerAt : Shape → Columns → ℕ → ℕ → Type 0
CornerAt sh c l h = ((h ≡ 0) × (c Isolated l ≢ 0)) ⊎ (HalfUsed sh c h × (c Loop h ≡ l))

-- the corner that half k leaves when its edge goes: what follows the mate m, or 0 where that is k
abbrev pub corner_left : Columns → (k m : ℕ) → ℕ
corner_left c k m = pick (eqb (c Next m) k) 0 (c Next m)

-- h is at most 2E
pub corner_most : (sh : Shape) (c : Columns) (l h : ℕ) → CornerAt sh c l h → h ≤ 2 * sh.edges
corner_most sh c l h = ⊎_elim (λ r. omega (arith, r.0)) (λ r. r.0.1)

module _ (sh : Shape) (x : List ℕ) (l h : ℕ) where
  -- the test finds one, where h names no half-edge or one in use
  pub test_corner : h ≤ 2 * sh.edges → use_refusal sh x 10 h ≡ 0 → T (corner sh x l h) → CornerAt sh (own sh x) l h
  unfolding corner use_word
  test_corner m u t = ⊎_elim
      (λ s. let r = and_T (eqb h 0) (not (eqb (own sh x Isolated l) 0)) s in
      inl (eqb→eq h 0 r.0, λ z. T_not (eqb (own sh x Isolated l) 0) r.1 (true_T (eqb_same z))))
      (λ s.
      let r = and_T (not (eqb h 0)) (eqb (own sh x Loop h) l) s in
      let n : h ≢ 0 = λ z. T_not (eqb h 0) r.0 (true_T (eqb_same z)) in
      inr ((omega (arith, n), m, use_old sh x 10 h n refl u), eqb→eq (own sh x Loop h) l r.1))
      (or_T (eqb h 0 && not (eqb (own sh x Isolated l) 0)) (not (eqb h 0) && eqb (own sh x Loop h) l) t)

  -- it passes
  pub corner_test : CornerAt sh (own sh x) l h → corner sh x l h ≡ true
  unfolding corner
  corner_test = ⊎_elim (λ r. rw (eqb_same r.0, eqb_other r.1))
      (λ r. let n : h ≢ 0 = λ z. omega (arith, r.0.0, z) in rw (eqb_other n, eqb_same r.1))

  -- and h names none or one in use
  pub corner_use : CornerAt sh (own sh x) l h → use_refusal sh x 10 h ≡ 0
  unfolding use_word
  corner_use = ⊎_elim (λ r. rw r.0 (zero_use sh x 10))
      (λ r. old_use sh x 10 h (λ z. omega (arith, r.0.0, z)) refl r.0.2)
