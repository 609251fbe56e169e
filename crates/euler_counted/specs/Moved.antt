-- The moved loop by code, at a code that is known and at one that moves none; and kvsf, which has all effects at once.
use Rattle.std.specs.Prelude.{◌≡◌, ◌⊎◌, List, ℕ, ℤ, get_or}
use Rattle.std.proofs.Math.Path.{refl}
use Rattle.std.proofs.Common.{sym, ap, ◌∙◌, inl, ⊎_elim}
use Rattle.laws.specs.Bools.{split}
use Rattle.layout.specs.declared.shape.Shape.{Shape}
use Rattle.layout.specs.Layout.{loop_face}
use Rattle.layout.specs.Items.{face_in}
use Rattle.euler.specs.ByCode.{by_code, by_none}
use Rattle.euler.specs.Surgery.{item_in}
use Rattle.euler.specs.FaceOperators.{kvsf_links}
use Rattle.euler.specs.Exec.{operator_by, only_loop, only_vertex, links_after, clear_point, points_after}
use Rattle.euler.specs.ValenceLaws.{less_kept, more_kept}
use Rattle.euler_effects.specs.Chosen.{marks_kvsf}
use Rattle.euler_effects.specs.Performed.{links_steps}
use Rattle.euler_points.specs.Chosen.{killed_kvsf, points_by_lem, points_cleared}
use Rattle.euler_counts.specs.Counts.{moved_loops, moved_loop, lowered, raised, counts_after}

-- the loop that code k moves with these operands
abbrev pub moved_at : ℕ → Shape → List ℕ → List ℤ → ℕ
moved_at k sh x args = get_or (moved_loops sh x (item_in args)) k 0

module _ (sh : Shape) (x : List ℕ) (code : ℕ) (args : List ℤ) where
  pub moved_at_lem : (k r : ℕ) → code ≡ k → r ≡ moved_at k sh x args → r ≡ moved_loop sh x (operator_by code args)
  unfolding moved_loop
  moved_at_lem k r e g = by_code (moved_loops sh x (item_in args)) 0 code k _ r e refl g

  -- two codes that move the same loop
  pub moved_either : (j k r : ℕ) → (code ≡ j) ⊎ (code ≡ k) → r ≡ moved_at j sh x args → r ≡ moved_at k sh x args
      → r ≡ moved_loop sh x (operator_by code args)
  moved_either j k r d g h = ⊎_elim (λ e. moved_at_lem j r e g) (λ e. moved_at_lem k r e h) d

  -- a loop that is read from the table by an operand read before
  pub moved_of : (k i : ℕ) (g : Shape → List ℕ → ℕ → ℕ) {a r : ℕ} → code ≡ k → a ≡ item_in args i → r ≡ g sh x a
      → g sh x (item_in args i) ≡ moved_at k sh x args → r ≡ moved_loop sh x (operator_by code args)
  moved_of k i g e h t z = moved_at_lem k _ e (t ∙ ap (g sh x) h ∙ z)

  -- mev, kev, semv and jekv move none
  pub moved_none : (code ≡ 1 → ⊥) → (code ≡ 2 → ⊥) → (code ≡ 5 → ⊥) → (code ≡ 6 → ⊥) → (code ≡ 7 → ⊥) → (code ≡ 8 → ⊥)
      → (code ≡ 9 → ⊥) → (code ≡ 10 → ⊥) → (code ≡ 13 → ⊥) → 0 ≡ moved_loop sh x (operator_by code args)
  unfolding moved_loop
  moved_none d1 d2 d5 d6 d7 d8 d9 d10 d13 =
      split code 3 (λ e. rw e) (λ d3.
      split code 4 (λ e. rw e) (λ d4.
      split code 11 (λ e. rw e) (λ d11.
      split code 12 (λ e. rw e) (λ d12.
      by_none (moved_loops sh x (item_in args)) 0 code refl refl
      (((((((((((((tt, d1), d2), d3), d4), d5), d6), d7), d8), d9), d10), d11), d12), d13)))))

-- kvsf of solid s: the links afterwards, and the numbers
abbrev pub solid_killed : Shape → List ℕ → ℕ → List ℕ
solid_killed sh x s = kvsf_links sh x s (face_in sh x s) (only_loop sh x s) (only_vertex sh x s)

abbrev pub solid_uncounted : Shape → List ℕ → List ℕ → ℕ → List ℕ
solid_uncounted sh x c s =
    raised (lowered c (loop_face sh x (only_loop sh x s))) (loop_face sh (solid_killed sh x s) (only_loop sh x s))

-- they are those that the definitions say
module _ (sh : Shape) (x : List ℕ) (code : ℕ) (args : List ℤ) (s : ℕ) (e : code ≡ 2) (a : s ≡ item_in args 0) where
  pub killed_points : (p q : List ℤ) → q ≡ clear_point p (only_vertex sh x s)
      → q ≡ points_after sh x p (operator_by code args)
  killed_points p q h =
      let o = operator_by code args in
      points_by_lem sh x p o (only_vertex sh x s) q (killed_kvsf sh x o s _ e a refl)
      (points_cleared p o (only_vertex sh x s) q (inl e) h)

  -- no half-edge leaves or comes, so the vertex words stay but for the killed one's
  pub killed_links : (r : List ℕ) → r ≡ solid_killed sh x s → r ≡ links_after sh x (operator_by code args)
  killed_links r h =
      let o = operator_by code args in
      links_steps sh x o (sym (more_kept sh r o 2 e refl)) (sym (less_kept sh x o 2 e refl r))
      (marks_kvsf sh x code args s r e a h)

  pub killed_counts : (c d : List ℕ) → d ≡ solid_uncounted sh x c s → d ≡ counts_after sh x c (operator_by code args)
  unfolding counts_after
  killed_counts c d h =
      let o = operator_by code args in
      let m : only_loop sh x s ≡ moved_loop sh x o = moved_of sh x code args 2 0 only_loop e a refl refl in
      rw (← m, ← killed_links _ refl) h

-- any other operator, step by step
pub counts_steps : (sh : Shape) (x c : List ℕ) (code : ℕ) (args : List ℤ) (l f : ℕ) (y d : List ℕ) (g : ℕ) (r : List ℕ)
    → l ≡ moved_loop sh x (operator_by code args) → f ≡ loop_face sh x l → y ≡ links_after sh x (operator_by code args)
    → d ≡ lowered c f → g ≡ loop_face sh y l → r ≡ raised d g → r ≡ counts_after sh x c (operator_by code args)
unfolding counts_after
counts_steps sh x c code args l f y d g r el ef ey ed eg er = rw (er, ed, eg, ef, ey, el)
