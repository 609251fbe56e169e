-- A coordinate moved: the sum of two numbers of 32 bits in 64.
use Rattle.std.specs.Prelude.{◌≡◌, Bool, false, ℕ, suc, ◌+◌, ◌^◌, ◌≤◌, ◌<◌, ltb, leb, ℤ, pos, negsuc, ◌+ℤ◌}
use Rattle.std.proofs.Math.Path.{refl, sym}
use Rattle.std.proofs.Common.{ap, ◌∙◌, subst, ⊎_elim, arith, leb→le, SFits, to_z, of_z}
use Rattle.std.proofs.Math.Bool.{true}
use Rattle.std.proofs.Math.IntN.{sub_ℕ}
use Rattle.std.specs.Int.Signed.{mag}
use Rattle.std.specs.Int.{w32, w64}
use Rattle.std.proofs.Math.Facts.{to_z-of_z, sfits_widen}
use Rattle.laws.specs.Bools.{pick, ask, true_T, and_T}
use Rattle.layout.specs.Points.{range_test}

-- a whole number that is a coordinate; 0 for others
unfoldable pub held_in : ℤ → ℤ
held_in c = pick (range_test c) c (pos 0)

-- as a callee gets a number
abbrev pub back : ℤ → ℤ
back c = to_z w32 (of_z w32 c)

-- and at 64 bits
abbrev pub wide : ℤ → ℤ
wide c = to_z w64 (of_z w64 c)

-- how far a sum is from 0
mag_sub : (a b : ℕ) → mag (sub_ℕ a b) ≤ a + b
mag_sub a b = ⊎_elim (λ e. rw e (omega arith)) (λ e. rw e (omega arith)) (ask (ltb a b))

mag_sum : (c d : ℤ) → mag (c +ℤ d) ≤ mag c + mag d + 1
mag_sum (pos a) (pos b) = omega arith
mag_sum (pos a) (negsuc b) = omega (arith, mag_sub a (suc b))
mag_sum (negsuc a) (pos b) = omega (arith, mag_sub b (suc a))
mag_sum (negsuc a) (negsuc b) = omega arith

-- a coordinate is small
pub range_mag : (c : ℤ) → range_test c ≡ true → mag c ≤ 50000
range_mag (pos n) t = leb→le n 50000 (true_T t)
range_mag (negsuc n) t = omega (arith, leb→le n 49999 (and_T (leb n 49999) true (true_T t)).0)

module _ {c d : ℤ} (f : SFits w32 c) (g : SFits w32 d) where
  -- each at 64 bits
  pub widens : SFits w64 (back c)
  widens = subst (SFits w64) (sym (to_z-of_z f)) (sfits_widen tt f)

  pub widened : wide (back c) ≡ c
  widened = ap wide (to_z-of_z f) ∙ to_z-of_z {w = w64} (sfits_widen tt f)

  -- their sum
  sum_wide : SFits w64 (c +ℤ d)
  sum_wide = record { sfits = omega (arith, mag_sum c d, f.sfits, g.sfits) }

  pub sum_fits : (a b : ℤ) → a ≡ c → b ≡ d → SFits w64 (a +ℤ b)
  sum_fits a b e h = rw (e, h) sum_wide

  pub sum_range : (a b : ℤ) → a ≡ c → b ≡ d → range_test (wide (a +ℤ b)) ≡ range_test (c +ℤ d)
  sum_range a b e h = rw (e, h) (ap range_test (to_z-of_z {w = w64} sum_wide))

  -- where it is a coordinate, 32 bits hold it
  pub sum_held : (t : Bool) → t ≡ range_test (back c +ℤ back d) → t ≡ true → SFits w32 (back c +ℤ back d)
  sum_held t e h = record { sfits = omega (arith, range_mag (back c +ℤ back d) (sym e ∙ h)) }

  pub sum_is : (t : Bool) → t ≡ range_test (back c +ℤ back d) → t ≡ true → back (back c +ℤ back d) ≡ held_in (c +ℤ d)
  unfolding held_in
  sum_is t e h =
      let z : range_test (c +ℤ d) ≡ true = rw (← to_z-of_z f, ← to_z-of_z g) (sym e ∙ h) in
      let q : back c +ℤ back d ≡ c +ℤ d = rw (to_z-of_z f, to_z-of_z g) refl in
      to_z-of_z (sum_held t e h) ∙ q ∙ rw z refl

  pub sum_none : (t : Bool) → t ≡ range_test (back c +ℤ back d) → t ≡ false → pos 0 ≡ held_in (c +ℤ d)
  unfolding held_in
  sum_none t e h =
      let q : range_test (c +ℤ d) ≡ range_test (back c +ℤ back d) = rw (to_z-of_z f, to_z-of_z g) refl in
      rw (q ∙ sym e ∙ h) refl

-- of a coordinate that was read
pub fits_at : (c a d : ℤ) → mag c < 2 ^ 31 → c ≡ a → SFits w32 d → range_test (back c +ℤ back d) ≡ range_test (a +ℤ d)
fits_at c a d m e g = rw (to_z-of_z {w = w32} {z = c} (record { sfits = m }), to_z-of_z g, e) refl

pub moved_at_lem : (c a d r : ℤ) → mag c < 2 ^ 31 → c ≡ a → SFits w32 d → mag r < 2 ^ 31
    → r ≡ held_in (back c +ℤ back d)
    → back r ≡ held_in (a +ℤ d)
moved_at_lem c a d r m e g n q =
    to_z-of_z {w = w32} {z = r} (record { sfits = n }) ∙ q
    ∙ rw (to_z-of_z {w = w32} {z = c} (record { sfits = m }), to_z-of_z g, e) refl
