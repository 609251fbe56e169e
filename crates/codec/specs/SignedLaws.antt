-- Signed numbers as the machine holds them, and as they travel.
use Rattle.std.specs.Prelude.{◌≡◌, refl, ℕ, zero, suc, ◌+◌, ◌-◌, ◌*◌, ◌/◌, ◌%◌, ◌^◌, ◌<◌, Bool, true, false, ℤ, pos}
use Rattle.std.specs.Prelude.{negsuc, ◌-ℤ◌}
use Rattle.std.proofs.Common.{ap, ◌∙◌, zero-add, arith, SFits, to_z, of_z}
use Rattle.std.proofs.Math.Decide.{ℕ_discrete}
use Rattle.std.specs.Int.Signed.{lt_z}
use borrow.Author.Tests.{eq-eqb, ne_eqb, le-ltb}
use Rattle.std.specs.Int.{w32}
use Rattle.std.proofs.lemmas.Int.{to_z_pos}
use Rattle.std.proofs.Math.Facts.{to_z-of_z}
use Rattle.codec.specs.Operands.{zig, zag}

-- what the machine reads back of a number that it holds
abbrev pub back : ℤ → ℤ
back z = to_z w32 (of_z w32 z)

minus_pos : (m : ℕ) → negsuc 0 -ℤ pos m ≡ negsuc m
minus_pos zero = refl
minus_pos (suc m) = ap (λ (k : ℕ). negsuc (suc k)) (zero-add m)

minus_neg : (n : ℕ) → negsuc 0 -ℤ negsuc n ≡ pos n
minus_neg n = let e : suc n - 1 ≡ n = omega arith in rw (le-ltb (suc n) 1 (omega arith), e)

-- a negative number, and what -1 less it is
pub record Negative (z : ℤ) : Type 0 where
  pub size : ℕ
  pub is : z ≡ negsuc size
  pub small : size < 2 ^ 31
  pub flipped : negsuc 0 -ℤ back z ≡ pos size
  pub held : back (pos size) ≡ pos size
  pub code : zig z ≡ 2 * size + 1

pub negative : (z : ℤ) → SFits w32 z → lt_z (back z) (pos 0) ≡ true → Negative z
unfolding zig
negative (pos n) f t = absurd (let z : ◌≡◌ {A = Bool} false true = rw (to_z-of_z f, le-ltb n 0 (omega arith)) at t in
    no_way z)
  where
    no_way : ◌≡◌ {A = Bool} false true → ⊥
    no_way e = let z : ◌≡◌ {A = ℕ} 0 1 = cc in omega arith
negative (negsuc n) f t =
    record {
      size = n;
      is = refl;
      small = f.sfits;
      flipped = rw (to_z-of_z f) (minus_neg n);
      held = to_z_pos w32 n f.sfits;
      code = refl;
    }

-- a number that is not negative
pub record Positive (z : ℤ) : Type 0 where
  pub size : ℕ
  pub is : z ≡ pos size
  pub small : size < 2 ^ 31
  pub held : back z ≡ pos size
  pub code : zig z ≡ 2 * size

pub positive : (z : ℤ) → SFits w32 z → lt_z (back z) (pos 0) ≡ false → Positive z
unfolding zig
positive (pos n) f t = record { size = n; is = refl; small = f.sfits; held = to_z-of_z f; code = refl }
positive (negsuc n) f t = absurd (let z : ◌≡◌ {A = Bool} true false = rw (to_z-of_z f) at t in no_way z)
  where
    no_way : ◌≡◌ {A = Bool} true false → ⊥
    no_way e = let z : ◌≡◌ {A = ℕ} 0 1 = cc in omega arith

-- the half of a code, held as a signed number, and -1 less it
module _ (n : ℕ) (small : n < 4294967296) where
  half_held : to_z w32 (n / 2) ≡ pos (n / 2)
  half_held = to_z_pos w32 (n / 2) (omega arith)

  pub odd_fits : SFits w32 (negsuc 0 -ℤ to_z w32 (n / 2))
  odd_fits = rw (half_held, minus_pos (n / 2)) (record { sfits = omega arith })

  pub odd_is : n % 2 ≡ 1 → back (negsuc 0 -ℤ to_z w32 (n / 2)) ≡ zag n
  unfolding zag
  odd_is h = to_z-of_z odd_fits ∙ rw (half_held, minus_pos (n / 2), eq-eqb (n % 2) 1 h)

  pub even_is : (n % 2 ≡ 1 → ⊥) → to_z w32 (n / 2) ≡ zag n
  unfolding zag
  even_is h = rw (half_held, ne_eqb (n % 2) 1 h)

-- each code is that of its coordinate
pub zig_zag : (n : ℕ) → zig (zag n) ≡ n
unfolding zig zag
zig_zag n =
    elim (ℕ_discrete (n % 2) 1) [
      | yes h ↦ rw (eq-eqb (n % 2) 1 h) (omega arith)
      | no h ↦ rw (ne_eqb (n % 2) 1 h)
          (omega arith)
    ]

-- and each coordinate that of its code
pub zag_zig : (z : ℤ) → zag (zig z) ≡ z
unfolding zig zag
zag_zig (pos n) =
    let r : 2 * n % 2 ≡ 0 = omega arith in
    let h : 2 * n / 2 ≡ n = omega arith in
    rw (r, h)
zag_zig (negsuc n) =
    let r : (2 * n + 1) % 2 ≡ 1 = omega arith in
    let h : (2 * n + 1) / 2 ≡ n = omega arith in
    rw (r, h)
