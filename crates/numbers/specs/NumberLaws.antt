-- What `read_number` is, place by place of the slice, as the code reads it.
use Rattle.std.specs.Prelude.{◌≡◌, List, [], ◌∷◌, length, get_or, set, drop, ltb}
use Rattle.std.specs.Prelude.{Some, None}
use Rattle.std.proofs.Common.{sym, ◌∙◌, ⊎_elim, drop_of_length-le, drop-cons, lt-ltb, le-ltb}
use Prim.Native.Nat.{ℕ, suc, ◌+◌, ◌*◌, ◌/◌, ◌%◌, ◌≤◌, ◌<◌}
use Rattle.std.proofs.lemmas.List.Edits.{sets}
use Rattle.std.proofs.Math.Numerals.{add-one, add-two}
use native.Mathlib.Omega.{arith}
use Rattle.laws.specs.Bools.{pick, le?}
use Rattle.numbers.specs.Number.{groups, second, third, read_number}

module _ (s : List ℕ) (at : ℕ) where
  pub first_end : length s ≤ at → read_number s at ≡ None
  unfolding read_number
  first_end h = rw (drop_of_length-le s h)

  pub first_is : at < length s
      → read_number s at ≡ pick (ltb (get_or s at 0) 128) (Some (get_or s at 0, at + 1))
      (second at (get_or s at 0 % 128)
      (drop (at + 1) s))
  unfolding read_number
  first_is h = rw (drop-cons s at 0 h, add-one at)

  pub second_end : (low : ℕ) → length s ≤ at + 1 → second at low (drop (at + 1) s) ≡ None
  unfolding second
  second_end low h = rw (drop_of_length-le s h)

  pub second_is : (low : ℕ) → at + 1 < length s
      → second at low (drop (at + 1) s)
      ≡ pick (ltb (get_or s (at + 1) 0) 128) (Some (low + get_or s (at + 1) 0 * 128, at + 2))
      (third at (low + get_or s (at + 1) 0 % 128 * 128) (drop (at + 2) s))
  unfolding second
  second_is low h = let e : at + 2 ≡ suc (at + 1) = omega arith in rw (drop-cons s (at + 1) 0 h, e)

  pub third_end : (low : ℕ) → length s ≤ at + 2 → third at low (drop (at + 2) s) ≡ None
  unfolding third
  third_end low h = rw (drop_of_length-le s h)

  pub third_is : (low : ℕ) → at + 2 < length s
      → third at low (drop (at + 2) s)
      ≡ pick (ltb (get_or s (at + 2) 0) 128) (Some (low + get_or s (at + 2) 0 * 16384, at + 3)) None
  unfolding third
  third_is low h = rw (drop-cons s (at + 2) 0 h)

  -- the ways out of the code, one law each, over the elements alone: `omega` closes each premise
  pub bad_0 : length s ≤ at → None ≡ read_number s at
  bad_0 h = sym (first_end h)

  pub got_1 : (v : ℕ) → at < length s → get_or s at 0 < 128 → v ≡ get_or s at 0 → Some (v, at + 1) ≡ read_number s at
  got_1 v h k e = rw (first_is h, lt-ltb (get_or s at 0) 128 k, e)

  more_1 : at < length s → 128 ≤ get_or s at 0 → read_number s at ≡ second at (get_or s at 0 % 128) (drop (at + 1) s)
  more_1 h k = rw (first_is h, le-ltb (get_or s at 0) 128 k)

  pub bad_1 : at < length s → 128 ≤ get_or s at 0 → length s ≤ at + 1 → None ≡ read_number s at
  bad_1 h k l = sym (more_1 h k ∙ second_end _ l)

  pub got_2 : (v : ℕ) → 128 ≤ get_or s at 0 → at + 1 < length s → get_or s (at + 1) 0 < 128
      → v ≡ get_or s at 0 % 128 + get_or s (at + 1) 0 * 128 → Some (v, at + 2) ≡ read_number s at
  got_2 v k l m e =
      sym (more_1 (omega arith) k ∙ second_is _ l ∙ rw (lt-ltb (get_or s (at + 1) 0) 128 m, e))

  more_2 : 128 ≤ get_or s at 0 → at + 1 < length s → 128 ≤ get_or s (at + 1) 0
      → read_number s at ≡ third at (get_or s at 0 % 128 + get_or s (at + 1) 0 % 128 * 128) (drop (at + 2) s)
  more_2 k l m =
      more_1 (omega arith) k ∙ second_is _ l ∙ rw (le-ltb (get_or s (at + 1) 0) 128 m)

  pub bad_2 : 128 ≤ get_or s at 0 → at + 1 < length s → 128 ≤ get_or s (at + 1) 0 → length s ≤ at + 2
      → None ≡ read_number s at
  bad_2 k l m n = sym (more_2 k l m ∙ third_end _ n)

  pub got_3 : (v : ℕ) → 128 ≤ get_or s at 0 → 128 ≤ get_or s (at + 1) 0 → at + 2 < length s → get_or s (at + 2) 0 < 128
      → v ≡ get_or s at 0 % 128 + get_or s (at + 1) 0 % 128 * 128 + get_or s (at + 2) 0 * 16384
      → Some (v, at + 3) ≡ read_number s at
  got_3 v k m n p e =
      sym (more_2 k (omega arith) m ∙ third_is _ n ∙ rw (lt-ltb (get_or s (at + 2) 0) 128 p, e))

  pub bad_3 : 128 ≤ get_or s at 0 → 128 ≤ get_or s (at + 1) 0 → at + 2 < length s → 128 ≤ get_or s (at + 2) 0
      → None ≡ read_number s at
  bad_3 k m n p =
      sym (more_2 k (omega arith) m ∙ third_is _ n ∙ rw (le-ltb (get_or s (at + 2) 0) 128 p))

pub joined : (v w b0 b1 b2 x0 x1 x2 : ℕ) → v ≡ b0 % 128 + w * 128 → w ≡ b1 % 128 + b2 * 128 → b0 ≡ x0 → b1 ≡ x1
    → b2 ≡ x2
    → v ≡ x0 % 128 + x1 % 128 * 128 + x2 * 16384
joined v w b0 b1 b2 x0 x1 x2 e f p q r = rw (← p, ← q, ← r) (omega arith)

pub groups_1 : (n : ℕ) → n < 128 → groups n ≡ n ∷ []
unfolding groups
groups_1 n h = rw (lt-ltb n 128 h)

pub groups_2 : (n : ℕ) → 128 ≤ n → n < 16384 → groups n ≡ (n % 128 + 128) ∷ (n / 128) ∷ []
unfolding groups
groups_2 n h k = rw (le-ltb n 128 h, lt-ltb n 16384 k)

pub groups_3 : (n : ℕ) → 16384 ≤ n → groups n ≡ (n % 128 + 128) ∷ (n / 128 % 128 + 128) ∷ (n / 16384 % 128) ∷ []
unfolding groups
groups_3 n h = rw (le-ltb n 128 (omega arith), le-ltb n 16384 h)

pub size_1 : (n : ℕ) → n < 128 → length (groups n) ≡ 1
size_1 n h = rw (groups_1 n h)

pub size_2 : (n : ℕ) → 128 ≤ n → n < 16384 → length (groups n) ≡ 2
size_2 n h k = rw (groups_2 n h k)

pub size_3 : (n : ℕ) → 16384 ≤ n → length (groups n) ≡ 3
size_3 n h = rw (groups_3 n h)

-- a number takes one to three bytes
pub groups_size : (n : ℕ) → (1 ≤ length (groups n)) × (length (groups n) ≤ 3)
groups_size n =
    ⊎_elim (λ h. let e = size_3 n h in (omega arith, omega arith))
    (λ h. ⊎_elim (λ k. let e = size_2 n k h in (omega arith, omega arith)) (λ k. let e = size_1 n k in
    (omega arith, omega arith)) (le? 128 n))
    (le? 16384 n)

-- what the code's stores leave, for each size
module _ (l : List ℕ) (at n : ℕ) where
  pub wrote_1 : (a : ℕ) → n < 128 → a ≡ n % 128 → set l at a ≡ sets l at (groups n)
  wrote_1 a h e = let e' : a ≡ n = omega arith in rw (groups_1 n h, e')

  pub wrote_2 : (a b : ℕ) → 128 ≤ n → n < 16384 → a ≡ n % 128 + 128 → b ≡ n / 128 % 128 → set (set l at a) (at + 1) b
      ≡ sets l at (groups n)
  wrote_2 a b h k e f = let f' : b ≡ n / 128 = omega arith in rw (groups_2 n h k, e, f', add-one at)

  pub wrote_3 : (a b d : ℕ) → 16384 ≤ n → a ≡ n % 128 + 128 → b ≡ n / 128 % 128 + 128 → d ≡ n / 16384 % 128
      → set (set (set l at a) (at + 1) b) (at + 2) d ≡ sets l at (groups n)
  wrote_3 a b d h e f g = rw (groups_3 n h, e, f, g, add-one at, add-two at)
