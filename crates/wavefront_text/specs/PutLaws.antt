-- What the code that puts numbers and lines leaves, step by step.
use Rattle.std.specs.Prelude.{◌≡◌, refl, List, [], ◌∷◌, ℕ, suc, ◌+◌, ◌/◌, ◌%◌, ◌≤◌, ◌<◌, T, ℤ, pos}
use Rattle.std.specs.Prelude.{negsuc, nat_abs}
use Rattle.std.proofs.Common.{ap, ◌∙◌, arith, add-one, SFits, to_z-of_z}
use Rattle.std.specs.Int.{w32}
use Rattle.codec.specs.SignedLaws.{back}
use Rattle.layout.specs.Points.{range_test}
use Rattle.text.specs.Decimal.{decimal, decimal_one, decimal_more, decimal_length}
use Rattle.text.specs.Put.{Put, then}
use Rattle.wavefront.specs.Obj.{hundredths, millimetres, spaced}
use Rattle.wavefront.specs.Lengths.{range_size}

-- the one digit of a number below 10
pub put_digit : (x y : List ℕ) (a b n : ℕ) → n < 10 → Put x a ((48 + n) ∷ []) b y → Put x a (decimal n) b y
put_digit x y a b n h p = rw (decimal_one n h) p

-- the last digit of a number, behind the others
pub put_last : (x y z : List ℕ) (a b d n : ℕ) → 10 ≤ n → Put x a (decimal (n / 10)) b y
    → Put y b ((48 + n % 10) ∷ []) d z → Put x a (decimal n) d z
put_last x y z a b d n h p q = rw (decimal_more n h) (then x y z a b d (decimal (n / 10)) ((48 + n % 10) ∷ []) p q)

-- the others of a number of at most four digits are at most three
pub place_last : (x y : List ℕ) (a b n : ℕ) → n < 10000 → Put x a (decimal (n / 10)) b y → b ≤ a + 3
place_last x y a b n h (e, f) = omega (arith, decimal_length 2 (n / 10) (omega arith))

-- ---- coordinates

-- how far a number below zero is from 0, and one that is not
pub size_below : (c : ℤ) (n : ℕ) → c ≡ negsuc n → n + 1 ≡ nat_abs c
size_below c n e = rw e (add-one n)

pub size_above : (c : ℤ) (n : ℕ) → c ≡ pos n → n ≡ nat_abs c
size_above c n e = rw e refl

-- as a callee gets the number
pub size_held : (c : ℤ) (m : ℕ) → SFits w32 c → m ≡ nat_abs (back c) → m ≡ nat_abs c
size_held c m f e = rw (to_z-of_z f) at e

-- so that a callee gets it as it is
pub range_held : (c : ℤ) → T (range_test c) → back c ≡ c
range_held (pos n) t = to_z-of_z {w = w32} (record { sfits = omega (arith, range_size (pos n) t) })
range_held (negsuc n) t = to_z-of_z {w = w32} (record { sfits = omega (arith, range_size (negsuc n) t) })

-- its whole millimetres have at most three digits
pub place_point : (x y : List ℕ) (a b n : ℕ) → n ≤ 50000 → Put x a (decimal (n / 100)) b y → b ≤ a + 3
place_point x y a b n h (e, f) = omega (arith, decimal_length 2 (n / 100) (omega arith))

-- the whole ones, the point and the two decimals
pub put_hundredths : (x x1 x2 x3 x4 : List ℕ) (a a1 a2 a3 a4 n m d e : ℕ) → Put x a (decimal m) a1 x1
    → Put x1 a1 (46 ∷ []) a2 x2 → Put x2 a2 (d ∷ []) a3 x3 → Put x3 a3 (e ∷ []) a4 x4 → m ≡ n / 100
    → d ≡ 48 + n % 100 / 10 → e ≡ 48 + n % 10 → Put x a (hundredths n) a4 x4
unfolding hundredths
put_hundredths x x1 x2 x3 x4 a a1 a2 a3 a4 n m d e p q r s em ed ee =
    rw (← em, ← ed, ← ee) (then x x1 x4 a a1 a4 (decimal m) (46 ∷ d ∷ e ∷ []) p
    (then x1 x3 x4 a1 a3 a4 (46 ∷ d ∷ []) (e ∷ []) (then x1 x2 x3 a1 a2 a3 (46 ∷ []) (d ∷ []) q r) s))

-- a space, the sign below zero, and the hundredths
pub put_positive : (x x1 x2 : List ℕ) (a a1 a2 n m : ℕ) (c : ℤ) → c ≡ pos n → m ≡ nat_abs c → Put x a (32 ∷ []) a1 x1
    → Put x1 a1 (hundredths m) a2 x2 → Put x a (spaced (millimetres c)) a2 x2
unfolding millimetres
put_positive x x1 x2 a a1 a2 n m c e f p q =
    let g : m ≡ n = f ∙ ap nat_abs e in
    rw e (then x x1 x2 a a1 a2 (32 ∷ []) (hundredths n) p (rw g at q))

-- below zero
pub put_negative : (x x1 x2 x3 : List ℕ) (a a1 a2 a3 n m : ℕ) (c : ℤ) → c ≡ negsuc n → m ≡ nat_abs c
    → Put x a (32 ∷ []) a1 x1 → Put x1 a1 (45 ∷ []) a2 x2 → Put x2 a2 (hundredths m) a3 x3
    → Put x a (spaced (millimetres c)) a3 x3
unfolding millimetres
put_negative x x1 x2 x3 a a1 a2 a3 n m c e f p q r =
    let g : m ≡ suc n = f ∙ ap nat_abs e in
    rw e (then x x2 x3 a a2 a3 (32 ∷ 45 ∷ []) (hundredths (suc n)) (then x x1 x2 a a1 a2 (32 ∷ []) (45 ∷ []) p q)
    (rw g at r))
