-- Numbers are read back: a number in decimal, and a coordinate in millimetres.
use Rattle.std.specs.Prelude.{◌≡◌, refl, true, List, [], ◌∷◌, ◌++◌, map, ℕ, zero, suc, ◌+◌, ◌-◌, ◌*◌, ◌/◌, ◌%◌, ◌<◌, T}
use Rattle.std.specs.Prelude.{leb, ℤ, pos, negsuc}
use Rattle.std.proofs.Common.{ap, ◌∙◌, ⊎_elim, arith, lt-ltb, le-ltb, ne_eqb, leb→le, le→leb}
use Rattle.std.proofs.Math.Option.{some}
use Rattle.laws.specs.Bools.{allb, T_true, and_T, T_and, le?}
use Rattle.text.specs.Decimal.{digits, decimal, value_of, decimal_value}
use Rattle.wavefront.specs.Obj.{hundredths, millimetres}
use Rattle.wavefront_read.specs.Reader.{pieces, is_digit, is_number, read_index, read_hundredths, on_read}
use Rattle.wavefront_read.specs.Reader.{read_coordinate}
use Rattle.wavefront_read.specs.Pieces.{Above, empty, byte, above_lower, above_append, pieces_one, pieces_more}

-- ---- digits

-- 48 + d is the byte of digit d
digit : (d : ℕ) → d < 10 → T (is_digit (48 + d))
digit d h =
    T_and (leb 48 (48 + d)) (leb (48 + d) 57) (le→leb 48 (48 + d) (omega arith)) (le→leb (48 + d) 57 (omega arith))

-- a digit behind digits
digits_then : (w : List ℕ) (c : ℕ) → T (is_digit c) → T (allb (map is_digit w)) → T (allb (map is_digit (w ++ c ∷ [])))
digits_then [] c h t = T_and (is_digit c) true h tt
digits_then (b ∷ r) c h t =
    let s = and_T (is_digit b) (allb (map is_digit r)) t in
    T_and (is_digit b) (allb (map is_digit (r ++ c ∷ []))) s.0 (digits_then r c h s.1)

-- and behind a number
number_then : (w : List ℕ) (c : ℕ) → T (is_digit c) → T (is_number w) → T (is_number (w ++ c ∷ []))
number_then [] c h t = absurd t
number_then (b ∷ r) c h t = digits_then (b ∷ r) c h t

-- digits are above byte 47
digits_above : (w : List ℕ) → T (allb (map is_digit w)) → Above 47 w
digits_above [] t = empty
digits_above (b ∷ r) t =
    let s = and_T (is_digit b) (allb (map is_digit r)) t in
    byte b (leb→le 48 b (and_T (leb 48 b) (leb b 57) s.0).0) (digits_above r s.1)

-- ---- numbers in decimal

-- the digits of a number are a word of digits
digits_number : (k n : ℕ) → n < k → T (is_number (digits k n))
unfolding digits
digits_number zero n h = absurd (omega arith)
digits_number (suc k) n h =
    ⊎_elim (λ l. rw (le-ltb n 10 l) (number_then (digits k (n / 10)) (48 + n % 10) (digit (n % 10) (omega arith))
    (digits_number k (n / 10) (omega arith))))
    (λ l. rw (lt-ltb n 10 l) (T_and (is_digit (48 + n)) true (digit n l) tt))
    (le? 10 n)

-- so a number in decimal is one
decimal_number : (n : ℕ) → T (is_number (decimal n))
unfolding decimal
decimal_number n = digits_number (suc n) n (omega arith)

-- a word of digits is above byte 47
number_above : (w : List ℕ) → T (is_number w) → Above 47 w
number_above [] t = absurd t
number_above (b ∷ r) t = digits_above (b ∷ r) t

-- and so a number in decimal: no point, space or line feed is in it
pub decimal_above : (n : ℕ) → Above 47 (decimal n)
decimal_above n = number_above (decimal n) (decimal_number n)

-- A NUMBER IS READ BACK
pub number_read : (n : ℕ) → read_index (decimal n) ≡ some n
unfolding read_index
number_read n = rw (T_true {b = is_number (decimal n)} (decimal_number n), decimal_value n)

-- ---- coordinates

-- the two decimals of n hundredths
abbrev decimals : ℕ → List ℕ
decimals n = (48 + n % 100 / 10) ∷ (48 + n % 10) ∷ []

-- they are a word of digits too
decimals_number : (n : ℕ) → T (is_number (decimals n))
decimals_number n =
    number_then ((48 + n % 100 / 10) ∷ []) (48 + n % 10) (digit (n % 10) (omega arith))
    (T_and (is_digit (48 + n % 100 / 10)) true (digit (n % 100 / 10) (omega arith)) tt)

-- the point parts the two numbers
hundredths_pieces : (n : ℕ) → pieces 46 (hundredths n) ≡ decimal (n / 100) ∷ decimals n ∷ []
unfolding hundredths
hundredths_pieces n = rw (
  pieces_more (decimals n) (above_lower {d = 46} (omega arith) (decimal_above (n / 100))),
  pieces_one (above_lower {d = 46} (omega arith) (number_above (decimals n) (decimals_number n))),
)

-- digits and a point are above byte 45
hundredths_above : (n : ℕ) → Above 45 (hundredths n)
unfolding hundredths
hundredths_above n = above_append (above_lower (omega arith) (decimal_above (n / 100)))
    (byte 46 (omega arith) (above_lower (omega arith) (number_above (decimals n) (decimals_number n))))

-- hundredths are read back
hundredths_read : (n : ℕ) → read_hundredths (pieces 46 (hundredths n)) ≡ some n
unfolding value_of
hundredths_read n =
    let w : is_number (decimal (n / 100)) ≡ true = T_true (decimal_number (n / 100)) in
    let d : is_number (decimals n) ≡ true = T_true (decimals_number n) in
    let v : n / 100 * 100 + ((0 * 10 + (48 + n % 100 / 10 - 48)) * 10 + (48 + n % 10 - 48)) ≡ n = omega arith in
    rw (hundredths_pieces n, w, d, decimal_value (n / 100)) (ap some v)

-- with no minus sign in front they are the coordinate
unsigned : {w : List ℕ} → Above 45 w → read_coordinate w ≡ on_read pos (read_hundredths (pieces 46 w))
unfolding pieces read_coordinate
unsigned empty = refl
unsigned (byte b l a) = rw (ne_eqb b 45 (omega arith))

-- A COORDINATE IS READ BACK
pub coordinate_read : (c : ℤ) → read_coordinate (millimetres c) ≡ some c
unfolding millimetres read_coordinate
coordinate_read (pos n) = unsigned (hundredths_above n) ∙ ap (on_read pos) (hundredths_read n)
coordinate_read (negsuc n) = rw (hundredths_read (suc n))

-- and has neither a space nor a line feed
pub millimetres_above : (c : ℤ) → Above 32 (millimetres c)
unfolding millimetres
millimetres_above (pos n) = above_lower (omega arith) (hundredths_above n)
millimetres_above (negsuc n) = byte 45 (omega arith) (above_lower (omega arith) (hundredths_above (suc n)))
