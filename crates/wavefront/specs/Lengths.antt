-- How long a coordinate's text is, and the texts of two lists of numbers.
use Rattle.std.specs.Prelude.{◌≡◌, refl, true, List, [], ◌∷◌, ◌++◌, ℕ, suc, ◌+◌, ◌/◌, ◌%◌, ◌≤◌, T, leb, ℤ, pos, negsuc}
use Rattle.std.specs.Prelude.{nat_abs, length}
use Rattle.std.proofs.Common.{sym, ap, ◌∙◌, append_assoc, arith, leb→le, length-append}
use Rattle.laws.specs.Bools.{and_T}
use Rattle.layout.specs.Points.{range_test}
use Rattle.text.specs.Decimal.{decimal, decimal_length}
use Rattle.wavefront.specs.Obj.{hundredths, millimetres, concat_map}

-- a coordinate in range is at most 50,000 away from 0
pub range_size : (c : ℤ) → T (range_test c) → nat_abs c ≤ 50000
range_size (pos n) t = leb→le n 50000 t
range_size (negsuc n) t = omega (arith, leb→le n 49999 (and_T (leb n 49999) true t).0)

-- its hundredths have at most six bytes
pub hundredths_length : (n : ℕ) → n ≤ 50000 → length (hundredths n) ≤ 6
unfolding hundredths
hundredths_length n h = omega (
  arith,
  length-append (decimal (n / 100)) (46 ∷ (48 + n % 100 / 10) ∷ (48 + n % 10) ∷ []),
  decimal_length 2 (n / 100) (omega arith),
)

-- at most seven with the sign
pub millimetres_length : (c : ℤ) → T (range_test c) → length (millimetres c) ≤ 7
unfolding millimetres
millimetres_length (pos n) t = omega (arith, hundredths_length n (range_size (pos n) t))
millimetres_length (negsuc n) t = omega (arith, hundredths_length (suc n) (range_size (negsuc n) t))

-- the texts of two lists of numbers
pub concat_map_append : (g : ℕ → List ℕ) (a b : List ℕ) → concat_map g (a ++ b) ≡ concat_map g a ++ concat_map g b
unfolding concat_map
concat_map_append g [] b = refl
concat_map_append g (n ∷ a) b =
    ap (λ l. g n ++ l) (concat_map_append g a b) ∙ sym (append_assoc (g n) (concat_map g a) (concat_map g b))
