-- Numbers in decimal, by computation.
use Rattle.std.specs.Prelude.{◌≡◌, refl, [], ◌∷◌}
use Rattle.text.specs.Decimal.{digits, decimal}

-- 0 has one digit
pub zero_digit : decimal 0 ≡ 48 ∷ []
unfolding decimal digits
zero_digit = refl

-- "40960"
pub five_digits : decimal 40960 ≡ 52 ∷ 48 ∷ 57 ∷ 54 ∷ 48 ∷ []
unfolding decimal digits
five_digits = refl
