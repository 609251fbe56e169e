-- Texts as bytes, by computation.
use Rattle.std.specs.Prelude.{◌≡◌, refl, [], ◌∷◌, ◌++◌}
use Rattle.table.specs.Count.{counts}
use Rattle.text.specs.Decimal.{digits, decimal}
use Rattle.report.specs.Text.{field, answer_line, count_line, text_of}

-- "refusal 0 done 1 used 8" and "s 1 f 1 l 1 e 0 v 1 r 0 h 0", what the program prints for example b
pub example_b : text_of 0 1 8 (counts 0 0 1 1 1 0 1 0 0) ≡
    (114 ∷ 101 ∷ 102 ∷ 117 ∷ 115 ∷ 97 ∷ 108 ∷ 32 ∷ 48 ∷ 32 ∷ 100 ∷ 111 ∷ 110 ∷ 101 ∷ 32 ∷ 49 ∷ 32 ∷ 117 ∷ 115 ∷ 101
    ∷ 100 ∷ 32 ∷ 56 ∷ 10 ∷ [])
    ++ (115 ∷ 32 ∷ 49 ∷ 32 ∷ 102 ∷ 32 ∷ 49 ∷ 32 ∷ 108 ∷ 32 ∷ 49 ∷ 32 ∷ 101 ∷ 32 ∷ 48 ∷ 32 ∷ 118 ∷ 32 ∷ 49 ∷ 32 ∷ 114
    ∷ 32 ∷ 48 ∷ 32 ∷ 104 ∷ 32 ∷ 48 ∷ 10 ∷ [])
unfolding text_of answer_line count_line field decimal digits
example_b = refl

-- "refusal 10 done 4096 used 205" and "s 64 f 7 l 12 e 3 v 100 r 5 h 9": each number behind its label
pub example_long : text_of 10 4096 205 (counts 0 0 64 7 12 3 100 5 9) ≡
    (114 ∷ 101 ∷ 102 ∷ 117 ∷ 115 ∷ 97 ∷ 108 ∷ 32 ∷ 49 ∷ 48 ∷ 32 ∷ 100 ∷ 111 ∷ 110 ∷ 101 ∷ 32 ∷ 52 ∷ 48 ∷ 57 ∷ 54 ∷ 32
    ∷ 117 ∷ 115 ∷ 101 ∷ 100 ∷ 32 ∷ 50 ∷ 48 ∷ 53 ∷ 10 ∷ [])
    ++ (115 ∷ 32 ∷ 54 ∷ 52 ∷ 32 ∷ 102 ∷ 32 ∷ 55 ∷ 32 ∷ 108 ∷ 32 ∷ 49 ∷ 50 ∷ 32 ∷ 101 ∷ 32 ∷ 51 ∷ 32 ∷ 118 ∷ 32 ∷ 49 ∷ 48
    ∷ 48 ∷ 32 ∷ 114 ∷ 32 ∷ 53 ∷ 32 ∷ 104 ∷ 32 ∷ 57 ∷ 10 ∷ [])
unfolding text_of answer_line count_line field decimal digits
example_long = refl
