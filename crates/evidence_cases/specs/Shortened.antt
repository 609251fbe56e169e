-- The shortest form of some bytes, whole and damaged ones, and whether they are shortest, by computation. The words are
-- those of the model in tests/model.
use Rattle.std.specs.Prelude.{ℕ, ◌≡◌, refl, Bool, true, false, List, [], ◌∷◌, map}
use Rattle.numbers.specs.Number.{third, second, first, read_number, groups}
use Rattle.numbers.specs.Padded.{shorten_for, shorten, shortest}

-- some bytes, their shortest form, and whether they are shortest
pub record Sample : Type 0 where
  pub bytes : List ℕ
  pub short : List ℕ
  pub already : Bool

-- one in a line
abbrev pub sample : List ℕ → List ℕ → Bool → Sample
sample b s t = record { bytes = b; short = s; already = t }

-- the rows, held to the model by tests/model/rows.py
abbrev pub samples : List Sample
samples =
    -- nothing
    sample ([]) ([]) true
    -- 1, and 1 padded
    ∷ sample (1 ∷ []) (1 ∷ []) true
    ∷ sample (129 ∷ 0 ∷ []) (1 ∷ []) false
    ∷ sample (129 ∷ 128 ∷ 0 ∷ []) (1 ∷ []) false
    -- 0 padded
    ∷ sample (128 ∷ 0 ∷ []) (0 ∷ []) false
    ∷ sample (128 ∷ 128 ∷ 0 ∷ []) (0 ∷ []) false
    -- the largest number
    ∷ sample (255 ∷ 255 ∷ 127 ∷ []) (255 ∷ 255 ∷ 127 ∷ []) true
    -- 200 in three groups
    ∷ sample (200 ∷ 129 ∷ 0 ∷ []) (200 ∷ 1 ∷ []) false
    -- 16,384 needs three
    ∷ sample (128 ∷ 128 ∷ 1 ∷ []) (128 ∷ 128 ∷ 1 ∷ []) true
    -- kev 1, kef 4, some padded
    ∷ sample (4 ∷ 129 ∷ 128 ∷ 0 ∷ 134 ∷ 0 ∷ 4 ∷ []) (4 ∷ 1 ∷ 6 ∷ 4 ∷ []) false
    -- cut off in the first group, in the second
    ∷ sample (129 ∷ 0 ∷ 130 ∷ []) (1 ∷ 130 ∷ []) false
    ∷ sample (1 ∷ 130 ∷ 128 ∷ []) (1 ∷ 130 ∷ 128 ∷ []) true
    -- too long: from there the bytes stay, padded ones too
    ∷ sample (129 ∷ 0 ∷ 129 ∷ 130 ∷ 131 ∷ 0 ∷ 132 ∷ 0 ∷ []) (1 ∷ 129 ∷ 130 ∷ 131 ∷ 0 ∷ 132 ∷ 0 ∷ []) false
    ∷ sample (129 ∷ 130 ∷ 131 ∷ []) (129 ∷ 130 ∷ 131 ∷ []) true
    ∷ []

-- the definitions say what the rows say
pub shortened_hold : map (λ r. sample r.bytes (shorten r.bytes) (shortest r.bytes)) samples ≡ samples
unfolding shorten shorten_for shortest read_number first second third groups
shortened_hold = refl
