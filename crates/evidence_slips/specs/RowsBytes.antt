-- Slips in numbers, operators as bytes, and the places of a table's words.
use Rattle.std.specs.Prelude.{ℕ, List, [], ◌∷◌, map, negsuc}
use Rattle.std.specs.Prelude.{Option}
use Rattle.numbers.specs.Number.{read_number, groups, on_num}
use Rattle.codec.specs.Operands.{widest, zig}
use Rattle.script.specs.Operator.{read_operator, operator_bytes}
use Rattle.layout.specs.Layout.{shape_of, start_of}
use Rattle.euler.specs.Surgery.{operator}
use Rattle.evidence_cases.specs.Tables.{links_c}
use Rattle.evidence_cases.specs.RowsRefused.{mev_bytes}
use Rattle.evidence_slips.specs.Slip.{Slip, row}

-- a number that was read and the place after it; nothing where it is refused
abbrev got : Option (ℕ × ℕ) → List ℕ
got n = on_num n (λ m next. m ∷ next ∷ []) []

abbrev pub byte_rows : List Slip
byte_rows =
    -- a second group 80 taken for the last: 81 80 00 would be 16,385 and end before its 00
    row (got (read_number (129 ∷ 128 ∷ 0 ∷ []) 0)) (16385 ∷ 2 ∷ [])
    -- the second group six bits higher, not seven: 81 01 would be 65
    ∷ row (got (read_number (129 ∷ 1 ∷ []) 0)) (65 ∷ 2 ∷ [])
    -- a third group 00 refused: 81 80 00 would be no number
    ∷ row (got (read_number (129 ∷ 128 ∷ 0 ∷ []) 0)) []
    -- a third group with the high bit taken: 81 80 80 would be 2,097,153
    ∷ row (got (read_number (129 ∷ 128 ∷ 128 ∷ []) 0)) (2097153 ∷ 3 ∷ [])
    -- two groups padded to three: 128 would be written 80 81 00
    ∷ row (groups 128) (128 ∷ 129 ∷ 0 ∷ [])
    -- coordinate 50,001 taken
    ∷ row ((read_operator widest (mev_bytes 162 141) 0).refusal ∷ []) (0 ∷ [])
    -- the first operand not written: kfmrh 1 2 would be 09 02
    ∷ row (operator_bytes (operator 9 (1 ∷ 2 ∷ []))) (9 ∷ 2 ∷ [])
    -- a negative coordinate c as −2c − 2: −5 would travel as 8
    ∷ row (zig (negsuc 4) ∷ []) (8 ∷ [])
    -- a loop of two words, as wide as a face: the half-edges of c would start two words early
    ∷ row (map (start_of (shape_of links_c) links_c) (1 ∷ 2 ∷ 3 ∷ 4 ∷ [])) (0 ∷ 2 ∷ 1 ∷ 0 ∷ [])
    ∷ []
