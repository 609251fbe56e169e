-- Reading one operator, as rows of one list under one theorem: each code, both ends of each range, each way to be cut
-- off, padded forms. (Example f of document 01 is in crate evidence_cases.)
use Rattle.std.specs.Prelude.{◌≡◌, refl, ℕ, Bool, true, false, ◌&&◌, List, [], ◌∷◌, map, length, ℤ, pos, negsuc, eqb}
use Rattle.laws.specs.Bools.{pick, allb}
use Rattle.script.specs.declared.Operator.{Operator}
use Rattle.script.specs.declared.ReadAnswer.{ReadAnswer}
use Rattle.numbers.specs.Number.{read_number, groups}
use Rattle.numbers.specs.Padded.{shorten_for, shorten}
use Rattle.codec.specs.Operands.{zig, zag, pattern, widest, in_range, in_ranges, wire, unwire}
use Rattle.codec.specs.OperandBytes.{read_operand, read_operands, operand_bytes, operands_bytes}
use Rattle.script.specs.Operator.{refused, read_behind, read_operator, operator_bytes, operator_refusal}

abbrev pub same : List ℕ → List ℕ → Bool
same [] [] = true
same [] (n ∷ ns) = false
same (m ∷ ms) [] = false
same (m ∷ ms) (n ∷ ns) = eqb m n && same ms ns

-- signed numbers are the same when they travel as the same
unfoldable pub same_operator : Operator → Operator → Bool
unfolding zig
same_operator a b = eqb a.code b.code
    && (eqb a.count b.count && same (map zig a.args) (map zig b.args))

unfoldable pub same_answer : ReadAnswer → ReadAnswer → Bool
unfolding same_operator
same_answer a b = eqb a.refusal b.refusal && (eqb a.next b.next && same_operator a.op b.op)

-- an example: bytes, and what reading them answers
pub record Row : Type 0 where
  pub bytes : List ℕ
  pub answer : ReadAnswer

abbrev pub operator : ℕ → ℕ → List ℤ → Operator
operator code count args = record { code = code; count = count; args = args }

-- the operator takes all the bytes
abbrev pub accepts : List ℕ → Operator → Row
accepts bytes op = record { bytes = bytes; answer = record { refusal = 0; next = length bytes; op = op } }

abbrev pub refuses : List ℕ → ℕ → Row
refuses bytes refusal = record { bytes = bytes; answer = refused refusal 0 }

-- and an operator that is accepted is written as the shortest form of these bytes
unfoldable pub holds : Row → Bool
unfolding same_answer read_number groups shorten_for shorten pattern in_range in_ranges zag wire unwire read_operand
    read_operands read_behind read_operator operand_bytes operands_bytes operator_bytes operator_refusal
holds row =
    same_answer (read_operator widest row.bytes 0) row.answer
    && pick (eqb row.answer.refusal 0)
    (eqb (operator_refusal row.answer.op) 0 && same (operator_bytes row.answer.op) (shorten row.bytes))
    true

abbrev pub examples : List Row
examples =
    -- coordinate 50,000
    accepts (1 ∷ 1 ∷ 1 ∷ 1 ∷ 1 ∷ 160 ∷ 141 ∷ 6 ∷ 0 ∷ 0 ∷ [])
    (operator 1 7 (pos 1 ∷ pos 1 ∷ pos 1 ∷ pos 1 ∷ pos 50000 ∷ pos 0 ∷ pos 0 ∷ pos 0 ∷ []))
    -- coordinate 50,001
    ∷ refuses (1 ∷ 1 ∷ 1 ∷ 1 ∷ 1 ∷ 162 ∷ 141 ∷ 6 ∷ 0 ∷ 0 ∷ []) 5
    -- coordinate -50,000
    ∷ accepts (1 ∷ 1 ∷ 1 ∷ 1 ∷ 1 ∷ 0 ∷ 159 ∷ 141 ∷ 6 ∷ 1 ∷ [])
    (operator 1 7 (pos 1 ∷ pos 1 ∷ pos 1 ∷ pos 1 ∷ pos 0 ∷ negsuc 49999 ∷ negsuc 0 ∷ pos 0 ∷ []))
    -- coordinate -50,001
    ∷ refuses (1 ∷ 1 ∷ 1 ∷ 1 ∷ 1 ∷ 0 ∷ 161 ∷ 141 ∷ 6 ∷ 0 ∷ []) 5
    -- mvsf s f l v x y z
    ∷ accepts (1 ∷ 1 ∷ 2 ∷ 3 ∷ 4 ∷ 10 ∷ 11 ∷ 14 ∷ [])
    (operator 1 7 (pos 1 ∷ pos 2 ∷ pos 3 ∷ pos 4 ∷ pos 5 ∷ negsuc 5 ∷ pos 7 ∷ pos 0 ∷ []))
    -- the greatest number of each kind that mvsf makes, and one more of each
    ∷ accepts (1 ∷ 128 ∷ 32 ∷ 128 ∷ 32 ∷ 128 ∷ 32 ∷ 128 ∷ 32 ∷ 0 ∷ 0 ∷ 0 ∷ [])
    (operator 1 7 (pos 4096 ∷ pos 4096 ∷ pos 4096 ∷ pos 4096 ∷ pos 0 ∷ pos 0 ∷ pos 0 ∷ pos 0 ∷ []))
    ∷ refuses (1 ∷ 129 ∷ 32 ∷ 1 ∷ 1 ∷ 1 ∷ 0 ∷ 0 ∷ 0 ∷ []) 5
    ∷ refuses (1 ∷ 1 ∷ 129 ∷ 32 ∷ 1 ∷ 1 ∷ 0 ∷ 0 ∷ 0 ∷ []) 5
    ∷ refuses (1 ∷ 1 ∷ 1 ∷ 129 ∷ 32 ∷ 1 ∷ 0 ∷ 0 ∷ 0 ∷ []) 5
    ∷ refuses (1 ∷ 1 ∷ 1 ∷ 1 ∷ 129 ∷ 32 ∷ 0 ∷ 0 ∷ 0 ∷ []) 5
    -- kvsf s
    ∷ accepts (2 ∷ 1 ∷ [])
    (operator 2 1 (pos 1 ∷ pos 0 ∷ pos 0 ∷ pos 0 ∷ pos 0 ∷ pos 0 ∷ pos 0 ∷ pos 0 ∷ []))
    -- mev l h e v w x y z
    ∷ accepts (3 ∷ 1 ∷ 0 ∷ 1 ∷ 2 ∷ 0 ∷ 200 ∷ 1 ∷ 0 ∷ 0 ∷ [])
    (operator 3 8 (pos 1 ∷ pos 0 ∷ pos 1 ∷ pos 2 ∷ pos 0 ∷ pos 100 ∷ pos 0 ∷ pos 0 ∷ []))
    -- kev k
    ∷ accepts (4 ∷ 1 ∷ [])
    (operator 4 1 (pos 1 ∷ pos 0 ∷ pos 0 ∷ pos 0 ∷ pos 0 ∷ pos 0 ∷ pos 0 ∷ pos 0 ∷ []))
    -- mef l h1 h2 e f l2 w
    ∷ accepts (5 ∷ 1 ∷ 1 ∷ 2 ∷ 2 ∷ 2 ∷ 2 ∷ 0 ∷ [])
    (operator 5 7 (pos 1 ∷ pos 1 ∷ pos 2 ∷ pos 2 ∷ pos 2 ∷ pos 2 ∷ pos 0 ∷ pos 0 ∷ []))
    -- kef k
    ∷ accepts (6 ∷ 4 ∷ [])
    (operator 6 1 (pos 4 ∷ pos 0 ∷ pos 0 ∷ pos 0 ∷ pos 0 ∷ pos 0 ∷ pos 0 ∷ pos 0 ∷ []))
    -- kemr k l2
    ∷ accepts (7 ∷ 3 ∷ 2 ∷ [])
    (operator 7 2 (pos 3 ∷ pos 2 ∷ pos 0 ∷ pos 0 ∷ pos 0 ∷ pos 0 ∷ pos 0 ∷ pos 0 ∷ []))
    -- mekr l h1 l2 h2 e w
    ∷ accepts (8 ∷ 1 ∷ 0 ∷ 2 ∷ 0 ∷ 3 ∷ 1 ∷ [])
    (operator 8 6 (pos 1 ∷ pos 0 ∷ pos 2 ∷ pos 0 ∷ pos 3 ∷ pos 1 ∷ pos 0 ∷ pos 0 ∷ []))
    -- kfmrh f1 f2
    ∷ accepts (9 ∷ 1 ∷ 2 ∷ [])
    (operator 9 2 (pos 1 ∷ pos 2 ∷ pos 0 ∷ pos 0 ∷ pos 0 ∷ pos 0 ∷ pos 0 ∷ pos 0 ∷ []))
    -- mfkrh l f s
    ∷ accepts (10 ∷ 2 ∷ 2 ∷ 0 ∷ [])
    (operator 10 3 (pos 2 ∷ pos 2 ∷ pos 0 ∷ pos 0 ∷ pos 0 ∷ pos 0 ∷ pos 0 ∷ pos 0 ∷ []))
    -- semv k e v w x y z
    ∷ accepts (11 ∷ 5 ∷ 3 ∷ 4 ∷ 1 ∷ 1 ∷ 0 ∷ 2 ∷ [])
    (operator 11 7 (pos 5 ∷ pos 3 ∷ pos 4 ∷ pos 1 ∷ negsuc 0 ∷ pos 0 ∷ pos 1 ∷ pos 0 ∷ []))
    -- jekv k, a number of two groups
    ∷ accepts (12 ∷ 172 ∷ 2 ∷ [])
    (operator 12 1 (pos 300 ∷ pos 0 ∷ pos 0 ∷ pos 0 ∷ pos 0 ∷ pos 0 ∷ pos 0 ∷ pos 0 ∷ []))
    -- rmov l f
    ∷ accepts (13 ∷ 2 ∷ 1 ∷ [])
    (operator 13 2 (pos 2 ∷ pos 1 ∷ pos 0 ∷ pos 0 ∷ pos 0 ∷ pos 0 ∷ pos 0 ∷ pos 0 ∷ []))
    -- nothing to read
    ∷ refuses ([]) 3
    -- code 0
    ∷ refuses (0 ∷ []) 4
    -- a code of two groups, 142
    ∷ refuses (142 ∷ 1 ∷ []) 4
    -- a padded code: 14, 0, and 1 whose operands are cut off
    ∷ refuses (142 ∷ 0 ∷ []) 4
    ∷ refuses (128 ∷ 0 ∷ []) 4
    ∷ refuses (129 ∷ 0 ∷ []) 3
    -- a code cut off
    ∷ refuses (129 ∷ []) 3
    -- an operand cut off
    ∷ refuses (4 ∷ []) 3
    -- an operand cut off within
    ∷ refuses (4 ∷ 128 ∷ []) 3
    -- and again
    ∷ refuses (4 ∷ 128 ∷ 128 ∷ []) 3
    -- kev 1, padded to two groups, to three, and its code too
    ∷ accepts (4 ∷ 129 ∷ 0 ∷ [])
    (operator 4 1 (pos 1 ∷ pos 0 ∷ pos 0 ∷ pos 0 ∷ pos 0 ∷ pos 0 ∷ pos 0 ∷ pos 0 ∷ []))
    ∷ accepts (4 ∷ 129 ∷ 128 ∷ 0 ∷ [])
    (operator 4 1 (pos 1 ∷ pos 0 ∷ pos 0 ∷ pos 0 ∷ pos 0 ∷ pos 0 ∷ pos 0 ∷ pos 0 ∷ []))
    ∷ accepts (132 ∷ 128 ∷ 0 ∷ 129 ∷ 128 ∷ 0 ∷ [])
    (operator 4 1 (pos 1 ∷ pos 0 ∷ pos 0 ∷ pos 0 ∷ pos 0 ∷ pos 0 ∷ pos 0 ∷ pos 0 ∷ []))
    -- half-edge 8,192 in three groups
    ∷ accepts (4 ∷ 128 ∷ 192 ∷ 0 ∷ [])
    (operator 4 1 (pos 8192 ∷ pos 0 ∷ pos 0 ∷ pos 0 ∷ pos 0 ∷ pos 0 ∷ pos 0 ∷ pos 0 ∷ []))
    -- mev in three groups throughout: 27 bytes; 0 is 80 80 00
    ∷ accepts (131 ∷ 128 ∷ 0 ∷ 129 ∷ 128 ∷ 0 ∷ 128 ∷ 128 ∷ 0 ∷ 129 ∷ 128 ∷ 0 ∷ 130 ∷ 128 ∷ 0 ∷ 128 ∷ 128 ∷ 0 ∷ 200
    ∷ 129 ∷ 0 ∷ 159 ∷ 141 ∷ 6 ∷ 128 ∷ 128 ∷ 0 ∷ [])
    (operator 3 8 (pos 1 ∷ pos 0 ∷ pos 1 ∷ pos 2 ∷ pos 0 ∷ pos 100 ∷ negsuc 49999 ∷ pos 0 ∷ []))
    -- k 0, padded
    ∷ refuses (4 ∷ 128 ∷ 128 ∷ 0 ∷ []) 5
    -- four groups, whatever the fourth
    ∷ refuses (4 ∷ 129 ∷ 128 ∷ 128 ∷ 1 ∷ []) 3
    ∷ refuses (4 ∷ 129 ∷ 128 ∷ 128 ∷ 0 ∷ []) 3
    -- the largest number of three groups
    ∷ refuses (4 ∷ 255 ∷ 255 ∷ 127 ∷ []) 5
    -- 3 comes before an earlier operand's 5
    ∷ refuses (9 ∷ 0 ∷ 129 ∷ []) 3
    -- which a padded number behind it leaves
    ∷ refuses (9 ∷ 0 ∷ 129 ∷ 0 ∷ []) 5
    -- also when the script ends
    ∷ refuses (9 ∷ 0 ∷ []) 3
    -- half-edge 8,193
    ∷ refuses (4 ∷ 129 ∷ 64 ∷ []) 5
    -- half-edge 8,192
    ∷ accepts (4 ∷ 128 ∷ 64 ∷ [])
    (operator 4 1 (pos 8192 ∷ pos 0 ∷ pos 0 ∷ pos 0 ∷ pos 0 ∷ pos 0 ∷ pos 0 ∷ pos 0 ∷ []))
    -- solid 4,096
    ∷ accepts (2 ∷ 128 ∷ 32 ∷ [])
    (operator 2 1 (pos 4096 ∷ pos 0 ∷ pos 0 ∷ pos 0 ∷ pos 0 ∷ pos 0 ∷ pos 0 ∷ pos 0 ∷ []))
    -- solid 4,097
    ∷ refuses (2 ∷ 129 ∷ 32 ∷ []) 5
    -- faces 4,096
    ∷ accepts (9 ∷ 128 ∷ 32 ∷ 128 ∷ 32 ∷ [])
    (operator 9 2 (pos 4096 ∷ pos 4096 ∷ pos 0 ∷ pos 0 ∷ pos 0 ∷ pos 0 ∷ pos 0 ∷ pos 0 ∷ []))
    -- face 4,097
    ∷ refuses (9 ∷ 1 ∷ 129 ∷ 32 ∷ []) 5
    -- loop 4,096
    ∷ accepts (13 ∷ 128 ∷ 32 ∷ 1 ∷ [])
    (operator 13 2 (pos 4096 ∷ pos 1 ∷ pos 0 ∷ pos 0 ∷ pos 0 ∷ pos 0 ∷ pos 0 ∷ pos 0 ∷ []))
    -- loop 4,097
    ∷ refuses (13 ∷ 129 ∷ 32 ∷ 1 ∷ []) 5
    -- corner 8,192, edge and vertex 4,096, way 1
    ∷ accepts (3 ∷ 1 ∷ 128 ∷ 64 ∷ 128 ∷ 32 ∷ 128 ∷ 32 ∷ 1 ∷ 0 ∷ 0 ∷ 0 ∷ [])
    (operator 3 8 (pos 1 ∷ pos 8192 ∷ pos 4096 ∷ pos 4096 ∷ pos 1 ∷ pos 0 ∷ pos 0 ∷ pos 0 ∷ []))
    -- corner 8,193
    ∷ refuses (3 ∷ 1 ∷ 129 ∷ 64 ∷ 1 ∷ 1 ∷ 0 ∷ 0 ∷ 0 ∷ 0 ∷ []) 5
    -- edge 4,097
    ∷ refuses (3 ∷ 1 ∷ 0 ∷ 129 ∷ 32 ∷ 1 ∷ 0 ∷ 0 ∷ 0 ∷ 0 ∷ []) 5
    -- vertex 4,097
    ∷ refuses (3 ∷ 1 ∷ 0 ∷ 1 ∷ 129 ∷ 32 ∷ 0 ∷ 0 ∷ 0 ∷ 0 ∷ []) 5
    -- way 2
    ∷ refuses (3 ∷ 1 ∷ 0 ∷ 1 ∷ 1 ∷ 2 ∷ 0 ∷ 0 ∷ 0 ∷ []) 5
    -- way 3 of mef
    ∷ accepts (5 ∷ 1 ∷ 0 ∷ 0 ∷ 1 ∷ 2 ∷ 2 ∷ 3 ∷ [])
    (operator 5 7 (pos 1 ∷ pos 0 ∷ pos 0 ∷ pos 1 ∷ pos 2 ∷ pos 2 ∷ pos 3 ∷ pos 0 ∷ []))
    -- way 4 of mef
    ∷ refuses (5 ∷ 1 ∷ 0 ∷ 0 ∷ 1 ∷ 2 ∷ 2 ∷ 4 ∷ []) 5
    -- a new solid of mfkrh
    ∷ accepts (10 ∷ 1 ∷ 1 ∷ 128 ∷ 32 ∷ [])
    (operator 10 3 (pos 1 ∷ pos 1 ∷ pos 4096 ∷ pos 0 ∷ pos 0 ∷ pos 0 ∷ pos 0 ∷ pos 0 ∷ []))
    -- and one too large
    ∷ refuses (10 ∷ 1 ∷ 1 ∷ 129 ∷ 32 ∷ []) 5
    -- s 0
    ∷ refuses (1 ∷ 0 ∷ 1 ∷ 1 ∷ 1 ∷ 0 ∷ 0 ∷ 0 ∷ []) 5
    -- f 0
    ∷ refuses (1 ∷ 1 ∷ 0 ∷ 1 ∷ 1 ∷ 0 ∷ 0 ∷ 0 ∷ []) 5
    -- l 0
    ∷ refuses (1 ∷ 1 ∷ 1 ∷ 0 ∷ 1 ∷ 0 ∷ 0 ∷ 0 ∷ []) 5
    -- v 0
    ∷ refuses (1 ∷ 1 ∷ 1 ∷ 1 ∷ 0 ∷ 0 ∷ 0 ∷ 0 ∷ []) 5
    -- s 0
    ∷ refuses (2 ∷ 0 ∷ []) 5
    -- k 0
    ∷ refuses (4 ∷ 0 ∷ []) 5
    -- e 0
    ∷ refuses (3 ∷ 1 ∷ 0 ∷ 0 ∷ 1 ∷ 0 ∷ 0 ∷ 0 ∷ 0 ∷ []) 5
    -- l2 0
    ∷ refuses (7 ∷ 1 ∷ 0 ∷ []) 5
    -- f2 0
    ∷ refuses (9 ∷ 1 ∷ 0 ∷ []) 5
    -- l 0
    ∷ refuses (10 ∷ 0 ∷ 1 ∷ 0 ∷ []) 5
    ∷ []

pub examples_hold : allb (map holds examples) ≡ true
unfolding holds
examples_hold = refl
