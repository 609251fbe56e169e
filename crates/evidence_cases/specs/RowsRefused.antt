-- Examples f and g of document 01: operators that are refused on the tables of b and c and change nothing, and the
-- coordinates that are just accepted. What f says of one operator is asked without a table too.
use Rattle.std.specs.Prelude.{ℕ, List, [], ◌∷◌, ◌++◌, ℤ, pos, negsuc}
use Rattle.script.specs.declared.Operator.{Operator}
use Rattle.script.specs.Operator.{blank_of}
use Rattle.machine.specs.Machine.{Read, Write, ToRead, ToWrite}
use Rattle.evidence_cases.specs.Case.{Step, Row, row, step, redoable, runs, undoes}
use Rattle.evidence_cases.specs.Tables.{lent, log_c, table_b, table_c, tableCAt, undone_with}
use Rattle.evidence_cases.specs.RowsRuns.{script_b, clearing, running_b, running_c}

-- ---- one operator without a table

-- mev 1 0 1 2 0 c 0 0
abbrev pub mev_to : ℤ → Operator
mev_to c = record { code = 3; count = 8; args = pos 1 ∷ pos 0 ∷ pos 1 ∷ pos 2 ∷ pos 0 ∷ c ∷ pos 0 ∷ pos 0 ∷ [] }

-- its bytes, those of the coordinate being a, b, 6
abbrev pub mev_bytes : ℕ → ℕ → List ℕ
mev_bytes a b = 3 ∷ 1 ∷ 0 ∷ 1 ∷ 2 ∷ 0 ∷ a ∷ b ∷ 6 ∷ 0 ∷ 0 ∷ []

-- the same in a destination of twelve bytes
abbrev pub mev_put : ℕ → ℕ → List ℕ
mev_put a b = 3 ∷ 1 ∷ 0 ∷ 1 ∷ 2 ∷ 0 ∷ a ∷ b ∷ 6 ∷ 0 ∷ 0 ∷ 238 ∷ []

-- that destination before
abbrev pub destination : List ℕ
destination = 238 ∷ 238 ∷ 238 ∷ 238 ∷ 238 ∷ 238 ∷ 238 ∷ 238 ∷ 238 ∷ 238 ∷ 238 ∷ 238 ∷ []

-- reading these bytes is refused
abbrev pub unread : List ℕ → ℕ → Step
unread s refusal = step (Read s 0) (ToRead (record { refusal = refusal; next = 0; op = blank_of 0 0 })) table_b

-- writing this operator is refused
abbrev pub unwritten : Operator → ℕ → Step
unwritten o refusal = step (Write o destination) (ToWrite (record { refusal = refusal; length = 0 }) destination)
    table_b

-- the operator is read from its bytes, and written as these bytes
abbrev pub read_as : ℤ → ℕ → ℕ → Step
read_as c a b = step (Read (mev_bytes a b) 0) (ToRead (record { refusal = 0; next = 11; op = mev_to c })) table_b

abbrev pub written_as : ℤ → ℕ → ℕ → Step
written_as c a b = step (Write (mev_to c) destination) (ToWrite (record { refusal = 0; length = 11 }) (mev_put a b))
    table_b

-- ---- the rows

-- a script on the table of b is refused
abbrev pub refused_on_b : List ℕ → ℕ → Step
refused_on_b s refusal = runs s refusal 0 0 table_b

abbrev pub refused_rows : List Row
refused_rows =
    -- f: code 0E
    row lent (clearing ∷ running_b ∷ refused_on_b (14 ∷ []) 4 ∷ unread (14 ∷ []) 4 ∷ unwritten (blank_of 14 0) 4 ∷ [])
    -- f: 81 00
    ∷ row lent (clearing ∷ running_b ∷ refused_on_b (129 ∷ 0 ∷ []) 3 ∷ unread (129 ∷ 0 ∷ []) 3 ∷ [])
    -- f: coordinate 50,000; then undone
    ∷ row lent
    (clearing ∷ running_b ∷ read_as (pos 50000) 160 141 ∷ written_as (pos 50000) 160 141
    ∷ runs (mev_bytes 160 141) 0 1 11 (tableCAt (pos 50000))
    ∷ undoes 2 0 2 (redoable (undone_with log_c) (script_b ++ mev_bytes 160 141)) ∷ [])
    -- f: coordinate −50,000; then undone
    ∷ row lent
    (clearing ∷ running_b ∷ read_as (negsuc 49999) 159 141 ∷ written_as (negsuc 49999) 159 141
    ∷ runs (mev_bytes 159 141) 0 1 11 (tableCAt (negsuc 49999))
    ∷ undoes 2 0 2 (redoable (undone_with log_c) (script_b ++ mev_bytes 159 141)) ∷ [])
    -- f: coordinates 50,001 and −50,001
    ∷ row lent
    (clearing ∷ running_b ∷ refused_on_b (mev_bytes 162 141) 5 ∷ unread (mev_bytes 162 141) 5
    ∷ unwritten (mev_to (pos 50001)) 5 ∷ refused_on_b (mev_bytes 161 141) 5 ∷ unread (mev_bytes 161 141) 5
    ∷ unwritten (mev_to (negsuc 50000)) 5 ∷ [])
    -- g: after b, mvsf again
    ∷ row lent (clearing ∷ running_b ∷ runs script_b 7 0 0 table_b ∷ [])
    -- g: after c, kvsf 1
    ∷ row lent (clearing ∷ running_b ∷ running_c ∷ runs (2 ∷ 1 ∷ []) 8 0 0 table_c ∷ [])
    ∷ []
