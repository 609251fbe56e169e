-- Example h of document 01: a capacity of 4,096 is accepted, 0 and 4,097 are refused with 1 and nothing changes; of
-- each of the five kinds, the other capacities being 1. The memory lent is as long as the capacities say. What
-- is accepted sets both starts to the ends of their logs, and what is refused leaves them (document 02, job 4).
use Rattle.std.specs.Prelude.{ℕ, ◌+◌, List, [], ◌∷◌, pos, replicate}
use Rattle.sessions.specs.Editing.{Editing}
use Rattle.evidence_cases.specs.Case.{Row, row, lending, editing, clears}

-- m words, n coordinates, a log of three bytes, with something in every place
abbrev pub memory : ℕ → ℕ → Editing
memory m n = lending (replicate m 7) (replicate n (pos 7)) (238 ∷ 238 ∷ 238 ∷ []) 1 (replicate 30 221) 4

-- these capacities, then m zeros; n zeros
abbrev pub zeros : ℕ → ℕ → ℕ → ℕ → ℕ → ℕ → ℕ → Editing
zeros s f l e v m n = editing (s ∷ f ∷ l ∷ e ∷ v ∷ replicate m 0) (replicate n (pos 0)) (238 ∷ 238 ∷ 238 ∷ []) 3

-- clearing is accepted: five words for the capacities, then m
abbrev pub accepted : ℕ → ℕ → ℕ → ℕ → ℕ → ℕ → ℕ → Row
accepted s f l e v m n = row (memory (5 + m) n) (clears s f l e v 0 (zeros s f l e v m n) ∷ [])

-- clearing is refused, and the memory stays
abbrev pub refused : ℕ → ℕ → ℕ → ℕ → ℕ → ℕ → ℕ → Row
refused s f l e v m n = row (memory (5 + m) n) (clears s f l e v 1 (memory (5 + m) n) ∷ [])

abbrev pub size_rows : List Row
size_rows =
    -- solids
    accepted 4096 1 1 1 1 4110 3 ∷ refused 0 1 1 1 1 14 3 ∷ refused 4097 1 1 1 1 4111 3
    -- faces
    ∷ accepted 1 4096 1 1 1 8205 3 ∷ refused 1 0 1 1 1 13 3 ∷ refused 1 4097 1 1 1 8207 3
    -- loops
    ∷ accepted 1 1 4096 1 1 12300 3 ∷ refused 1 1 0 1 1 12 3 ∷ refused 1 1 4097 1 1 12303 3
    -- edges
    ∷ accepted 1 1 1 4096 1 32775 3 ∷ refused 1 1 1 0 1 7 3 ∷ refused 1 1 1 4097 1 32783 3
    -- vertices
    ∷ accepted 1 1 1 1 4096 4110 12288 ∷ refused 1 1 1 1 0 14 0 ∷ refused 1 1 1 1 4097 4111 12291
    ∷ []
