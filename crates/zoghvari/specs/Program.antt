-- The program, as a function from the bytes it reads to the bytes it prints (document 01, "Checked examples").
use Rattle.std.specs.Prelude.{ℕ, List, leb, length, replicate}
use Rattle.laws.specs.Bools.{pick}
use Rattle.table.specs.Clear.{empty_links, empty_points}
use Rattle.table.specs.Count.{count_of}
use Rattle.runs.specs.Run.{State, state, Ran, run_of}
use Rattle.report.specs.Text.{text_of, too_long}

-- an empty table of capacities 64 with an empty log of 40,960 bytes
unfoldable pub empty : State
empty = state (empty_links 64 64 64 64 64) (empty_points 64) (replicate 40960 0) 40960

-- what is printed of a run: its answer, and the counts of the table it left
unfoldable pub report_of : Ran → List ℕ
report_of r = text_of r.answer.refusal r.answer.done r.answer.used (count_of r.links r.points)

-- an input of at most 4,096 bytes is run as a script
unfoldable pub program_of : List ℕ → List ℕ
program_of s = pick (leb (length s) 4096) (report_of (run_of empty s)) too_long
