-- A row of the checked examples: a table, an operator, and all that `exec` has to leave. Rows hold where it leaves just
-- that, to the word.
use Rattle.std.specs.Prelude.{ℕ, ◌≡◌, List, [], ◌∷◌, map, eqb, ℤ}
use Rattle.laws.specs.Bools.{pick}
use Rattle.laws.specs.Sums.{sum_to}
use Rattle.laws.specs.Search.{least_from}
use Rattle.laws.specs.Columns.{sweep}
use Rattle.laws.specs.Closure.{across, pass, rounds, linkedb}
use Rattle.script.specs.declared.Operator.{Operator}
use Rattle.codec.specs.Operands.{pattern, rows, in_ranges, in_range, wire, zig}
use Rattle.script.specs.Operator.{blank_of}
use Rattle.layout.specs.Layout.{shape_of}
use Rattle.layout.specs.Mate.{mate}
use Rattle.check_shells.specs.Shells.{within, joins, linked_by}
use Rattle.euler.specs.Surgery.{corner, edge_in, edge_out, relabel, seek, renew}
use Rattle.euler.specs.EdgeOperators.{mev_links, kev_test, kev_links, mef_test, mef_links, kef_test, kef_links}
use Rattle.euler.specs.EdgeOperators.{kemr_test}
use Rattle.euler.specs.EdgeOperators.{kemr_links, mekr_test, mekr_links, semv_links, jekv_test, jekv_links}
use Rattle.euler.specs.FaceOperators.{mvsf_links, kvsf_test, kvsf_links, kfmrh_test, kfmrh_links, linked_after}
use Rattle.euler.specs.FaceOperators.{mfkrh_test}
use Rattle.euler.specs.FaceOperators.{mfkrh_links, rmov_test, rmov_links}
use Rattle.euler.specs.Exec.{Table, Executed, exec, refusal_of, admit_of, range_refusal, use_refusals, use_refusal}
use Rattle.euler.specs.Exec.{use_word}
use Rattle.euler.specs.Exec.{condition, links_after, points_after, killed_vertex, inverse}
use Rattle.euler.specs.Exec.{marks_after}
use Rattle.euler.specs.Valence.{less_starts, more_starts}

-- a table and an operator on it, and what is left: the refusal, the operator that undoes it, links and points
pub record Row : Type 0 where
  pub before : Table
  pub operator : Operator
  pub after : Executed

-- ---- writing rows

-- links and points
abbrev pub table : List ℕ → List ℤ → Table
table x p = record { links = x; points = p }

-- an operator as its record: the code, the count of operands, and eight numbers
abbrev pub operation : ℕ → ℕ → List ℤ → Operator
operation code count args = record { code = code; count = count; args = args }

-- operator o is accepted on table t: u is left, and i undoes it
abbrev pub accepts : Table → Operator → Table → Operator → Row
accepts t o u i = record { before = t; operator = o; after = record { refusal = 0; inverse = i; table = u } }

-- operator o is refused on table t, which stays; nothing is to be undone
abbrev pub refuses : Table → Operator → ℕ → Row
refuses t o n = record { before = t; operator = o; after = record { refusal = n; inverse = blank_of 0 0; table = t } }

-- ---- reading them

-- an accepted row read backwards: on what is left the inverse is accepted, the table is left, and the operator undoes
-- it; a refused row is the same either way
abbrev pub back : Row → Row
back r = pick (eqb r.after.refusal 0) (accepts r.after.table r.after.inverse r.before r.operator) r

-- each row, and the same read backwards
abbrev pub both_ways : List Row → List Row
both_ways [] = []
both_ways (r ∷ rs) = r ∷ back r ∷ both_ways rs

-- what the definition leaves for a row, by the shape that the first five words say
unfoldable pub leaves : Row → Executed
unfolding exec refusal_of admit_of range_refusal pattern rows in_ranges in_range wire zig use_refusals use_refusal
    use_word
    condition links_after marks_after less_starts more_starts points_after killed_vertex inverse corner edge_in edge_out
    relabel
    seek renew mate sum_to least_from sweep mvsf_links kvsf_test kvsf_links mev_links kev_test kev_links mef_test
    mef_links
    kef_test kef_links kemr_test kemr_links mekr_test mekr_links kfmrh_test kfmrh_links linked_after mfkrh_test
    mfkrh_links
    semv_links jekv_test jekv_links rmov_test rmov_links within joins linked_by across pass rounds linkedb
leaves r = exec (shape_of r.before.links) r.operator r.before

-- what the definition leaves, row for row and both ways, is what the rows say
abbrev pub Hold : List Row → Type 0
Hold rs = map leaves (both_ways rs) ≡ map (λ r. r.after) (both_ways rs)
