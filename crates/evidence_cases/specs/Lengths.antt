-- Lengths that a caller hands in as numbers and that are not those of the logs: what the definitions say then. The
-- promises about lists of calls exclude it (decision 107), and the guide tells a user what to expect.
use Rattle.std.specs.Prelude.{◌≡◌, refl, List, [], ◌∷◌, ℕ, pos}
use Rattle.laws.specs.Search.{all_to, least_from}
use Rattle.laws.specs.Sums.{sum_to}
use Rattle.laws.specs.Walks.{meets}
use Rattle.laws.specs.Columns.{sweep}
use Rattle.laws.specs.Closure.{across, pass, rounds, linkedb}
use Rattle.numbers.specs.Number.{third, second, first, read_number, groups}
use Rattle.codec.specs.Operands.{pattern, rows, in_ranges, in_range, zig, zag, wire, unwire}
use Rattle.codec.specs.OperandBytes.{read_operand, read_operands, operand_bytes, operands_bytes}
use Rattle.script.specs.Operator.{read_behind, read_operator, operator_bytes, operator_refusal, put_bytes}
use Rattle.layout.specs.Mate.{mate}
use Rattle.check_shells.specs.Shells.{within, joins, linked_by}
use Rattle.check_items.specs.Rules.{solid_range, face_range, loop_range, half_range, vertex_range, rule1, solid_names}
use Rattle.check_items.specs.Rules.{face_names, loop_names, half_names, rule2, loop_either, rule3, half_links}
use Rattle.check_items.specs.Rules.{first_names}
use Rattle.check_items.specs.Rules.{half_in_loop, rule4, vertex_either, half_at_vertex, rule5, half_sides, face_linked}
use Rattle.check_items.specs.Rules.{rule6}
use Rattle.check_items.specs.Rules.{broken_rule}
use Rattle.table.specs.Sizes.{sizes_fit}
use Rattle.table.specs.Check.{check_of}
use Rattle.euler.specs.Surgery.{corner, edge_in, edge_out, relabel, seek, renew}
use Rattle.euler.specs.EdgeOperators.{mev_links, kev_test, kev_links, mef_test, mef_links, kef_test, kef_links}
use Rattle.euler.specs.FaceOperators.{mvsf_links, kvsf_test, kvsf_links, kfmrh_test, kfmrh_links, linked_after}
use Rattle.euler.specs.FaceOperators.{mfkrh_test}
use Rattle.euler.specs.FaceOperators.{mfkrh_links}
use Rattle.euler.specs.Exec.{admit_of, use_refusals, use_refusal, use_word, condition, links_after, points_after}
use Rattle.euler.specs.Exec.{marks_after}
use Rattle.euler.specs.Valence.{less_starts, more_starts}
use Rattle.euler.specs.Exec.{killed_vertex, inverse}
use Rattle.runs.specs.Move.{part_of, move_of}
use Rattle.table.specs.Clear.{clear_of}
use Rattle.table.specs.Count.{item_used, tally_of}
use Rattle.runs.specs.Run.{admit_read, inverse_bytes, carry_refusal, carry_of, step_of, run_refusal, stepped, run_from}
use Rattle.runs.specs.Run.{entry}
use Rattle.runs.specs.Run.{run_of}
use Rattle.takedown.specs.Inversion.{act, turn_b, turned, lacks_b, lacks, invert_by, invert_of}
use Rattle.sessions.specs.Session.{starts, session_clear, session_run, session_undo, session_redo, session_invert}
use Rattle.evidence_cases.specs.Tables.{links_empty, links_b, links_c, links_d, points_zero, points_at, log_empty}
use Rattle.evidence_cases.specs.Tables.{log_b}
use Rattle.evidence_cases.specs.Tables.{log_d}
use Rattle.evidence_cases.specs.RowsRuns.{script_b, script_c}
use Rattle.evidence_cases.specs.RowsRedo.{blank, redoCD, wide_b}

-- the log of b with the inverse of b once more below it
abbrev twice_b : List ℕ
twice_b = 238 ∷ 238 ∷ 238 ∷ 238 ∷ 2 ∷ 1 ∷ 2 ∷ 1 ∷ []

-- each number handed in counts: too large, then too small
pub lengths_count :
    -- clearing with 9 for a log of eight bytes sets its start there, and a run is refused with 1
    ((session_clear links_empty points_zero 9 30 (starts 8 30) 1 2 2 2 2).answer.session ≡ starts 9 30)
    × ((session_run links_empty points_zero log_empty 30 (starts 9 30) script_b).answer.answer.refusal ≡ 1)
    -- clearing, a run or a take-down with 31 for a redo log of thirty bytes sets that start there, and undo is refused
    -- with 1
    × ((session_clear links_empty points_zero 8 31 (starts 8 30) 1 2 2 2 2).answer.session ≡ starts 8 31)
    × ((session_run links_empty points_zero log_empty 31 (starts 8 30) script_b).answer.session ≡ starts 6 31)
    × ((session_invert links_b points_zero wide_b.log 31 (starts 28 30)).answer.session ≡ starts 20 31)
    × ((session_undo links_b points_zero log_b (blank 30) (starts 6 31) 1).answer.answer.refusal ≡ 1)
    -- with 1 for the log a run finds no room, and so does undo with 0 for the redo log, though both have bytes left: 9
    × ((session_clear links_empty points_zero 1 30 (starts 8 30) 1 2 2 2 2).answer.session ≡ starts 1 30)
    × ((session_run links_empty points_zero log_empty 30 (starts 1 30) script_b).answer.answer.refusal ≡ 9)
    × ((session_run links_empty points_zero log_empty 0 (starts 8 30) script_b).answer.session ≡ starts 6 0)
    × ((session_undo links_b points_zero log_b (blank 30) (starts 6 0) 1).answer.answer.refusal ≡ 9)
    -- clearing with 6 for a log of eight bytes leaves its last two live, here 02 01; undo by two after b reads them as
    -- an operator, which is refused with 6 where 11 is due
    × ((session_clear links_empty points_zero 6 30 (starts 8 30) 1 2 2 2 2).answer.session ≡ starts 6 30)
    × ((session_run links_empty points_zero log_b 30 (starts 6 30) script_b).log ≡ twice_b)
    × ((session_undo links_b points_zero twice_b (blank 30) (starts 4 30) 2).answer.answer
    ≡ record { refusal = 6; rule = 0; undone = 1; start = 6 })
    -- a run with 22 for a redo log of thirty bytes leaves its last eight live, here d; redo does d again, though the
    -- run has given it up
    × ((session_run links_b points_zero log_d 22 (starts 6 12) script_c).answer.session ≡ starts 4 22)
    × ((session_redo links_c (points_at (pos 100)) log_d redoCD (starts 4 22) 1).links ≡ links_d)
unfolding session_invert invert_of invert_by lacks lacks_b turned turn_b act tally_of item_used session_clear
    session_run
    session_undo session_redo clear_of run_of move_of part_of entry check_of sizes_fit broken_rule rule1 rule2 rule3
    rule4
    rule5 rule6 solid_range face_range loop_range half_range vertex_range solid_names face_names loop_names half_names
    loop_either half_links first_names half_in_loop vertex_either half_at_vertex half_sides face_linked all_to
    least_from sum_to
    meets linkedb rounds pass across mate within joins linked_by third second first read_number groups pattern rows
    in_ranges in_range zig zag wire unwire read_operand read_operands read_behind read_operator operand_bytes
    operands_bytes
    operator_bytes operator_refusal put_bytes admit_read inverse_bytes carry_refusal carry_of step_of run_refusal
    stepped
    run_from admit_of use_refusals use_refusal use_word condition links_after marks_after less_starts more_starts
    points_after
    killed_vertex inverse corner edge_in edge_out relabel seek renew sweep mvsf_links kvsf_test kvsf_links mev_links
    kev_test
    kev_links mef_test mef_links kef_test kef_links kfmrh_test kfmrh_links linked_after mfkrh_test mfkrh_links
lengths_count =
    (refl, refl, refl, refl, refl, refl, refl, refl, refl, refl, refl, refl, refl, refl, refl)
