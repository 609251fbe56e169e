-- The checked examples a to h of document 01 and those of jobs 1, 2 and 4 of document 02, one list under one theorem,
-- by computation: what the definitions that the contracts cite leave is what the rows say, to the word, the coordinate
-- and the byte.
use Rattle.std.specs.Prelude.{refl, List, ◌++◌}
use Rattle.laws.specs.Search.{all_to, any_to, least_from}
use Rattle.laws.specs.Sums.{sum_to}
use Rattle.laws.specs.Walks.{meets}
use Rattle.laws.specs.Columns.{sweep}
use Rattle.laws.specs.Closure.{across, pass, rounds, linkedb}
use Rattle.numbers.specs.Number.{third, second, first, read_number, groups}
use Rattle.codec.specs.Operands.{pattern, rows, in_ranges, in_range, zig, zag, wire, unwire}
use Rattle.codec.specs.OperandBytes.{read_operand, read_operands, operand_bytes, operands_bytes}
use Rattle.script.specs.Operator.{read_behind, read_operator, operator_bytes, operator_refusal, put_bytes}
use Rattle.script.specs.Operator.{write_operator}
use Rattle.layout.specs.Mate.{mate}
use Rattle.check_shells.specs.Shells.{within, joins, linked_by}
use Rattle.check_items.specs.Rules.{solid_range, face_range, loop_range, half_range, vertex_range, rule1, solid_names}
use Rattle.check_items.specs.Rules.{face_names, loop_names, half_names, rule2, loop_either, rule3, half_links}
use Rattle.check_items.specs.Rules.{first_names}
use Rattle.check_items.specs.Rules.{half_in_loop, rule4, vertex_either, half_at_vertex, rule5, half_sides, face_linked}
use Rattle.check_items.specs.Rules.{rule6}
use Rattle.check_items.specs.Rules.{broken_rule}
use Rattle.table.specs.Sizes.{sizes_fit}
use Rattle.table.specs.Clear.{clear_of}
use Rattle.table.specs.Check.{check_of}
use Rattle.table.specs.Count.{item_used, tally_of, count_of}
use Rattle.text.specs.Decimal.{digits, decimal}
use Rattle.wavefront.specs.Obj.{passing_to, own_vertex, hundredths, millimetres, concat_map, vertex_line, lap}
use Rattle.wavefront.specs.Obj.{backwards}
use Rattle.wavefront.specs.Obj.{corner_word, face_line, obj_text, no_ring_nor_lone, three_sided, solid_refusal, fitted}
use Rattle.wavefront.specs.Obj.{obj_of}
use Rattle.euler.specs.Surgery.{corner, edge_in, edge_out, relabel, seek, renew}
use Rattle.euler.specs.EdgeOperators.{mev_links, kev_test, kev_links, mef_test, mef_links, kef_test, kef_links}
use Rattle.euler.specs.FaceOperators.{mvsf_links, kvsf_test, kvsf_links, kfmrh_test, kfmrh_links, linked_after}
use Rattle.euler.specs.FaceOperators.{mfkrh_test}
use Rattle.euler.specs.FaceOperators.{mfkrh_links, rmov_test}
use Rattle.euler.specs.Exec.{admit_of, use_refusals, use_refusal, use_word, condition, links_after, points_after}
use Rattle.euler.specs.Exec.{marks_after}
use Rattle.euler.specs.Valence.{less_starts, more_starts}
use Rattle.euler.specs.Exec.{killed_vertex, inverse}
use Rattle.runs.specs.Run.{admit_read, inverse_bytes, carry_refusal, run_refusal, stepped, run_from, entry, run_of}
use Rattle.runs.specs.Move.{part_of, move_of}
use Rattle.takedown.specs.Inversion.{act, turn_b, turned, lacks_b, lacks, invert_by, invert_of}
use Rattle.sessions.specs.Session.{session_clear, session_run, session_undo, session_redo, session_invert}
use Rattle.machine.specs.Machine.{do_all}
use Rattle.evidence_cases.specs.Case.{Row, Hold}
use Rattle.evidence_cases.specs.RowsRuns.{run_rows}
use Rattle.evidence_cases.specs.RowsTakedown.{takedown_rows}
use Rattle.evidence_cases.specs.RowsRefused.{refused_rows}
use Rattle.evidence_cases.specs.RowsPadded.{padded_rows}
use Rattle.evidence_cases.specs.RowsObj.{obj_rows}
use Rattle.evidence_cases.specs.RowsSizes.{size_rows}
use Rattle.evidence_cases.specs.RowsRedo.{redo_rows}

-- all rows
abbrev pub cases : List Row
cases = run_rows ++ (takedown_rows ++ (refused_rows ++ (padded_rows ++ (obj_rows ++ (size_rows ++ redo_rows)))))

-- what the definitions leave, step for step, is what the rows say
pub cases_hold : Hold cases
unfolding do_all session_clear session_run session_undo session_redo session_invert clear_of run_of move_of part_of
    count_of
    invert_of invert_by lacks lacks_b turned turn_b act read_operator write_operator entry check_of sizes_fit tally_of
    item_used
    broken_rule rule1 rule2 rule3 rule4 rule5 rule6 solid_range face_range loop_range half_range vertex_range
    solid_names
    face_names loop_names half_names loop_either half_links first_names half_in_loop vertex_either half_at_vertex
    half_sides
    face_linked all_to least_from sum_to meets linkedb rounds pass across mate within joins linked_by third second first
    read_number groups pattern rows in_ranges in_range zig zag wire unwire read_operand read_operands read_behind
    operand_bytes operands_bytes operator_bytes operator_refusal put_bytes admit_read inverse_bytes carry_refusal
    run_refusal
    stepped run_from admit_of use_refusals use_refusal use_word condition links_after marks_after less_starts
    more_starts
    points_after killed_vertex inverse corner edge_in edge_out relabel seek renew sweep mvsf_links kvsf_test kvsf_links
    mev_links kev_test kev_links mef_test mef_links kef_test kef_links kfmrh_test kfmrh_links linked_after mfkrh_test
    mfkrh_links
    rmov_test any_to digits decimal passing_to own_vertex hundredths millimetres concat_map vertex_line lap backwards
    corner_word face_line obj_text no_ring_nor_lone three_sided solid_refusal fitted obj_of
cases_hold = refl
