-- The definitions have none of these slips: one list under one theorem, by computation.
use Rattle.std.specs.Prelude.{List, ◌++◌}
use Rattle.laws.specs.Search.{all_to, any_to, least_from}
use Rattle.laws.specs.Sums.{sum_to}
use Rattle.laws.specs.Walks.{meets}
use Rattle.laws.specs.Closure.{across, pass, rounds, linkedb}
use Rattle.numbers.specs.Number.{third, second, first, read_number, groups}
use Rattle.codec.specs.Operands.{pattern, rows, in_ranges, in_range, zig, zag, wire, unwire}
use Rattle.codec.specs.OperandBytes.{read_operand, read_operands, operand_bytes, operands_bytes}
use Rattle.script.specs.Operator.{read_behind, read_operator, operator_bytes, put_bytes}
use Rattle.layout.specs.Mate.{mate}
use Rattle.check_items.specs.Rules.{solid_range, face_range, loop_range, half_range, vertex_range, rule1, solid_names}
use Rattle.check_items.specs.Rules.{face_names, loop_names, half_names, rule2, loop_either, rule3, half_links}
use Rattle.check_items.specs.Rules.{first_names}
use Rattle.check_items.specs.Rules.{half_in_loop, rule4, vertex_either, half_at_vertex, rule5, half_sides, face_linked}
use Rattle.check_items.specs.Rules.{rule6}
use Rattle.check_items.specs.Rules.{broken_rule}
use Rattle.table.specs.Sizes.{sizes_fit}
use Rattle.table.specs.Clear.{clear_of}
use Rattle.table.specs.Check.{check_of}
use Rattle.table.specs.Count.{item_used, tally_of}
use Rattle.text.specs.Decimal.{digits, decimal}
use Rattle.wavefront.specs.Obj.{passing_to, own_vertex, hundredths, millimetres, concat_map, vertex_line, lap}
use Rattle.wavefront.specs.Obj.{backwards}
use Rattle.wavefront.specs.Obj.{corner_word, face_line, obj_text, no_ring_nor_lone, three_sided, solid_refusal, fitted}
use Rattle.wavefront.specs.Obj.{obj_of}
use Rattle.euler.specs.Surgery.{corner, edge_in, edge_out, relabel, seek, renew}
use Rattle.euler.specs.EdgeOperators.{mev_links, kev_links, kef_links, kemr_links, semv_links, jekv_links}
use Rattle.euler.specs.FaceOperators.{mvsf_links, kvsf_test, kvsf_links, mfkrh_links, rmov_links}
use Rattle.euler.specs.Exec.{refusal_of, admit_of, range_refusal, use_refusals, use_refusal, use_word, condition}
use Rattle.euler.specs.Exec.{links_after}
use Rattle.euler.specs.Exec.{marks_after, points_after, killed_vertex, inverse}
use Rattle.euler.specs.Valence.{less_starts, more_starts}
use Rattle.runs.specs.Run.{inverse_bytes, carry_refusal, run_refusal, stepped, run_from, entry, run_of}
use Rattle.runs.specs.Move.{part_of, move_of}
use Rattle.takedown.specs.Inversion.{on_run, crossed, act, make_outer, move_rings, turn_b, turned, lacks_b, lacks}
use Rattle.takedown.specs.Inversion.{invert_by}
use Rattle.takedown.specs.Inversion.{invert_of}
use Rattle.sessions.specs.Session.{session_clear, session_undo, session_invert}
use Rattle.report.specs.Text.{field, answer_line, count_line, text_of}
use Rattle.evidence_slips.specs.Slip.{Slip, Differ, apart_differ}
use Rattle.evidence_slips.specs.RowsBytes.{byte_rows}
use Rattle.evidence_slips.specs.RowsRules.{rule_rows}
use Rattle.evidence_slips.specs.RowsOperators.{table_rows, edge_rows, valence_rows}
use Rattle.evidence_slips.specs.RowsRuns.{run_rows, session_rows}
use Rattle.evidence_slips.specs.RowsTakedown.{takedown_rows}
use Rattle.evidence_slips.specs.RowsTexts.{report_rows, obj_rows}

-- all rows
abbrev pub slips : List Slip
slips =
    byte_rows ++ rule_rows ++ table_rows ++ edge_rows ++ valence_rows ++ run_rows ++ session_rows ++ takedown_rows
    ++ report_rows ++ obj_rows

-- in each row what the definition says is not what it would say with the slip
pub slips_differ : Differ slips
unfolding run_of move_of part_of session_clear session_undo session_invert clear_of invert_of invert_by lacks lacks_b
    turned
    turn_b move_rings make_outer act crossed on_run entry check_of sizes_fit tally_of item_used broken_rule rule1 rule2
    rule3
    rule4 rule5 rule6 solid_range face_range loop_range half_range vertex_range solid_names face_names loop_names
    half_names
    loop_either half_links first_names half_in_loop vertex_either half_at_vertex half_sides face_linked all_to any_to
    least_from
    sum_to meets linkedb rounds pass across mate third second first read_number groups pattern rows in_ranges in_range
    zig
    zag wire unwire read_operand read_operands read_behind read_operator operand_bytes operands_bytes operator_bytes
    put_bytes
    inverse_bytes carry_refusal run_refusal stepped run_from refusal_of admit_of range_refusal use_refusals use_refusal
    use_word
    condition links_after marks_after less_starts more_starts points_after killed_vertex inverse corner edge_in edge_out
    relabel seek renew mvsf_links kvsf_test kvsf_links mev_links kev_links kef_links kemr_links mfkrh_links semv_links
    jekv_links rmov_links digits decimal passing_to own_vertex hundredths millimetres concat_map vertex_line lap
    backwards
    corner_word face_line obj_text no_ring_nor_lone three_sided solid_refusal fitted obj_of field answer_line count_line
    text_of
slips_differ = apart_differ slips tt
