-- An instance by computation, so that the promise is seen to speak of runs that do something: from an empty table, a
-- script with examples b and c of document 01, then one with example d and an operator that is refused; six bytes of
-- log, two more behind the start.
use Rattle.std.specs.Prelude.{◌≡◌, refl, List, [], ◌∷◌, ℕ, pos, replicate}
use Rattle.std.proofs.Common.{ap, ◌∙◌}
use Rattle.laws.specs.Search.{all_to, least_from}
use Rattle.laws.specs.Sums.{sum_to}
use Rattle.laws.specs.Walks.{meets}
use Rattle.laws.specs.Columns.{sweep}
use Rattle.laws.specs.Closure.{across, pass, rounds, linkedb}
use Rattle.numbers.specs.Number.{third, second, first, read_number, groups}
use Rattle.codec.specs.Operands.{pattern, rows, in_ranges, in_range, zig, zag, wire, unwire}
use Rattle.codec.specs.OperandBytes.{read_operand, read_operands, operand_bytes, operands_bytes}
use Rattle.script.specs.Operator.{read_behind, read_operator, operator_bytes, put_bytes}
use Rattle.layout.specs.Mate.{mate}
use Rattle.check_items.specs.Rules.{solid_range, face_range, loop_range, half_range, vertex_range, rule1, solid_names}
use Rattle.check_items.specs.Rules.{face_names, loop_names, half_names, rule2, loop_either, rule3, half_links}
use Rattle.check_items.specs.Rules.{first_names}
use Rattle.check_items.specs.Rules.{half_in_loop, rule4, vertex_either, half_at_vertex, rule5, half_sides, face_linked}
use Rattle.check_items.specs.Rules.{rule6}
use Rattle.check_items.specs.Rules.{broken_rule}
use Rattle.table.specs.Sizes.{sizes_fit}
use Rattle.table.specs.Check.{check_of}
use Rattle.euler.specs.Surgery.{corner, edge_in, edge_out, relabel, seek, renew}
use Rattle.euler.specs.EdgeOperators.{mev_links, kev_test, kev_links, mef_test, mef_links, kef_test, kef_links}
use Rattle.euler.specs.FaceOperators.{mvsf_links, kvsf_test, kvsf_links}
use Rattle.euler.specs.Exec.{admit_of, use_refusals, use_refusal, use_word, condition, links_after, points_after}
use Rattle.euler.specs.Exec.{marks_after}
use Rattle.euler.specs.Valence.{less_starts, more_starts}
use Rattle.euler.specs.Exec.{killed_vertex, inverse}
use Rattle.runs.specs.Run.{admit_read, inverse_bytes, carry_refusal, stepped, run_refusal, run_from, entry, run_of}
use Rattle.runs.specs.Move.{part_of, move_of}
use Rattle.sessions.specs.Session.{starts, session_run, session_undo, session_redo}
use Rattle.sessions.specs.Editing.{Editing, undone_from, redone_from}
use Rattle.promises.specs.Edits.{Edits, edit_all}
use Rattle.promises.specs.Promises.{undone_all}

-- an empty table of capacities 1, 2, 2, 2, 2, a log, and a redo log with something in it
abbrev begin : Editing
begin = record {
  links = 1 ∷ 2 ∷ 2 ∷ 2 ∷ 2 ∷ replicate 29 0;
  points = replicate 6 (pos 0);
  log = 11 ∷ 12 ∷ 13 ∷ 14 ∷ 15 ∷ 16 ∷ 17 ∷ 18 ∷ [];
  redo = replicate 28 99;
  session = starts 6 3;
}

-- it passes the check
pub begin_sound : (check_of begin.links begin.points).refusal ≡ 0
unfolding check_of sizes_fit broken_rule rule1 rule2 rule3 rule4 rule5 rule6 solid_range face_range loop_range
    half_range
    vertex_range solid_names face_names loop_names half_names loop_either half_links first_names half_in_loop
    vertex_either
    half_at_vertex half_sides face_linked all_to least_from sum_to meets linkedb rounds pass across mate
begin_sound = refl

-- b and c; then d, and an operator that is refused
abbrev scripts : List (List ℕ)
scripts =
    (1 ∷ 1 ∷ 1 ∷ 1 ∷ 1 ∷ 0 ∷ 0 ∷ 0 ∷ 3 ∷ 1 ∷ 0 ∷ 1 ∷ 2 ∷ 0 ∷ 200 ∷ 1 ∷ 0 ∷ 0 ∷ [])
    ∷ (5 ∷ 1 ∷ 1 ∷ 2 ∷ 2 ∷ 2 ∷ 2 ∷ 0 ∷ 2 ∷ 1 ∷ []) ∷ []

-- what undo puts into the redo log: the operators done, in the order in which they were run, in front of nothing
abbrev filled : List ℕ
filled = 99 ∷ 99 ∷ 1 ∷ 1 ∷ 1 ∷ 1 ∷ 1 ∷ 0 ∷ 0 ∷ 0 ∷ 3 ∷ 1 ∷ 0 ∷ 1 ∷ 2 ∷ 0 ∷ 200 ∷ 1 ∷ 0 ∷ 0 ∷ 5 ∷ 1 ∷ 1 ∷ 2 ∷ 2 ∷ 2 ∷ 2 ∷
    0 ∷ []

-- what the runs leave: the inverses of the three operators stand in the log, newest first, the redo log is emptied, and
-- two half-edges start at each vertex
abbrev ran : Editing
ran = record {
  links = 1 ∷ 2 ∷ 2 ∷ 2 ∷ 2 ∷ 1 ∷ 1 ∷ 1 ∷ 1 ∷ 2 ∷ 1 ∷ 2 ∷ 0 ∷ 2 ∷ 1 ∷ 0 ∷ 1 ∷ 2 ∷ 4 ∷ 4 ∷ 2 ∷ 1
      ∷ 3 ∷ 3 ∷ 1 ∷ 1 ∷ 2 ∷ 2 ∷ 2 ∷ 2 ∷ 1 ∷ 1 ∷ 3 ∷ 3 ∷ [];
  points = pos 0 ∷ pos 0 ∷ pos 0 ∷ pos 100 ∷ pos 0 ∷ pos 0 ∷ [];
  log = 6 ∷ 4 ∷ 4 ∷ 1 ∷ 2 ∷ 1 ∷ 17 ∷ 18 ∷ [];
  redo = replicate 28 99;
  session = starts 0 28;
}

-- and what undo by three leaves of that
abbrev back : Editing
back =
    record { links = begin.links; points = begin.points; log = ran.log; redo = filled; session = starts 6 2 }

-- and what redo by three leaves of that
abbrev again : Editing
again =
    record { links = ran.links; points = ran.points; log = ran.log; redo = filled; session = ran.session }

-- the three calls by computation
pub begin_calls : (edit_all begin scripts ≡ record { done = 3; last = ran }) × (undone_from ran 3 ≡ back)
    × (redone_from back 3 ≡ again)
unfolding check_of sizes_fit broken_rule rule1 rule2 rule3 rule4 rule5 rule6 solid_range face_range loop_range
    half_range
    vertex_range solid_names face_names loop_names half_names loop_either half_links first_names half_in_loop
    vertex_either
    half_at_vertex half_sides face_linked all_to least_from sum_to meets linkedb rounds pass across mate third second
    first
    read_number groups pattern rows in_ranges in_range zig zag wire unwire read_operand read_operands read_behind
    read_operator
    operand_bytes operands_bytes operator_bytes put_bytes corner edge_in edge_out relabel seek renew mvsf_links
    kvsf_test
    kvsf_links mev_links kev_test kev_links mef_test mef_links kef_test kef_links admit_of use_refusals use_refusal
    use_word
    condition links_after marks_after less_starts more_starts points_after killed_vertex inverse sweep admit_read
    inverse_bytes
    carry_refusal stepped run_refusal run_from entry run_of edit_all part_of move_of session_run session_undo
    session_redo
begin_calls = (refl, refl, refl)

-- undo by three gives back what there was
pub begin_undone : undone_all begin scripts ≡ back
begin_undone = ap (λ (r : Edits). undone_from r.last r.done) begin_calls.0 ∙ begin_calls.1

-- and redo by three what the runs left
pub begin_redone : redone_from (undone_all begin scripts) 3 ≡ again
begin_redone = ap (λ (e : Editing). redone_from e 3) begin_undone ∙ begin_calls.2
