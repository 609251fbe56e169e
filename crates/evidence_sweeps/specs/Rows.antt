-- THE SWEEP ON SMALL TABLES, by computation: its operators, its new numbers, each refusal with those that come before
-- it, and a call with every byte. What is said here is what the independent model answers: tests/model/sweep_rows.py
-- holds the tables and the rows to it.
use Rattle.std.specs.Prelude.{◌≡◌, refl, false, List, [], ◌∷◌, ℕ, ℤ, pos, negsuc}
use Rattle.laws.specs.Permutations.{iter}
use Rattle.laws.specs.Search.{all_to, any_to, least_from}
use Rattle.laws.specs.Sums.{sum_to}
use Rattle.laws.specs.Walks.{meets}
use Rattle.laws.specs.Closure.{across, pass, rounds, linkedb}
use Rattle.numbers.specs.Number.{third, second, first, read_number, groups}
use Rattle.codec.specs.Operands.{pattern, rows, in_ranges, in_range, zig, zag, wire, unwire}
use Rattle.codec.specs.OperandBytes.{read_operand, read_operands, operand_bytes, operands_bytes}
use Rattle.script.specs.declared.Operator.{Operator}
use Rattle.script.specs.Operator.{read_behind, read_operator, operator_bytes, put_bytes, write_script}
use Rattle.layout.specs.Layout.{shape_of}
use Rattle.layout.specs.Mate.{mate}
use Rattle.check_items.specs.Rules.{solid_range, face_range, loop_range, half_range, vertex_range, rule1, solid_names}
use Rattle.check_items.specs.Rules.{face_names, loop_names, half_names, rule2, loop_either, rule3, half_links}
use Rattle.check_items.specs.Rules.{first_names}
use Rattle.check_items.specs.Rules.{half_in_loop, rule4, vertex_either, half_at_vertex, rule5, half_sides, face_linked}
use Rattle.check_items.specs.Rules.{rule6}
use Rattle.check_items.specs.Rules.{broken_rule}
use Rattle.table.specs.Sizes.{sizes_fit}
use Rattle.table.specs.Check.{check_of}
use Rattle.euler.specs.Surgery.{corner, edge_in, relabel, seek, renew}
use Rattle.euler.specs.EdgeOperators.{mev_links, mef_test, mef_links}
use Rattle.euler.specs.Exec.{refusal_of, admit_of, range_refusal, use_refusals, use_refusal, use_word, condition}
use Rattle.euler.specs.Exec.{links_after}
use Rattle.euler.specs.Exec.{marks_after, points_after, killed_vertex, inverse}
use Rattle.euler.specs.Valence.{less_starts, more_starts}
use Rattle.runs.specs.Run.{inverse_bytes, carry_refusal, run_refusal, stepped, run_from, entry, run_of}
use Rattle.sessions.specs.Session.{starts, session_run}
use Rattle.chains.specs.Series.{series, joined}
use Rattle.chains.specs.Ranks.{nth_from, count_from}
use Rattle.chains.specs.Least.{is_least, all_least, LeastNew}
use Rattle.chains.specs.Runs.{room_for}
use Rattle.chains.specs.Whole.{answered, whole_of}
use Rattle.sweeps.specs.declared.Vector.{Vector}
use Rattle.sweeps.specs.Sweep.{vector, mev_at, mef_at, corners_in, corners_of, sweep_ops, sweep_refusal}
use Rattle.sweeps.specs.Swept.{Sweeps}
use Rattle.evidence_sweeps.specs.Tables.{lone, lone_at, spur, spur_at, round, round_at, path, path_at, ringed}
use Rattle.evidence_sweeps.specs.Tables.{ringed_at}
use Rattle.evidence_sweeps.specs.Tables.{turned, turned_at, others, others_at, far_beside, far_beside_at}
use Rattle.evidence_sweeps.specs.Tables.{lone_ring, lone_ring_at, few_faces, few_loops, few_edges, few_vertices}
use Rattle.evidence_sweeps.specs.Tables.{few_vertices_at}

-- five millimetres up
abbrev up : Vector
up = vector (pos 0) (pos 0) (pos 500)

-- the operators for face 1
abbrev lifting : List ℕ → List ℤ → List Operator
lifting x p = sweep_ops (shape_of x) x p 1 up

-- what is refused, with so many free bytes in the log
abbrev refusing : List ℕ → List ℤ → ℕ → ℕ → Vector → ℕ
refusing x p start f v = sweep_refusal (shape_of x) x p start f v

-- ---- operators

pub operators_as_said :
    -- two corners: two risers, then two sides, the last up to the first side's new edge
    (lifting spur spur_at
    ≡ mev_at 1 1 2 3 (pos 0) (pos 0) (pos 500) ∷ mev_at 1 2 3 4 (pos 10) (pos 0) (pos 500) ∷ mef_at 1 4 6 4 2 2 0
    ∷ mef_at 1 6 7 5 3 3 0 ∷ [])
    -- one corner: way 2
    × (lifting round round_at ≡ mev_at 1 1 2 2 (pos 0) (pos 0) (pos 500) ∷ mef_at 1 4 4 3 3 3 2 ∷ [])
    -- four corners, vertex 2 at two of them
    × (lifting path path_at
    ≡ mev_at 1 1 3 4 (pos 0) (pos 0) (pos 500) ∷ mev_at 1 3 4 5 (pos 10) (pos 0) (pos 500)
    ∷ mev_at 1 4 5 6 (pos 20) (pos 0) (pos 500) ∷ mev_at 1 2 6 7 (pos 10) (pos 0) (pos 500) ∷ mef_at 1 6 8 7 2 2 0
    ∷ mef_at 1 8 10 8 3 3 0 ∷ mef_at 1 10 12 9 4 4 0 ∷ mef_at 1 12 13 10 5 5 0 ∷ [])
    -- a ring after the outer loop; the free edges are 2, 4, 5 and on
    × (lifting ringed ringed_at
    ≡ mev_at 1 1 2 5 (pos 0) (pos 0) (pos 500) ∷ mev_at 1 2 4 6 (pos 10) (pos 0) (pos 500) ∷ mef_at 1 4 8 5 2 3 0
    ∷ mef_at 1 8 9 6 3 4 0 ∷ mev_at 2 5 7 7 (pos 40000) (pos 0) (pos 500)
    ∷ mev_at 2 6 8 8 (pos 40010) (pos 0) (pos 500) ∷ mef_at 2 14 16 9 4 5 0 ∷ mef_at 2 16 17 10 5 6 0 ∷ [])
    -- by number, also where the outer loop is not the first
    × (lifting turned turned_at
    ≡ mev_at 1 1 2 5 (pos 0) (pos 0) (pos 500) ∷ mev_at 1 2 4 6 (pos 10) (pos 0) (pos 500) ∷ mef_at 1 4 8 5 2 3 0
    ∷ mef_at 1 8 9 6 3 4 0 ∷ mev_at 2 5 7 7 (pos 40000) (pos 0) (pos 500)
    ∷ mev_at 2 6 8 8 (pos 40010) (pos 0) (pos 500) ∷ mef_at 2 14 16 9 4 5 0 ∷ mef_at 2 16 17 10 5 6 0 ∷ [])
unfolding sweep_ops corners_in corners_of series joined nth_from mate iter sum_to least_from
operators_as_said = (refl, refl, refl, refl, refl)

-- ---- new numbers

pub least_as_said :
    -- the first riser of the spur names edge 2 and vertex 3, the least that are free
    LeastNew (shape_of spur) spur (mev_at 1 1 2 3 (pos 0) (pos 0) (pos 500))
    -- edge 3 is not the least, nor is vertex 4
    × (all_least (shape_of spur) spur (mev_at 1 1 3 3 (pos 0) (pos 0) (pos 500)) (pattern 3).kinds 0 ≡ false)
    × (all_least (shape_of spur) spur (mev_at 1 1 2 4 (pos 0) (pos 0) (pos 500)) (pattern 3).kinds 0 ≡ false)
    -- of a mef: edge 2, face 2, loop 2; not edge 0, nor face 3, nor loop 3
    × LeastNew (shape_of spur) spur (mef_at 1 1 2 2 2 2 0)
    × (all_least (shape_of spur) spur (mef_at 1 1 2 0 2 2 0) (pattern 5).kinds 0 ≡ false)
    × (all_least (shape_of spur) spur (mef_at 1 1 2 2 3 2 0) (pattern 5).kinds 0 ≡ false)
    × (all_least (shape_of spur) spur (mef_at 1 1 2 2 2 3 0) (pattern 5).kinds 0 ≡ false)
unfolding is_least all_least pattern use_word mate least_from
least_as_said = (refl, refl, refl, refl, refl, refl, refl)

-- ---- refusals: each with all later ones due as well, as far as that can be

pub refusals_as_said :
    -- no face 0, none above the capacity, face 2 is free
    (refusing spur spur_at 0 0 (vector (pos 60000) (pos 0) (pos 0)) ≡ 5)
    × (refusing spur spur_at 0 4 (vector (pos 60000) (pos 0) (pos 0)) ≡ 5)
    × (refusing spur spur_at 0 2 (vector (pos 60000) (pos 0) (pos 0)) ≡ 6)
    -- a lone loop, as the outer loop and as a ring
    × (refusing lone lone_at 0 1 (vector (pos 60000) (pos 0) (pos 0)) ≡ 14)
    × (refusing lone_ring lone_ring_at 0 1 (vector (pos 60000) (pos 0) (pos 0)) ≡ 14)
    -- but not of another face
    × (refusing others others_at 8 1 (vector (pos 10000) (pos 0) (pos 0)) ≡ 0)
    -- a moved point of another face does not count, be it of this solid
    × (refusing far_beside far_beside_at 4 1 (vector (pos 20000) (pos 0) (pos 0)) ≡ 0)
    × (refusing far_beside far_beside_at 4 2 (vector (pos 20000) (pos 0) (pos 0)) ≡ 5)
    -- a moved point: of a ring alone; with too few numbers; the range's ends along each coordinate
    × (refusing ringed ringed_at 0 1 (vector (pos 20000) (pos 0) (pos 0)) ≡ 5)
    × (refusing few_faces spur_at 0 1 (vector (pos 60000) (pos 0) (pos 0)) ≡ 5)
    × (refusing spur spur_at 8 1 (vector (pos 49990) (pos 50000) (pos 50000)) ≡ 0)
    × (refusing spur spur_at 8 1 (vector (pos 49991) (pos 0) (pos 0)) ≡ 5)
    × (refusing spur spur_at 8 1 (vector (negsuc 49999) (negsuc 49999) (negsuc 49999)) ≡ 0)
    × (refusing spur spur_at 8 1 (vector (pos 0) (negsuc 50000) (pos 0)) ≡ 5)
    × (refusing spur spur_at 8 1 (vector (pos 0) (pos 0) (pos 50001)) ≡ 5)
    -- one number too few of each kind
    × (refusing few_faces spur_at 0 1 up ≡ 10) × (refusing few_loops spur_at 0 1 up ≡ 10)
    × (refusing few_edges spur_at 0 1 up ≡ 10) × (refusing few_vertices few_vertices_at 0 1 up ≡ 10)
    -- a log one byte too short; just long enough
    × (refusing spur spur_at 7 1 up ≡ 9) × (refusing spur spur_at 8 1 up ≡ 0)
unfolding groups operands_bytes operand_bytes pattern wire sweep_refusal room_for inverse operator_bytes count_from
    all_to
    any_to sweep_ops corners_in corners_of series joined nth_from mate iter sum_to least_from
refusals_as_said = (
  refl,
  refl,
  refl,
  refl,
  refl,
  refl,
  refl,
  refl,
  refl,
  refl,
  refl,
  refl,
  refl,
  refl,
  refl,
  refl,
  refl,
  refl,
  refl,
  refl,
  refl,
)

-- ---- a call

-- the round edge, with a log of nine bytes of which two are live and a redo log of five, of which two are: the answer
-- is 0 and two operators; the inverses, kef 6 and kev 3, stand below the old start, and the redo log is emptied
pub call_as_said : Sweeps round round_at (238 ∷ 238 ∷ 238 ∷ 238 ∷ 238 ∷ 238 ∷ 238 ∷ 17 ∷ 18 ∷ []) 5 (starts 7 3) 1
    (pos 1)
    (pos 2) (pos 3) (answered 0 0 2 (starts 3 5))
    (1 ∷ 3 ∷ 3 ∷ 3 ∷ 2 ∷ 1 ∷ 1 ∷ 1 ∷ 1 ∷ 2 ∷ 1 ∷ 3 ∷ 1 ∷ 5 ∷ 0 ∷ 2 ∷ 2 ∷ 0 ∷ 3 ∷ 1 ∷ 0 ∷ 1 ∷ 3 ∷ 3 ∷ 4 ∷ 1 ∷ 2 ∷ 2 ∷ 2
    ∷ 1 ∷ 3 ∷ 6 ∷ 1 ∷ 2 ∷ 3 ∷ 1 ∷ 6 ∷ 2 ∷ 1 ∷ 5 ∷ 5 ∷ 2 ∷ 3 ∷ 4 ∷ 3 ∷ 4 ∷ 4 ∷ [])
    (pos 0 ∷ pos 0 ∷ pos 0 ∷ pos 1 ∷ pos 2 ∷ pos 3 ∷ [])
    (238 ∷ 238 ∷ 238 ∷ 6 ∷ 6 ∷ 4 ∷ 3 ∷ 17 ∷ 18 ∷ [])
unfolding whole_of session_run run_of entry check_of sizes_fit broken_rule rule1 rule2 rule3 rule4 rule5 rule6
    solid_range
    face_range
    loop_range half_range vertex_range solid_names face_names loop_names half_names loop_either half_links first_names
    half_in_loop
    vertex_either half_at_vertex half_sides face_linked all_to any_to least_from sum_to meets linkedb rounds pass across
    mate
    third second first read_number groups pattern rows in_ranges in_range zig zag wire unwire read_operand read_operands
    read_behind read_operator operand_bytes operands_bytes operator_bytes put_bytes write_script inverse_bytes
    carry_refusal
    run_refusal stepped run_from refusal_of admit_of range_refusal use_refusals use_refusal use_word condition
    links_after
    marks_after less_starts more_starts points_after killed_vertex inverse corner edge_in relabel seek renew mev_links
    mef_test
    mef_links sweep_ops sweep_refusal room_for count_from corners_in corners_of series joined nth_from iter
call_as_said = refl
