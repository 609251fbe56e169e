-- The take-down computed beyond example e of document 01 (which crate evidence_cases has): a table whose edge 1 is a
-- bridge between two handles, so that the least crossed k is not the least k; a table that takes every other kind of
-- turn; two solids. And full tables: a torus of two edges with no number free: 10, with a start beyond the log 1; its
-- holes counted; one table for each kind of number that can lack, behind a step that is taken back, so that the table
-- stays and in front of the log's start stands what was logged; a byte less of log, which is told first; and two that
-- come down, one of which frees in time what it calls for.
use Rattle.std.specs.Prelude.{ℕ, ◌*◌, ◌≡◌, refl, List, [], ◌∷◌, ◌++◌, ℤ, pos, negsuc, replicate}
use Rattle.std.proofs.Common.{arith}
use Rattle.laws.specs.Search.{all_to, any_to, least_from, least}
use Rattle.laws.specs.Sums.{sum_to}
use Rattle.laws.specs.Walks.{meets}
use Rattle.laws.specs.Columns.{sweep}
use Rattle.laws.specs.Closure.{across, pass, rounds, linkedb}
use Rattle.numbers.specs.Number.{third, second, first, read_number, groups}
use Rattle.codec.specs.Operands.{pattern, rows, in_ranges, in_range, zig, zag, wire, unwire}
use Rattle.codec.specs.OperandBytes.{operand_bytes, operands_bytes}
use Rattle.script.specs.Operator.{operator_bytes, put_bytes}
use Rattle.layout.specs.Layout.{shape_of}
use Rattle.layout.specs.Mate.{mate}
use Rattle.check_shells.specs.Shells.{within, joins, linked_by}
use Rattle.check_items.specs.Rules.{solid_range, face_range, loop_range, half_range, vertex_range, rule1, solid_names}
use Rattle.check_items.specs.Rules.{face_names, loop_names, half_names, rule2, loop_either, rule3, half_links}
use Rattle.check_items.specs.Rules.{first_names}
use Rattle.check_items.specs.Rules.{half_in_loop, rule4, vertex_either, half_at_vertex, rule5, half_sides, face_linked}
use Rattle.check_items.specs.Rules.{rule6}
use Rattle.check_items.specs.Rules.{broken_rule}
use Rattle.table.specs.Sizes.{sizes_fit}
use Rattle.table.specs.Check.{answer, check_of}
use Rattle.table.specs.Count.{item_used, tally_of, counts, count_of}
use Rattle.euler.specs.Surgery.{corner, edge_in, edge_out, relabel, seek, renew}
use Rattle.euler.specs.EdgeOperators.{kev_links, kef_links, kemr_links, mekr_links}
use Rattle.euler.specs.FaceOperators.{kvsf_links, mfkrh_links, rmov_links}
use Rattle.euler.specs.Exec.{links_after, points_after, killed_vertex, inverse}
use Rattle.euler.specs.Exec.{marks_after}
use Rattle.euler.specs.Valence.{less_starts, more_starts}
use Rattle.runs.specs.Run.{state, inverse_bytes, stepped, entry}
use Rattle.inversion.specs.Promise.{OneHoles}
use Rattle.takedown.specs.Inversion.{Inverted, of_solid, crossed_half, on_run, crossed, act, make_outer, move_rings}
use Rattle.takedown.specs.Inversion.{turn_b}
use Rattle.takedown.specs.Inversion.{turned, lacks_b, lacks, invert_by, invert_of}

-- what is left
abbrev pub leaves : ℕ → ℕ → ℕ → List ℕ → List ℤ → List ℕ → Inverted
leaves refusal done start x p log =
    record {
      answer = record { refusal = refusal; rule = 0; done = done; start = start };
      links = x;
      points = p;
      log =
          log;
    }

-- ---- a bridge: one face, one loop 7 9 8 10 1 3 5 4 6 2 along next

abbrev links_bridge : List ℕ
links_bridge =
    1 ∷ 2 ∷ 2 ∷ 6 ∷ 2 ∷ 1 ∷ 1 ∷ 1 ∷ 0 ∷ 0 ∷ 1 ∷ 1 ∷ 0 ∷ 0 ∷ 0 ∷ 0 ∷ 1 ∷ 1 ∷ 3 ∷ 10 ∷ 2 ∷ 1 ∷ 7 ∷ 6 ∷ 2 ∷ 1 ∷ 5 ∷ 1 ∷ 2
    ∷ 1 ∷ 6 ∷ 5 ∷ 2 ∷ 1 ∷ 4 ∷ 3 ∷ 2 ∷ 1 ∷ 2 ∷ 4 ∷ 1 ∷ 1 ∷ 9 ∷ 2 ∷ 1 ∷ 1 ∷ 10 ∷ 9 ∷ 1 ∷ 1 ∷ 8
    ∷ 7 ∷ 1 ∷ 1 ∷ 1 ∷ 8 ∷ 0 ∷ 0 ∷ 0 ∷ 0 ∷ 0 ∷ 0 ∷ 0 ∷ 0 ∷ 6 ∷ 6 ∷ []

abbrev points_bridge : List ℤ
points_bridge = pos 10 ∷ pos 0 ∷ pos 0 ∷ pos 20 ∷ pos 0 ∷ pos 0 ∷ []

-- mvsf, mef, kfmrh, mekr, mev, mef, kfmrh, mekr: the inverses of kvsf 1, kef 9, mfkrh 2 2 0, kemr 7 2, kev 1, kef 5,
-- mfkrh 2 2 0, kemr 3 2
abbrev script_bridge : List ℕ
script_bridge =
    1 ∷ 1 ∷ 1 ∷ 1 ∷ 1 ∷ 20 ∷ 0 ∷ 0 ∷ 5 ∷ 1 ∷ 0 ∷ 0 ∷ 5 ∷ 2 ∷ 2 ∷ 1 ∷ 9 ∷ 1 ∷ 2 ∷ 8 ∷ 1 ∷ 10 ∷ 2 ∷ 9 ∷ 4 ∷ 0 ∷ 3 ∷ 1 ∷ 7
    ∷ 1 ∷ 2 ∷ 0 ∷ 40 ∷ 0 ∷ 0 ∷ 5 ∷ 1 ∷ 2 ∷ 2 ∷ 3 ∷ 2 ∷ 2 ∷ 1 ∷ 9 ∷ 1 ∷ 2 ∷ 8 ∷ 1 ∷ 6 ∷ 2 ∷ 5 ∷ 2 ∷ 0 ∷ []

-- ---- all kinds of turn but kev of a spur, which the bridge has: rmov 1 3 (the swap), rmov 3 2, kef 6; kemr 1 1,
-- mfkrh 1 1 0 (a face below the root, 2), kef 3; mekr 2 0 3 0 1 0, kev 1; kvsf 1

abbrev links_all : List ℕ
links_all =
    3 ∷ 4 ∷ 4 ∷ 4 ∷ 2 ∷ 1 ∷ 0 ∷ 0 ∷ 0 ∷ 0 ∷ 1 ∷ 2 ∷ 1 ∷ 3 ∷ 0 ∷ 0 ∷ 3 ∷ 6 ∷ 0 ∷ 2 ∷ 1 ∷ 0 ∷ 3 ∷ 0 ∷ 2 ∷ 0 ∷ 0 ∷ 0 ∷ 1
    ∷ 2 ∷ 3 ∷ 4 ∷ 1 ∷ 2 ∷ 5 ∷ 3 ∷ 1 ∷ 2 ∷ 2 ∷ 1 ∷ 1 ∷ 2 ∷ 1 ∷ 5 ∷ 1 ∷ 2 ∷ 4 ∷ 2 ∷ 1 ∷ 1 ∷ 6 ∷ 6 ∷ 0 ∷ 0 ∷ 0 ∷ 0 ∷ 0
    ∷ 0 ∷ 0 ∷ 0 ∷ 7 ∷ 1 ∷ []

abbrev points_all : List ℤ
points_all = negsuc 49999 ∷ pos 0 ∷ pos 50000 ∷ negsuc 49999 ∷ pos 50000 ∷ pos 0 ∷ []

abbrev script_all : List ℕ
script_all =
    1 ∷ 1 ∷ 2 ∷ 2 ∷ 1 ∷ 159 ∷ 141 ∷ 6 ∷ 0 ∷ 160 ∷ 141 ∷ 6 ∷ 3 ∷ 2 ∷ 0 ∷ 1 ∷ 2 ∷ 0 ∷ 159 ∷ 141 ∷ 6 ∷ 160 ∷ 141 ∷ 6 ∷ 0
    ∷ 7 ∷ 1 ∷ 3 ∷ 5 ∷ 2 ∷ 0 ∷ 0 ∷ 2 ∷ 1 ∷ 1 ∷ 1 ∷ 9 ∷ 2 ∷ 1 ∷ 8 ∷ 2 ∷ 4 ∷ 1 ∷ 3 ∷ 1 ∷ 0 ∷ 5 ∷ 2 ∷ 4 ∷ 4 ∷ 3 ∷ 3 ∷ 1
    ∷ 0 ∷ 13 ∷ 3 ∷ 3 ∷ 13 ∷ 3 ∷ 3 ∷ []

-- ---- two solids: rmov 2 1, kef 2, mfkrh 2 2 0, kef 4, mekr 6 0 5 0 1 0, kev 1, kvsf 1; kvsf 2

abbrev links_two : List ℕ
links_two =
    2 ∷ 5 ∷ 6 ∷ 3 ∷ 5 ∷ 1 ∷ 1 ∷ 1 ∷ 6 ∷ 0 ∷ 0 ∷ 1 ∷ 1 ∷ 2 ∷ 4 ∷ 0 ∷ 0 ∷ 3 ∷ 2 ∷ 0 ∷ 3 ∷ 4 ∷ 0 ∷ 0 ∷ 0 ∷ 0 ∷ 4 ∷ 0 ∷ 3
    ∷ 1 ∷ 1 ∷ 0 ∷ 1 ∷ 3 ∷ 0 ∷ 5 ∷ 5 ∷ 1 ∷ 1 ∷ 5 ∷ 1 ∷ 2 ∷ 2 ∷ 4 ∷ 6 ∷ 3 ∷ 3 ∷ 4 ∷ 2 ∷ 4 ∷ 4 ∷ 0 ∷ 0 ∷ 0 ∷ 0 ∷ 0 ∷ 0
    ∷ 0 ∷ 0 ∷ 0 ∷ 0 ∷ 1 ∷ 3 ∷ 3 ∷ []

abbrev points_two : List ℤ
points_two = pos 0 ∷ pos 0 ∷ pos 0 ∷ pos 0 ∷ pos 0 ∷ pos 0 ∷ pos 18893 ∷ pos 50000 ∷ pos 29460 ∷ pos 8983 ∷ pos 0
    ∷ negsuc 23450 ∷ pos 29636 ∷ pos 50000 ∷ pos 0 ∷ []

abbrev script_two : List ℕ
script_two =
    1 ∷ 2 ∷ 4 ∷ 4 ∷ 3 ∷ 154 ∷ 167 ∷ 2 ∷ 160 ∷ 141 ∷ 6 ∷ 168 ∷ 204 ∷ 3 ∷ 1 ∷ 1 ∷ 1 ∷ 6 ∷ 4 ∷ 174 ∷ 140 ∷ 1 ∷ 0 ∷ 181
    ∷ 238 ∷ 2 ∷ 3 ∷ 6 ∷ 0 ∷ 1 ∷ 5 ∷ 0 ∷ 136 ∷ 207 ∷ 3 ∷ 160 ∷ 141 ∷ 6 ∷ 0 ∷ 7 ∷ 1 ∷ 5 ∷ 5 ∷ 6 ∷ 0 ∷ 0 ∷ 2 ∷ 2 ∷ 2
    ∷ 0 ∷ 9 ∷ 1 ∷ 2 ∷ 5 ∷ 5 ∷ 0 ∷ 0 ∷ 1 ∷ 3 ∷ 1 ∷ 0 ∷ 13 ∷ 2 ∷ 3 ∷ []

-- ---- a torus of two edges that fills its table: one loop 1 3 2 4 along next

abbrev links_full : List ℕ
links_full = 1 ∷ 1 ∷ 1 ∷ 2 ∷ 1 ∷ 1 ∷ 1 ∷ 1 ∷ 1 ∷ 1 ∷ 0 ∷ 1 ∷ 1 ∷ 3 ∷ 4 ∷ 1 ∷ 1 ∷ 4 ∷ 3 ∷ 1 ∷ 1 ∷ 2 ∷ 1 ∷ 1 ∷ 1 ∷ 1 ∷ 2
    ∷ 5 ∷ []

-- ---- other full tables (document 02, job 6)

-- a face lacks behind kemr 1 2: then mfkrh of the new ring calls for one
abbrev links_face : List ℕ
links_face =
    1 ∷ 1 ∷ 2 ∷ 2 ∷ 1 ∷ 1 ∷ 1 ∷ 1 ∷ 1 ∷ 1 ∷ 0 ∷ 0 ∷ 0 ∷ 0 ∷ 1 ∷ 1 ∷ 3 ∷ 4 ∷ 1 ∷ 1 ∷ 4 ∷ 3 ∷ 1 ∷ 1 ∷ 2 ∷ 1 ∷ 1 ∷ 1
    ∷ 1 ∷ 2 ∷ 5 ∷ []

abbrev points_face : List ℤ
points_face = pos 10 ∷ negsuc 19 ∷ pos 30 ∷ []

abbrev logged_face : List ℕ
logged_face = 8 ∷ 1 ∷ 4 ∷ 2 ∷ 3 ∷ 1 ∷ 0 ∷ []

-- a loop lacks behind kev 5: then kemr calls for one
abbrev links_loop : List ℕ
links_loop =
    1 ∷ 1 ∷ 1 ∷ 3 ∷ 2 ∷ 1 ∷ 1 ∷ 1 ∷ 1 ∷ 1 ∷ 0 ∷ 1 ∷ 1 ∷ 3 ∷ 6 ∷ 1 ∷ 1 ∷ 4 ∷ 3 ∷ 1 ∷ 1 ∷ 2 ∷ 1 ∷ 1 ∷ 1 ∷ 5 ∷ 2 ∷ 1
    ∷ 1 ∷ 6 ∷ 4 ∷ 2 ∷ 1 ∷ 1 ∷ 5 ∷ 6 ∷ 2 ∷ []

-- two corners
abbrev points_pair : List ℤ
points_pair = pos 10 ∷ negsuc 19 ∷ pos 30 ∷ negsuc 0 ∷ pos 2 ∷ negsuc 2 ∷ []

abbrev logged_loop : List ℕ
logged_loop = 3 ∷ 1 ∷ 1 ∷ 3 ∷ 2 ∷ 0 ∷ 1 ∷ 4 ∷ 5 ∷ []

-- an edge lacks at the second of three solids, behind kvsf 1: mekr calls for one
abbrev links_edge : List ℕ
links_edge =
    3 ∷ 3 ∷ 4 ∷ 1 ∷ 5 ∷ 1 ∷ 1 ∷ 1 ∷ 1 ∷ 1 ∷ 2 ∷ 2 ∷ 3 ∷ 4 ∷ 1 ∷ 0 ∷ 3 ∷ 2 ∷ 0 ∷ 4 ∷ 2 ∷ 0 ∷ 5 ∷ 3 ∷ 1 ∷ 0 ∷ 1 ∷ 4
    ∷ 2 ∷ 2 ∷ 2 ∷ 4 ∷ 1 ∷ 1 ∷ 2 ∷ 2 ∷ 1 ∷ 1 ∷ 1 ∷ []

abbrev points_edge : List ℤ
points_edge =
    pos 10 ∷ negsuc 19 ∷ pos 30 ∷ negsuc 0 ∷ pos 2 ∷ negsuc 2 ∷ pos 0 ∷ pos 7 ∷ pos 0 ∷ pos 4 ∷ pos 5 ∷ pos 6
    ∷ pos 100 ∷ pos 0 ∷ pos 0 ∷ []

abbrev logged_edge : List ℕ
logged_edge = 1 ∷ 1 ∷ 1 ∷ 1 ∷ 3 ∷ 0 ∷ 14 ∷ 0 ∷ []

-- a sheet of two edges and two faces that fills its table, and comes down by kef, kev and kvsf
abbrev links_sheet : List ℕ
links_sheet =
    1 ∷ 2 ∷ 2 ∷ 2 ∷ 2 ∷ 1 ∷ 1 ∷ 1 ∷ 1 ∷ 2 ∷ 1 ∷ 2 ∷ 0 ∷ 2 ∷ 1 ∷ 0 ∷ 1 ∷ 2 ∷ 4 ∷ 4 ∷ 2 ∷ 1 ∷ 3 ∷ 3 ∷ 1 ∷ 1 ∷ 2 ∷ 2
    ∷ 2 ∷ 2 ∷ 1 ∷ 1 ∷ 3 ∷ 3 ∷ []

abbrev logged_sheet : List ℕ
logged_sheet =
    1 ∷ 1 ∷ 1 ∷ 1 ∷ 1 ∷ 20 ∷ 39 ∷ 60 ∷ 3 ∷ 1 ∷ 0 ∷ 2 ∷ 2 ∷ 0 ∷ 1 ∷ 4 ∷ 5 ∷ 5 ∷ 1 ∷ 4 ∷ 3 ∷ 1 ∷ 2 ∷ 2 ∷ 1 ∷ []

-- a vertex and a torus that fill theirs: kvsf 1 frees the loop and the face that the torus calls for
abbrev links_freed : List ℕ
links_freed =
    2 ∷ 2 ∷ 2 ∷ 2 ∷ 2 ∷ 1 ∷ 1 ∷ 1 ∷ 1 ∷ 2 ∷ 2 ∷ 1 ∷ 0 ∷ 2 ∷ 2 ∷ 1 ∷ 0 ∷ 1 ∷ 2 ∷ 3 ∷ 4 ∷ 1 ∷ 2 ∷ 4 ∷ 3 ∷ 1 ∷ 2 ∷ 2
    ∷ 1 ∷ 1 ∷ 2 ∷ 1 ∷ 2 ∷ 5 ∷ 1 ∷ []

abbrev logged_freed : List ℕ
logged_freed =
    1 ∷ 2 ∷ 2 ∷ 2 ∷ 1 ∷ 20 ∷ 39 ∷ 60 ∷ 5 ∷ 2 ∷ 0 ∷ 0 ∷ 2 ∷ 1 ∷ 1 ∷ 1 ∷ 9 ∷ 2 ∷ 1 ∷ 8 ∷ 2 ∷ 4 ∷ 1 ∷ 3 ∷ 1 ∷ 0 ∷ 1 ∷ 1
    ∷ 1 ∷ 1 ∷ 2 ∷ 1 ∷ 4 ∷ 5 ∷ []

-- ---- the rows: a state, and all that is left

abbrev pub asked : List Inverted
asked =
    invert_of (state links_bridge points_bridge (replicate 152 238) 152)
    ∷ invert_of (state links_all points_all (replicate 171 238) 171)
    ∷ invert_of (state links_two points_two (replicate 228 238) 228)
    ∷ invert_of (state links_full (replicate 3 (pos 0)) (replicate 114 238) 114)
    ∷ invert_of (state links_full (replicate 3 (pos 0)) (replicate 114 238) 115)
    ∷ invert_of (state links_face points_face (replicate 76 238) 76)
    ∷ invert_of (state links_loop points_pair (replicate 95 238) 95)
    ∷ invert_of (state links_edge points_edge (replicate 133 238) 133)
    ∷ invert_of (state links_sheet points_pair (replicate 76 238) 76)
    ∷ invert_of (state links_freed points_pair (replicate 95 238) 95)
    ∷ invert_of (state links_face points_face (replicate 76 238) 75) ∷ []

abbrev pub wanted : List Inverted
wanted =
    leaves 0 8 99 (1 ∷ 2 ∷ 2 ∷ 6 ∷ 2 ∷ replicate 61 0) (replicate 6 (pos 0)) (replicate 99 238 ++ script_bridge)
    ∷ leaves 0 9 111 (3 ∷ 4 ∷ 4 ∷ 4 ∷ 2 ∷ replicate 57 0) (replicate 6 (pos 0)) (replicate 111 238 ++ script_all)
    ∷ leaves 0 8 164 (2 ∷ 5 ∷ 6 ∷ 3 ∷ 5 ∷ replicate 59 0) (replicate 15 (pos 0)) (replicate 164 238 ++ script_two)
    ∷ leaves 10 0 114 links_full (replicate 3 (pos 0)) (replicate 114 238)
    ∷ leaves 1 0 115 links_full (replicate 3 (pos 0)) (replicate 114 238)
    ∷ leaves 10 0 76 links_face points_face (replicate 69 238 ++ logged_face)
    ∷ leaves 10 0 95 links_loop points_pair (replicate 86 238 ++ logged_loop)
    ∷ leaves 10 0 133 links_edge points_edge (replicate 125 238 ++ logged_edge)
    ∷ leaves 0 3 51 (1 ∷ 2 ∷ 2 ∷ 2 ∷ 2 ∷ replicate 29 0) (replicate 6 (pos 0)) (replicate 51 238 ++ logged_sheet)
    ∷ leaves 0 5 61 (2 ∷ 2 ∷ 2 ∷ 2 ∷ 2 ∷ replicate 30 0) (replicate 6 (pos 0)) (replicate 61 238 ++ logged_freed)
    ∷ leaves 9 0 75 links_face points_face (replicate 76 238) ∷ []

pub rows_hold : asked ≡ wanted
unfolding invert_of invert_by lacks lacks_b turned turn_b move_rings make_outer act crossed on_run entry check_of
    sizes_fit
    tally_of item_used broken_rule rule1 rule2 rule3 rule4 rule5 rule6 solid_range face_range loop_range half_range
    vertex_range solid_names face_names loop_names half_names loop_either half_links first_names half_in_loop
    vertex_either
    half_at_vertex half_sides face_linked all_to any_to least_from sum_to meets linkedb rounds pass across mate within
    joins
    linked_by third second first read_number groups pattern rows in_ranges in_range zig zag wire unwire operand_bytes
    operands_bytes operator_bytes put_bytes inverse_bytes stepped links_after marks_after less_starts more_starts
    points_after
    killed_vertex inverse corner edge_in edge_out relabel seek renew sweep kvsf_links kev_links kef_links kemr_links
    mekr_links mfkrh_links rmov_links
rows_hold = refl

-- the full one counted: one solid, face, loop and vertex, two edges, no ring, one hole
pub full_counted : count_of links_full (replicate 3 (pos 0)) ≡ counts 0 0 1 1 1 2 1 0 1
unfolding check_of sizes_fit broken_rule rule1 rule2 rule3 rule4 rule5 rule6 solid_range face_range loop_range
    half_range
    vertex_range solid_names face_names loop_names half_names loop_either half_links first_names half_in_loop
    vertex_either
    half_at_vertex half_sides face_linked all_to least_from sum_to meets linkedb rounds pass across mate count_of
    tally_of
    item_used
full_counted = refl

-- ---- holes are not just the rest: two tables that fail the check, and for which no h fits the formula

-- capacities 1, 1, 1, 1, 2, two vertices in use and nothing else: h would be −1
abbrev links_stray : List ℕ
links_stray = 1 ∷ 1 ∷ 1 ∷ 1 ∷ 2 ∷ replicate 14 0 ++ (1 ∷ 1 ∷ [])

-- capacities 1, an edge in use and nothing else: h would be a half
abbrev links_loose : List ℕ
links_loose = 1 ∷ 1 ∷ 1 ∷ 1 ∷ 1 ∷ replicate 6 0 ++ (replicate 8 1 ++ (0 ∷ []))

-- the first breaks rule 5, and has no number of holes
pub stray_none : (check_of links_stray (replicate 6 (pos 0)) ≡ answer 2 5) × (OneHoles links_stray → ⊥)
unfolding check_of sizes_fit broken_rule rule1 rule2 rule3 rule4 rule5 solid_range face_range loop_range half_range
    vertex_range
    solid_names face_names loop_names half_names loop_either half_links first_names half_in_loop vertex_either
    half_at_vertex all_to
    least_from sum_to meets mate item_used
stray_none = (refl, λ o. omega (arith, o.formula))

-- the second breaks rule 2, and has none either
pub loose_none : (check_of links_loose (replicate 3 (pos 0)) ≡ answer 2 2) × (OneHoles links_loose → ⊥)
unfolding check_of sizes_fit broken_rule rule1 rule2 solid_range face_range loop_range half_range vertex_range
    solid_names
    face_names loop_names half_names all_to least_from sum_to mate item_used
loose_none = (refl, λ o. omega (arith, o.formula))

-- ---- the crossing test has something to say: of the bridge's solid the least half-edge is 1, and the least crossed
-- one is 3

pub bridge_crossed : (least (2 * 6) (of_solid (shape_of links_bridge) links_bridge 1) ≡ 1)
    × (crossed_half (shape_of links_bridge) links_bridge 1 ≡ 3)
unfolding least_from crossed on_run any_to mate
bridge_crossed = (refl, refl)
