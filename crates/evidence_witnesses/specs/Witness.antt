-- A witness for a clause of an operator's condition: a sound table and an operator that fails in this clause alone, is
-- refused with 8, and, carried out all the same, leaves a table that the check refuses (`breaks`), or a sound one, but
-- its inverse is undone by another operator (`strays`).
use Rattle.std.specs.Prelude.{ℕ, ◌≡◌, Bool, List, map, ℤ}
use Rattle.laws.specs.Search.{all_to, least_from}
use Rattle.laws.specs.Sums.{sum_to}
use Rattle.laws.specs.Walks.{meets}
use Rattle.laws.specs.Columns.{sweep}
use Rattle.laws.specs.Closure.{across, pass, rounds, linkedb}
use Rattle.script.specs.declared.Operator.{Operator}
use Rattle.codec.specs.Operands.{pattern, rows, in_ranges, in_range, wire, zig}
use Rattle.layout.specs.Layout.{shape_of}
use Rattle.layout.specs.Mate.{mate}
use Rattle.check_shells.specs.Shells.{within, joins, linked_by}
use Rattle.check_items.specs.Rules.{solid_range, face_range, loop_range, half_range, vertex_range, rule1, solid_names}
use Rattle.check_items.specs.Rules.{face_names, loop_names, half_names, rule2, loop_either, rule3, half_links}
use Rattle.check_items.specs.Rules.{first_names}
use Rattle.check_items.specs.Rules.{half_in_loop, rule4, vertex_either, half_at_vertex, rule5, half_sides, face_linked}
use Rattle.check_items.specs.Rules.{rule6}
use Rattle.check_items.specs.Rules.{broken_rule}
use Rattle.table.specs.declared.check.CheckAnswer.{CheckAnswer}
use Rattle.table.specs.Sizes.{sizes_fit}
use Rattle.table.specs.Check.{answer, check_of}
use Rattle.euler.specs.Surgery.{corner, edge_in, edge_out, relabel, seek, renew}
use Rattle.euler.specs.EdgeOperators.{mev_links, kev_test, kev_links, mef_test, mef_links, kef_test, kef_links}
use Rattle.euler.specs.EdgeOperators.{kemr_test}
use Rattle.euler.specs.EdgeOperators.{kemr_links, mekr_test, mekr_links, jekv_test, jekv_links}
use Rattle.euler.specs.FaceOperators.{kvsf_test, kvsf_links, kfmrh_test, kfmrh_links, linked_after, mfkrh_test}
use Rattle.euler.specs.FaceOperators.{mfkrh_links}
use Rattle.euler.specs.FaceOperators.{rmov_test, rmov_links}
use Rattle.euler.specs.Exec.{Table, refusal_of, admit_of, range_refusal, use_refusals, use_refusal, use_word, condition}
use Rattle.euler.specs.Exec.{marks_after, links_after, points_after, killed_vertex, inverse}
use Rattle.euler.specs.Valence.{less_starts, more_starts}
use Rattle.evidence_witnesses.specs.Clauses.{clauses_of}

-- what comes of the operator: what the check says of the table afterwards; and where it says that all is well, the
-- operator that undoes the inverse, which should be the one carried out
pub data Outcome : Type 0 where
  Checked : CheckAnswer → Outcome
  Again : CheckAnswer → Operator → Outcome

-- all that is shown of a witness: the check of its table, the refusal, the clauses by place, and what comes of it
pub record Shown : Type 0 where
  pub before : CheckAnswer
  pub refusal : ℕ
  pub clauses : List Bool
  pub outcome : Outcome

pub record Witness : Type 0 where
  pub table : Table
  pub operator : Operator
  pub wanted : Shown

-- ---- writing witnesses

abbrev pub table : List ℕ → List ℤ → Table
table x p = record { links = x; points = p }

-- an operator as its record: the code, the count of operands, and eight numbers
abbrev pub operation : ℕ → ℕ → List ℤ → Operator
operation code count args = record { code = code; count = count; args = args }

-- a sound table, an operator that these clauses refuse, and what comes of it
abbrev pub witness : Table → Operator → List Bool → Outcome → Witness
witness t o cs out =
    record {
      table = t;
      operator = o;
      wanted = record {
        before = answer 0 0;
        refusal = 8;
        clauses = cs;
        outcome =
            out;
      };
    }

-- the table left breaks a rule
abbrev pub breaks : Table → Operator → List Bool → ℕ → Witness
breaks t o cs rule = witness t o cs (Checked (answer 2 rule))

-- the table left is sound, but its inverse is undone by another operator
abbrev pub strays : Table → Operator → List Bool → Operator → Witness
strays t o cs other = witness t o cs (Again (answer 0 0) other)

-- ---- reading them

-- the table that the operator leaves, carried out all the same
abbrev pub forced : Table → Operator → Table
forced t o =
    table (links_after (shape_of t.links) t.links o) (points_after (shape_of t.links) t.links t.points o)

-- the operator that undoes o
abbrev pub undoing : Table → Operator → Operator
undoing t o = inverse (shape_of t.links) t.links t.points o

-- what the definitions say where this is wanted
abbrev pub outcome_of : Table → Operator → Outcome → Outcome
outcome_of t o (Checked a) = Checked (check_of (forced t o).links (forced t o).points)
outcome_of t o (Again a other) = Again (check_of (forced t o).links (forced t o).points)
    (undoing (forced t o) (undoing t o))

unfoldable pub shown : Witness → Shown
unfolding check_of sizes_fit broken_rule rule1 rule2 rule3 rule4 rule5 rule6 solid_range face_range loop_range
    half_range
    vertex_range solid_names face_names loop_names half_names loop_either half_links first_names half_in_loop
    vertex_either
    half_at_vertex half_sides face_linked all_to least_from sum_to meets linkedb rounds pass across mate within joins
    linked_by
    refusal_of admit_of range_refusal pattern rows in_ranges in_range wire zig use_refusals use_refusal use_word
    condition
    marks_after less_starts more_starts links_after points_after killed_vertex inverse corner edge_in edge_out relabel
    seek
    renew sweep kvsf_test kvsf_links mev_links kev_test kev_links mef_test mef_links kef_test kef_links kemr_test
    kemr_links
    mekr_test mekr_links kfmrh_test kfmrh_links linked_after mfkrh_test mfkrh_links jekv_test jekv_links rmov_test
    rmov_links
    clauses_of
shown w =
    record {
      before = check_of w.table.links w.table.points;
      refusal = refusal_of (shape_of w.table.links) w.table.links w.operator;
      clauses = clauses_of (shape_of w.table.links) w.table.links w.operator;
      outcome = outcome_of w.table w.operator w.wanted.outcome;
    }

-- the definitions say what the witnesses say
abbrev pub Hold : List Witness → Type 0
Hold ws = map shown ws ≡ map (λ w. w.wanted) ws
