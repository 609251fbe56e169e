-- An instance that goes through the assumptions: the table of example d of document 01. Loop 1 has the half-edges 2, 3;
-- loop 2 has 1, 4.
use Rattle.std.specs.Prelude.{◌≡◌, refl, List, [], ◌∷◌, ℕ, ◌+◌, ◌*◌, ◌≤◌, ℤ, pos}
use Rattle.std.proofs.Common.{lit≤, arith}
use Rattle.laws.specs.Search.{all_to, least_from}
use Rattle.laws.specs.Sums.{sum_to}
use Rattle.laws.specs.Walks.{meets}
use Rattle.laws.specs.Closure.{across, pass, rounds, linkedb}
use Rattle.codec.specs.Operands.{pattern, rows, in_ranges, in_range, wire, zig}
use Rattle.script.specs.declared.Operator.{Operator}
use Rattle.layout.specs.declared.shape.Shape.{Shape}
use Rattle.layout.specs.Layout.{shape_of, next_of}
use Rattle.layout.specs.Mate.{mate}
use Rattle.check_items.specs.Rules.{solid_range, face_range, loop_range, half_range, vertex_range, rule1, solid_names}
use Rattle.check_items.specs.Rules.{face_names, loop_names, half_names, rule2, loop_either, rule3, half_links}
use Rattle.check_items.specs.Rules.{first_names}
use Rattle.check_items.specs.Rules.{half_in_loop, rule4, vertex_either, half_at_vertex, rule5, half_sides, face_linked}
use Rattle.check_items.specs.Rules.{rule6}
use Rattle.check_items.specs.Rules.{broken_rule}
use Rattle.table.specs.Sizes.{sizes_fit}
use Rattle.table.specs.Check.{check_of}
use Rattle.euler.specs.Surgery.{seek, first_from, relabel, relabel_run, passed, operator}
use Rattle.euler.specs.EdgeOperators.{kef_test}
use Rattle.euler.specs.Exec.{refusal_of, admit_of, range_refusal, use_refusals, use_refusal, use_word, condition}
use Rattle.euler.specs.Exec.{inverse}
use Rattle.sound_tables.specs.Sound.{HalfUsed}
use Rattle.sound_tables.specs.Good.{Good, own}
use Rattle.sound_tables.specs.Walking.{Steps}
use Rattle.sound_tables.specs.Passing.{RunPassed}
use Rattle.promises.specs.Checked.{checked_good}
use Rattle.evidence_fuel.specs.Walks.{LeastFuel, RelabelFuel, least_fuel, relabel_fuel}
use Rattle.evidence_fuel.specs.Amid.{relabel_amid, run_amid}
use Rattle.evidence_fuel.specs.Held.{HeldInRange, held_in_range}
use Rattle.evidence_fuel.specs.Inverse.{SmallOperator, inverse_small}

abbrev links : List ℕ
links =
    1 ∷ 2 ∷ 2 ∷ 2 ∷ 2 ∷ 1 ∷ 1 ∷ 1 ∷ 1 ∷ 2 ∷ 1 ∷ 2 ∷ 0 ∷ 2 ∷ 1 ∷ 0 ∷ 1 ∷ 2 ∷ 4 ∷ 4 ∷ 2 ∷ 1 ∷ 3 ∷ 3 ∷ 1 ∷ 1 ∷ 2 ∷ 2 ∷ 2
    ∷ 2 ∷ 1 ∷ 1 ∷ 3 ∷ 3 ∷ []

abbrev points : List ℤ
points = pos 0 ∷ pos 0 ∷ pos 0 ∷ pos 100 ∷ pos 0 ∷ pos 0 ∷ []

abbrev shape : Shape
shape = shape_of links

-- it is good
good : Good shape links points
unfolding check_of sizes_fit broken_rule rule1 rule2 rule3 rule4 rule5 rule6 solid_range face_range loop_range
    half_range
    vertex_range solid_names face_names loop_names half_names loop_either half_links first_names half_in_loop
    vertex_either
    half_at_vertex half_sides face_linked all_to least_from sum_to meets linkedb rounds pass across mate
good = checked_good links points refl

-- two half-edges in use, of one loop
used_1 : HalfUsed shape (own shape links) 1
used_1 = (lit≤ tt, lit≤ tt, omega arith)

used_4 : HalfUsed shape (own shape links) 4
used_4 = (lit≤ tt, lit≤ tt, omega arith)

-- the search for the first of loop 2, which has 4, from 1 on, and the half-edge that it finds
least_4 : LeastFuel shape links 1 4
least_4 = least_fuel good 4 used_4 1 (lit≤ tt)

least_is_1 : first_from shape links 2 1 4 ≡ 1
unfolding seek
least_is_1 = refl

-- the run from 1 to 4 given loop 1
run_1_4 : RelabelFuel shape links 1 4 1
run_1_4 = relabel_fuel good 1 used_1 4 1 used_4 refl

-- what the records hold
held : HeldInRange shape links
held = held_in_range good

-- kef 4 is accepted, and its inverse is small
abbrev kef_4 : Operator
kef_4 = operator 6 (4 ∷ [])

inverse_kef_4 : SmallOperator shape (inverse shape links points kef_4)
unfolding refusal_of admit_of range_refusal pattern rows in_ranges in_range wire zig use_refusals use_refusal use_word
    condition
    kef_test sum_to mate
inverse_kef_4 = inverse_small good kef_4 refl refl

-- and as amid an operator, the list standing for itself: the run from 4 to 1
amid_4 : (n : ℕ) → relabel shape (2 * shape.edges + n) links 4 1 1 ≡ relabel_run shape links 4 1 1
amid_4 = relabel_amid good links (λ i u. refl) 4 1 1 used_4 used_1 refl

-- half-edge by half-edge
passed_4 : (d : ℕ) × Steps (next_of shape links) 4 1 d
    × ((n : ℕ) → n ≤ d → RunPassed shape (own shape links) 4 1 n (passed shape n links 4 1))
passed_4 = run_amid good links (λ i u. refl) 4 1 1 used_4 used_1 refl good.fit
