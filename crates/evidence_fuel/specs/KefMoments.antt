-- Amid kef, in numbers: a triangle with a face on each side. Loop 2 has the half-edges 1, 3, 6, loop 1 has 2, 5, 4.
-- kef 6 kills loop 2 and keeps loop 1, that of half-edge 5: it passes 1, then 3.
use Rattle.std.specs.Prelude.{◌≡◌, refl, ◌≢◌, List, [], ◌∷◌, ℕ, zero, suc, ◌<◌, ℤ, pos}
use Rattle.std.proofs.Common.{arith}
use Rattle.laws.specs.Permutations.{iter}
use Rattle.laws.specs.Search.{all_to, least_from}
use Rattle.laws.specs.Sums.{sum_to}
use Rattle.laws.specs.Walks.{meets}
use Rattle.laws.specs.Closure.{across, pass, rounds, linkedb}
use Rattle.codec.specs.Operands.{pattern, rows, in_ranges, in_range, wire, zig}
use Rattle.layout.specs.declared.shape.Shape.{Shape}
use Rattle.layout.specs.Layout.{shape_of, next_of}
use Rattle.layout.specs.Mate.{mate}
use Rattle.check_items.specs.Rules.{solid_range, face_range, loop_range, half_range, vertex_range, rule1, solid_names}
use Rattle.check_items.specs.Rules.{face_names, loop_names, half_names, rule2, loop_either, rule3, half_links}
use Rattle.check_items.specs.Rules.{first_names}
use Rattle.check_items.specs.Rules.{half_in_loop, rule4, vertex_either, half_at_vertex, rule5, half_sides, face_linked}
use Rattle.check_items.specs.Rules.{rule6}
use Rattle.check_items.specs.Rules.{broken_rule}
use Rattle.table.specs.Sizes.{sizes_fit}
use Rattle.table.specs.Check.{check_of}
use Rattle.euler.specs.Surgery.{passed, relabel, relabel_run}
use Rattle.euler.specs.EdgeOperators.{kef_test}
use Rattle.euler.specs.Exec.{refusal_of, admit_of, range_refusal, use_refusals, use_refusal, use_word, condition}
use Rattle.sound_tables.specs.Good.{Good, marked}
use Rattle.sound_tables.specs.Walking.{Steps, steps_one}
use Rattle.sound_cuts.specs.KefAmid.{KefInPlace, amid_kef}
use Rattle.sound_cuts.proofs.KefInPlace.{kef_in_place}
use Rattle.promises.specs.Checked.{checked_good}

-- the links where half-edges 1, 3 and 6 name the loops a, b, c
abbrev links_with : ℕ → ℕ → ℕ → List ℕ
links_with a b c =
    1 ∷ 2 ∷ 2 ∷ 3 ∷ 3 ∷ 1 ∷ 1 ∷ 1 ∷ 1 ∷ 2 ∷ 1 ∷ 2 ∷ 0 ∷ 2 ∷ 1 ∷ 0 ∷ 1 ∷ a ∷ 3 ∷ 6 ∷ 2 ∷ 1 ∷ 5 ∷ 4 ∷ 2 ∷ b ∷ 6 ∷ 1
    ∷ 3 ∷ 1 ∷ 2 ∷ 5 ∷ 1 ∷ 1 ∷ 4 ∷ 2 ∷ 3 ∷ c ∷ 1 ∷ 3 ∷ 3 ∷ 3 ∷ 3 ∷ []

-- all of loop 2
abbrev links : List ℕ
links = links_with 2 2 2

abbrev points : List ℤ
points =
    pos 0 ∷ pos 0 ∷ pos 0 ∷ pos 100 ∷ pos 0 ∷ pos 0 ∷ pos 0 ∷ pos 100 ∷ pos 0 ∷ []

abbrev shape : Shape
shape = shape_of links

-- it is good
good : Good shape links points
unfolding check_of sizes_fit broken_rule rule1 rule2 rule3 rule4 rule5 rule6 solid_range face_range loop_range
    half_range
    vertex_range solid_names face_names loop_names half_names loop_either half_links first_names half_in_loop
    vertex_either
    half_at_vertex half_sides face_linked all_to least_from sum_to meets linkedb rounds pass across mate
good = checked_good links points refl

-- and kef 6 is accepted, so what is said of every such kef is said of it
pub kef_6 : KefInPlace shape links 6
unfolding refusal_of admit_of range_refusal pattern rows in_ranges in_range wire zig use_refusals use_refusal use_word
    condition
    kef_test sum_to mate
kef_6 = kef_in_place (marked good) 6 refl

-- the run is 1, 3
run_6 : Steps (next_of shape links) 1 6 2
unfolding iter
run_6 = record { at = refl; first = not_yet }
  where
    -- neither of them is 6
    not_yet : (t : ℕ) → t < 2 → iter (next_of shape links) t 1 ≢ 6
    not_yet zero h e = let q : ◌≡◌ {A = ℕ} 1 6 = e in omega (arith, q)
    not_yet (suc zero) h e = let q : ◌≡◌ {A = ℕ} 3 6 = e in omega (arith, q)
    not_yet (suc (suc t)) h e = absurd (omega arith)

-- and so long is what is passed
pub two_passed : kef_6.d ≡ 2
two_passed = steps_one (next_of shape links) 1 6 kef_6.d 2 kef_6.run run_6

-- before the first half-edge, behind 1, behind 3: every word
pub none_passed : amid_kef shape links 6 0 ≡ links
unfolding passed iter mate
none_passed = refl

pub one_passed : amid_kef shape links 6 1 ≡ links_with 1 2 2
unfolding passed iter mate
one_passed = refl

pub both_passed : amid_kef shape links 6 2 ≡ links_with 1 1 2
unfolding passed iter mate
both_passed = refl

-- which is what the walk leaves
pub walk_left : relabel_run shape links 1 6 1 ≡ links_with 1 1 2
unfolding relabel
walk_left = refl
