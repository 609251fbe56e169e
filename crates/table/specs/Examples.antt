-- Small tables that the check refuses, four with 1 and at least two for each rule, as rows of one list under one
-- theorem, by computation. (Sound tables, those of document 01's examples, are checked and counted in crate
-- evidence_cases.)
use Rattle.std.specs.Prelude.{◌≡◌, refl, Bool, true, ◌&&◌, List, [], ◌∷◌, ℕ, eqb, ℤ, pos}
use Rattle.laws.specs.Search.{all_to, least_from}
use Rattle.laws.specs.Sums.{sum_to}
use Rattle.laws.specs.Walks.{meets}
use Rattle.laws.specs.Closure.{across, pass, rounds, linkedb}
use Rattle.layout.specs.Mate.{mate}
use Rattle.check_items.specs.Rules.{solid_range, face_range, loop_range, half_range, vertex_range, rule1, solid_names}
use Rattle.check_items.specs.Rules.{face_names, loop_names, half_names, rule2, loop_either, rule3, half_links}
use Rattle.check_items.specs.Rules.{first_names}
use Rattle.check_items.specs.Rules.{half_in_loop, rule4, vertex_either, half_at_vertex, rule5, half_sides, face_linked}
use Rattle.check_items.specs.Rules.{rule6}
use Rattle.check_items.specs.Rules.{broken_rule}
use Rattle.table.specs.Sizes.{sizes_fit}
use Rattle.table.specs.Check.{check_of}

-- a table and what the check is to answer
pub record Row : Type 0 where
  pub links : List ℕ
  pub points : List ℤ
  pub refusal : ℕ
  pub rule : ℕ

abbrev row : List ℕ → List ℤ → ℕ → ℕ → Row
row x p refusal rule = record { links = x; points = p; refusal = refusal; rule = rule }

abbrev zero_points : List ℤ
zero_points = pos 0 ∷ pos 0 ∷ pos 0 ∷ pos 0 ∷ pos 0 ∷ pos 0 ∷ []

-- each with the refusal and the rule
abbrev pub tables : List Row
tables =
    -- no links at all
    row ([]) ([]) 1 0
    -- one word too many
    ∷ row (1 ∷ 2 ∷ 2 ∷ 2 ∷ 2 ∷ 1 ∷ 1 ∷ 1 ∷ 0 ∷ 0 ∷ 1 ∷ 0 ∷ 1 ∷ 0 ∷ 0 ∷ 0 ∷ 0 ∷ 0 ∷ 0 ∷ 0 ∷ 0 ∷ 0 ∷ 0 ∷ 0 ∷ 0 ∷ 0 ∷ 0 ∷ 0
    ∷ 0 ∷ 0 ∷ 0 ∷ 0 ∷ 1 ∷ 0 ∷ 0 ∷ []) zero_points 1 0
    -- one coordinate too few
    ∷ row (1 ∷ 2 ∷ 2 ∷ 2 ∷ 2 ∷ 1 ∷ 1 ∷ 1 ∷ 0 ∷ 0 ∷ 1 ∷ 0 ∷ 1 ∷ 0 ∷ 0 ∷ 0 ∷ 0 ∷ 0 ∷ 0 ∷ 0 ∷ 0 ∷ 0 ∷ 0 ∷ 0 ∷ 0 ∷ 0 ∷ 0 ∷ 0
    ∷ 0 ∷ 0 ∷ 0 ∷ 0 ∷ 1 ∷ 0 ∷ []) (pos 0 ∷ pos 0 ∷ pos 0 ∷ pos 0 ∷ pos 0 ∷ []) 1 0
    -- no capacity for solids
    ∷ row (0 ∷ 1 ∷ 1 ∷ 1 ∷ 1 ∷ 0 ∷ 0 ∷ 0 ∷ 0 ∷ 0 ∷ 0 ∷ 0 ∷ 0 ∷ 0 ∷ 0 ∷ 0 ∷ 0 ∷ 0 ∷ 0 ∷ []) (pos 0 ∷ pos 0 ∷ pos 0
    ∷ []) 1 0
    -- rule 1: a solid whose mark is 2
    ∷ row (1 ∷ 1 ∷ 1 ∷ 1 ∷ 1 ∷ 2 ∷ 0 ∷ 0 ∷ 0 ∷ 0 ∷ 0 ∷ 0 ∷ 0 ∷ 0 ∷ 0 ∷ 0 ∷ 0 ∷ 0 ∷ 0 ∷ 0 ∷ []) (pos 0 ∷ pos 0 ∷ pos 0
    ∷ []) 2 1
    -- rule 1: a free vertex with a point
    ∷ row (1 ∷ 1 ∷ 1 ∷ 1 ∷ 1 ∷ 1 ∷ 1 ∷ 1 ∷ 1 ∷ 0 ∷ 1 ∷ 0 ∷ 0 ∷ 0 ∷ 0 ∷ 0 ∷ 0 ∷ 0 ∷ 0 ∷ 0 ∷ []) (pos 0 ∷ pos 5 ∷ pos 0
    ∷ []) 2 1
    -- rule 1: a coordinate of 50,001
    ∷ row (1 ∷ 1 ∷ 1 ∷ 1 ∷ 1 ∷ 1 ∷ 1 ∷ 1 ∷ 1 ∷ 0 ∷ 1 ∷ 0 ∷ 0 ∷ 0 ∷ 0 ∷ 0 ∷ 0 ∷ 0 ∷ 0 ∷ 1 ∷ []) (pos 50001 ∷ pos 0
    ∷ pos 0 ∷ []) 2 1
    -- rule 1: one half of an edge
    ∷ row (1 ∷ 1 ∷ 1 ∷ 1 ∷ 1 ∷ 1 ∷ 1 ∷ 1 ∷ 1 ∷ 1 ∷ 0 ∷ 1 ∷ 1 ∷ 1 ∷ 1 ∷ 0 ∷ 0 ∷ 0 ∷ 0 ∷ 2 ∷ []) (pos 0 ∷ pos 0 ∷ pos 0
    ∷ []) 2 1
    -- rule 2: a solid without a face
    ∷ row (1 ∷ 1 ∷ 1 ∷ 1 ∷ 1 ∷ 1 ∷ 0 ∷ 0 ∷ 0 ∷ 0 ∷ 0 ∷ 0 ∷ 0 ∷ 0 ∷ 0 ∷ 0 ∷ 0 ∷ 0 ∷ 0 ∷ 0 ∷ []) (pos 0 ∷ pos 0 ∷ pos 0
    ∷ []) 2 2
    -- rule 2: an outer loop that names another face
    ∷ row (1 ∷ 2 ∷ 1 ∷ 1 ∷ 1 ∷ 1 ∷ 1 ∷ 1 ∷ 1 ∷ 1 ∷ 1 ∷ 0 ∷ 1 ∷ 0 ∷ 0 ∷ 0 ∷ 0 ∷ 0 ∷ 0 ∷ 0 ∷ 0 ∷ 1 ∷ []) (pos 0 ∷ pos 0
    ∷ pos 0 ∷ []) 2 2
    -- rule 2: a vertex that is named, and its word is 0
    ∷ row (1 ∷ 1 ∷ 1 ∷ 1 ∷ 1 ∷ 1 ∷ 1 ∷ 1 ∷ 1 ∷ 0 ∷ 1 ∷ 0 ∷ 0 ∷ 0 ∷ 0 ∷ 0 ∷ 0 ∷ 0 ∷ 0 ∷ 0 ∷ []) (pos 0 ∷ pos 0 ∷ pos 0
    ∷ []) 2 2
    -- rule 3: a loop with neither
    ∷ row (1 ∷ 1 ∷ 1 ∷ 1 ∷ 1 ∷ 1 ∷ 1 ∷ 1 ∷ 1 ∷ 0 ∷ 0 ∷ 0 ∷ 0 ∷ 0 ∷ 0 ∷ 0 ∷ 0 ∷ 0 ∷ 0 ∷ 0 ∷ []) (pos 0 ∷ pos 0 ∷ pos 0
    ∷ []) 2 3
    -- rule 3: a loop with both
    ∷ row (1 ∷ 1 ∷ 1 ∷ 1 ∷ 1 ∷ 1 ∷ 1 ∷ 1 ∷ 1 ∷ 1 ∷ 1 ∷ 1 ∷ 1 ∷ 1 ∷ 1 ∷ 1 ∷ 1 ∷ 2 ∷ 2 ∷ 3 ∷ []) (pos 0 ∷ pos 0 ∷ pos 0
    ∷ []) 2 3
    -- rule 4: two cycles in one loop
    ∷ row (1 ∷ 1 ∷ 1 ∷ 1 ∷ 1 ∷ 1 ∷ 1 ∷ 1 ∷ 1 ∷ 1 ∷ 0 ∷ 1 ∷ 1 ∷ 1 ∷ 1 ∷ 1 ∷ 1 ∷ 2 ∷ 2 ∷ 3 ∷ []) (pos 0 ∷ pos 0 ∷ pos 0
    ∷ []) 2 4
    -- rule 4: first is not the least
    ∷ row (1 ∷ 1 ∷ 1 ∷ 1 ∷ 1 ∷ 1 ∷ 1 ∷ 1 ∷ 1 ∷ 2 ∷ 0 ∷ 1 ∷ 1 ∷ 2 ∷ 2 ∷ 1 ∷ 1 ∷ 1 ∷ 1 ∷ 3 ∷ []) (pos 0 ∷ pos 0 ∷ pos 0
    ∷ []) 2 4
    -- rule 5: an isolated vertex whose word is 2
    ∷ row (1 ∷ 1 ∷ 1 ∷ 1 ∷ 1 ∷ 1 ∷ 1 ∷ 1 ∷ 1 ∷ 0 ∷ 1 ∷ 0 ∷ 0 ∷ 0 ∷ 0 ∷ 0 ∷ 0 ∷ 0 ∷ 0 ∷ 2 ∷ []) (pos 0 ∷ pos 0 ∷ pos 0
    ∷ []) 2 5
    -- rule 5: two half-edges start at a vertex whose word is 2
    ∷ row (1 ∷ 2 ∷ 2 ∷ 1 ∷ 1 ∷ 1 ∷ 1 ∷ 1 ∷ 1 ∷ 2 ∷ 1 ∷ 1 ∷ 0 ∷ 2 ∷ 2 ∷ 0 ∷ 1 ∷ 1 ∷ 1 ∷ 1 ∷ 1 ∷ 2 ∷ 2 ∷ 2 ∷ 2
    ∷ []) (pos 0 ∷ pos 0 ∷ pos 0 ∷ []) 2 5
    -- rule 5: two cycles at one vertex
    ∷ row (1 ∷ 1 ∷ 1 ∷ 1 ∷ 1 ∷ 1 ∷ 1 ∷ 1 ∷ 1 ∷ 1 ∷ 0 ∷ 1 ∷ 1 ∷ 2 ∷ 2 ∷ 1 ∷ 1 ∷ 1 ∷ 1 ∷ 3 ∷ []) (pos 0 ∷ pos 0 ∷ pos 0
    ∷ []) 2 5
    -- rule 5: an isolated vertex that starts half-edges
    ∷ row (1 ∷ 2 ∷ 3 ∷ 1 ∷ 1 ∷ 1 ∷ 1 ∷ 1 ∷ 1 ∷ 2 ∷ 1 ∷ 1 ∷ 0 ∷ 2 ∷ 2 ∷ 0 ∷ 1 ∷ 0 ∷ 1 ∷ 1 ∷ 1 ∷ 1 ∷ 1 ∷ 1 ∷ 2 ∷ 2 ∷ 2 ∷ 3
    ∷ []) (pos 0 ∷ pos 0 ∷ pos 0 ∷ []) 2 5
    -- rule 6: an edge between two solids
    ∷ row (2 ∷ 2 ∷ 2 ∷ 1 ∷ 1 ∷ 1 ∷ 1 ∷ 1 ∷ 1 ∷ 2 ∷ 2 ∷ 1 ∷ 1 ∷ 0 ∷ 2 ∷ 2 ∷ 0 ∷ 1 ∷ 1 ∷ 1 ∷ 1 ∷ 1 ∷ 2 ∷ 2 ∷ 2 ∷ 3
    ∷ []) (pos 0 ∷ pos 0 ∷ pos 0 ∷ []) 2 6
    -- rule 6: two faces of a solid that no edge links
    ∷ row (1 ∷ 2 ∷ 2 ∷ 1 ∷ 2 ∷ 1 ∷ 1 ∷ 1 ∷ 1 ∷ 2 ∷ 1 ∷ 0 ∷ 1 ∷ 2 ∷ 0 ∷ 2 ∷ 0 ∷ 0 ∷ 0 ∷ 0 ∷ 0 ∷ 0 ∷ 0 ∷ 0 ∷ 1 ∷ 1
    ∷ []) zero_points 2 6
    ∷ []

abbrev answered : Row → Bool
answered r = eqb (check_of r.links r.points).refusal r.refusal
    && eqb (check_of r.links r.points).rule r.rule

abbrev all_rows : {A : Type 0} → (A → Bool) → List A → Bool
all_rows test [] = true
all_rows test (r ∷ rs) = test r && all_rows test rs

pub tables_answered : all_rows answered tables ≡ true
unfolding check_of sizes_fit broken_rule rule1 rule2 rule3 rule4 rule5 rule6 solid_range face_range loop_range
    half_range
    vertex_range solid_names face_names loop_names half_names loop_either half_links first_names half_in_loop
    vertex_either
    half_at_vertex half_sides face_linked all_to least_from sum_to meets linkedb rounds pass across mate
tables_answered = refl
