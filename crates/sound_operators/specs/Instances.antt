-- The theorems at tables: every table of the checked examples passes the check, those that an operator leaves too. So
-- no assumption of the theorems rules everything out: they speak of each accepted row, which are several for each of
-- the thirteen operators.
use Rattle.std.specs.Prelude.{◌≡◌, refl, List, [], ◌∷◌, eqb}
use Rattle.laws.specs.Bools.{pick}
use Rattle.laws.specs.Search.{all_to, least_from}
use Rattle.laws.specs.Sums.{sum_to}
use Rattle.laws.specs.Walks.{meets}
use Rattle.laws.specs.Closure.{across, pass, rounds, linkedb}
use Rattle.layout.specs.Mate.{mate}
use Rattle.check_items.specs.Rules.{solid_range, face_range, loop_range, half_range, vertex_range, rule1, solid_names}
use Rattle.check_items.specs.Rules.{face_names, loop_names, half_names, rule2, loop_either, rule3, half_links}
use Rattle.check_items.specs.Rules.{first_names}
use Rattle.check_items.specs.Rules.{half_in_loop, rule4, vertex_either, half_at_vertex, rule5, half_sides, face_linked}
use Rattle.check_items.specs.Rules.{rule6}
use Rattle.check_items.specs.Rules.{broken_rule}
use Rattle.table.specs.Sizes.{sizes_fit}
use Rattle.table.specs.Check.{answer, check_of}
use Rattle.table.specs.declared.check.CheckAnswer.{CheckAnswer}
use Rattle.evidence_rows.specs.Row.{Row}
use Rattle.evidence_rows.specs.Examples.{rows}

-- the rows whose operator is accepted
abbrev pub accepted : List Row → List Row
accepted [] = []
accepted (r ∷ rs) = pick (eqb r.after.refusal 0) (r ∷ accepted rs) (accepted rs)

-- what the check answers of the tables of a row, before and after
unfoldable pub checks : List Row → List CheckAnswer
unfolding check_of broken_rule sizes_fit rule1 solid_range face_range loop_range half_range vertex_range rule2
    solid_names
    face_names loop_names half_names rule3 loop_either rule4 half_links first_names half_in_loop rule5 vertex_either
    half_at_vertex
    rule6 half_sides face_linked all_to least_from sum_to meets across pass rounds linkedb mate
checks [] = []
checks (r ∷ rs) =
    check_of r.before.links r.before.points ∷ check_of r.after.table.links r.after.table.points
    ∷ checks rs

-- sound, twice for each row
abbrev sounds : List Row → List CheckAnswer
sounds [] = []
sounds (r ∷ rs) = answer 0 0 ∷ answer 0 0 ∷ sounds rs

-- all of them pass
pub rows_sound : checks (accepted rows) ≡ sounds (accepted rows)
unfolding checks
rows_sound = refl
