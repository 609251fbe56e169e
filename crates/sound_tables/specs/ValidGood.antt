-- A table passes the check just if it is good: of the right size, sound in the words of `Sound`, and with the right
-- vertex words.
use Rattle.std.specs.Prelude.{◌≡◌, refl, true, List, ℕ, ◌≤◌, T, leb, ℤ, length}
use Rattle.std.proofs.Common.{arith, le→leb}
use Rattle.laws.specs.Bools.{true_T, T_true, T_and, eqb_same}
use Rattle.laws.specs.Every.{T_every}
use Rattle.bounds.specs.Bounds.{most_items}
use Rattle.layout.specs.Layout.{links_length, shape_from, shape_of}
use Rattle.table.specs.Sizes.{capacity, size_tests, sizes_fit, table_fits}
use Rattle.table.specs.SizesLaws.{Sizes, sizes_are}
use Rattle.table.specs.Valid.{Valid, valid_parts, parts_valid}
use Rattle.check_rules.specs.RulesSay.{says_rule1, says_rule2, says_rule3}
use Rattle.check_rules.specs.CyclesSay.{says_rule4, says_rule5, says_rule6}
use Rattle.sound_tables.specs.Good.{Capacities, Marked, Good, marked}
use Rattle.sound_tables.specs.FromRules.{rules_sound, rules_valent}
use Rattle.sound_tables.specs.ToRules.{to_rule1, to_rule2, to_rule3, to_rule4, to_rule5, to_rule6}

-- sizes that fit are capacities
pub sizes_capacities : {m n s f l e v : ℕ} → Sizes m n s f l e v → Capacities (shape_from s f l e v)
sizes_capacities z = record {
  solids = (z.solids.low, z.solids.high);
  faces = (z.faces.low, z.faces.high);
  loops = (z.loops.low, z.loops.high);
  edges = (z.edges.low, z.edges.high);
  vertices = (z.vertices.low, z.vertices.high);
}

-- what the check passes is good
pub valid_good : (x : List ℕ) (p : List ℤ) → Valid x p → Good (shape_of x) x p
valid_good x p v =
    let h = valid_parts x p v in
    let sh = shape_of x in
    let z = sizes_are _ _ _ _ _ _ _ h.fits in
    let r1 = (says_rule1 sh x p).out (true_T h.first) in
    let r2 = (says_rule2 sh x).out (true_T h.second) in
    let r3 = (says_rule3 sh x).out (true_T h.third) in
    let r4 = (says_rule4 sh x p r1 r2).out (true_T h.fourth) in
    let r5 = (says_rule5 sh x p r1 r2 r4).out (true_T h.fifth) in
    let r6 = (says_rule6 sh x p r1 r2).out (true_T h.sixth) in
    record {
      shape = refl;
      capacities = sizes_capacities z;
      fit = (
        omega arith,
        omega arith,
        (
          omega arith,
          omega arith,
          (
            omega arith,
            omega arith,
            (
              omega arith,
              omega arith,
              (omega arith, omega arith, (omega arith, omega arith, omega (arith, z.links))),
            ),
          ),
        ),
      );
      points = z.points;
      sound = rules_sound r1 r2 r3 r4 r5 r6;
      valent = rules_valent r5;
    }

-- a capacity in range passes its test
capacity_fits : (n : ℕ) → (1 ≤ n) × (n ≤ most_items) → T (capacity n)
capacity_fits n i = T_and (leb 1 n) (leb n most_items) (le→leb 1 n i.0) (le→leb n most_items i.1)

-- a marked table has the right size
pub marked_fits : (x : List ℕ) (p : List ℤ) → Marked (shape_of x) x p → table_fits x p ≡ true
unfolding sizes_fit
marked_fits x p g =
    let sh = shape_of x in
    let k = g.capacities in
    let m : length x ≡ links_length sh.solids sh.faces sh.loops sh.edges sh.vertices =
    omega (arith, g.fit) in
    T_true (T_every (size_tests (length x) (length p) sh.solids sh.faces sh.loops sh.edges sh.vertices) (
      capacity_fits _ k.solids,
      (
        capacity_fits _ k.faces,
        (
          capacity_fits _ k.loops,
          (
            capacity_fits _ k.edges,
            (capacity_fits _ k.vertices, (true_T (eqb_same m), (true_T (eqb_same g.points), tt))),
          ),
        ),
      ),
    ))

-- and what is good passes
pub good_valid : (x : List ℕ) (p : List ℤ) → Good (shape_of x) x p → Valid x p
good_valid x p g =
    let sh = shape_of x in
    let r1 = to_rule1 _ g.sound in
    let r2 = to_rule2 _ g.sound in
    let r4 = to_rule4 _ g.sound in
    parts_valid x p (record {
      fits = marked_fits x p (marked g);
      first = T_true ((says_rule1 sh x p).back r1);
      second = T_true ((says_rule2 sh x).back r2);
      third = T_true ((says_rule3 sh x).back (to_rule3 _ g.sound));
      fourth = T_true ((says_rule4 sh x p r1 r2).back r4);
      fifth = T_true ((says_rule5 sh x p r1 r2 r4).back (to_rule5 _ g.sound g.valent));
      sixth = T_true ((says_rule6 sh x p r1 r2).back (to_rule6 _ g.sound));
    })
