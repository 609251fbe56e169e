-- The code's way of testing each rule is the rule: scans joined by `&`, and linear passes for cycles and shells.
use Rattle.std.specs.Prelude.{◌≡◌, refl, Bool, true, not, ◌&&◌, List, ℕ, zero, suc, ◌*◌, ◌≤◌, ℤ, length, set}
use Rattle.std.proofs.Common.{sym, ◌∙◌, subst, arith, length-set}
use Rattle.std.proofs.Math.Path.{ap}
use Rattle.std.proofs.Math.Bool.{false}
use Rattle.std.proofs.lemmas.List.{length-replicate}
use Rattle.std.proofs.lemmas.Bool.{not-true, not-false}
use Rattle.laws.specs.Bools.{true_T, T_true, and_T}
use Rattle.laws.specs.Search.{all_to, all_ext}
use Rattle.bounds.specs.Bounds.{item_places, most_items}
use Rattle.layout.specs.declared.shape.Shape.{Shape}
use Rattle.layout.specs.declared.column.Column.{Column}
use Rattle.layout.specs.Fields.{Field, cap_of, column}
use Rattle.layout.specs.Column.{entry_of, column_at}
use Rattle.layout.specs.Layout.{face_solid, loop_first, loop_isolated, start_of}
use Rattle.check_orbits.specs.Labels.{blank, down, least_naming, tally, copied}
use Rattle.check_orbits.specs.LabelsLaws.{least_at, tally_at}
use Rattle.check_orbits.specs.Cycles.{step_of, one_cycle_by, one_cycle_each}
use Rattle.check_orbits.specs.OrbitsLaws.{LoopFacts, loops_one_cycle, vertices_one_cycle}
use Rattle.check_shells.specs.Shells.{shells_whole}
use Rattle.check_shells.specs.RuleLaws.{whole_is}
use Rattle.check_items.specs.Rules.{solid_range, face_range, loop_range, half_range, vertex_range, rule1}
use Rattle.check_items.specs.Rules.{face_names, loop_names, half_names, solid_names, rule2, loop_either, rule3}
use Rattle.check_items.specs.Rules.{half_links, first_names, half_in_loop, rule4, vertex_either, half_at_vertex, rule5}
use Rattle.check_items.specs.Rules.{half_sides, face_linked, rule6}
use Rattle.check_rules.specs.Labels.{solid_named_by, vertex_either_by}
use Rattle.layout.specs.Small.{Small}
use Rattle.check_rules.specs.Says.{says_all}
use Rattle.check_rules.specs.RulesSay.{Rule1, Rule2, says_rule1, says_rule2, says_half_links, says_first_names}
use Rattle.check_rules.specs.RuleFacts.{loop_facts, vertex_facts, sided}
use Rattle.check_rules.specs.CyclesSay.{met_loops, met_vertices, says_rule4}

-- what follows a failed test does not matter
stop : (a b A B C : Bool) → a ≡ A → b ≡ B → not (a && b) ≡ true → false ≡ ((A && B) && C)
stop a b A B C ea eb n = rw (← ea, ← eb, not-true (a && b) n)

go_on : (a b A B C r : Bool) → a ≡ A → b ≡ B → not (a && b) ≡ false → r ≡ C → r ≡ ((A && B) && C)
go_on a b A B C r ea eb n e = rw (← ea, ← eb, not-false (a && b) n) e

both : (a b A B : Bool) → a ≡ A → b ≡ B → (a && b) ≡ (A && B)
both a b A B ea eb = rw (ea, eb)

-- rules 1 and 2 hold of a table of small capacities: what the walks and the shells build on
pub record Lower (sh : Shape) (x : List ℕ) (p : List ℤ) : Type 0 where
  pub small : Small sh
  pub first : rule1 sh x p ≡ true
  pub second : rule2 sh x ≡ true

-- a pass keeps the length of its array
named_long : (f : ℕ → ℕ) (n : ℕ) (a : List ℕ) → length (least_naming f n a) ≡ length a
unfolding down
named_long f zero a = refl
named_long f (suc n) a = named_long f n (set a (f (suc n)) (suc n)) ∙ length-set a (f (suc n)) (suc n)

pub leaders_long : (f : ℕ → ℕ) (n : ℕ) (ls : List ℕ) → ls ≡ least_naming f n blank → length ls ≡ item_places
leaders_long f n ls e = ap length e ∙ named_long f n blank ∙ length-replicate {A = ℕ} item_places 0

-- a pass down the column of a field, as the code hands it on
passed_by : (pass : (ℕ → ℕ) → ℕ → List ℕ → List ℕ) (sh : Shape) (x : List ℕ) (F : Field) {c : Column} {ls : List ℕ}
    → c ≡ column_at sh F → ls ≡ pass (entry_of c x) c.count blank → ls ≡ pass (column sh F x) (cap_of sh F) blank
passed_by pass sh x F {c} {ls} e h = subst (λ (k : Column). ls ≡ pass (entry_of k x) k.count blank) e h

pub named_by : (sh : Shape) (x : List ℕ) (F : Field) {c : Column} {ls : List ℕ} → c ≡ column_at sh F
    → ls ≡ least_naming (entry_of c x) c.count blank → ls ≡ least_naming (column sh F x) (cap_of sh F) blank
named_by = passed_by least_naming

pub counted_by : (sh : Shape) (x : List ℕ) (F : Field) {c : Column} {ls : List ℕ} → c ≡ column_at sh F
    → ls ≡ tally (entry_of c x) c.count blank → ls ≡ tally (column sh F x) (cap_of sh F) blank
counted_by = passed_by tally

-- ---- the passes of rule 5

module _ (sh : Shape) (x : List ℕ) where
  -- the entries of the arrays are the rule's own counts
  pub vertices_counted : (isolated starts : List ℕ) (r : Bool) → sh.vertices ≤ most_items
      → isolated ≡ tally (loop_isolated sh x) sh.loops blank → starts ≡ tally (start_of sh x) (2 * sh.edges) blank
      → r ≡ all_to sh.vertices (vertex_either_by sh x isolated starts)
      → r ≡ all_to sh.vertices (vertex_either sh x)
  unfolding vertex_either_by vertex_either
  vertices_counted isolated starts r h ei es er = er ∙ all_ext sh.vertices _ _
      (λ k l u. rw (
        ei,
        es,
        tally_at (loop_isolated sh x) sh.loops k (omega arith),
        tally_at (start_of sh x) (2 * sh.edges) k (omega arith),
      ))

  -- the walks are those of the array
  pub cycles_walked : (starters : List ℕ) (r : Bool) → starters ≡ least_naming (start_of sh x) (2 * sh.edges) blank
      → r ≡ one_cycle_by sh x (step_of sh x true) starters sh.vertices
      → r ≡ one_cycle_each sh x true (least_naming (start_of sh x) (2 * sh.edges) blank) sh.vertices
  unfolding one_cycle_each
  cycles_walked starters r es er = er ∙ ap (λ l. one_cycle_by sh x (step_of sh x true) l sh.vertices) es

-- ---- the rules

module _ (sh : Shape) (x : List ℕ) where
  -- the leader of a solid is its least face
  solids_named : (ls : List ℕ) → sh.solids ≤ most_items → ls ≡ least_naming (face_solid sh x) sh.faces blank
      → all_to sh.solids (solid_named_by sh x ls) ≡ all_to sh.solids (solid_names sh x)
  unfolding solid_named_by solid_names
  solids_named ls h e =
      all_ext sh.solids _ _ (λ k l u. rw (e, least_at (face_solid sh x) sh.faces k (omega arith)))

  pub rule2_is : (ls : List ℕ) (a b c d : Bool) → sh.solids ≤ most_items
      → ls ≡ least_naming (face_solid sh x) sh.faces blank
      → a ≡ all_to sh.faces (face_names sh x) → b ≡ all_to sh.loops (loop_names sh x)
      → c ≡ all_to (2 * sh.edges) (half_names sh x) → d ≡ all_to sh.solids (solid_named_by sh x ls)
      → (((a && b) && c) && d) ≡ rule2 sh x
  unfolding rule2
  rule2_is ls a b c d h e ea eb ec ed = rw (ea, eb, ec, ed, solids_named ls h e)

  pub rule3_is : (r : Bool) → r ≡ all_to sh.loops (loop_either sh x) → r ≡ rule3 sh x
  unfolding rule3
  rule3_is r h = h

module _ (sh : Shape) (x : List ℕ) (p : List ℤ) where
  pub rule1_is : (a b c d e : Bool) → a ≡ all_to sh.solids (solid_range sh x)
      → b ≡ all_to sh.faces (face_range sh x)
      → c ≡ all_to sh.loops (loop_range sh x) → d ≡ all_to (2 * sh.edges) (half_range sh x)
      → e ≡ all_to sh.vertices (vertex_range sh x p) → ((((a && b) && c) && d) && e) ≡ rule1 sh x p
  unfolding rule1
  rule1_is a b c d e ea eb ec ed ee = rw (ea, eb, ec, ed, ee)

  module _ (lower : Lower sh x p) where
    r1 : Rule1 sh x p
    r1 = (says_rule1 sh x p).out (true_T lower.first)

    r2 : Rule2 sh x
    r2 = (says_rule2 sh x).out (true_T lower.second)

    module _ (a b : Bool) (ea : a ≡ all_to (2 * sh.edges) (half_links sh x))
        (eb : b ≡ all_to sh.loops (first_names sh x)) where
      pub rule4_not : not (a && b) ≡ true → false ≡ rule4 sh x
      unfolding rule4
      rule4_not n = stop a b (all_to (2 * sh.edges) (half_links sh x)) (all_to sh.loops (first_names sh x))
          (all_to (2 * sh.edges) (half_in_loop sh x)) ea eb n

      links_hold : not (a && b) ≡ false → LoopFacts sh x
      links_hold n =
          let t = and_T a b (true_T (not-false (a && b) n)) in
          let ta = true_T (sym ea ∙ T_true {b = a} t.0) in
          let tb = true_T (sym eb ∙ T_true {b = b} t.1) in
          loop_facts sh x p r1 r2 ((says_all (2 * sh.edges) (says_half_links sh x)).out ta)
          ((says_all sh.loops (says_first_names sh x)).out tb)

      pub rule4_is : not (a && b) ≡ false → (firsts : List ℕ) (r : Bool)
          → firsts ≡ copied (loop_first sh x) sh.loops blank
          → r ≡ one_cycle_by sh x (step_of sh x false) firsts sh.loops → r ≡ rule4 sh x
      unfolding rule4 one_cycle_each
      rule4_is n firsts r ef er =
          go_on a b (all_to (2 * sh.edges) (half_links sh x)) (all_to sh.loops (first_names sh x))
          (all_to (2 * sh.edges) (half_in_loop sh x)) r ea eb n
          (er ∙ ap (λ l. one_cycle_by sh x (step_of sh x false) l sh.loops) ef
          ∙ loops_one_cycle sh x (links_hold n) lower.small.edges lower.small.loops ∙ met_loops sh x)

    pub rule5_is : rule4 sh x ≡ true → (a r : Bool) → a ≡ all_to sh.vertices (vertex_either sh x)
        → r ≡ one_cycle_each sh x true (least_naming (start_of sh x) (2 * sh.edges) blank) sh.vertices
        → (a && r) ≡ rule5 sh x
    unfolding rule5
    rule5_is h4 a r ea er =
        both a r (all_to sh.vertices (vertex_either sh x)) (all_to (2 * sh.edges) (half_at_vertex sh x)) ea
        (er ∙ vertices_one_cycle sh x (vertex_facts sh x p r1 r2 ((says_rule4 sh x p r1 r2).out (true_T h4)).half)
        lower.small.edges lower.small.vertices ∙ met_vertices sh x)

    pub rule6_is : (ls : List ℕ) (a r : Bool) → ls ≡ least_naming (face_solid sh x) sh.faces blank
        → a ≡ all_to (2 * sh.edges) (half_sides sh x)
        → r ≡ shells_whole sh x ls → (a && r) ≡ rule6 sh x
    unfolding rule6 face_linked
    rule6_is ls a r el ea er =
        both a r (all_to (2 * sh.edges) (half_sides sh x)) (all_to sh.faces (face_linked sh x)) ea
        (er ∙ whole_is sh x (sided sh x p r1 r2) ls (λ f l u d.
        let n : face_solid sh x f ≤ sh.solids = (r1.face f l u).solid in
        rw el (least_at (face_solid sh x) sh.faces (face_solid sh x f) (omega (arith, lower.small.solids)))))
