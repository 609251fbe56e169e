-- What rules 4 to 6 say in plain words, given the rules below: one cycle for each loop and for each vertex, one shell
-- for each solid.
use Rattle.std.specs.Prelude.{◌≡◌, ◌≢◌, Bool, List, [], ◌∷◌, ℕ, ◌*◌, ◌≤◌, eqb, ℤ}
use Rattle.std.proofs.Math.Path.{refl, subst}
use Rattle.std.proofs.Common.{sym, ◌∙◌, arith, eqb→eq}
use Rattle.std.proofs.Math.Dec.{T, eqb_refl}
use Rattle.laws.specs.Bools.{true_T, false_T}
use Rattle.laws.specs.Every.{every_T, T_every}
use Rattle.laws.specs.Search.{all_to, Least, none_is, one_is, least_from_is}
use Rattle.laws.specs.Cycles.{Cycles}
use Rattle.laws.specs.Linked.{Linked, back, via}
use Rattle.laws.specs.Walks.{Used, all_met}
use Rattle.laws.specs.Marks.{Labelled, met_all_cycles, cycles_all_met}
use Rattle.laws.specs.Closure.{Edge, linked_sound, linked_complete}
use Rattle.layout.specs.declared.shape.Shape.{Shape}
use Rattle.layout.specs.Layout.{face_solid, loop_first, start_of, loop_of, next_of, vertex_used, side}
use Rattle.layout.specs.Mate.{mate}
use Rattle.layout.specs.Items.{half_used, face_in}
use Rattle.check_orbits.specs.OrbitsLaws.{Half, loops_labelled, vertices_labelled}
use Rattle.check_shells.specs.Shells.{edge_used, side_a, side_b}
use Rattle.check_items.specs.Rules.{half_links, first_names, half_in_loop, rule4, starter, around}
use Rattle.check_items.specs.Rules.{vertex_either, half_at_vertex, rule5, half_sides, linked, face_linked, rule6}
use Rattle.check_rules.specs.Says.{Says, says_all, says_where, says_true}
use Rattle.check_rules.specs.RulesSay.{Rule1, Rule2, HalfLinks, VertexEither, says_half_links, says_first_names}
use Rattle.check_rules.specs.RulesSay.{says_vertex_either, says_half_sides}
use Rattle.check_rules.specs.RuleFacts.{loop_facts, vertex_facts, sided}

module _ (sh : Shape) (x : List ℕ) where
  -- half-edges are joined to their neighbours, first names its loop and is the least, and the half-edges of a loop are
  -- one cycle along next
  pub record Rule4 : Type 0 where
    pub half : (k : ℕ) → 1 ≤ k → k ≤ 2 * sh.edges → start_of sh x k ≢ 0 → HalfLinks sh x k
    pub first : (l : ℕ) → 1 ≤ l → l ≤ sh.loops → loop_first sh x l ≢ 0 → loop_of sh x (loop_first sh x l) ≡ l
    pub cycles : Cycles (2 * sh.edges) (Half sh x) (next_of sh x) (loop_of sh x)

  -- a vertex's word counts the half-edges that start there, it is isolated in one loop or starts some, and those that
  -- start at one vertex are one cycle under "next of the mate"
  pub record Rule5 : Type 0 where
    pub vertex : (v : ℕ) → 1 ≤ v → v ≤ sh.vertices → vertex_used sh x v ≢ 0 → VertexEither sh x v
    pub cycles : Cycles (2 * sh.edges) (Half sh x) (around sh x) (start_of sh x)

  -- f and g are the two sides of an edge in use
  abbrev pub Across : ℕ → ℕ → Type 0
  Across = Edge (Used sh.edges (edge_used sh x)) (side_a (side sh x)) (side_b (side sh x))

  -- an edge's two sides lie in one solid, and any two faces of a solid are linked
  pub record Rule6 : Type 0 where
    pub sides : (k : ℕ) → 1 ≤ k → k ≤ 2 * sh.edges → start_of sh x k ≢ 0 → face_solid sh x (side sh x k)
        ≡ face_solid sh x (side sh x (mate k))
    pub linked : (f g : ℕ) → 1 ≤ f → f ≤ sh.faces → 1 ≤ g → g ≤ sh.faces → face_solid sh x f ≢ 0
        → face_solid sh x f ≡ face_solid sh x g → Linked Across f g

  -- ---- the rules' tests of cycles are the tests of laws

  pub met_loops : all_met (2 * sh.edges) (half_used sh x) (next_of sh x) (loop_first sh x) (loop_of sh x)
      ≡ all_to (2 * sh.edges) (half_in_loop sh x)
  unfolding all_met half_in_loop
  met_loops = refl

  pub met_vertices : all_met (2 * sh.edges) (half_used sh x) (around sh x) (starter sh x) (start_of sh x)
      ≡ all_to (2 * sh.edges) (half_at_vertex sh x)
  unfolding all_met half_at_vertex
  met_vertices = refl

  -- ---- each solid's least face is a face of it

  pub leader_of : (f : ℕ) → 1 ≤ f → f ≤ sh.faces
      → (1 ≤ face_in sh x (face_solid sh x f)) × (face_in sh x (face_solid sh x f) ≤ sh.faces)
      × (face_solid sh x (face_in sh x (face_solid sh x f)) ≡ face_solid sh x f)
  leader_of f l u = go (least_from_is sh.faces 1 (λ g. eqb (face_solid sh x g) (face_solid sh x f)))
    where
      go : Least sh.faces 1 (λ g. eqb (face_solid sh x g) (face_solid sh x f)) (face_in sh x (face_solid sh x f))
          → (1 ≤ face_in sh x (face_solid sh x f)) × (face_in sh x (face_solid sh x f) ≤ sh.faces)
          × (face_solid sh x (face_in sh x (face_solid sh x f)) ≡ face_solid sh x f)
      go (none_is z f-not) = absurd (false_T (f-not f l (omega arith)) (eqb_refl (face_solid sh x f)))
      go (one_is a b t f-not) = (a, omega arith, eqb→eq _ _ (true_T t))

module _ (sh : Shape) (x : List ℕ) (p : List ℤ) (r1 : Rule1 sh x p) (r2 : Rule2 sh x) where
  -- ---- rule 4

  says_halves : Says (all_to (2 * sh.edges) (half_links sh x)) ((k : ℕ) → 1 ≤ k → k ≤ 2 * sh.edges → start_of sh x k ≢ 0
      → HalfLinks sh x k)
  says_halves = says_all (2 * sh.edges) (says_half_links sh x)

  says_firsts : Says (all_to sh.loops (first_names sh x)) ((l : ℕ) → 1 ≤ l → l ≤ sh.loops → loop_first sh x l ≢ 0
      → loop_of sh x (loop_first sh x l) ≡ l)
  says_firsts = says_all sh.loops (says_first_names sh x)

  abbrev tests_4 : List Bool
  tests_4 = all_to (2 * sh.edges) (half_links sh x) ∷ all_to sh.loops (first_names sh x)
      ∷ all_to (2 * sh.edges) (half_in_loop sh x) ∷ []

  pub says_rule4 : Says (rule4 sh x) (Rule4 sh x)
  unfolding rule4
  says_rule4 = record {
    out = λ t.
        let s = every_T tests_4 t in
        let h = says_halves.out s.0 in
        let f = says_firsts.out s.1.0 in
        record {
          half = h;
          first = f;
          cycles = met_all_cycles (2 * sh.edges) sh.loops (half_used sh x) (next_of sh x) (loop_first sh x)
              (loop_of sh x)
              (loops_labelled sh x (loop_facts sh x p r1 r2 h f)) (subst T (sym (met_loops sh x)) s.1.1.0);
        };
    back = λ r. T_every tests_4 (
      says_halves.back r.half,
      (
        says_firsts.back r.first,
        (
          subst T (met_loops sh x) (cycles_all_met (2 * sh.edges) sh.loops (half_used sh x) (next_of sh x)
              (loop_first sh x) (loop_of sh x)
              (loops_labelled sh x (loop_facts sh x p r1 r2 r.half r.first)) r.cycles),
          tt,
        ),
      ),
    );
  }

  -- ---- rule 5

  says_vertices : Says (all_to sh.vertices (vertex_either sh x)) ((v : ℕ) → 1 ≤ v → v ≤ sh.vertices
      → vertex_used sh x v ≢ 0 → VertexEither sh x v)
  says_vertices = says_all sh.vertices (says_vertex_either sh x)

  abbrev tests_5 : List Bool
  tests_5 = all_to sh.vertices (vertex_either sh x) ∷ all_to (2 * sh.edges) (half_at_vertex sh x) ∷ []

  labelled_5 : Rule4 sh x
      → Labelled (2 * sh.edges) sh.vertices (Half sh x) (around sh x) (starter sh x) (start_of sh x)
  labelled_5 r4 = vertices_labelled sh x (vertex_facts sh x p r1 r2 r4.half)

  pub says_rule5 : Rule4 sh x → Says (rule5 sh x) (Rule5 sh x)
  unfolding rule5
  says_rule5 r4 = record {
    out = λ t.
        let s = every_T tests_5 t in
        record {
          vertex = says_vertices.out s.0;
          cycles = met_all_cycles (2 * sh.edges) sh.vertices (half_used sh x) (around sh x) (starter sh x)
              (start_of sh x) (labelled_5 r4) (subst T (sym (met_vertices sh x)) s.1.0);
        };
    back = λ r. T_every tests_5 (
      says_vertices.back r.vertex,
      (
        subst T (met_vertices sh x) (cycles_all_met (2 * sh.edges) sh.vertices (half_used sh x) (around sh x)
            (starter sh x) (start_of sh x) (labelled_5 r4) r.cycles),
        tt,
      ),
    );
  }

  -- ---- rule 6

  ends : (e : ℕ) → Used sh.edges (edge_used sh x) e → (1 ≤ side_a (side sh x) e) × (side_a (side sh x) e ≤ sh.faces)
      × (1 ≤ side_b (side sh x) e) × (side_b (side sh x) e ≤ sh.faces)
  ends e u = (sided sh x p r1 r2).at e u.0 u.1 u.2

  says_sides : Says (all_to (2 * sh.edges) (half_sides sh x))
      ((k : ℕ) → 1 ≤ k → k ≤ 2 * sh.edges → start_of sh x k ≢ 0 → face_solid sh x (side sh x k)
      ≡ face_solid sh x (side sh x (mate k)))
  says_sides = says_all (2 * sh.edges) (says_half_sides sh x)

  -- face f is linked to its solid's least face
  abbrev ByLeader : ℕ → Type 0
  ByLeader f = face_solid sh x f ≢ 0 → T (linked sh x (face_in sh x (face_solid sh x f)) f)

  says_face_linked : (f : ℕ) → Says (face_linked sh x f) (ByLeader f)
  unfolding face_linked
  says_face_linked f = says_where (face_solid sh x f) (says_true (linked sh x (face_in sh x (face_solid sh x f)) f))

  says_linked : Says (all_to sh.faces (face_linked sh x)) ((f : ℕ) → 1 ≤ f → f ≤ sh.faces → ByLeader f)
  says_linked = says_all sh.faces says_face_linked

  to_leader : ((f : ℕ) → 1 ≤ f → f ≤ sh.faces → ByLeader f) → (f : ℕ) → 1 ≤ f → f ≤ sh.faces → face_solid sh x f ≢ 0
      → Linked (Across sh x) (face_in sh x (face_solid sh x f)) f
  to_leader h f l u s = linked_sound sh.faces sh.edges (edge_used sh x) (side_a (side sh x))
      (side_b (side sh x)) ends (face_in sh x (face_solid sh x f)) f (h f l u s)

  abbrev tests_6 : List Bool
  tests_6 = all_to (2 * sh.edges) (half_sides sh x) ∷ all_to sh.faces (face_linked sh x) ∷ []

  pub says_rule6 : Says (rule6 sh x) (Rule6 sh x)
  unfolding rule6
  says_rule6 = record {
    out = λ t.
        let s = every_T tests_6 t in
        let h = to_leader (says_linked.out s.1.0) in
        record {
          sides = says_sides.out s.0;
          linked = λ f g lf uf lg ug d e.
              via (face_in sh x (face_solid sh x f)) (back (h f lf uf d))
              (subst (λ s. Linked (Across sh x) (face_in sh x s) g) (sym e) (h g lg ug (λ z. d (e ∙ z))));
        };
    back = λ r. T_every tests_6 (
      says_sides.back r.sides,
      (
        says_linked.back (λ f l u d.
            let b = leader_of sh x f l u in
            linked_complete sh.faces sh.edges (edge_used sh x) (side_a (side sh x)) (side_b (side sh x)) ends
            (face_in sh x (face_solid sh x f)) f b.0 b.1
            (r.linked (face_in sh x (face_solid sh x f)) f b.0 b.1 l u (λ z. d (sym b.2 ∙ z)) b.2)),
        tt,
      ),
    );
  }
