-- The linear test says what the readable one does: each half-edge in use is met from its label's representative. The
-- labels are the loops, along "next", and the vertices, along "next of the mate". What has to hold of the links
-- beforehand is stated as records.
use Rattle.std.specs.Prelude.{◌≡◌, refl, ◌≢◌, Bool, true, false, not, List, ℕ, zero, suc, ◌*◌, ◌≤◌, T, eqb, get_or}
use Rattle.std.specs.Prelude.{replicate}
use Rattle.std.proofs.Math.Path.{ap}
use Rattle.std.proofs.Common.{◌∙◌, arith, eqb→eq}
use Rattle.std.proofs.Math.Dec.{eqb_refl, not_T}
use Rattle.std.proofs.Math.ListN.{length-replicate}
use Rattle.laws.specs.Bools.{true_T, false_T}
use Rattle.laws.specs.Search.{least, Least, none_is, one_is, least_from_is}
use Rattle.laws.specs.Walks.{Used, all_met}
use Rattle.laws.specs.Marks.{mark_to, all_marked, Labelled, marked_met, zeros_at}
use Rattle.bounds.specs.Bounds.{half_places, most_items}
use Rattle.layout.specs.declared.shape.Shape.{Shape}
use Rattle.layout.specs.Layout.{start_of, loop_of, next_of, prev_of, loop_first}
use Rattle.layout.specs.Mate.{mate}
use Rattle.layout.specs.MateLaws.{mate_mate, mate_range}
use Rattle.layout.specs.Items.{half_used}
use Rattle.check_orbits.specs.Labels.{blank, least_naming, copied}
use Rattle.check_orbits.specs.LabelsLaws.{least_at, copied_at}
use Rattle.check_orbits.specs.Cycles.{entry_of, step_of, one_cycle_each}

-- the walks of the labels 1 to m look at the representatives of these labels only
pub mark_to_ext : (f : ℕ → ℕ) (n : ℕ) (rep rep' : ℕ → ℕ) (m : ℕ) (marks : List ℕ)
    → ((l : ℕ) → 1 ≤ l → l ≤ m → rep l ≡ rep' l) → mark_to f n rep m marks ≡ mark_to f n rep' m marks
unfolding mark_to
mark_to_ext f n rep rep' zero marks h = refl
mark_to_ext f n rep rep' (suc m) marks h =
    rw (h (suc m) (omega arith) (omega arith), mark_to_ext f n rep rep' m marks (λ l lo hi. h l lo (omega arith)))

module _ (sh : Shape) (x : List ℕ) where
  -- k is a half-edge in use
  abbrev pub Half : ℕ → Type 0
  Half = Used (2 * sh.edges) (half_used sh x)

  -- the linear test with a list of representatives is the readable test with these
  pub one_cycle : (around : Bool) (reps : List ℕ) (m : ℕ) (rep lab : ℕ → ℕ) → sh.edges ≤ most_items
      → Labelled (2 * sh.edges) m Half (step_of sh x around) rep lab
      → ((l : ℕ) → 1 ≤ l → l ≤ m → get_or reps l 0 ≡ rep l) → one_cycle_each sh x around reps m
      ≡ all_met (2 * sh.edges) (half_used sh x) (step_of sh x around) rep lab
  unfolding one_cycle_each
  one_cycle around reps m rep lab small h e =
      ap (all_marked (2 * sh.edges) (half_used sh x))
      (mark_to_ext (step_of sh x around) (2 * sh.edges) (entry_of reps) rep m (replicate half_places 0) e)
      ∙ marked_met (2 * sh.edges) m (half_used sh x) (step_of sh x around) rep lab (replicate half_places 0) h (omega
      (arith, length-replicate {A = ℕ} half_places 0)) (λ k l. zeros_at half_places k)

  -- ---- the facts

  -- next stays among the half-edges in use, and previous undoes it
  pub record NextFacts : Type 0 where
    pub next_in : (k : ℕ) → Half k → Half (next_of sh x k)
    pub next_undone : (k : ℕ) → Half k → prev_of sh x (next_of sh x k) ≡ k

  -- next keeps the loop, which has a first; each first is in use and names its loop
  pub record LoopFacts : Type 0 where
    pub links : NextFacts
    pub loop_kept : (k : ℕ) → Half k → loop_of sh x (next_of sh x k) ≡ loop_of sh x k
    pub loop_low : (k : ℕ) → Half k → 1 ≤ loop_of sh x k
    pub loop_high : (k : ℕ) → Half k → loop_of sh x k ≤ sh.loops
    pub has_first : (k : ℕ) → Half k → loop_first sh x (loop_of sh x k) ≢ 0
    pub first_in : (l : ℕ) → 1 ≤ l → l ≤ sh.loops → loop_first sh x l ≢ 0 → Half (loop_first sh x l)
    pub first_names : (l : ℕ) → 1 ≤ l → l ≤ sh.loops → loop_first sh x l ≢ 0 → loop_of sh x (loop_first sh x l) ≡ l

  -- both halves of an edge are in use, next of k starts where k's mate starts, and starts are vertices
  pub record VertexFacts : Type 0 where
    pub links : NextFacts
    pub mate_used : (k : ℕ) → Half k → T (half_used sh x (mate k))
    pub next_start : (k : ℕ) → Half k → start_of sh x (next_of sh x k) ≡ start_of sh x (mate k)
    pub start_high : (k : ℕ) → Half k → start_of sh x k ≤ sh.vertices

  -- ---- the loops

  pub loops_labelled : LoopFacts
      → Labelled (2 * sh.edges) sh.loops Half (step_of sh x false) (loop_first sh x) (loop_of sh x)
  loops_labelled h = record {
    perm = record {
      low = λ k u. u.0;
      high = λ k u. u.1;
      f_in = h.links.next_in;
      inv = prev_of sh x;
      undo =
          h.links.next_undone;
    };
    keeps = h.loop_kept;
    lab_low = h.loop_low;
    lab_high = h.loop_high;
    has_rep = h.has_first;
    rep_in = λ l lo hi f. (h.first_in l lo hi f, h.first_names l lo hi f);
  }

  -- with the loops' firsts the linear test says that each half-edge in use is met from its loop's first along next
  pub loops_one_cycle : LoopFacts → sh.edges ≤ most_items → sh.loops ≤ most_items
      → one_cycle_each sh x false (copied (loop_first sh x) sh.loops blank) sh.loops
      ≡ all_met (2 * sh.edges) (half_used sh x) (next_of sh x) (loop_first sh x) (loop_of sh x)
  loops_one_cycle h small few = one_cycle false (copied (loop_first sh x) sh.loops blank) sh.loops (loop_first sh x)
      (loop_of sh x) small (loops_labelled h)
      (λ l lo hi. copied_at (loop_first sh x) sh.loops l few lo hi)

  -- ---- the vertices

  -- the least half-edge that starts at v, or 0
  abbrev pub starter : ℕ → ℕ
  starter v = least (2 * sh.edges) (λ k. eqb (start_of sh x k) v)

  -- where one starts there is a least
  starter_some : (k : ℕ) → Half k → starter (start_of sh x k) ≢ 0
  starter_some k u e = go (least_from_is (2 * sh.edges) 1 (λ j. eqb (start_of sh x j) (start_of sh x k)))
    where
      go : Least (2 * sh.edges) 1 (λ j. eqb (start_of sh x j) (start_of sh x k)) (starter (start_of sh x k)) → ⊥
      go (none_is z f) = false_T (f k u.0 (omega (arith, u.1))) (eqb_refl (start_of sh x k))
      go (one_is l b t f) = omega arith

  -- and it is a half-edge in use that starts there
  starter_in : (v : ℕ) → 1 ≤ v → starter v ≢ 0 → Half (starter v) × (start_of sh x (starter v) ≡ v)
  starter_in v low h = go (least_from_is (2 * sh.edges) 1 (λ j. eqb (start_of sh x j) v))
    where
      go : Least (2 * sh.edges) 1 (λ j. eqb (start_of sh x j) v) (starter v) → Half (starter v)
          × (start_of sh x (starter v) ≡ v)
      go (none_is z f) = absurd (h z)
      go (one_is l b t f) =
          let e : start_of sh x (starter v) ≡ v = eqb→eq _ _ (true_T t) in (
            (
              l,
              omega arith,
              not_T (eqb (start_of sh x (starter v)) 0) (λ z. omega (arith, eqb→eq (start_of sh x (starter v)) 0 z)),
            ),
            e,
          )

  -- the mate of a half-edge in use is one too
  mate_in : VertexFacts → (k : ℕ) → Half k → Half (mate k)
  mate_in h k u = let r = mate_range k sh.edges u.0 u.1 in (r.0, r.1, h.mate_used k u)

  pub vertices_labelled : VertexFacts
      → Labelled (2 * sh.edges) sh.vertices Half (step_of sh x true) starter (start_of sh x)
  vertices_labelled h = record {
    perm = record {
      low = λ k u. u.0;
      high = λ k u. u.1;
      f_in = λ k u. h.links.next_in (mate k) (mate_in h k u);
      inv = λ k. mate (prev_of sh x k);
      undo = λ k u. ap mate (h.links.next_undone (mate k) (mate_in h k u)) ∙ mate_mate k;
    };
    keeps = λ k u. h.next_start (mate k) (mate_in h k u) ∙ ap (start_of sh x) (mate_mate k);
    lab_low = λ k u. low (start_of sh x k) u.2;
    lab_high = h.start_high;
    has_rep = starter_some;
    rep_in = λ v lo hi f. starter_in v lo f;
  }
    where
      low : (n : ℕ) → T (not (eqb n 0)) → 1 ≤ n
      low zero t = absurd t
      low (suc n) t = omega arith

  -- with the vertices' least starters it says that each half-edge in use is met from the least that starts where it
  -- does, going around
  pub vertices_one_cycle : VertexFacts → sh.edges ≤ most_items → sh.vertices ≤ most_items
      → one_cycle_each sh x true (least_naming (start_of sh x) (2 * sh.edges) blank) sh.vertices
      ≡ all_met (2 * sh.edges) (half_used sh x) (λ k. next_of sh x (mate k)) starter (start_of sh x)
  vertices_one_cycle h small few = one_cycle true (least_naming (start_of sh x) (2 * sh.edges) blank)
      sh.vertices starter (start_of sh x) small (vertices_labelled h)
      (λ v lo hi. least_at (start_of sh x) (2 * sh.edges) v (omega arith))
