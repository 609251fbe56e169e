-- A face of n corners in all its loops: what its sweep adds to the counts, of its operators and of the call.
use Rattle.std.specs.Prelude.{◌≡◌, List, ℕ, ◌+◌, ◌-◌, ◌*◌, ℤ}
use Rattle.std.proofs.Math.Path.{refl, sym, ap}
use Rattle.std.proofs.Common.{◌∙◌, subst, arith}
use Rattle.layout.specs.Layout.{shape_of}
use Rattle.layout.specs.declared.shape.Shape.{Shape}
use Rattle.table.specs.declared.check.CheckAnswer.{CheckAnswer}
use Rattle.table.specs.Count.{holes_of, tally_of, count_of}
use Rattle.table.specs.CountLaws.{count_done}
use Rattle.runs.specs.Clauses.{entry_passed}
use Rattle.sessions.specs.Editing.{Editing, log_state}
use Rattle.promises.specs.Checked.{good_checked}
use Rattle.chains.specs.Whole.{whole_all}
use Rattle.sound_tables.specs.Good.{Good}
use Rattle.inversion.specs.Counts.{solids, faces, loops, edges, vertices, rings}
use Rattle.inversion.specs.Same.{solids_is, faces_is, loops_is, edges_is, vertices_is}
use Rattle.inversion.specs.LoopCounts.{rings_loops}
use Rattle.sweeps.specs.declared.Vector.{Vector}
use Rattle.sweeps.specs.Sweep.{corners_to}
use Rattle.sweeps.specs.Accepted.{Sweepable, sweep_reach}
use Rattle.sweeps.specs.Counted.{CountsGrown}
use Rattle.sweeps.specs.Run.{sweep_accepted, sweep_good, sweep_able}
use Rattle.sweeps.specs.Swept.{refusal_in, ops_in, sweep_in, swept_from, corners_lent, sweep_answered, reached}

-- the formula does not see them
holes_same : (s f e v r n : ℕ) → holes_of s (f + n) (e + 2 * n) (v + n) r ≡ holes_of s f e v r
holes_same s f e v r n =
    let h : e + 2 * n + r + 2 * s - (v + n + (f + n)) ≡ e + r + 2 * s - (v + f) = omega arith in rw h

module _ {sh : Shape} {x : List ℕ} {p : List ℤ} (g : Good sh x p) {start f : ℕ} {v : Vector} (r : Sweepable sh x p start
    f v) where
  -- the counts of the table that the operators leave
  pub sweep_counts : CountsGrown (tally_of sh x) (tally_of sh (sweep_reach g r).links) (corners_to sh x f sh.loops)
  unfolding tally_of
  sweep_counts =
      let y = (sweep_reach g r).links in
      let n = corners_to sh x f sh.loops in
      let w = (sweep_reach g r).holds.grew in
      let s : solids sh y ≡ solids sh x = solids_is sh y ∙ w.solids ∙ sym (solids_is sh x) in
      let a : faces sh y ≡ faces sh x + n = omega (arith, faces_is sh y, w.faces, faces_is sh x) in
      let b : loops sh y ≡ loops sh x + n = omega (arith, loops_is sh y, w.loops, loops_is sh x) in
      let c : edges sh y ≡ edges sh x + 2 * n = omega (arith, edges_is sh y, w.edges, edges_is sh x) in
      let d : vertices sh y ≡ vertices sh x + n = omega (arith, vertices_is sh y, w.vertices, vertices_is sh x) in
      let e : rings sh y ≡ rings sh x =
      omega (arith, rings_loops sh x p g, rings_loops sh y (sweep_reach g r).points (sweep_reach g r).good, a, b) in
      record {
        solids = s;
        faces = a;
        loops = b;
        edges = omega (arith, c);
        vertices = d;
        rings = e;
        holes = rw (s, a, c, d, e) (holes_same (solids sh x) (faces sh x) (edges sh x) (vertices sh x) (rings sh x) n);
      }

module _ (e : Editing) (f : ℕ) (v : Vector) where
  module _ (h : (sweep_in e f v).answer.answer.refusal ≡ 0) where
    -- A LOOP OF n CORNERS ADDS n VERTICES, 2n EDGES AND n FACES AND LEAVES s, r AND h: for all loops together
    pub sweep_counted : CountsGrown (count_of e.links e.points)
        (count_of (swept_from e f v).links (swept_from e f v).points) (corners_lent e f)
    sweep_counted =
        let ok = (sweep_answered e f v h).0 in
        let free = (sweep_answered e f v h).1 in
        let a = whole_all e (refusal_in e f v) (ops_in e f v) ok free (sweep_accepted (log_state e) f v ok free) in
        let g = sweep_good (log_state e) f v ok free in
        let w = reached e f v ok free in
        let n = corners_lent e f in
        let s : tally_of (shape_of e.links) e.links ≡ count_of e.links e.points =
        count_done e.links e.points _ refl (entry_passed (log_state e) ok).1 (shape_of e.links) refl _ refl in
        let t : tally_of (shape_of e.links) w.links ≡ count_of w.links w.points =
        count_done w.links w.points _ refl (ap (λ (c : CheckAnswer). c.refusal) (good_checked w.good))
        (shape_of e.links) w.good.shape _ refl in
        rw (a.2, a.3) (subst (λ m. CountsGrown m (count_of w.links w.points) n) s
        (subst (λ m. CountsGrown (tally_of (shape_of e.links) e.links) m n) t
        (sweep_counts g (sweep_able (log_state e) f v ok free))))
