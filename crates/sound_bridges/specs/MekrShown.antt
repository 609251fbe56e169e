-- mekr on the list: what it leaves shows the columns with the bridge, so a marked table stays marked. The walk that
-- gives the ring its new loop meets the ring's half-edges and no others.
use Rattle.std.specs.Prelude.{◌≡◌, refl, ◌≢◌, List, [], ◌∷◌, ℤ}
use Rattle.std.proofs.Common.{sym, ap, ◌∙◌, subst, ⊎_elim, arith}
use Prim.Native.Nat.{ℕ, zero, suc, ◌≤◌, ◌<◌}
use Rattle.laws.specs.Bools.{split}
use Rattle.laws.specs.Update.{relabel_off}
use Rattle.laws.specs.Permutations.{iter, iter_in, inj, Perm}
use Rattle.laws.specs.Cycles.{Cycles, forwards}
use Rattle.layout.specs.declared.shape.Shape.{Shape}
use Rattle.layout.specs.Fields.{Field, First, Loop, Next, Columns, cap_of, loop_kind, by_fields}
use Rattle.layout.specs.Writes.{cleared, changes}
use Rattle.euler.specs.Surgery.{relabel_run, lower}
use Rattle.sound_tables.specs.Cells.{Shows, shows_agree, upd_near}
use Rattle.sound_tables.specs.WriteLaws.{shows_writes, among_off, with_column, column_off}
use Rattle.sound_tables.specs.Sound.{In, HalfUsed, Sound}
use Rattle.sound_tables.specs.Names.{named_used, lone_unnamed}
use Rattle.sound_tables.specs.Walking.{Steps, run_columns, shows_relabel, run_met, run_off, run_other}
use Rattle.sound_tables.specs.FirstLow.{lower_one, lower_other, lower_new, first_low_lem}
use Rattle.sound_tables.specs.Shown.{shows_edge, shows_first}
use Rattle.sound_tables.specs.Good.{own, Marked, marked_shows, marked_after}
use Rattle.sound_bridges.specs.Relation.{corner_away, before_in, after_in, Bridge, derived, Ends}
use Rattle.sound_bridges.specs.Relation.{Bridged, off_k, off_a, new_k, new_a, half_stays}
use Rattle.sound_bridges.specs.MekrSound.{up_sound}
use Rattle.sound_bridges.specs.MekrRules.{up_rules}
use Rattle.sound_bridges.specs.MekrColumns.{edge_list, mekr_list, bridge_writes, joined_loops}
use Rattle.sound_bridges.specs.MekrColumns.{mekr_columns, up_bridged, up_first, up_first_2}
use Rattle.sound_bridges.specs.Runs.{Met, met?, run_to, met_in, met_next, met_first}

module _ {sh : Shape} {x : List ℕ} {p : List ℤ} (g : Marked sh x p) {B : Bridge} (o : Ends sh (own sh x) B) where
  open derived sh B use {n, a}
  open B use {k, l, l2, u1, P1, N1, u2, P2, N2}
  open o use {half_in, mate_in, loop_in, ring_in, two, at_1, at_2, in_2, keeps}

  -- the columns before
  abbrev c : Columns
  c = own sh x

  -- the columns with the edge, before the ring has its new loop
  abbrev e₀ : Columns
  e₀ = changes (bridge_writes B) (own sh x)

  -- the columns afterwards
  abbrev d : Columns
  d = mekr_columns sh (own sh x) B

  -- before and after
  b : Bridged sh (own sh x) (mekr_columns sh (own sh x) B) B
  b = up_bridged o

  -- the columns are sound
  pub mekr_sound : Sound sh p (mekr_columns sh (own sh x) B)
  mekr_sound = up_sound g.sound b (up_rules g.sound b) (up_first o) (up_first_2 o)

  -- ---- the walk

  -- next runs along the loops
  cycles : Cycles n (HalfUsed sh d) (d Next) (d Loop)
  cycles = mekr_sound.rules.loops

  -- it permutes the half-edges
  perm : Perm n (HalfUsed sh d) (d Next)
  perm = cycles.perm

  -- what follows k is in use
  N2_in : HalfUsed sh d (d Next k)
  N2_in = perm.f_in k (new_k b)

  -- the walk from next of k to its mate
  run : (t : ℕ) × (t < n) × Steps (d Next) (d Next k) a t
  run = run_to cycles N2_in (new_a b) (cycles.keeps k (new_k b) ∙ b.loop_k ∙ sym b.loop_a)

  -- i is met on the way
  abbrev OnRun : ℕ → Type 0
  OnRun i = Met (d Next) (d Next k) run.0 i

  -- what stands before the mate is in use
  P2_in : HalfUsed sh d P2
  P2_in = ⊎_elim (λ r. subst (HalfUsed sh d) (sym r.before) (new_k b)) (λ r. half_stays b P2 r.before) at_2

  -- one step of the ring stays on the run
  step : c Next P2 ≡ N2 → OnRun N2 → (j : ℕ) → OnRun j → HalfUsed sh c j → c Loop j ≡ l2 → OnRun (c Next j)
  step f first j m v q = split j P2
      (λ e. subst OnRun (sym (ap (c Next) e ∙ f)) first)
      (λ e.
      let ja = off_a b j v in
      let j1 = corner_away at_1 keeps ja (λ h. two (sym h ∙ q)) in
      let s : d Next j ≡ c Next j = b.next_o j (off_k b j v) ja j1 e in
      ⊎_elim (λ h. absurd (e (inj perm (met_in cycles N2_in m).0 P2_in (h ∙ sym b.next_2)))) (λ h. subst OnRun s h)
      (met_next perm (new_k b) run.2 m))

  -- so does the whole ring
  steps : c Next P2 ≡ N2 → OnRun N2 → (m j : ℕ) → OnRun j → HalfUsed sh c j → c Loop j ≡ l2 → OnRun (iter (c Next) m j)
  unfolding iter
  steps f first zero j t v q = t
  steps f first (suc m) j t v q =
      steps f first m (c Next j) (step f first j t v q) (g.sound.rules.loops.perm.f_in j v) (keeps j v ∙ q)

  -- it meets every half-edge of the ring
  all_met : (i : ℕ) → HalfUsed sh c i → c Loop i ≡ l2 → OnRun i
  all_met i w z = ⊎_elim
      (λ r. absurd (lone_unnamed g.sound l2 ring_in (λ q. omega (arith, in_2.0, sym r.isolated ∙ q)) i
      (w.0, w.1) z))
      (λ r.
      let m = forwards g.sound.rules.loops.perm
      (g.sound.rules.loops.one N2 i r.after w (r.loop ∙ sym z)) in
      let first : OnRun N2 = subst OnRun b.next_k
      (met_first perm (new_k b) run.2 (λ e. off_a b N2 r.after (sym b.next_k ∙ e))) in
      subst OnRun m.0.1 (steps r.next first m.0.0 N2 first r.after r.loop))
      at_2

  -- so the loops come out as they should
  loop_agree : (i : ℕ) → i ≤ n → run_columns e₀ (d Next k) run.0 l Loop i ≡ joined_loops c B i
  loop_agree i h = ⊎_elim
      (λ m. ap (run_columns e₀ (d Next k) run.0 l Loop) (sym m.2) ∙ run_met e₀ run.0 (d Next k) l m.0 m.1
      ∙ sym ((met_in cycles N2_in m).1 ∙ cycles.keeps k (new_k b) ∙ b.loop_k))
      (λ m. run_off e₀ run.0 (d Next k) l i m
      ∙ upd_near _ _ a l i (upd_near _ _ k l i (sym (relabel_off (c Loop) l2 l (not_ring m)))))
      (met? (d Next) run.0 (d Next k) i)
    where
      -- one that is not met does not name the ring
      not_ring : ((t : ℕ) → t < run.0 → iter (d Next) t (d Next k) ≢ i) → c Loop i ≢ l2
      not_ring m z =
          let i0 : 1 ≤ i = split i 0 (λ e. absurd (omega (arith, ring_in.0, sym z ∙ ap (c Loop) e)))
          (λ e. omega (arith, e)) in
          let t = all_met i (named_used g.sound ring_in.0 i (i0, h) z) z in m t.0 t.1 t.2

  -- and all other columns
  run_agree : (F : Field) (i : ℕ) → i ≤ cap_of sh F
      → run_columns e₀ (d Next k) run.0 l F i ≡ with_column e₀ Loop (joined_loops c B) F i
  run_agree = by_fields (Loop ∷ [])
      (λ F. (i : ℕ) → i ≤ cap_of sh F → run_columns e₀ (d Next k) run.0 l F i
      ≡ with_column e₀ Loop (joined_loops c B) F i)
      (loop_agree, tt)
      (λ F q i h. let f = among_off (Loop ∷ []) Loop F refl q in
      run_other e₀ run.0 (d Next k) l F f i ∙ sym (column_off e₀ Loop (joined_loops c B) F f i))

  -- ---- the list

  -- where the first of l is looked for
  abbrev low : ℕ
  low = lower (own sh x First l) (lower (own sh x First l2) (lower k a))

  -- what names l is new, or named l or l2 before
  from : (i : ℕ) → In n i → d Loop i ≡ l → low ≤ i
  from i j e = split (c Loop i) l
      (λ z. let f = first_low_lem g.sound l i loop_in.0 j z in lower_one (c First l) _ i f.0 f.1)
      (λ z. lower_other (c First l) _ i (lower_new (c First l2) k a i half_in.0 (λ f h. split (c Loop i) l2
      (λ y. first_low_lem g.sound l2 i ring_in.0 j y)
      (λ y. absurd (z (sym (b.loop_o i f h y) ∙ e))))))

  -- the walk shows the joined loops
  joined_shows : Shows sh (relabel_run sh (edge_list sh x B) N2 a l) (with_column e₀ Loop (joined_loops c B))
  joined_shows =
      let s1 : Shows sh (edge_list sh x B) e₀ = shows_edge (marked_shows g) k u1 l N2 P1 u2 l N1 P2 half_in mate_in
      (after_in at_2 mate_in) (before_in at_1 mate_in) (after_in at_1 half_in) (before_in at_2 half_in) in
      let s2 : Shows sh (relabel_run sh (edge_list sh x B) (d Next k) a l) (run_columns e₀ (d Next k) run.0 l) =
      shows_relabel sh n run.0 _ e₀ (d Next k) a l s1 (omega (arith, run.1)) run.2
      (λ t h. let w = iter_in perm t (d Next k) N2_in in (w.0, w.1)) in
      subst (λ z. Shows sh (relabel_run sh (edge_list sh x B) z a l) (with_column e₀ Loop (joined_loops c B))) b.next_k
      (shows_agree s2 run_agree)

  -- the list shows these columns
  pub mekr_shows : Shows sh (mekr_list sh x B) (mekr_columns sh (own sh x) B)
  mekr_shows =
      shows_first {U = HalfUsed sh d} (shows_writes (cleared loop_kind l2) joined_shows
      (ring_in, (ring_in, (ring_in, tt))))
      l low k 0 loop_in cycles (new_k b) b.loop_k
      (named_used mekr_sound loop_in.0) from

  -- the table is marked afterwards
  pub mekr_good : Marked sh (mekr_list sh x B) p
  mekr_good = marked_after g mekr_shows (λ i. refl) refl mekr_sound
