-- kemr on the list: what it leaves shows the columns without the bridge, so a marked table stays marked.
use Rattle.std.specs.Prelude.{◌≡◌, refl, ◌≢◌, ◌⊎◌, List, ℕ, ◌*◌, ◌≤◌, eqb, ℤ}
use Rattle.std.proofs.Common.{sym, ap, ◌∙◌, inl, inr, ⊎_elim, arith}
use Rattle.laws.specs.Bools.{pick, split, eqb_same, eqb_other}
use Rattle.laws.specs.Search.{least_ext}
use Rattle.laws.specs.Permutations.{iter_in}
use Rattle.laws.specs.Cycles.{Cycles}
use Rattle.layout.specs.declared.shape.Shape.{Shape}
use Rattle.euler.specs.Surgery.{loop_record, relabel_run, renew}
use Rattle.sound_tables.specs.EdgeIn.{prev_in}
use Rattle.layout.specs.Fields.{Capacity, Face, First, Isolated, Loop, Next, Prev, Columns}
use Rattle.sound_tables.specs.Cells.{Shows}
use Rattle.sound_tables.specs.WriteLaws.{shows_writes}
use Rattle.sound_tables.specs.Sound.{In, HalfUsed, first_of, Sound}
use Rattle.sound_tables.specs.Labels.{label_none}
use Rattle.sound_tables.specs.Names.{named_used, lone_unnamed}
use Rattle.sound_tables.specs.Walking.{run_columns, shows_relabel}
use Rattle.sound_tables.specs.FirstLow.{first_low_lem}
use Rattle.sound_tables.specs.Shown.{with_first, shows_no_edge, shows_first, shows_isolated}
use Rattle.sound_tables.specs.Good.{own, Marked, marked_shows, marked_after}
use Rattle.sound_bridges.specs.Relation.{Corner, HasCorner, found_at, Bridge, derived, corner1, corner2}
use Rattle.sound_bridges.specs.Relation.{Bridged, off_k, off_a, new_a}
use Rattle.sound_bridges.specs.KemrSound.{down_sound}
use Rattle.sound_bridges.specs.KemrRules.{down_rules}
use Rattle.sound_bridges.specs.KemrColumns.{span_bridge, parted_list, kemr_list, cut_columns, kemr_columns, Span, walk}
use Rattle.sound_bridges.specs.KemrColumns.{down_bridged, down_first, down_first_2}

module _ {sh : Shape} {x : List ℕ} {p : List ℤ} (g : Marked sh x p) {k l2 : ℕ} (o : Span sh (own sh x) k l2) where
  -- the columns before
  abbrev d : Columns
  d = own sh x

  -- the length of the walk
  abbrev t : ℕ
  t = (walk g.sound o).0

  -- the bridge
  abbrev B : Bridge
  B = span_bridge (own sh x) k l2

  open derived sh B use {n, a}
  open B use {l}

  -- the columns before the two loops have their firsts
  abbrev cut : Columns
  cut = cut_columns (own sh x) k l2 (walk g.sound o).0

  -- the columns afterwards
  abbrev c : Columns
  c = kemr_columns sh (own sh x) k l2 (walk g.sound o).0

  -- before and after
  b : Bridged sh (kemr_columns sh (own sh x) k l2 (walk g.sound o).0) (own sh x) (span_bridge (own sh x) k l2)
  b = down_bridged g.sound o

  open b.ends use {loop_in, ring_in, at_1, at_2, in_1, in_2}

  -- the columns are sound
  pub kemr_sound : Sound sh p (kemr_columns sh (own sh x) k l2 (walk g.sound o).0)
  kemr_sound = down_sound g.sound b (down_rules g.sound b) (down_first g.sound o) (down_first_2 g.sound o)

  -- the list shows the columns up to there
  cut_shows : Shows sh (parted_list sh x k l2) cut
  cut_shows =
      let perm = g.sound.rules.loops.perm in
      let w = walk g.sound o in
      let uk = o.half in
      let ua = new_a b in
      let N2 = perm.f_in k uk in
      let N1 = perm.f_in a ua in
      let P1 = prev_in g.sound.rules k uk in
      let P2 = prev_in g.sound.rules a ua in
      let s1 : Shows sh (relabel_run sh x (d Next k) a l2) (run_columns d (d Next k) t l2) =
      shows_relabel sh n t x d (d Next k) a l2 (marked_shows g) (omega (arith, w.1)) w.2
      (λ i h. let v = iter_in perm i (d Next k) N2 in (v.0, v.1)) in
      let s2 = shows_no_edge s1 k (d Prev k) (d Next a) (d Prev a) (d Next k) (uk.0, uk.1) (ua.0, ua.1)
      (P1.0, P1.1) (N1.0, N1.1) (P2.0, P2.1) (N2.0, N2.1) in
      shows_writes (loop_record l2 (d Face l) 0 0) s2 (ring_in, (ring_in, (ring_in, tt)))

  -- an isolated loop has no first
  no_first : (m : ℕ) → In sh.loops m → c Isolated m ≢ 0 → first_of sh c m ≡ 0
  no_first m i h = label_none (2 * sh.edges) (c Loop) m (lone_unnamed kemr_sound m i h)

  -- what names the ring or the loop afterwards named the loop before
  from : (m : ℕ) → In sh.loops m → (m ≡ l2) ⊎ (m ≡ l) → (i : ℕ) → In n i → c Loop i ≡ m → d First l ≤ i
  from m r w i j e =
      let u = named_used kemr_sound r.0 i j e in
      let was : d Loop i ≡ l = split (c Loop i) l2 (b.loop_2 i j)
      (λ z. b.loop_o i (off_k b i u) (off_a b i u) z ∙ ⊎_elim (λ q. absurd (z (e ∙ q))) (λ q. e ∙ q) w) in
      (first_low_lem g.sound l i loop_in.0 j was).1

  -- a loop with the corner at N gets its first, or is isolated at u
  renewed : {y : List ℕ} {e : Columns} (s : Corner) → Shows sh y e
      → Cycles (2 * sh.edges) (HalfUsed sh c) (e Next) (e Loop)
      → ((i : ℕ) → e Loop i ≡ c Loop i) → HasCorner sh c s → In sh.loops s.l → In sh.vertices s.u
      → ((i : ℕ) → HalfUsed sh c i → i ≢ s.k) → (s.l ≡ l2) ⊎ (s.l ≡ l)
      → Shows sh (renew sh y s.l (own sh x First (own sh x Loop k)) (found_at s) s.u)
      (with_first e s.l (first_of sh e s.l) (pick (eqb s.N s.k) s.u 0))
  renewed {e = e} s v cy el q i h off which = ⊎_elim
      (λ r.
      let f : first_of sh e s.l ≡ 0 = least_ext (2 * sh.edges) _ _ (λ j v w. ap (λ y. eqb y s.l) (el j))
      ∙ no_first s.l i (λ y. omega (arith, h.0, sym r.isolated ∙ y)) in
      rw (eqb_same r.after, f) (shows_isolated v s.l (d First l) s.u i))
      (λ r. rw (eqb_other (off s.N r.after))
      (shows_first {U = HalfUsed sh c} v s.l (d First l) s.N s.u i cy r.after (el s.N ∙ r.loop)
      (λ j v w. named_used kemr_sound i.0 j v (sym (el j) ∙ w))
      (λ j v w. from s.l i which j v (sym (el j) ∙ w)))) q

  -- the list shows these columns
  pub kemr_shows : Shows sh (kemr_list sh x k l2) (kemr_columns sh (own sh x) k l2 (walk g.sound o).0)
  kemr_shows =
      let cy = kemr_sound.rules.loops in
      let s2 = renewed (corner2 B) cut_shows cy (λ i. refl) at_2 ring_in in_2 (off_a b) (inl refl) in
      renewed (corner1 B) s2 cy (λ i. refl) at_1 loop_in in_1 (off_k b) (inr refl)

  -- the table is marked afterwards
  pub kemr_good : Marked sh (kemr_list sh x k l2) p
  kemr_good = marked_after g kemr_shows (λ i. sym (b.others Capacity refl i)) refl kemr_sound
