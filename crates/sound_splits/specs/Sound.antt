-- A division keeps a table sound, and so does its undoing.
use Rattle.std.specs.Prelude.{◌≡◌, ◌≢◌, List, ℕ, ◌≤◌, ℤ}
use Rattle.std.proofs.Common.{sym, ap, ◌∙◌, subst, arith}
use Rattle.laws.specs.Bools.{split}
use Rattle.laws.specs.Update.{upd_same}
use Rattle.laws.specs.Cycles.{alone as lonely}
use Rattle.layout.specs.declared.shape.Shape.{Shape}
use Rattle.layout.specs.Mate.{mate}
use Rattle.layout.specs.MateLaws.{mate_mate}
use Rattle.layout.specs.Fields.{Isolated, Start, Loop, VertexUsed, Columns}
use Rattle.sound_tables.specs.Sound.{In, HalfUsed, VertexSound, alone, joined, PointSound, Sound}
use Rattle.sound_tables.specs.Names.{start_unnamed, isolated_unnamed}
use Rattle.sound_splits.specs.Relation.{Split, fore, off_n, off_b, n≢m, loop_old, used_old, used_was}
use Rattle.sound_splits.specs.SplitRules.{fore_in, start_fore, split_rules, without_n, join_rules}
use Rattle.sound_splits.specs.Carried.{Matched, Started, vertex_carried, carried}

module _ {sh : Shape} {c d : Columns} {k n v : ℕ} (r : Split sh c d k n v) where
  open r use {place as o}

  -- n lies with k, and b with m
  matched_after : ((i : ℕ) → HalfUsed sh c i → HalfUsed sh c (mate i)) → Matched sh c d
  matched_after mates =
      used_was r (λ i. (j : ℕ) × HalfUsed sh c j × (d Loop i ≡ c Loop j) × (d Loop (mate i) ≡ c Loop (mate j)))
      (k, o.k_used, r.loop_n, r.loop_b)
      (mate k, o.m_used, r.loop_b, ap (d Loop) (mate_mate n) ∙ r.loop_n ∙ ap (c Loop) (sym (mate_mate k)))
      (λ i u. (i, u, loop_old r i u, loop_old r (mate i) (mates i u)))

  -- the others with themselves
  matched_before : ((i : ℕ) → HalfUsed sh c i → HalfUsed sh c (mate i)) → Matched sh d c
  matched_before mates i u = (i, used_old r i u, sym (loop_old r i u), sym (loop_old r (mate i) (mates i u)))

  -- where an old vertex has a half-edge before, it has one after
  started_after : (w : ℕ) → 1 ≤ w → Started sh c w → Started sh d w
  started_after w h s = split s.0 (mate k)
      (λ e. (mate n, o.b_in, r.start_b ∙ ap (c Start) (sym e) ∙ s.2))
      (λ e.
      let f : s.0 ≢ n = λ z. omega (arith, h, sym s.2 ∙ ap (c Start) z ∙ o.n_free) in
      let g : s.0 ≢ mate n = λ z. omega (arith, h, sym s.2 ∙ ap (c Start) z ∙ o.b_free) in
      (s.0, s.1, r.start s.0 e f g ∙ s.2))

  -- and the other way round
  started_before : (w : ℕ) → w ≢ v → Started sh d w → Started sh c w
  started_before w h s = split s.0 (mate n)
      (λ e. (mate k, (o.m_used.0, o.m_used.1), sym r.start_b ∙ ap (d Start) (sym e) ∙ s.2))
      (λ e.
      let f : s.0 ≢ mate k = λ z. h (sym s.2 ∙ ap (d Start) z ∙ r.start_m) in
      let g : s.0 ≢ n = λ z. h (sym s.2 ∙ ap (d Start) z ∙ r.start_n) in
      (s.0, s.1, sym (r.start s.0 f g e) ∙ s.2))

  -- a vertex in use in c is not v, and in use in d
  used_after : (w : ℕ) → c VertexUsed w ≢ 0 → (w ≢ v) × (d VertexUsed w ≢ 0)
  used_after w h =
      let e : w ≢ v = λ z. h (ap (c VertexUsed) z ∙ o.v_free) in
      (e, λ z. h (sym (r.used w e) ∙ z))

  -- ---- from c to d

  -- the table after the division is sound
  pub split_sound : {p q : List ℤ} → Sound sh p c → ((w : ℕ) → In sh.vertices w → PointSound q d w) → Sound sh q d
  split_sound a points = carried a r.others r.isolated r.tidy_d (matched_after a.rules.mate_in)
      (matched_before a.rules.mate_in)
      (λ l i h u. (used_after (c Isolated l) u).1)
      (used_was r (λ i. In sh.vertices (d Start i) × (d VertexUsed (d Start i) ≢ 0)) (at_v n r.start_n)
      (old (mate k) o.m_used (mate n) r.start_b)
      (λ i u. split i (mate k) (λ e. at_v i (ap (d Start) e ∙ r.start_m))
      (λ e. old i u i (r.start i e (off_n o i u) (off_b o i u)))))
      (λ w i h. split w v
      (λ e. subst (VertexSound sh d) (sym e)
      (joined (λ l j z. isolated_unnamed a v o.v_in o.v_free l j (sym (r.isolated l) ∙ z)) n o.n_in
      r.start_n))
      (λ e. vertex_carried w r.isolated (started_after w i.0) (started_before w e)
      (a.vertex w i (λ z. h (r.used w e ∙ z)))))
      points
      (split_rules r a.rules (λ i u. start_unnamed a v o.v_in o.v_free i (u.0, u.1)))
    where
      -- one that starts at v
      at_v : (i : ℕ) → d Start i ≡ v → In sh.vertices (d Start i) × (d VertexUsed (d Start i) ≢ 0)
      at_v i e = rw e (o.v_in, r.v_used)

      -- one that starts where one started before
      old : (j : ℕ) → HalfUsed sh c j → (i : ℕ) → d Start i ≡ c Start j → In sh.vertices (d Start i)
          × (d VertexUsed (d Start i) ≢ 0)
      old j u i e =
          let s = a.half j (u.0, u.1) u.2 in
          rw e (s.start_in, (used_after (c Start j) s.start_used).1)

  -- ---- from d to c

  -- the table before the division is sound
  pub join_sound : {p q : List ℤ} → Sound sh p d → ((w : ℕ) → In sh.vertices w → PointSound q c w) → Sound sh q c
  join_sound a points = carried a (λ F e i. sym (r.others F e i)) (λ l. sym (r.isolated l)) r.tidy_c
      (matched_before mates) (matched_after mates)
      (λ l i h u. keep (d Isolated l)
      (not_isolated l i (a.vertex v o.v_in r.v_used)) u)
      (λ i u.
      let w = fore_in r i u in
      let s = a.half (fore k n i) (w.0.0.0, w.0.0.1) w.0.0.2 in
      let e = start_fore r i u in
      let h : d VertexUsed (c Start i) ≢ 0 = rw e at s.start_used in
      (rw e at s.start_in, keep (c Start i) (not_v i u) h))
      (λ w i h. let u = used_after w h in vertex_carried w (λ l. sym (r.isolated l)) (started_before w u.0)
      (started_after w i.0) (a.vertex w i u.1))
      points
      (join_rules r a.rules)
    where
      -- mates are in use
      mates : (i : ℕ) → HalfUsed sh c i → HalfUsed sh c (mate i)
      mates = (join_rules r a.rules).mate_in

      -- another vertex in use stays so
      keep : (w : ℕ) → w ≢ v → d VertexUsed w ≢ 0 → c VertexUsed w ≢ 0
      keep w e h z = h (r.used w e ∙ z)

      -- v is isolated in no loop: n starts there
      not_isolated : (l : ℕ) → In sh.loops l → VertexSound sh d v → d Isolated l ≢ v
      not_isolated l i (alone l' j e u s) z = s n o.n_in r.start_n
      not_isolated l i (joined s m j e) z = s l i z

      -- none but m and n start at v
      not_v : (i : ℕ) → HalfUsed sh c i → c Start i ≢ v
      not_v i u z =
          let w = fore_in r i u in
          w.1 (lonely (without_n r a.rules) (used_old r (mate k) o.m_used, λ y. n≢m o (sym y))
          (upd_same _ (mate k) (mate k)) (fore k n i) w.0 (start_fore r i u ∙ z ∙ sym r.start_m))
