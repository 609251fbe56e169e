-- mef on lists: what it stores in a list that shows the columns without the edge makes it show those with it.
use Rattle.std.specs.Prelude.{◌≡◌, refl, ◌≢◌, ◌⊎◌, false, List, [], ◌∷◌, ◌++◌, ℕ, ◌*◌, ◌≤◌, ℤ}
use Rattle.std.proofs.Common.{sym, ◌∙◌, subst, inl, inr, arith}
use Rattle.laws.specs.Bools.{split}
use Rattle.laws.specs.Update.{upd_at, upd_off}
use Rattle.layout.specs.declared.shape.Shape.{Shape}
use Rattle.layout.specs.Layout.{face_solid, loop_face, loop_first}
use Rattle.layout.specs.Fields.{Field, Solid, Outer, Face, First, Isolated, Start, Loop, Next, Prev, Columns, cap_of}
use Rattle.layout.specs.Fields.{same_field, by_fields}
use Rattle.layout.specs.Writes.{Write, write, writes, changes}
use Rattle.euler.specs.Surgery.{relabel_run, loop_record, face_record, lower, renew}
use Rattle.sound_tables.specs.Cells.{Shows, shows_agree}
use Rattle.sound_tables.specs.WriteLaws.{shows_writes}
use Rattle.sound_tables.specs.Sound.{In, HalfUsed, first_of, Sound}
use Rattle.sound_tables.specs.FirstLow.{lower_new, first_low_lem}
use Rattle.sound_tables.specs.Shown.{shows_first}
use Rattle.sound_cuts.specs.FieldLaws.{half_fields, patch, patch_other, outside, settled}
use Rattle.sound_tables.specs.WriteLaws.{among_off, unwritten}
use Rattle.sound_cuts.specs.Relation.{Spot, cut_fields, l_m, Cut, used_a, used_b, around, face_l}
use Rattle.sound_cuts.specs.MefPlace.{edge_at}
use Rattle.sound_cuts.specs.Round.{names_new, round_columns, shows_round, round_other, round_in, round_off}

module _ {sh : Shape} {p : List ℤ} {c d : Columns} {q : Spot} (k : Cut sh c d q) (t : Sound sh p d) {x : List ℕ}
    (s : Shows sh x c) where
  -- as many half-edges
  abbrev n : ℕ
  n = 2 * sh.edges

  -- ---- the edge goes in

  -- the list with the edge
  abbrev z1 : List ℕ
  z1 = writes sh (edge_at q) x

  -- its columns: the loops of the run are still the old ones
  abbrev E : Columns
  E = patch (Start ∷ Next ∷ Prev ∷ []) d (changes (edge_at q) c)

  -- start is that of d
  in_start : (i : ℕ) → changes (edge_at q) c Start i ≡ d Start i
  in_start i = settled Start (edge_at q) c (d Start) i (λ e. k.start_a, (k.start_b, tt))
      (λ e g. sym (k.start_else i e g))

  -- next is that of d
  in_next : (i : ℕ) → changes (edge_at q) c Next i ≡ d Next i
  in_next i = settled Next (edge_at q) c (d Next) i
      (λ e g h. k.next_a, (λ e g. k.next_b, (λ e. k.next_P, (k.next_Q, tt))))
      (λ e g h j. sym (k.next_else i e g h j))

  -- previous is that of d
  in_prev : (i : ℕ) → changes (edge_at q) c Prev i ≡ d Prev i
  in_prev i = settled Prev (edge_at q) c (d Prev) i
      (λ e g h. k.prev_a, (λ e g. k.prev_b, (λ e. k.prev_N, (k.prev_M, tt))))
      (λ e g h j. sym (k.prev_else i e g h j))

  -- the list shows them
  shows_edged : Shows sh z1 E
  shows_edged =
      let P = (around k).0 in let N = (around k).1 in let Q = (around k).2 in let M = (around k).3 in
      let a = k.site.a_in in let b = k.site.b_in in
      shows_agree (shows_writes (edge_at q) s
      (a, (a, (a, (a, (b, (b, (b, (b, ((P.0, P.1), ((N.0, N.1), ((Q.0, Q.1), ((M.0, M.1), tt)))))))))))))
      (λ F i h. by_fields (Start ∷ Next ∷ Prev ∷ []) (λ F. changes (edge_at q) c F i ≡ E F i)
      (in_start i, (in_next i, (in_prev i, tt)))
      (λ F e. sym (patch_other (Start ∷ Next ∷ Prev ∷ []) d (changes (edge_at q) c) F e i)) F)

  -- ---- the run

  -- the columns after the walk
  abbrev R : Columns
  R = round_columns shows_edged t.rules.loops q.b (used_b k) q.m

  -- the other columns are as they were
  run_other : (F : Field) → same_field Loop F ≡ false → (i : ℕ) → R F i ≡ E F i
  run_other = round_other shows_edged t.rules.loops q.b (used_b k) q.m

  -- what is not of the run keeps its loop
  run_off : (i : ℕ) → (i ≡ q.b) ⊎ (d Loop i ≢ d Loop q.b) → R Loop i ≡ E Loop i
  run_off = round_off shows_edged t.rules.loops q.b (used_b k) q.m

  -- the loops are those of d
  run_loop_lem : (i : ℕ) → i ≤ n → R Loop i ≡ d Loop i
  run_loop_lem i h = split (d Loop i) q.m
      (λ e. split i q.b
      (λ g. run_off i (inl g) ∙ upd_at _ _ g ∙ sym e)
      (λ g. round_in shows_edged t.rules.loops q.b (used_b k) q.m i (names_new k t i h e)
      (e ∙ sym k.loop_b) g ∙ sym e))
      (λ e. run_off i (inr (λ g. e (g ∙ k.loop_b))) ∙ settled Loop (edge_at q) c (d Loop) i
      (λ g. k.loop_a, (k.loop_b, tt)) (λ g f. sym (k.loop_else i h g e)))

  -- the columns of the half-edges are d's, the others still c's
  abbrev H : Columns
  H = patch half_fields d c

  -- so they are
  run_same : (F : Field) (i : ℕ) → i ≤ cap_of sh F → R F i ≡ H F i
  run_same F i = by_fields half_fields (λ F. i ≤ cap_of sh F → R F i ≡ H F i)
      (λ h. run_other Start refl i, (run_loop_lem i, (λ h. run_other Next refl i, (λ h. run_other Prev refl i, tt))))
      (λ F e h. run_other F (among_off half_fields Loop F refl e) i
      ∙ patch_other (Start ∷ Next ∷ Prev ∷ []) d (changes (edge_at q) c) F
      (outside half_fields (Start ∷ Next ∷ Prev ∷ []) refl F e) i
      ∙ unwritten half_fields (edge_at q) refl c F e i ∙ sym (patch_other half_fields d c F e i)) F

  -- the list after the walk
  abbrev z2 : List ℕ
  z2 = relabel_run sh z1 q.M q.b q.m

  -- shows them
  shows_run : Shows sh z2 H
  shows_run = subst (λ i. Shows sh (relabel_run sh z1 i q.b q.m) H) k.next_b
      (shows_agree (shows_round shows_edged t.rules.loops q.b (used_b k) q.m) run_same)

  -- ---- the records of loop and face, and the firsts

  -- what names a loop in d is in use
  names : (l : ℕ) → In sh.loops l → (i : ℕ) → In n i → d Loop i ≡ l → HalfUsed sh d i
  names l y i j e = (j.0, j.1, λ z. omega (arith, y.0, sym e ∙ (t.half_free i j z).loop))

  -- the solid of l's face, as it is read
  solid_read : face_solid sh x (loop_face sh x q.l) ≡ c Solid (c Face q.l)
  solid_read =
      let e = s.at Face q.l k.site.l_in.1 in
      let g = face_l k in
      let r = t.loop q.l k.site.l_in (λ z. k.site.l_used (sym g ∙ z)) in
      rw e (s.at Solid (c Face q.l) (subst (λ y. y ≤ sh.faces) g r.face_in_lem.1))

  -- the new loop and the new face, in solid o
  abbrev records_at : ℕ → List Write
  records_at o = loop_record q.m q.f 0 0 ++ face_record q.f o q.m

  -- where the firsts are looked for
  abbrev low : ℕ → ℕ
  low g = lower g (lower q.a q.b)

  -- the list after mef
  abbrev pub cut_list : List ℕ
  cut_list =
      renew sh
      (renew sh (writes sh (records_at (face_solid sh x (loop_face sh x q.l))) z2) q.l (low (loop_first sh x q.l))
      q.a 0)
      q.m (low (loop_first sh x q.l)) q.b 0

  -- loop and face as they are written
  abbrev records : List Write
  records = records_at (c Solid (c Face q.l))

  -- the columns with them
  abbrev e3 : Columns
  e3 = changes records H

  -- the firsts
  abbrev firsts : List Write
  firsts =
      write First q.l (first_of sh d q.l) ∷ write Isolated q.l 0 ∷ write First q.m (first_of sh d q.m)
      ∷ write Isolated q.m 0 ∷ []

  -- with them these are the columns of d
  last : (F : Field) (i : ℕ) → changes firsts e3 F i ≡ d F i
  last F i =
      let l_used = t.loop q.l k.site.l_in
      (λ z. k.site.l_used (sym (face_l k) ∙ z)) in
      let m_used = t.loop q.m k.site.m_in (λ z. omega (arith, k.site.f_in.0, sym k.face_new ∙ z)) in
      let solid = settled Solid records H (d Solid) i (k.solid_new, tt) (λ e. sym (k.solid_else i e)) in
      let outer = settled Outer records H (d Outer) i (k.outer_new, tt) (λ e. sym (k.outer_else i e)) in
      let face = settled Face records H (d Face) i (k.face_new, tt) (λ e. sym (k.face_else i e)) in
      let first = settled First firsts e3 (d First) i (λ e. l_used.first, (m_used.first, tt))
      (λ e g. upd_off _ _ g ∙ sym (k.first_else i e g)) in
      let isolated = settled Isolated firsts e3 (d Isolated) i (λ e. k.isolated_l, (k.isolated_m, tt))
      (λ e g. upd_off _ _ g ∙ sym (k.isolated_else i e g)) in
      by_fields cut_fields (λ F. changes firsts e3 F i ≡ d F i)
      (solid, (outer, (face, (first, (isolated, (refl, (refl, (refl, (refl, tt)))))))))
      (λ F e. unwritten cut_fields firsts refl e3 F e i ∙ unwritten cut_fields records refl H F e i
      ∙ patch_other half_fields d c F (outside cut_fields half_fields refl F e) i ∙ sym (k.others F e i)) F

  -- the list after mef shows the columns with the edge
  pub cut_shows : Sound sh p c → Shows sh cut_list d
  cut_shows r = rw (solid_read, s.at First q.l k.site.l_in.1) (
      let m = k.site.m_in in
      let f = k.site.f_in in
      let s3 = shows_writes records shows_run (m, (m, (m, (f, (f, tt))))) in
      let s4 = shows_first {U = HalfUsed sh d} s3 q.l (low (c First q.l)) q.a 0 k.site.l_in
      t.rules.loops (used_a k)
      k.loop_a (names q.l k.site.l_in) low_l in
      let s5 = shows_first {U = HalfUsed sh d} s4 q.m (low (c First q.l)) q.b 0 m t.rules.loops (used_b k)
      k.loop_b
      (names q.m m) low_m in
      shows_agree s5 (λ F i h. last F i))
    where
      -- none of l is below that
      low_l : (i : ℕ) → In n i → d Loop i ≡ q.l → low (c First q.l) ≤ i
      low_l i j e = lower_new (c First q.l) q.a q.b i k.site.a_in.0
          (λ f g. first_low_lem r q.l i k.site.l_in.0 j
          (sym (k.loop_else i j.1 f (λ z. l_m k.site (sym e ∙ z))) ∙ e))

      -- nor of m
      low_m : (i : ℕ) → In n i → d Loop i ≡ q.m → low (c First q.l) ≤ i
      low_m i j e = lower_new (c First q.l) q.a q.b i k.site.a_in.0
          (λ f g. first_low_lem r q.l i k.site.l_in.0 j (k.loop_new i j.1 g e))
