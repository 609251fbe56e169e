-- kef on lists: what it stores in a list that shows the columns with the edge makes it show those without it.
use Rattle.std.specs.Prelude.{◌≡◌, refl, ◌≢◌, Bool, false, List, [], ◌∷◌, ◌++◌, ℕ, ◌*◌, ◌≤◌, eqb, ℤ}
use Rattle.std.proofs.Common.{sym, ap, ◌∙◌, subst, inl, inr, ⊎_elim, arith}
use Rattle.laws.specs.Bools.{pick, pick_ind, split, eqb_same}
use Rattle.layout.specs.declared.shape.Shape.{Shape}
use Rattle.layout.specs.Layout.{loop_first}
use Rattle.layout.specs.Fields.{Field, Solid, Outer, Face, First, Isolated, Start, Loop, Next, Prev, Columns, cap_of}
use Rattle.layout.specs.Fields.{face_kind, loop_kind, half_kind, same_field, by_fields}
use Rattle.layout.specs.Writes.{Write, write, cleared, writes, changes}
use Rattle.euler.specs.Surgery.{tied, relabel_run, lower, renew}
use Rattle.sound_tables.specs.Cells.{Shows, shows_agree}
use Rattle.sound_tables.specs.WriteLaws.{shows_writes}
use Rattle.sound_tables.specs.Sound.{In, HalfUsed, first_of, Sound}
use Rattle.sound_tables.specs.Names.{named_used, lone_used}
use Rattle.sound_tables.specs.FirstLow.{lower_one, lower_other, first_low_lem}
use Rattle.sound_tables.specs.Shown.{with_first, shows_first, shows_isolated}
use Rattle.sound_tables.specs.WriteLaws.{among_off, unwritten}
use Rattle.sound_cuts.specs.FieldLaws.{half_fields, patch, patch_other, outside, settled}
use Rattle.sound_cuts.specs.Relation.{Spot, tie_p, tie_n, tie_p', tie_n', rest_of, AtA, AtB, seat, off_a}
use Rattle.sound_cuts.specs.Relation.{first_corner, cut_fields, Cut, used_b, around, a_seated, b_seated}
use Rattle.sound_cuts.specs.Round.{names_new, round_columns, shows_round, round_other, round_in, round_off}

-- the edge comes out: the ties, and both halves cleared
abbrev pub edge_off : Spot → List Write
edge_off q =
    tied (tie_p q) (tie_n q) ++ (tied (tie_p' q) (tie_n' q) ++ (cleared half_kind q.b ++ cleared half_kind q.a))

-- its face and its loop are cleared
abbrev pub face_off : Spot → List Write
face_off q = cleared face_kind q.f ++ cleared loop_kind q.m

-- ---- who is tied to whom

module _ {sh : Shape} {c d : Columns} {q : Spot} (k : Cut sh c d q) where
  -- p and n follow each other in c, unless they are of the edge
  abbrev Follow : ℕ → ℕ → Type 0
  Follow p n = (p ≢ q.b → p ≢ q.a → c Next p ≡ n) × (n ≢ q.b → n ≢ q.a → c Prev n ≡ p)

  -- so it is with the first two
  tie : Follow (tie_p q) (tie_n q)
  tie = go k.site.near.at_a k.site.near.at_b
    where
      -- in each case
      go : AtA sh c q → AtB sh c q → Follow (tie_p q) (tie_n q)
      go (inr o) B = let e = a_seated k.site o.after in
          (λ x y. rw e o.next, λ x y. rw e o.prev)
      go (inl o) (inr r) =
          let e = eqb_same o.after in
          let g = b_seated k.site r.after in
          (λ x y. rw (e, g) (r.next ∙ rw e), λ x y. rw (e, g) (ap (c Prev) (sym (rw e)) ∙ r.prev))
      go (inl o) (inl r) =
          let e = eqb_same o.after in
          let g = eqb_same r.after in
          (λ x y. absurd (x (rw e r.before)), λ x y. absurd (y (rw g o.after)))

  -- and with the others
  tie' : Follow (tie_p' q) (tie_n' q)
  tie' = go k.site.near.at_a k.site.near.at_b
    where
      -- in each case
      go : AtA sh c q → AtB sh c q → Follow (tie_p' q) (tie_n' q)
      go A (inr r) = let g = b_seated k.site r.after in
          (λ x y. rw g r.next, λ x y. rw g r.prev)
      go (inr o) (inl r) =
          let e = a_seated k.site o.after in
          let g = eqb_same r.after in
          (λ x y. rw (e, g) (o.next ∙ rw g), λ x y. rw (e, g) (ap (c Prev) (sym (rw g)) ∙ o.prev))
      go (inl o) (inl r) =
          let e = eqb_same o.after in
          let g = eqb_same r.after in
          (λ x y. absurd (y (rw g o.before)), λ x y. absurd (x (rw e r.after)))

  -- what is neither tied nor a does not stand before a
  off_P : (i : ℕ) → i ≢ tie_p q → i ≢ q.a → i ≢ q.P
  off_P i x e z = ⊎_elim (λ o. e (z ∙ o.before)) (λ o. x (z ∙ rw (a_seated k.site o.after)))
      k.site.near.at_a

  -- nor after it
  off_N : (i : ℕ) → i ≢ tie_n' q → i ≢ q.a → i ≢ q.N
  off_N i x e z = ⊎_elim (λ o. e (z ∙ o.after)) (λ o. x (z ∙ rw (a_seated k.site o.after))) k.site.near.at_a

  -- and so with b
  off_Q : (i : ℕ) → i ≢ tie_p' q → i ≢ q.b → i ≢ q.Q
  off_Q i x e z = ⊎_elim (λ o. e (z ∙ o.before)) (λ o. x (z ∙ rw (b_seated k.site o.after)))
      k.site.near.at_b

  -- after it
  off_M : (i : ℕ) → i ≢ tie_n q → i ≢ q.b → i ≢ q.M
  off_M i x e z = ⊎_elim (λ o. e (z ∙ o.after)) (λ o. x (z ∙ rw (b_seated k.site o.after))) k.site.near.at_b

module _ {sh : Shape} {p : List ℤ} {c d : Columns} {q : Spot} (k : Cut sh c d q) (s : Sound sh p c) (t : Sound sh p d)
    {x : List ℕ} (y : Shows sh x d) where
  -- as many half-edges
  abbrev n : ℕ
  n = 2 * sh.edges

  -- ---- the run goes over to l, and the edge comes out

  -- the columns after the walk
  abbrev R : Columns
  R = round_columns y t.rules.loops q.b (used_b k) q.l

  -- the list after the walk
  abbrev z1 : List ℕ
  z1 = relabel_run sh x q.M q.b q.l

  -- shows them
  shows_run : Shows sh z1 R
  shows_run = subst (λ i. Shows sh (relabel_run sh x i q.b q.l) R) k.next_b
      (shows_round y t.rules.loops q.b (used_b k) q.l)

  -- the loops are those of c
  run_loop_lem : (i : ℕ) → i ≤ n → i ≢ q.a → i ≢ q.b → R Loop i ≡ c Loop i
  run_loop_lem i h e g = split (d Loop i) q.m
      (λ z. round_in y t.rules.loops q.b (used_b k) q.l i (names_new k t i h z) (z ∙ sym k.loop_b) g
      ∙ sym (k.loop_new i h g z))
      (λ z. round_off y t.rules.loops q.b (used_b k) q.l i (inr (λ r. z (r ∙ k.loop_b)))
      ∙ k.loop_else i h e z)

  -- the other columns are as they were
  run_other : (F : Field) → same_field Loop F ≡ false → (i : ℕ) → R F i ≡ d F i
  run_other = round_other y t.rules.loops q.b (used_b k) q.l

  -- the columns of the half-edges are c's, the others still d's
  abbrev H : Columns
  H = patch half_fields c d

  -- so they are once the edge is out
  out_same : (F : Field) (i : ℕ) → i ≤ cap_of sh F → changes (edge_off q) R F i ≡ H F i
  out_same F i =
      let start = settled Start (edge_off q) R (c Start) i (λ e. k.zero_b.s, (k.zero_a.s, tt))
      (λ g e. run_other Start refl i ∙ k.start_else i e g) in
      let loop : i ≤ n → changes (edge_off q) R Loop i ≡ c Loop i = λ h.
      settled Loop (edge_off q) R (c Loop) i (λ e. k.zero_b.l, (k.zero_a.l, tt)) (λ g e. run_loop_lem i h e g) in
      let next = settled Next (edge_off q) R (c Next) i
      (λ z. (tie k).0, ((tie' k).0, (λ e. k.zero_b.n, (k.zero_a.n, tt))))
      (λ x x' g e. run_other Next refl i ∙ k.next_else i e g (off_P k i x e) (off_Q k i x' g)) in
      let prev = settled Prev (edge_off q) R (c Prev) i
      (λ z. (tie k).1, ((tie' k).1, (λ e. k.zero_b.p, (k.zero_a.p, tt))))
      (λ x x' g e. run_other Prev refl i ∙ k.prev_else i e g (off_N k i x' e) (off_M k i x g)) in
      by_fields half_fields (λ F. i ≤ cap_of sh F → changes (edge_off q) R F i ≡ H F i)
      (λ h. start, (loop, (λ h. next, (λ h. prev, tt))))
      (λ F e h. unwritten half_fields (edge_off q) refl R F e i ∙ run_other F (among_off half_fields Loop F refl e) i
      ∙ sym (patch_other half_fields c d F e i)) F

  -- the list with the edge out
  abbrev z2 : List ℕ
  z2 = writes sh (edge_off q) z1

  -- shows them
  shows_out : Shows sh z2 H
  shows_out =
      let a = k.site.a_in in
      let b = k.site.b_in in
      let o = around k in
      let one : (t : Bool) (i j : ℕ) → HalfUsed sh d i → HalfUsed sh d j → In n (pick t i j) = λ t i j x y.
      pick_ind (In n) t i j (x.0, x.1) (y.0, y.1) in
      let A = eqb q.N q.a in
      let B = eqb q.M q.b in
      shows_agree (shows_writes (edge_off q) shows_run (
        one A q.Q q.P o.2 o.0,
        (
          one B q.N q.M o.1 o.3,
          (
            one B q.P q.Q o.0 o.2,
            (
              one A q.M q.N o.3 o.1,
              (b, (b, (b, (b, (a, (a, (a, (a, tt)))))))),
            ),
          ),
        ),
      )) out_same

  -- ---- the records of face and loop, and the first of l

  -- with face and loop cleared
  abbrev e3 : Columns
  e3 = changes (face_off q) H

  -- the list then
  abbrev z3 : List ℕ
  z3 = writes sh (face_off q) z2

  -- shows them
  shows_records : Shows sh z3 e3
  shows_records = let m = k.site.m_in in let f = k.site.f_in in
      shows_writes (face_off q) shows_out (f, (f, (m, (m, (m, tt)))))

  -- the first of l in c
  first_l : c First q.l ≡ first_of sh c q.l
  first_l = (s.loop q.l k.site.l_in k.site.l_used).first

  -- where l's first is looked for
  abbrev low : ℕ
  low = lower (loop_first sh x q.m) (loop_first sh x q.l)

  -- a half-edge in use that names a loop of d is not below that one's first
  first_d : (m i : ℕ) → In sh.loops m → In n i → d Loop i ≡ m → (loop_first sh x m ≢ 0) × (loop_first sh x m ≤ i)
  first_d m i r j e = rw (y.at First m r.1) (first_low_lem t m i r.0 j e)

  -- what names l in c named l or m in d
  from : (i : ℕ) → In n i → c Loop i ≡ q.l → lower (loop_first sh x q.m) (loop_first sh x q.l) ≤ i
  from i j e =
      let w = named_used s k.site.l_in.0 i j e in
      split (d Loop i) q.m
      (λ z. let f = first_d q.m i k.site.m_in j z in lower_one _ _ i f.0 f.1)
      (λ z. lower_other (loop_first sh x q.m) _ i
      (first_d q.l i k.site.l_in j (k.loop_else i j.1 (off_a k.site i w) z ∙ e)).1)

  -- first and isolated vertex of l become c's
  renewed : (h : ℕ) → HalfUsed sh c h → c Loop h ≡ q.l → c Isolated q.l ≡ 0
      → Shows sh (renew sh z3 q.l low h q.v) (with_first e3 q.l (c First q.l) (c Isolated q.l))
  renewed h w e z = rw (first_l, z) (shows_first {U = HalfUsed sh c} shows_records q.l low h q.v k.site.l_in
      s.rules.loops w e
      (λ i j g. (j.0, j.1, λ r. omega (arith, k.site.l_in.0, sym g ∙ (s.half_free i j r).loop))) from)

  -- whichever the corners
  renew_l : Shows sh (renew sh z3 q.l low (rest_of q) q.v)
      (with_first e3 q.l (c First q.l) (c Isolated q.l))
  renew_l = ⊎_elim
      (λ o. renewed (rest_of q) o.1.corner
      (ap (c Loop) (sym o.1.next) ∙ s.rules.loops.keeps (seat q) o.1.before ∙ o.1.loop) o.2)
      (λ o.
      let f : c First q.l ≡ 0 = (lone_used s q.l k.site.l_in (λ g. k.site.u_some (sym o.2 ∙ g))).0 in
      let e : rest_of q ≡ 0 = rw (eqb_same o.0.after, eqb_same o.1.after) in
      subst (λ i. Shows sh (renew sh z3 q.l low i q.v)
      (with_first e3 q.l (c First q.l) (c Isolated q.l))) (sym e)
      (rw (f, o.2 ∙ o.0.ends) (shows_isolated shows_records q.l low q.v k.site.l_in)))
      (first_corner k.site)

  -- the list after kef
  abbrev pub mend_list : List ℕ
  mend_list = renew sh z3 q.l (lower (loop_first sh x q.m) (loop_first sh x q.l)) (rest_of q) q.v

  -- first and isolated vertex of l
  abbrev firsts : List Write
  firsts = write First q.l (c First q.l) ∷ write Isolated q.l (c Isolated q.l) ∷ []

  -- with them these are the columns of c
  last : (F : Field) (i : ℕ) → changes firsts e3 F i ≡ c F i
  last F i =
      let solid = settled Solid (face_off q) H (c Solid) i (k.site.f_free, tt) (k.solid_else i) in
      let outer = settled Outer (face_off q) H (c Outer) i (k.outer_free, tt) (k.outer_else i) in
      let face = settled Face (face_off q) H (c Face) i (k.site.m_free, tt) (k.face_else i) in
      let first = settled First (face_off q ++ firsts) H (c First) i (λ e. k.first_free, (refl, tt))
      (λ e g. k.first_else i g e) in
      let isolated = settled Isolated (face_off q ++ firsts) H (c Isolated) i (λ e. k.isolated_free, (refl, tt))
      (λ e g. k.isolated_else i g e) in
      by_fields cut_fields (λ F. changes firsts e3 F i ≡ c F i)
      (solid, (outer, (face, (first, (isolated, (refl, (refl, (refl, (refl, tt)))))))))
      (λ F e. unwritten cut_fields firsts refl e3 F e i ∙ unwritten cut_fields (face_off q) refl H F e i
      ∙ patch_other half_fields c d F (outside cut_fields half_fields refl F e) i ∙ k.others F e i) F

  -- the list after kef shows the columns without the edge
  pub mend_shows : Shows sh mend_list c
  mend_shows = shows_agree renew_l (λ F i h. last F i)
