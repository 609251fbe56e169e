-- kef on a list that shows the columns with the edge: it is accepted, makes the list without it, and is undone by mef.
use Rattle.std.specs.Prelude.{◌≡◌, ◌≢◌, true, List, [], ◌∷◌, ℕ, leb, ℤ}
use Rattle.std.proofs.Math.Path.{refl}
use Rattle.std.proofs.Common.{sym, ap, ◌∙◌, arith, eqb→eq, le-leb}
use Rattle.std.proofs.Math.Bool.{not}
use Rattle.std.proofs.Math.Dec.{eqb, not_T}
use Rattle.laws.specs.Bools.{T_true, true_T, split, eqb_same}
use Rattle.laws.specs.Every.{T_every}
use Rattle.laws.specs.Sums.{count_to}
use Rattle.bounds.specs.Bounds.{most_halves}
use Rattle.codec.specs.Operands.{pattern, rows}
use Rattle.layout.specs.declared.shape.Shape.{Shape}
use Rattle.euler.specs.Surgery.{edge_out}
use Rattle.euler.specs.EdgeOperators.{kef_test, kef_links}
use Rattle.euler.specs.Valence.{ends, leave_of}
use Rattle.euler.specs.Exec.{use_word, condition, refusal_of, marks_after, killed_vertex, points_after, inverse}
use Rattle.layout.specs.Fields.{Face, Start, Loop, Next, Prev, Solid, Columns}
use Rattle.sound_tables.specs.Cells.{Shows}
use Rattle.sound_tables.specs.Sound.{In, Sound}
use Rattle.sound_tables.specs.Labels.{many_one}
use Rattle.sound_tables.specs.OneOperand.{one_accepted}
use Rattle.sound_tables.specs.Good.{own, Capacities}
use Rattle.sound_cuts.specs.Relation.{Spot, ba, Cut, face_l}
use Rattle.sound_cuts.specs.MefSolids.{old_used}
use Rattle.sound_cuts.specs.KefShown.{mend_list}
use Rattle.sound_cuts.specs.MefOperands.{kef_of}
use Rattle.sound_cuts.specs.MefAccepted.{mef_at}

module _ {sh : Shape} {p : List ℤ} {c d : Columns} {q : Spot} (k : Cut sh c d q) (s : Sound sh p c) (t : Sound sh p d)
    {y : List ℕ} (v : Shows sh y d) (caps : Capacities sh) where
  -- k is read as it stands
  bn : leb q.b most_halves ≡ true
  bn = le-leb q.b most_halves (omega (arith, k.site.b_in.1, caps.edges))

  -- what kef reads
  next_a : own sh y Next q.a ≡ q.N
  next_a = v.at Next q.a k.site.a_in.1 ∙ k.next_a

  -- next of b
  next_b : own sh y Next q.b ≡ q.M
  next_b = v.at Next q.b k.site.b_in.1 ∙ k.next_b

  -- previous of a
  prev_a : own sh y Prev q.a ≡ q.P
  prev_a = v.at Prev q.a k.site.a_in.1 ∙ k.prev_a

  -- previous of b
  prev_b : own sh y Prev q.b ≡ q.Q
  prev_b = v.at Prev q.b k.site.b_in.1 ∙ k.prev_b

  -- the loop of a
  loop_a : own sh y Loop q.a ≡ q.l
  loop_a = v.at Loop q.a k.site.a_in.1 ∙ k.loop_a

  -- the loop of b
  loop_b : own sh y Loop q.b ≡ q.m
  loop_b = v.at Loop q.b k.site.b_in.1 ∙ k.loop_b

  -- the start of b
  start_b : own sh y Start q.b ≡ q.v
  start_b = v.at Start q.b k.site.b_in.1 ∙ k.start_b

  -- the face of m
  face_m : own sh y Face q.m ≡ q.f
  face_m = v.at Face q.m k.site.m_in.1 ∙ k.face_new

  -- the face of l
  l_face : own sh y Face q.l ≡ c Face q.l
  l_face = v.at Face q.l k.site.l_in.1 ∙ face_l k

  -- what it does
  pub kef_links_lem : marks_after sh y (kef_of q.b) ≡ mend_list k s t v
  unfolding marks_after kef_links edge_out
  kef_links_lem = rw (bn, ba k.site, next_a, next_b, prev_a, prev_b, loop_a, loop_b, start_b, face_m)

  -- the operator that undoes it
  pub kef_inverse_lem : (w : List ℤ) → inverse sh y w (kef_of q.b) ≡ mef_at q
  unfolding inverse
  kef_inverse_lem w = rw (bn, ba k.site, next_a, next_b, loop_a, loop_b, face_m)

  -- half-edges leave where the edge ends
  pub kef_leave : leave_of sh y (kef_of q.b) ≡ ends sh y q.b
  kef_leave = rw bn

  -- m is the only loop of f
  only_m : (n : ℕ) → In sh.loops n → own sh y Face n ≡ q.f → n ≡ q.m
  only_m n i e = split n q.m (λ z. z) (λ z.
      let g : c Face n ≡ q.f = sym (k.face_else n z) ∙ sym (v.at Face n i.1) ∙ e in
      absurd ((s.loop n i (λ r. omega (arith, k.site.f_in.0, sym g ∙ r))).face_used
      (ap (c Solid) g ∙ k.site.f_free)))

  -- the faces of the two halves differ
  two_faces : c Face q.l ≢ q.f
  two_faces e = (old_used k s).2 (ap (c Solid) e ∙ k.site.f_free)

  -- the test passes
  test : kef_test sh y q.b ≡ true
  unfolding kef_test
  test = rw (ba k.site, loop_a, loop_b, face_m, l_face)
      (T_true (T_every (eqb (count_to sh.loops (λ n. eqb (own sh y Face n) q.f)) 1
      ∷ not (eqb (c Face q.l) q.f) ∷ []) (
        true_T (eqb_same (many_one sh.loops (own sh y Face) q.f q.m k.site.m_in face_m only_m)),
        (not_T (eqb (c Face q.l) q.f) (λ z. two_faces (eqb→eq _ _ z)), tt),
      )))

  -- it is accepted
  pub kef_accepted : refusal_of sh y (kef_of q.b) ≡ 0
  unfolding pattern rows use_word condition
  kef_accepted = one_accepted sh y 6 9 refl refl refl refl (omega (arith, caps.edges)) refl q.b k.site.b_in
      (λ z. k.site.v_some (sym start_b ∙ z)) (rw bn test)

-- points stay
pub kef_points : (sh : Shape) (x : List ℕ) (v : List ℤ) (k : ℕ) → points_after sh x v (kef_of k) ≡ v
unfolding points_after killed_vertex
kef_points sh x v k = refl
