-- kef on a sound table, as columns: the table is, with the edge (`Cut`), what `mend_columns` is without it.
use Rattle.std.specs.Prelude.{◌≡◌, refl, ◌≢◌, Bool, true, false, List, ℕ, ◌*◌, eqb, ℤ}
use Rattle.std.proofs.Common.{sym, ap, ◌∙◌, subst, inl, inr, arith}
use Rattle.laws.specs.Bools.{pick, pick_ind, split, eqb_same, eqb_other}
use Rattle.laws.specs.Update.{upd, upd_same, upd_off, relabel_at, relabel_off}
use Rattle.layout.specs.declared.shape.Shape.{Shape}
use Rattle.layout.specs.Mate.{mate}
use Rattle.layout.specs.MateLaws.{mate_mate}
use Rattle.layout.specs.Fields.{Solid, Outer, Face, First, Isolated, Start, Loop, Next, Prev, Columns}
use Rattle.layout.specs.Writes.{changes}
use Rattle.sound_tables.specs.Mates.{mate_other}
use Rattle.sound_tables.specs.EdgeIn.{prev_in, next_prev, prev_loop, start_mate}
use Rattle.sound_tables.specs.Sound.{HalfUsed, first_of, Sound}
use Rattle.sound_tables.specs.Names.{not_isolated}
use Rattle.sound_tables.specs.WriteLaws.{among_off, unwritten, column_off}
use Rattle.sound_cuts.specs.Relation.{Spot, tie_n, tie_n', Seated, Near, cut_fields, Cut}
use Rattle.sound_cuts.specs.KefSolids.{Only}
use Rattle.sound_cuts.specs.KefPlace.{spot_at, mend_loop, mend_writes, mend_columns, KefPlace}

-- a half-edge i and its neighbours in its loop, which can be itself
record Around (sh : Shape) (d : Columns) (i : ℕ) : Type 0 where
  next_in : HalfUsed sh d (d Next i)
  prev_in : HalfUsed sh d (d Prev i)
  follows : d Next (d Prev i) ≡ i
  undone : d Prev (d Next i) ≡ i
  next_loop : d Loop (d Next i) ≡ d Loop i
  prev_loop : d Loop (d Prev i) ≡ d Loop i
  start : d Start (d Next i) ≡ d Start (mate i)

-- so it is with one in use
neighbours : {sh : Shape} {p : List ℤ} {d : Columns} → Sound sh p d → (i : ℕ) → HalfUsed sh d i → Around sh d i
neighbours t i w = record {
  next_in = t.rules.loops.perm.f_in i w;
  prev_in = prev_in t.rules i w;
  follows = next_prev t.rules i w;
  undone = t.rules.undone i w;
  next_loop = t.rules.loops.keeps i w;
  prev_loop = prev_loop t.rules i w;
  start = start_mate t.rules mate_mate i w;
}

-- where it is alone, it also stands before itself
alone : {sh : Shape} {d : Columns} {i : ℕ} → Around sh d i → d Next i ≡ i → d Prev i ≡ i
alone {d = d} r e = ap (d Prev) (sym e) ∙ r.undone

-- else another does
accompanied : {sh : Shape} {d : Columns} {i : ℕ} → Around sh d i → d Next i ≢ i → d Prev i ≢ i
accompanied {d = d} r e z = e (ap (d Next) (sym z) ∙ r.follows)

module _ {sh : Shape} {p : List ℤ} {d : Columns} (t : Sound sh p d) (zero : d Loop 0 ≡ 0) {b : ℕ}
    (o : KefPlace sh d b) where
  -- the numbers
  abbrev q : Spot
  q = spot_at d b

  -- the columns without the edge
  abbrev c : Columns
  c = mend_columns sh d (spot_at d b)

  -- as many half-edges
  abbrev n : ℕ
  n = 2 * sh.edges

  -- the mate is in use
  ua : HalfUsed sh d (mate b)
  ua = t.rules.mate_in b o.used

  -- its mate is b
  ab : mate (mate b) ≡ b
  ab = mate_mate b

  -- the two differ
  b_a : b ≢ mate b
  b_a = mate_other b o.used.0

  -- the same the other way round
  a_b : mate b ≢ b
  a_b e = b_a (sym e)

  -- so do their loops
  l_m : q.l ≢ q.m
  l_m e = o.other (ap (d Face) e)

  -- the same the other way round
  m_l : q.m ≢ q.l
  m_l e = l_m (sym e)

  -- and their faces
  f0_f : d Face q.l ≢ q.f
  f0_f = o.other

  -- ---- the neighbours

  -- those of a
  A : Around sh d (mate b)
  A = neighbours t (mate b) ua

  -- and of b
  B : Around sh d b
  B = neighbours t b o.used

  -- what follows a starts where b does
  start_N : d Start q.N ≡ q.v
  start_N = A.start ∙ ap (d Start) ab

  -- one of l is none of m
  apart : {i j : ℕ} → d Loop i ≡ q.l → d Loop j ≡ q.m → i ≢ j
  apart e g z = l_m (sym e ∙ ap (d Loop) z ∙ g)

  -- ---- what stands in c away from the edge

  -- start is as it was
  c_start : (i : ℕ) → i ≢ mate b → i ≢ b → c Start i ≡ d Start i
  c_start i e g = upd_off _ _ g ∙ upd_off _ _ e

  -- what was in use is
  c_used : (i : ℕ) → HalfUsed sh d i → i ≢ mate b → i ≢ b → HalfUsed sh c i
  c_used i w e g = (w.0, w.1, λ z. w.2 (sym (c_start i e g) ∙ z))

  -- what was in m is in l
  c_new : (i : ℕ) → i ≢ mate b → i ≢ b → d Loop i ≡ q.m → c Loop i ≡ q.l
  c_new i e g z = upd_off _ _ g ∙ upd_off _ _ e ∙ relabel_at (d Loop) q.m q.l z

  -- the others stay
  c_else : (i : ℕ) → i ≢ mate b → i ≢ b → d Loop i ≢ q.m → c Loop i ≡ d Loop i
  c_else i e g z = upd_off _ _ g ∙ upd_off _ _ e ∙ relabel_off (d Loop) q.m q.l z

  -- by the two tests
  next_as : (x y : Bool) → eqb q.N (mate b) ≡ x → eqb q.M b ≡ y → (i : ℕ) → i ≢ mate b → i ≢ b
      → c Next i ≡ upd (upd (d Next) (pick x q.Q q.P) (pick y q.N q.M)) (pick y q.P q.Q)
      (pick x q.M q.N) i
  next_as x y e g i f h = upd_off _ _ h ∙ upd_off _ _ f
      ∙ (λ j. upd (upd (d Next) (pick (e j) q.Q q.P) (pick (g j) q.N q.M)) (pick (g j) q.P q.Q)
      (pick (e j) q.M q.N) i)

  -- the same of previous
  prev_as : (x y : Bool) → eqb q.N (mate b) ≡ x → eqb q.M b ≡ y → (i : ℕ) → i ≢ mate b → i ≢ b
      → c Prev i ≡ upd (upd (d Prev) (pick y q.N q.M) (pick x q.Q q.P)) (pick x q.M q.N)
      (pick y q.P q.Q) i
  prev_as x y e g i f h = upd_off _ _ h ∙ upd_off _ _ f
      ∙ (λ j. upd (upd (d Prev) (pick (g j) q.N q.M) (pick (e j) q.Q q.P)) (pick (e j) q.M q.N)
      (pick (g j) q.P q.Q) i)

  -- ---- the corners

  -- M is not a
  M_a : q.M ≢ mate b
  M_a z = apart refl B.next_loop (sym z)

  -- Q is not a
  Q_a : q.Q ≢ mate b
  Q_a z = apart refl B.prev_loop (sym z)

  -- N is not b
  N_b : q.N ≢ b
  N_b = apart A.next_loop refl

  -- P is not b
  P_b : q.P ≢ b
  P_b = apart A.prev_loop refl

  -- where a is not alone
  seated_a : q.N ≢ mate b → Seated sh c q.l q.u q.P q.N (tie_n q)
  seated_a e = split q.M b
      (λ g. subst (Seated sh c q.l q.u q.P q.N) (ap (λ t. pick t q.N q.M) (sym (eqb_same g)))
      (record {
        before = c_used q.P A.prev_in (accompanied A e) P_b;
        after = c_used q.N A.next_in e N_b;
        corner = c_used q.N A.next_in e N_b;
        next = next_as false true (eqb_other e) (eqb_same g) q.P (accompanied A e) P_b ∙ upd_same _ q.P q.N;
        prev = prev_as false true (eqb_other e) (eqb_same g) q.N e N_b ∙ upd_same _ q.N q.P;
        loop = loop_P;
        start = c_start q.N e N_b ∙ start_N ∙ ap (d Start) (sym g) ∙ B.start;
      }))
      (λ g. subst (Seated sh c q.l q.u q.P q.N) (ap (λ t. pick t q.N q.M) (sym (eqb_other g)))
      (record {
        before = c_used q.P A.prev_in (accompanied A e) P_b;
        after = c_used q.N A.next_in e N_b;
        corner = c_used q.M B.next_in M_a g;
        next = next_as false false (eqb_other e) (eqb_other g) q.P (accompanied A e) P_b
            ∙ upd_off _ _ (apart A.prev_loop B.prev_loop)
            ∙ upd_same _ q.P q.M;
        prev = prev_as false false (eqb_other e) (eqb_other g) q.M M_a g
            ∙ upd_off _ _ (λ z. apart A.next_loop B.next_loop (sym z))
            ∙ upd_same _ q.M q.P;
        loop = loop_P;
        start = c_start q.M M_a g ∙ B.start;
      }))
    where
      -- P stays in l
      loop_P : c Loop q.P ≡ q.l
      loop_P = c_else q.P (accompanied A e) P_b (λ z. l_m (sym A.prev_loop ∙ z)) ∙ A.prev_loop

  -- where b is not alone
  seated_b : q.M ≢ b → Seated sh c q.l q.v q.Q q.M (tie_n' q)
  seated_b g = record {
    before = c_used q.Q B.prev_in Q_a (accompanied B g);
    after = c_used q.M B.next_in M_a g;
    corner = c_used (tie_n' q) (pick_ind (HalfUsed sh d) (eqb q.N (mate b)) q.M q.N B.next_in
        A.next_in) n_a n_b;
    next = next_as (eqb q.N (mate b)) false refl (eqb_other g) q.Q Q_a (accompanied B g) ∙ upd_same _ q.Q _;
    prev = prev_as (eqb q.N (mate b)) false refl (eqb_other g) (tie_n' q) n_a n_b ∙ upd_same _ (tie_n' q) q.Q;
    loop = c_new q.Q Q_a (accompanied B g) B.prev_loop;
    start = c_start (tie_n' q) n_a n_b ∙ split q.N (mate b)
        (λ e. rw (eqb_same e) (B.start ∙ ap (d Start) (sym e) ∙ start_N)) (λ e. rw (eqb_other e) start_N);
  }
    where
      -- what follows Q is not a
      n_a : tie_n' q ≢ mate b
      n_a = split q.N (mate b) (λ e. rw (eqb_same e) M_a) (λ e. rw (eqb_other e) e)

      -- nor b
      n_b : tie_n' q ≢ b
      n_b = pick_ind (λ j. j ≢ b) (eqb q.N (mate b)) q.M q.N g N_b

  -- both
  near : Near sh c q
  near = record {
    at_a = split q.N (mate b) (λ e. inl (record
        { before = alone A e; after = e; ends = ap (d Start) (sym e) ∙ start_N })) (λ e. inr (seated_a e));
    at_b = split q.M b (λ g. inl (record { before = alone B g; after = g; ends = sym B.start ∙ ap (d Start) g }))
        (λ g. inr (seated_b g));
    apart = apart A.prev_loop B.prev_loop;
    N_M = apart A.next_loop B.next_loop;
    isolated = upd_same _ q.l _;
  }

  -- ---- all

  -- the table is those columns with the edge
  pub kef_cut : Cut sh (mend_columns sh d (spot_at d b)) d (spot_at d b)
  kef_cut =
      let ha = t.half (mate b) (ua.0, ua.1) ua.2 in
      let hb = t.half b (o.used.0, o.used.1) o.used.2 in
      let fb = t.loop q.m hb.loop_in hb.loop_used in
      let ff = t.face q.f fb.face_in_lem fb.face_used in
      record {
        site = record {
          l_in = ha.loop_in;
          m_in = hb.loop_in;
          f_in = fb.face_in_lem;
          a_in = (ua.0, ua.1);
          b_in = (o.used.0, o.used.1);
          ab = ab;
          l_used = λ z. ha.loop_used (sym (upd_off (d Face) 0 l_m) ∙ z);
          m_free = upd_same (d Face) q.m 0;
          f_free = upd_same (d Solid) q.f 0;
          a_free = upd_off _ _ a_b ∙ upd_same _ (mate b) 0;
          b_free = upd_same _ b 0;
          u_some = ua.2;
          v_some = o.used.2;
          near = near;
        };
        others = λ F e i. sym (column_off (changes (mend_writes sh d q) d) Loop (mend_loop d q) F
            (among_off cut_fields Loop F refl e) i
            ∙ unwritten cut_fields (mend_writes sh d q) refl d F e i);
        solid_new = ap (λ i. d Solid (d Face (d Loop i))) (sym ab) ∙ t.solids.edge (mate b) ua
            ∙ sym (ap (c Solid) (upd_off (d Face) 0 l_m) ∙ upd_off (d Solid) 0 f0_f);
        solid_else = λ i e. sym (upd_off (d Solid) 0 e);
        outer_free = upd_same (d Outer) q.f 0;
        outer_new = o.one (d Outer q.f) ff.outer_in ff.outer_face;
        outer_else = λ i e. sym (upd_off (d Outer) 0 e);
        face_new = refl;
        face_else = λ i e. sym (upd_off (d Face) 0 e);
        first_free = upd_off _ _ m_l ∙ upd_same (d First) q.m 0;
        first_else = λ i e g. sym (upd_off _ _ e ∙ upd_off (d First) 0 g);
        isolated_free = upd_off _ _ m_l ∙ upd_same (d Isolated) q.m 0;
        isolated_l = not_isolated t (mate b) ua refl;
        isolated_m = not_isolated t b o.used refl;
        isolated_else = λ i e g. sym (upd_off _ _ e ∙ upd_off (d Isolated) 0 g);
        zero_a = record {
          s = upd_off _ _ a_b ∙ upd_same _ (mate b) 0;
          l = upd_off _ _ a_b
              ∙ upd_same _ (mate b) 0;
          n = upd_off _ _ a_b ∙ upd_same _ (mate b) 0;
          p = upd_off _ _ a_b
              ∙ upd_same _ (mate b) 0;
        };
        zero_b = record { s = upd_same _ b 0; l = upd_same _ b 0; n = upd_same _ b 0; p = upd_same _ b 0 };
        start_a = refl;
        start_b = refl;
        start_else = λ i e g. sym (c_start i e g);
        loop_a = refl;
        loop_b = refl;
        loop_zero = λ z. omega (arith, hb.loop_in.0, sym z ∙ zero);
        loop_new = λ i h e z. c_new i (λ g. apart refl z (sym g)) e z;
        loop_else = λ i h e z. sym (c_else i e (λ g. z (ap (d Loop) g)) z);
        next_a = refl;
        next_b = refl;
        next_P = A.follows;
        next_Q = B.follows;
        next_else = λ i e g x y. sym (upd_off _ _ g ∙ upd_off _ _ e
            ∙ upd_off _ _ (pick_ind (λ j. i ≢ j) (eqb q.M b) q.P q.Q x y)
            ∙ upd_off _ _ (pick_ind (λ j. i ≢ j) (eqb q.N (mate b)) q.Q q.P y x));
        prev_a = refl;
        prev_b = refl;
        prev_N = A.undone;
        prev_M = B.undone;
        prev_else = λ i e g x y. sym (upd_off _ _ g ∙ upd_off _ _ e
            ∙ upd_off _ _ (pick_ind (λ j. i ≢ j) (eqb q.N (mate b)) q.M q.N y x)
            ∙ upd_off _ _ (pick_ind (λ j. i ≢ j) (eqb q.M b) q.N q.M x y));
      }

  -- m is the only loop of its face
  pub kef_only : Only sh d (spot_at d b)
  kef_only i j e z = e (o.one i j z)

  -- first of l is the least that names it
  pub kef_first : mend_columns sh d (spot_at d b) First (d Loop (mate b))
      ≡ first_of sh (mend_columns sh d (spot_at d b))
      (d Loop (mate b))
  kef_first = upd_same _ q.l _
