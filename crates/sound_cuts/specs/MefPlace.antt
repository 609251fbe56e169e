-- mef on a sound table, as columns: which half-edges go over to the new loop, all that is written, the columns then,
-- and that these are the table's with the edge (`Cut`), with the right loops (`Marked`).
use Rattle.std.specs.Prelude.{◌≡◌, refl, ◌≢◌, Bool, true, false, List, ◌∷◌, ◌++◌, ℕ, ◌*◌, ◌≤◌, eqb, ℤ}
use Rattle.std.proofs.Common.{sym, ap, ◌∙◌, inr, ⊎_elim, arith}
use Rattle.laws.specs.Bools.{pick, split, ask, eqb_same, eqb_other}
use Rattle.laws.specs.Update.{upd, upd_at, upd_same, upd_off}
use Rattle.laws.specs.Permutations.{soon}
use Rattle.laws.specs.Exchange.{Till, till_steps, not_both}
use Rattle.laws.specs.Walks.{first, first_till, till_first}
use Rattle.layout.specs.declared.shape.Shape.{Shape}
use Rattle.layout.specs.Fields.{Solid, Outer, Face, First, Isolated, Start, Loop, Next, Prev, Columns}
use Rattle.layout.specs.Writes.{Write, write, changes}
use Rattle.euler.specs.Surgery.{face_record, loop_record, half_record, seated}
use Rattle.sound_tables.specs.Sound.{HalfUsed, Sound}
use Rattle.sound_tables.specs.Labels.{least_with}
use Rattle.sound_tables.specs.Names.{free_zero}
use Rattle.sound_tables.specs.Walking.{iter_keeps}
use Rattle.sound_tables.specs.WriteLaws.{among_off, unwritten, with_column, column_off}
use Rattle.sound_cuts.specs.Relation.{Spot, spur, Site, a_b, l_m, off_a, off_b, cut_fields, Cut, Marked}
use Rattle.sound_cuts.specs.Spur.{Q_a, spur_loop, loop_c, loop_Q, spur_cycles}

-- ---- the columns

-- with the edge in as a spur, Q is met from i before a: such an i goes over to the new loop
abbrev goes : Shape → Columns → Spot → ℕ → Bool
goes sh c q i = first (spur c q) (2 * sh.edges) q.a q.Q i

-- those of l that go over name m
abbrev run_loop : Shape → Columns → Spot → ℕ → ℕ
run_loop sh c q i = pick (eqb (c Loop i) q.l) (pick (goes sh c q i) q.m (c Loop i)) (c Loop i)

-- the loop column once the edge is in
abbrev pub cut_loop : Shape → Columns → Spot → ℕ → ℕ
cut_loop sh c q = upd (upd (run_loop sh c q) q.a q.l) q.b q.m

-- the edge goes in: half a after P, its mate b after Q
abbrev pub edge_at : Spot → List Write
edge_at q =
    half_record q.a q.u q.l q.N q.P
    ++ (half_record q.b q.v q.m q.M q.Q ++ (seated q.P q.a q.N ++ seated q.Q q.b q.M))

-- the loops' firsts k and k', the new loop in its face, the new face in solid s
abbrev pub face_at : Spot → ℕ → ℕ → ℕ → List Write
face_at q k k' s =
    write First q.l k ∷ write Isolated q.l 0 ∷ (loop_record q.m q.f k' 0 ++ face_record q.f s q.m)

-- all that is written, but the loops of the run
abbrev pub cut_writes : Shape → Columns → Spot → List Write
cut_writes sh c q = edge_at q ++ face_at q (least_with (2 * sh.edges) (cut_loop sh c q) q.l)
    (least_with (2 * sh.edges) (cut_loop sh c q) q.m) (c Solid (c Face q.l))

-- the columns once it is in
abbrev pub cut_columns : Shape → Columns → Spot → Columns
cut_columns sh c q = with_column (changes (cut_writes sh c q) c) Loop (cut_loop sh c q)

module _ {sh : Shape} {p : List ℤ} {c : Columns} {q : Spot} (s : Sound sh p c) (zero : c Loop 0 ≡ 0)
    (o : Site sh c q) where
  -- as many half-edges
  abbrev n : ℕ
  n = 2 * sh.edges

  -- ---- what goes over

  -- the new loop is named by none
  fresh : (i : ℕ) → i ≤ n → c Loop i ≢ q.m
  fresh i h e = split i 0
      (λ z. omega (arith, o.m_in.0, sym e ∙ ap (c Loop) z ∙ zero))
      (λ z. split (c Start i) 0
      (λ y. omega (arith, o.m_in.0, sym e ∙ (s.half_free i (omega arith, h) y).loop))
      (λ y. (s.half i (omega arith, h) y).loop_used (ap (c Face) e ∙ o.m_free)))

  -- where it says yes, m
  run_yes : (i : ℕ) → c Loop i ≡ q.l → goes sh c q i ≡ true → run_loop sh c q i ≡ q.m
  run_yes i z e = rw (eqb_same z, e)

  -- where it says no, nothing changes
  run_no : (i : ℕ) → goes sh c q i ≡ false → run_loop sh c q i ≡ c Loop i
  run_no i e = split (c Loop i) q.l (λ z. rw (eqb_same z, e)) (λ z. rw (eqb_other z))

  -- nor in other loops
  run_far : (i : ℕ) → c Loop i ≢ q.l → run_loop sh c q i ≡ c Loop i
  run_far i z = rw (eqb_other z)

  -- what has the new loop was of l
  new : (i : ℕ) → i ≤ n → run_loop sh c q i ≡ q.m → c Loop i ≡ q.l
  new i h z = split (c Loop i) q.l (λ e. e) (λ e. absurd (fresh i h (sym (run_far i e) ∙ z)))

  -- what has not is as it was
  else : (i : ℕ) → i ≤ n → run_loop sh c q i ≢ q.m → run_loop sh c q i ≡ c Loop i
  else i h z = split (c Loop i) q.l (λ e. ⊎_elim (λ f. absurd (z (run_yes i e f))) (run_no i) (ask (goes sh c q i)))
      (run_far i)

  -- ---- the table with the edge

  -- P is not b
  b_P : q.b ≢ q.P
  b_P e = ⊎_elim (λ r. a_b o (sym r.before ∙ sym e)) (λ r. off_b o q.P r.before (sym e)) o.near.at_a

  -- nor is N
  b_N : q.b ≢ q.N
  b_N e = ⊎_elim (λ r. a_b o (sym r.after ∙ sym e)) (λ r. off_b o q.N r.after (sym e)) o.near.at_a

  -- M is not a
  a_M : q.a ≢ q.M
  a_M e = ⊎_elim (λ r. a_b o (e ∙ r.after)) (λ r. off_a o q.M r.after (sym e)) o.near.at_b

  -- those columns are the table's with the edge
  pub mef_cut : Cut sh c (cut_columns sh c q) q
  mef_cut =
      let free = s.loop_free q.m o.m_in o.m_free in
      let f1 : q.a ≢ q.b = a_b o in
      record {
        site = o;
        others = λ F e i. column_off (changes (cut_writes sh c q) c) Loop (cut_loop sh c q) F
            (among_off cut_fields Loop F refl e) i
            ∙ unwritten cut_fields (cut_writes sh c q) refl c F e i;
        solid_new = upd_same (c Solid) q.f _;
        solid_else = λ i e. upd_off (c Solid) _ e;
        outer_free = s.face_free q.f o.f_in o.f_free;
        outer_new = upd_same (c Outer) q.f q.m;
        outer_else = λ i e. upd_off (c Outer) _ e;
        face_new = upd_same (c Face) q.m q.f;
        face_else = λ i e. upd_off (c Face) _ e;
        first_free = free.0;
        first_else = λ i e g. upd_off _ _ g ∙ upd_off (c First) _ e;
        isolated_free = free.1;
        isolated_l = upd_off _ _ (l_m o) ∙ upd_same (c Isolated) q.l 0;
        isolated_m = upd_same _ q.m 0;
        isolated_else = λ i e g. upd_off _ _ g ∙ upd_off (c Isolated) 0 e;
        zero_a = free_zero s q.a o.a_in o.a_free;
        zero_b = free_zero s q.b o.b_in o.b_free;
        start_a = upd_off _ _ f1 ∙ upd_same (c Start) q.a q.u;
        start_b = upd_same _ q.b q.v;
        start_else = λ i e g. upd_off _ _ g ∙ upd_off (c Start) _ e;
        loop_a = upd_off _ _ f1 ∙ upd_same _ q.a q.l;
        loop_b = upd_same _ q.b q.m;
        loop_zero = λ z.
            let e : 0 ≢ q.a = λ g. omega (arith, o.a_in.0, g) in
            let g : 0 ≢ q.b = λ h. omega (arith, o.b_in.0, h) in
            omega (arith, o.l_in.0, sym zero ∙ new 0 (omega arith) (sym (upd_off _ _ g ∙ upd_off _ _ e) ∙ z));
        loop_new = λ i h e z. new i h (sym
            (upd_off _ _ e ∙ upd_off _ _ (λ g. l_m o (sym (upd_off _ _ e ∙ upd_at _ _ g) ∙ z))) ∙ z);
        loop_else = λ i h e z.
            let g : i ≢ q.b = λ y. z (upd_at _ _ y) in
            let v = upd_off _ _ g ∙ upd_off _ _ e in
            v ∙ else i h (λ y. z (v ∙ y));
        next_a = upd_off _ _ (λ e. Q_a o (sym e)) ∙ ⊎_elim (λ y. upd_at _ _ (sym y.before) ∙ sym y.after)
            (λ y. upd_off _ _ (λ e. off_a o q.P y.before (sym e)) ∙ upd_off _ _ f1
            ∙ upd_same (c Next) q.a q.N) o.near.at_a;
        next_b = ⊎_elim (λ y. upd_at _ _ (sym y.before) ∙ sym y.after)
            (λ y. upd_off _ _ (λ e. off_b o q.Q y.before (sym e)) ∙ upd_off _ _ b_P ∙ upd_same _ q.b q.M)
            o.near.at_b;
        next_P = upd_off _ _ o.near.apart ∙ upd_same _ q.P q.a;
        next_Q = upd_same _ q.Q q.b;
        next_else = λ i e g y z. upd_off _ _ z ∙ upd_off _ _ y ∙ upd_off _ _ g ∙ upd_off (c Next) _ e;
        prev_a = upd_off _ _ a_M ∙ ⊎_elim (λ y. upd_at _ _ (sym y.after) ∙ sym y.before)
            (λ y. upd_off _ _ (λ e. off_a o q.N y.after (sym e)) ∙ upd_off _ _ f1
            ∙ upd_same (c Prev) q.a q.P) o.near.at_a;
        prev_b = ⊎_elim (λ y. upd_at _ _ (sym y.after) ∙ sym y.before)
            (λ y. upd_off _ _ (λ e. off_b o q.M y.after (sym e)) ∙ upd_off _ _ b_N ∙ upd_same _ q.b q.Q)
            o.near.at_b;
        prev_N = upd_off _ _ o.near.N_M ∙ upd_same _ q.N q.a;
        prev_M = upd_same _ q.M q.b;
        prev_else = λ i e g y z. upd_off _ _ z ∙ upd_off _ _ y ∙ upd_off _ _ g ∙ upd_off (c Prev) _ e;
      }

  -- ---- its loops

  -- a half-edge in use has the loop that it is given
  given : (i : ℕ) → HalfUsed sh c i → cut_columns sh c q Loop i ≡ run_loop sh c q i
  given i x = upd_off _ _ (off_b o i x) ∙ upd_off _ _ (off_a o i x)

  -- what goes over is of l
  run_loop_lem : (i : ℕ) → HalfUsed sh c i → Till (spur c q) q.a q.Q i → c Loop i ≡ q.l
  run_loop_lem i x t =
      let e = till_steps t in
      sym (loop_c o i x) ∙ sym (iter_keeps (spur_cycles o s) e.0 i (inr (inr x))) ∙ ap (spur_loop c q) e.1
      ∙ loop_Q o

  -- and the test finds it
  run_goes : (i : ℕ) → HalfUsed sh c i → Till (spur c q) q.a q.Q i → goes sh c q i ≡ true
  run_goes i x t =
      let e = till_steps t in
      let k = soon (spur_cycles o s).perm e.0 e.0 i (omega arith) (inr (inr x)) in
      till_first (spur c q) n k.0 q.a q.Q i k.1 (k.3 ∙ e.1) t

  -- they are the right ones
  pub mef_marked : Marked sh c (cut_columns sh c q) q
  mef_marked = record {
    first_l = upd_off _ _ (l_m o) ∙ upd_same (c First) q.l _;
    first_m = upd_same _ q.m _;
    run = λ i x t. given i x ∙ run_yes i (run_loop_lem i x t) (run_goes i x t);
    rest = λ i x t. given i x ∙ ⊎_elim
        (λ f. absurd (not_both (spur c q) q.a q.Q (λ e. Q_a o (sym e))
        (first_till (spur c q) n q.a q.Q i f) t))
        (run_no i) (ask (goes sh c q i));
  }
