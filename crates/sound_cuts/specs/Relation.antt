-- What mef makes and kef undoes, said once for both; read this first. Columns c are without an edge, columns d with
-- it. The edge's half a starts at vertex u and stands in loop l between P and N; its mate b starts at v and stands in
-- loop m, the only loop of face f, between Q and M. In c the loops l and m are one, named l. A half can be alone in
-- its loop, between itself and itself: mef at one corner makes one such half, mef at an isolated loop two.
use Rattle.std.specs.Prelude.{◌≡◌, refl, ◌≢◌, ◌⊎◌, false, ◌&&◌, List, [], ◌∷◌, ℕ, ◌*◌, ◌≤◌, eqb}
use Rattle.std.proofs.Common.{sym, ap, ◌∙◌, subst, inl, inr, ⊎_elim, arith}
use Rattle.laws.specs.Bools.{pick, pick_ind, split, eqb_same, eqb_other}
use Rattle.laws.specs.Exchange.{Till}
use Rattle.laws.specs.Moves.{Or, ins}
use Rattle.layout.specs.declared.shape.Shape.{Shape}
use Rattle.layout.specs.Mate.{mate}
use Rattle.layout.specs.MateLaws.{mate_mate}
use Rattle.layout.specs.Fields.{Field, SolidUsed, Solid, Outer, Face, First, Isolated, Start, Loop, Next, Prev}
use Rattle.layout.specs.Fields.{VertexUsed, Columns, among}
use Rattle.sound_tables.specs.Mates.{mate_other}
use Rattle.sound_tables.specs.EdgeIn.{Zero}
use Rattle.sound_tables.specs.Sound.{In, halves, HalfUsed, first_of}

-- the numbers of this picture
pub record Spot : Type 0 where
  pub l : ℕ
  pub m : ℕ
  pub f : ℕ
  pub a : ℕ
  pub b : ℕ
  pub u : ℕ
  pub v : ℕ
  pub P : ℕ
  pub N : ℕ
  pub Q : ℕ
  pub M : ℕ

-- ---- who follows whom once the edge is out: p is followed by n, and p' by n'; where one rest is empty the other
-- closes on itself

-- what stands before a, or before b where a is alone
abbrev pub tie_p : Spot → ℕ
tie_p q = pick (eqb q.N q.a) q.Q q.P

-- what follows it: what stood after b, or after a where b is alone
abbrev pub tie_n : Spot → ℕ
tie_n q = pick (eqb q.M q.b) q.N q.M

-- what stands before b, or before a where b is alone
abbrev pub tie_p' : Spot → ℕ
tie_p' q = pick (eqb q.M q.b) q.P q.Q

-- what follows it
abbrev pub tie_n' : Spot → ℕ
tie_n' q = pick (eqb q.N q.a) q.M q.N

-- the first corner: what follows b, else what follows a, else none
abbrev pub rest_of : Spot → ℕ
rest_of q = pick (eqb q.M q.b) (pick (eqb q.N q.a) 0 q.N) q.M

-- the second corner: what follows a, else what follows b, else none
abbrev pub end_of : Spot → ℕ
end_of q = pick (eqb q.N q.a) (pick (eqb q.M q.b) 0 q.M) q.N

-- ---- the corners in c

-- half k is alone in its loop: it stands between itself and itself, and both ends of the edge are one vertex
pub record Alone (q : Spot) (k P N : ℕ) : Type 0 where
  pub before : P ≡ k
  pub after : N ≡ k
  pub ends : q.u ≡ q.v

-- it stands between P and N, from vertex x; in c n follows P, at that vertex
pub record Seated (sh : Shape) (c : Columns) (l x P N n : ℕ) : Type 0 where
  pub before : HalfUsed sh c P
  pub after : HalfUsed sh c N
  pub corner : HalfUsed sh c n
  pub next : c Next P ≡ n
  pub prev : c Prev n ≡ P
  pub loop : c Loop P ≡ l
  pub start : c Start n ≡ x

-- how a stands
abbrev pub AtA : Shape → Columns → Spot → Type 0
AtA sh c q = Alone q q.a q.P q.N ⊎ Seated sh c q.l q.u q.P q.N (tie_n q)

-- how b stands
abbrev pub AtB : Shape → Columns → Spot → Type 0
AtB sh c q = Alone q q.b q.Q q.M ⊎ Seated sh c q.l q.v q.Q q.M (tie_n' q)

-- both, at different places; where both are alone, the loop is isolated in c
pub record Near (sh : Shape) (c : Columns) (q : Spot) : Type 0 where
  pub at_a : AtA sh c q
  pub at_b : AtB sh c q
  pub apart : q.P ≢ q.Q
  pub N_M : q.N ≢ q.M
  pub isolated : c Isolated q.l ≡ pick (eqb q.N q.a && eqb q.M q.b) q.u 0

-- what a goes in after: P, or Q where a is alone, or itself where both are
abbrev pub seat : Spot → ℕ
seat q = pick (eqb q.N q.a) (pick (eqb q.M q.b) q.a q.Q) q.P

-- next in c with the edge in as a spur: a in its place, and b after it
abbrev pub spur : Columns → Spot → ℕ → ℕ
spur c q = ins (ins (c Next) q.a (seat q)) q.b q.a

-- where the edge goes, in c: loop l is in use, the edge, face f and loop m are free
pub record Site (sh : Shape) (c : Columns) (q : Spot) : Type 0 where
  pub l_in : In sh.loops q.l
  pub m_in : In sh.loops q.m
  pub f_in : In sh.faces q.f
  pub a_in : In (2 * sh.edges) q.a
  pub b_in : In (2 * sh.edges) q.b
  pub ab : mate q.a ≡ q.b
  pub l_used : c Face q.l ≢ 0
  pub m_free : c Face q.m ≡ 0
  pub f_free : c Solid q.f ≡ 0
  pub a_free : c Start q.a ≡ 0
  pub b_free : c Start q.b ≡ 0
  pub u_some : q.u ≢ 0
  pub v_some : q.v ≢ 0
  pub near : Near sh c q

module _ {sh : Shape} {c : Columns} {q : Spot} (s : Site sh c q) where
  -- the mate of b
  pub ba : mate q.b ≡ q.a
  ba = ap mate (sym s.ab) ∙ mate_mate q.a

  -- the two halves differ
  pub a_b : q.a ≢ q.b
  a_b e = mate_other q.a s.a_in.0 (e ∙ sym s.ab)

  -- so do the two loops
  pub l_m : q.l ≢ q.m
  l_m e = s.l_used (ap (c Face) e ∙ s.m_free)

  -- no half-edge in use is a
  pub off_a : (i : ℕ) → HalfUsed sh c i → i ≢ q.a
  off_a i w e = w.2 (ap (c Start) e ∙ s.a_free)

  -- none is b
  pub off_b : (i : ℕ) → HalfUsed sh c i → i ≢ q.b
  off_b i w e = w.2 (ap (c Start) e ∙ s.b_free)

  -- where N is of c, a is not alone
  pub a_seated : HalfUsed sh c q.N → eqb q.N q.a ≡ false
  a_seated u = eqb_other (off_a q.N u)

  -- where M is, b is not
  pub b_seated : HalfUsed sh c q.M → eqb q.M q.b ≡ false
  b_seated u = eqb_other (off_b q.M u)

  -- both halves are alone
  abbrev pub Lone : Type 0
  Lone = Alone q q.a q.P q.N × Alone q q.b q.Q q.M × (c Isolated q.l ≡ q.u)

  -- a half-edge stands at the first corner, after the seat; or both are alone
  pub first_corner : ((N : ℕ) × Seated sh c q.l q.u (seat q) N (rest_of q) × (c Isolated q.l ≡ 0)) ⊎ Lone
  first_corner = go s.near.at_a s.near.at_b
    where
      -- in each case
      go : AtA sh c q → AtB sh c q
          → ((N : ℕ) × Seated sh c q.l q.u (seat q) N (rest_of q) × (c Isolated q.l ≡ 0)) ⊎ Lone
      go (inr o) B = let e = a_seated o.after in inl (q.N, rw e o, s.near.isolated ∙ rw e)
      go (inl o) (inr r) =
          let e = eqb_same o.after in
          let g = b_seated r.after in
          inl (
            q.M,
            rw (e, g, o.ends) (subst (Seated sh c q.l q.v q.Q q.M) (rw e) r),
            s.near.isolated
                ∙ rw (e, g),
          )
      go (inl o) (inl r) = inr (o, r, s.near.isolated ∙ rw (eqb_same o.after, eqb_same r.after))

  -- and so with the second
  pub second_corner : ((P N : ℕ) × Seated sh c q.l q.v P N (end_of q)) ⊎ Lone
  second_corner = go s.near.at_a s.near.at_b
    where
      -- in each case
      go : AtA sh c q → AtB sh c q → ((P N : ℕ) × Seated sh c q.l q.v P N (end_of q)) ⊎ Lone
      go A (inr o) = inl (q.Q, q.M, rw (b_seated o.after) o)
      go (inr o) (inl r) = inl (
        q.P,
        q.N,
        rw (a_seated o.after)
            (rw (← r.ends) (subst (Seated sh c q.l q.u q.P q.N) (rw (eqb_same r.after)) o)),
      )
      go (inl o) (inl r) = inr (o, r, s.near.isolated ∙ rw (eqb_same o.after, eqb_same r.after))

-- ---- the columns

-- the fields that differ
abbrev pub cut_fields : List Field
cut_fields = Solid ∷ Outer ∷ Face ∷ First ∷ Isolated ∷ Start ∷ Loop ∷ Next ∷ Prev ∷ []

-- d is c with the edge: what was free, what is new, and that all else is as it was
pub record Cut (sh : Shape) (c d : Columns) (q : Spot) : Type 0 where
  pub site : Site sh c q
  pub others : (F : Field) → among cut_fields F ≡ false → (n : ℕ) → d F n ≡ c F n
  pub solid_new : d Solid q.f ≡ c Solid (c Face q.l)
  pub solid_else : (n : ℕ) → n ≢ q.f → d Solid n ≡ c Solid n
  pub outer_free : c Outer q.f ≡ 0
  pub outer_new : d Outer q.f ≡ q.m
  pub outer_else : (n : ℕ) → n ≢ q.f → d Outer n ≡ c Outer n
  pub face_new : d Face q.m ≡ q.f
  pub face_else : (n : ℕ) → n ≢ q.m → d Face n ≡ c Face n
  pub first_free : c First q.m ≡ 0
  pub first_else : (n : ℕ) → n ≢ q.l → n ≢ q.m → d First n ≡ c First n
  pub isolated_free : c Isolated q.m ≡ 0
  pub isolated_l : d Isolated q.l ≡ 0
  pub isolated_m : d Isolated q.m ≡ 0
  pub isolated_else : (n : ℕ) → n ≢ q.l → n ≢ q.m → d Isolated n ≡ c Isolated n
  pub zero_a : Zero (halves c) q.a
  pub zero_b : Zero (halves c) q.b
  pub start_a : d Start q.a ≡ q.u
  pub start_b : d Start q.b ≡ q.v
  pub start_else : (i : ℕ) → i ≢ q.a → i ≢ q.b → d Start i ≡ c Start i
  pub loop_a : d Loop q.a ≡ q.l
  pub loop_b : d Loop q.b ≡ q.m
  pub loop_zero : d Loop 0 ≢ q.m
  pub loop_new : (i : ℕ) → i ≤ 2 * sh.edges → i ≢ q.b → d Loop i ≡ q.m → c Loop i ≡ q.l
  pub loop_else : (i : ℕ) → i ≤ 2 * sh.edges → i ≢ q.a → d Loop i ≢ q.m → d Loop i ≡ c Loop i
  pub next_a : d Next q.a ≡ q.N
  pub next_b : d Next q.b ≡ q.M
  pub next_P : d Next q.P ≡ q.a
  pub next_Q : d Next q.Q ≡ q.b
  pub next_else : (i : ℕ) → i ≢ q.a → i ≢ q.b → i ≢ q.P → i ≢ q.Q → d Next i ≡ c Next i
  pub prev_a : d Prev q.a ≡ q.P
  pub prev_b : d Prev q.b ≡ q.Q
  pub prev_N : d Prev q.N ≡ q.a
  pub prev_M : d Prev q.M ≡ q.b
  pub prev_else : (i : ℕ) → i ≢ q.a → i ≢ q.b → i ≢ q.N → i ≢ q.M → d Prev i ≡ c Prev i

-- what the loop column of d must be, for d to be sound where c is: from the spur's end up to Q the new loop, on the
-- rest the old one
pub record Marked (sh : Shape) (c d : Columns) (q : Spot) : Type 0 where
  pub first_l : d First q.l ≡ first_of sh d q.l
  pub first_m : d First q.m ≡ first_of sh d q.m
  pub run : (i : ℕ) → HalfUsed sh c i → Till (spur c q) q.a q.Q i → d Loop i ≡ q.m
  pub rest : (i : ℕ) → HalfUsed sh c i → Till (spur c q) q.Q q.a i → d Loop i ≡ c Loop i

-- ---- which half-edges are in use

-- those in use with the edge: b, a and those of c
abbrev pub With : Shape → Columns → Spot → ℕ → Type 0
With sh c q = Or q.b (Or q.a (HalfUsed sh c))

module _ {sh : Shape} {c d : Columns} {q : Spot} (k : Cut sh c d q) where
  -- the same solids are in use
  pub solid_used_lem : (n : ℕ) → d SolidUsed n ≡ c SolidUsed n
  solid_used_lem = k.others SolidUsed refl

  -- and the same vertices
  pub vertex_used : (n : ℕ) → d VertexUsed n ≡ c VertexUsed n
  vertex_used = k.others VertexUsed refl

  -- a is in use in d
  pub used_a : HalfUsed sh d q.a
  used_a = (k.site.a_in.0, k.site.a_in.1, λ z. k.site.u_some (sym k.start_a ∙ z))

  -- so is b
  pub used_b : HalfUsed sh d q.b
  used_b = (k.site.b_in.0, k.site.b_in.1, λ z. k.site.v_some (sym k.start_b ∙ z))

  -- a half-edge of c starts where it did
  pub start_c : (i : ℕ) → HalfUsed sh c i → d Start i ≡ c Start i
  start_c i w = k.start_else i (off_a k.site i w) (off_b k.site i w)

  -- and is in use in d
  pub used_to : (i : ℕ) → HalfUsed sh c i → HalfUsed sh d i
  used_to i w = (w.0, w.1, λ z. w.2 (sym (start_c i w) ∙ z))

  -- and back
  pub used_from : (i : ℕ) → HalfUsed sh d i → i ≢ q.a → i ≢ q.b → HalfUsed sh c i
  used_from i w e g = (w.0, w.1, λ z. w.2 (k.start_else i e g ∙ z))

  -- a half-edge of c that is of m in d was of l
  pub loop_goes : (i : ℕ) → HalfUsed sh c i → d Loop i ≡ q.m → c Loop i ≡ q.l
  loop_goes i w = k.loop_new i w.1 (off_b k.site i w)

  -- else its loop is as it was
  pub loop_stays : (i : ℕ) → HalfUsed sh c i → d Loop i ≢ q.m → d Loop i ≡ c Loop i
  loop_stays i w = k.loop_else i w.1 (off_a k.site i w)

  -- the face of l is as it was
  pub face_l : d Face q.l ≡ c Face q.l
  face_l = k.face_else q.l (l_m k.site)

  -- those of d are a, b and those of c
  pub or_used : (i : ℕ) → With sh c q i → HalfUsed sh d i
  or_used i = ⊎_elim (λ e. subst (HalfUsed sh d) (sym e) used_b)
      (⊎_elim (λ e. subst (HalfUsed sh d) (sym e) used_a) (used_to i))

  -- and back
  pub used_or : (i : ℕ) → HalfUsed sh d i → With sh c q i
  used_or i w = split i q.b (λ e. inl e) (λ e. split i q.a (λ g. inr (inl g))
      (λ g. inr (inr (used_from i w g e))))

  -- a half-edge names another loop in d where it does in c
  pub same_name : (m : ℕ) → In sh.loops m → m ≢ q.l → m ≢ q.m → (i : ℕ) → i ≤ 2 * sh.edges
      → eqb (c Loop i) m ≡ eqb (d Loop i) m
  same_name m y e g i h = split i q.a
      (λ z. no (λ t. omega (arith, y.0, sym t ∙ ap (c Loop) z ∙ k.zero_a.l))
      (λ t. e (sym t ∙ ap (d Loop) z ∙ k.loop_a)))
      (λ z. split i q.b
      (λ z'. no (λ t. omega (arith, y.0, sym t ∙ ap (c Loop) z' ∙ k.zero_b.l))
      (λ t. g (sym t ∙ ap (d Loop) z' ∙ k.loop_b)))
      (λ z'. split (d Loop i) q.m
      (λ t. no (λ v. e (sym v ∙ k.loop_new i h z' t)) (λ v. g (sym v ∙ t)))
      (λ t. ap (λ j. eqb j m) (sym (k.loop_else i h z t)))))
    where
      -- it names neither
      no : c Loop i ≢ m → d Loop i ≢ m → eqb (c Loop i) m ≡ eqb (d Loop i) m
      no a b = eqb_other a ∙ sym (eqb_other b)

  -- a statement about each half-edge of d: about a, about b, about one of c
  pub each : (A : ℕ → Type 0) → A q.a → A q.b → ((i : ℕ) → HalfUsed sh c i → A i) → (i : ℕ) → HalfUsed sh d i
      → A i
  each A qa qb qo i w = ⊎_elim (λ e. subst A (sym e) qb) (⊎_elim (λ e. subst A (sym e) qa) (qo i)) (used_or i w)

  -- ---- the neighbours and the ends of the edge

  -- the four neighbours are in use in d
  pub around : HalfUsed sh d q.P × HalfUsed sh d q.N × HalfUsed sh d q.Q × HalfUsed sh d q.M
  around = (
    ⊎_elim (λ o. at_a o.before) (λ o. used_to q.P o.before) k.site.near.at_a,
    ⊎_elim (λ o. at_a o.after) (λ o. used_to q.N o.after) k.site.near.at_a,
    ⊎_elim (λ o. at_b o.before) (λ o. used_to q.Q o.before) k.site.near.at_b,
    ⊎_elim (λ o. at_b o.after) (λ o. used_to q.M o.after) k.site.near.at_b,
  )
    where
      -- a itself
      at_a : {i : ℕ} → i ≡ q.a → HalfUsed sh d i
      at_a e = subst (HalfUsed sh d) (sym e) used_a

      -- b itself
      at_b : {i : ℕ} → i ≡ q.b → HalfUsed sh d i
      at_b e = subst (HalfUsed sh d) (sym e) used_b

-- in c, vertex x starts a half-edge, or is isolated in loop l
abbrev pub Met : Shape → Columns → ℕ → ℕ → Type 0
Met sh c l x = ((i : ℕ) × HalfUsed sh c i × (c Start i ≡ x)) ⊎ (c Isolated l ≡ x)

-- so it is with both ends of the edge
pub met_u : {sh : Shape} {c d : Columns} {q : Spot} → Cut sh c d q → Met sh c q.l q.u
met_u {q = q} k = ⊎_elim (λ o. inl (rest_of q, o.1.corner, o.1.start)) (λ o. inr o.2) (first_corner k.site)

-- the other end
pub met_v : {sh : Shape} {c d : Columns} {q : Spot} → Cut sh c d q → Met sh c q.l q.v
met_v {q = q} k = ⊎_elim (λ o. inl (end_of q, o.2.corner, o.2.start)) (λ o. inr (o.2 ∙ o.0.ends))
    (second_corner k.site)

-- the loop is not isolated, or at u
pub isolated_or : {sh : Shape} {c : Columns} {q : Spot} → Near sh c q
    → (c Isolated q.l ≡ 0) ⊎ (c Isolated q.l ≡ q.u)
isolated_or {c = c} {q} o = pick_ind (λ y. c Isolated q.l ≡ y → (c Isolated q.l ≡ 0) ⊎ (c Isolated q.l ≡ q.u))
    (eqb q.N q.a && eqb q.M q.b) q.u 0 inr inl o.isolated
