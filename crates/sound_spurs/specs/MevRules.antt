-- The rules with dummies after mev: at a half-edge h of the loop, and at an isolated loop, where its dummy goes. Both
-- are `spur_rules`, the new vertex's own dummy standing at a number above all others while the edge goes in.
use Rattle.std.specs.Prelude.{◌≡◌, refl, ◌≢◌, List, ℕ, ◌+◌, ◌-◌, ◌*◌, ◌≤◌, ◌<◌, ℤ}
use Rattle.std.proofs.Common.{sym, ap, ◌∙◌, subst, inl, inr, ⊎_elim, arith}
use Rattle.laws.specs.Bools.{split}
use Rattle.laws.specs.Update.{upd_same, upd_off}
use Rattle.laws.specs.Cycles.{Cycles}
use Rattle.laws.specs.Moves.{Or, But}
use Rattle.layout.specs.declared.shape.Shape.{Shape}
use Rattle.layout.specs.Mate.{mate}
use Rattle.layout.specs.Fields.{Isolated, Start, Loop, Next, Prev, Columns}
use Rattle.sound_tables.specs.Mates.{mate⁺, mate⁺_low, mate⁺_high, mate⁺_mate⁺}
use Rattle.sound_tables.specs.EdgeIn.{Halves, Rules, prev_in, next_prev}
use Rattle.sound_tables.specs.Dummies.{spurred, spur_rules, dropped, drop_rules, agree_rules}
use Rattle.sound_tables.specs.Sound.{HalfUsed, Sound}
use Rattle.sound_tables.specs.Names.{start_unnamed, isolated_unnamed, not_isolated}
use Rattle.sound_tables.specs.WithDummies.{up_to_low, up_to_high, extended, Dummy, Member, sound_corners, dummy_of}
use Rattle.sound_spurs.specs.MevSound.{NewEdge, mev_columns, MevPlace, MevRules⁺, kb, off_k, off_b, new_k, new_b}
use Rattle.sound_spurs.specs.MevSound.{half_stays, half_was, dummy_stays}

-- the same cycles among fewer or more numbers
resize_cycles : {n m : ℕ} {U : ℕ → Type 0} {f lab : ℕ → ℕ} → Cycles n U f lab → ((i : ℕ) → U i → i ≤ m)
    → Cycles m U f lab
resize_cycles c h =
    let p = c.perm in
    record {
      perm = record { low = p.low; high = h; f_in = p.f_in; inv = p.inv; undo = p.undo };
      keeps = c.keeps;
      one = c.one;
    }

-- so for the rules
resize : {n m : ℕ} {mate : ℕ → ℕ} {U : ℕ → Type 0} {h : Halves} → Rules n mate U h → ((i : ℕ) → U i → i ≤ m)
    → Rules m mate U h
resize r h = record {
  mate_in = r.mate_in;
  loops = resize_cycles r.loops h;
  verts = resize_cycles r.verts h;
  undone = r.undone;
}

module _ {sh : Shape} {p : List ℤ} {c : Columns} (a : Sound sh p c) {E : NewEdge} (o : MevPlace sh c E) where
  open E use {loop as l, half as k, to as v}

  -- the number of half-edges
  abbrev n : ℕ
  n = 2 * sh.edges

  -- the number of the dummy on the way
  abbrev D : ℕ
  D = 2 * sh.edges + sh.loops + 1

  -- the half-edges and dummies before
  abbrev H : Halves
  H = extended sh c

  -- the columns afterwards
  abbrev d : Columns
  d = mev_columns sh c E

  -- a free half-edge is no member
  free_member : (i : ℕ) → i ≤ n → c Start i ≡ 0 → ¬ Member sh c i
  free_member i h z = ⊎_elim (λ w. w.2 z) (λ w. omega (arith, h, w.0))

  -- nor is the dummy on the way
  D_free : ¬ Member sh c D
  D_free = ⊎_elim (λ w. omega (arith, w.1)) (λ w. omega (arith, w.1))

  -- members have a loop
  member_loop : (i : ℕ) → Member sh c i → H.loop i ≢ 0
  member_loop i (inl w) z = let h = w.1 in omega (arith, (a.half i (w.0, w.1) w.2).loop_in.0, simp up_to_low at z)
  member_loop i (inr w) z = let h = w.0 in omega (arith, w.0, simp up_to_high at z)

  -- none starts at the new vertex
  member_start : (i : ℕ) → Member sh c i → H.start i ≢ v
  member_start i (inl w) z = start_unnamed a v o.vertex_in o.vertex_free i (w.0, w.1)
      (let h = w.1 in simp up_to_low at z)
  member_start i (inr w) z = isolated_unnamed a v o.vertex_in o.vertex_free (i - n)
      (omega (arith, w.0), omega (arith, w.1)) (let h = w.0 in simp up_to_high at z)

  -- the edge goes in after the member y
  spur : (y : ℕ) → Member sh c y → Rules D (mate⁺ sh.edges) (Or (mate k) (Or k (Member sh c)))
      (spurred H k (mate k) y v)
  spur y w = spur_rules
      (resize (sound_corners a).rules (λ i x. omega (arith, (sound_corners a).rules.loops.perm.high i x)))
      (mate⁺_mate⁺ sh.edges) k (mate k) y D 0 v
      (mate⁺_low sh.edges k o.half_in.1) (mate⁺_high sh.edges D (omega arith)) (kb o)
      (free_member k o.half_in.1 o.half_free) (free_member (mate k) o.mate_in.1 o.mate_free) D_free
      (λ e. omega (arith, o.half_in.1, e)) (λ e. omega (arith, o.mate_in.1, e))
      o.half_in.0 (omega (arith, o.half_in.1)) o.mate_in.0 (omega (arith, o.mate_in.1)) (omega arith)
      (omega arith) w member_loop member_start

  -- a statement about each member of c but the dummy of l, about k and about its mate; with what tells the places apart
  each : (Q : ℕ → Type 0) → Q k → Q (mate k)
      → ((i : ℕ) → HalfUsed sh c i → i ≤ n → i ≢ k → i ≢ mate k → Q i)
      → ((i : ℕ) → Dummy sh c i → n < i → i ≢ k → i ≢ mate k → i - n ≢ l → Q i)
      → (i : ℕ) → (Dummy sh c i → i - n ≢ l) → Or (mate k) (Or k (Member sh c)) i → Q i
  each Q qk qb qh qd i h = ⊎_elim (λ e. subst Q (sym e) qb) (⊎_elim (λ e. subst Q (sym e) qk) (⊎_elim
      (λ w. qh i w w.1 (off_k o i w) (off_b o i w))
      (λ w. qd i w w.0 (λ e. omega (arith, w.0, o.half_in.1, e)) (λ e. omega (arith, w.0, o.mate_in.1, e))
      (h w))))

  -- which are the members afterwards
  to_member : (i : ℕ) → (Dummy sh c i → i - n ≢ l) → Or (mate k) (Or k (Member sh c)) i → Member sh d i
  to_member = each (Member sh d) (inl (new_k o)) (inl (new_b o)) (λ i w m e f. inl (half_stays o i w))
      (λ i w m e f g. inr (dummy_stays o i g w))

  -- and which were members before
  from_member : (i : ℕ) → Member sh d i → Or (mate k) (Or k (Member sh c)) i × (Dummy sh c i → i - n ≢ l)
  from_member i (inl w) =
      let r = half_was o {Q = Or (mate k) (Or k (Member sh c))} (inr (inl refl)) (inl refl)
      (λ j x. inr (inr (inl x))) i w in
      (r, λ x. absurd (omega (arith, w.1, x.0)))
  from_member i (inr w) =
      let e : i - n ≢ l = λ z. w.2 (ap (d Isolated) z ∙ upd_same (c Isolated) l 0) in
      (inr (inr (inr (w.0, w.1, λ z. w.2 (upd_off (c Isolated) 0 e ∙ z)))), λ x. e)

-- the edge in loop l, half-edge k to the new vertex v, at a half-edge h
abbrev pub beside_edge : Columns → ℕ → ℕ → ℕ → ℕ → NewEdge
beside_edge c l k v h = record { loop = l; half = k; from = c Start h; to = v; before = c Prev h; after = h }

-- and at an isolated loop
abbrev pub lone_edge : Columns → ℕ → ℕ → ℕ → NewEdge
lone_edge c l k v = record { loop = l; half = k; from = c Isolated l; to = v; before = mate k; after = k }

-- ---- at a half-edge h of the loop

module _ {sh : Shape} {p : List ℤ} {c : Columns} (a : Sound sh p c) {l k v h : ℕ} (hu : HalfUsed sh c h)
    (hl : c Loop h ≡ l)
    (o : MevPlace sh c (beside_edge c l k v h)) where
  -- the number of half-edges
  abbrev n₁ : ℕ
  n₁ = 2 * sh.edges

  -- what comes before h
  abbrev P₁ : ℕ
  P₁ = c Prev h

  -- the columns afterwards
  abbrev d₁ : Columns
  d₁ = mev_columns sh c (beside_edge c l k v h)

  -- the half-edges and dummies once the edge is in
  abbrev H₁ : Halves
  H₁ = spurred (extended sh c) k (mate k) (c Prev h) v

  -- it is in use
  pu : HalfUsed sh c (c Prev h)
  pu = prev_in a.rules h hu

  -- the loop has no dummy
  no_dummy : (i : ℕ) → Dummy sh c i → i - n₁ ≢ l
  no_dummy i w e = w.2 (ap (c Isolated) e ∙ not_isolated a h hu hl)

  -- P is of the loop
  p_loop : c Loop (c Prev h) ≡ l
  p_loop = sym (a.rules.loops.keeps (c Prev h) pu) ∙ ap (c Loop) (next_prev a.rules h hu) ∙ hl

  -- what tells the places apart
  known : {A : Type 0} → (k ≤ n₁ → mate k ≤ n₁ → P₁ ≤ n₁ → h ≤ n₁ → k ≢ mate k → mate k ≢ k → P₁ ≢ k → P₁ ≢ mate k
      → k ≢ P₁
      → mate k ≢ P₁ → h ≢ k → h ≢ mate k → k ≢ h → mate k ≢ h → c Next P₁ ≡ h → A) → A
  known f = f o.half_in.1 o.mate_in.1 pu.1 hu.1 (kb o) (λ z. kb o (sym z)) (off_k o P₁ pu) (off_b o P₁ pu)
      (λ z. off_k o P₁ pu (sym z)) (λ z. off_b o P₁ pu (sym z)) (off_k o h hu) (off_b o h hu)
      (λ z. off_k o h hu (sym z)) (λ z. off_b o h hu (sym z)) (next_prev a.rules h hu)

  -- column by column: starts
  at_start : (i : ℕ) → Or (mate k) (Or k (Member sh c)) i → (extended sh d₁).start i ≡ H₁.start i
  at_start i = known λ k1 b1 p1 h1 c1 c2 c3 c4 c5 c6 c7 c8 c9 c10 np. each a o
      (λ i. (extended sh d₁).start i ≡ H₁.start i)
      (simp (up_to_low, upd_same, upd_off, np)) (simp (up_to_low, upd_same, upd_off))
      (λ i w m e f. simp (up_to_low, upd_off)) (λ i w m e f g. simp (up_to_high, upd_off)) i (no_dummy i)

  -- loops
  at_loop : (i : ℕ) → Or (mate k) (Or k (Member sh c)) i → (extended sh d₁).loop i ≡ H₁.loop i
  at_loop i = known λ k1 b1 p1 h1 c1 c2 c3 c4 c5 c6 c7 c8 c9 c10 np. each a o (λ i. (extended sh d₁).loop i ≡ H₁.loop i)
      (simp (up_to_low, upd_same, upd_off) (sym p_loop)) (simp (up_to_low, upd_same, upd_off) (sym p_loop))
      (λ i w m e f. simp (up_to_low, upd_off)) (λ i w m e f g. simp (up_to_high, upd_off)) i (no_dummy i)

  -- next
  at_next : (i : ℕ) → Or (mate k) (Or k (Member sh c)) i → (extended sh d₁).next i ≡ H₁.next i
  at_next i = known λ k1 b1 p1 h1 c1 c2 c3 c4 c5 c6 c7 c8 c9 c10 np. each a o (λ i. (extended sh d₁).next i ≡ H₁.next i)
      (simp (up_to_low, upd_same, upd_off)) (simp (up_to_low, upd_same, upd_off, np))
      (λ i w m e f. split i P₁ (λ z. rw z (simp (up_to_low, upd_same, upd_off))) (λ z. simp (up_to_low, upd_off)))
      (λ i w m e f g. let z : i ≢ P₁ = λ y. omega arith in simp (up_to_high, upd_off)) i (no_dummy i)

  -- previous
  at_prev : (i : ℕ) → Or (mate k) (Or k (Member sh c)) i → (extended sh d₁).prev i ≡ H₁.prev i
  at_prev i = known λ k1 b1 p1 h1 c1 c2 c3 c4 c5 c6 c7 c8 c9 c10 np. each a o (λ i. (extended sh d₁).prev i ≡ H₁.prev i)
      (simp (up_to_low, upd_same, upd_off)) (simp (up_to_low, upd_same, upd_off))
      (λ i w m e f. split i h (λ z. rw z (simp (up_to_low, np, upd_same, upd_off)))
      (λ z. simp (up_to_low, np, upd_off)))
      (λ i w m e f g. let z : i ≢ h = λ y. omega arith in simp (up_to_low, up_to_high, np, upd_off)) i (no_dummy i)

  -- the rules with dummies afterwards
  pub mev_at_half : MevRules⁺ sh c (beside_edge c l k v h)
  mev_at_half = resize (agree_rules (spur a o (c Prev h) (inl pu)) (λ i w. to_member a o i (no_dummy i) w)
      (λ i w. (from_member a o i w).0) at_start at_loop at_next at_prev)
      (λ i. ⊎_elim (λ w. omega (arith, w.1)) (λ w. w.1))

-- ---- at an isolated loop: its dummy y goes in the end

module _ {sh : Shape} {p : List ℤ} {c : Columns} (a : Sound sh p c) {l k v : ℕ} (isolated : c Isolated l ≢ 0)
    (o : MevPlace sh c (lone_edge c l k v)) where
  -- the number of half-edges
  abbrev n₂ : ℕ
  n₂ = 2 * sh.edges

  -- the loop's dummy
  abbrev y : ℕ
  y = 2 * sh.edges + l

  -- the columns afterwards
  abbrev d₂ : Columns
  d₂ = mev_columns sh c (lone_edge c l k v)

  -- the half-edges and dummies once the edge is in
  abbrev S₂ : Halves
  S₂ = spurred (extended sh c) k (mate k) (2 * sh.edges + l) v

  -- and the dummy out
  abbrev H₂ : Halves
  H₂ = dropped S₂ (2 * sh.edges + l) (mate k)

  -- it is a dummy
  y_dummy : Dummy sh c y
  y_dummy = dummy_of sh c l o.loop_in isolated

  -- alone in its cycle
  y_next : (extended sh c).next y ≡ y
  y_next = up_to_high n₂ (c Next) (λ j. j) y y_dummy.0

  -- it is neither k
  yk : y ≢ k
  yk e = omega (arith, y_dummy.0, o.half_in.1, e)

  -- nor k's mate
  yb : y ≢ mate k
  yb e = omega (arith, y_dummy.0, o.mate_in.1, e)

  -- after the dummy comes k, and after the mate the dummy
  next_b : S₂.next (mate k) ≡ y
  next_b = upd_same _ (mate k) _ ∙ y_next

  -- the rules once it is out
  without : Rules (2 * sh.edges + sh.loops + 1) (mate⁺ sh.edges) (But y (Or (mate k) (Or k (Member sh c)))) H₂
  without = drop_rules (spur a o y (inr y_dummy)) (mate⁺_mate⁺ sh.edges) y (mate k)
      (mate⁺_high sh.edges y y_dummy.0) (inl refl) next_b yb

  -- another dummy is of another loop
  other_dummy : (i : ℕ) → i ≢ y → Dummy sh c i → i - n₂ ≢ l
  other_dummy i e w z = e (omega (arith, w.0, z))

  -- half-edges are not y
  low_y : (i : ℕ) → i ≤ n₂ → i ≢ y
  low_y i h e = omega (arith, h, y_dummy.0, e)

  -- nor are dummies of other loops
  other_y : (i : ℕ) → i - n₂ ≢ l → i ≢ y
  other_y i h e = h (omega (arith, e))

  -- what tells the places apart
  known₂ : {A : Type 0} → (k ≤ n₂ → mate k ≤ n₂ → n₂ < y → k ≢ mate k → mate k ≢ k → y ≢ k → k ≢ y → y ≢ mate k
      → mate k ≢ y
      → y - n₂ ≡ l → A) → A
  known₂ f = f o.half_in.1 o.mate_in.1 y_dummy.0 (kb o) (λ z. kb o (sym z)) yk (λ z. yk (sym z)) yb
      (λ z. yb (sym z)) (omega arith)

  -- column by column: starts
  to_start : (i : ℕ) → But y (Or (mate k) (Or k (Member sh c))) i → (extended sh d₂).start i ≡ H₂.start i
  to_start i w = known₂ λ k1 b1 y1 c1 c2 c3 c4 c5 c6 yl. each a o (λ i. (extended sh d₂).start i ≡ H₂.start i)
      (simp (up_to_low, up_to_high, upd_same, upd_off, yl)) (simp (up_to_low, upd_same, upd_off))
      (λ i w m e f. simp (up_to_low, upd_off)) (λ i w m e f g. simp (up_to_high, upd_off)) i (other_dummy i w.1) w.0

  -- loops
  to_loop : (i : ℕ) → But y (Or (mate k) (Or k (Member sh c))) i → (extended sh d₂).loop i ≡ H₂.loop i
  to_loop i w = known₂ λ k1 b1 y1 c1 c2 c3 c4 c5 c6 yl. each a o (λ i. (extended sh d₂).loop i ≡ H₂.loop i)
      (simp (up_to_low, up_to_high, upd_same, upd_off, yl)) (simp (up_to_low, up_to_high, upd_same, upd_off, yl))
      (λ i w m e f. simp (up_to_low, upd_off)) (λ i w m e f g. simp (up_to_high, upd_off)) i (other_dummy i w.1) w.0

  -- next
  to_next : (i : ℕ) → But y (Or (mate k) (Or k (Member sh c))) i → (extended sh d₂).next i ≡ H₂.next i
  to_next i w = known₂ λ k1 b1 y1 c1 c2 c3 c4 c5 c6 yl. each a o (λ i. (extended sh d₂).next i ≡ H₂.next i)
      (simp (up_to_low, up_to_high, upd_same, upd_off)) (simp (up_to_low, up_to_high, upd_same, upd_off))
      (λ i w m e f. let z = low_y i m in simp (up_to_low, up_to_high, upd_same, upd_off))
      (λ i w m e f g. let z = other_y i g in simp (up_to_high, upd_same, upd_off)) i (other_dummy i w.1) w.0

  -- previous
  to_prev : (i : ℕ) → But y (Or (mate k) (Or k (Member sh c))) i → (extended sh d₂).prev i ≡ H₂.prev i
  to_prev i w = known₂ λ k1 b1 y1 c1 c2 c3 c4 c5 c6 yl. each a o (λ i. (extended sh d₂).prev i ≡ H₂.prev i)
      (simp (up_to_low, up_to_high, upd_same, upd_off)) (simp (up_to_low, up_to_high, upd_same, upd_off))
      (λ i w m e f. let z = low_y i m in simp (up_to_low, up_to_high, upd_same, upd_off))
      (λ i w m e f g. let z = other_y i g in simp (up_to_high, upd_same, upd_off)) i (other_dummy i w.1) w.0

  -- the rules with dummies afterwards
  pub mev_at_isolated : MevRules⁺ sh c (lone_edge c l k v)
  mev_at_isolated = resize (agree_rules without (λ i w. to_member a o i (other_dummy i w.1) w.0)
      (λ i w. let r = from_member a o i w in (r.0, λ e. not_y i w r e)) to_start to_loop to_next to_prev)
      (λ i. ⊎_elim (λ w. omega (arith, w.1)) (λ w. w.1))
    where
      -- the dummy is no member afterwards
      not_y : (i : ℕ) → Member sh d₂ i → Or (mate k) (Or k (Member sh c)) i × (Dummy sh c i → i - n₂ ≢ l) → i ≡ y → ⊥
      not_y i w r e = r.1 (subst (Dummy sh c) (sym e) y_dummy) (omega (arith, e))
