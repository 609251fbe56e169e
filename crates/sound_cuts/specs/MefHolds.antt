-- mef as an operator: a marked table stays marked, and its inverse gives everything back. Here the operands (two
-- corners of a loop and a way) are turned into how the edge stands (`Choice`).
use Rattle.std.specs.Prelude.{◌≡◌, refl, ◌≢◌, ◌⊎◌, Bool, true, false, not, ◌&&◌, List, ℕ, ◌+◌, ◌*◌, ◌≤◌, ◌<◌, eqb, ℤ}
use Rattle.std.specs.Prelude.{length}
use Rattle.std.proofs.Common.{sym, ap, ◌∙◌, subst, inl, inr, ⊎_elim, arith}
use Rattle.laws.specs.Bools.{pick, split, le?, eqb_same, eqb_other}
use Rattle.script.specs.declared.Operator.{Operator}
use Rattle.layout.specs.declared.shape.Shape.{Shape}
use Rattle.layout.specs.Mate.{mate}
use Rattle.layout.specs.MateLaws.{mate_range}
use Rattle.euler.specs.Surgery.{half_by, way_of}
use Rattle.euler.specs.Exec.{refusal_of}
use Rattle.sound_tables.specs.Mates.{mate_other}
use Rattle.sound_tables.specs.EdgeIn.{prev_in, next_prev, prev_loop}
use Rattle.layout.specs.Fields.{Isolated, Start, Loop, Next, Prev, Columns}
use Rattle.sound_tables.specs.Sound.{In, HalfUsed, Sound}
use Rattle.sound_tables.specs.HalfNumbers.{edge_by, way_rest, mate_edge}
use Rattle.sound_tables.specs.Names.{not_isolated, free_halves}
use Rattle.sound_tables.specs.Good.{own, Marked}
use Rattle.sound_tables.specs.CornerTest.{CornerAt}
use Rattle.sound_tables.specs.Undone.{Kept, Undone}
use Rattle.sound_cuts.specs.Relation.{Spot, rest_of, end_of, Alone, Seated, Site, Cut}
use Rattle.sound_cuts.specs.MefSound.{cut_sound}
use Rattle.sound_cuts.specs.MefOperands.{mef_of, way_back}
use Rattle.sound_cuts.specs.MefAccepted.{mef_at}
use Rattle.sound_cuts.specs.Exact.{mef_kept, mef_undone}
use Rattle.sound_cuts.specs.MefPlace.{mef_cut, mef_marked}
use Rattle.sound_cuts.specs.MefFacts.{MefFacts, mef_facts}

-- C holds of each mef on table x, as it is read off its corners
abbrev pub OfEach : Shape → List ℕ → List ℤ → (Operator → Type 0) → Type 0
OfEach sh x p C = (d : Columns) (q : Spot) → Cut sh (own sh x) d q → Sound sh p d → C (mef_at q)

module _ {sh : Shape} {x : List ℕ} {p : List ℤ} (g : Marked sh x p) {o : Operator} (r : MefFacts sh (own sh x) o) where
  -- the columns of the table
  abbrev c : Columns
  c = own sh x

  -- the half that the way names
  abbrev a : ℕ
  a = half_by r.e r.w

  -- the edge between P and N, Q and M, from u and v
  abbrev spot : ℕ → ℕ → ℕ → ℕ → ℕ → ℕ → Spot
  spot u v P N Q M = record {
    l = r.l;
    m = r.m;
    f = r.f;
    a = half_by r.e r.w;
    b = mate
        (half_by r.e r.w);
    u = u;
    v = v;
    P = P;
    N = N;
    Q = Q;
    M = M;
  }

  -- the operator
  abbrev op : Operator
  op = mef_of r.l r.h1 r.h2 r.e r.f r.m r.w

  -- the edge is free
  free : In (2 * sh.edges) a × (c Start a ≡ 0) × (c Start (mate a) ≡ 0)
  free = free_halves g.sound r.e r.w r.e_in r.e_free

  -- half-edges in use are not a
  off_a : (i : ℕ) → HalfUsed sh c i → i ≢ a
  off_a i x e = x.2 (ap (c Start) e ∙ free.1)

  -- nor its mate
  off_b : (i : ℕ) → HalfUsed sh c i → i ≢ mate a
  off_b i x e = x.2 (ap (c Start) e ∙ free.2)

  -- the half that stands before corner h, and before N
  seated : (h N : ℕ) → HalfUsed sh c h → c Loop h ≡ r.l → HalfUsed sh c N
      → Seated sh c r.l (c Start h) (c Prev h) N h
  seated h N x lo y = record {
    before = prev_in g.sound.rules h x;
    after = y;
    corner = x;
    next = next_prev g.sound.rules h x;
    prev = refl;
    loop = prev_loop g.sound.rules h x ∙ lo;
    start = refl;
  }

  -- ---- how the edge stands, whether a (A) and its mate (B) are alone, and that the operands ask for this

  record Choice (A B : Bool) (u v P N Q M : ℕ) : Type 0 where
    A_is : eqb N a ≡ A
    B_is : eqb M (mate a) ≡ B
    at_a : Alone (spot u v P N Q M) a P N ⊎ Seated sh c r.l u P N (pick B N M)
    at_b : Alone (spot u v P N Q M) (mate a) Q M ⊎ Seated sh c r.l v Q M (pick A M N)
    apart : P ≢ Q
    N_M : N ≢ M
    isolated : c Isolated r.l ≡ pick (A && B) u 0
    u_some : u ≢ 0
    v_some : v ≢ 0
    h1_is : pick B (pick A 0 N) M ≡ r.h1
    h2_is : pick A (pick B 0 M) N ≡ r.h2
    w_is : way_of a + pick (A && not B) 2 0 ≡ r.w

  -- its place
  place : {A B : Bool} {u v P N Q M : ℕ} → Choice A B u v P N Q M → Site sh c (spot u v P N Q M)
  place y = record {
    l_in = r.l_in;
    m_in = r.m_in;
    f_in = r.f_in;
    a_in = free.0;
    b_in = mate_range a sh.edges free.0.0 free.0.1;
    ab = refl;
    l_used = r.l_used;
    m_free = r.m_free;
    f_free = r.f_free;
    a_free = free.1;
    b_free = free.2;
    u_some = y.u_some;
    v_some = y.v_some;
    near = record {
      at_a = rw y.B_is y.at_a;
      at_b = rw y.A_is y.at_b;
      apart = y.apart;
      N_M = y.N_M;
      isolated = rw (y.A_is, y.B_is) y.isolated;
    };
  }

  -- what holds of each mef, read off its corners, holds of this one
  holds_at : {A B : Bool} {u v P N Q M : ℕ} → (C : Operator → Type 0) → OfEach sh x p C → Choice A B u v P N Q M → C op
  holds_at {u = u} {v} {P} {N} {Q} {M} C all y =
      let k = mef_cut g.sound refl (place y) in
      let t = cut_sound k (mef_marked g.sound refl (place y)) g.sound in
      let e1 : rest_of (spot u v P N Q M) ≡ r.h1 = rw (y.A_is, y.B_is) y.h1_is in
      let e2 : end_of (spot u v P N Q M) ≡ r.h2 = rw (y.A_is, y.B_is) y.h2_is in
      let e3 : way_back (spot u v P N Q M) ≡ r.w = rw (y.A_is, y.B_is) y.w_is in
      let e4 = mate_edge a free.0.0 ∙ edge_by r.e r.w r.e_in.0 in
      let e : mef_at (spot u v P N Q M) ≡ op = λ i. mef_of r.l (e1 i) (e2 i) (e4 i) r.f r.m (e3 i) in
      subst C e (all _ (spot u v P N Q M) k t)

  -- ---- by the corners

  -- the halves differ
  a_b : a ≢ mate a
  a_b = mate_other a free.0.0

  -- the way of a low w, and of a high one
  way_low : r.w < 2 → way_of a + 0 ≡ r.w
  way_low h = omega (arith, h, way_rest r.e r.w r.e_in.0)

  -- the same of a high one
  way_high : 2 ≤ r.w → way_of a + 2 ≡ r.w
  way_high h = omega (arith, h, r.way, way_rest r.e r.w r.e_in.0)

  -- one corner h
  module _ (y : HalfUsed sh c r.h1) (lo : c Loop r.h1 ≡ r.l) (same : r.h1 ≡ r.h2) where
    -- the corner
    abbrev h : ℕ
    h = r.h1

    -- with a low way b is alone
    right : r.w < 2 → Choice false true (c Start h) (c Start h) (c Prev h) h (mate a) (mate a)
    right lw = record {
      A_is = eqb_other (off_a h y);
      B_is = eqb_same {m = mate a} refl;
      at_a = inr (seated h h y lo y);
      at_b = inl (record { before = refl; after = refl; ends = refl });
      apart = off_b (c Prev h) (prev_in g.sound.rules h y);
      N_M = off_b h y;
      isolated = not_isolated g.sound h y lo;
      u_some = y.2;
      v_some = y.2;
      h1_is = refl;
      h2_is = same;
      w_is = way_low lw;
    }

    -- with a high one a is
    left : 2 ≤ r.w → Choice true false (c Start h) (c Start h) a a (c Prev h) h
    left hw = record {
      A_is = eqb_same {m = a} refl;
      B_is = eqb_other (off_b h y);
      at_a = inl (record { before = refl; after = refl; ends = refl });
      at_b = inr (seated h h y lo y);
      apart = λ e. off_a (c Prev h) (prev_in g.sound.rules h y) (sym e);
      N_M = λ e. off_a h y (sym e);
      isolated = not_isolated g.sound h y lo;
      u_some = y.2;
      v_some = y.2;
      h1_is = refl;
      h2_is = same;
      w_is = way_high hw;
    }

  -- two corners
  both : HalfUsed sh c r.h1 → c Loop r.h1 ≡ r.l → HalfUsed sh c r.h2 → c Loop r.h2 ≡ r.l → r.h1 ≢ r.h2
      → r.w < 2
      → Choice false false (c Start r.h1) (c Start r.h2) (c Prev r.h1) r.h2 (c Prev r.h2) r.h1
  both y1 l1 y2 l2 ne lw = record {
    A_is = eqb_other (off_a r.h2 y2);
    B_is = eqb_other (off_b r.h1 y1);
    at_a = inr (seated r.h1 r.h2 y1 l1 y2);
    at_b = inr (seated r.h2 r.h1 y2 l2 y1);
    apart = λ e. ne (sym (next_prev g.sound.rules r.h1 y1) ∙ ap (c Next) e
        ∙ next_prev g.sound.rules r.h2 y2);
    N_M = λ e. ne (sym e);
    isolated = not_isolated g.sound r.h1 y1 l1;
    u_some = y1.2;
    v_some = y2.2;
    h1_is = refl;
    h2_is = refl;
    w_is = way_low lw;
  }

  -- at an isolated loop
  pair : r.h1 ≡ 0 → r.h2 ≡ 0 → c Isolated r.l ≢ 0 → r.w < 2
      → Choice true true (c Isolated r.l) (c Isolated r.l) a a (mate a) (mate a)
  pair e1 e2 i lw = record {
    A_is = eqb_same {m = a} refl;
    B_is = eqb_same {m = mate a} refl;
    at_a = inl (record { before = refl; after = refl; ends = refl });
    at_b = inl (record { before = refl; after = refl; ends = refl });
    apart = a_b;
    N_M = a_b;
    isolated = refl;
    u_some = i;
    v_some = i;
    h1_is = sym e1;
    h2_is = sym e2;
    w_is = way_low lw;
  }

  -- whichever they are
  holds : (C : Operator → Type 0) → OfEach sh x p C → CornerAt sh c r.l r.h1 → CornerAt sh c r.l r.h2
      → C op
  holds C a (inl y) (inl z) = ⊎_elim (λ h. absurd ((r.high h).1 y.0))
      (λ h. holds_at C a (pair y.0 z.0 y.1 h)) (le? 2 r.w)
  holds C a (inl y) (inr z) = absurd (y.1 (not_isolated g.sound r.h2 z.0 z.1))
  holds C a (inr y) (inl z) = absurd (z.1 (not_isolated g.sound r.h1 y.0 y.1))
  holds C a (inr y) (inr z) = split r.h1 r.h2
      (λ e. ⊎_elim (λ h. holds_at C a (left y.0 y.1 e h)) (λ h. holds_at C a (right y.0 y.1 e h))
      (le? 2 r.w))
      (λ e. ⊎_elim (λ h. absurd (e (r.high h).0)) (λ h. holds_at C a (both y.0 y.1 z.0 z.1 e h))
      (le? 2 r.w))

-- of an accepted mef holds what holds of each that is read off its corners
pub mef_by : (sh : Shape) (x : List ℕ) (p : List ℤ) (o : Operator) → Marked sh x p → length o.args ≡ 8
    → o.code ≡ 5 → refusal_of sh x o ≡ 0 → (C : Operator → Type 0) → OfEach sh x p C → C o
mef_by sh x p o g len e h C all =
    let r = mef_facts sh x o g.capacities len e h in
    subst C (sym r.is) (holds g r C all r.corner1 r.corner2)

-- both for mef
pub mef_holds : (sh : Shape) (x : List ℕ) (p : List ℤ) (o : Operator) → Marked sh x p → length o.args ≡ 8
    → o.code ≡ 5 → refusal_of sh x o ≡ 0 → Kept sh x p o × Undone sh x p o
mef_holds sh x p o g len e h = mef_by sh x p o g len e h (λ q. Kept sh x p q × Undone sh x p q)
    (λ d q k t. (mef_kept g k t, mef_undone g k t))
