-- What a sweep leaves of loop l with corners k 0 .. k z, where b corners were swept before it: a side at each corner,
-- the loop lifted, a new vertex over each corner. Sweeps of other loops keep all that.
use Rattle.std.specs.Prelude.{◌≡◌, refl, ◌≢◌, ◌⊎◌, List, ℕ, zero, suc, ◌+◌, ◌-◌, ◌*◌, ◌≤◌, ◌<◌, eqb, ℤ}
use Rattle.std.proofs.Common.{sym, ap, ◌∙◌, subst, inl, inr, arith}
use Rattle.laws.specs.Bools.{pick}
use Rattle.laws.specs.Permutations.{iter}
use Rattle.laws.specs.Cycles.{Cycles, forwards}
use Rattle.layout.specs.declared.shape.Shape.{Shape}
use Rattle.layout.specs.Mate.{mate}
use Rattle.layout.specs.Points.{point_width, coordinate}
use Rattle.layout.specs.Fields.{Solid, Outer, Face, Start, Loop, Next, VertexUsed, Columns}
use Rattle.sound_tables.specs.Sound.{In, HalfUsed, Sound}
use Rattle.sound_tables.specs.PointLists.{three}
use Rattle.chains.specs.Numbers.{Names}
use Rattle.sweeps.specs.Sweep.{down_at}
use Rattle.sweeps.specs.Rising.{On}
use Rattle.sweeps.specs.Frames.{Keeps, half_keeps, face_keeps, on_keeps}

-- ---- half-edges

-- the up half of the riser at corner j; its mate is `down_at`
abbrev pub up_at : Names → ℕ → ℕ → ℕ
up_at N b j = 2 * N.edge (2 * b + j) - 1

-- the up half of the riser after corner j: the next one's, and the first one's after the last corner
abbrev pub after_at : Names → ℕ → ℕ → ℕ → ℕ
after_at N z b j = pick (eqb j z) (up_at N b 0) (up_at N b (suc j))

-- the lifted half of the new edge of side j
abbrev pub top_at : Names → ℕ → ℕ → ℕ → ℕ
top_at N z b j = 2 * N.edge (2 * b + suc z + j) - 1

-- the one after it
abbrev pub top_after : Names → ℕ → ℕ → ℕ → ℕ
top_after N z b j = pick (eqb j z) (top_at N z b 0) (top_at N z b (suc j))

-- where the mef of side j ends: at the next riser's down half, the last at the first side's edge
abbrev pub end_at : Names → ℕ → ℕ → ℕ → ℕ
end_at N z b j = pick (eqb j z) (top_at N z b 0) (down_at N b (suc j))

-- ---- a side

-- loop m lies in face g, which is in use and has it as its outer loop; in it follow each other, round: the corner k,
-- the riser s up after it, the new edge's half t, the riser h down
pub record Side (sh : Shape) (d : Columns) (m g k s t h : ℕ) : Type 0 where
  -- the loop lies in the face
  pub face : d Face m ≡ g
  -- the face is of some solid
  pub used : d Solid g ≢ 0
  -- the loop is its outer one
  pub outer : d Outer g ≡ m
  -- after the corner comes the riser up
  pub corner : On sh d m k s
  -- after it the new edge's half
  pub up : On sh d m s t
  -- after it the riser down
  pub back : On sh d m t h
  -- after it the corner
  pub down : On sh d m h k

-- one of four
abbrev pub Four : ℕ → ℕ → ℕ → ℕ → ℕ → Type 0
Four k s t h i = (i ≡ k) ⊎ ((i ≡ s) ⊎ ((i ≡ t) ⊎ (i ≡ h)))

-- what a function does not leave, its steps do not leave
stay : (f : ℕ → ℕ) (P : ℕ → Type 0) → ((i : ℕ) → P i → P (f i)) → (m i : ℕ) → P i → P (iter f m i)
unfolding iter
stay f P h zero i u = u
stay f P h (suc m) i u = stay f P h m (f i) (h i u)

-- what has the label of one of such a cycle is of the cycle
pub only_in : {n : ℕ} {U : ℕ → Type 0} {f lab : ℕ → ℕ} → Cycles n U f lab → (P : ℕ → Type 0)
    → ((i : ℕ) → P i → P (f i)) → (b : ℕ) → U b → P b → (i : ℕ) → U i → lab i ≡ lab b → P i
only_in {f = f} y P h b u v i w e =
    let r = (forwards y.perm (y.one b i u w (sym e))).0 in
    subst P r.1 (stay f P h r.0 b v)

module _ {sh : Shape} {p : List ℤ} {d : Columns} {m g k s t h : ℕ} (S : Sound sh p d) where
  -- it is a side if one of the four lies in the loop
  pub side_round : HalfUsed sh d t → d Loop t ≡ m → d Next t ≡ h → d Next h ≡ k → d Next k ≡ s → d Next s ≡ t
      → d Face m ≡ g → d Solid g ≢ 0 → d Outer g ≡ m → Side sh d m g k s t h
  side_round u lo eh ek es et f su out =
      let next : (i j : ℕ) → HalfUsed sh d i × (d Loop i ≡ m) → d Next i ≡ j → HalfUsed sh d j × (d Loop j ≡ m) =
      λ i j q e. (
        subst (HalfUsed sh d) e (S.rules.loops.perm.f_in i q.0),
        ap (d Loop) (sym e) ∙ S.rules.loops.keeps i q.0 ∙ q.1,
      ) in
      let oh = next t h (u, lo) eh in
      let ok = next h k oh ek in
      let os = next k s ok es in
      record {
        face = f;
        used = su;
        outer = out;
        corner = (ok.0, ok.1, es);
        up = (os.0, os.1, et);
        back = (u, lo, eh);
        down = (oh.0, oh.1, ek);
      }

  -- THE FOUR ARE ALL OF THE LOOP
  pub only_four : Side sh d m g k s t h → (i : ℕ) → HalfUsed sh d i → d Loop i ≡ m → Four k s t h i
  only_four q i u e = only_in S.rules.loops (Four k s t h) go k q.corner.0 (inl refl) i u (e ∙ sym q.corner.1)
    where
      go : (i : ℕ) → Four k s t h i → Four k s t h (d Next i)
      go i (inl e) = inr (inl (ap (d Next) e ∙ q.corner.2))
      go i (inr (inl e)) = inr (inr (inl (ap (d Next) e ∙ q.up.2)))
      go i (inr (inr (inl e))) = inr (inr (inr (ap (d Next) e ∙ q.back.2)))
      go i (inr (inr (inr e))) = inl (ap (d Next) e ∙ q.down.2)

-- ---- new vertices

-- for j < n half-edge h j starts at vertex w j, which is in use and lies at X j, Y j, Z j
pub record Risen (sh : Shape) (d : Columns) (q : List ℤ) (h w : ℕ → ℕ) (X Y Z : ℕ → ℤ) (n : ℕ) : Type 0 where
  pub half : (j : ℕ) → j < n → HalfUsed sh d (h j)
  pub start : (j : ℕ) → j < n → d Start (h j) ≡ w j
  pub inside : (j : ℕ) → j < n → In sh.vertices (w j)
  pub used : (j : ℕ) → j < n → d VertexUsed (w j) ≢ 0
  pub point : (j : ℕ) → j < n → (i : ℕ) → i < point_width → coordinate q (w j) i ≡ three (X j) (Y j) (Z j) i

-- ---- the loop

-- all of it
pub record Lifted (sh : Shape) (N : Names) (k : ℕ → ℕ) (X Y Z : ℕ → ℤ) (l z b : ℕ) (d : Columns) (q : List ℤ) : Type 0
  where
    pub side : (j : ℕ) → j ≤ z → Side sh d (N.loop (b + j)) (N.face (b + j)) (k j) (after_at N z b j)
        (mate (top_at N z b j)) (down_at N b j)
    pub top : (j : ℕ) → j ≤ z → On sh d l (top_at N z b j) (top_after N z b j)
    pub risen : Risen sh d q (down_at N b) (λ j. N.vertex (b + j)) X Y Z (suc z)

-- ---- kept

module _ {sh : Shape} {c d : Columns} {p q : List ℤ} {O : ℕ → Type 0} (K : Keeps sh c p d q O) where
  -- a side of a loop that is kept
  pub side_keeps : {m g k s t h : ℕ} → O m → In sh.loops m → In sh.faces g → Side sh c m g k s t h
      → Side sh d m g k s t h
  side_keeps {m} {g} {k} {s} {t} {h} o i n y = record {
    face = K.face m i (λ z. omega (arith, n.0, sym y.face ∙ z)) ∙ y.face;
    used = face_keeps K g n y.used;
    outer = K.outer g n y.used ∙ y.outer;
    corner = on_keeps K m k s o y.corner;
    up = on_keeps K m s t o y.up;
    back = on_keeps K m t h o y.back;
    down = on_keeps K m h k o y.down;
  }

  -- new vertices
  pub risen_keeps : {h w : ℕ → ℕ} {X Y Z : ℕ → ℤ} {n : ℕ} → Risen sh c p h w X Y Z n → Risen sh d q h w X Y Z n
  risen_keeps {h} {w} y = record {
    half = λ j u. half_keeps K (h j) (y.half j u);
    start = λ j u. K.start (h j) (y.half j u) ∙ y.start j u;
    inside = y.inside;
    used = λ j u. K.used (w j) (y.inside j u) (y.used j u);
    point = λ j u i b. K.point (w j) (y.inside j u) (y.used j u) i b ∙ y.point j u i b;
  }

  -- ANOTHER LOOP
  pub lifted_keeps : {N : Names} {k : ℕ → ℕ} {X Y Z : ℕ → ℤ} {l z b : ℕ} → O l
      → ((j : ℕ) → j ≤ z → O (N.loop (b + j)) × In sh.loops (N.loop (b + j)) × In sh.faces (N.face (b + j)))
      → Lifted sh N k X Y Z l z b c p → Lifted sh N k X Y Z l z b d q
  lifted_keeps {l = l} ol h y = record {
    side = λ j u. let w = h j u in side_keeps w.0 w.1 w.2 (y.side j u);
    top = λ j u. on_keeps K l _ _ ol (y.top j u);
    risen = risen_keeps y.risen;
  }
