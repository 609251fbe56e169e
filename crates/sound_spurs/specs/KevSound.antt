-- kev on the columns: the edge of a spur k goes, with its mate's vertex. Where k follows its mate the loop becomes
-- isolated at k's vertex; elsewhere it keeps a half-edge at that vertex. A sound table stays sound.
use Rattle.std.specs.Prelude.{◌≡◌, refl, ◌≢◌, ◌⊎◌, List, [], ◌∷◌, ℕ, ◌*◌, eqb, ℤ}
use Rattle.std.proofs.Common.{sym, ap, ◌∙◌, subst, inl, inr, ⊎_elim, arith}
use Rattle.laws.specs.Bools.{split, eqb_other}
use Rattle.laws.specs.Search.{least_ext}
use Rattle.laws.specs.Update.{upd_at, upd_same, upd_off}
use Rattle.laws.specs.Linked.{same, link, map_linked}
use Rattle.laws.specs.Moves.{But}
use Rattle.layout.specs.declared.shape.Shape.{Shape}
use Rattle.layout.specs.Mate.{mate}
use Rattle.layout.specs.MateLaws.{mate_mate}
use Rattle.layout.specs.Fields.{Solid, Face, First, Isolated, Start, Loop, Next, Prev, VertexUsed, Columns}
use Rattle.layout.specs.Writes.{Write, write, changes}
use Rattle.euler.specs.Surgery.{no_edge_writes}
use Rattle.sound_tables.specs.EdgeIn.{Rules}
use Rattle.sound_tables.specs.Dummies.{agree_rules}
use Rattle.sound_tables.specs.Labels.{label_some, label_none}
use Rattle.sound_tables.specs.Solids.{Solids}
use Rattle.sound_tables.specs.Sound.{In, halves, HalfUsed, FaceUsed, side, first_of, FirstOrIsolated, LoopSound}
use Rattle.sound_tables.specs.Sound.{HalfSound, HalfFree, VertexSound, alone, joined, PointSound, Sound, half_by_lem}
use Rattle.sound_tables.specs.Names.{not_isolated}
use Rattle.sound_spurs.specs.KevRules.{SpurOut, spur_out}
use Rattle.sound_spurs.specs.Relation.{Spur, used_P, used_N, in_k, in_b, in_N, kb, next_P, Nb, spur_loop_b}
use Rattle.sound_spurs.specs.Relation.{spur_loop_N, spur_loop_in, spur_loop_used, spur_start_N, near_in}
use Rattle.sound_spurs.specs.Relation.{near_used, far_in, far_used, only_b, ends, named_used, whole_start}
use Rattle.sound_spurs.specs.Relation.{whole_loop}

-- the stores that take the edge of k out
abbrev pub out_stores : Columns → ℕ → List Write
out_stores c k = no_edge_writes k (c Prev k) (c Next (mate k)) k (mate k)

-- the columns once the edge is out
abbrev pub kev_out : Columns → ℕ → Columns
kev_out c k = changes (out_stores c k) c

-- the stores to the loop, whose first is then f and whose isolated vertex I, and to the vertex that goes
abbrev pub last_stores : Columns → ℕ → ℕ → ℕ → List Write
last_stores c k f I = write First (c Loop k) f ∷ write Isolated (c Loop k) I ∷ write VertexUsed (c Start (mate k)) 0
    ∷ []

-- the columns afterwards, the loop isolated at I, which is 0 where it is not
abbrev pub kev_columns : Shape → Columns → ℕ → ℕ → Columns
kev_columns sh c k I = changes (last_stores c k (first_of sh (kev_out c k) (c Loop k)) I) (kev_out c k)

-- where the loop is isolated then
abbrev pub Left : Columns → ℕ → ℕ → Type 0
Left c k I = ((c Next (mate k) ≡ k) × (I ≡ c Start k)) ⊎ ((c Next (mate k) ≢ k) × (I ≡ 0))

-- the loop is isolated at k's vertex afterwards, or not
pub left_of : (c : Columns) (k : ℕ) → (I : ℕ) × Left c k I
left_of c k = split (c Next (mate k)) k (λ e. (c Start k, inl (e, refl))) (λ e. (0, inr (e, refl)))

module _ {sh : Shape} {p : List ℤ} {c : Columns} {k : ℕ} (sp : Spur sh p c k) {I : ℕ}
    (left : Left c k I) where
  open sp use {sound as a, used as uk, next as nk}

  -- the columns afterwards
  abbrev d : Columns
  d = kev_columns sh c k I

  -- as many half-edges
  abbrev n : ℕ
  n = 2 * sh.edges

  -- the loop
  abbrev l : ℕ
  l = c Loop k

  -- the vertex that goes
  abbrev v : ℕ
  v = c Start (mate k)

  -- ---- the columns of the half-edges

  -- k starts nowhere
  pub out_start_k : d Start k ≡ 0
  out_start_k = upd_off _ 0 (kb sp) ∙ upd_same _ k 0

  -- nor does its mate
  pub out_start_b : d Start (mate k) ≡ 0
  out_start_b = upd_same _ (mate k) 0

  -- k names no loop
  out_loop_k : d Loop k ≡ 0
  out_loop_k = upd_off _ 0 (kb sp) ∙ upd_same _ k 0

  -- nor does its mate
  out_loop_b : d Loop (mate k) ≡ 0
  out_loop_b = upd_same _ (mate k) 0

  -- k and its mate are all zero, the others as before but for the two that meet
  pub columns_out : SpurOut (halves c) (halves d) k (mate k) (c Prev k)
  columns_out = record {
    start = λ i e f. simp upd_off;
    loop = λ i e f. simp upd_off;
    next = λ i e f. simp upd_off;
    prev = λ i e f. simp upd_off;
  }

  -- a half-edge is in use afterwards if it was and is neither
  half_was : (i : ℕ) → HalfUsed sh d i → But k (But (mate k) (HalfUsed sh c)) i
  half_was i w =
      let e : i ≢ k = λ z. w.2 (ap (d Start) z ∙ out_start_k) in
      let f : i ≢ mate k = λ z. w.2 (ap (d Start) z ∙ out_start_b) in
      (((w.0, w.1, λ z. w.2 (columns_out.start i e f ∙ z)), f), e)

  -- and back
  pub half_stays : (i : ℕ) → But k (But (mate k) (HalfUsed sh c)) i → HalfUsed sh d i
  half_stays i w = (w.0.0.0, w.0.0.1, λ z. w.0.0.2 (sym (columns_out.start i w.1 w.0.1) ∙ z))

  -- the rules for those
  pub kev_rules : Rules (2 * sh.edges) mate (HalfUsed sh d) (halves d)
  kev_rules = agree_rules (spur_out a.rules mate_mate k (mate k) (c Prev k) refl (kb sp) uk (used_P sp)
      (next_P sp) nk columns_out)
      half_stays half_was (λ i w. refl) (λ i w. refl) (λ i w. refl) (λ i w. refl)

  -- one that is not in use is all zero
  pub free_half : (i : ℕ) → In n i → d Start i ≡ 0 → HalfFree sh d i
  free_half i j z = split i k
      (λ e. rw e (let h = kb sp in
      record { loop = out_loop_k; next = simp (upd_same, upd_off); prev = simp (upd_same, upd_off) }))
      (λ e. split i (mate k)
      (λ f. rw f (record { loop = out_loop_b; next = simp upd_same; prev = simp upd_same }))
      (λ f.
      let y : c Start i ≡ 0 = sym (columns_out.start i e f) ∙ z in
      let r = a.half_free i j y in
      record {
        loop = columns_out.loop i e f ∙ r.loop;
        next = columns_out.next i e f ∙ upd_off _ _ (λ q. (used_P sp).2 (ap (c Start) (sym q) ∙ y)) ∙ r.next;
        prev = columns_out.prev i e f ∙ upd_off _ _ (λ q. (used_N sp).2 (ap (c Start) (sym q) ∙ y)) ∙ r.prev;
      }))

  -- a vertex other than the one that goes stays in use
  stays_used : (w : ℕ) → w ≢ v → c VertexUsed w ≢ 0 → d VertexUsed w ≢ 0
  stays_used w e h z = h (sym (upd_off (c VertexUsed) 0 e) ∙ z)

  -- start and loop of the others are in use
  half_sound : (i : ℕ) → HalfUsed sh d i → HalfSound sh d i
  half_sound i w =
      let o = half_was i w in
      let r = a.half i (w.0, w.1) o.0.0.2 in
      let s : d Start i ≡ c Start i = columns_out.start i o.1 o.0.1 in
      let m : d Loop i ≡ c Loop i = columns_out.loop i o.1 o.0.1 in
      half_by_lem (c Start i) (c Loop i) s m r.start_in
      (stays_used (c Start i) (λ e. o.0.1 (only_b sp i o.0.0 e)) r.start_used) r.loop_in r.loop_used

  -- ---- loops

  -- what names another loop is as before
  same_name : (m : ℕ) → In sh.loops m → m ≢ l → (i : ℕ) → eqb (c Loop i) m ≡ eqb (d Loop i) m
  same_name m y e i = split i k
      (λ z. gone (ap (c Loop) z) (ap (d Loop) z ∙ out_loop_k))
      (λ z. split i (mate k) (λ z'. gone (ap (c Loop) z' ∙ spur_loop_b sp) (ap (d Loop) z' ∙ out_loop_b))
      (λ z'. ap (λ w. eqb w m) (sym (columns_out.loop i z z'))))
    where
      -- a half-edge of the edge that goes named l, and names none
      gone : c Loop i ≡ l → d Loop i ≡ 0 → eqb (c Loop i) m ≡ eqb (d Loop i) m
      gone f g =
          let x : c Loop i ≢ m = λ w. e (sym w ∙ f) in
          let x' : d Loop i ≢ m = λ w. omega (arith, y.0, w, g) in
          eqb_other x ∙ sym (eqb_other x')

  -- where k and its mate were the whole, none names the loop
  pub none_named : c Next (mate k) ≡ k → (i : ℕ) → In n i → d Loop i ≢ l
  none_named e i j q = split i k
      (λ z. omega (arith, (spur_loop_in sp).0, sym q ∙ ap (d Loop) z ∙ out_loop_k))
      (λ z. split i (mate k)
      (λ z'. omega (arith, (spur_loop_in sp).0, sym q ∙ ap (d Loop) z' ∙ out_loop_b))
      (λ z'.
      let o : c Loop i ≡ l = sym (columns_out.loop i z z') ∙ q in
      ⊎_elim z z' (whole_loop sp e i (named_used sp i j o) o)))

  -- the loop itself
  own_either : FirstOrIsolated sh d l
  own_either = ⊎_elim
      (λ w. inr (
        upd_same (c First) l _ ∙ label_none n (d Loop) l (none_named w.0),
        subst (In sh.vertices) (sym (isolated_at w.1)) (near_in sp),
        λ z. stays_used (c Start k) (ends sp) (near_used sp) (ap (d VertexUsed) (sym (isolated_at w.1)) ∙ z),
      ))
      (λ w. inl (
        (λ z. label_some n (d Loop) l (c Next (mate k)) (in_N sp) (columns_out.loop _ w.0 (Nb sp) ∙ spur_loop_N sp)
            (sym (upd_same (c First) l _) ∙ z)),
        upd_same (c Isolated) l I ∙ w.1,
      )) left
    where
      -- where it is isolated then
      isolated_at : I ≡ c Start k → d Isolated l ≡ c Start k
      isolated_at e = upd_same (c Isolated) l I ∙ e

  -- a vertex that is isolated somewhere is not the mate's
  isolated_off : (m : ℕ) → In sh.loops m → c Isolated m ≢ v
  isolated_off m y e = by (a.vertex v (far_in sp) (far_used sp))
    where
      -- the mate starts at v, so v is isolated nowhere
      by : VertexSound sh c v → ⊥
      by (alone m' j q u s) = s (mate k) (in_b sp) refl
      by (joined s i j q) = s m y e

  -- another loop has a first or an isolated vertex as before
  other_either : (m : ℕ) → In sh.loops m → m ≢ l → FirstOrIsolated sh c m → FirstOrIsolated sh d m
  other_either m y e (inl w) = inl (rw (upd_off (c First) (first_of sh (kev_out c k) l) e, upd_off (c Isolated) I e) w)
  other_either m y e (inr w) =
      inr (rw (upd_off (c First) (first_of sh (kev_out c k) l) e, upd_off (c Isolated) I e)
      (w.0, w.1, stays_used (c Isolated m) (isolated_off m y) w.2))

  -- each loop in use is sound
  loop_sound : (m : ℕ) → In sh.loops m → c Face m ≢ 0 → LoopSound sh d m
  loop_sound m y h =
      let r = a.loop m y h in
      record {
        face_in_lem = r.face_in_lem;
        face_used = r.face_used;
        first = split m l
            (λ e. ap (d First) e ∙ upd_same (c First) l _ ∙ ap (first_of sh d) (sym e))
            (λ e. upd_off (c First) _ e ∙ r.first ∙ least_ext n _ _ (λ i x z. same_name m y e i));
        either = split m l (λ e. subst (FirstOrIsolated sh d) (sym e) own_either) (λ e. other_either m y e r.either);
      }

  -- ---- vertices

  -- a loop isolated at w afterwards was so, or is l at k's vertex
  isolated_was : (w : ℕ) → In sh.vertices w → (m : ℕ) → d Isolated m ≡ w → (c Isolated m ≡ w)
      ⊎ ((m ≡ l) × (w ≡ c Start k) × (c Next (mate k) ≡ k))
  isolated_was w i m e = split m l
      (λ z.
      let f : I ≡ w = sym (upd_same (c Isolated) l I) ∙ ap (d Isolated) (sym z) ∙ e in
      ⊎_elim (λ q. inr (z, sym f ∙ q.1, q.0)) (λ q. absurd (omega (arith, i.0, sym f ∙ q.1))) left)
      (λ z. inl (sym (upd_off (c Isolated) I z) ∙ e))

  -- what starts at w afterwards did so
  start_was : (w : ℕ) → In sh.vertices w → (i : ℕ) → d Start i ≡ w → (i ≢ k) × (i ≢ mate k) × (c Start i ≡ w)
  start_was w j i e =
      let f : i ≢ k = λ z. omega (arith, j.0, sym e ∙ ap (d Start) z ∙ out_start_k) in
      let g : i ≢ mate k = λ z. omega (arith, j.0, sym e ∙ ap (d Start) z ∙ out_start_b) in
      (f, g, sym (columns_out.start i f g) ∙ e)

  -- k's own vertex
  near_vertex : ((m : ℕ) → In sh.loops m → c Isolated m ≢ c Start k) → VertexSound sh d (c Start k)
  near_vertex s = ⊎_elim
      (λ w. alone l (spur_loop_in sp) (upd_same (c Isolated) l I ∙ w.1)
      (λ m j e. ⊎_elim (λ q. absurd (s m j q)) (λ q. q.0) (isolated_was (c Start k) (near_in sp) m e))
      (λ i j e. let o = start_was (c Start k) (near_in sp) i e in
      o.0 (whole_start sp w.0 i (j.0, j.1, λ z. omega (arith, (near_in sp).0, sym o.2 ∙ z)) o.2)))
      (λ w. joined
      (λ m j e. ⊎_elim (λ q. s m j q) (λ q. w.0 q.2) (isolated_was (c Start k) (near_in sp) m e))
      (c Next (mate k)) (in_N sp) (columns_out.start _ w.0 (Nb sp) ∙ spur_start_N sp)) left

  -- each other vertex in use is sound
  vertex_stays : (w : ℕ) → In sh.vertices w → w ≢ v → VertexSound sh c w → VertexSound sh d w
  vertex_stays w i f (alone m j e u s) = alone m j
      (upd_off (c Isolated) I (λ z. omega (arith, i.0, sym e ∙ ap (c Isolated) z ∙ not_isolated a k uk refl)) ∙ e)
      (λ m' j' e'. ⊎_elim (λ q. u m' j' q) (λ q. absurd (s k (in_k sp) (sym q.1))) (isolated_was w i m' e'))
      (λ i' j' e'. s i' j' (start_was w i i' e').2)
  vertex_stays w i f (joined s i' j e) = split i' k
      (λ z.
      let q : w ≡ c Start k = sym e ∙ ap (c Start) z in
      subst (VertexSound sh d) (sym q) (near_vertex (λ m y x. s m y (x ∙ sym q))))
      (λ z.
      let x : i' ≢ mate k = λ y. f (sym e ∙ ap (c Start) y) in
      joined
      (λ m y q. ⊎_elim (λ t. s m y t)
      (λ t. z (whole_start sp t.2 i' (j.0, j.1, λ o. omega (arith, i.0, sym e ∙ o)) (e ∙ t.1)))
      (isolated_was w i m q))
      i' j (columns_out.start i' z x ∙ e))

  -- ---- faces

  -- the face of each other half-edge
  side_old : (i : ℕ) → But k (But (mate k) (HalfUsed sh c)) i → side d i ≡ side c i
  side_old i w = ap (c Face) (columns_out.loop i w.1 w.0.1)

  -- a step across the edge that goes was none
  across : (i : ℕ) → side c i ≡ c Face l → side c (mate i) ≡ c Face l → {g h : ℕ} → side c i ≡ g → side c (mate i) ≡ h
      → g ≡ h
  across i e f x y = sym x ∙ e ∙ sym f ∙ y

  -- the mate of one that stays does so too
  mate_stays : (i : ℕ) → But k (But (mate k) (HalfUsed sh c)) i → But k (But (mate k) (HalfUsed sh c)) (mate i)
  mate_stays i w =
      let f : mate i ≢ mate k = λ e. w.1 (sym (mate_mate i) ∙ ap mate e ∙ mate_mate k) in
      let g : mate i ≢ k = λ e. w.0.1 (sym (mate_mate i) ∙ ap mate e) in
      ((a.rules.mate_in i w.0.0, f), g)

  -- rule 6: the edge that goes had one face on both sides
  kev_solids : Solids (HalfUsed sh d) (FaceUsed sh d) (side d) mate (d Solid)
  kev_solids = record {
    side_in_lem = λ i w. let o = half_was i w in subst (FaceUsed sh c) (sym (side_old i o))
        (a.solids.side_in_lem i o.0.0);
    edge = λ i w. let o = half_was i w in ap (c Solid) (side_old (mate i) (mate_stays i o)) ∙ a.solids.edge i
        o.0.0 ∙ ap (c Solid) (sym (side_old i o));
    one = λ f g x y e. map_linked (λ i. i)
        (λ i j t. split t.0 k
        (λ z. same (across t.0 (ap (side c) z) (ap (λ q. side c (mate q)) z ∙ ap (c Face) (spur_loop_b sp)) t.2
        t.3))
        (λ z. split t.0 (mate k)
        (λ z'. same (across t.0 (ap (side c) z' ∙ ap (c Face) (spur_loop_b sp))
        (ap (λ q. side c (mate q)) z' ∙ ap (side c) (mate_mate k)) t.2 t.3))
        (λ z'.
        let w : But k (But (mate k) (HalfUsed sh c)) t.0 = ((t.1, z'), z) in
        let m = side_old (mate t.0) (mate_stays t.0 w) in
        link (t.0, half_stays t.0 w, side_old t.0 w ∙ t.2, m ∙ t.3)))) (a.solids.one f g x y e);
  }

  -- the table is sound afterwards
  pub kev_sound : {q : List ℤ} → ((w : ℕ) → In sh.vertices w → PointSound q (kev_columns sh c k I) w)
      → Sound sh q (kev_columns sh c k I)
  kev_sound points = record {
    solid_mark = a.solid_mark;
    solid = a.solid;
    face_free = a.face_free;
    face = λ f i h. let r = a.face f i h in record {
      solid_in = r.solid_in;
      solid_used_lem = r.solid_used_lem;
      outer_in = r.outer_in;
      outer_face = r.outer_face;
    };
    loop_free = λ m i h. let e : m ≢ l = λ z. spur_loop_used sp (ap (c Face) (sym z) ∙ h) in let r =
        a.loop_free m i h in (upd_off (c First) _ e ∙ r.0, upd_off (c Isolated) I e ∙ r.1);
    loop = loop_sound;
    half_free = free_half;
    half = λ i j h. half_sound i (j.0, j.1, h);
    vertex = λ w i h. let e : w ≢ v = λ z. h (upd_at (c VertexUsed) 0 z) in
        vertex_stays w i e (a.vertex w i (λ z. h (upd_off (c VertexUsed) 0 e ∙ z)));
    point = points;
    rules = kev_rules;
    solids = kev_solids;
  }
