-- The six rules, in the words of `table`, make a sound table.
use Rattle.std.specs.Prelude.{◌≡◌, refl, ◌≢◌, ◌⊎◌, List, ℕ, zero, suc, ◌*◌, ◌≤◌, ◌<◌, T, eqb, ℤ, pos, negsuc}
use Rattle.std.proofs.Common.{sym, ap, ◌∙◌, subst, inl, inr, ⊎_elim, arith, eqb→eq, leb→le, T_not}
use Rattle.std.proofs.Math.Dec.{not_T}
use Rattle.std.specs.Int.Signed.{le_z}
use Rattle.laws.specs.Bools.{split, true_T, T_and, eqb_same}
use Rattle.laws.specs.Linked.{link, map_linked}
use Rattle.laws.specs.Cycles.{agree}
use Rattle.layout.specs.declared.shape.Shape.{Shape}
use Rattle.layout.specs.Mate.{mate}
use Rattle.layout.specs.MateLaws.{mate_range}
use Rattle.layout.specs.Points.{point_width, coordinate, in_range, range_test}
use Rattle.check_orbits.specs.OrbitsLaws.{Half}
use Rattle.check_rules.specs.RulesSay.{Together, InRange, IsZero, Rule1, Rule2, Rule3}
use Rattle.check_rules.specs.CyclesSay.{Rule4, Rule5, Rule6}
use Rattle.layout.specs.Fields.{Solid, Face, First, Isolated, Start, Loop, Columns}
use Rattle.sound_tables.specs.EdgeIn.{Rules}
use Rattle.sound_tables.specs.Solids.{Solids}
use Rattle.sound_tables.specs.Sound.{In, halves, HalfUsed, FaceUsed, side, first_of, LoopSound, HalfSound}
use Rattle.sound_tables.specs.Sound.{VertexSound, alone, joined, PointSound, Sound}
use Rattle.sound_tables.specs.Labels.{least_with, label_found, label_some, label_none, none_label, many_with}
use Rattle.sound_tables.specs.Labels.{many_none, none_many, one_many}
use Rattle.sound_tables.specs.Good.{own, Valent}
use Rattle.sound_tables.specs.EdgesAcross.{edge_half}

-- what is there is at least 1
some_in : {cap n : ℕ} → n ≢ 0 → n ≤ cap → In cap n
some_in h u = (omega (arith, h), u)

-- of two that are there together
other_zero : {a b : ℕ} → Together a b → a ≡ 0 → b ≡ 0
other_zero (inl h) z = h.1
other_zero (inr h) z = absurd (h.0 z)

-- where the one is there, so is the other
other_some : {a b : ℕ} → Together a b → a ≢ 0 → b ≢ 0
other_some (inl h) d = absurd (d h.0)
other_some (inr h) d = h.1

-- between 0 and 0
is_zero : (c : ℤ) → IsZero c → c ≡ pos 0
is_zero (pos n) h = ap pos (omega (arith, leb→le n 0 h.1.le))
is_zero (negsuc n) h = absurd h.0.le

-- a coordinate in range passes its test
in_range_lem : (c : ℤ) → InRange c → T (range_test c)
in_range_lem c h = T_and (le_z (negsuc 49999) c) (le_z c (pos 50000)) h.0.le h.1.le

-- half-edges in use, in both words
pub half_used : (sh : Shape) (x : List ℕ) (k : ℕ) → Half sh x k → HalfUsed sh (own sh x) k
half_used sh x k u = (u.0, u.1, λ z. T_not (eqb (own sh x Start k) 0) u.2 (true_T (eqb_same z)))

-- and back
pub used_half : (sh : Shape) (x : List ℕ) (k : ℕ) → HalfUsed sh (own sh x) k → Half sh x k
used_half sh x k u = (u.0, u.1, not_T (eqb (own sh x Start k) 0) (λ t. u.2 (eqb→eq (own sh x Start k) 0 t)))

module _ {sh : Shape} {x : List ℕ} {p : List ℤ} (r1 : Rule1 sh x p) (r2 : Rule2 sh x) (r3 : Rule3 sh x)
    (r4 : Rule4 sh x) (r5 : Rule5 sh x) (r6 : Rule6 sh x) where
  -- the columns
  abbrev c : Columns
  c = own sh x

  -- one that names a loop is in use
  namer_used : (k l : ℕ) → In (2 * sh.edges) k → 1 ≤ l → c Loop k ≡ l → c Start k ≢ 0
  namer_used k l i h e z = omega (arith, h, e, other_zero (r1.half k i.0 i.1).with_loop z)

  -- first is the least that names the loop
  first_is : (l : ℕ) → In sh.loops l → c First l ≡ first_of sh c l
  first_is l i = split (c First l) 0
      (λ z. z ∙ sym (label_none (2 * sh.edges) (c Loop) l (λ k j e.
      (r4.half k j.0 j.1 (namer_used k l j i.0 e)).has_first (ap (c First) e ∙ z))))
      (λ d.
      let j : In (2 * sh.edges) (c First l) = some_in d (r1.loop l i.0 i.1).first in
      let e = r4.first l i.0 i.1 d in
      let b = label_found (2 * sh.edges) (c Loop) l (label_some (2 * sh.edges) (c Loop) l (c First l) j e) in
      let k = first_of sh c l in
      let m : c First (c Loop k) ≤ k = (r4.half k b.range.0 b.range.1
      (namer_used k l b.range i.0 b.label)).first_least in
      let n : c First l ≤ k = subst (λ y. c First y ≤ k) b.label m in
      omega (arith, n, b.before (c First l) j e))

  -- a loop in use
  loop_sound : (l : ℕ) → In sh.loops l → c Face l ≢ 0 → LoopSound sh c l
  loop_sound l i h =
      let R = r1.loop l i.0 i.1 in
      let N = r2.loop l i.0 i.1 h in
      record {
        face_in_lem = some_in h R.face;
        face_used = N.face;
        first = first_is l i;
        either = ⊎_elim (λ q. inl q) (λ q. inr (q.0, some_in q.1 R.isolated, N.isolated q.1))
            (r3 l i.0 i.1 h);
      }

  -- a half-edge in use
  half_sound : (k : ℕ) → In (2 * sh.edges) k → c Start k ≢ 0 → HalfSound sh c k
  half_sound k i h =
      let R = r1.half k i.0 i.1 in
      let N = r2.half k i.0 i.1 h in
      record {
        start_in = some_in h R.start;
        start_used = N.start;
        loop_in = some_in (other_some R.with_loop h) R.loop;
        loop_used = N.loop;
      }

  -- isolated in exactly one loop
  isolated_one : (v : ℕ) → many_with sh.loops (c Isolated) v ≡ 1 → least_with sh.loops (c Isolated) v ≢ 0
  isolated_one v h z = omega (arith, h, many_none sh.loops (c Isolated) v (none_label sh.loops (c Isolated) v z))

  -- a vertex in use
  vertex_sound : (v : ℕ) → ((many_with sh.loops (c Isolated) v ≡ 1) × (many_with (2 * sh.edges) (c Start) v ≡ 0))
      ⊎ ((many_with sh.loops (c Isolated) v ≡ 0) × (many_with (2 * sh.edges) (c Start) v ≢ 0)) → VertexSound sh c v
  vertex_sound v (inl h) =
      let b = label_found sh.loops (c Isolated) v (isolated_one v h.0) in
      alone (least_with sh.loops (c Isolated) v) b.range b.label
      (λ m i e. one_many sh.loops (c Isolated) v h.0 (least_with sh.loops (c Isolated) v) m b.range
      b.label i e) (none_many (2 * sh.edges) (c Start) v h.1)
  vertex_sound v (inr h) =
      let b = label_found (2 * sh.edges) (c Start) v
      (λ z. h.1 (many_none (2 * sh.edges) (c Start) v (none_label (2 * sh.edges) (c Start) v z))) in
      joined (none_many sh.loops (c Isolated) v h.0) (least_with (2 * sh.edges) (c Start) v) b.range b.label

  -- a point
  point_sound : (v : ℕ) → In sh.vertices v → PointSound p c v
  point_sound v i = record {
    range = range;
    zero =
        λ h. zeros (⊎_elim (λ d. absurd (d h)) (λ q. q) (r1.vertex v i.0 i.1).free_zero);
  }
    where
      -- each coordinate is in range
      range : (j : ℕ) → j < point_width → T (in_range p v j)
      range zero h = in_range_lem (coordinate p v 0) (r1.vertex v i.0 i.1).x_range
      range (suc zero) h = in_range_lem (coordinate p v 1) (r1.vertex v i.0 i.1).y_range
      range (suc (suc zero)) h = in_range_lem (coordinate p v 2) (r1.vertex v i.0 i.1).z_range
      range (suc (suc (suc j))) h = absurd (omega arith)

      -- and is 0 where the vertex is free
      zeros : ((IsZero (coordinate p v 0) × IsZero (coordinate p v 1)) × IsZero (coordinate p v 2)) → (j : ℕ)
          → j < point_width → coordinate p v j ≡ pos 0
      zeros q zero h = is_zero (coordinate p v 0) q.0.0
      zeros q (suc zero) h = is_zero (coordinate p v 1) q.0.1
      zeros q (suc (suc zero)) h = is_zero (coordinate p v 2) q.1
      zeros q (suc (suc (suc j))) h = absurd (omega arith)

  -- the mate of one in use is in use
  mate_used : (k : ℕ) → HalfUsed sh c k → HalfUsed sh c (mate k)
  mate_used k u = let m = mate_range k sh.edges u.0 u.1 in
      (m.0, m.1, other_some (r1.half k u.0 u.1).with_mate u.2)

  -- rules 4 and 5
  half_rules : Rules (2 * sh.edges) mate (HalfUsed sh c) (halves c)
  half_rules = record {
    mate_in = mate_used;
    loops = agree r4.cycles (half_used sh x) (used_half sh x) (λ k u. refl) (λ k u. refl);
    verts = agree r5.cycles (half_used sh x) (used_half sh x) (λ k u. refl) (λ k u. refl);
    undone = λ k u. (r4.half k u.0 u.1 u.2).prev_next;
  }

  -- rule 6
  solids_sound : Solids (HalfUsed sh c) (FaceUsed sh c) (side c) mate (c Solid)
  solids_sound = record {
    side_in_lem = λ k u. let h = half_sound k (u.0, u.1) u.2 in let l = loop_sound (c Loop k) h.loop_in
        h.loop_used in (l.face_in_lem.0, l.face_in_lem.1, l.face_used);
    edge = λ k u. sym (r6.sides k u.0 u.1 u.2);
    one = λ f g u v e. map_linked (λ i. i)
        (λ i j t. link (edge_half sh c mate_used (side c) t.0 i j (t.1.0, t.1.1)
        (λ z. T_not (eqb (c Start (2 * t.0)) 0) t.1.2 (true_T (eqb_same z))) t.2 t.3))
        (r6.linked f g u.0 u.1 v.0 v.1 u.2 e);
  }

  -- the table is sound
  pub rules_sound : Sound sh p c
  rules_sound = record {
    solid_mark = λ s i. r1.solid s i.0 i.1;
    solid = λ s i h. let b = label_found sh.faces (c Solid) s (r2.solid s i.0 i.1 h) in
        (least_with sh.faces (c Solid) s, b.range, b.label);
    face_free = λ f i h. other_zero (r1.face f i.0 i.1).together h;
    face = λ f i h.
        let R = r1.face f i.0 i.1 in
        let N = r2.face f i.0 i.1 h in
        record {
          solid_in = some_in h R.solid;
          solid_used_lem = N.solid;
          outer_in =
              some_in (other_some R.together h) R.outer;
          outer_face = N.outer;
        };
    loop_free = λ l i h. let R = r1.loop l i.0 i.1 in
        (⊎_elim (λ d. absurd (d h)) (λ z. z) R.first_used, ⊎_elim (λ d. absurd (d h)) (λ z. z) R.isolated_used);
    loop = loop_sound;
    half_free = λ k i h. let R = r1.half k i.0 i.1 in
        record {
          loop = other_zero R.with_loop h;
          next = other_zero R.with_next h;
          prev =
              other_zero R.with_prev h;
        };
    half = half_sound;
    vertex = λ v i h. vertex_sound v (r5.vertex v i.0 i.1 h).either;
    point = point_sound;
    rules = half_rules;
    solids = solids_sound;
  }

-- and its words are right
pub rules_valent : {sh : Shape} {x : List ℕ} → Rule5 sh x → Valent sh x
rules_valent r v i h = (r.vertex v i.0 i.1 h).word
