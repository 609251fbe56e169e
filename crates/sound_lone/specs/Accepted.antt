-- mvsf and kvsf as operators: what it says that one is accepted, and what it does to the list, points and inverse
-- included.
use Rattle.std.specs.Prelude.{◌≡◌, ◌≢◌, true, List, [], ◌∷◌, ℕ, ◌≤◌, ◌<◌, T, leb, ℤ, length, get_or}
use Rattle.std.proofs.Math.Path.{refl}
use Rattle.std.proofs.Common.{sym, ap, ◌∙◌, ⊎_elim, lit≤, T_not}
use Rattle.std.proofs.Math.Bool.{not}
use native.Mathlib.Omega.{arith}
use Rattle.std.proofs.Math.Dec.{eqb, eqb→eq, not_T}
use Rattle.std.proofs.Math.IntN.{pos}
use borrow.Author.Tests.{le-leb}
use Rattle.laws.specs.Bools.{true_T, T_true, split, eqb_same}
use Rattle.laws.specs.Every.{every_T, T_every}
use Rattle.laws.specs.Sums.{count_to}
use Rattle.laws.specs.Update.{upd_same, upd_off}
use Rattle.bounds.specs.Bounds.{most_halves}
use Rattle.script.specs.declared.Operator.{Operator}
use Rattle.codec.specs.Operands.{pattern, rows}
use Rattle.script.specs.Operator.{operand_of}
use Rattle.layout.specs.declared.shape.Shape.{Shape}
use Rattle.layout.specs.Points.{point_width, coordinate, range_test}
use Rattle.euler.specs.Surgery.{put_point}
use Rattle.euler.specs.FaceOperators.{mvsf_links, kvsf_test, kvsf_links}
use Rattle.euler.specs.Exec.{limits, use_word, condition, refusal_of, marks_after, killed_vertex, points_after, inverse}
use Rattle.layout.specs.Fields.{Field, SolidUsed, Solid, Outer, Face, First, Isolated, Columns, cap_of}
use Rattle.layout.specs.Items.{face_in}
use Rattle.sound_tables.specs.Sound.{In, Sound}
use Rattle.sound_tables.specs.Labels.{label_found, label_some, label_only, many_one, one_many}
use Rattle.sound_tables.specs.PointLists.{three, all_three}
use Rattle.sound_tables.specs.Accepted.{by_place, eight, accepted_back, ranges_cons, item_cons, use_new, new_use}
use Rattle.sound_tables.specs.Accepted.{in_range_lem, Number, number, coordinate_range, unused_range, unused_use}
use Rattle.sound_tables.specs.Accepted.{three_range, three_use}
use Rattle.sound_tables.specs.Good.{own, Capacities}
use Rattle.sound_lone.specs.Placed.{placed, placed_links}
use Rattle.sound_lone.specs.MvsfSound.{Free, free_detached}
use Rattle.sound_lone.specs.KvsfSound.{OneLoop}
use Rattle.sound_tables.specs.OneOperand.{one_of, one_accepted}

-- ---- the operands

-- mvsf s f l v x y z, as a record
abbrev pub mvsf_of : ℕ → ℕ → ℕ → ℕ → ℤ → ℤ → ℤ → Operator
mvsf_of s f l v x y z = record { code = 1; count = 7; args = pos s ∷ pos f ∷ pos l ∷ pos v ∷ x ∷ y ∷ z ∷ pos 0 ∷ [] }

-- kvsf s
abbrev pub kvsf_of : ℕ → Operator
kvsf_of s = one_of 2 s

-- what an accepted mvsf says
pub record MvsfFacts (sh : Shape) (c : Columns) (o : Operator) : Type 0 where
  pub s : ℕ
  pub f : ℕ
  pub l : ℕ
  pub v : ℕ
  pub x : ℤ
  pub y : ℤ
  pub z : ℤ
  pub is : o ≡ mvsf_of s f l v x y z
  pub free : Free sh c s f l v
  pub range : (i : ℕ) → i < point_width → T (range_test (three x y z i))

-- all from the refusal 0
pub mvsf_facts : (sh : Shape) (x : List ℕ) (o : Operator) → Capacities sh → length o.args ≡ 8 → o.code ≡ 1
    → refusal_of sh x o ≡ 0 → MvsfFacts sh (own sh x) o
unfolding pattern rows use_word
mvsf_facts sh x o caps len e h =
    let a = by_place sh x o 1 len refl e h in
    let r = a.range in
    let u = a.used in
    let n0 : Number sh.solids (get_or o.args 0 (pos 0)) = number (limits sh) 2 _ refl refl
    (omega (arith, caps.solids)) (r 0 (lit≤ tt)) in
    let n1 : Number sh.faces (get_or o.args 1 (pos 0)) = number (limits sh) 5 _ refl refl
    (omega (arith, caps.faces)) (r 1 (lit≤ tt)) in
    let n2 : Number sh.loops (get_or o.args 2 (pos 0)) = number (limits sh) 7 _ refl refl
    (omega (arith, caps.loops)) (r 2 (lit≤ tt)) in
    let n3 : Number sh.vertices (get_or o.args 3 (pos 0)) = number (limits sh) 11 _ refl refl
    (omega (arith, caps.vertices)) (r 3 (lit≤ tt)) in
    let c4 = coordinate_range (limits sh) (get_or o.args 4 (pos 0)) (r 4 (lit≤ tt)) in
    let c5 = coordinate_range (limits sh) (get_or o.args 5 (pos 0)) (r 5 (lit≤ tt)) in
    let c6 = coordinate_range (limits sh) (get_or o.args 6 (pos 0)) (r 6 (lit≤ tt)) in
    record {
      s = operand_of o 0;
      f = operand_of o 1;
      l = operand_of o 2;
      v = operand_of o 3;
      x = get_or o.args 4 (pos 0);
      y = get_or o.args 5 (pos 0);
      z = get_or o.args 6 (pos 0);
      is = λ t. record {
        code = e t;
        count = a.count t;
        args =
            (eight o.args len ∙ (λ i. n0.is i ∷ n1.is i ∷ n2.is i ∷ n3.is i ∷ get_or o.args 4 (pos 0)
            ∷ get_or o.args 5 (pos 0) ∷ get_or o.args 6 (pos 0) ∷ a.rest 7 (lit≤ tt) refl i ∷ [])) t;
      };
      free = record {
        solid_in = n0.range;
        face_in_lem = n1.range;
        loop_in = n2.range;
        vertex_in = n3.range;
        solid = use_new sh x 2 (operand_of o 0) (omega (arith, n0.range)) refl (u 0 (lit≤ tt) n0.small);
        face = use_new sh x 5 (operand_of o 1) (omega (arith, n1.range)) refl (u 1 (lit≤ tt) n1.small);
        loop = use_new sh x 7 (operand_of o 2) (omega (arith, n2.range)) refl (u 2 (lit≤ tt) n2.small);
        vertex = use_new sh x 11 (operand_of o 3) (omega (arith, n3.range)) refl (u 3 (lit≤ tt) n3.small);
      };
      range = all_three (λ q. T (range_test q)) _ _ _ c4 c5 c6;
    }

-- ---- a solid of one isolated loop

-- what mvsf makes is one, also in columns that agree
pub made_one : {sh : Shape} {p : List ℤ} {c d : Columns} {s f l v : ℕ} → Sound sh p c → Free sh c s f l v
    → ((F : Field) (n : ℕ) → n ≤ cap_of sh F → d F n ≡ placed c s f l v 1 s l f v F n) → OneLoop sh d s f l v
made_one {c = c} {s = s} {f} {l} {v} a r e = record {
  solid_in = r.solid_in;
  face_in_lem = r.face_in_lem;
  loop_in = r.loop_in;
  vertex_in = r.vertex_in;
  solid = e Solid f r.face_in_lem.1 ∙ upd_same _ f s;
  outer = e Outer f r.face_in_lem.1 ∙ upd_same _ f l;
  face = e Face l r.loop_in.1 ∙ upd_same _ l f;
  first = e First l r.loop_in.1 ∙ upd_same _ l 0;
  isolated = e Isolated l r.loop_in.1 ∙ upd_same _ l v;
  only_face = λ g i q. split g f (λ x. x)
      (λ x. absurd ((free_detached a r).no_face g i x (sym (e Solid g i.1 ∙ upd_off (c Solid) s x) ∙ q)));
  only_loop_lem = λ m i q. split m l (λ x. x)
      (λ x. absurd ((free_detached a r).no_loop m i x (sym (e Face m i.1 ∙ upd_off (c Face) f x) ∙ q)));
}

-- kvsf's test finds one
pub tested_one : {sh : Shape} {p : List ℤ} (x : List ℕ) → Sound sh p (own sh x) → (s : ℕ) → In sh.solids s
    → own sh x SolidUsed s ≢ 0 → kvsf_test sh x s ≡ true
    → OneLoop sh (own sh x) s (face_in sh x s) (own sh x Outer (face_in sh x s))
    (own sh x Isolated (own sh x Outer (face_in sh x s)))
unfolding kvsf_test
tested_one {sh} x a s i h t =
    let c = own sh x in
    let y = a.solid s i h in
    let b = label_found sh.faces (c Solid) s (label_some sh.faces (c Solid) s y.0 y.1 y.2) in
    let f = face_in sh x s in
    let F = a.face f b.range (λ z. omega (arith, i.0, sym b.label ∙ z)) in
    let l = c Outer f in
    let L = a.loop l F.outer_in (λ z. omega (arith, b.range.0, sym F.outer_face ∙ z)) in
    let k = every_T (eqb (count_to sh.faces (λ g. eqb (c Solid g) s)) 1
    ∷ eqb (count_to sh.loops (λ m. eqb (c Face m) f)) 1 ∷ not (eqb (c Isolated l) 0) ∷ []) (true_T t) in
    let e = ⊎_elim (λ q. absurd (T_not (eqb (c Isolated l) 0) k.1.1.0 (true_T (eqb_same q.1)))) (λ q. q)
    L.either in
    record {
      solid_in = i;
      face_in_lem = b.range;
      loop_in = F.outer_in;
      vertex_in = e.1;
      solid = b.label;
      outer = refl;
      face = F.outer_face;
      first = e.0;
      isolated = refl;
      only_face = λ g j q. one_many sh.faces (c Solid) s (eqb→eq _ _ k.0) f g b.range b.label j q;
      only_loop_lem = λ m j q. one_many sh.loops (c Face) f (eqb→eq _ _ k.1.0) l m F.outer_in F.outer_face j q;
    }

module _ {sh : Shape} (x : List ℕ) {s f l v : ℕ} (o : OneLoop sh (own sh x) s f l v) (caps : Capacities sh) where
  -- s is read as it stands
  s_small : leb s most_halves ≡ true
  s_small = le-leb s most_halves (omega (arith, o.solid_in.1, caps.solids))

  -- its face is the least of its solid
  one_face : face_in sh x s ≡ f
  one_face = label_only sh.faces (own sh x Solid) s f o.face_in_lem o.solid o.only_face

  -- its loop
  one_outer : own sh x Outer (face_in sh x s) ≡ l
  one_outer = ap (own sh x Outer) one_face ∙ o.outer

  -- and its vertex
  one_isolated : own sh x Isolated (own sh x Outer (face_in sh x s)) ≡ v
  one_isolated = ap (own sh x Isolated) one_outer ∙ o.isolated

  -- kvsf's test passes
  one_tested : kvsf_test sh x s ≡ true
  unfolding kvsf_test
  one_tested =
      T_true (T_every (eqb (count_to sh.faces (λ g. eqb (own sh x Solid g) s)) 1
      ∷ eqb (count_to sh.loops (λ m. eqb (own sh x Face m) (face_in sh x s))) 1
      ∷ not (eqb (own sh x Isolated (own sh x Outer (face_in sh x s))) 0) ∷ []) (
        true_T (eqb_same (many_one sh.faces (own sh x Solid) s f o.face_in_lem o.solid o.only_face)),
        (
          true_T (eqb_same (ap (λ g. count_to sh.loops (λ m. eqb (own sh x Face m) g)) one_face
              ∙ many_one sh.loops (own sh x Face) f l o.loop_in o.face o.only_loop_lem)),
          (
            not_T (eqb (own sh x Isolated (own sh x Outer (face_in sh x s))) 0)
                (λ t. omega (
                  arith,
                  o.vertex_in.0,
                  one_isolated,
                  eqb→eq (own sh x Isolated (own sh x Outer (face_in sh x s))) 0 t,
                )),
            tt,
          ),
        ),
      ))

  -- what kvsf does
  pub kvsf_links_lem : marks_after sh x (kvsf_of s) ≡ placed_links sh x s f l v 0 0 0 0 0
  unfolding marks_after kvsf_links
  kvsf_links_lem = rw (s_small, one_isolated, one_outer, one_face)

  -- kills v
  pub kvsf_killed : killed_vertex sh x (kvsf_of s) ≡ v
  unfolding killed_vertex
  kvsf_killed = rw (s_small, one_isolated)

  -- it clears the point
  pub kvsf_points : (p : List ℤ) → points_after sh x p (kvsf_of s) ≡ put_point p v (pos 0) (pos 0) (pos 0)
  unfolding points_after killed_vertex
  kvsf_points p = rw (s_small, one_isolated)

  -- and is undone by mvsf
  pub kvsf_inverse : (p : List ℤ) → inverse sh x p (kvsf_of s) ≡ mvsf_of s f l v (coordinate p v 0) (coordinate p v 1)
      (coordinate p v 2)
  unfolding inverse killed_vertex
  kvsf_inverse p = rw (s_small, one_isolated, one_outer, one_face)

  -- it is accepted
  pub kvsf_accepted : own sh x SolidUsed s ≢ 0 → refusal_of sh x (kvsf_of s) ≡ 0
  unfolding pattern rows use_word condition
  kvsf_accepted h = one_accepted sh x 2 1 refl refl refl refl (omega (arith, caps.solids)) refl s o.solid_in h
      (rw s_small one_tested)

-- ---- mvsf on free numbers

module _ (sh : Shape) (x : List ℕ) (s f l v : ℕ) (a b c : ℤ) (caps : Capacities sh)
    (r : Free sh (own sh x) s f l v) where
  -- s is read as it stands
  sn : s ≤ most_halves
  sn = omega (arith, r.solid_in.1, caps.solids)

  -- f too
  fn : f ≤ most_halves
  fn = omega (arith, r.face_in_lem.1, caps.faces)

  -- l too
  ln : l ≤ most_halves
  ln = omega (arith, r.loop_in.1, caps.loops)

  -- v too
  vn : v ≤ most_halves
  vn = omega (arith, r.vertex_in.1, caps.vertices)

  -- what it does
  pub mvsf_links_lem : marks_after sh x (mvsf_of s f l v a b c) ≡ placed_links sh x s f l v 1 s l f v
  unfolding marks_after mvsf_links
  mvsf_links_lem = rw (
    le-leb s most_halves sn,
    le-leb f most_halves fn,
    le-leb l most_halves ln,
    le-leb v most_halves vn,
  )

  -- the vertex gets its point
  pub mvsf_points : (p : List ℤ) → points_after sh x p (mvsf_of s f l v a b c) ≡ put_point p v a b c
  unfolding points_after
  mvsf_points p = rw (le-leb v most_halves vn)

  -- it is undone by kvsf
  pub mvsf_inverse_lem : (p : List ℤ) → inverse sh x p (mvsf_of s f l v a b c) ≡ kvsf_of s
  unfolding inverse
  mvsf_inverse_lem p = rw (le-leb s most_halves sn)

  -- and accepted
  pub mvsf_accepted : T (range_test a) → T (range_test b) → T (range_test c)
      → refusal_of sh x (mvsf_of s f l v a b c) ≡ 0
  unfolding pattern rows use_word condition
  mvsf_accepted ha hb hc = accepted_back sh x (mvsf_of s f l v a b c) (record {
    code = refl;
    count = refl;
    range =
        ranges_cons (limits sh) 2 _ (pos s) (pos f ∷ pos l ∷ pos v ∷ a ∷ b ∷ c ∷ pos 0 ∷ [])
        (in_range_lem (limits sh) 2 s refl refl r.solid_in)
        (ranges_cons (limits sh) 5 _ (pos f) (pos l ∷ pos v ∷ a ∷ b ∷ c ∷ pos 0 ∷ [])
        (in_range_lem (limits sh) 5 f refl refl r.face_in_lem)
        (ranges_cons (limits sh) 7 _ (pos l) (pos v ∷ a ∷ b ∷ c ∷ pos 0 ∷ [])
        (in_range_lem (limits sh) 7 l refl refl r.loop_in)
        (ranges_cons (limits sh) 11 _ (pos v) (a ∷ b ∷ c ∷ pos 0 ∷ [])
        (in_range_lem (limits sh) 11 v refl refl r.vertex_in)
        (three_range (limits sh) _ (pos 0 ∷ []) a b c ha hb hc (unused_range (limits sh) 1)))));
    used =
        let o = mvsf_of s f l v a b c in
        item_cons sh x o 2 _ 0 sn (new_use sh x 2 s (omega (arith, r.solid_in.0)) refl r.solid)
        (item_cons sh x o 5 _ 1 fn (new_use sh x 5 f (omega (arith, r.face_in_lem.0)) refl r.face)
        (item_cons sh x o 7 _ 2 ln (new_use sh x 7 l (omega (arith, r.loop_in.0)) refl r.loop)
        (item_cons sh x o 11 _ 3 vn (new_use sh x 11 v (omega (arith, r.vertex_in.0)) refl r.vertex)
        (three_use sh x o _ 4 (unused_use sh x o 1 7)))));
    holds = refl;
  })
