-- A's turn up to kef: the least half-edge across to the root is found, and its loop becomes the outer one of its face.
use Rattle.std.specs.Prelude.{◌≡◌, refl, ◌≢◌, Bool, true, false, not, ◌&&◌, List, [], ◌∷◌, ℕ, ◌*◌, ◌≤◌, eqb, ℤ, length}
use Rattle.std.proofs.Common.{sym, ap, ◌∙◌, subst, inl, ⊎_elim, arith, eqb→eq, T_not}
use Rattle.std.proofs.lemmas.Bool.{false≢true}
use Rattle.std.proofs.Math.Dec.{not_T}
use Rattle.laws.specs.Bools.{split, ask, T_true, true_T, eqb_same, eqb_other}
use Rattle.laws.specs.Search.{least}
use Rattle.laws.specs.Update.{upd_same}
use Rattle.laws.specs.Linked.{carry}
use Rattle.script.specs.declared.Operator.{Operator}
use Rattle.layout.specs.declared.shape.Shape.{Shape}
use Rattle.layout.specs.Mate.{mate}
use Rattle.layout.specs.MateLaws.{mate_mate, mate_range}
use Rattle.euler.specs.Queries.{faces_in}
use Rattle.euler.specs.Exec.{links_after}
use Rattle.layout.specs.Fields.{SolidUsed, Solid, Outer, Face, Start, Loop, VertexUsed}
use Rattle.layout.specs.Items.{is_ring, face_in}
use Rattle.sound_tables.specs.Sound.{In, HalfUsed, side}
use Rattle.sound_tables.specs.Labels.{many_one, LeastIs}
use Rattle.sound_tables.specs.Good.{Good, own}
use Rattle.sound_rings.specs.Sound.{Ring}
use Rattle.sound_rings.specs.Exact.{rmov_accepted, rmov_points}
use Rattle.takedown.specs.Inversion.{Work, act, solid_at, outside, border_half, make_outer}
use Rattle.takedown.specs.Inversion.{rmov}
use Rattle.inversion.specs.Path.{Path, there, first, acted, joins_in}
use Rattle.inversion.specs.Counts.{strays}
use Rattle.inversion.specs.Same.{words_same, solids_is, faces_is, loops_same, edges_is, vertices_is, face_in_same}
use Rattle.inversion.specs.Same.{strays_same}
use Rattle.inversion.specs.OfSolid.{least_some, least_no, both, joint}
use Rattle.inversion.specs.Root.{root_is}
use Rattle.inversion.specs.RmovLaws.{rmov_joins, swap_shows, rmov_good}
use Rattle.inversion.specs.Border.{Border, Alike, alike_same}

-- ---- the edge

module _ {sh : Shape} {x : List ℕ} {p : List ℤ} (g : Good sh x p) (sn : solid_at sh x ≢ 0)
    (many : faces_in sh x (solid_at sh x) ≢ 1) where
  abbrev r : ℕ
  r = face_in sh x (solid_at sh x)

  root : LeastIs sh.faces (own sh x Solid) (solid_at sh x) (face_in sh x (solid_at sh x))
  root = root_is g sn

  -- another face of the solid
  other : (f : ℕ) × In sh.faces f × (own sh x Solid f ≡ solid_at sh x) × (f ≢ face_in sh x (solid_at sh x))
  other = split (least sh.faces test) 0
      (λ z. absurd
      (many (many_one sh.faces (own sh x Solid) (solid_at sh x) (face_in sh x (solid_at sh x)) root.range
      root.label
      (λ n i e. split n (face_in sh x (solid_at sh x)) (λ q. q)
      (λ d. absurd
      (false≢true (sym (least_no sh.faces test z n i)
      ∙ joint _ _ (eqb_same e) (T_true (not_T (eqb n (face_in sh x (solid_at sh x))) (λ t. d (eqb→eq _ _ t)))))))))))
      (λ d.
      let q = least_some sh.faces test d in
      let b = both (eqb (own sh x Solid (least sh.faces test)) (solid_at sh x)) _ q.1 in (
        least sh.faces test,
        q.0,
        eqb→eq _ _ (true_T b.0),
        λ e. T_not (eqb (least sh.faces test) (face_in sh x (solid_at sh x))) (true_T b.1) (true_T (eqb_same e)),
      ))
    where
      test : ℕ → Bool
      test f = eqb (own sh x Solid f) (solid_at sh x) && not (eqb f (face_in sh x (solid_at sh x)))

  -- so that some edge leads out of the root
  pub border_there : border_half sh x (face_in sh x (solid_at sh x)) ≢ 0
  border_there z =
      let o = other in
      let chain = g.sound.solids.one (face_in sh x (solid_at sh x)) o.0 (
        root.range.0,
        root.range.1,
        λ e. sn (sym root.label ∙ e),
      ) (o.1.0, o.1.1, λ e. sn (sym o.2 ∙ e)) (root.label ∙ sym o.2) in
      o.3 ((carry (λ f. f ≡ face_in sh x (solid_at sh x)) (λ a b t. (
        λ e. split b (face_in sh x (solid_at sh x)) (λ q. q) (λ d. absurd
            (stays (mate t.0) (g.sound.rules.mate_in t.0 t.1) (ap (side (own sh x)) (mate_mate t.0)
            ∙ t.2 ∙ e) (λ q. d (sym t.3 ∙ q)))),
        λ e. split a (face_in sh x (solid_at sh x)) (λ q. q) (λ d. absurd
            (stays t.0 t.1 (t.3 ∙ e) (λ q. d (sym t.2 ∙ q)))),
      )) chain).0 refl)
    where
      stays : (k : ℕ) → HalfUsed sh (own sh x) k → side (own sh x) (mate k) ≡ face_in sh x (solid_at sh x)
          → side (own sh x) k ≢ face_in sh x (solid_at sh x) → ⊥
      stays k u a d =
          false≢true (sym (least_no (2 * sh.edges) (outside sh x (face_in sh x (solid_at sh x))) z k (u.0, u.1))
          ∙ joint _ _ (eqb_same a) (T_true (not_T (eqb (side (own sh x) k) (face_in sh x (solid_at sh x)))
          (λ t. d (eqb→eq _ _ t)))))

  -- what the search says
  pub found : HalfUsed sh (own sh x) (border_half sh x (face_in sh x (solid_at sh x)))
      × (side (own sh x) (mate (border_half sh x (face_in sh x (solid_at sh x)))) ≡ face_in sh x (solid_at sh x))
      × (side (own sh x) (border_half sh x (face_in sh x (solid_at sh x))) ≢ face_in sh x (solid_at sh x))
  found =
      let k = border_half sh x (face_in sh x (solid_at sh x)) in
      let q = least_some (2 * sh.edges) (outside sh x (face_in sh x (solid_at sh x))) border_there in
      let b = both (eqb (side (own sh x) (mate k)) (face_in sh x (solid_at sh x))) _ q.1 in
      let e : side (own sh x) (mate k) ≡ face_in sh x (solid_at sh x) = eqb→eq _ _ (true_T b.0) in
      let im = mate_range k sh.edges q.0.0 q.0.1 in
      let um : HalfUsed sh (own sh x) (mate k) = (
        im.0,
        im.1,
        λ z. omega (arith, root.range.0, sym e ∙ ap (own sh x Face) (g.sound.half_free (mate k) im z).loop),
      ) in (
        subst (HalfUsed sh (own sh x)) (mate_mate k) (g.sound.rules.mate_in (mate k) um),
        e,
        λ a. T_not (eqb (side (own sh x) k) (face_in sh x (solid_at sh x))) (true_T b.1) (true_T (eqb_same a)),
      )

-- ---- k's loop becomes the outer one

-- what makeOuter leaves
pub record Opened (sh : Shape) (x : List ℕ) (p : List ℤ) (k l f r s : ℕ) : Type 0 where
  pub os : List Operator
  pub y : List ℕ
  pub path : Path sh y p os x p
  pub same : (w : Work) → w.state.links ≡ x → w.state.points ≡ p → make_outer sh l f w ≡ acted sh w os
  pub border : Border sh y p k l f r s
  pub alike : Alike sh x y
  pub same_strays : strays sh y ≡ strays sh x
  pub short : length os ≤ 1
  pub joins : joins_in sh x p os ≡ 0

opens : (sh : Shape) (l f : ℕ) (w : Work) (x : List ℕ) → w.state.links ≡ x → is_ring sh x l ≡ true
    → make_outer sh l f w ≡ act sh w (rmov l f)
unfolding make_outer
opens sh l f w x a = subst (λ x. is_ring sh x l ≡ true → make_outer sh l f w ≡ act sh w (rmov l f)) a (λ t. rw t)

pub opens_not : (sh : Shape) (l f : ℕ) (w : Work) (x : List ℕ) → w.state.links ≡ x → is_ring sh x l ≡ false
    → make_outer sh l f w ≡ w
unfolding make_outer
opens_not sh l f w x a = subst (λ x. is_ring sh x l ≡ false → make_outer sh l f w ≡ w) a (λ t. rw t)

pub open_face : (sh : Shape) {x : List ℕ} {p : List ℤ} {k l f r s : ℕ} → Good sh x p → HalfUsed sh (own sh x) k
    → own sh x Loop k ≡ l → own sh x Face l ≡ f → side (own sh x) (mate k) ≡ r → f ≢ r
    → own sh x Solid f ≡ s → face_in sh x s ≡ r → In sh.faces r → own sh x Solid r ≡ s → s ≢ 0
    → Opened sh x p k l f r s
unfolding acted
open_face sh {x} {p} {k} {l} {f} {r} {s} g u kl lf mr fr fs root ir rs sn = ⊎_elim swap stay (ask (is_ring sh x l))
  where
    hk : In sh.loops l
    hk = subst (In sh.loops) kl (g.sound.half k (u.0, u.1) u.2).loop_in

    jf : In sh.faces f
    jf = let q = g.sound.solids.side_in_lem k u in subst (In sh.faces) (ap (own sh x Face) kl ∙ lf) (q.0, q.1)

    stay : is_ring sh x l ≡ false → Opened sh x p k l f r s
    stay t = record {
      os = [];
      y = x;
      path = there refl refl;
      same = λ w a b. opens_not sh l f w x a t;
      border = record {
        good = g;
        used = u;
        loop = kl;
        face = lf;
        outer = split (own sh x Outer f) l (λ e. e) (λ d. absurd (false≢true (sym t ∙ ring_is d)));
        across = mr;
        other = fr;
        solid = fs;
        root = root;
        r_in = ir;
        r_solid = rs;
        there_is = sn;
      };
      alike = alike_same sh x;
      same_strays = refl;
      short = omega arith;
      joins = refl;
    }
      where
        ring_is : own sh x Outer f ≢ l → is_ring sh x l ≡ true
        ring_is d = rw (lf, eqb_other d)

    swap : is_ring sh x l ≡ true → Opened sh x p k l f r s
    swap t =
        let ring : Ring sh (own sh x) l f = record {
          loop_in = hk;
          loop_used = λ z. omega (arith, jf.0, sym lf ∙ z);
          face_in_lem = jf;
          face_used = λ z. sn (sym fs ∙ z);
          ring = λ e. T_not (eqb (own sh x Outer (own sh x Face l)) l) (true_T t) (true_T (eqb_same e));
        } in
        let acc = rmov_accepted sh x l f g.capacities ring (inl (sym lf)) in
        let v = swap_shows g ring (sym lf) in
        let um = g.sound.rules.mate_in k u in
        let hm = g.sound.half (mate k) (um.0, um.1) um.2 in
        let es : (n : ℕ) → In sh.faces n → own sh (links_after sh x (rmov l f)) Solid n ≡ own sh x Solid n =
        λ n i. v.at Solid n i.1 in
        let ef : (n : ℕ) → In sh.loops n → own sh (links_after sh x (rmov l f)) Face n ≡ own sh x Face n =
        λ n i. v.at Face n i.1 in
        record {
          os = rmov l f ∷ [];
          y = links_after sh x (rmov l f);
          path = first {os = []} {p = p} (rmov l f) refl acc (there refl (rmov_points sh x l f p));
          same = λ w a b. opens sh l f w x a t;
          border = record {
            good = rmov_good g l f acc;
            used = (u.0, u.1, λ z. u.2 (sym (v.at Start k u.1) ∙ z));
            loop = v.at Loop k u.1 ∙ kl;
            face = ef l hk ∙ lf;
            outer = v.at Outer f jf.1 ∙ upd_same _ f l;
            across = ap (own sh (links_after sh x (rmov l f)) Face) (v.at Loop (mate k) um.1)
                ∙ ef (own sh x Loop (mate k)) hm.loop_in ∙ mr;
            other = fr;
            solid = es f jf ∙ fs;
            root = face_in_same sh x _ es s ∙ root;
            r_in = ir;
            r_solid = es r ir ∙ rs;
            there_is = sn;
          };
          alike = record {
            mark = λ n i. v.at SolidUsed n i.1;
            solid = es;
            start = λ n i. v.at Start n i.1;
            same_solids = solids_is sh _ ∙ words_same sh.solids _ _ (λ n i. v.at SolidUsed n i.1)
                ∙ sym (solids_is sh x);
            same_faces = faces_is sh _ ∙ words_same sh.faces _ _ es ∙ sym (faces_is sh x);
            same_loops = loops_same sh x _ ef;
            same_edges = edges_is sh _ ∙ words_same sh.edges _ _ (λ e i. v.at Start (2 * e) (omega (arith, i.1)))
                ∙ sym (edges_is sh x);
            same_vertices = vertices_is sh _ ∙ words_same sh.vertices _ _ (λ n i. v.at VertexUsed n i.1)
                ∙ sym (vertices_is sh x);
          };
          same_strays = strays_same sh x _ ef g es;
          short = omega arith;
          joins = rmov_joins sh x p l f;
        }
