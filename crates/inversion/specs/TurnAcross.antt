-- A's turn, whole: a face across an edge from the root goes, its rings having moved to the root.
use Rattle.std.specs.Prelude.{◌≡◌, refl, ◌≢◌, false, List, [], ◌∷◌, ◌++◌, ℕ, suc, ◌≤◌, ◌<◌, eqb, ℤ}
use Rattle.std.proofs.Math.Path.{sym, ap}
use Rattle.std.proofs.Common.{◌∙◌, subst}
use Rattle.std.proofs.Math.Logic.{inl}
use native.Mathlib.Omega.{arith}
use Rattle.std.proofs.Math.ListN.{length-append}
use Rattle.laws.specs.Bools.{split, eqb_same, eqb_other}
use Rattle.laws.specs.Search.{least_ext, least_unique}
use Rattle.layout.specs.declared.shape.Shape.{Shape}
use Rattle.euler.specs.Queries.{faces_in}
use Rattle.euler.specs.Exec.{links_after}
use Rattle.layout.specs.Fields.{Solid, Face, Loop}
use Rattle.layout.specs.Items.{face_in}
use Rattle.sound_tables.specs.Sound.{In, side}
use Rattle.sound_tables.specs.Labels.{label_found}
use Rattle.sound_tables.specs.Good.{Good, own}
use Rattle.sound_cuts.specs.KefPlace.{KefPlace}
use Rattle.sound_cuts.specs.KefAccepted.{kef_points}
use Rattle.takedown.specs.Inversion.{Work, act, solid_at, free_edge, turned, border_half, move_rings}
use Rattle.takedown.specs.Inversion.{turn_a, kef}
use Rattle.inversion.specs.Path.{Path, there, first, acted, path_append, acted_append, acted_table, joins_in}
use Rattle.inversion.specs.Counts.{is_stray, strays}
use Rattle.inversion.specs.Same.{count_fewer_in, free_edge_kept}
use Rattle.inversion.specs.OfSolid.{least_there}
use Rattle.inversion.specs.Root.{root_is}
use Rattle.inversion.specs.KefLaws.{KefLaw, place_accepted, kef_law, kef_joins}
use Rattle.inversion.specs.Border.{Border, Alike, alike_then, Cleared, clear_rings}
use Rattle.inversion.specs.Turn.{Ready, TurnMade, joins_append}
use Rattle.inversion.specs.TurnShape.{turned_a}
use Rattle.inversion.specs.TurnOuter.{found, Opened, open_face}

-- ---- kef k, its loop now the only one of its face

module _ {sh : Shape} {x : List ℕ} {p : List ℤ} {k l f r s : ℕ} (B : Border sh x p k l f r s) (only : (m : ℕ)
    → In sh.loops m → own sh x Face m ≡ f → m ≡ l) where
  side_k : side (own sh x) k ≡ f
  side_k = ap (own sh x Face) B.loop ∙ B.face

  pub place : KefPlace sh (own sh x) k
  place = record {
    used = B.used;
    one = λ n i e. only n i (e ∙ side_k) ∙ sym B.loop;
    other =
        λ e. B.other (sym (sym B.across ∙ e ∙ side_k));
  }

  law : KefLaw sh x (links_after sh x (kef k)) k
  law = kef_law B.good place

  l_in : In sh.loops l
  l_in = subst (In sh.loops) B.loop (B.good.sound.half k (B.used.0, B.used.1) B.used.2).loop_in

  f_in : In sh.faces f
  f_in = let q = B.good.sound.solids.side_in_lem k B.used in subst (In sh.faces) side_k (q.0, q.1)

  solid_gone : own sh (links_after sh x (kef k)) Solid f ≡ 0
  solid_gone = ap (own sh (links_after sh x (kef k)) Solid) (sym side_k) ∙ law.solid_gone

  solid_else : (n : ℕ) → In sh.faces n → n ≢ f → own sh (links_after sh x (kef k)) Solid n ≡ own sh x Solid n
  solid_else n i d = law.solid n i (λ e. d (e ∙ side_k))

  face_gone : own sh (links_after sh x (kef k)) Face l ≡ 0
  face_gone = ap (own sh (links_after sh x (kef k)) Face) (sym B.loop) ∙ law.face_gone

  face_else : (n : ℕ) → In sh.loops n → n ≢ l → own sh (links_after sh x (kef k)) Face n ≡ own sh x Face n
  face_else n i d = law.face n i (λ e. d (e ∙ B.loop))

  -- each solid keeps its least face
  root_kept : (t : ℕ) → t ≢ 0 → face_in sh (links_after sh x (kef k)) t ≡ face_in sh x t
  root_kept t tn = split t s
      (λ e. rw e (least_unique sh.faces _ r B.r_in.0 B.r_in.1
      (eqb_same (solid_else r B.r_in (λ q. B.other (sym q)) ∙ B.r_solid))
      (λ j a b. below j a b) ∙ sym B.root))
      (λ d. least_ext sh.faces _ _ (λ n a b. split n f
      (λ e. eqb_other (λ q. tn (sym q ∙ ap (own sh (links_after sh x (kef k)) Solid) e ∙ solid_gone))
      ∙ sym (eqb_other (λ q. d (sym q ∙ ap (own sh x Solid) e ∙ B.solid))))
      (λ e. ap (λ m. eqb m t) (solid_else n (a, b) e))))
    where
      below : (j : ℕ) → 1 ≤ j → j < r → eqb (own sh (links_after sh x (kef k)) Solid j) s ≡ false
      below j a b = split j f
          (λ e. eqb_other (λ q. B.there_is (sym q ∙ ap (own sh (links_after sh x (kef k)) Solid) e ∙ solid_gone)))
          (λ e. eqb_other (λ q.
          let ij : In sh.faces j = (a, omega (arith, b, B.r_in.1)) in
          let m = (label_found sh.faces (own sh x Solid) s (λ z. omega (arith, B.r_in.0, sym B.root ∙ z))).before
          j ij (sym (solid_else j ij e) ∙ q) in
          omega (arith, m, B.root, b)))

  gone_off : own sh (links_after sh x (kef k)) Face l ≡ 0 → is_stray sh (links_after sh x (kef k)) l ≡ false
  gone_off e = rw e

  -- one stray loop fewer
  strays_fewer : suc (strays sh (links_after sh x (kef k))) ≡ strays sh x
  strays_fewer = count_fewer_in sh.loops _ _ l l_in (gone_off face_gone)
      (rw (
        B.face,
        B.solid,
        B.root,
        eqb_other {m = f} {n = 0} (λ z. omega (arith, f_in.0, z)),
        eqb_other (λ e. B.other (sym e)),
      ))
      kept
    where
      none : (y : List ℕ) (n : ℕ) → own sh y Face n ≡ 0 → is_stray sh y n ≡ false
      none y n e = rw e

      kept : (n : ℕ) → In sh.loops n → n ≢ l → is_stray sh (links_after sh x (kef k)) n ≡ is_stray sh x n
      kept n i d = split (own sh x Face n) 0
          (λ z. none _ n (face_else n i d ∙ z) ∙ sym (none x n z))
          (λ u.
          let L = B.good.sound.loop n i u in
          let h : own sh x Face n ≢ f = λ e. d (only n i e) in
          rw (
            face_else n i d,
            solid_else (own sh x Face n) L.face_in_lem h,
            root_kept (own sh x Solid (own sh x Face n)) L.face_used,
          ))

  -- what is ready
  pub kef_ready : free_edge sh x ≢ 0 → Ready sh (links_after sh x (kef k))
  kef_ready fe = record {
    face = least_there sh.faces (λ n. eqb (own sh (links_after sh x (kef k)) Solid n) 0) f f_in (eqb_same solid_gone);
    edge = free_edge_kept sh x _ law.start_kept fe;
    loop = inl (least_there sh.loops (λ n. eqb (own sh (links_after sh x (kef k)) Face n) 0) l l_in
        (eqb_same face_gone));
  }

  pub kef_path : Path sh (links_after sh x (kef k)) p (kef k ∷ []) x p
  kef_path = first {os = []} {p = p} (kef k) refl (place_accepted B.good place) (there refl (kef_points sh x p k))

  pub kef_counts : KefLaw sh x (links_after sh x (kef k)) k × (suc (strays sh (links_after sh x (kef k))) ≡ strays sh x)
  kef_counts = (law, strays_fewer)

-- ---- the turn

-- the edge numbers that were free are free
free_edge_same : {sh : Shape} {x y : List ℕ} → Alike sh x y → Ready sh x → free_edge sh y ≢ 0
free_edge_same {sh} {x} {y} a ready = free_edge_kept sh x y (λ i j z. a.start i j ∙ z) ready.edge

module _ {sh : Shape} {x : List ℕ} {p : List ℤ} (g : Good sh x p) (sn : solid_at sh x ≢ 0)
    (many : faces_in sh x (solid_at sh x) ≢ 1) where
  -- the whole turn from its parts
  whole : {k l f r s : ℕ} (O : Opened sh x p k l f r s) (C : Cleared sh O.y p k l f r s sh.loops 1)
      → ((w : Work) → w.state.links ≡ x → turned sh (solid_at sh x) (face_in sh x (solid_at sh x)) w
      ≡ turn_a sh r k l f w) → TurnMade sh x p
  unfolding acted
  whole {k} {l} {f} {r} {s} O C at =
      let B = C.border in
      let only : (m : ℕ) → In sh.loops m → own sh C.y Face m ≡ f → m ≡ l =
      λ m i e. C.only m i (omega (arith, i.1)) e in
      let kp = kef_path B only in
      let K = kef_counts B only in
      let al = alike_then O.alike C.alike in
      let j2 = joins_append sh (kef k ∷ []) C.path in
      let j1 = joins_append sh (C.os ++ (kef k ∷ [])) O.path in
      let nj : joins_in sh x p (O.os ++ (C.os ++ (kef k ∷ []))) ≡ 0 =
      omega (arith, j1, j2, O.joins, C.joins, kef_joins sh C.y p k) in
      let n2 = length-append C.os (kef k ∷ []) in
      let n1 = length-append O.os (C.os ++ (kef k ∷ [])) in
      record {
        os = O.os ++ (C.os ++ (kef k ∷ []));
        y = links_after sh C.y (kef k);
        q = p;
        path = path_append O.path (path_append C.path kp);
        same = λ w a b.
            let one : Path sh O.y p O.os w.state.links w.state.points = rw (a, b) O.path in
            let u = acted_table sh w one in
            at w a
            ∙ ap (λ v. act sh (move_rings sh sh.loops 1 f r v) (kef k)) (O.same w a b)
            ∙ ap (λ v. act sh v (kef k)) (C.same (acted sh w O.os) u.0 u.1)
            ∙ sym (acted_append sh w O.os (C.os ++ (kef k ∷ []))
            ∙ acted_append sh (acted sh w O.os) C.os (kef k ∷ []));
        change = record {
          euler = omega (
            arith,
            nj,
            al.same_solids,
            al.same_faces,
            al.same_loops,
            al.same_edges,
            al.same_vertices,
            K.0.same_solids,
            K.0.fewer_faces,
            K.0.fewer_loops,
            K.0.fewer_edges,
            K.0.same_vertices,
          );
          paid = inl (omega (
            arith,
            nj,
            n1,
            n2,
            al.same_solids,
            al.same_loops,
            al.same_vertices,
            K.0.same_solids,
            K.0.fewer_loops,
            K.0.same_vertices,
            K.1,
            O.same_strays,
            C.fewer,
            O.short,
          ));
          back = λ z. absurd (many z.1);
        };
        less = omega (arith, al.same_edges, al.same_vertices, K.0.fewer_edges, K.0.same_vertices);
        ready = λ ready. kef_ready B only (free_edge_same al ready);
      }

  pub turn_across : TurnMade sh x p
  turn_across =
      let r = face_in sh x (solid_at sh x) in
      let k = border_half sh x r in
      let l = own sh x Loop k in
      let f = side (own sh x) k in
      let q = found g sn many in
      let i = root_is g sn in
      let O = open_face sh {l = l} {f = f} {r = r} {s = solid_at sh x} g q.0 refl refl q.1 q.2
      (sym (g.sound.solids.edge k q.0) ∙ ap (own sh x Solid) q.1 ∙ i.label) refl i.range
      i.label sn in
      whole O (clear_rings sh sh.loops 1 O.border (omega arith) (omega arith)
      (λ m j h e. absurd (omega (arith, j.0, h)))) (λ w a. turned_a sh (solid_at sh x) r w x a many)
