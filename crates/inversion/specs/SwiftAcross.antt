-- A's turn keeps the lower ends: where no ring was moved, a new candidate is the mate of a half-edge of the face that
-- goes.
use Rattle.std.specs.Prelude.{◌≡◌, refl, ◌≢◌, Bool, true, false, not, ◌&&◌, List, ℕ, suc, ◌+◌, ◌-◌, ◌*◌, ◌≤◌, ◌<◌, eqb}
use Rattle.std.specs.Prelude.{ℤ}
use Rattle.std.proofs.Common.{sym, ap, ◌∙◌, subst, ⊎_elim, arith, eqb→eq, T_not}
use Rattle.std.proofs.lemmas.Bool.{false≢true}
use Rattle.std.proofs.Math.Dec.{not_T}
use Rattle.laws.specs.Bools.{pick, split, ask, T_true, true_T, eqb_same, eqb_other}
use Rattle.laws.specs.Search.{least, least_unique}
use Rattle.laws.specs.Update.{upd_at, upd_off, relabel_at, relabel_off}
use Rattle.laws.specs.Permutations.{iter_in}
use Rattle.layout.specs.declared.shape.Shape.{Shape}
use Rattle.layout.specs.Mate.{mate}
use Rattle.layout.specs.MateLaws.{mate_mate, mate_range}
use Rattle.euler.specs.Queries.{faces_in}
use Rattle.euler.specs.Exec.{links_after}
use Rattle.layout.specs.Fields.{SolidUsed, Solid, Outer, Face, Start, Loop, Next}
use Rattle.layout.specs.Items.{face_in, is_ring}
use Rattle.sound_tables.specs.Mates.{mate_other}
use Rattle.sound_tables.specs.Sound.{In, HalfUsed, side}
use Rattle.sound_tables.specs.Walking.{Steps, way_round, on_the_way}
use Rattle.sound_tables.specs.Good.{Good, own}
use Rattle.sound_operators.specs.Theorems.{all_hold}
use Rattle.sound_cuts.specs.KefPlace.{KefPlace}
use Rattle.sound_cuts.specs.KefAccepted.{kef_points}
use Rattle.takedown.specs.Inversion.{Work, links_in, solid_at, outside, border_half, is_ring_of, make_outer, move_rings}
use Rattle.takedown.specs.Inversion.{kef}
use Rattle.inversion.specs.Path.{Path, acted, acted_table}
use Rattle.inversion.specs.Same.{solid_at_same, count_fewer_in}
use Rattle.inversion.specs.OfSolid.{both, joint, least_some, least_no}
use Rattle.inversion.specs.Root.{root_is}
use Rattle.inversion.specs.KefLaws.{place_accepted, kef_law, kef_shown}
use Rattle.inversion.specs.Border.{Alike, alike_then, Cleared, clear_rings}
use Rattle.inversion.specs.TurnAcross.{place}
use Rattle.inversion.specs.TurnOuter.{found, Opened, opens_not, open_face}
use Rattle.takedown.specs.declared.ends.Ends.{Ends}
use Rattle.takedown.specs.Swift.{least_mate, stray_ring, loop_from, or_past, seek, moved_from, across_ends}
use Rattle.inversion.specs.SwiftKept.{seek_least, Keeps, Kept, keeps_none}
use Rattle.inversion.specs.TurnsB.{least_before, fails}
use Rattle.inversion.specs.SwiftMates.{mate_below, mate_met, mate_low, moves_more, moves_still, moves_from}
use Rattle.inversion.specs.SwiftMates.{outer_more, outer_still}

-- ---- a lone loop's face goes

module _ {sh : Shape} {x : List ℕ} {p : List ℤ} (g : Good sh x p) {k r : ℕ} (P : KefPlace sh (own sh x) k)
    (mr : side (own sh x) (mate k) ≡ r) (r1 : 1 ≤ r) (fr : side (own sh x) k ≢ r)
    (before : (i : ℕ) → In (2 * sh.edges) i → i < k → outside sh x r i ≡ false) where
  abbrev y : List ℕ
  y = links_after sh x (kef k)

  good_y : Good sh (links_after sh x (kef k)) p
  good_y = subst (Good sh (links_after sh x (kef k))) (kef_points sh x p k)
      (all_hold sh x p (kef k) g refl (place_accepted g P)).0

  used : (i : ℕ) → HalfUsed sh (own sh (links_after sh x (kef k))) i → HalfUsed sh (own sh x) i × (i ≢ k) × (i ≢ mate k)
  used i w = (
    (w.0, w.1, λ z. w.2 ((kef_law g P).start_kept i (w.0, w.1) z)),
    λ e. w.2 ((kef_shown g P).at Start i w.1 ∙ upd_at _ 0 e),
    λ e. w.2 ((kef_shown g P).at Start i w.1 ∙ upd_off _ 0 (λ q. mate_other k P.used.0 (sym q ∙ e))
        ∙ upd_at _ 0 e),
  )

  -- the side of a half-edge afterwards: the root, where it was the face that goes
  side_in_lem : (i : ℕ) → HalfUsed sh (own sh (links_after sh x (kef k))) i → side (own sh x) i ≡ side (own sh x) k
      → side (own sh (links_after sh x (kef k))) i ≡ r
  side_in_lem i w e =
      let u = used i w in
      let um = g.sound.rules.mate_in k P.used in
      let hm = g.sound.half (mate k) (um.0, um.1) um.2 in
      let li = P.one (own sh x Loop i) (g.sound.half i (w.0, w.1) u.0.2).loop_in e in
      ap (own sh (links_after sh x (kef k)) Face) ((kef_shown g P).at Loop i w.1 ∙ upd_off _ 0 u.1
      ∙ upd_off _ 0 u.2 ∙ relabel_at (own sh x Loop) _ _ li)
      ∙ (kef_law g P).face (own sh x Loop (mate k)) hm.loop_in (λ q. fr (sym (ap (own sh x Face) q) ∙ mr)) ∙ mr

  side_off : (i : ℕ) → HalfUsed sh (own sh (links_after sh x (kef k))) i → side (own sh x) i ≢ side (own sh x) k
      → side (own sh (links_after sh x (kef k))) i ≡ side (own sh x) i
  side_off i w d =
      let u = used i w in
      let li : own sh x Loop i ≢ own sh x Loop k = λ q. d (ap (own sh x Face) q) in
      ap (own sh (links_after sh x (kef k)) Face) ((kef_shown g P).at Loop i w.1 ∙ upd_off _ 0 u.1
      ∙ upd_off _ 0 u.2 ∙ relabel_off (own sh x Loop) _ _ li)
      ∙ (kef_law g P).face (own sh x Loop i) (g.sound.half i (w.0, w.1) u.0.2).loop_in li

  -- the way round the loop
  round : (d : ℕ) × (d < 2 * sh.edges) × Steps (own sh x Next) (own sh x Next k) k d
  round = way_round g.sound.rules.loops k P.used

  low_some : 1 ≤ least_mate sh (2 * sh.edges) x (own sh x Next k) k k
  low_some = mate_low sh (2 * sh.edges) round.0 x (own sh x Next k) k k (omega (arith, round.1)) round.2
      P.used.0
      (λ t h. (g.sound.rules.mate_in _ (iter_in g.sound.rules.loops.perm t (own sh x Next k)
      (g.sound.rules.loops.perm.f_in k P.used))).0)

  -- below it there is no candidate
  pub low_keeps : (i : ℕ) → In (2 * sh.edges) i → i < least_mate sh (2 * sh.edges) x (own sh x Next k) k k
      → outside sh (links_after sh x (kef k)) r i ≡ false
  low_keeps i j h = ⊎_elim (λ t. absurd (clash t)) (λ t. t) (ask (outside sh (links_after sh x (kef k)) r i))
    where
      clash : outside sh (links_after sh x (kef k)) r i ≡ true → ⊥
      clash t =
          let b = both (eqb (side (own sh (links_after sh x (kef k))) (mate i)) r)
          (not (eqb (side (own sh (links_after sh x (kef k))) i) r)) t in
          let em : side (own sh (links_after sh x (kef k))) (mate i) ≡ r = eqb→eq _ _ (true_T b.0) in
          let ni : side (own sh (links_after sh x (kef k))) i ≢ r =
          λ e. T_not (eqb (side (own sh (links_after sh x (kef k))) i) r) (true_T b.1) (true_T (eqb_same e)) in
          let im = mate_range i sh.edges j.0 j.1 in
          let um : HalfUsed sh (own sh (links_after sh x (kef k))) (mate i) = (
            im.0,
            im.1,
            λ z. omega (
              arith,
              r1,
              sym em ∙ ap (own sh (links_after sh x (kef k)) Face) (good_y.sound.half_free (mate i) im z).loop,
            ),
          ) in
          let ui : HalfUsed sh (own sh (links_after sh x (kef k))) i =
          subst (HalfUsed sh (own sh (links_after sh x (kef k)))) (mate_mate i)
          (good_y.sound.rules.mate_in (mate i) um) in
          let di : side (own sh x) i ≢ side (own sh x) k = λ e. ni (side_in_lem i ui e) in
          let si = side_off i ui di in
          split (side (own sh x) (mate i)) (side (own sh x) k)
          (λ e.
          let c = used (mate i) um in
          let lm = P.one (own sh x Loop (mate i)) (g.sound.half (mate i) im c.0.2).loop_in e in
          ⊎_elim c.1
          (λ m. omega (
            arith,
            h,
            mate_met sh (2 * sh.edges) round.0 x (own sh x Next k) k k (omega
                (arith, round.1)) round.2 m.0 m.1,
            ap mate m.2 ∙ mate_mate i,
          ))
          (on_the_way g.sound.rules.loops k P.used round.2 (mate i) c.0 lm))
          (λ d. false≢true
          (sym (before i j
          (omega (
            arith,
            h,
            mate_below sh (2 * sh.edges) round.0 x (own sh x Next k) k k (omega (arith, round.1)) round.2,
          )))
          ∙ joint (eqb (side (own sh x) (mate i)) r) (not (eqb (side (own sh x) i) r)) (eqb_same
          (sym (side_off (mate i) um d) ∙ em))
          (T_true (not_T (eqb (side (own sh x) i) r) (λ t. ni (si ∙ eqb→eq _ _ t))))))

  -- and no loop becomes a ring of another face
  pub stray_kept : {s : ℕ} → s ≢ 0 → (n : ℕ) → In sh.loops n → stray_ring sh x s r n ≡ false
      → stray_ring sh (links_after sh x (kef k)) s r n ≡ false
  stray_kept {s} sn n i f = fails (stray_ring sh x s r n) (stray_ring sh (links_after sh x (kef k)) s r n) f still
    where
      -- its face stays, with its solid and outer loop
      same : own sh x Face n ≢ 0 → n ≢ own sh x Loop k → stray_ring sh (links_after sh x (kef k)) s r n
          ≡ stray_ring sh x s r n
      same d e =
          let L = g.sound.loop n i d in
          let ff : own sh x Face n ≢ side (own sh x) k = λ q. e (P.one n i q) in
          rw (
            (kef_law g P).face n i e,
            (kef_law g P).solid (own sh x Face n) L.face_in_lem ff,
            (kef_shown g P).at Outer (own sh x Face n) L.face_in_lem.1 ∙ upd_off (own sh x Outer) 0 ff,
          )

      -- a loop of no face is of no solid
      free : own sh (links_after sh x (kef k)) Face n ≡ 0 → stray_ring sh (links_after sh x (kef k)) s r n ≡ true → ⊥
      free z t =
          let a = both (eqb (own sh (links_after sh x (kef k)) Solid (own sh (links_after sh x (kef k)) Face n)) s
          && not (eqb (own sh (links_after sh x (kef k)) Face n) r)) (is_ring sh (links_after sh x (kef k)) n) t in
          let b = both (eqb (own sh (links_after sh x (kef k)) Solid (own sh (links_after sh x (kef k)) Face n)) s)
          (not (eqb (own sh (links_after sh x (kef k)) Face n) r)) a.0 in
          sn (sym (eqb→eq _ _ (true_T b.0)) ∙ ap (own sh (links_after sh x (kef k)) Solid) z)

      still : stray_ring sh (links_after sh x (kef k)) s r n ≡ true → stray_ring sh x s r n ≡ true
      still t = split n (own sh x Loop k)
          (λ e. absurd (free (ap (own sh (links_after sh x (kef k)) Face) e ∙ (kef_law g P).face_gone) t))
          (λ e. split (own sh x Face n) 0 (λ z. absurd (free ((kef_law g P).face n i e ∙ z) t)) (λ d. sym (same d e)
          ∙ t))

  pub low_there : 1 ≤ least_mate sh (2 * sh.edges) x (own sh x Next k) k k
  low_there = low_some

-- ---- the turn

module _ {sh : Shape} {x : List ℕ} {p : List ℤ} (g : Good sh x p) (sn : solid_at sh x ≢ 0)
    (many : faces_in sh x (solid_at sh x) ≢ 1) where
  -- the root, the half-edge, its loop and face
  abbrev r : ℕ
  r = face_in sh x (solid_at sh x)

  abbrev k : ℕ
  k = border_half sh x (face_in sh x (solid_at sh x))

  abbrev l : ℕ
  l = own sh x Loop (border_half sh x (face_in sh x (solid_at sh x)))

  abbrev f : ℕ
  f = side (own sh x) (border_half sh x (face_in sh x (solid_at sh x)))

  -- its loop made the outer one, and the rings moved
  opened : Opened sh x p k l f r (solid_at sh x)
  opened =
      let q = found g sn many in
      let i = root_is g sn in
      open_face sh {l = l} {f = f} {r = r} {s = solid_at sh x} g q.0 refl refl q.1 q.2
      (sym (g.sound.solids.edge k q.0) ∙ ap (own sh x Solid) q.1 ∙ i.label) refl i.range i.label sn

  cleared : Cleared sh opened.y p k l f r (solid_at sh x) sh.loops 1
  cleared = clear_rings sh sh.loops 1 opened.border (omega arith) (omega arith)
      (λ m j h e. absurd (omega (arith, j.0, h)))

  alike : Alike sh x cleared.y
  alike = alike_then opened.alike cleared.alike

  -- what they leave
  abbrev moved : Work → Work
  moved w = move_rings sh sh.loops 1 f r (make_outer sh l f w)

  moved_links_lem : (w : Work) → w.state.links ≡ x → w.state.points ≡ p → links_in (moved w) ≡ cleared.y
  moved_links_lem w a b =
      let one : Path sh opened.y p opened.os w.state.links w.state.points = rw (a, b) opened.path in
      let u = acted_table sh w one in
      let two : Path sh cleared.y p cleared.os (acted sh w opened.os).state.links
      (acted sh w opened.os).state.points = rw (u.0, u.1) cleared.path in
      ap (λ v. links_in (move_rings sh sh.loops 1 f r v)) (opened.same w a b)
      ∙ ap links_in (cleared.same (acted sh w opened.os) u.0 u.1)
      ∙ (acted_table sh (acted sh w opened.os) two).0

  -- ---- kef then

  abbrev z : List ℕ
  z = links_after sh cleared.y (kef k)

  place₂ : KefPlace sh (own sh cleared.y) k
  place₂ = place cleared.border (λ m i e. cleared.only m i (omega (arith, i.1)) e)

  side_k : side (own sh cleared.y) k ≡ f
  side_k = ap (own sh cleared.y Face) cleared.border.loop ∙ cleared.border.face

  f_in : In sh.faces f
  f_in = let q = g.sound.solids.side_in_lem k (found g sn many).0 in (q.0, q.1)

  f_solid : own sh x Solid f ≡ solid_at sh x
  f_solid = let q = found g sn many in sym (g.sound.solids.edge k q.0) ∙ ap (own sh x Solid) q.1
      ∙ (root_is g sn).label

  mark₂ : (n : ℕ) → In sh.solids n → own sh z SolidUsed n ≡ own sh x SolidUsed n
  mark₂ n i = (kef_law cleared.border.good place₂).mark n i ∙ alike.mark n i

  solid_gone : own sh z Solid f ≡ 0
  solid_gone = ap (own sh z Solid) (sym side_k) ∙ (kef_law cleared.border.good place₂).solid_gone

  solid_else : (n : ℕ) → In sh.faces n → n ≢ f → own sh z Solid n ≡ own sh x Solid n
  solid_else n i d = (kef_law cleared.border.good place₂).solid n i (λ e. d (e ∙ side_k)) ∙ alike.solid n i

  -- the solid at hand, its root and its faces
  solid_at_lem : solid_at sh z ≡ solid_at sh x
  solid_at_lem = solid_at_same sh x z mark₂

  root_at : face_in sh z (solid_at sh x) ≡ r
  root_at =
      let i = root_is g sn in
      least_unique sh.faces _ r i.range.0 i.range.1
      (eqb_same (solid_else r i.range (λ e. (found g sn many).2 (sym e)) ∙ i.label))
      (λ j a b. eqb_other (λ e. split j f
      (λ q. sn (sym e ∙ ap (own sh z Solid) q ∙ solid_gone))
      (λ q. let ij : In sh.faces j = (a, omega (arith, b, i.range.1)) in
      omega (arith, b, i.before j ij (sym (solid_else j ij q) ∙ e)))))

  faces_at : suc (faces_in sh z (solid_at sh x)) ≡ faces_in sh x (solid_at sh x)
  faces_at = count_fewer_in sh.faces _ _ f f_in (eqb_other (λ e. sn (sym e ∙ solid_gone))) (eqb_same f_solid)
      (λ n i d. ap (λ m. eqb m (solid_at sh x)) (solid_else n i d))

  -- ---- the lower end

  -- where no ring was moved the face has one loop
  lone : (w : Work) → w.state.links ≡ x → (moved w).done ≡ w.done → (links_in (moved w) ≡ x) × KefPlace sh (own sh x) k
  lone w a e =
      let o = outer_still sh l f w
      (omega (arith, e, outer_more sh l f w, moves_more sh sh.loops 1 f r (make_outer sh l f w))) in
      let m = moves_still sh sh.loops 1 f r (make_outer sh l f w) (e ∙ ap (λ v. v.done) (sym o.0)) in
      let t = m.0 ∙ o.0 in
      let no : (n : ℕ) → In sh.loops n → is_ring_of sh x f n ≡ false =
      λ n i. subst (λ x. is_ring_of sh x f n ≡ false) (ap links_in o.0 ∙ a) (m.1 n i.0 (omega (arith, i.1))) in (
        ap links_in t ∙ a,
        record {
          used = (found g sn many).0;
          one = λ n i q. sym (outer_is n q (subst (λ t. t ≡ false) (rest n q) (no n i)))
              ∙ outer_is l refl (subst (λ x. is_ring sh x l ≡ false) a o.1);
          other = λ q. (found g sn many).2 (sym q ∙ (found g sn many).1);
        },
      )
    where
      outer_is : (n : ℕ) → own sh x Face n ≡ f → is_ring sh x n ≡ false → own sh x Outer f ≡ n
      outer_is n q t = split (own sh x Outer (own sh x Face n)) n (λ e. sym (ap (own sh x Outer) q) ∙ e)
          (λ d. absurd
          (false≢true (sym t ∙ T_true (not_T (eqb (own sh x Outer (own sh x Face n)) n) (λ s. d (eqb→eq _ _ s))))))

      rest : (n : ℕ) → own sh x Face n ≡ f → is_ring_of sh x f n ≡ is_ring sh x n
      rest n q = rw (eqb_same q)

  past : (n k : ℕ) → k ≤ n → (1 ≤ or_past n k) × (or_past n k ≤ n + 1)
  past n k h = split k 0 (λ e. rw (eqb_same e) (omega arith, omega arith))
      (λ e. rw (eqb_other e) (omega arith, omega arith))

  -- below it is none
  loop_before : (e : Ends) → Kept sh x e → (1 ≤ loop_from sh x e) × (loop_from sh x e ≤ sh.loops + 1)
      × ((n : ℕ) → In sh.loops n → n < loop_from sh x e → stray_ring sh x (solid_at sh x) r n ≡ false)
  loop_before e K =
      let m = least sh.loops (stray_ring sh x (solid_at sh x) r) in
      let q : loop_from sh x e ≡ or_past sh.loops m =
      ap (or_past sh.loops) (ap (λ s. seek sh.loops e.stray (stray_ring sh x s e.root)) K.solid
      ∙ ap (λ t. seek sh.loops e.stray (stray_ring sh x (solid_at sh x) t)) K.root
      ∙ seek_least sh.loops e.stray (stray_ring sh x (solid_at sh x) r) K.keeps.loop_low K.keeps.loop) in
      let b : m ≤ sh.loops =
      split m 0 (λ z. omega (arith, z)) (λ d. (least_some sh.loops (stray_ring sh x (solid_at sh x) r) d).0.1) in
      let p = past sh.loops m b in (
        omega (arith, q, p.0),
        omega (arith, q, p.1),
        λ n i h. split m 0
            (λ z. least_no sh.loops (stray_ring sh x (solid_at sh x) r) z n i)
            (λ d. least_before sh.loops (stray_ring sh x (solid_at sh x) r) n i (omega (arith, h, q, at m d))),
      )
    where
      at : (m : ℕ) → m ≢ 0 → or_past sh.loops m ≡ m
      at m d = rw (eqb_other d)

  -- the rings that are moved are the same
  pub moved_same : (e : Ends) → Kept sh x e → (w : Work) → w.state.links ≡ x
      → moved_from sh e x k (pick (is_ring sh x l) 1 (loop_from sh x e)) w ≡ moved w
  moved_same e K w a =
      ap (λ t. move_rings sh (sh.loops + 1 - pick (is_ring sh x l) 1 (loop_from sh x e))
      (pick (is_ring sh x l) 1 (loop_from sh x e)) f t (make_outer sh l f w)) K.root
      ∙ by (is_ring sh x l) refl
    where
      by : (t : Bool) → is_ring sh x l ≡ t
          → move_rings sh (sh.loops + 1 - pick t 1 (loop_from sh x e)) (pick t 1 (loop_from sh x e)) f r
          (make_outer sh l f
          w) ≡ moved w
      by true q = moves_from sh 1 f r (make_outer sh l f w) (omega arith) (omega arith)
          (λ m i h. absurd (omega (arith, i.0, h)))
      by false q =
          let b = loop_before e K in
          let o = opens_not sh l f w x a q in
          moves_from sh (loop_from sh x e) f r (make_outer sh l f w) b.0 b.1 (λ m i h.
          subst (λ x. is_ring_of sh x f m ≡ false) (sym (ap links_in o ∙ a))
          (fails (stray_ring sh x (solid_at sh x) r m) (is_ring_of sh x f m) (b.2 m i h) (stray m)))
        where
          stray : (m : ℕ) → is_ring_of sh x f m ≡ true → stray_ring sh x (solid_at sh x) r m ≡ true
          stray m t =
              let c = both (eqb (own sh x Face m) f) (is_ring sh x m) t in
              let e : own sh x Face m ≡ f = eqb→eq _ _ (true_T c.0) in
              joint (eqb (own sh x Solid (own sh x Face m)) (solid_at sh x) && not (eqb (own sh x Face m) r))
              (is_ring sh x m)
              (joint (eqb (own sh x Solid (own sh x Face m)) (solid_at sh x)) (not (eqb (own sh x Face m) r))
              (eqb_same (ap (own sh x Solid) e ∙ f_solid))
              (T_true (not_T (eqb (own sh x Face m) r) (λ z. (found g sn many).2 (sym e ∙ eqb→eq _ _ z))))) c.1

  pub across_ends_lem : (e : Ends) → Kept sh x e → (w : Work) → w.state.links ≡ x → w.state.points ≡ p
      → Kept sh (links_after sh (links_in (moved w)) (kef k)) (across_ends sh x e k (loop_from sh x e)
      (eqb (moved w).done w.done))
  across_ends_lem e K w a b =
      subst (λ t. Kept sh (links_after sh t (kef k))
      (across_ends sh x e k (loop_from sh x e) (eqb (moved w).done w.done))) (sym (moved_links_lem w a b)) (record {
        solid = K.solid ∙ sym solid_at_lem;
        root = K.root ∙ sym (ap (face_in sh z) solid_at_lem ∙ root_at);
        faces = omega (arith, K.faces, faces_at, ap (faces_in sh z) solid_at_lem);
        keeps = subst
            (λ s. Keeps sh z s (face_in sh z s) (across_ends sh x e k (loop_from sh x e) (eqb (moved w).done w.done)))
            (sym solid_at_lem)
            (subst (λ q. Keeps sh z (solid_at sh x) q
            (across_ends sh x e k (loop_from sh x e) (eqb (moved w).done w.done))) (sym root_at)
            (by (eqb (moved w).done w.done) refl));
      })
    where
      by : (t : Bool) → eqb (moved w).done w.done ≡ t
          → Keeps sh z (solid_at sh x) r (across_ends sh x e k (loop_from sh x e) t)
      by false q = keeps_none sh z (solid_at sh x) r _ _ _ 1 1 g.capacities.edges.0 (omega arith)
          (λ i j h. absurd (omega (arith, j.0, h))) (omega arith) (λ i j h. absurd (omega (arith, j.0, h)))
      by true q =
          let c = lone w a (eqb→eq _ _ (true_T q)) in
          let F = found g sn many in
          let before = least_before (2 * sh.edges) (outside sh x r) in
          let same : x ≡ cleared.y = sym c.0 ∙ moved_links_lem w a b in
          let m = loop_before e K in
          keeps_none sh z (solid_at sh x) r _ _ _ _ (loop_from sh x e) g.capacities.edges.0
          (low_there g c.1 F.1 (root_is g sn).range.0 F.2 before)
          (subst (λ t. (i : ℕ) → In (2 * sh.edges) i → i < least_mate sh (2 * sh.edges) x (own sh x Next k) k k
          → outside sh (links_after sh t (kef k)) r i ≡ false) same
          (low_keeps g c.1 F.1 (root_is g sn).range.0 F.2 before))
          m.0
          (subst (λ t. (n : ℕ) → In sh.loops n → n < loop_from sh x e
          → stray_ring sh (links_after sh t (kef k)) (solid_at sh x) r n ≡ false) same
          (λ n i h. stray_kept g c.1 F.1 (root_is g sn).range.0 F.2 before sn n i (m.2 n i h)))
