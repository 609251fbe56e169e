-- On a good table the quick take-down does what the take-down does.
use Rattle.std.specs.Prelude.{◌≡◌, refl, ◌≢◌, true, false, List, ℕ, zero, suc, ◌-◌, ◌*◌, ◌≤◌, ◌<◌, eqb, ℤ, length}
use Rattle.std.proofs.Common.{sym, ap, ◌∙◌, subst, ⊎_elim, zero-add, arith}
use Rattle.laws.specs.Bools.{pick, split, ask, eqb_same, eqb_other}
use Rattle.laws.specs.Search.{least}
use Rattle.script.specs.declared.Operator.{Operator}
use Rattle.layout.specs.declared.shape.Shape.{Shape}
use Rattle.layout.specs.Layout.{shape_of, face_outer, loop_of, side}
use Rattle.euler.specs.Queries.{faces_in}
use Rattle.euler.specs.Exec.{links_after}
use Rattle.layout.specs.Fields.{SolidUsed}
use Rattle.layout.specs.Items.{some, face_in}
use Rattle.sound_tables.specs.Sound.{In}
use Rattle.sound_tables.specs.Good.{Good, own}
use Rattle.runs.specs.Run.{State, entry, stepped}
use Rattle.runs.specs.Clauses.{entry_passed}
use Rattle.promises.specs.Checked.{checked_good}
use Rattle.takedown.specs.Inversion.{Work, act, begin, inverted, inverted_by, short_log, turns, invert_of, links_in}
use Rattle.takedown.specs.Inversion.{solid_at, lacks_b, lacks, lack_at, ended, all_turns}
use Rattle.takedown.specs.Inversion.{free_face, free_loop, free_edge, outside, border_half, of_solid, edges_left}
use Rattle.takedown.specs.Inversion.{in_ring}
use Rattle.takedown.specs.Inversion.{ring_half, spur_half, is_crossed, crossed_half, is_ring_of, ring_of, make_outer}
use Rattle.takedown.specs.Inversion.{move_rings}
use Rattle.takedown.specs.Inversion.{turn_ring, turn_c, turned, invert_by, kvsf, kev, kef, kemr, mekr, mfkrh}
use Rattle.inversion.specs.Path.{acted, path_good, acted_table}
use Rattle.inversion.specs.OfSolid.{least_some, not_some, some_not}
use Rattle.inversion.specs.Turn.{invert_some, invert_lack}
use Rattle.inversion.specs.TurnShape.{turned_a, turned_ring, turned_spur, turned_cross, turned_c, turned_last}
use Rattle.inversion.specs.TurnLast.{turn_mark as last-mark}
use Rattle.inversion.specs.Root.{solid_in}
use Rattle.inversion.specs.Lacks.{Enough, face_left, loop_left, edge_left}
use Rattle.inversion.specs.Main.{euler_at, course, course_back, invert_by_lem, short_answered}
use Rattle.inversion.specs.RolledBack.{rolled_back_lem}
use Rattle.inversion.specs.AllTurns.{turns_made}
use Rattle.inversion.specs.Gone.{Goes}
use Rattle.takedown.specs.declared.ends.Ends.{Ends}
use Rattle.takedown.specs.Swift.{seek, Swift, with_half, spur_from, ring_ends, spur_ends, cross_ends, loop_from}
use Rattle.takedown.specs.Swift.{across_ends}
use Rattle.takedown.specs.Swift.{across_turn, across_from, bare_ends, enter, entered, swift_turn, swift_lacks, swift_by}
use Rattle.takedown.specs.Swift.{swiftly_by, swift_of}
use Rattle.inversion.specs.SwiftKept.{seek_least, Keeps, Kept, kept_enter, spur_from_lem, solid_kept, root_kept}
use Rattle.inversion.specs.SwiftKept.{faces_kept}
use Rattle.inversion.specs.TurnsB.{least_before, kev_good, kev_goes_on, kemr_good, kemr_goes_on, uncrossed_of}
use Rattle.inversion.specs.TurnsB.{ring_good, ring_goes_on}
use Rattle.inversion.specs.SwiftTurns.{kept_spur, kept_cross, kept_ring}
use Rattle.inversion.specs.SwiftBare.{kept_bare}
use Rattle.inversion.specs.SwiftAcross.{moved_same, across_ends_lem}

-- ---- the kinds of turn, as equations

module _ (sh : Shape) (e : Ends) (x : List ℕ) (w : Work) where
  shape_ring : (h k : ℕ) → e.faces ≡ 1 → seek (2 * sh.edges) e.half (of_solid sh x e.solid) ≡ h → h ≢ 0
      → seek (2 * sh.edges) e.ring (in_ring sh x e.solid) ≡ k → k ≢ 0
      → swift_turn sh e x w ≡ record {
        work = turn_ring sh k (loop_of sh x k) (free_face sh x) w;
        ends =
            ring_ends sh x (with_half e h) k;
      }
  unfolding swift_turn
  shape_ring h k one a b c d = rw (eqb_same one, a, eqb_other b, c, eqb_other d)

  shape_spur : (h k : ℕ) → e.faces ≡ 1 → seek (2 * sh.edges) e.half (of_solid sh x e.solid) ≡ h → h ≢ 0
      → seek (2 * sh.edges) e.ring (in_ring sh x e.solid) ≡ 0
      → spur_from sh x e ≡ k → k ≢ 0
      → swift_turn sh e x w ≡ record { work = act sh w (kev k); ends = spur_ends sh x (with_half e h) k }
  unfolding swift_turn
  shape_spur h k one a b c d f = rw (eqb_same one, a, eqb_other b, c, d, eqb_other f)

  shape_cross : (h k : ℕ) → e.faces ≡ 1 → seek (2 * sh.edges) e.half (of_solid sh x e.solid) ≡ h → h ≢ 0
      → seek (2 * sh.edges) e.ring (in_ring sh x e.solid) ≡ 0
      → spur_from sh x e ≡ 0 → seek (2 * sh.edges) e.cross (is_crossed sh x e.solid) ≡ k
      → swift_turn sh e x w
      ≡ record { work = act sh w (kemr k (free_loop sh x)); ends = cross_ends sh x (with_half e h) k }
  unfolding swift_turn
  shape_cross h k one a b c d f = rw (eqb_same one, a, eqb_other b, c, d, f)

  shape_c : (l : ℕ) → e.faces ≡ 1 → seek (2 * sh.edges) e.half (of_solid sh x e.solid) ≡ 0
      → seek sh.loops e.lone (is_ring_of sh x e.root) ≡ l → l ≢ 0
      → swift_turn sh e x w ≡ record {
        work = turn_c sh (face_outer sh x e.root) l (free_edge sh x) w;
        ends =
            bare_ends sh e l;
      }
  unfolding swift_turn
  shape_c l one a b c = rw (eqb_same one, a, b, eqb_other c)

  shape_last : e.faces ≡ 1 → seek (2 * sh.edges) e.half (of_solid sh x e.solid) ≡ 0
      → seek sh.loops e.lone (is_ring_of sh x e.root) ≡ 0
      → swift_turn sh e x w ≡ entered sh e.solid (act sh w (kvsf e.solid))
  unfolding swift_turn
  shape_last one a b = rw (eqb_same one, a, b)

  shape_a : (k : ℕ) → e.faces ≢ 1 → seek (2 * sh.edges) e.border (outside sh x e.root) ≡ k
      → swift_turn sh e x w ≡ across_from sh e x k (loop_from sh x e) w
  unfolding swift_turn
  shape_a k many a = rw (eqb_other many, a)

-- ---- the table after an operator

after : (sh : Shape) (w : Work) (o : Operator) (x : List ℕ) → links_in w ≡ x
    → links_in (act sh w o) ≡ links_after sh x o
unfolding act stepped
after sh w o x a = ap (λ t. links_after sh t o) a

kept_at : (sh : Shape) {x y : List ℕ} (n : Ends) → y ≡ x → Kept sh x n → Kept sh y n
kept_at sh n q k = subst (λ t. Kept sh t n) (sym q) k

-- ---- a turn of the quick take-down: the same work, and the ends are kept

pub record Same (sh : Shape) (x : List ℕ) (e : Ends) (w : Work) : Type 0 where
  pub work : (swift_turn sh e x w).work ≡ turned sh (solid_at sh x) (face_in sh x (solid_at sh x)) w
  pub kept : Kept sh (links_in (swift_turn sh e x w).work) (swift_turn sh e x w).ends

module _ {sh : Shape} {x : List ℕ} {p : List ℤ} (g : Good sh x p) (sn : solid_at sh x ≢ 0)
    (e : Ends) (K : Kept sh x e) (w : Work) (a : w.state.links ≡ x) (b : w.state.points ≡ p) where
  -- the searches find what they are to find
  half_is : seek (2 * sh.edges) e.half (of_solid sh x e.solid)
      ≡ least (2 * sh.edges) (of_solid sh x (solid_at sh x))
  half_is = ap (λ s. seek (2 * sh.edges) e.half (of_solid sh x s)) K.solid
      ∙ seek_least (2 * sh.edges) e.half (of_solid sh x (solid_at sh x)) K.keeps.half_low K.keeps.half

  ring_is : seek (2 * sh.edges) e.ring (in_ring sh x e.solid) ≡ ring_half sh x (solid_at sh x)
  ring_is = ap (λ s. seek (2 * sh.edges) e.ring (in_ring sh x s)) K.solid
      ∙ seek_least (2 * sh.edges) e.ring (in_ring sh x (solid_at sh x)) K.keeps.ring_low K.keeps.ring

  spur_is : spur_from sh x e ≡ spur_half sh x (solid_at sh x)
  spur_is = spur_from_lem sh x (solid_at sh x) (face_in sh x (solid_at sh x)) e K.solid K.keeps

  border_is : seek (2 * sh.edges) e.border (outside sh x e.root) ≡ border_half sh x (face_in sh x (solid_at sh x))
  border_is = ap (λ r. seek (2 * sh.edges) e.border (outside sh x r)) K.root
      ∙ seek_least (2 * sh.edges) e.border (outside sh x (face_in sh x (solid_at sh x))) K.keeps.border_low
      K.keeps.border

  lone_is : seek sh.loops e.lone (is_ring_of sh x e.root) ≡ ring_of sh x (face_in sh x (solid_at sh x))
  lone_is = ap (λ r. seek sh.loops e.lone (is_ring_of sh x r)) K.root
      ∙ seek_least sh.loops e.lone (is_ring_of sh x (face_in sh x (solid_at sh x))) K.keeps.lone_low
      K.keeps.lone

  h₀_before : (i : ℕ) → In (2 * sh.edges) i → i < least (2 * sh.edges) (of_solid sh x (solid_at sh x))
      → of_solid sh x (solid_at sh x) i ≡ false
  h₀_before = least_before (2 * sh.edges) (of_solid sh x (solid_at sh x))

  -- an edge went: solid, root and faces are as they were
  by_goes : {y : List ℕ} {q : List ℤ} {h : ℕ} (gy : Good sh y q) (G : Goes sh x y h) (n : Ends) → n.solid ≡ e.solid
      → n.root ≡ e.root → n.faces ≡ e.faces
      → Keeps sh y (solid_at sh x) (face_in sh x (solid_at sh x)) n → Kept sh y n
  by_goes {y} gy G n es er ef k = record {
    solid = es ∙ K.solid ∙ sym at;
    root = er ∙ K.root ∙ sym (root_kept g gy sn G (solid_at sh x)) ∙ ap (face_in sh y) (sym at);
    faces = ef ∙ K.faces ∙ sym (faces_kept g gy sn G (solid_at sh x)) ∙ ap (faces_in sh y) (sym at);
    keeps = subst (λ s. Keeps sh y s (face_in sh y s) n) (sym at)
        (subst (λ r. Keeps sh y (solid_at sh x) r n) (sym (root_kept g gy sn G (solid_at sh x))) k);
  }
    where
      at : solid_at sh y ≡ solid_at sh x
      at = solid_kept g gy sn G

  -- from the shape of the turn
  from : (t : Swift) → swift_turn sh e x w ≡ t → t.work ≡ turned sh (solid_at sh x) (face_in sh x (solid_at sh x)) w
      → Kept sh (links_in t.work) t.ends → Same sh x e w
  from t q u k = subst (λ t. (t.work ≡ turned sh (solid_at sh x) (face_in sh x (solid_at sh x)) w)
      → Kept sh (links_in t.work) t.ends → Same sh x e w) q
      (λ u k. record { work = u; kept = k }) u k

  -- the last turn: the next solid is entered
  by_enter : (v : Work)
      → ((n : ℕ) → In sh.solids n → n < solid_at sh x → own sh (links_in v) SolidUsed n ≡ own sh x SolidUsed n)
      → Kept sh (links_in v) (enter sh (links_in v) e.solid)
  by_enter v f = kept_enter sh (links_in v) e.solid g.capacities.edges.0
      (omega (arith, K.solid, (solid_in g sn).0))
      (λ s i h. f s i (omega (arith, K.solid, h))
      ∙ not_some (own sh x SolidUsed s) (least_before sh.solids (λ s. some (own sh x SolidUsed s)) s i
      (omega (arith, K.solid, h))))

  same_a : faces_in sh x (solid_at sh x) ≢ 1 → Same sh x e w
  same_a many =
      let r = face_in sh x (solid_at sh x) in
      let k = border_half sh x r in
      from _ (shape_a sh e x w k (λ q. many (sym K.faces ∙ q)) border_is
      ∙ ap (across_turn sh e x k (loop_from sh x e) w) (moved_same g sn many e K w a))
      (sym (turned_a sh (solid_at sh x) r w x a many))
      (let v = move_rings sh sh.loops 1 (side sh x k) r (make_outer sh (loop_of sh x k) (side sh x k) w) in
      kept_at sh (across_ends sh x e k (loop_from sh x e) (eqb v.done w.done)) (after sh v (kef k) (links_in v) refl)
      (across_ends_lem g sn many e K w a b))

  module _ (one : faces_in sh x (solid_at sh x) ≡ 1) where
    faces_one : e.faces ≡ 1
    faces_one = K.faces ∙ one

    module _ (left : edges_left sh x (solid_at sh x) ≡ true) where
      there : least (2 * sh.edges) (of_solid sh x (solid_at sh x)) ≢ 0
      there = some_not (least (2 * sh.edges) (of_solid sh x (solid_at sh x))) left

      h₀_low : 1 ≤ least (2 * sh.edges) (of_solid sh x (solid_at sh x))
      h₀_low = (least_some (2 * sh.edges) (of_solid sh x (solid_at sh x)) there).0.0

      same_ring : free_face sh x ≢ 0 → ring_half sh x (solid_at sh x) ≢ 0 → Same sh x e w
      same_ring free d =
          let r = face_in sh x (solid_at sh x) in
          from _ (shape_ring sh e x w _ _ faces_one half_is there ring_is d)
          (sym (turned_ring sh (solid_at sh x) r w x a one left d))
          (let k = ring_half sh x (solid_at sh x) in
          kept_at sh (ring_ends sh x (with_half e (least (2 * sh.edges) (of_solid sh x (solid_at sh x)))) k)
          (after sh (act sh w (mfkrh (loop_of sh x k) (free_face sh x))) (kef k) _
          (after sh w (mfkrh (loop_of sh x k) (free_face sh x)) x a))
          (by_goes (ring_good g free sn one left d) (ring_goes_on g free sn one left d) _ refl refl refl
          (kept_ring g free sn one left d e r _ K.keeps h₀_low h₀_before)))

      module _ (none : ring_half sh x (solid_at sh x) ≡ 0) where
        same_spur : spur_half sh x (solid_at sh x) ≢ 0 → Same sh x e w
        same_spur d =
            let r = face_in sh x (solid_at sh x) in
            from _ (shape_spur sh e x w _ _ faces_one half_is there (ring_is ∙ none) spur_is d)
            (sym (turned_spur sh (solid_at sh x) r w x a one left none d))
            (kept_at sh (spur_ends sh x (with_half e (least (2 * sh.edges) (of_solid sh x (solid_at sh x))))
            (spur_half sh x (solid_at sh x))) (after sh w (kev (spur_half sh x (solid_at sh x))) x a)
            (by_goes (kev_good g sn one left none d) (kev_goes_on g sn one left none d) _ refl refl refl
            (kept_spur g sn one left none d e r _ K.keeps h₀_low h₀_before)))

        same_cross : free_loop sh x ≢ 0 → spur_half sh x (solid_at sh x) ≡ 0 → Same sh x e w
        same_cross free d =
            let r = face_in sh x (solid_at sh x) in
            let q : seek (2 * sh.edges) e.cross (is_crossed sh x e.solid) ≡ crossed_half sh x (solid_at sh x) =
            ap (λ s. seek (2 * sh.edges) e.cross (is_crossed sh x s)) K.solid
            ∙ seek_least (2 * sh.edges) e.cross (is_crossed sh x (solid_at sh x)) K.keeps.cross_low (λ i j h.
            uncrossed_of g sn one none i j (K.keeps.cross i j h)) in
            from _ (shape_cross sh e x w _ _ faces_one half_is there (ring_is ∙ none) (spur_is ∙ d) q)
            (sym (turned_cross sh (solid_at sh x) r w x a one left none d))
            (kept_at sh (cross_ends sh x (with_half e (least (2 * sh.edges) (of_solid sh x (solid_at sh x))))
            (crossed_half sh x (solid_at sh x)))
            (after sh w (kemr (crossed_half sh x (solid_at sh x)) (free_loop sh x)) x a)
            (by_goes (kemr_good g free sn one left none d) (kemr_goes_on g free sn one left none d) _ refl refl refl
            (kept_cross g free sn one left none d e r _ K.keeps h₀_low h₀_before)))

    module _ (left : edges_left sh x (solid_at sh x) ≡ false) where
      gone : seek (2 * sh.edges) e.half (of_solid sh x e.solid) ≡ 0
      gone = half_is ∙ not_some (least (2 * sh.edges) (of_solid sh x (solid_at sh x))) left

      same_c : free_edge sh x ≢ 0 → ring_of sh x (face_in sh x (solid_at sh x)) ≢ 0 → Same sh x e w
      same_c free d =
          let r = face_in sh x (solid_at sh x) in
          let o = mekr (face_outer sh x r) (ring_of sh x r) (free_edge sh x) in
          from _ (shape_c sh e x w _ faces_one gone lone_is d)
          (ap (λ q. turn_c sh (face_outer sh x q) (ring_of sh x r) (free_edge sh x) w) K.root
          ∙ sym (turned_c sh (solid_at sh x) r w x a one left d))
          (subst (λ q. Kept sh (links_in (turn_c sh (face_outer sh x q) (ring_of sh x r) (free_edge sh x) w))
          (bare_ends sh e (ring_of sh x r))) (sym K.root)
          (kept_at sh (bare_ends sh e (ring_of sh x r))
          (after sh (act sh w o) (kev (2 * free_edge sh x - 1)) _ (after sh w o x a))
          (kept_bare g free sn one left d e K)))

      same_last : ring_of sh x (face_in sh x (solid_at sh x)) ≡ 0 → Same sh x e w
      same_last d =
          let r = face_in sh x (solid_at sh x) in
          from _ (shape_last sh e x w faces_one gone (lone_is ∙ d))
          (ap (λ s. act sh w (kvsf s)) K.solid ∙ sym (turned_last sh (solid_at sh x) r w x a one left d))
          (by_enter (act sh w (kvsf e.solid))
          (λ n i h. ap (λ t. own sh t SolidUsed n) (after sh w (kvsf e.solid) x a
          ∙ ap (λ s. links_after sh x (kvsf s)) K.solid)
          ∙ last-mark g sn one left d n i (λ z. omega (arith, h, z))))

  pub turn_same : Enough sh x → Same sh x e w
  turn_same enough = split (faces_in sh x (solid_at sh x)) 1
      (λ one. ⊎_elim
      (λ left. split (ring_half sh x (solid_at sh x)) 0
      (λ none. split (spur_half sh x (solid_at sh x)) 0
      (λ z. same_cross one left none (loop_left sh x enough one left none z) z) (λ d. same_spur one left none d))
      (λ d. same_ring one left (face_left sh x enough one left d) d))
      (λ left. split (ring_of sh x (face_in sh x (solid_at sh x))) 0 (λ z. same_last one left z)
      (λ d. same_c one left (edge_left sh x enough one left d) d))
      (ask (edges_left sh x (solid_at sh x))))
      (λ many. same_a many)

  -- it lacks a number where the turn does
  pub lacks_same : swift_lacks sh e x ≡ lack_at sh x
  unfolding swift_lacks lacks lacks_b
  lacks_same = rw (spur_is, ring_is, half_is, lone_is, K.faces)

-- ---- turn by turn

-- it stops where a turn lacks a number
swift_lack : (n : ℕ) (sh : Shape) (t : Swift) → t.ends.solid ≢ 0 → swift_lacks sh t.ends (links_in t.work) ≡ true
    → swift_by (suc n) sh t ≡ ended true t.work
unfolding swift_by
swift_lack n sh t d e = rw (eqb_other d, e)

-- else it goes on
swift_some : (n : ℕ) (sh : Shape) (t : Swift) → t.ends.solid ≢ 0 → swift_lacks sh t.ends (links_in t.work) ≡ false
    → swift_by (suc n) sh t ≡ swift_by n sh (swift_turn sh t.ends (links_in t.work) t.work)
unfolding swift_by
swift_some n sh t d e = rw (eqb_other d, e)

pub swift_by_lem : (n : ℕ) (sh : Shape) (t : Swift) → Good sh (links_in t.work) t.work.state.points
    → Kept sh (links_in t.work) t.ends → swift_by n sh t ≡ invert_by n sh t.work
unfolding swift_by invert_by
swift_by_lem zero sh t g K = refl
swift_by_lem (suc n) sh t g K = split (solid_at sh (links_in t.work)) 0
    (λ z. rw (eqb_same (K.solid ∙ z), eqb_same z))
    (λ d.
    let x = links_in t.work in
    let l = lacks_same g d t.ends K t.work refl refl in
    ⊎_elim
    (λ e. swift_lack n sh t (λ z. d (sym K.solid ∙ z)) (l ∙ e) ∙ sym (invert_lack n sh t.work d e))
    (λ e.
    let m = turns_made sh x t.work.state.points g e d in
    let s = turn_same g d t.ends K t.work refl refl e in
    let q = s.work ∙ m.same t.work refl refl in
    let v = acted_table sh t.work m.path in
    let el = ap links_in q ∙ v.0 in
    let ep = ap (λ w. w.state.points) q ∙ v.1 in
    let gy : Good sh (links_in (swift_turn sh t.ends x t.work).work) (swift_turn sh t.ends x
    t.work).work.state.points = rw (el, ep) (path_good g m.path) in
    swift_some n sh t (λ z. d (sym K.solid ∙ z)) (l ∙ e)
    ∙ swift_by_lem n sh (swift_turn sh t.ends x t.work) gy s.kept ∙ ap (invert_by n sh) s.work
    ∙ sym (invert_some n sh t.work d e))
    (ask (lack_at sh x)))

-- ---- the entry point

-- of a state that is let in the turns are the same
turns_same : (t : State) → (entry t).refusal ≡ 0
    → swift_by (turns (shape_of t.links)) (shape_of t.links) (entered (shape_of t.links) 1 (begin t))
    ≡ all_turns t
turns_same t z =
    let sh = shape_of t.links in
    let g = checked_good t.links t.points (entry_passed t z).1 in
    swift_by_lem (turns sh) sh (entered sh 1 (begin t)) g
    (kept_enter sh t.links 1 g.capacities.edges.0 (omega arith) (λ s i h. absurd (omega (arith, i.0, h))))

-- and what is rolled back is as it was
back_same : (t : State) → (entry t).refusal ≡ 0 → short_log (shape_of t.links) t ≡ false
    → swiftly_by (shape_of t.links) t (all_turns t)
    ≡ inverted_by t (all_turns t)
back_same t z s =
    let sh = shape_of t.links in
    let h = euler_at t z in
    let c = course t h.0 h.1 z s in
    let w = acted sh (begin t) c.os in
    let d = (acted_table sh (begin t) c.path).2 ∙ zero-add (length c.os) in
    let r = rolled_back_lem sh t w (length c.os) d (course_back t h.0 c) in
    rw c.made (ap (λ u. pick c.lack (inverted 10 0 (begin u)) (inverted 0 0 w)) r)

-- a short log is told first
short_same : (t : State) → (entry t).refusal ≡ 0 → short_log (shape_of t.links) t ≡ true
    → swift_of t ≡ inverted 9 0 (begin t)
unfolding swift_of
short_same t z s = rw (z, s)

-- then come the turns
work_same : (t : State) → (entry t).refusal ≡ 0 → short_log (shape_of t.links) t ≡ false
    → swift_of t
    ≡ swiftly_by (shape_of t.links) t (all_turns t)
unfolding swift_of
work_same t z s = rw (z, s, turns_same t z)

-- THE QUICK TAKE-DOWN IS THE TAKE-DOWN, whatever the words
pub swift_same : (t : State) → swift_of t ≡ invert_of t
unfolding swift_of invert_of
swift_same t = split (entry t).refusal 0
    (λ z. ⊎_elim (λ s. short_same t z s ∙ sym (short_answered t z s))
    (λ s. work_same t z s ∙ back_same t z s ∙ sym (invert_by_lem t _ z s refl))
    (ask (short_log (shape_of t.links) t)))
    (λ d. rw (eqb_other d))
