-- WHAT IS REFUSED OF A FACE, in words: each refusal where it is due, after those before it, and never otherwise.
use Rattle.std.specs.Prelude.{◌≡◌, refl, ◌≢◌, Bool, true, false, not, ◌&&◌, ◌||◌, List, ℕ, ◌*◌, ◌≤◌, ◌<◌, T, eqb, ℤ}
use Rattle.std.proofs.Common.{ap, true≢false, arith, eqb→eq, leb→le, T_not, le-leb}
use Rattle.std.proofs.Math.Logic.{⊎_elim}
use Rattle.std.proofs.Math.Dec.{leb}
use Rattle.laws.specs.Bools.{pick, ask, split, le?, eqb_same, eqb_other, true_T, false_T, T_false, and_T, T_and, imp_T}
use Rattle.laws.specs.Every.{every, every_T, T_every}
use Rattle.laws.specs.Search.{all_to, any_to, all_at, all_of, any_at, any_of}
use Rattle.layout.specs.declared.shape.Shape.{Shape}
use Rattle.layout.specs.Layout.{face_solid, loop_face, loop_isolated, start_of, side}
use Rattle.layout.specs.Items.{some}
use Rattle.layout.specs.Points.{range_test}
use Rattle.sound_tables.specs.Sound.{In}
use Rattle.chains.specs.Ranks.{count_from}
use Rattle.chains.specs.Numbers.{edge_free, vertex_free, face_free, loop_free}
use Rattle.chains.specs.Runs.{room_for}
use Rattle.sweeps.specs.declared.Vector.{Vector}
use Rattle.sweeps.specs.Sweep.{corners_to, moved_by, lone_in, moves, movable, spare, sweep_ops, sweep_refusal}

module _ (sh : Shape) (x : List ℕ) (p : List ℤ) (start f : ℕ) (v : Vector) where
  -- f is the number of a face in use
  abbrev pub FaceIn : Type 0
  FaceIn = In sh.faces f × (face_solid sh x f ≢ 0)

  -- loop l is a lone loop of the face
  abbrev pub LoneLoop : ℕ → Type 0
  LoneLoop l = In sh.loops l × (loop_face sh x l ≡ f) × (loop_isolated sh x l ≢ 0)

  -- half-edge k is in use and lies in the face
  abbrev pub InFace : ℕ → Type 0
  InFace k = In (2 * sh.edges) k × (start_of sh x k ≢ 0) × (side sh x k ≡ f)

  -- its start, moved, is in range
  abbrev pub Movable : ℕ → Type 0
  Movable k = T (range_test (moved_by sh x p 0 v.x k)) × T (range_test (moved_by sh x p 1 v.y k))
      × T (range_test (moved_by sh x p 2 v.z k))

  -- no loop of the face is lone
  abbrev pub NoLone : Type 0
  NoLone = (l : ℕ) → LoneLoop l → ⊥

  -- all its corners can be moved
  abbrev pub AllMove : Type 0
  AllMove = (k : ℕ) → InFace k → Movable k

  -- for its n corners n vertices, 2n edges, n faces and n loops are free
  abbrev pub Enough : Type 0
  Enough =
      let n = corners_to sh x f sh.loops in
      (n ≤ count_from sh.vertices 1 (vertex_free sh x)) × (2 * n ≤ count_from sh.edges 1 (edge_free sh x))
      × (n ≤ count_from sh.faces 1 (face_free sh x)) × (n ≤ count_from sh.loops 1 (loop_free sh x))

  -- the bytes of all inverses
  abbrev pub bytes : ℕ
  bytes = room_for sh x p (sweep_ops sh x p f v)

  -- "5 and 6 for the face, 14 for a lone loop in it, 5 for a moved point out of range, 10 for too few free numbers, 9
  -- for a log too short for all their inverses"
  pub data RefusedAs : ℕ → Type 0 where
    no_face : (In sh.faces f → ⊥) → RefusedAs 5
    free_face : In sh.faces f → face_solid sh x f ≡ 0 → RefusedAs 6
    lone_loop : FaceIn → (l : ℕ) → LoneLoop l → RefusedAs 14
    far_point : FaceIn → NoLone → (k : ℕ) → InFace k → (Movable k → ⊥) → RefusedAs 5
    few_numbers : FaceIn → NoLone → AllMove → (Enough → ⊥) → RefusedAs 10
    short_log : FaceIn → NoLone → AllMove → Enough → start < bytes → RefusedAs 9
    none : FaceIn → NoLone → AllMove → Enough → bytes ≤ start → RefusedAs 0

  -- ---- what the tests say where they pass

  lone_is : (l : ℕ) → T (lone_in sh x f l) → (loop_face sh x l ≡ f) × (loop_isolated sh x l ≢ 0)
  lone_is l t =
      let a = and_T (eqb (loop_face sh x l) f) (some (loop_isolated sh x l)) t in
      (eqb→eq _ f a.0, λ z. T_not (eqb (loop_isolated sh x l) 0) a.1 (true_T (eqb_same z)))

  no_lone : any_to sh.loops (lone_in sh x f) ≡ false → NoLone
  no_lone e l q = false_T e (any_of sh.loops (lone_in sh x f) l q.0.0 q.0.1
      (T_and (eqb (loop_face sh x l) f) (some (loop_isolated sh x l)) (true_T (eqb_same q.1))
      (true_T (ap not (eqb_other q.2)))))

  all_move : all_to (2 * sh.edges) (moves sh x p f v) ≡ true → AllMove
  all_move e k q =
      let t = imp_T (some (start_of sh x k) && eqb (side sh x k) f) (every (movable sh x p v k))
      (all_at (2 * sh.edges) (moves sh x p f v) (true_T e) k q.0.0 q.0.1)
      (T_and (some (start_of sh x k)) (eqb (side sh x k) f) (true_T (ap not (eqb_other q.1)))
      (true_T (eqb_same q.2))) in
      let m = every_T (movable sh x p v k) t in
      (m.0, m.1.0, m.1.1.0)

  enough : every (spare sh x (corners_to sh x f sh.loops)) ≡ true → Enough
  enough e =
      let t = every_T (spare sh x (corners_to sh x f sh.loops)) (true_T e) in
      (leb→le _ _ t.0, leb→le _ _ t.1.0, leb→le _ _ t.1.1.0, leb→le _ _ t.1.1.1.0)

  face_is : (some f && leb f sh.faces) ≡ true → In sh.faces f
  face_is e =
      let i = and_T (some f) (leb f sh.faces) (true_T e) in
      let n : f ≢ 0 = λ z. T_not (eqb f 0) i.0 (true_T (eqb_same z)) in
      (omega (arith, n), leb→le f sh.faces i.1)

  -- ---- and where they fail

  face_none : (some f && leb f sh.faces) ≡ false → In sh.faces f → ⊥
  face_none e i =
      let n : f ≢ 0 = λ z. omega (arith, i.0, z) in
      false_T e (T_and (some f) (leb f sh.faces) (true_T (ap not (eqb_other n)))
      (true_T (le-leb f sh.faces i.1)))

  far_is : (k : ℕ) → moves sh x p f v k ≡ false
      → (start_of sh x k ≢ 0) × (side sh x k ≡ f) × (Movable k → ⊥)
  far_is k e =
      let a = fails (some (start_of sh x k) && eqb (side sh x k) f) (every (movable sh x p v k)) e in
      let i = and_T (some (start_of sh x k)) (eqb (side sh x k) f) (true_T a.0) in (
        λ z. T_not (eqb (start_of sh x k) 0) i.0 (true_T (eqb_same z)),
        eqb→eq _ f i.1,
        λ m. false_T a.1 (T_every (movable sh x p v k) (m.0, (m.1, (m.2, tt)))),
      )
    where
      fails : (a b : Bool) → (not a || b) ≡ false → (a ≡ true) × (b ≡ false)
      fails true false e = (refl, refl)
      fails true true e = absurd (true≢false e)
      fails false b e = absurd (true≢false e)

  not_enough : every (spare sh x (corners_to sh x f sh.loops)) ≡ false → Enough → ⊥
  not_enough e m = false_T e (T_every (spare sh x (corners_to sh x f sh.loops)) (
    true_T (le-leb _ _ m.0),
    (true_T (le-leb _ _ m.1), (true_T (le-leb _ _ m.2), (true_T (le-leb _ _ m.3), tt))),
  ))

  -- ---- each in its turn

  log_refused : FaceIn → NoLone → AllMove → Enough → RefusedAs (pick (leb bytes start) 0 9)
  log_refused a b c d = ⊎_elim
      (λ e. rw e (none a b c d (leb→le bytes start (true_T e))))
      (λ e. rw e (short_log a b c d (⊎_elim (λ h. absurd (false_T e (true_T (le-leb bytes start h)))) (λ h. h)
      (le? bytes start))))
      (ask (leb bytes start))

  numbers_refused : FaceIn → NoLone → AllMove
      → RefusedAs (pick (every (spare sh x (corners_to sh x f sh.loops))) (pick (leb bytes start) 0 9) 10)
  numbers_refused a b c =
      ⊎_elim (λ e. rw e (log_refused a b c (enough e))) (λ e. rw e (few_numbers a b c (not_enough e)))
      (ask (every (spare sh x (corners_to sh x f sh.loops))))

  points_refused : FaceIn → NoLone → RefusedAs (pick (all_to (2 * sh.edges) (moves sh x p f v))
      (pick (every (spare sh x (corners_to sh x f sh.loops))) (pick (leb bytes start) 0 9) 10) 5)
  points_refused a b = ⊎_elim
      (λ e. rw e (numbers_refused a b (all_move e)))
      (λ e.
      let k = one_fails (2 * sh.edges) (moves sh x p f v) e in
      let q = far_is k.0 k.3 in
      rw e (far_point a b k.0 ((k.1, k.2), q.0, q.1) q.2))
      (ask (all_to (2 * sh.edges) (moves sh x p f v)))
    where
      one_fails : (n : ℕ) (t : ℕ → Bool) → all_to n t ≡ false → (k : ℕ) × (1 ≤ k) × (k ≤ n) × (t k ≡ false)
      one_fails n t e = ⊎_elim
          (λ y.
          let w = any_at n (λ k. not (t k)) (true_T y) in
          (w.0, w.1, w.2, T_false (λ u. T_not (t w.0) w.3 u)))
          (λ y. absurd (false_T e (all_of n t (λ k a b. ⊎_elim (λ u. true_T u)
          (λ u. absurd (false_T y (any_of n (λ i. not (t i)) k a b (true_T (ap not u))))) (ask (t k))))))
          (ask (any_to n (λ k. not (t k))))

  -- EACH REFUSAL WHERE IT IS DUE
  pub refused_as : RefusedAs (sweep_refusal sh x p start f v)
  unfolding sweep_refusal
  refused_as = ⊎_elim
      (λ e. split (face_solid sh x f) 0
      (λ z. rw e (rw (eqb_same z) (free_face (face_is e) z)))
      (λ z. ⊎_elim
      (λ u.
      let w = any_at sh.loops (lone_in sh x f) (true_T u) in
      let l = lone_is w.0 w.3 in
      rw e (rw (eqb_other z) (rw u (lone_loop (face_is e, z) w.0 ((w.1, w.2), l.0, l.1)))))
      (λ u. rw e (rw (eqb_other z) (rw u (points_refused (face_is e, z) (no_lone u)))))
      (ask (any_to sh.loops (lone_in sh x f)))))
      (λ e. rw e (no_face (face_none e)))
      (ask (some f && leb f sh.faces))
