-- THE SWEEP IS ACCEPTED WHOLE: once the refusals have been looked at, each operator of the sweep is accepted in its
-- turn, from every good table.
use Rattle.std.specs.Prelude.{◌≡◌, refl, ◌≢◌, ◌⊎◌, Bool, true, false, not, ◌&&◌, List, ℕ, zero, suc, ◌+◌, ◌-◌, ◌*◌, ◌≤◌}
use Rattle.std.specs.Prelude.{◌<◌, T, eqb, leb, ℤ}
use Rattle.std.proofs.Common.{sym, ap, ◌∙◌, inl, inr, ⊎_elim, zero-add, arith, eqb→eq, leb→le, T_not}
use Rattle.std.proofs.Math.Path.{subst}
use Rattle.laws.specs.Bools.{pick, split, eqb_same, eqb_other, true_T, false_T, and_T, T_and, imp_T}
use Rattle.laws.specs.Every.{every, every_T}
use Rattle.laws.specs.Search.{least_from_is, Least, none_is, one_is, least, all_to, any_to, all_at, any_of}
use Rattle.laws.specs.Sums.{sum_to}
use Rattle.layout.specs.declared.shape.Shape.{Shape}
use Rattle.layout.specs.Layout.{side, start_of, face_solid}
use Rattle.layout.specs.Items.{some}
use Rattle.layout.specs.Points.{range_test}
use Rattle.layout.specs.Fields.{Solid, Face, First, Isolated, Start, Loop, VertexUsed, Columns}
use Rattle.sound_tables.specs.Sound.{In, HalfUsed}
use Rattle.sound_tables.specs.Good.{own, Good}
use Rattle.sound_tables.specs.Names.{named_used}
use Rattle.sound_tables.specs.PointLists.{three, all_three}
use Rattle.chains.specs.Series.{Each, Reach, reach_none, reach_map, reach_joined}
use Rattle.chains.specs.Ranks.{count_from, nth_apart}
use Rattle.sweeps.specs.declared.Vector.{Vector}
use Rattle.sweeps.specs.Sweep.{corner_of, corners_in}
use Rattle.chains.specs.Numbers.{free_names, edge_free, vertex_free, face_free, loop_free, nth_stands, nth_free}
use Rattle.sweeps.specs.Sweep.{corners_of, corners_to, moved_by, ops_of, sweep_ops, lone_in, movable, moves}
use Rattle.sweeps.specs.Sweep.{spare}
use Rattle.chains.specs.Runs.{room_for}
use Rattle.sweeps.specs.Sweep.{sweep_refusal}
use Rattle.sweeps.specs.Frames.{Keeps, keeps_all, keeps_less, keeps_then, Grew, grew_none}
use Rattle.sweeps.specs.Numbers.{Supply, Fresh, Taking, taking_none}
use Rattle.chains.specs.Least.{LeastNew, nth_below}
use Rattle.sweeps.specs.Lifted.{Lifted, lifted_keeps}
use Rattle.sweeps.specs.Amid.{Lap, Setting, corner_rank}
use Rattle.sweeps.specs.OneLoop.{loop_reach}
use Rattle.sweeps.specs.Laps.{round, lap_of, lap_least}

-- ---- what the refusals say

-- a test passed, with a refusal else
passed : (b : Bool) (r s : ℕ) → s ≢ 0 → pick b r s ≡ 0 → (b ≡ true) × (r ≡ 0)
passed true r s n e = (refl, e)
passed false r s n e = absurd (n e)

-- a test not passed
failed : (b : Bool) (r s : ℕ) → r ≢ 0 → pick b r s ≡ 0 → (b ≡ false) × (s ≡ 0)
failed true r s n e = absurd (n e)
failed false r s n e = (refl, e)

-- a face that can be swept
pub record Sweepable (sh : Shape) (x : List ℕ) (p : List ℤ) (start f : ℕ) (v : Vector) : Type 0 where
  pub face_in_lem : In sh.faces f
  pub face_used : own sh x Solid f ≢ 0
  pub not_lone : any_to sh.loops (lone_in sh x f) ≡ false
  pub points : all_to (2 * sh.edges) (moves sh x p f v) ≡ true
  pub numbers : every (spare sh x (corners_to sh x f sh.loops)) ≡ true
  pub room : room_for sh x p (sweep_ops sh x p f v) ≤ start

-- what the refusals leave
pub sweepable : (sh : Shape) (x : List ℕ) (p : List ℤ) (start f : ℕ) (v : Vector) → sweep_refusal sh x p start f v ≡ 0
    → Sweepable sh x p start f v
unfolding sweep_refusal
sweepable sh x p start f v e =
    let a = passed (some f && leb f sh.faces) _ 5 (λ z. omega (arith, z)) e in
    let b = passed (some (face_solid sh x f)) _ 6 (λ z. omega (arith, z)) a.1 in
    let c = failed (any_to sh.loops (lone_in sh x f)) 14 _ (λ z. omega (arith, z)) b.1 in
    let d = passed (all_to (2 * sh.edges) (moves sh x p f v)) _ 5 (λ z. omega (arith, z)) c.1 in
    let g = passed (every (spare sh x (corners_to sh x f sh.loops))) _ 10 (λ z. omega (arith, z)) d.1 in
    let h = passed (leb (room_for sh x p (sweep_ops sh x p f v)) start) 0 9 (λ z. omega (arith, z)) g.1 in
    let i = and_T (some f) (leb f sh.faces) (true_T a.0) in
    let n : f ≢ 0 = λ z. T_not (eqb f 0) i.0 (true_T (eqb_same z)) in
    record {
      face_in_lem = (omega (arith, n), leb→le f sh.faces i.1);
      face_used = λ z. T_not (eqb (own sh x Solid f) 0) (true_T b.0) (true_T (eqb_same z));
      not_lone = c.0;
      points = d.0;
      numbers = g.0;
      room = leb→le _ _ (true_T h.0);
    }

-- ---- numbers

-- sums grow
pub sum_up : (m n : ℕ) (f : ℕ → ℕ) → m ≤ n → sum_to m f ≤ sum_to n f
unfolding sum_to
sum_up m zero f h = let e : m ≡ 0 = omega arith in rw e (omega arith)
sum_up m (suc n) f h = split m (suc n) (λ e. rw e (omega arith)) (λ e. omega (arith, sum_up m n f (omega arith)))

-- one more summand
pub sum_suc : (n : ℕ) (f : ℕ → ℕ) → sum_to (suc n) f ≡ f (suc n) + sum_to n f
unfolding sum_to
sum_suc n f = refl

-- each summand is at most the sum
pub sum_at : (n : ℕ) (f : ℕ → ℕ) (k : ℕ) → In n k → f k ≤ sum_to n f
sum_at n f zero i = absurd (omega (arith, i.0))
sum_at n f (suc k) i = omega (arith, sum_up (suc k) n f i.1, sum_suc k f)

-- the corners of a loop of the face
pub corners_yes : (sh : Shape) (x : List ℕ) (f l : ℕ) → own sh x Face l ≡ f → corners_of sh x f l ≡ corners_in sh x l
unfolding corners_of
corners_yes sh x f l e = rw (eqb_same e)

-- of another
pub corners_no : (sh : Shape) (x : List ℕ) (f l : ℕ) → own sh x Face l ≢ f → corners_of sh x f l ≡ 0
unfolding corners_of
corners_no sh x f l e = rw (eqb_other e)

-- ---- on the way

-- loop l of face f is lifted in d, q
abbrev pub LiftedAt : Shape → List ℕ → List ℤ → ℕ → Vector → ℕ → Columns → List ℤ → Type 0
LiftedAt sh x p f v l d q =
    Lifted sh (free_names sh x) (corner_of sh x l) (λ j. moved_by sh x p 0 v.x (corner_of sh x l j))
    (λ j. moved_by sh x p 1 v.y (corner_of sh x l j)) (λ j. moved_by sh x p 2 v.z (corner_of sh x l j)) l
    (corners_in sh x l - 1) (corners_to sh x f (l - 1)) d q

-- once the loops of face f up to j are swept: those are lifted, later loops and those of other faces are kept, and so
-- many numbers are taken
pub record Midway (sh : Shape) (x : List ℕ) (p : List ℤ) (f : ℕ) (v : Vector) (j : ℕ) (y : List ℕ) (q : List ℤ) :
    Type 0 where
  pub keeps : Keeps sh (own sh x) p (own sh y) q (λ n. (j < n) ⊎ (own sh x Face n ≢ f))
  pub lifted : (l : ℕ) → In sh.loops l → l ≤ j → own sh x Face l ≡ f → LiftedAt sh x p f v l (own sh y) q
  pub fresh : Fresh (own sh y) (free_names sh x) (2 * corners_to sh x f sh.loops) (corners_to sh x f sh.loops)
      (2 * corners_to sh x f j) (corners_to sh x f j) (corners_to sh x f j)
  pub taking : Taking sh (own sh x) (own sh y) (free_names sh x) (2 * corners_to sh x f j) (corners_to sh x f j)
      (corners_to sh x f j)
  pub grew : Grew sh (own sh x) (own sh y) (2 * corners_to sh x f j) (corners_to sh x f j) (corners_to sh x f j)

module _ {sh : Shape} {x : List ℕ} {p : List ℤ} (g : Good sh x p) {start f : ℕ} {v : Vector}
    (r : Sweepable sh x p start f v) where
  -- the columns at the call
  abbrev c : Columns
  c = own sh x

  -- all corners
  abbrev n : ℕ
  n = corners_to sh x f sh.loops

  -- that many numbers are free
  counts : (n ≤ count_from sh.vertices 1 (vertex_free sh x)) × (2 * n ≤ count_from sh.edges 1 (edge_free sh x))
      × (n ≤ count_from sh.faces 1 (face_free sh x)) × (n ≤ count_from sh.loops 1 (loop_free sh x))
  counts =
      let t = every_T (spare sh x n) (true_T r.numbers) in
      (leb→le _ _ t.0, leb→le _ _ t.1.0, leb→le _ _ t.1.1.0, leb→le _ _ t.1.1.1.0)

  -- the numbers that are free at the call
  pub supply : Supply sh (own sh x) (free_names sh x) (2 * n) n
  supply = record {
    edge_below = λ j h. nth_below sh.edges (λ i. own sh x Start (2 * i)) j (omega (arith, counts.1));
    edge_in_range = λ j h. nth_stands sh.edges (edge_free sh x) j (omega (arith, counts.1));
    edge_apart = λ i j a b e. nth_apart sh.edges 1 (edge_free sh x) i j (omega (arith, counts.1)) (omega (
      arith,
      counts.1,
    )) e;
    vertex_below = λ j h. nth_below sh.vertices (own sh x VertexUsed) j (omega (arith, counts.0));
    vertex_in = λ j h. nth_stands sh.vertices (vertex_free sh x) j (omega (arith, counts.0));
    vertex_apart = λ i j a b e. nth_apart sh.vertices 1 (vertex_free sh x) i j (omega (arith, counts.0)) (omega
        (arith, counts.0)) e;
    face_below = λ j h. nth_below sh.faces (own sh x Solid) j (omega (arith, counts.2));
    face_in_lem = λ j h. nth_stands sh.faces (face_free sh x) j (omega (arith, counts.2));
    face_apart = λ i j a b e. nth_apart sh.faces 1 (face_free sh x) i j (omega (arith, counts.2)) (omega (
      arith,
      counts.2,
    )) e;
    loop_below = λ j h. nth_below sh.loops (own sh x Face) j (omega (arith, counts.3));
    loop_in = λ j h. nth_stands sh.loops (loop_free sh x) j (omega (arith, counts.3));
    loop_apart = λ i j a b e. nth_apart sh.loops 1 (loop_free sh x) i j (omega (arith, counts.3)) (omega (
      arith,
      counts.3,
    )) e;
  }

  -- all are free at first
  fresh : Fresh c (free_names sh x) (2 * n) n 0 0 0
  fresh = record {
    edges = λ j a h. nth_free sh.edges (λ i. own sh x Start (2 * i)) j (omega (arith, counts.1));
    vertices = λ j a h. nth_free sh.vertices (own sh x VertexUsed) j (omega (arith, counts.0));
    faces = λ j a h. nth_free sh.faces (own sh x Solid) j (omega (arith, counts.2));
    loops = λ j a h. nth_free sh.loops (own sh x Face) j (omega (arith, counts.3));
  }

  -- ---- a loop of the face

  module _ (l : ℕ) (li : In sh.loops l) (lf : own sh x Face l ≡ f) where
    -- it is in use
    l_used : own sh x Face l ≢ 0
    l_used z = omega (arith, r.face_in_lem.0, sym lf ∙ z)

    -- not isolated
    not_alone : own sh x Isolated l ≡ 0
    not_alone = split (own sh x Isolated l) 0 (λ z. z) (λ z. absurd (false_T r.not_lone
        (any_of sh.loops (lone_in sh x f) l li.0 li.1
        (T_and (eqb (own sh x Face l) f) (some (own sh x Isolated l)) (true_T (eqb_same lf)) (true_T (ap not
        (eqb_other z)))))))

    -- its first half-edge
    abbrev h : ℕ
    h = own sh x First l

    -- it has one
    first_some : own sh x First l ≢ 0
    first_some = ⊎_elim (λ a. a.0) (λ a. absurd (omega (arith, a.1.0, not_alone))) (g.sound.loop l li l_used
        ).either

    -- which is in use and lies in the loop
    first_is : HalfUsed sh (own sh x) (own sh x First l) × (own sh x Loop (own sh x First l) ≡ l)
    first_is = go (least_from_is (2 * sh.edges) 1 (λ k. eqb (own sh x Loop k) l))
      where
        go : Least (2 * sh.edges) 1 (λ k. eqb (own sh x Loop k) l) (least (2 * sh.edges) (λ k. eqb (own sh x Loop k)
            l))
            → HalfUsed sh (own sh x) (own sh x First l) × (own sh x Loop (own sh x First l) ≡ l)
        go (none_is z q) = absurd (first_some ((g.sound.loop l li l_used).first ∙ z))
        go (one_is a b t q) = rw (g.sound.loop l li l_used).first (
            let e = eqb→eq _ l (true_T t) in
            (named_used g.sound li.0 _ (a, omega (arith, b)) e, e))

    -- its corners
    abbrev z : ℕ
    z = (round g.sound first_is.0 first_is.1).0

    -- they are a lap
    lap : Lap sh (own sh x) l z (corner_of sh x l)
    lap = lap_of g.sound first_is.0 first_is.1

    -- so many
    corners_is : corners_in sh x l ≡ suc z
    unfolding corners_in
    corners_is = lap_least g.sound first_is.0 first_is.1

    -- one at least
    pub corners_some : 1 ≤ corners_in sh x l
    corners_some = omega (arith, corners_is)

    -- all can be moved
    range : (j : ℕ) → j ≤ z → (i : ℕ) → i < 3 → T (range_test (three (moved_by sh x p 0 v.x (corner_of sh x l j))
        (moved_by sh x p 1 v.y (corner_of sh x l j)) (moved_by sh x p 2 v.z (corner_of sh x l j)) i))
    range j b =
        let k = corner_of sh x l j in
        let u = lap.used j b in
        let t = imp_T (some (start_of sh x k) && eqb (side sh x k) f) (every (movable sh x p v k))
        (all_at (2 * sh.edges) (moves sh x p f v) (true_T r.points) k u.0 u.1)
        (T_and (some (start_of sh x k)) (eqb (side sh x k) f) (true_T (ap not (eqb_other u.2)))
        (true_T (eqb_same (ap (own sh x Face) (lap.loop j b) ∙ lf)))) in
        let m = every_T (movable sh x p v k) t in
        all_three (λ q. T (range_test q)) _ _ _ m.0 m.1.0 m.1.1.0

    -- so that code can ask for it
    pub corners_move : (j : ℕ) → j < corners_in sh x l → (i : ℕ) → i < 3 → T (range_test (three (moved_by sh x p 0 v.x
        (corner_of sh x l j)) (moved_by sh x p 1 v.y (corner_of sh x l j))
        (moved_by sh x p 2 v.z (corner_of sh x l j)) i))
    corners_move j b = range j (omega (arith, b, corners_is))

    -- the corners up to it are those before it and its own
    pub corners_up : corners_to sh x f l ≡ corners_to sh x f (l - 1) + suc (corners_in sh x l - 1)
    corners_up = go l li.0 (corners_yes sh x f l lf) corners_some
      where
        go : (m : ℕ) → 1 ≤ m → corners_of sh x f m ≡ corners_in sh x m → 1 ≤ corners_in sh x m
            → corners_to sh x f m ≡ corners_to sh x f (m - 1) + suc (corners_in sh x m - 1)
        go zero h e c = absurd (omega arith)
        go (suc m) h e c =
            let y : suc m - 1 ≡ m = omega arith in
            rw y (omega (arith, sum_suc m (corners_of sh x f), e, c))

    -- IT CAN BE SWEPT once b corners are
    pub setting : (b : ℕ) → b ≡ corners_to sh x f (l - 1)
        → Setting sh (own sh x) (free_names sh x) (2 * n) n l (corners_in sh x l - 1) b (corner_of sh x l)
        (λ j. moved_by sh x p 0 v.x (corner_of sh x l j)) (λ j. moved_by sh x p 1 v.y (corner_of sh x l j))
        (λ j. moved_by sh x p 2 v.z (corner_of sh x l j))
    setting b e =
        let zi : z ≡ corners_in sh x l - 1 = omega (arith, corners_is) in
        let up = sum_up l sh.loops (corners_of sh x f) li.1 in
        record {
          points = p;
          sound = g.sound;
          supply = supply;
          fresh = fresh;
          lap = subst (λ m. Lap sh (own sh x) l m (corner_of sh x l)) zi lap;
          l_in = li;
          l_used = l_used;
          range = λ j u. range j (omega (arith, u, zi));
          edges = omega (arith, e, corners_up, up);
          others = omega (arith, e, corners_up, up);
        }

  -- ---- all loops

  -- a loop that is lifted stays so while a later one is swept
  lifted_on : (l m : ℕ) → In sh.loops l → own sh x Face l ≡ f → In sh.loops m → own sh x Face m ≡ f → l ≢ m
      → (y y' : List ℕ) {q q' : List ℤ} → Keeps sh (own sh y) q (own sh y') q' (λ n. n ≢ m)
      → LiftedAt sh x p f v l (own sh y) q → LiftedAt sh x p f v l (own sh y') q'
  lifted_on l m li lf mi mf ne y y' k d = lifted_keeps k ne (λ j u.
      let h = corner_rank (setting l li lf (corners_to sh x f (l - 1)) refl) j u in (
        λ e. l_used m mi mf (ap (own sh x Face) (sym e) ∙ fresh.loops _ (omega arith) h),
        supply.loop_in _ h,
        supply.face_in_lem _ h,
      )) d

  -- the sweep of loop j + 1, if it lies in the face
  step : (j : ℕ) → 0 ≤ j → j < 0 + sh.loops → (y : List ℕ) (q : List ℤ) → Good sh y q → Midway sh x p f v j y q
      → Reach sh (LeastNew sh) (ops_of sh x p f v j) y q (Midway sh x p f v (suc j))
  step j _ b y q gy h = split (own sh x Face (suc j)) f
      (λ e.
      let li : In sh.loops (suc j) = (omega arith, omega arith) in
      let e0 : j ≡ suc j - 1 = omega arith in
      let more : corners_to sh x f (suc j) ≡ corners_to sh x f j + suc (corners_in sh x (suc j) - 1) =
      omega (arith, ap (corners_to sh x f) e0, corners_up (suc j) li e) in
      rw (eqb_same e) (reach_map {P = Midway sh x p f v (suc j)}
      (loop_reach (setting (suc j) li e (corners_to sh x f j) (ap (corners_to sh x f) e0)) gy h.keeps (inl (omega
      arith)) h.fresh h.taking h.grew)
      (λ y' q' g' d. record {
        keeps = keeps_less (keeps_then h.keeps d.1.keeps) (λ m o. (
          ⊎_elim (λ a. inl (omega arith)) (λ a. inr a) o,
          ⊎_elim (λ a w. omega (arith, a, w)) (λ a w. a (ap (own sh x Face) w ∙ e)) o,
        ));
        lifted = λ l i u k. split l (suc j)
            (λ w. subst (λ m. LiftedAt sh x p f v m (own sh y') q') (sym w) (rw (← e0) d.0))
            (λ w. lifted_on l (suc j) i k li e w y y' d.1.keeps (h.lifted l i (omega arith) k));
        fresh = rw more d.1.fresh;
        taking = rw more d.1.taking;
        grew = rw more d.1.grew;
      })))
      (λ e.
      let more : corners_to sh x f j ≡ corners_to sh x f (suc j) =
      omega (arith, sum_suc j (corners_of sh x f), corners_no sh x f (suc j) e) in
      rw (eqb_other e) (reach_none {P = Midway sh x p f v (suc j)} gy (record {
        keeps = keeps_less h.keeps (λ m o. ⊎_elim (λ a. inl (omega arith)) (λ a. inr a) o);
        lifted = λ l i u k.
            let w : l ≢ suc j = λ a. e (ap (own sh x Face) (sym a) ∙ k) in
            h.lifted l i (omega arith) k;
        fresh = rw (← more) h.fresh;
        taking = rw (← more) h.taking;
        grew = rw (← more) h.grew;
      })))

  -- none yet
  begin : Midway sh x p f v 0 x p
  unfolding sum_to
  begin = record {
    keeps = keeps_all sh (own sh x) p _;
    lifted = λ l i u. absurd (omega (arith, i.0, u));
    fresh = fresh;
    taking = taking_none sh (own sh x) (free_names sh x);
    grew = grew_none sh (own sh x);
  }

  -- SWEEP IS ACCEPTED WHOLE
  pub sweep_reach : Reach sh (LeastNew sh) (sweep_ops sh x p f v) x p (Midway sh x p f v sh.loops)
  unfolding sweep_ops
  sweep_reach = reach_map {Q = Midway sh x p f v (0 + sh.loops)} {P = Midway sh x p f v sh.loops}
      (reach_joined (ops_of sh x p f v) (Midway sh x p f v) 0 sh.loops step g begin)
      (λ y q g' h. subst (λ m. Midway sh x p f v m y q) (zero-add sh.loops) h)

  -- NEW NUMBERS THE LEAST FREE: each operator of the sweep names the least that are free in the table that it meets
  pub names_least : Each sh (LeastNew sh) (sweep_ops sh x p f v) x
  names_least = sweep_reach.each
