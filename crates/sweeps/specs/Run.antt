-- The sweep as a run of its script: it answers 0, all operators and the whole length, and the inverses take as many
-- bytes as are asked for before anything is done.
use Rattle.std.specs.Prelude.{◌≡◌, refl, List, ℕ, zero, suc, ◌+◌, ◌-◌, ◌*◌, ◌≤◌, ◌<◌, eqb, ℤ, length}
use Rattle.std.proofs.Math.Path.{ap}
use Rattle.std.proofs.Common.{zero-add, length-append}
use native.Mathlib.Omega.{arith}
use Rattle.laws.specs.Bools.{pick_ind, eqb_same, eqb_other, split}
use Rattle.script.specs.Operator.{write_script}
use Rattle.layout.specs.declared.shape.Shape.{Shape}
use Rattle.layout.specs.Layout.{shape_of, loop_face}
use Rattle.layout.specs.Fields.{Outer, Face}
use Rattle.laws.specs.Sums.{sum_to}
use Rattle.sound_tables.specs.Sound.{In}
use Rattle.euler.specs.Exec.{inverse}
use Rattle.sound_tables.specs.Good.{own, Good}
use Rattle.runs.specs.Run.{State, entry, run_of}
use Rattle.promises.specs.Checked.{good_within, entered_good}
use Rattle.inversion.specs.Rebuild.{Builds}
use Rattle.chains.specs.Series.{series_length, joined}
use Rattle.chains.specs.Numbers.{free_names}
use Rattle.chains.specs.Runs.{Plain, AllPlain, plain_append, plain_series, plain_joined, room_is, path_run}
use Rattle.sweeps.specs.declared.Vector.{Vector}
use Rattle.sweeps.specs.Sweep.{corners_in, corners_of, corners_to, risers_of, sides_of, ops_of, sweep_ops}
use Rattle.sweeps.specs.Sweep.{sweep_refusal, mev_at, mef_at}
use Rattle.sweeps.specs.Accepted.{Sweepable, sweepable, sweep_reach, corners_some, corners_no, corners_yes}
use Rattle.sweeps.specs.Accepted.{sum_suc, sum_at}

-- ---- room

-- mev and mef are such
mev_plain : (l h e v : ℕ) (x y z : ℤ) → Plain (mev_at l h e v x y z)
unfolding inverse
mev_plain l h e v x y z sh a b p q = refl

mef_plain : (l h1 h2 e f l2 w : ℕ) → Plain (mef_at l h1 h2 e f l2 w)
unfolding inverse
mef_plain l h1 h2 e f l2 w sh a b p q = refl

-- ---- the sweep

module _ (sh : Shape) (x : List ℕ) (p : List ℤ) (f : ℕ) (v : Vector) where
  -- all its operators are such
  sides_plain : (l z b : ℕ) → AllPlain (sides_of (free_names sh x) l z b)
  sides_plain l z b = pick_ind AllPlain (eqb z 0) _ _ (mef_plain _ _ _ _ _ _ _, tt)
      (plain_series _ 0 (suc z) (λ j. mef_plain _ _ _ _ _ _ _))

  ops_plain : (j : ℕ) → AllPlain (ops_of sh x p f v j)
  ops_plain j = pick_ind AllPlain (eqb (loop_face sh x (suc j)) f) _ _
      (plain_append (risers_of sh x p v (suc j) (corners_in sh x (suc j) - 1) (corners_to sh x f j)) _
      (plain_series _ 0 _ (λ i. mev_plain _ _ _ _ _ _ _))
      (sides_plain (suc j) (corners_in sh x (suc j) - 1) (corners_to sh x f j))) tt

  pub sweep_plain : AllPlain (sweep_ops sh x p f v)
  unfolding sweep_ops
  sweep_plain = plain_joined (ops_of sh x p f v) 0 sh.loops ops_plain

-- how many
joined_length : {A : Type 0} (f : ℕ → List A) (w : ℕ → ℕ) (i n : ℕ)
    → ((j : ℕ) → i ≤ j → j < i + n → length (f j) ≡ 2 * w (suc j))
    → length (joined i n f) + 2 * sum_to i w ≡ 2 * sum_to (i + n) w
unfolding joined
joined_length f w i zero h = let e : i + 0 ≡ i = omega arith in rw e (omega arith)
joined_length f w i (suc n) h =
    let e : suc i + n ≡ i + suc n = omega arith in
    let r = joined_length f w (suc i) n (λ j a b. h j (omega arith) (omega arith)) in
    rw (← e) (omega (arith, length-append (f i) (joined (suc i) n f), h i (omega arith) (omega arith), r, sum_suc i w))

module _ {sh : Shape} {x : List ℕ} {p : List ℤ} (g : Good sh x p) {start f : ℕ} {v : Vector} (r : Sweepable sh x p start
    f v) where
  -- a loop's
  ops_length : (j : ℕ) → j < sh.loops → length (ops_of sh x p f v j) ≡ 2 * corners_of sh x f (suc j)
  ops_length j h = split (own sh x Face (suc j)) f
      (λ e.
      let li : In sh.loops (suc j) = (omega arith, h) in
      let ci = corners_some g r (suc j) li e in
      let m = corners_in sh x (suc j) - 1 in
      let a : length (sides_of (free_names sh x) (suc j) m (corners_to sh x f j)) ≡ suc m =
      split m 0 (λ y. rw (eqb_same y) (omega (arith, y))) (λ y. rw (eqb_other y) (series_length 0 (suc m) _)) in
      let b : length (risers_of sh x p v (suc j) m (corners_to sh x f j)) ≡ suc m = series_length 0 (suc m) _ in
      rw (eqb_same e) (omega (
        arith,
        a,
        b,
        ci,
        corners_yes sh x f (suc j) e,
        length-append (risers_of sh x p v (suc j) m (corners_to sh x f j)) (sides_of (free_names sh x) (suc j) m
            (corners_to sh x f j)),
      )))
      (λ e. rw (eqb_other e, corners_no sh x f (suc j) e))

  pub sweep_length : length (sweep_ops sh x p f v) ≡ 2 * corners_to sh x f sh.loops
  unfolding sweep_ops sum_to
  sweep_length =
      let e : sum_to (0 + sh.loops) (corners_of sh x f) ≡ sum_to sh.loops (corners_of sh x f) =
      ap (λ m. sum_to m (corners_of sh x f)) (zero-add sh.loops) in
      omega (
        arith,
        joined_length (ops_of sh x p f v) (corners_of sh x f) 0 sh.loops (λ j a b. ops_length j (omega
            arith)),
        e,
      )

  -- a face has a corner, in its outer loop if nowhere else
  pub sweep_some : 1 ≤ corners_to sh x f sh.loops
  sweep_some =
      let o = g.sound.face f r.face_in_lem r.face_used in
      let l = own sh x Outer f in
      let some = corners_some g r l o.outer_in o.outer_face in
      omega (arith, some, corners_yes sh x f l o.outer_face, sum_at sh.loops (corners_of sh x f) l o.outer_in)

module _ (t : State) (f : ℕ) (v : Vector) (e : (entry t).refusal ≡ 0)
    (h : sweep_refusal (shape_of t.links) t.links t.points t.start f v ≡ 0) where
  -- the table is good
  pub sweep_good : Good (shape_of t.links) t.links t.points
  sweep_good = entered_good t.links t.points t.log t.start (entry t) refl e (shape_of t.links) refl

  -- the face can be swept
  pub sweep_able : Sweepable (shape_of t.links) t.links t.points t.start f v
  sweep_able = sweepable (shape_of t.links) t.links t.points t.start f v h

  -- SWEEP-ACCEPTED: from a table that passes the check, where the sweep is not refused, the run of its script answers
  -- 0, all operators and the script's whole length
  pub sweep_accepted : (let w = sweep_reach sweep_good sweep_able in
      let os = sweep_ops (shape_of t.links) t.links t.points f v in
      Builds w.links w.points (length os) (length (write_script os)) (run_of t (write_script os)))
  sweep_accepted =
      let w = sweep_reach sweep_good sweep_able in
      let m = room_is (good_within sweep_good) t.links t.points w.path
      (sweep_plain (shape_of t.links) t.links t.points f v) in
      path_run t e sweep_good w.path (omega (arith, m, sweep_able.room))

  -- two for each corner
  pub sweep_many : length (sweep_ops (shape_of t.links) t.links t.points f v)
      ≡ 2 * corners_to (shape_of t.links) t.links f (shape_of t.links).loops
  sweep_many = sweep_length sweep_good sweep_able

  -- and there is a corner
  pub sweep_any : 1 ≤ corners_to (shape_of t.links) t.links f (shape_of t.links).loops
  sweep_any = sweep_some sweep_good sweep_able
