-- The clauses of a run and of a move as equations.
use Rattle.std.specs.Prelude.{◌≡◌, refl, ◌≢◌, Bool, true, false, List, ℕ, suc, ◌+◌, ◌≤◌, ◌<◌, eqb, ltb, length}
use Rattle.std.proofs.Common.{ap, ◌∙◌, ⊎_elim, arith, le-leb}
use Rattle.std.proofs.lemmas.Bool.{lt-leb}
use Rattle.laws.specs.Bools.{pick, le?, eqb_same, eqb_other}
use Rattle.layout.specs.declared.shape.Shape.{Shape}
use Rattle.layout.specs.Layout.{shape_of}
use Rattle.table.specs.Check.{check_of}
use Rattle.runs.specs.Run.{State, read_at, run_refusal, stepped, ran, run_from, not_run, entry, run_of}
use Rattle.runs.specs.Move.{moved_by, not_part, part_of, not_moved, move_of, move_entry}

-- what holds of each value where its test says so holds of the one taken
pub pick_by : {X : Type 0} (P : X → Type 0) (b : Bool) (u w : X) → (b ≡ true → P u) → (b ≡ false → P w) → P (pick b u w)
pick_by P true u w f g = f refl
pick_by P false u w f g = g refl

-- a run of no operators
pub run_none : (sh : Shape) (s : List ℕ) (at done : ℕ) (t : State) → run_from 0 sh s at done t ≡ ran 0 done at t
unfolding run_from
run_none sh s at done t = refl

-- a run of at most one more
pub run_some : (n : ℕ) (sh : Shape) (s : List ℕ) (at done : ℕ) (t : State) → run_from (suc n) sh s at done t
    ≡ pick (ltb at (length s))
    (pick (eqb (run_refusal sh t s at) 0)
    (run_from n sh s (read_at sh s at).next (done + 1) (stepped sh t (read_at sh s at).op))
    (ran (run_refusal sh t s at) done at t))
    (ran 0 done at t)
unfolding run_from
run_some n sh s at done t = refl

-- ---- who is let in

-- a run that is let in
pub run_in_lem : (t : State) (s : List ℕ) → (entry t).refusal ≡ 0
    → run_of t s ≡ run_from (length s) (shape_of t.links) s 0 0 t
unfolding run_of
run_in_lem t s h = rw (eqb_same h)

-- and one that is not
pub run_out : (t : State) (s : List ℕ) → (entry t).refusal ≢ 0 → run_of t s ≡ not_run (entry t).refusal (entry t).rule t
unfolding run_of
run_out t s h = rw (eqb_other h)

-- a start beyond the log is refused with 1
pub entry_beyond : (t : State) → length t.log < t.start → entry t ≡ record { refusal = 1; rule = 0 }
unfolding entry
entry_beyond t h = rw (lt-leb t.start (length t.log) h)

-- a start that is not leaves it to the check
entry_checked : (t : State) → t.start ≤ length t.log → (entry t).refusal ≡ 0
    → (check_of t.links t.points).refusal ≡ 0
unfolding entry
entry_checked t l h = rw (le-leb t.start (length t.log) l) at h

-- what is let in has its start not beyond the log, and passes the check
pub entry_passed : (t : State) → (entry t).refusal ≡ 0 → (t.start ≤ length t.log)
    × ((check_of t.links t.points).refusal ≡ 0)
entry_passed t h =
    ⊎_elim (λ l. (l, entry_checked t l h)) (λ l. absurd (let z : ◌≡◌ {A = ℕ} 1 0 = rw (entry_beyond t l) at h in
    omega arith)) (le? t.start (length t.log))

-- ---- moves

-- a part of a script is run where it is let in
part_in : (t : State) (s : List ℕ) (from n : ℕ) → (entry t).refusal ≡ 0
    → part_of t s from n ≡ run_from n (shape_of t.links) s from 0 t
unfolding part_of
part_in t s from n h = rw (eqb_same h)

-- and not where it is not
part_out : (t : State) (s : List ℕ) (from n : ℕ) → (entry t).refusal ≢ 0
    → part_of t s from n ≡ not_part (entry t).refusal (entry t).rule from t
unfolding part_of
part_out t s from n h = rw (eqb_other h)

-- the whole of it is a run
pub part_whole : (t : State) (s : List ℕ) → part_of t s 0 (length s) ≡ run_of t s
unfolding part_of run_of
part_whole t s = refl

module _ (source : List ℕ) (from : ℕ) (t : State) where
  -- a source start beyond the source is refused with 1
  pub move_beyond : length source < from → move_entry source from t ≡ record { refusal = 1; rule = 0 }
  unfolding move_entry
  move_beyond h = rw (lt-leb from (length source) h)

  pub moved_beyond : (n : ℕ) → length source < from → move_of source from t n ≡ not_moved 1 0 from t
  unfolding move_of
  moved_beyond n h = rw (lt-leb from (length source) h)

  -- one that is not leaves it to the destination's start and the check
  pub move_within : from ≤ length source → move_entry source from t ≡ entry t
  unfolding move_entry
  move_within h = rw (le-leb from (length source) h)

  pub moved_within : (n : ℕ) → from ≤ length source → move_of source from t n ≡ moved_by n (part_of t source from n)
  unfolding move_of
  moved_within n h = rw (le-leb from (length source) h)

  -- what is let in has its start within the source, and would be let in to a run
  pub move_passed : (move_entry source from t).refusal ≡ 0 → (from ≤ length source) × ((entry t).refusal ≡ 0)
  move_passed h =
      ⊎_elim (λ l. (l, rw (move_within l) at h)) (λ l. absurd (let z : ◌≡◌ {A = ℕ} 1 0 = rw (move_beyond l) at h in
      omega arith)) (le? from (length source))

  -- a move that is let in
  pub move_in : (n : ℕ) → (move_entry source from t).refusal ≡ 0
      → move_of source from t n ≡ moved_by n (run_from n (shape_of t.links) source from 0 t)
  move_in n h =
      let p = move_passed h in moved_within n p.0 ∙ ap (moved_by n) (part_in t source from n p.1)

  -- and one that is not
  pub move_out : (n : ℕ) → (move_entry source from t).refusal ≢ 0
      → move_of source from t n ≡ not_moved (move_entry source from t).refusal (move_entry source from t).rule from t
  move_out n d =
      ⊎_elim
      (λ l.
      let e = move_within l in
      let d' : (entry t).refusal ≢ 0 = rw e at d in
      moved_within n l ∙ ap (moved_by n) (part_out t source from n d') ∙ rw (e, eqb_other d'))
      (λ l. moved_beyond n l ∙ rw (move_beyond l))
      (le? from (length source))
