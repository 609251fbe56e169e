-- THE CALL: what a sweep leaves of all that is lent, and the promises about it.
use Rattle.std.specs.Prelude.{◌≡◌, ◌≢◌, ◌⊎◌, List, ℕ, ◌+◌, ◌*◌, ◌≤◌, ℤ, length}
use Rattle.std.proofs.Math.Path.{refl, ap}
use Rattle.std.proofs.Common.{sym, ◌∙◌, inl, inr, ⊎_elim, arith}
use Rattle.laws.specs.Bools.{split, eqb_same, eqb_other}
use Rattle.script.specs.declared.Operator.{Operator}
use Rattle.script.specs.Operator.{write_script}
use Rattle.layout.specs.Layout.{shape_of}
use Rattle.table.specs.Check.{check_of}
use Rattle.runs.specs.Run.{Leaves, leaves, entry, run_of}
use Rattle.sessions.specs.declared.Session.{Session}
use Rattle.sessions.specs.declared.Left.{Left}
use Rattle.chains.specs.declared.DoneAnswer.{DoneAnswer}
use Rattle.sessions.specs.Session.{session_run}
use Rattle.sessions.specs.Editing.{Editing, log_state, logged, run_in, ran_from}
use Rattle.promises.specs.Checked.{good_checked}
use Rattle.promises.specs.Sessions.{with_redo_start}
use Rattle.inversion.specs.Rebuild.{Builds}
use Rattle.chains.specs.Series.{Each, Reach}
use Rattle.chains.specs.Least.{LeastNew}
use Rattle.chains.specs.Runs.{room_for, room_taken}
use Rattle.chains.specs.Whole.{whole_of, whole_in, whole_from, early, UndoneTo, whole_unchanged, whole_answered}
use Rattle.chains.specs.Whole.{whole_run}
use Rattle.chains.specs.Whole.{whole_any_redo}
use Rattle.chains.specs.Whole.{whole_all, whole_undone}
use Rattle.sweeps.specs.declared.Vector.{Vector}
use Rattle.sweeps.specs.Sweep.{vector, corners_to, sweep_ops, sweep_refusal}
use Rattle.sweeps.specs.Run.{sweep_accepted, sweep_many, sweep_any, sweep_good, sweep_able, sweep_plain}
use Rattle.sweeps.specs.Accepted.{Midway, sweep_reach, names_least}
use Rattle.sweeps.specs.Refused.{RefusedAs, refused_as}
use Rattle.sweeps.specs.Result.{SweptFace, sweep_sides}

-- SWEEP: refusals 1 and 2 as in a run, then those of `sweep_refusal`, then the run of the operators' script
abbrev pub sweep_of : List ℕ → List ℤ → List ℕ → ℕ → Session → ℕ → Vector → Leaves (Left DoneAnswer)
sweep_of x p log redo s f v =
    whole_of x p log redo s (sweep_refusal (shape_of x) x p s.log f v) (sweep_ops (shape_of x) x p f v)

-- the same as a contract: what goes in, the answer with the session, what is left
abbrev pub Sweeps : List ℕ → List ℤ → List ℕ → ℕ → Session → ℕ → ℤ → ℤ → ℤ → Left DoneAnswer → List ℕ → List ℤ → List ℕ
    → Type 0
Sweeps x p log redo s f dx dy dz r x' p' log' = leaves r x' p' log' ≡ sweep_of x p log redo s f (vector dx dy dz)

-- on what is lent
abbrev pub refusal_in : Editing → ℕ → Vector → ℕ
refusal_in e f v = sweep_refusal (shape_of e.links) e.links e.points e.session.log f v

abbrev pub ops_in : Editing → ℕ → Vector → List Operator
ops_in e f v = sweep_ops (shape_of e.links) e.links e.points f v

abbrev pub sweep_in : Editing → ℕ → Vector → Leaves (Left DoneAnswer)
sweep_in e f v = whole_in e (refusal_in e f v) (ops_in e f v)

abbrev pub swept_from : Editing → ℕ → Vector → Editing
swept_from e f v = whole_from e (refusal_in e f v) (ops_in e f v)

-- its corners
abbrev pub corners_lent : Editing → ℕ → ℕ
corners_lent e f = corners_to (shape_of e.links) e.links f (shape_of e.links).loops

module _ (e : Editing) (f : ℕ) (v : Vector) where
  -- 0 is answered only where nothing is refused before
  pub sweep_answered : (sweep_in e f v).answer.answer.refusal ≡ 0
      → ((entry (log_state e)).refusal ≡ 0) × (refusal_in e f v ≡ 0)
  sweep_answered = whole_answered e (refusal_in e f v) (ops_in e f v)

  module _ (ok : (entry (log_state e)).refusal ≡ 0) (free : refusal_in e f v ≡ 0) where
    -- where its operators lead
    abbrev pub reached : Reach (shape_of e.links) (LeastNew (shape_of e.links)) (ops_in e f v) e.links e.points
        (Midway (shape_of e.links) e.links e.points f v (shape_of e.links).loops)
    reached = sweep_reach (sweep_good (log_state e) f v ok free) (sweep_able (log_state e) f v ok free)

    -- the run of its script answers 0, all operators and the whole length
    built : Builds reached.links reached.points (length (ops_in e f v)) (length (write_script (ops_in e f v)))
        (run_of (log_state e) (write_script (ops_in e f v)))
    built = sweep_accepted (log_state e) f v ok free

    all : ((sweep_in e f v).answer.answer.refusal ≡ 0) × ((sweep_in e f v).answer.answer.done ≡ length (ops_in e f v))
        × ((sweep_in e f v).links ≡ reached.links) × ((sweep_in e f v).points ≡ reached.points)
    all = whole_all e (refusal_in e f v) (ops_in e f v) ok free built

  -- nothing is refused on the way
  done_all : early e (refusal_in e f v) ≡ 0 → (sweep_in e f v).answer.answer.refusal ≡ 0
  done_all = split (entry (log_state e)).refusal 0 (λ a. rw (eqb_same a) (λ b. (all a b).0))
      (λ a. rw (eqb_other a) (λ b. absurd (a b)))

  -- THE ANSWER: what is refused before anything is done, and nothing else
  pub sweep_answers : (sweep_in e f v).answer.answer.refusal ≡ early e (refusal_in e f v)
  sweep_answers = split (early e (refusal_in e f v)) 0 (λ z. done_all z ∙ sym z)
      (λ n. (whole_unchanged e (refusal_in e f v) (ops_in e f v) n).0)

  -- DONE WHOLE OR NOT AT ALL: a refusal leaves every byte that is lent
  pub sweep_unchanged : (sweep_in e f v).answer.answer.refusal ≢ 0
      → ((sweep_in e f v).answer.answer.refusal ≡ early e (refusal_in e f v))
      × ((sweep_in e f v).answer.answer.done ≡ 0) × (swept_from e f v ≡ e)
  sweep_unchanged n = whole_unchanged e (refusal_in e f v) (ops_in e f v) (λ z. n (done_all z))

  -- THE REFUSAL IS DUE: after 1 and 2, each of the others where the table says so and never otherwise
  pub sweep_refused : RefusedAs (shape_of e.links) e.links e.points e.session.log f v (refusal_in e f v)
  sweep_refused = refused_as (shape_of e.links) e.links e.points e.session.log f v

  -- the redo log's start is ignored
  pub sweep_any_redo : (k : ℕ) → let w = sweep_in (with_redo_start e k) f v in
      (w.answer.answer ≡ (sweep_in e f v).answer.answer) × (w.links ≡ (sweep_in e f v).links)
      × (w.points ≡ (sweep_in e f v).points) × (w.log ≡ (sweep_in e f v).log)
      × (w.answer.session.log ≡ (sweep_in e f v).answer.session.log)
  sweep_any_redo = whole_any_redo e (refusal_in e f v) (ops_in e f v)

  module _ (h : (sweep_in e f v).answer.answer.refusal ≡ 0) where
    ok : (entry (log_state e)).refusal ≡ 0
    ok = (sweep_answered h).0

    free : refusal_in e f v ≡ 0
    free = (sweep_answered h).1

    -- 0 means all: two operators for each corner, and it leaves what the run of their script leaves
    pub sweep_whole : ((sweep_in e f v).answer.answer.done ≡ 2 * corners_lent e f)
        × (length (ops_in e f v) ≡ 2 * corners_lent e f) × (1 ≤ corners_lent e f)
        × (swept_from e f v ≡ ran_from e (write_script (ops_in e f v)))
    unfolding session_run
    sweep_whole =
        let m = sweep_many (log_state e) f v ok free in (
          (all ok free).1 ∙ m,
          m,
          sweep_any (log_state e) f v ok free,
          ap (λ (r : Leaves (Left DoneAnswer)). logged e r.answer.session r)
              (whole_run e (refusal_in e f v) (ops_in e f v) ok free),
        )

    -- which accepts every one of them
    pub sweep_run : ((run_in e (write_script (ops_in e f v))).answer.answer.refusal ≡ 0)
        × ((run_in e (write_script (ops_in e f v))).answer.answer.done ≡ length (ops_in e f v))
        × ((run_in e (write_script (ops_in e f v))).answer.answer.used ≡ length (write_script (ops_in e f v)))
    unfolding session_run
    sweep_run = let b = built ok free in (b.refusal, b.done_is, b.used_is)

    -- 9 IS EXACT: the log's start has moved down by just the bytes that were asked for
    pub sweep_room : (swept_from e f v).session.log
        + room_for (shape_of e.links) e.links e.points (ops_in e f v) ≡ e.session.log
    unfolding session_run
    sweep_room =
        let g = sweep_good (log_state e) f v ok free in
        let r = sweep_able (log_state e) f v ok free in
        rw sweep_whole.3 (room_taken (log_state e) ok g (sweep_reach g r).path
        (sweep_plain (shape_of e.links) e.links e.points f v) e.links e.points r.room)

    -- the redo log is emptied
    pub sweep_empties : (swept_from e f v).session.redo ≡ length e.redo
    unfolding session_run
    sweep_empties =
        let w = sweep_whole in
        let d : (run_in e (write_script (ops_in e f v))).answer.answer.done ≢ 0 =
        λ z. omega (arith, z, sweep_run.1, w.1, w.2) in
        ap (λ (t : Editing). t.session.redo) w.3 ∙ rw (eqb_other d) refl

    -- UNDOING ITS OPERATORS GIVES THE EARLIER TABLE, if the redo log is as long as their script, or has 19 bytes for
    -- each; its start may be any
    pub sweep_undone : (length (write_script (ops_in e f v)) ≤ length e.redo)
        ⊎ (19 * (sweep_in e f v).answer.answer.done ≤ length e.redo)
        → UndoneTo e (swept_from e f v) (sweep_in e f v).answer.answer.done
    sweep_undone b = whole_undone e (refusal_in e f v) (ops_in e f v) ok free (built ok free)
        (λ z. absurd (omega (arith, z, sweep_many (log_state e) f v ok free, sweep_any (log_state e) f v ok free)))
        (⊎_elim (λ a. inl a) (λ a. inr (omega (arith, a, (all ok free).1))) b)

    -- ---- the table that it leaves

    -- WHAT IT LOOKS LIKE: sides, lifted loops, points, and what stays (`SweptFace`)
    pub sweep_left : SweptFace (shape_of e.links) e.links e.points f v (swept_from e f v).links
        (swept_from e f v).points
    sweep_left =
        let a = all ok free in
        rw (a.2, a.3) (sweep_sides (sweep_good (log_state e) f v ok free) (sweep_able (log_state e) f v ok free))

    -- EACH NEW NUMBER IS THE LEAST THAT IS FREE as the operators go
    pub sweep_least : Each (shape_of e.links) (LeastNew (shape_of e.links)) (ops_in e f v) e.links
    sweep_least = names_least (sweep_good (log_state e) f v ok free) (sweep_able (log_state e) f v ok free)

    -- it passes the check
    pub sweep_sound : (check_of (swept_from e f v).links (swept_from e f v).points).refusal ≡ 0
    sweep_sound = let a = all ok free in rw (a.2, a.3, good_checked (reached ok free).good) refl
