-- What is logged is in shortest form (document 02, job 1, "writing keeps the shortest"), whatever stood in the log
-- before: by runs and redo in the log, by undo in the redo log. So a live log that was shortest stays so.
use Rattle.std.specs.Prelude.{◌≡◌, refl, true, List, [], ◌++◌, ℕ, ◌-◌, ℤ, length, take, drop}
use Rattle.std.proofs.Common.{ap, ◌∙◌, ⊎_elim, append_assoc, append-nil, arith}
use Rattle.std.proofs.Math.Seq.{take-append_seam}
use Rattle.laws.specs.Bools.{le?, split}
use Rattle.numbers.specs.Padded.{shortest}
use Rattle.script.specs.Operator.{operator_bytes}
use Rattle.script.specs.Scripts.{operator_shortest}
use Rattle.layout.specs.declared.shape.Shape.{Shape}
use Rattle.table.specs.Check.{check_of}
use Rattle.sound_tables.specs.Accepted.{accepted}
use Rattle.sound_operators.specs.Theorems.{all_hold}
use Rattle.euler.specs.Exec.{links_after, inverse}
use Rattle.runs.specs.Run.{State}
use Rattle.runs.specs.Move.{move_of, move_entry}
use Rattle.runs.specs.Clauses.{entry_passed, move_passed, move_out}
use Rattle.promises.specs.RunAll.{run_all}
use Rattle.euler.specs.Inverses.{inverse_eight}
use Rattle.promises.specs.Reading.{range_writable}
use Rattle.promises.specs.Checked.{good_within}
use Rattle.promises.specs.Trail.{Trail, none, more, Gone, gone_live}
use Rattle.promises.specs.Moves.{moved_to, gone_after}
use Rattle.promises.specs.Promises.{all_beyond, all_gone}

-- the live part of a log
abbrev pub live : State → List ℕ
live t = drop t.start t.log

-- the bytes that lie in front of the start of t and are live in u
abbrev pub written : State → State → List ℕ
written t u = take (t.start - u.start) (live u)

-- written inverses in front of shortest bytes
trail_shortest : {sh : Shape} {x₀ : List ℕ} {p₀ : List ℤ} {n : ℕ} {w q x : List ℕ} {p : List ℤ}
    → Trail sh x₀ p₀ n w q x p → (b : List ℕ) → shortest b ≡ true → shortest (q ++ b) ≡ true
trail_shortest (none ew eq ex ep) b e = rw eq e
trail_shortest {sh} (more o v r y k t g len acc ew eq ex ep) b e =
    let i = inverse sh y k o in
    let a = accepted sh (links_after sh y o) i (all_hold sh y k o g len acc).1.accepted in
    rw (eq, append_assoc (operator_bytes i) r b)
    (operator_shortest i (range_writable (good_within g) i (inverse_eight sh y k o) a) (r ++ b) (trail_shortest t b e))

-- what was done keeps the live log shortest
gone_shortest : {sh : Shape} {t₀ t : State} {n : ℕ} {w : List ℕ} → Gone sh t₀ n w t → shortest (live t₀) ≡ true
    → shortest (live t) ≡ true
gone_shortest {t₀} g e = rw (gone_live g) (trail_shortest g.trail (live t₀) e)

-- what was done is written in shortest form
gone_written : {sh : Shape} {t₀ t : State} {n : ℕ} {w : List ℕ} → Gone sh t₀ n w t
    → shortest (written t₀ t) ≡ true
unfolding shortest
gone_written {t₀ = t₀} {t = t} g =
    let k : t₀.start - t.start ≡ length g.logged = omega (arith, g.start, g.room) in
    let s : written t₀ t ≡ g.logged = ap (λ m. take m (live t)) k ∙ ap (take (length g.logged)) (gone_live g)
    ∙ take-append_seam g.logged (live t₀) in
    rw s (rw (append-nil g.logged) at (trail_shortest g.trail [] refl))

-- where the start has not moved nothing was written
unmoved_written : (t : State) → shortest (written t t) ≡ true
unfolding shortest
unmoved_written t = let z : t.start - t.start ≡ 0 = omega arith in rw z refl

-- WHAT RUNS WRITE IS SHORTEST, whatever the log held: of a table that passes the check, any list of scripts
pub runs_written : (t : State) (ss : List (List ℕ)) → (check_of t.links t.points).refusal ≡ 0
    → shortest (written t (run_all t ss).last) ≡ true
runs_written t ss sound =
    ⊎_elim (λ h. gone_written (all_gone t ss sound h)) (λ h. rw (all_beyond t ss h) (unmoved_written t))
    (le? t.start (length t.log))

-- AND SO IS WHAT A MOVE WRITES: undo into the redo log, redo into the log
pub move_written : (source : List ℕ) (from : ℕ) (t : State) (n : ℕ) → (check_of t.links t.points).refusal ≡ 0
    → shortest (written t (moved_to (move_of source from t n))) ≡ true
move_written source from t n sound = split (move_entry source from t).refusal 0
    (λ h.
    let p = move_passed source from t h in
    gone_written (gone_after source from t n sound p.0 (entry_passed t p.1).0))
    (λ d. rw (move_out source from t n d) (unmoved_written t))

-- SO A SHORTEST LOG STAYS SO: of a table that passes the check, any list of scripts, refused runs included
pub log_shortest : (t : State) (ss : List (List ℕ)) → (check_of t.links t.points).refusal ≡ 0
    → shortest (live t) ≡ true → shortest (live (run_all t ss).last) ≡ true
log_shortest t ss sound e =
    ⊎_elim (λ h. gone_shortest (all_gone t ss sound h) e) (λ h. rw (all_beyond t ss h) e)
    (le? t.start (length t.log))

-- and the log that a move writes into
pub move_shortest : (source : List ℕ) (from : ℕ) (t : State) (n : ℕ) → (check_of t.links t.points).refusal ≡ 0
    → shortest (live t) ≡ true → shortest (live (moved_to (move_of source from t n))) ≡ true
move_shortest source from t n sound e = split (move_entry source from t).refusal 0
    (λ h.
    let p = move_passed source from t h in
    gone_shortest (gone_after source from t n sound p.0 (entry_passed t p.1).0) e)
    (λ d. rw (move_out source from t n d) e)
