-- Scripts run with a session, one after the other: they come to the same as the runs without one, the redo log's bytes
-- stay, and it is emptied by the first operator done.
use Rattle.std.specs.Prelude.{◌≡◌, refl, List, [], ◌∷◌, ◌++◌, ℕ, ◌+◌, ◌-◌, ◌≤◌, eqb, length, take}
use Rattle.std.proofs.Common.{sym, ap, ◌∙◌, append_assoc, append-nil, add-zero, add_assoc, arith, length-append}
use Rattle.std.proofs.Common.{length-take}
use Rattle.laws.specs.Bools.{pick, split, eqb_same, eqb_other}
use Rattle.numbers.specs.Padded.{shorten}
use Rattle.numbers.specs.PaddedLaws.{shorten_between, shorten_length}
use Rattle.layout.specs.declared.shape.Shape.{Shape}
use Rattle.runs.specs.Run.{State, run_from, run_of}
use Rattle.runs.specs.Clauses.{run_in_lem}
use Rattle.sessions.specs.Session.{session_run}
use Rattle.sessions.specs.Editing.{Editing, log_state, run_in, ran_from}
use Rattle.promises.specs.RunAll.{left_by, run_all}
use Rattle.promises.specs.Checked.{good_entry}
use Rattle.promises.specs.Trail.{Gone, gone_start, went}

-- ---- runs one after the other

-- what a list of runs comes to: the sum of the done counts, and what the last one left
pub record Edits : Type 0 where
  pub done : ℕ
  pub last : Editing

-- each script of a list run on what the last left
unfoldable pub edit_all : Editing → List (List ℕ) → Edits
edit_all e [] = record { done = 0; last = e }
edit_all e (s ∷ ss) = record {
  done = (run_in e s).answer.answer.done + (edit_all (ran_from e s) ss).done;
  last = (edit_all (ran_from e s) ss).last;
}

-- the redo log's start behind n operators that runs have done: at its end if there were some
abbrev pub emptied_by : Editing → ℕ → ℕ
emptied_by e n = pick (eqb n 0) e.session.redo (length e.redo)

-- behind m and then n
emptied_twice : (m n start full : ℕ) → pick (eqb n 0) (pick (eqb m 0) start full) full ≡ pick (eqb (m + n) 0) start full
emptied_twice m n start full = split n 0
    (λ z. rw (eqb_same z, z, add-zero m))
    (λ d. let f : m + n ≡ 0 → ⊥ = λ z. d (omega arith) in rw (eqb_other d, eqb_other f))

-- what the runs leave, by the runs without a session
pub record Edited (e : Editing) (ss : List (List ℕ)) : Type 0 where
  pub done : (edit_all e ss).done ≡ (run_all (log_state e) ss).done
  pub state : log_state (edit_all e ss).last ≡ (run_all (log_state e) ss).last
  pub redo : (edit_all e ss).last.redo ≡ e.redo
  pub start : (edit_all e ss).last.session.redo ≡ emptied_by e (run_all (log_state e) ss).done

-- one after the other
pub edited : (e : Editing) (ss : List (List ℕ)) → Edited e ss
unfolding edit_all run_all session_run
edited e [] = record { done = refl; state = refl; redo = refl; start = refl }
edited e (s ∷ ss) =
    let r = edited (ran_from e s) ss in
    let d = (run_of (log_state e) s).answer.done in
    record {
      done = ap (λ (n : ℕ). d + n) r.done;
      state = r.state;
      redo = r.redo;
      start = r.start ∙ emptied_twice d _ e.session.redo (length e.redo);
    }

-- ---- the operators done, as one script

-- their bytes in fewest groups: of each script those used
unfoldable pub done_script : State → List (List ℕ) → List ℕ
done_script t [] = []
done_script t (s ∷ ss) = shorten (take (run_of t s).answer.used s) ++ done_script (left_by (run_of t s)) ss

-- a run adds what it does
pub gone_run : {sh : Shape} {n : ℕ} {w : List ℕ} {t₀ : State} (t : State) (s : List ℕ) → Gone sh t₀ n w t
    → Gone sh t₀ (n + (run_of t s).answer.done) (w ++ shorten (take (run_of t s).answer.used s)) (left_by (run_of t s))
gone_run {sh} {n} {w} {t₀} t s g =
    let h = good_entry t g.good (gone_start g) in
    let e : run_of t s ≡ run_from (length s) sh s 0 0 t = run_in_lem t s (rw h) ∙ rw (← g.good.shape) in
    let r = run_from (length s) sh s 0 0 t in
    let v = went s t₀ (length s) n 0 0 w t g in
    let c : v.count ≡ r.answer.done = omega (arith, v.done) in
    let z : r.answer.used - 0 ≡ r.answer.used = omega arith in
    let b : v.bytes ≡ shorten (take r.answer.used s) = sym (shorten_between v.read) ∙ rw z in
    rw (e, ← c, ← b) v.gone

-- and a list of runs
pub gone_all : {sh : Shape} {n : ℕ} {w : List ℕ} {t₀ : State} (t : State) (ss : List (List ℕ)) → Gone sh t₀ n w t
    → Gone sh t₀ (n + (run_all t ss).done) (w ++ done_script t ss) (run_all t ss).last
unfolding run_all done_script
gone_all {n} {w} t [] g = rw (add-zero n, append-nil w) g
gone_all {n} {w} t (s ∷ ss) g =
    let i = gone_all {n = n + (run_of t s).answer.done} {w = w ++ shorten (take (run_of t s).answer.used s)}
    (left_by (run_of t s)) ss (gone_run t s g) in
    rw (
      ← add_assoc n (run_of t s).answer.done (run_all (left_by (run_of t s)) ss).done,
      ← append_assoc w (shorten (take (run_of t s).answer.used s)) (done_script (left_by (run_of t s)) ss),
    ) i

-- ---- how long that script is

-- the script bytes that the runs took: the sum of what they answer as used
unfoldable pub used_all : State → List (List ℕ) → ℕ
used_all t [] = 0
used_all t (s ∷ ss) = (run_of t s).answer.used + used_all (left_by (run_of t s)) ss

-- IT IS NO LONGER THAN THE BYTES USED
pub room_by_used : (t : State) (ss : List (List ℕ)) → length (done_script t ss) ≤ used_all t ss
unfolding done_script used_all
room_by_used t [] = omega arith
room_by_used t (s ∷ ss) =
    let b : List ℕ = take (run_of t s).answer.used s in
    let l = length-append (shorten b) (done_script (left_by (run_of t s)) ss) in
    let m = shorten_length b in
    let n = length-take (run_of t s).answer.used s in
    omega (arith, l, m, n, room_by_used (left_by (run_of t s)) ss)
