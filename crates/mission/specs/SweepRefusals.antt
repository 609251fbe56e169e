-- Which numbers a sweep answers (document 02, job 7), for every input.
use Rattle.std.specs.Prelude.{◌≡◌, refl, ◌≢◌, ◌&&◌, List, [], ◌∷◌, ℕ, zero, suc, ◌+◌, ◌*◌, eqb, leb, ltb, ℤ, length}
use Rattle.std.proofs.Common.{arith}
use Rattle.laws.specs.Bools.{pick_ind, split, eqb_same, eqb_other}
use Rattle.laws.specs.Every.{every}
use Rattle.laws.specs.Search.{all_to, any_to}
use Rattle.script.specs.Operator.{write_script}
use Rattle.layout.specs.declared.shape.Shape.{Shape}
use Rattle.layout.specs.Layout.{face_solid}
use Rattle.layout.specs.Items.{some}
use Rattle.table.specs.declared.check.CheckAnswer.{CheckAnswer}
use Rattle.runs.specs.Run.{State, Ran, read_at, run_refusal, stepped, run_from, entry, run_of}
use Rattle.runs.specs.Clauses.{run_in_lem}
use Rattle.sessions.specs.Session.{session_run}
use Rattle.sessions.specs.Editing.{Editing, log_state}
use Rattle.chains.specs.Runs.{room_for}
use Rattle.chains.specs.Whole.{whole_of}
use Rattle.sweeps.specs.declared.Vector.{Vector}
use Rattle.sweeps.specs.Sweep.{corners_to, lone_in, moves, spare, sweep_ops, sweep_refusal}
use Rattle.sweeps.specs.Run.{sweep_accepted}
use Rattle.sweeps.specs.Swept.{refusal_in, ops_in, sweep_in, sweep_unchanged}
use Rattle.mission.specs.Refusals.{OneOf, Named, wider, checks, entry_numbered, rule_named}

-- 0, 1 and 2 as at every entry; 5, 6, 14, 10 and 9
abbrev sweeps : List ℕ
sweeps = 0 ∷ 1 ∷ 2 ∷ 5 ∷ 6 ∷ 9 ∷ 10 ∷ 14 ∷ []

-- what is refused of a face
face_numbered : (sh : Shape) (x : List ℕ) (p : List ℤ) (start f : ℕ) (v : Vector)
    → OneOf sweeps (sweep_refusal sh x p start f v)
unfolding sweep_refusal
face_numbered sh x p start f v =
    pick_ind P (some f && leb f sh.faces) _ _
    (pick_ind P (some (face_solid sh x f)) _ _
    (pick_ind P (any_to sh.loops (lone_in sh x f)) _ _ tt
    (pick_ind P (all_to (2 * sh.edges) (moves sh x p f v)) _ _
    (pick_ind P (every (spare sh x (corners_to sh x f sh.loops))) _ _
    (pick_ind P (leb (room_for sh x p (sweep_ops sh x p f v)) start) _ _ tt tt) tt) tt)) tt) tt
  where
    P : ℕ → Type 0
    P = OneOf sweeps

-- all that a sweep answers
pub sweep_numbered : (e : Editing) (f : ℕ) (v : Vector) → OneOf sweeps (sweep_in e f v).answer.answer.refusal
sweep_numbered e f v = split (sweep_in e f v).answer.answer.refusal 0
    (λ z. rw z tt)
    (λ d. rw (sweep_unchanged e f v d).0 (pick_ind (OneOf sweeps) (eqb (entry (log_state e)).refusal 0) _ _
    (face_numbered _ e.links e.points e.session.log f v)
    (wider checks sweeps tt (entry (log_state e)).refusal (entry_numbered (log_state e)))))

-- ---- and with 2 the rule

-- the way in names it
entry_named : (e : Editing) → Named (entry (log_state e)).refusal (entry (log_state e)).rule
unfolding entry
entry_named e =
    pick_ind (λ (a : CheckAnswer). Named a.refusal a.rule) (leb e.session.log (length e.log)) _ _
    (rule_named e.links e.points) (record { broken = λ z. absurd (omega (arith, z)); none = λ z. refl })

-- a run that is let in names none
run_unruled : (n : ℕ) (sh : Shape) (s : List ℕ) (at done : ℕ) (t : State) → (run_from n sh s at done t).answer.rule ≡ 0
unfolding run_from
run_unruled zero sh s at done t = refl
run_unruled (suc n) sh s at done t =
    pick_ind (λ (r : Ran). r.answer.rule ≡ 0) (ltb at (length s)) _ _
    (pick_ind (λ (r : Ran). r.answer.rule ≡ 0) (eqb (run_refusal sh t s at) 0) _ _
    (run_unruled n sh s (read_at sh s at).next (done + 1) (stepped sh t (read_at sh s at).op)) refl) refl

-- a refusal of the face is not 2
face_not_2 : (sh : Shape) (x : List ℕ) (p : List ℤ) (start f : ℕ) (v : Vector) → sweep_refusal sh x p start f v ≢ 2
unfolding sweep_refusal
face_not_2 sh x p start f v =
    pick_ind P (some f && leb f sh.faces) _ _
    (pick_ind P (some (face_solid sh x f)) _ _
    (pick_ind P (any_to sh.loops (lone_in sh x f)) _ _ (λ e. omega (arith, e))
    (pick_ind P (all_to (2 * sh.edges) (moves sh x p f v)) _ _
    (pick_ind P (every (spare sh x (corners_to sh x f sh.loops))) _ _
    (pick_ind P (leb (room_for sh x p (sweep_ops sh x p f v)) start) _ _ (λ e. omega (arith, e))
    (λ e. omega (arith, e)))
    (λ e. omega (arith, e))) (λ e. omega (arith, e)))) (λ e. omega (arith, e))) (λ e. omega (arith, e))
  where
    P : ℕ → Type 0
    P n = n ≢ 2

-- of a sweep
pub sweep_named : (e : Editing) (f : ℕ) (v : Vector)
    → Named (sweep_in e f v).answer.answer.refusal (sweep_in e f v).answer.answer.rule
unfolding whole_of session_run
sweep_named e f v = split (entry (log_state e)).refusal 0
    (λ a. rw (eqb_same a) (split (refusal_in e f v) 0
    (λ b.
    let r = run_of (log_state e) (write_script (ops_in e f v)) in
    let z : r.answer.rule ≡ 0 = rw (run_in_lem (log_state e) (write_script (ops_in e f v)) a)
    (run_unruled _ _ (write_script (ops_in e f v)) 0 0 (log_state e)) in
    let o = sweep_run_0 a b in
    rw (eqb_same b, z) (record { broken = λ y. absurd (omega (arith, y, o)); none = λ y. refl }))
    (λ b. rw (eqb_other b) (record {
      broken = λ y. absurd (face_not_2 _ e.links e.points e.session.log f v y);
      none = λ y. refl;
    }))))
    (λ a. rw (eqb_other a) (entry_named e))
  where
    sweep_run_0 : (entry (log_state e)).refusal ≡ 0 → refusal_in e f v ≡ 0
        → (run_of (log_state e) (write_script (ops_in e f v))).answer.refusal ≡ 0
    sweep_run_0 a b = (sweep_accepted (log_state e) f v a b).refusal
