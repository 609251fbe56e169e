-- A sound table stays sound under every call: whatever is asked of it, one act after the other.
use Rattle.std.specs.Prelude.{◌≡◌, List, [], ◌∷◌}
use Rattle.std.proofs.Common.{ap}
use Rattle.laws.specs.Bools.{split}
use Rattle.table.specs.declared.check.CheckAnswer.{CheckAnswer}
use Rattle.table.specs.Check.{check_of}
use Rattle.table.specs.Clear.{clear_of}
use Rattle.sound_tables.specs.ClearSound.{clear_valid}
use Rattle.sessions.specs.Session.{session_clear, session_run, session_undo, session_redo, session_invert}
use Rattle.sessions.specs.Editing.{Editing, log_state, redo_state}
use Rattle.promises.specs.RunAll.{run_all}
use Rattle.promises.specs.Moves.{move_sound}
use Rattle.promises.specs.Promises.{runs_sound}
use Rattle.machine.specs.Machine.{Act, Clear, Check, Count, Read, Write, Run, Undo, Redo, Invert, Obj}
use Rattle.machine.specs.Machine.{does, do_all, last_of, behind}
use Rattle.mission.specs.Refusals.{clear_out}
use Rattle.mission.specs.TakeDown.{invert_sound}

-- the table passes the check
abbrev Sound : Editing → Type 0
Sound t = (check_of t.links t.points).refusal ≡ 0

-- under one act: cleared, or not; run, undone, redone, taken down; or not written to
sound_act : (t : Editing) (a : Act) → Sound t → Sound (does t a).after
unfolding run_all session_clear session_run session_undo session_redo session_invert
sound_act t (Clear s f l e v) h =
    let x = t.links in
    let p = t.points in
    split (clear_of x p s f l e v).answer.refusal 0
    (λ z. ap (λ (c : CheckAnswer). c.refusal) (clear_valid x p s f l e v z))
    (λ d. rw (clear_out x p s f l e v d) h)
sound_act t Check h = h
sound_act t Count h = h
sound_act t (Read s at) h = h
sound_act t (Write o out) h = h
sound_act t (Run s) h = runs_sound (log_state t) (s ∷ []) h
sound_act t (Undo n) h = move_sound t.log t.session.log (redo_state t) n h
sound_act t (Redo n) h = move_sound t.redo t.session.redo (log_state t) n h
sound_act t Invert h = invert_sound (log_state t) h
sound_act t (Obj s out) h = h

-- A SOUND TABLE STAYS SOUND under any list of acts
pub sound_acts : (t : Editing) (acts : List Act) → (check_of t.links t.points).refusal ≡ 0
    → (check_of (behind t acts).links (behind t acts).points).refusal ≡ 0
unfolding do_all last_of
sound_acts t [] h = h
sound_acts t (a ∷ acts) h = sound_acts (does t a).after acts (sound_act t a h)
