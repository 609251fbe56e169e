-- The undo promise, said of calls: behind any list of acts with no other writing call, undo by the sum of the done
-- counts gives back what there was before the first. Acts that write nothing leave what is lent alone, and the others
-- are runs; so this is `undo_exact`, by UndoActs in proofs/.
use Rattle.std.specs.Prelude.{◌≡◌, List, [], ◌∷◌, ◌++◌, ℕ, ◌≤◌, length, drop}
use Rattle.sessions.specs.Editing.{Editing, log_state}
use Rattle.promises.specs.Edits.{done_script}
use Rattle.machine.specs.Machine.{Act, Clear, Check, Count, Read, Write, Run, Undo, Redo, Invert, Obj}
use Rattle.machine.specs.Machine.{ToUndo, Left, does, behind, done_by}

-- the scripts that acts run
abbrev pub scripts_of : List Act → List (List ℕ)
scripts_of [] = []
scripts_of (Clear s f l e v ∷ acts) = scripts_of acts
scripts_of (Check ∷ acts) = scripts_of acts
scripts_of (Count ∷ acts) = scripts_of acts
scripts_of (Read s at ∷ acts) = scripts_of acts
scripts_of (Write o out ∷ acts) = scripts_of acts
scripts_of (Run s ∷ acts) = s ∷ scripts_of acts
scripts_of (Undo n ∷ acts) = scripts_of acts
scripts_of (Redo n ∷ acts) = scripts_of acts
scripts_of (Invert ∷ acts) = scripts_of acts
scripts_of (Obj s out ∷ acts) = scripts_of acts

-- undo behind the acts, by the sum of their done counts
abbrev pub undo_acts : Editing → List Act → Left
undo_acts t acts = does (behind t acts) (Undo (done_by t acts))

-- everything is as it was: every word of links and points; the log's start, and the log from there on; if that start is
-- not beyond the log, undo answers 0, that sum and the first start. And what redo finds are the operators done
pub record ActsUndone (t : Editing) (acts : List Act) : Type 0 where
  pub links : (undo_acts t acts).after.links ≡ t.links
  pub points : (undo_acts t acts).after.points ≡ t.points
  pub start : (undo_acts t acts).after.session.log ≡ t.session.log
  pub log : drop t.session.log (undo_acts t acts).after.log ≡ drop t.session.log t.log
  pub answer : t.session.log ≤ length t.log
      → (undo_acts t acts).answer
      ≡ ToUndo (record { refusal = 0; rule = 0; undone = done_by t acts; start = t.session.log })
  pub redo : drop (undo_acts t acts).after.session.redo (undo_acts t acts).after.redo
      ≡ done_script (log_state t) (scripts_of acts) ++ drop (behind t acts).session.redo t.redo
