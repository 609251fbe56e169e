-- THE MISSION IS PROVED: each statement by its theorem.
use Rattle.std.proofs.Common.{ap}
use Rattle.codec.specs.Operands.{widest}
use Rattle.numbers.specs.NumberTrip.{form_read, read_form}
use Rattle.numbers.specs.Unread.{unread, unread_bad}
use Rattle.script.specs.EntryTrips.{read_write, script_copied, script_shortened, script_shortest}
use Rattle.script.proofs.WriteRead.{write_read}
use Rattle.script.specs.Scripts.{operator_shortest}
use Rattle.script.specs.Unread.{refused_3, cut_refused}
use Rattle.table.specs.declared.check.CheckAnswer.{CheckAnswer}
use Rattle.sound_tables.specs.Good.{marked}
use Rattle.sound_tables.specs.ClearSound.{clear_valid}
use Rattle.sound_cuts.proofs.KefInPlace.{kef_in_place}
use Rattle.sound_valence.specs.WrongWord.{wrong_word, freed_word}
use Rattle.sound_valence.specs.Kept.{valence_kept}
use Rattle.sound_operators.specs.Theorems.{valid_kept, inverse_exact}
use Rattle.runs.specs.Clauses.{run_out}
use Rattle.promises.specs.Checked.{checked_valid, checked_good}
use Rattle.promises.specs.Reading.{taken}
use Rattle.promises.specs.Carried.{step_refusal, run_carried, refused_apart}
use Rattle.promises.specs.Moves.{move_sound}
use Rattle.promises.specs.MoveParts.{move_apart}
use Rattle.promises.specs.MoveSteps.{move_carried}
use Rattle.promises.proofs.UndoExact.{undo_exact}
use Rattle.promises.specs.Promises.{undo_full, used_room, nineteen_room, redo_met}
use Rattle.promises.specs.Promises.{runs_sound}
use Rattle.promises.specs.Redo.{undo_redo, redo_undo, undo_redo_less}
use Rattle.promises.specs.Sessions.{redo_emptied, starts_answered, redo_ended, redo_beyond, undo_out, redo_out}
use Rattle.promises.specs.Padded.{padded_run, padded_move}
use Rattle.promises.specs.ShortLog.{runs_written, log_shortest, move_written, move_shortest}
use Rattle.machine.proofs.UndoActs.{undo_acts_lem}
use Rattle.inversion.proofs.InversionExact.{inversion_exact, spare_exact}
use Rattle.inversion.specs.Theorem.{ten_exactly, refused_as_before, log_enough, spare_never_ten}
use Rattle.inversion.specs.Theorem.{invert_answers, invert_out, holes_one, count_holes}
use Rattle.wavefront_read.specs.Refused.{solid_refused}
use Rattle.wavefront_read.specs.Written.{obj_ends, obj_out}
use Rattle.wavefront_read.proofs.ObjReads.{obj_reads}
use Rattle.mission.specs.Refusals.{clear_numbered, check_numbered, count_numbered, read_numbered, write_numbered}
use Rattle.mission.specs.Refusals.{run_numbered, undo_numbered, redo_numbered, invert_numbered, obj_numbered}
use Rattle.mission.specs.Refusals.{rule_named, entry_numbered, clear_out, write_out}
use Rattle.sweeps.specs.Swept.{sweep_unchanged, sweep_whole, sweep_run, sweep_least, sweep_left}
use Rattle.sweeps.specs.Swept.{sweep_sound}
use Rattle.sweeps.specs.Swept.{sweep_undone, sweep_answers, sweep_refused, sweep_room, sweep_empties, sweep_any_redo}
use Rattle.sweeps.proofs.Counted.{sweep_counted}
use Rattle.mission.specs.SweepRefusals.{sweep_numbered, sweep_named}
use Rattle.mission.specs.SweepActs.{calls_acts, calls_sound, calls_undone, calls_room}
use Rattle.mission.specs.Sweeping.{Sweeping}
use Rattle.mission.specs.TakeDown.{clear_own, invert_asked, session_as_before, invert_sound}
use Rattle.mission.specs.SoundActs.{sound_acts}
use Rattle.mission.specs.Mission.{RefusalsNumbered, Demand1, Demand2, Demand3, Requests, Mission}

-- a refusal's number
pub refusals_numbered : RefusalsNumbered
refusals_numbered = record {
  clear = clear_numbered;
  check = check_numbered;
  count = count_numbered;
  read = read_numbered widest;
  write = write_numbered;
  run = run_numbered;
  undo = undo_numbered;
  redo = redo_numbered;
  invert = invert_numbered;
  obj = λ x p s out. (obj_numbered x p s out).0;
  sweep = sweep_numbered;
}

-- a result for whoever hands over bytes
pub demand_1 : Demand1
demand_1 = record {
  refusals_numbered = refusals_numbered;
  rule_named = rule_named;
  obj_named = λ x p s out. (obj_numbered x p s out).1;
  sweep_named = sweep_named;
  refused_apart = refused_apart;
  move_apart = move_apart;
  entry_numbered = entry_numbered;
  run_out = run_out;
  undo_out = undo_out;
  redo_out = redo_out;
  clear_out = clear_out;
  write_out = write_out;
  invert_out = invert_out;
  obj_out = obj_out;
}

-- the operators
pub demand_2 : Demand2
demand_2 = record {
  run_carried = run_carried;
  step_refusal = step_refusal;
  taken = taken;
  write_read = write_read;
  read_write = read_write;
  script_copied = script_copied;
  script_shortened = script_shortened;
  script_shortest = script_shortest;
  form_read = form_read;
  read_form = read_form;
  operator_shortest = operator_shortest;
  runs_written = runs_written;
  log_shortest = log_shortest;
  refused_3 = refused_3;
  cut_refused = cut_refused;
  unread = unread;
  unread_bad = unread_bad;
  padded_run = padded_run;
  padded_move = padded_move;
  valid_kept = λ x p o h len a.
      ap (λ (c : CheckAnswer). c.refusal) (valid_kept x p o (checked_valid x p h) len a);
  clear_valid = λ x p s f l e v h. ap (λ (a : CheckAnswer). a.refusal) (clear_valid x p s f l e v h);
  runs_sound = runs_sound;
  move_sound = move_sound;
  invert_sound = invert_sound;
  sound_acts = sound_acts;
}

-- undo, and the take-down
pub demand_3 : Demand3
demand_3 = record {
  undo_exact = undo_exact;
  undo_acts_lem = undo_acts_lem;
  inverse_exact = λ t o h. inverse_exact t o (checked_valid t.links t.points h);
  spare_exact = spare_exact;
  invert_asked = invert_asked;
  clear_own = clear_own;
  holes_one = holes_one;
  count_holes = count_holes;
}

-- the sweep
pub swept : Sweeping
swept = record {
  sweep_answers = sweep_answers;
  sweep_unchanged = sweep_unchanged;
  sweep_refused = sweep_refused;
  sweep_whole = sweep_whole;
  sweep_run = sweep_run;
  sweep_room = sweep_room;
  sweep_empties = sweep_empties;
  sweep_any_redo = sweep_any_redo;
  sweep_least = sweep_least;
  sweep_left = sweep_left;
  sweep_counted = sweep_counted;
  sweep_sound = sweep_sound;
  sweep_undone = sweep_undone;
  calls_acts = calls_acts;
  calls_sound = calls_sound;
  calls_undone = calls_undone;
  calls_room = calls_room;
}

-- document 02
pub requested : Requests
requested = record {
  obj_ends = obj_ends;
  solid_refused = λ x p h. solid_refused x p (checked_valid x p h);
  obj_reads = obj_reads;
  kef_in_place = λ x p h k. kef_in_place (marked (checked_good x p h)) k;
  vertex_words = λ x p h. (checked_good x p h).valent;
  wrong_word = λ x p h. wrong_word x p (checked_valid x p h);
  freed_word = λ x p h. freed_word x p (checked_valid x p h);
  valence_kept = λ x p o h len a. valence_kept o (checked_good x p h) len a;
  move_carried = move_carried;
  redo_emptied = redo_emptied;
  starts_answered = starts_answered;
  undo_redo = undo_redo;
  redo_undo = redo_undo;
  undo_redo_less = undo_redo_less;
  move_written = move_written;
  move_shortest = move_shortest;
  redo_ended = redo_ended;
  redo_beyond = redo_beyond;
  undo_full = undo_full;
  used_room = used_room;
  nineteen_room = nineteen_room;
  redo_met = redo_met;
  invert_answers = invert_answers;
  ten_exactly = ten_exactly;
  refused_as_before = refused_as_before;
  session_as_before = session_as_before;
  log_enough = log_enough;
  inversion_exact = inversion_exact;
  spare_never_ten = spare_never_ten;
  sweeping = swept;
}

-- all of it
pub mission : Mission
mission = record { first = demand_1; second = demand_2; third = demand_3; requests = requested }
