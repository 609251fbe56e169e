-- Moves of operators from one log to another: undo and redo. What was done is moved back by a move with the logs
-- exchanged (`gone_back`), just where its bytes have room (`gone_full`); so a move and as many back change nothing at
-- all (`move_back`). A move of any log leaves a sound table (`move_sound`).
use Rattle.std.specs.Prelude.{◌≡◌, true, ℕ, ◌+◌, ◌-◌, ◌≤◌, ◌<◌, length, take, drop}
use Rattle.std.proofs.Common.{sym, ap, ◌∙◌, subst, zero-add, arith, le-ltb}
use mathlib.Core.List.{List, [], ◌++◌}
use Rattle.laws.specs.Bools.{split}
use Rattle.numbers.specs.NumberTrip.{Bytes}
use Rattle.numbers.specs.Padded.{shortest}
use Rattle.numbers.specs.PaddedLaws.{PadsAt, pads_between, shorten_between, shortest_same, bytes_part}
use Rattle.layout.specs.declared.shape.Shape.{Shape}
use Rattle.layout.specs.Layout.{shape_of}
use Rattle.table.specs.Check.{check_of, answer}
use Rattle.sound_tables.specs.Good.{Good}
use Rattle.runs.specs.Run.{State, state, Ran, ran, run_from}
use Rattle.runs.specs.Move.{Moved, moved_by, moved, move_entry, move_of}
use Rattle.runs.specs.Clauses.{entry_passed, move_in, move_out, move_within, move_passed}
use Rattle.promises.specs.RunAll.{left_by}
use Rattle.promises.specs.Checked.{checked_good, good_checked, good_entry}
use Rattle.promises.specs.Logging.{below, below_same}
use Rattle.promises.specs.Trail.{Gone, gone_none, gone_start, gone_live, Went, went, trail_back}
use Rattle.promises.specs.Trail.{trail_full}

-- the table with the destination, as a move leaves them
abbrev pub moved_to : Moved → State
moved_to m = state m.links m.points m.log m.answer.to

-- a move that is let in begins with a good table and its starts not beyond the logs
pub good_move : {sh : Shape} (source : List ℕ) (from : ℕ) (t : State) → Good sh t.links t.points
    → from ≤ length source → t.start ≤ length t.log → move_entry source from t ≡ answer 0 0
good_move source from t g h i = move_within source from t h ∙ good_entry t g i

-- ---- what was done, moved back

-- so many due, so many done
pub all_due : (n from : ℕ) (t : State) → moved_by n (ran 0 n from t) ≡ moved 0 n from t
all_due n from t = let h : n ≤ n = omega arith in rw (le-ltb n n h)

module _ {sh : Shape} {t₀ t : State} {n : ℕ} {w : List ℕ} (g : Gone sh t₀ n w t) (log : List ℕ) (start : ℕ)
    (fits : start ≤ length log) where
  -- the table with the log it is moved into
  abbrev other : State
  other = state t.links t.points log start

  -- it is let in, and is a run of the log
  back_in : move_of t.log t.start other n ≡ moved_by n (run_from n sh t.log t.start 0 other)
  back_in =
      let e = good_move t.log t.start other g.good (gone_start g) fits in
      move_in t.log t.start other n (rw e) ∙ rw (← g.good.shape)

  -- WHAT WAS DONE IS MOVED BACK: with room for its bytes the first table is left, the log's live part starts where it
  -- did, and the operators done stand just below the other log's start
  pub gone_back : length w ≤ start → move_of t.log t.start other n
      ≡ moved 0 n t₀.start (state t₀.links t₀.points (below log start w) (start - length w))
  gone_back room =
      let f = trail_back g.trail t.log t.start (drop t₀.start t₀.log) (gone_live g) log start fits room 0
      in
      let e : t.start + length g.logged ≡ t₀.start = omega (arith, g.start, g.room) in
      let back = state t₀.links t₀.points (below log start w) (start - length w) in
      let r : run_from n sh t.log t.start 0 other ≡ ran 0 n t₀.start back = f ∙ rw (e, zero-add n) in
      back_in ∙ ap (moved_by n) r ∙ all_due n t₀.start back

  -- WITHOUT ROOM FOR ALL OF THEM THE MOVE IS REFUSED WITH 9
  pub gone_full : start < length w → (move_of t.log t.start other n).answer.refusal ≡ 9
  gone_full short =
      let f = trail_full g.trail t.log t.start (drop t₀.start t₀.log) (gone_live g) log start fits short
      0 in
      rw (back_in, f)

-- ---- a move and as many back

module _ (source : List ℕ) (from : ℕ) (t : State) (n : ℕ) (sound : (check_of t.links t.points).refusal ≡ 0)
    (inside : from ≤ length source) (fits : t.start ≤ length t.log) where
  -- what the move leaves
  abbrev after : Moved
  after = move_of source from t n

  -- it is a run of the source
  unfoldable pub there : Ran
  there = run_from n (shape_of t.links) source from 0 t

  first_good : Good (shape_of t.links) t.links t.points
  first_good = checked_good t.links t.points sound

  is_run : after ≡ moved_by n there
  unfolding there
  is_run = move_in source from t n (rw (good_move source from t first_good inside fits))

  -- as many operators have been done as are answered
  pub gone_there : Went (shape_of t.links) source t 0 0 from [] there
  unfolding there
  gone_there = went source t n 0 0 from [] t (gone_none t first_good fits)

  pub gone_after : Gone (shape_of t.links) t after.answer.done gone_there.bytes (moved_to after)
  gone_after =
      let h = gone_there in
      let e : after.answer.done ≡ 0 + h.count = ap (λ (m : Moved). m.answer.done) is_run ∙ h.done in
      subst (λ (m : Moved). Gone (shape_of t.links) t m.answer.done h.bytes (moved_to m)) (sym is_run)
      (subst (λ (k : ℕ). Gone (shape_of t.links) t k h.bytes (left_by there)) (sym h.done) h.gone)

  -- it has gone on in the source
  pub moved_on : from ≤ after.answer.from
  moved_on = rw is_run (omega (arith, gone_there.read.behind))

  -- and the place there is not beyond it
  pub moved_inside : after.answer.from ≤ length source
  moved_inside = rw is_run (gone_there.within inside)

  -- the bytes read, if they are in shortest form, are those of the operators done
  module _ (bytes : Bytes source) (short : shortest (take (after.answer.from - from) (drop from source)) ≡ true) where
    read_same : PadsAt source from after.answer.from gone_there.bytes
    read_same = rw (ap (λ (m : Moved). m.answer.from) is_run) gone_there.read

    sames : gone_there.bytes ≡ read_same.bytes
    sames =
        sym (shorten_between read_same)
        ∙ shortest_same _ (bytes_part from (after.answer.from - from) bytes) short ∙ pads_between read_same

    stood : drop from source ≡ gone_there.bytes ++ drop after.answer.from source
    stood = read_same.there ∙ ap (λ (b : List ℕ). b ++ drop after.answer.from source) (sym sames)

    -- A MOVE AND AS MANY BACK CHANGE NOTHING: refusal 0 and that number, every word of links and points, both starts
    -- and every byte of the source are as before
    pub move_back : move_of after.log after.answer.to
        (state after.links after.points source after.answer.from) after.answer.done
        ≡ moved 0 after.answer.done t.start (state t.links t.points source from)
    move_back =
        let g = gone_after in
        let x = read_same in
        let b : List ℕ = gone_there.bytes in
        let l : after.answer.from ≡ from + length b = omega (arith, x.behind, ap length sames) in
        let f = gone_back g source after.answer.from moved_inside (omega (arith, l)) in
        let z : after.answer.from - length b ≡ from = omega (arith, l) in
        f ∙ rw (below_same source after.answer.from moved_inside from b l stood, z)

-- A MOVE LEAVES A SOUND TABLE, whatever the source holds
pub move_sound : (source : List ℕ) (from : ℕ) (t : State) (n : ℕ) → (check_of t.links t.points).refusal ≡ 0
    → (check_of (move_of source from t n).links (move_of source from t n).points).refusal ≡ 0
move_sound source from t n s = split (move_entry source from t).refusal 0
    (λ h.
    let p = move_passed source from t h in
    let q = entry_passed t p.1 in
    rw (good_checked (gone_after source from t n s p.0 q.0).good))
    (λ d. rw (move_out source from t n d) s)
