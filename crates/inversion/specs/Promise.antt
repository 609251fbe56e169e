-- THE TAKE-DOWN'S PROMISE (document 01, "Demand 3 in detail", and document 02, job 6), about `invert_of`, the
-- definition that the contract of the entry point cites. And the number of holes. Statements only: `InversionExact` and
-- `SpareExact` are proved in InversionExact of proofs/, all others in Theorem.
use Rattle.std.specs.Prelude.{◌≡◌, ◌≢◌, Bool, true, false, ◌||◌, List, [], ◌∷◌, ℕ, ◌+◌, ◌-◌, ◌*◌, ◌≤◌, eqb, ℤ, length}
use Rattle.std.specs.Prelude.{get_or, take, drop}
use Rattle.script.specs.declared.Operator.{Operator}
use Rattle.layout.specs.declared.shape.Shape.{Shape}
use Rattle.layout.specs.Layout.{shape_of}
use Rattle.table.specs.Check.{check_of}
use Rattle.table.specs.Clear.{empty_links, empty_points}
use Rattle.table.specs.Count.{tally_of, count_of}
use Rattle.runs.specs.Run.{State, state, entry, carry_refusal, stepped, run_of}
use Rattle.promises.specs.Leads.{Leads}
use Rattle.promises.specs.Logging.{below}
use Rattle.takedown.specs.Inversion.{Work, links_in, Inverted, ended, solid_at, free_face, free_loop, free_edge}
use Rattle.takedown.specs.Inversion.{turn_of}
use Rattle.takedown.specs.Inversion.{bound, short_log, begin, all_turns, invert_of}
use Rattle.inversion.specs.Script.{joins_of, room_of}
use Rattle.inversion.specs.Path.{acted}
use Rattle.inversion.specs.Counts.{solids, faces, edges, vertices, rings}
use Rattle.inversion.specs.Lacks.{Enough, Lack}
use Rattle.inversion.specs.Rebuild.{Builds}

-- links and points as clearing with the same capacities leaves them
abbrev pub clear_links : List ℕ → List ℕ
clear_links x = empty_links (get_or x 0 0) (get_or x 1 0) (get_or x 2 0) (get_or x 3 0) (get_or x 4 0)

abbrev pub clear_points : List ℕ → List ℤ
clear_points x = empty_points (get_or x 4 0)

-- the formula: v − e + f = 2 (s − h) + r
abbrev pub Euler : Shape → List ℕ → ℕ → Type 0
Euler sh x h = vertices sh x + faces sh x + 2 * h ≡ edges sh x + rings sh x + 2 * solids sh x

-- for every sound table, full ones too, exactly one number of holes
pub record OneHoles (x : List ℕ) : Type 0 where
  pub holes : ℕ
  pub formula : Euler (shape_of x) x holes
  pub only : (h : ℕ) → Euler (shape_of x) x h → h ≡ holes

-- the logged script: the log from the start answered up to the one handed in
abbrev pub script_of : State → Inverted → List ℕ
script_of t r = take (t.start - r.answer.start) (drop r.answer.start r.log)

-- what is promised of r, which the take-down leaves of t
pub record Exact (t : State) (r : Inverted) (h : ℕ) : Type 0 where
  -- emptied
  pub refusal : r.answer.refusal ≡ 0
  pub rule : r.answer.rule ≡ 0
  pub links : r.links ≡ clear_links t.links
  pub points : r.points ≡ clear_points t.links
  -- the log from the start handed in on is as it was
  pub below : r.answer.start ≤ t.start
  pub same_length : length r.log ≡ length t.log
  pub rest : drop t.start r.log ≡ drop t.start t.log
  -- and so is what lies in front of the logged script
  pub front : take r.answer.start r.log ≡ take r.answer.start t.log
  -- the bound
  pub bound : r.answer.done + 2 * solids (shape_of t.links) t.links
      ≤ vertices (shape_of t.links) t.links + 2 * faces (shape_of t.links) t.links
      + 2 * rings (shape_of t.links) t.links + 3 * h
  -- the logged script builds the table again, from a cleared one and with any log that is long enough for every inverse
  pub rebuilt : (log : List ℕ) (start : ℕ) → start ≤ length log
      → room_of r.answer.done (shape_of t.links) (script_of t r) (clear_links t.links) (clear_points t.links)
      ≤ start
      → Builds t.links t.points r.answer.done (length (script_of t r)) (run_of
      (state (clear_links t.links) (clear_points t.links) log start) (script_of t r))
  -- 19 bytes for each operator are
  pub enough : room_of r.answer.done (shape_of t.links) (script_of t r) (clear_links t.links) (clear_points
      t.links) ≤ 19 * r.answer.done
  -- exactly h of its operators join two faces of one solid
  pub joins : joins_of r.answer.done (shape_of t.links) (script_of t r) (clear_links t.links) ≡ h

-- THE TAKE-DOWN IS EXACT wherever it is not refused
abbrev pub InversionExact : Type 0
InversionExact = (t : State) (h : ℕ) → Euler (shape_of t.links) t.links h → (invert_of t).answer.refusal ≡ 0
    → Exact t (invert_of t) h

-- ---- refusal 10

-- turns, none of which lacks a number, lead from the work w to the work v
pub data Turns (sh : Shape) (v : Work) : Work → Type 0 where
  here : {w : Work} → w ≡ v → Turns sh v w
  turn : {w : Work} → solid_at sh (links_in w) ≢ 0 → Enough sh (links_in w) → Turns sh v (turn_of sh w) → Turns sh v w

-- the table is let in and the log has room (1, 2 and 9 come ahead), and behind some turns one lacks a number: `Lack`
-- names the kind
pub record Stopped (t : State) : Type 0 where
  pub let_in : (entry t).refusal ≡ 0
  pub room : short_log (shape_of t.links) t ≡ false
  pub last : Work
  pub turned : Turns (shape_of t.links) last (begin t)
  pub solid : solid_at (shape_of t.links) (links_in last) ≢ 0
  pub lack : Lack (shape_of t.links) (links_in last)

-- which refusal is answered: 1 and 2 by the way in, then 9, then 10, else none; and no rule but with 2
pub record Answers (t : State) (r : Inverted) : Type 0 where
  pub out : (entry t).refusal ≢ 0 → (r.answer.refusal ≡ (entry t).refusal) × (r.answer.rule ≡ (entry t).rule)
  pub nine : (entry t).refusal ≡ 0 → short_log (shape_of t.links) t ≡ true → r.answer.refusal ≡ 9
  pub ten : Stopped t → r.answer.refusal ≡ 10
  pub zero : (entry t).refusal ≡ 0 → short_log (shape_of t.links) t ≡ false → (Stopped t → ⊥) → r.answer.refusal ≡ 0
  pub no_rule : (entry t).refusal ≡ 0 → r.answer.rule ≡ 0

-- EVERY TABLE WITH ROOM COMES DOWN where no step lacks a number, full or not; and else the refusal is the one due
abbrev pub InvertAnswers : Type 0
InvertAnswers = (t : State) → Answers t (invert_of t)

-- 10 EXACTLY where the steps A to C call for a free number and none of that kind is left
abbrev pub TenExactly : Type 0
TenExactly = (t : State) → ((invert_of t).answer.refusal ≡ 10 → Stopped t)
    × (Stopped t → (invert_of t).answer.refusal ≡ 10)

-- the log behind 10: the inverses of the steps done until a number lacked, newest first, stand just below the start,
-- and every other byte is as it was; read forward they lead from the table at which it lacked to the one handed in
pub record Logged (t : State) (log : List ℕ) : Type 0 where
  pub stopped : Stopped t
  pub of_steps : log ≡ stopped.last.state.log
  pub bytes : List ℕ
  pub fits : length bytes ≤ t.start
  -- never more of them than 9 asks for
  pub few : length bytes ≤ 19 * bound (tally_of (shape_of t.links) t.links)
  pub log_is : log ≡ below t.log t.start bytes
  pub inverses : Leads (shape_of t.links) t.links t.points [] stopped.last.done (links_in stopped.last)
      stopped.last.state.points bytes

-- nothing is done: table and start as before, and so is the log but, by 10, in front of its start
pub record AsBefore (t : State) (r : Inverted) : Type 0 where
  pub done : r.answer.done ≡ 0
  pub start : r.answer.start ≡ t.start
  pub links : r.links ≡ t.links
  pub points : r.points ≡ t.points
  pub log : r.answer.refusal ≢ 10 → r.log ≡ t.log
  pub logged : r.answer.refusal ≡ 10 → Logged t r.log

-- A REFUSED TAKE-DOWN LEAVES ALL AS BEFORE THE CALL
abbrev pub RefusedAsBefore : Type 0
RefusedAsBefore = (t : State) → (invert_of t).answer.refusal ≢ 0 → AsBefore t (invert_of t)

-- operators carried out one after the other as in a run, each with room for its inverse
pub data AllCarried (sh : Shape) : State → List Operator → Type 0 where
  none : {t : State} → AllCarried sh t []
  next : {t : State} {os : List Operator} (o : Operator) → carry_refusal sh t o ≡ 0 → AllCarried sh (stepped sh t o) os
      → AllCarried sh t (o ∷ os)

-- the operators of the turns, none refused
pub record Carried (t : State) : Type 0 where
  pub os : List Operator
  pub lack : Bool
  pub made : all_turns t
      ≡ ended lack (acted (shape_of t.links) (begin t) os)
  pub all : AllCarried (shape_of t.links) t os

-- THE LOG IS ENOUGH: behind 9 no operator is refused, for room or otherwise
abbrev pub LogEnough : Type 0
LogEnough = (t : State) → (entry t).refusal ≡ 0 → short_log (shape_of t.links) t ≡ false → Carried t

-- ---- the mission's form

-- of faces, loops or edges some kind has no free number
abbrev pub none_free : Shape → List ℕ → Bool
none_free sh x = (eqb (free_face sh x) 0 || eqb (free_loop sh x) 0) || eqb (free_edge sh x) 0

-- WITH ONE OF EACH KIND FREE, NEVER 10
abbrev pub SpareNeverTen : Type 0
SpareNeverTen = (t : State) → none_free (shape_of t.links) t.links ≡ false → (invert_of t).answer.refusal ≢ 10

-- what the mission supposes: a sound table, a start not beyond the log, a free face, loop and edge, and 19 × (v + 2f +
-- 2r + 3h − 2s) bytes in front of the start
pub record Asked (t : State) (h : ℕ) : Type 0 where
  pub sound : (check_of t.links t.points).refusal ≡ 0
  pub start_in : t.start ≤ length t.log
  pub free : none_free (shape_of t.links) t.links ≡ false
  pub formula : Euler (shape_of t.links) t.links h
  pub room : 19 * (vertices (shape_of t.links) t.links + 2 * faces (shape_of t.links) t.links
      + 2 * rings (shape_of t.links) t.links + 3 * h) ≤ t.start + 38 * solids (shape_of t.links) t.links

-- SO IT IS EXACT THERE
abbrev pub SpareExact : Type 0
SpareExact = (t : State) (h : ℕ) → Asked t h → Exact t (invert_of t) h

-- ---- holes

-- HOLES ARE WHOLE AND NOT NEGATIVE, for every sound table, full ones too
abbrev pub HolesOne : Type 0
HolesOne = (x : List ℕ) (p : List ℤ) → (check_of x p).refusal ≡ 0 → OneHoles x

-- THE COUNT'S HOLES ARE THAT NUMBER: what counting answers with refusal 0 keeps the formula
abbrev pub CountHoles : Type 0
CountHoles = (x : List ℕ) (p : List ℤ) → (count_of x p).refusal ≡ 0
    → (count_of x p).vertices + (count_of x p).faces + 2 * (count_of x p).holes
    ≡ (count_of x p).edges + (count_of x p).rings
    + 2 * (count_of x p).solids
