-- A table that passes the check is good, and a good one passes it.
use Rattle.std.specs.Prelude.{◌≡◌, List, ℕ, ◌≤◌, ℤ, length}
use Rattle.std.proofs.Common.{sym, ap, ◌∙◌, subst, arith, le-leb}
use Rattle.laws.specs.Bools.{split, eqb_same, eqb_other}
use Rattle.codec.specs.Ranges.{Within}
use Rattle.layout.specs.declared.shape.Shape.{Shape}
use Rattle.layout.specs.Layout.{shape_of}
use Rattle.check_items.specs.Rules.{broken_rule}
use Rattle.euler.specs.Exec.{limits}
use Rattle.table.specs.declared.check.CheckAnswer.{CheckAnswer}
use Rattle.table.specs.Check.{answer, check_of}
use Rattle.table.specs.CheckLaws.{checked_fits}
use Rattle.table.specs.Valid.{Valid}
use Rattle.sound_tables.specs.Good.{Good}
use Rattle.sound_tables.specs.ValidGood.{valid_good, good_valid}
use Rattle.runs.specs.Clauses.{entry_passed}
use Rattle.runs.specs.Run.{State, state, entry}

-- the capacities of a good table are those a table can have
pub good_within : {sh : Shape} {x : List ℕ} {p : List ℤ} → Good sh x p → Within (limits sh)
good_within g =
    let c = g.capacities in
    record {
      solids = c.solids.1;
      faces = c.faces.1;
      loops = c.loops.1;
      edges = c.edges.1;
      vertices =
          c.vertices.1;
    }

-- a check that does not refuse names no rule
pub checked_valid : (x : List ℕ) (p : List ℤ) → (check_of x p).refusal ≡ 0 → Valid x p
unfolding check_of
checked_valid x p h =
    let f = checked_fits x p h in
    split (broken_rule (shape_of x) x p) 0
    (λ e. rw (f, eqb_same e))
    (λ d. let z : ◌≡◌ {A = ℕ} 2 0 = rw (f, eqb_other d) at h in absurd (omega arith))

-- what passes the check is good
pub checked_good : (x : List ℕ) (p : List ℤ) → (check_of x p).refusal ≡ 0 → Good (shape_of x) x p
checked_good x p h = valid_good x p (checked_valid x p h)

-- and what is good passes it
pub good_checked : {sh : Shape} {x : List ℕ} {p : List ℤ} → Good sh x p → check_of x p ≡ answer 0 0
good_checked {sh} {x} {p} g = good_valid x p (subst (λ sh. Good sh x p) g.shape g)

-- a good table whose log start is not beyond the log is let in
pub good_entry : {sh : Shape} (t : State) → Good sh t.links t.points → t.start ≤ length t.log
    → entry t ≡ answer 0 0
unfolding entry
good_entry t g h = rw (le-leb t.start (length t.log) h) (good_checked g)

-- what a call that is let in begins with
module _ (x : List ℕ) (p : List ℤ) (log : List ℕ) (start : ℕ) (a : CheckAnswer) (e : a ≡ entry (state x p log start))
    (z : a.refusal ≡ 0) (sh : Shape) (h : sh ≡ shape_of x) where
  -- the start is not beyond the log, and the table passes the check
  passed : (start ≤ length log) × Good (shape_of x) x p
  passed =
      let f = entry_passed (state x p log start) (sym (ap (λ c. c.refusal) e) ∙ z) in
      (f.0, checked_good x p f.1)

  pub entered_start : start ≤ length log
  entered_start = passed.0

  pub entered_good : Good sh x p
  entered_good = rw h passed.1
