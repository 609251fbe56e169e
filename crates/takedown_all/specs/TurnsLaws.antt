-- Turn after turn: the ways out of the loop and round it, one law each, over plain variables.
use Rattle.std.specs.Prelude.{◌≡◌, ◌≢◌, true, false, List, ℤ, Option, None, Some}
use Prim.Native.Nat.{ℕ, suc, ◌-◌, ◌≤◌, ◌<◌}
use native.Mathlib.Omega.{arith}
use borrow.Author.Tests.{eq-eqb, ne_eqb}
use Rattle.layout.specs.declared.shape.Shape.{Shape}
use Rattle.runs.specs.Run.{State}
use Rattle.takedown_acts.specs.declared.acts.Progress.{Progress}
use Rattle.takedown_across.specs.declared.across.Stage.{Stage}
use Rattle.takedown_turns.specs.Turning.{Turned}
use Rattle.takedown.specs.declared.ends.Ends.{Ends}
use Rattle.takedown.specs.Inversion.{Work, links_in, Ended, ended, begin}
use Rattle.takedown.specs.Swift.{Swift, enter, entered, swift_lacks, swift_turn, swift_by}

-- it begins with the least solid
pub turns_begin : (sh : Shape) (n : ℕ) (t : State) (e : Ends) → e ≡ enter sh t.links 1
    → swift_by n sh (record { work = begin t; ends = e }) ≡ swift_by n sh (entered sh 1 (begin t))
turns_begin sh n t e q = rw q

-- what a turn says where it lacks a number, and where it is done
module _ (sh : Shape) (e : Ends) (at : Progress) (x : List ℕ) (p : List ℤ) (log : List ℕ) (r : Option Stage)
    (y : List ℕ) (q : List ℤ) (m : List ℕ) (h : Turned sh e at x p log r y q m) where
  pub turned_none : r ≡ None → Turned sh e at x p log None y q m
  turned_none n = rw n at h

  pub turned_some : (s : Stage) → r ≡ Some s → Turned sh e at x p log (Some s) y q m
  turned_some s n = rw n at h

module _ (sh : Shape) (left : ℕ) (t : Swift) (whole : Ended) (rest : swift_by left sh t ≡ whole) where
  -- no turn is left
  pub turns_out : left ≤ 0 → ended false t.work ≡ whole
  unfolding swift_by
  turns_out h = let n : left ≡ 0 = omega arith in rw n at rest

  -- no solid is in use
  pub turns_end : 0 < left → t.ends.solid ≡ 0 → ended false t.work ≡ whole
  unfolding swift_by
  turns_end h z = let n : left ≡ suc (left - 1) = omega arith in rw (n, eq-eqb t.ends.solid 0 z) at rest

  -- the turn lacks a number, and has done nothing
  pub turns_lack : 0 < left → t.ends.solid ≢ 0 → swift_lacks sh t.ends (links_in t.work) ≡ true
      → (v : Work) → v ≡ t.work → ended true v ≡ whole
  unfolding swift_by
  turns_lack h z l v ev =
      let n : left ≡ suc (left - 1) = omega arith in rw ev (rw (n, ne_eqb t.ends.solid 0 z, l) at rest)

  -- the turn is done
  pub turns_on : t.ends.solid ≢ 0 → swift_lacks sh t.ends (links_in t.work) ≡ false
      → (v : Swift) → v ≡ swift_turn sh t.ends (links_in t.work) t.work → (d : ℕ) → left ≡ suc d
      → swift_by d sh v ≡ whole
  unfolding swift_by
  turns_on z l v ev d n = rw ev (rw (n, ne_eqb t.ends.solid 0 z, l) at rest)
