-- The take-down whenever it answers 0: what is asked for it is then so; a sound table stays sound, whatever it answers;
-- and a refused one leaves the session. And clearing with a table's own capacities, of which the promise of the
-- take-down speaks.
use Rattle.std.specs.Prelude.{◌≡◌, ◌≢◌, false, List, ℕ, ◌≤◌, ℤ, length, get_or}
use Rattle.std.proofs.Common.{ap}
use Rattle.laws.specs.Bools.{split}
use Rattle.layout.specs.Layout.{shape_of}
use Rattle.table.specs.declared.check.CheckAnswer.{CheckAnswer}
use Rattle.table.specs.CheckLaws.{checked_fits}
use Rattle.table.specs.Check.{check_of}
use Rattle.table.specs.Clear.{cleared, clear_of}
use Rattle.runs.specs.Run.{State}
use Rattle.runs.specs.Clauses.{entry_passed}
use Rattle.takedown.specs.Inversion.{short_log, invert_of}
use Rattle.sessions.specs.Session.{session_invert}
use Rattle.sessions.specs.Editing.{Editing, log_state, invert_in}
use Rattle.sound_tables.specs.ClearSound.{clear_valid}
use Rattle.inversion.specs.Promise.{clear_links, clear_points}
use Rattle.inversion.specs.Main.{invert_passed}
use Rattle.inversion.specs.Theorem.{refused_as_before, holes_one}
use Rattle.inversion.proofs.InversionExact.{inversion_exact}

-- clearing with a table's own capacities: what the take-down leaves, and what its script is run on
pub clear_own : (x : List ℕ) (p : List ℤ) → (check_of x p).refusal ≡ 0
    → clear_of x p (get_or x 0 0) (get_or x 1 0) (get_or x 2 0) (get_or x 3 0) (get_or x 4 0)
    ≡ cleared 0 (clear_links x) (clear_points x)
unfolding clear_of
clear_own x p h = rw (checked_fits x p h)

-- WHAT IT ANSWERS 0 FOR: a table that passes the check, a start not beyond the log, and the space that is asked for
pub invert_asked : (t : State) → (invert_of t).answer.refusal ≡ 0 → ((check_of t.links t.points).refusal ≡ 0)
    × (t.start ≤ length t.log) × (short_log (shape_of t.links) t ≡ false)
invert_asked t e =
    let a = invert_passed t e in
    let i = entry_passed t a.0 in
    (i.1, i.0, a.1)

-- A REFUSED TAKE-DOWN LEAVES THE SESSION
pub session_as_before : (e : Editing) → (invert_in e).answer.answer.refusal ≢ 0
    → (invert_in e).answer.session ≡ e.session
unfolding session_invert
session_as_before e d = let b = refused_as_before (log_state e) d in rw (b.done, b.start)

-- what that leaves is sound
own_sound : (x : List ℕ) (p : List ℤ) → (check_of x p).refusal ≡ 0
    → (check_of (clear_links x) (clear_points x)).refusal ≡ 0
own_sound x p h =
    let c = clear_own x p h in
    let v = clear_valid x p (get_or x 0 0) (get_or x 1 0) (get_or x 2 0) (get_or x 3 0) (get_or x 4 0) (rw c) in
    ap (λ (a : CheckAnswer). a.refusal) (rw c at v)

-- A SOUND TABLE STAYS SOUND when it is taken down, or not
pub invert_sound : (t : State) → (check_of t.links t.points).refusal ≡ 0
    → (check_of (invert_of t).links (invert_of t).points).refusal ≡ 0
invert_sound t h = split (invert_of t).answer.refusal 0
    (λ z.
    let o = holes_one t.links t.points h in
    let r = inversion_exact t o.holes o.formula z in
    rw (r.links, r.points) (own_sound t.links t.points h))
    (λ d. let b = refused_as_before t d in rw (b.links, b.points) h)
