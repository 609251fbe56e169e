-- The ways out of the code of the pass, one law each.
use Rattle.std.specs.Prelude.{◌≡◌, ◌≢◌, Bool, true, false, List, ℕ, ◌+◌, ◌≤◌, ◌<◌, ℤ, get_or, take, drop, set, leb}
use Rattle.std.specs.Prelude.{Some, None, Ok, Err}
use Rattle.std.proofs.Math.ListN.{length}
use Rattle.std.proofs.Common.{refl, sym, ap, drop_of_length-le, length-take-le}
use Rattle.std.proofs.Math.Seq.{get_or-take}
use borrow.Author.Tests.{eq-eqb, ne_eqb, le-leb, lt-leb}
use native.Mathlib.Omega.{arith}
use Rattle.std.proofs.Math.Logic.{⊎_elim}
use Rattle.laws.specs.Bools.{pick, split, le?, eqb_same, eqb_other}
use Rattle.refusals.specs.declared.Refusal.{Refusal}
use Rattle.refusals.specs.Numbers.{number_of, refusal_in, unless}
use Rattle.refusals.specs.UnlessLaws.{refused_some}
use Rattle.numbers.specs.Number.{read_number, on_num}
use Rattle.numbers.specs.NumberTrip.{reads_small, number_found}
use Rattle.codec.specs.Operands.{in_range, unwire}
use Rattle.codec.specs.OperandLaws.{ahead}
use Rattle.layout.specs.declared.shape.Shape.{Shape}
use Rattle.euler.specs.Exec.{operator_by, condition}
use Rattle.runs_take.specs.Take.{Scan, scan_is, joined, joined_by, scan, told, settled}

-- a number that is read fits three groups
pub number_small : (s : List ℕ) (at n next : ℕ) → read_number s at ≡ Some (n, next) → n < 2097152
number_small s at n next e = reads_small (number_found s at n next e).reads

-- what a test answers tells whether it held
pub not_held : (b : Bool) (e d : Refusal) → Err d ≡ unless b e → (b ≡ false) × (number_of d ≡ number_of e)
not_held true e d h = absurd (refused_some d (ap refusal_in h))
not_held false e d h = (refl, ap refusal_in h)

-- one operand's refusal joined to that of those before it
module _ (r : ℕ) (t : Bool) (u : ℕ) where
  pub joined_range : t ≡ false → 5 ≡ joined r t u
  unfolding joined
  joined_range f = split r 5 (λ e. rw (eqb_same e)) (λ d. rw (eqb_other d, f))

  pub joined_first : t ≡ true → r ≢ 0 → r ≡ joined r t u
  unfolding joined
  joined_first f k = split r 5 (λ e. rw (eqb_same e) e) (λ d. rw (eqb_other d, f, eqb_other k))

  pub joined_use : r ≡ 0 → t ≡ true → (v : ℕ) → v ≡ u → v ≡ joined r t u
  unfolding joined
  joined_use e f v g = rw (e, f) g

-- a range tested by a table that is the shape's
pub range_is : (m most : List ℕ) (k n : ℕ) (b t : Bool) → m ≡ most → b ≡ in_range m k n → b ≡ t → in_range most k n ≡ t
range_is m most k n b t e f g = rw (← e, ← f) g

-- the pass over the first c kinds: as a turn begins, at a number cut off, after a turn and at the end
module _ (sh : Shape) (x s ks : List ℕ) (c : ℕ) (q : c ≤ length ks) (i p r : ℕ) (args : List ℤ) (whole : Scan)
    (rest : scan sh x s (drop i (take c ks)) i p r args ≡ whole) where
  turn : i < c
      → on_num (read_number s p)
      (λ n next.
      scan sh x s (drop (i + 1) (take c ks)) (i + 1) next (joined_by sh x r (get_or ks i 0) n)
      (set args i (unwire (get_or ks i 0) n)))
      (scan_is 3 p args)
      ≡ whole
  unfolding scan
  turn h =
      let l : i < length (take c ks) = rw (length-take-le c ks q) h in
      rw (ahead (take c ks) i 0 l, get_or-take c ks i 0 h) at rest

  pub scan_bad : i < c → read_number s p ≡ None → scan_is 3 p args ≡ whole
  scan_bad h e = rw e at (turn h)

  pub scan_turn : i < c → (n next : ℕ) → read_number s p ≡ Some (n, next)
      → (v : ℕ) → v ≡ joined_by sh x r (get_or ks i 0) n → (a : ℤ) → a ≡ unwire (get_or ks i 0) n
      → scan sh x s (drop (i + 1) (take c ks)) (i + 1) next v (set args i a) ≡ whole
  scan_turn h n next e v f a g = rw (f, g) (rw e at (turn h))

  pub scan_end : c ≤ i → scan_is r p args ≡ whole
  unfolding scan
  scan_end h =
      let l : length (take c ks) ≤ i = rw (length-take-le c ks q) h in
      rw (drop_of_length-le (take c ks) l) at rest

-- the pass done: the condition holds, it fails, 3 or 5, 6 or 7
module _ (sh : Shape) (x : List ℕ) (at code : ℕ) (a : Scan) where
  pub settled_holds : a.refusal ≡ 0 → (b : Bool) → b ≡ condition sh x (operator_by code a.args) → b ≡ true
      → told 0 a.next ≡ settled sh x at code a
  unfolding settled
  settled_holds z b e t = rw (eq-eqb a.refusal 0 z, ← e, t)

  pub settled_fails : a.refusal ≡ 0 → (b : Bool) → b ≡ condition sh x (operator_by code a.args) → b ≡ false
      → told 8 a.next ≡ settled sh x at code a
  unfolding settled
  settled_fails z b e t = rw (eq-eqb a.refusal 0 z, ← e, t)

  pub settled_low : a.refusal ≢ 0 → a.refusal ≤ 5 → told a.refusal at ≡ settled sh x at code a
  unfolding settled
  settled_low n l = rw (ne_eqb a.refusal 0 n, le-leb a.refusal 5 l)

  pub settled_high : a.refusal ≢ 0 → 5 < a.refusal → told a.refusal a.next ≡ settled sh x at code a
  unfolding settled
  settled_high n l = rw (ne_eqb a.refusal 0 n, lt-leb a.refusal 5 l)

  -- the last two by the place that is answered
  pub settled_refused : a.refusal ≢ 0 → (n : ℕ) → n ≡ pick (leb a.refusal 5) at a.next
      → told a.refusal n ≡ settled sh x at code a
  settled_refused d n e =
      ⊎_elim (λ l. rw (e, le-leb a.refusal 5 l) (settled_low d l))
      (λ l. rw (e, lt-leb a.refusal 5 l) (settled_high d l))
      (le? a.refusal 5)
