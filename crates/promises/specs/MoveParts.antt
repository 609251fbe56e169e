-- A move part by part: the first m operators, and then the others, are the move of all (`move_parts`); and what a
-- refused move did stands, being the move of as many (`move_apart`).
use Rattle.std.specs.Prelude.{◌≡◌, refl, ◌≢◌, Bool, true, false, List, ℕ, zero, suc, ◌+◌, ◌-◌, ◌≤◌, ◌<◌, eqb, ltb}
use Rattle.std.specs.Prelude.{length}
use Rattle.std.proofs.Common.{sym, ap, ◌∙◌, subst, ⊎_elim, add-zero, zero-add, add_assoc, arith, lt-ltb, le-ltb}
use Rattle.std.proofs.lemmas.Bool.{eqb-false}
use Rattle.laws.specs.Bools.{pick, le?, split, eqb_same, eqb_other}
use Rattle.layout.specs.declared.shape.Shape.{Shape}
use Rattle.layout.specs.Layout.{shape_of}
use Rattle.table.specs.declared.check.CheckAnswer.{CheckAnswer}
use Rattle.table.specs.Check.{check_of}
use Rattle.runs.specs.declared.answers.RunAnswer.{RunAnswer}
use Rattle.runs.specs.Run.{State, read_at, run_refusal, stepped, Ran, leaves, ran, run_from}
use Rattle.runs.specs.Move.{Moved, due_refusal, moved_by, move_entry, move_of}
use Rattle.runs.specs.Clauses.{pick_by, run_none, run_some, entry_passed, move_in, move_out, move_passed}
use Rattle.runs.specs.MoveLaws.{due_done}
use Rattle.promises.specs.RunAll.{left_by}
use Rattle.promises.specs.Checked.{checked_good}
use Rattle.promises.specs.Trail.{gone_start}
use Rattle.promises.specs.Moves.{moved_to, good_move, all_due, gone_after, moved_inside}

-- ---- runs of at most so many operators

-- what a run leaves, k operators having been done before
abbrev counted_on : ℕ → Ran → Ran
counted_on k r =
    leaves
    (record {
      refusal = r.answer.refusal;
      rule = r.answer.rule;
      done = k + r.answer.done;
      used = r.answer.used;
      start = r.answer.start;
    })
    r.links r.points r.log

-- by its two tests
count_picks : (a b : Bool) (k : ℕ) (u u' v v' w w' : Ran) → u' ≡ counted_on k u → v' ≡ counted_on k v
    → w' ≡ counted_on k w → pick a (pick b u' v') w' ≡ counted_on k (pick a (pick b u v) w)
count_picks true true k u u' v v' w w' e f g = e
count_picks true false k u u' v v' w w' e f g = f
count_picks false b k u u' v v' w w' e f g = g

-- so many were done, and none was refused
abbrev Whole : ℕ → Ran → Type 0
Whole n r = (r.answer.refusal ≡ 0) × (r.answer.done ≡ n)

-- by its two tests
whole_picks : (m k : ℕ) (a b : Bool) (r c at : ℕ) (t : State) (u v : Ran) → (b ≡ false → r ≢ 0)
    → (Whole (c + suc k) v → Whole (c + suc m) u) → Whole (c + suc k) (pick a (pick b v (ran r c at t)) (ran 0 c at
    t))
    → Whole (c + suc m) (pick a (pick b u (ran r c at t)) (ran 0 c at t))
whole_picks m k true true r c at t u v f i h = i h
whole_picks m k true false r c at t u v f i h = absurd (f refl h.0)
whole_picks m k false b r c at t u v f i h = absurd (omega (arith, h.1))

module _ (sh : Shape) (s : List ℕ) where
  -- it does no more
  run_most : (n at c : ℕ) (t : State) → (run_from n sh s at c t).answer.done ≤ c + n
  run_most zero at c t = rw (run_none sh s at c t) (omega arith)
  run_most (suc n) at c t =
      let i = run_most n (read_at sh s at).next (c + 1) (stepped sh t (read_at sh s at).op) in
      subst (λ (r : Ran). r.answer.done ≤ c + suc n) (sym (run_some n sh s at c t))
      (pick_by (λ (r : Ran). r.answer.done ≤ c + suc n) (ltb at (length s)) _ _
      (λ l. pick_by (λ (r : Ran). r.answer.done ≤ c + suc n) (eqb (run_refusal sh t s at) 0) _ _
      (λ z. omega (arith, i)) (λ z. omega arith)) (λ l. omega arith))

  -- what is left, n more after those that a run did
  abbrev goes_on : ℕ → Ran → Ran
  goes_on n r = run_from n sh s r.answer.used r.answer.done (left_by r)

  -- at each operator, by its two tests
  goes_turn : (n k : ℕ) (a b : Bool) (r c at : ℕ) (t : State) (u v : Ran) → (b ≡ false → r ≢ 0)
      → (u.answer.refusal ≡ 0 → u.answer.done ≡ c + suc k → v ≡ goes_on n u)
      → (pick a (pick b u (ran r c at t)) (ran 0 c at t)).answer.refusal ≡ 0
      → (pick a (pick b u (ran r c at t)) (ran 0 c at t)).answer.done ≡ c + suc k
      → pick a (pick b v (ran r c at t)) (ran 0 c at t)
      ≡ goes_on n (pick a (pick b u (ran r c at t)) (ran 0 c at t))
  goes_turn n k true true r c at t u v f i h e = i h e
  goes_turn n k true false r c at t u v f i h e = absurd (f refl h)
  goes_turn n k false b r c at t u v f i h e = absurd (omega (arith, e))

  -- m and n more are n more after m, if all of the m are done
  run_split : (n m at c : ℕ) (t : State) → (run_from m sh s at c t).answer.refusal ≡ 0
      → (run_from m sh s at c t).answer.done ≡ c + m → run_from (m + n) sh s at c t ≡ goes_on n (run_from m sh s at c t)
  run_split n zero at c t h e = rw (run_none sh s at c t, zero-add n)
  run_split n (suc m) at c t h e =
      let k : suc m + n ≡ suc (m + n) = omega arith in
      let d : c + suc m ≡ c + 1 + m = omega arith in
      let i = run_split n m (read_at sh s at).next (c + 1) (stepped sh t (read_at sh s at).op) in
      let h' = subst (λ (r : Ran). r.answer.refusal ≡ 0) (run_some m sh s at c t) h in
      let e' = subst (λ (r : Ran). r.answer.done ≡ c + suc m) (run_some m sh s at c t) e in
      ap (λ j. run_from j sh s at c t) k ∙ run_some (m + n) sh s at c t
      ∙ goes_turn n m (ltb at (length s)) (eqb (run_refusal sh t s at) 0) (run_refusal sh t s at) c at t _ _
      (λ z. eqb-false _ 0 z) (λ z y. i z (y ∙ d)) h' e'
      ∙ sym (ap (goes_on n) (run_some m sh s at c t))

  -- the count begins where it is told to
  run_counted : (k n at c : ℕ) (t : State) → run_from n sh s at (k + c) t ≡ counted_on k (run_from n sh s at c t)
  run_counted k zero at c t = run_none sh s at (k + c) t ∙ sym (ap (counted_on k) (run_none sh s at c t))
  run_counted k (suc n) at c t =
      let i = run_counted k n (read_at sh s at).next (c + 1) (stepped sh t (read_at sh s at).op) in
      run_some n sh s at (k + c) t
      ∙ count_picks (ltb at (length s)) (eqb (run_refusal sh t s at) 0) k _ _ _ _ _ _ (rw (add_assoc k c 1) i) refl refl
      ∙ sym (ap (counted_on k) (run_some n sh s at c t))

  -- a run is the run of as many operators as it does
  abbrev Alone : ℕ → ℕ → State → Ran → Type 0
  Alone at c t r =
      (j : ℕ) × (r.answer.done ≡ c + j) × (run_from j sh s at c t ≡ ran 0 (c + j) r.answer.used (left_by r))

  -- none is done
  alone_none : (at c : ℕ) (t : State) (refusal : ℕ) → Alone at c t (ran refusal c at t)
  alone_none at c t refusal = (0, sym (add-zero c), run_none sh s at c t ∙ rw (add-zero c))

  -- or some are
  run_alone : (n at c : ℕ) (t : State) → Alone at c t (run_from n sh s at c t)
  run_alone zero at c t = subst (Alone at c t) (sym (run_none sh s at c t)) (alone_none at c t 0)
  run_alone (suc n) at c t =
      subst (Alone at c t) (sym (run_some n sh s at c t))
      (pick_by (Alone at c t) (ltb at (length s)) _ _
      (λ l. pick_by (Alone at c t) (eqb (run_refusal sh t s at) 0) _ _
      (λ z.
      let g = run_alone n (read_at sh s at).next (c + 1) (stepped sh t (read_at sh s at).op) in
      let q : c + 1 + g.0 ≡ c + suc g.0 = omega arith in
      (suc g.0, omega (arith, g.1), run_some g.0 sh s at c t ∙ rw (l, z, ← q) g.2))
      (λ z. alone_none at c t (run_refusal sh t s at)))
      (λ l. alone_none at c t 0))

  -- where m and k more are done, so are m
  run_fewer : (k m at c : ℕ) (t : State) → Whole (c + (m + k)) (run_from (m + k) sh s at c t)
      → Whole (c + m) (run_from m sh s at c t)
  run_fewer k zero at c t h = rw (run_none sh s at c t) (refl, sym (add-zero c))
  run_fewer k (suc m) at c t h =
      let e : suc m + k ≡ suc (m + k) = omega arith in
      let i = run_fewer k m (read_at sh s at).next (c + 1) (stepped sh t (read_at sh s at).op) in
      let up : c + 1 + (m + k) ≡ c + suc (m + k) = omega arith in
      let down : c + 1 + m ≡ c + suc m = omega arith in
      let h' = subst (Whole (c + suc (m + k))) (run_some (m + k) sh s at c t)
      (subst (λ j. Whole (c + j) (run_from j sh s at c t)) e h) in
      subst (Whole (c + suc m)) (sym (run_some m sh s at c t))
      (whole_picks m (m + k) (ltb at (length s)) (eqb (run_refusal sh t s at) 0) (run_refusal sh t s at) c at t _ _
      (λ z. eqb-false _ 0 z) (λ w. rw down at (i (rw (← up) at w))) h')

-- ---- moves

-- what a move leaves, k operators having been moved before
abbrev pub counted_move : ℕ → Moved → Moved
counted_move k m =
    leaves
    (record {
      refusal = m.answer.refusal;
      rule = m.answer.rule;
      done = k + m.answer.done;
      from = m.answer.from;
      to = m.answer.to;
    })
    m.links m.points m.log

-- a move's answer and what it left, but for the refusal: that is the entry's
abbrev pub moved_apart : CheckAnswer → Moved → Moved
moved_apart a m =
    leaves
    (record {
      refusal = a.refusal;
      rule = a.rule;
      done = m.answer.done;
      from = m.answer.from;
      to = m.answer.to;
    })
    m.links m.points m.log

-- of m and n more n are due where m have been done
due_counted : (m n : ℕ) (r : Ran) → moved_by (m + n) (counted_on m r) ≡ counted_move m (moved_by n r)
due_counted m n r =
    let d = r.answer.done in
    ⊎_elim (λ h. let i : m + n ≤ m + d = omega arith in rw (le-ltb d n h, le-ltb (m + d) (m + n) i))
    (λ h. let i : m + d < m + n = omega arith in rw (lt-ltb d n h, lt-ltb (m + d) (m + n) i))
    (le? n d)

-- a move is not refused where the run is not and did what was due
due_zero : (n : ℕ) (a : RunAnswer) → due_refusal n a ≡ 0 → (a.refusal ≡ 0) × (n ≤ a.done)
due_zero n a h =
    split a.refusal 0
    (λ z. ⊎_elim (λ i. (z, i))
    (λ i. absurd (let e : ◌≡◌ {A = ℕ} 11 0 = rw (eqb_same z, lt-ltb a.done n i) at h in omega arith))
    (le? n a.done))
    (λ d. absurd (d (rw (eqb_other d) at h)))

module _ (source : List ℕ) (from : ℕ) (t : State) where
  -- a move that is not refused is let in
  pub move_entered : (n : ℕ) → (move_of source from t n).answer.refusal ≡ 0 → (move_entry source from t).refusal ≡ 0
  move_entered n h =
      split (move_entry source from t).refusal 0 (λ e. e) (λ d. absurd (d (rw (move_out source from t n d) at h)))

  -- what is let in begins with a sound table and its starts not beyond the logs
  pub move_begins : (move_entry source from t).refusal ≡ 0
      → (from ≤ length source) × (t.start ≤ length t.log) × ((check_of t.links t.points).refusal ≡ 0)
  move_begins h =
      let p = move_passed source from t h in
      let q = entry_passed t p.1 in
      (p.0, q.0, q.1)

  -- the run of a move that is not refused does all that is due
  whole_run : (n : ℕ) → (move_of source from t n).answer.refusal ≡ 0
      → Whole (0 + n) (run_from n (shape_of t.links) source from 0 t)
  whole_run n h =
      let e = move_entered n h in
      let r = run_from n (shape_of t.links) source from 0 t in
      let z : due_refusal n r.answer ≡ 0 = rw (move_in source from t n e) at h in
      let d = due_zero n r.answer z in
      (d.0, omega (arith, d.1, run_most (shape_of t.links) source n from 0 t))

  -- so does the move
  pub whole_moved : (n : ℕ) → (move_of source from t n).answer.refusal ≡ 0 → (move_of source from t n).answer.done ≡ n
  whole_moved n h =
      let e : (move_of source from t n).answer.done ≡ (run_from n (shape_of t.links) source from 0 t).answer.done =
      rw (move_in source from t n (move_entered n h)) in
      omega (arith, e, (whole_run n h).1)

  -- IF A MOVE OF n IS NOT REFUSED, A MOVE OF FEWER IS NOT
  pub move_early : (m n : ℕ) → m ≤ n → (move_of source from t n).answer.refusal ≡ 0
      → (move_of source from t m).answer.refusal ≡ 0
  move_early m n l h =
      let sh = shape_of t.links in
      let e : n ≡ m + (n - m) = omega arith in
      let w = subst (λ j. Whole (0 + j) (run_from j sh source from 0 t)) e (whole_run n h) in
      let f = run_fewer sh source (n - m) m from 0 t w in
      rw (move_in source from t m (move_entered n h))
      (sym (due_done m (run_from m sh source from 0 t).answer f.0 (omega (arith, f.1))))

  -- A MOVE IN TWO PARTS: the first m of n, if that is not refused, and then the others, is the move of n
  pub move_parts : (m n : ℕ) → m ≤ n → (move_of source from t m).answer.refusal ≡ 0
      → move_of source from t n
      ≡ counted_move m (move_of source (move_of source from t m).answer.from (moved_to (move_of source from t m))
      (n - m))
  move_parts m n l h =
      let sh = shape_of t.links in
      let e = move_entered m h in
      let b = move_begins e in
      let r = run_from m sh source from 0 t in
      let w = whole_run m h in
      let i : move_of source from t m ≡ moved_by m r = move_in source from t m e in
      let s : n ≡ m + (n - m) = omega arith in
      let d : r.answer.done ≡ m + 0 = omega (arith, w.1) in
      let rest = run_from (n - m) sh source r.answer.used 0 (left_by r) in
      let one : move_of source from t n ≡ moved_by (m + (n - m)) (goes_on sh source (n - m) r) =
      move_in source from t n e ∙ ap (λ j. moved_by j (run_from j sh source from 0 t)) s
      ∙ ap (moved_by (m + (n - m))) (run_split sh source (n - m) m from 0 t w.0 w.1) in
      let two : goes_on sh source (n - m) r ≡ counted_on m rest =
      ap (λ c. run_from (n - m) sh source r.answer.used c (left_by r)) d
      ∙ run_counted sh source m (n - m) r.answer.used 0 (left_by r) in
      let g = gone_after source from t m b.2 b.0 b.1 in
      let y = good_move source _ (moved_to (move_of source from t m)) g.good
      (moved_inside source from t m b.2 b.0 b.1) (gone_start g) in
      let three : move_of source (move_of source from t m).answer.from (moved_to (move_of source from t m)) (n - m)
      ≡ moved_by (n - m) rest =
      move_in source _ (moved_to (move_of source from t m)) (n - m) (rw y) ∙ rw (← g.good.shape, i) in
      one ∙ ap (moved_by (m + (n - m))) two ∙ due_counted m (n - m) rest ∙ sym (ap (counted_move m) three)

  -- WHAT A MOVE DID STANDS: a move of as many as it answers does as many, leaves the same table, logs and starts, and
  -- is refused only where the entry refuses
  pub move_apart : (n : ℕ)
      → move_of source from t (move_of source from t n).answer.done
      ≡ moved_apart (move_entry source from t) (move_of source from t n)
  move_apart n = split (move_entry source from t).refusal 0
      (λ h.
      let sh = shape_of t.links in
      let b = move_begins h in
      let g = run_alone sh source n from 0 t in
      let r = run_from n sh source from 0 t in
      let e : r.answer.done ≡ g.0 = omega (arith, g.1) in
      let y = good_move source from t (checked_good t.links t.points b.2) b.0 b.1 in
      let f : run_from g.0 sh source from 0 t ≡ ran 0 g.0 r.answer.used (left_by r) =
      g.2 ∙ rw (zero-add g.0) in
      rw (move_in source from t n h, e)
      (move_in source from t g.0 h ∙ ap (moved_by g.0) f ∙ all_due g.0 r.answer.used (left_by r) ∙ rw y))
      (λ d. rw (move_out source from t n d) (move_out source from t 0 d))
