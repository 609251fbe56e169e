-- A move as its steps, as `Carried` has a run: which operators of the source are carried out, each on the state that
-- the one before left, up to the number due, the source's end (11) or the first refusal. Every move that is let in goes
-- so.
use Rattle.std.specs.Prelude.{◌≡◌, refl, ◌≢◌, List, ℕ, zero, suc, ◌+◌, ◌≤◌, ◌<◌, eqb, ltb, length}
use Rattle.std.proofs.Common.{sym, subst, add-zero, arith, lt-ltb, le-ltb, ltb-true, ltb-false, eqb-true}
use Rattle.std.proofs.lemmas.Bool.{eqb-false}
use Rattle.laws.specs.Bools.{eqb_other}
use Rattle.layout.specs.declared.shape.Shape.{Shape}
use Rattle.layout.specs.Layout.{shape_of}
use Rattle.runs.specs.Run.{State, read_at, run_refusal, stepped, Ran, run_from}
use Rattle.runs.specs.Move.{due_refusal, move_entry, move_of}
use Rattle.runs.specs.Clauses.{pick_by, run_none, run_some, move_in}
use Rattle.promises.specs.RunAll.{left_by}
use Rattle.promises.specs.Moves.{moved_to}

-- from a place of the source and a state on, so many operators being due, so many are carried out; then none is due, or
-- the source has ended, or its next operator is refused. `from` is the place then, `last` the state
pub data Moves (sh : Shape) (s : List ℕ) (refusal from : ℕ) (last : State) : ℕ → ℕ → ℕ → State → Type 0 where
  all : {at : ℕ} {t : State} → refusal ≡ 0 → from ≡ at → last ≡ t → Moves sh s refusal from last 0 0 at t
  ended : {n at : ℕ} {t : State} → length s ≤ at → refusal ≡ 11 → from ≡ at → last ≡ t
      → Moves sh s refusal from last (suc n) 0 at t
  refused : {n at : ℕ} {t : State} → at < length s → run_refusal sh t s at ≢ 0 → refusal ≡ run_refusal sh t s at
      → from ≡ at → last ≡ t → Moves sh s refusal from last (suc n) 0 at t
  done : {n k at : ℕ} {t : State} → at < length s → run_refusal sh t s at ≡ 0
      → Moves sh s refusal from last n k (read_at sh s at).next (stepped sh t (read_at sh s at).op)
      → Moves sh s refusal from last (suc n) (suc k) at t

-- what is left of a move, n being due and c done before
abbrev Goes : Shape → List ℕ → ℕ → ℕ → ℕ → State → Ran → Type 0
Goes sh s n c at t r =
    (k : ℕ) × (r.answer.done ≡ c + k)
    × Moves sh s (due_refusal (c + n) r.answer) r.answer.used (left_by r) n k at t

-- operator by operator
goes : (sh : Shape) (s : List ℕ) (n at c : ℕ) (t : State) → Goes sh s n c at t (run_from n sh s at c t)
goes sh s zero at c t =
    let h : c + 0 ≤ c = omega arith in
    subst (Goes sh s 0 c at t) (sym (run_none sh s at c t)) (
      0,
      sym (add-zero c),
      all (rw (le-ltb c (c + 0) h)) refl
          refl,
    )
goes sh s (suc n) at c t =
    let h : c < c + suc n = omega arith in
    subst (Goes sh s (suc n) c at t) (sym (run_some n sh s at c t))
    (pick_by (Goes sh s (suc n) c at t) (ltb at (length s)) _ _
    (λ l. pick_by (Goes sh s (suc n) c at t) (eqb (run_refusal sh t s at) 0) _ _
    (λ z.
    let g = goes sh s n (read_at sh s at).next (c + 1) (stepped sh t (read_at sh s at).op) in
    let e : c + 1 + n ≡ c + suc n = omega arith in
    (suc g.0, omega (arith, g.1), done (ltb-true at _ l) (eqb-true _ 0 z) (rw e at g.2)))
    (λ z.
    let d = eqb-false _ 0 z in
    (0, sym (add-zero c), refused (ltb-true at _ l) d (rw (eqb_other d)) refl refl)))
    (λ l. (0, sym (add-zero c), ended (ltb-false at _ l) (rw (lt-ltb c (c + suc n) h)) refl refl)))

-- A MOVE CARRIES OUT WHAT IT ANSWERS: as many of the source's operators from its start on as it answers done, each on
-- the state that the one before left, up to the number due, the source's end or the first refusal, which it answers
pub move_carried : (source : List ℕ) (from : ℕ) (t : State) (n : ℕ) → (move_entry source from t).refusal ≡ 0
    → let m = move_of source from t n in
    Moves (shape_of t.links) source m.answer.refusal m.answer.from (moved_to m) n m.answer.done from t
move_carried source from t n h =
    let sh = shape_of t.links in
    let g = goes sh source n from 0 t in
    let e : g.0 ≡ (run_from n sh source from 0 t).answer.done = omega (arith, g.1) in
    let z : 0 + n ≡ n = omega arith in
    rw (move_in source from t n h) (rw (e, z) at g.2)
