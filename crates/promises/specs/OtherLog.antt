-- A run does not look at the bytes of its log: on another log of the same length and with the same live part it answers
-- the same and leaves the same table and the same live part.
use Rattle.std.specs.Prelude.{◌≡◌, refl, Bool, true, false, List, ◌++◌, ℕ, zero, suc, ◌+◌, ◌-◌, ◌≤◌, eqb, ltb, length}
use Rattle.std.specs.Prelude.{drop}
use Rattle.std.proofs.Common.{sym, ap, ◌∙◌, arith, eqb-true}
use Rattle.laws.specs.Bools.{pick, split}
use Rattle.script.specs.declared.Operator.{Operator}
use Rattle.script.specs.Operator.{put_bytes}
use Rattle.layout.specs.declared.shape.Shape.{Shape}
use Rattle.layout.specs.Layout.{shape_of}
use Rattle.runs.specs.Run.{State, state, read_at, inverse_bytes, carry_refusal, stepped, run_refusal}
use Rattle.runs.specs.Run.{Ran, ran, run_from, entry, run_of}
use Rattle.runs.specs.Clauses.{run_none, run_some, run_in_lem, run_out, entry_passed}
use Rattle.promises.specs.Logging.{put_length, put_live}
use Rattle.promises.specs.WayBack.{steps}

-- the same table and start with another log
abbrev pub with_log : State → List ℕ → State
with_log t l = state t.links t.points l t.start

-- two logs of the same length, the same from `start` on
abbrev pub Alike : ℕ → List ℕ → List ℕ → Type 0
Alike start l m = (length l ≡ length m) × (drop start l ≡ drop start m)

-- two runs that answer the same and leave the same table and the same live log
pub record Same (r q : Ran) : Type 0 where
  pub answer : r.answer ≡ q.answer
  pub links : r.links ≡ q.links
  pub points : r.points ≡ q.points
  pub log : Alike r.answer.start r.log q.log

-- a relation of the values taken, by one test
pick_both : {X : Type 0} (R : X → X → Type 0) (b : Bool) (u u' w w' : X) → (b ≡ true → R u u') → (b ≡ false → R w w')
    → R (pick b u w) (pick b u' w')
pick_both R true u u' w w' f g = f refl
pick_both R false u u' w w' f g = g refl

-- no refusal looks at the log
refusal_log : (sh : Shape) (t : State) (l s : List ℕ) (at : ℕ)
    → run_refusal sh (with_log t l) s at ≡ run_refusal sh t s at
unfolding run_refusal carry_refusal inverse_bytes
refusal_log sh t l s at = refl

-- a log after a step
abbrev logged : Shape → State → Operator → List ℕ → List ℕ
logged sh t o l = put_bytes l (t.start - length (inverse_bytes sh t o)) (inverse_bytes sh t o)

-- a step writes to either log alike
stepped_log : (sh : Shape) (t : State) (l : List ℕ) (o : Operator) → stepped sh (with_log t l) o
    ≡ with_log (stepped sh t o) (logged sh t o l)
unfolding stepped inverse_bytes
stepped_log sh t l o = refl

-- so they stay alike
stepped_alike : (sh : Shape) (t : State) (l : List ℕ) (o : Operator) → t.start ≤ length t.log
    → Alike t.start t.log l → length (inverse_bytes sh t o) ≤ t.start
    → ((stepped sh t o).start ≤ length (stepped sh t o).log)
    × Alike (stepped sh t o).start (stepped sh t o).log (logged sh t o l)
unfolding stepped
stepped_alike sh t l o h a room =
    let b : List ℕ = inverse_bytes sh t o in
    let h' : t.start ≤ length l = omega (arith, h, a.0) in
    let s = put_length t.log t.start b room h in
    let s' = put_length l t.start b room h' in (
      omega (arith, h, s),
      (
        s ∙ a.0 ∙ sym s',
        put_live t.log t.start b room h ∙ ap (λ (q : List ℕ). b
            ++ q) a.1 ∙ sym (put_live l t.start b room h'),
      ),
    )

-- a run on either log, from any place of the script on
same_from : (sh : Shape) (s : List ℕ) (n at done : ℕ) (t : State) (l : List ℕ) → t.start ≤ length t.log
    → Alike t.start t.log l
    → Same (run_from n sh s at done t) (run_from n sh s at done (with_log t l))
same_from sh s zero at done t l h a =
    rw (run_none sh s at done t, run_none sh s at done (with_log t l))
    (record { answer = refl; links = refl; points = refl; log = a })
same_from sh s (suc n) at done t l h a =
    let o : Operator = (read_at sh s at).op in
    let stop : (r : ℕ) → Same (ran r done at t) (ran r done at (with_log t l)) =
    λ r. record { answer = refl; links = refl; points = refl; log = a } in
    rw (
      run_some n sh s at done t,
      run_some n sh s at done (with_log t l),
      refusal_log sh t l s at,
      stepped_log sh t l o,
    )
    (pick_both Same (ltb at (length s)) _ _ _ _
    (λ b. pick_both Same (eqb (run_refusal sh t s at) 0) _ _ _ _
    (λ z. let k = stepped_alike sh t l o h a (steps sh t s at (eqb-true _ 0 z)).1 in
    same_from sh s n (read_at sh s at).next (done + 1) (stepped sh t o) (logged sh t o l) k.0 k.1)
    (λ z. stop (run_refusal sh t s at)))
    (λ b. stop 0))

-- who is let in does not hang on the log's bytes
entry_log : (t : State) (l : List ℕ) → length t.log ≡ length l → entry (with_log t l) ≡ entry t
unfolding entry
entry_log t l e = rw e

-- a whole run on either log
pub same_run : (t : State) (l s : List ℕ) → Alike t.start t.log l → Same (run_of t s) (run_of (with_log t l) s)
same_run t l s a =
    let e = entry_log t l a.0 in
    split (entry t).refusal 0
    (λ z. rw (run_in_lem t s z, run_in_lem (with_log t l) s (rw e z))
    (same_from (shape_of t.links) s (length s) 0 0 t l (entry_passed t z).0 a))
    (λ d. rw (run_out t s d, run_out (with_log t l) s (rw e d), e)
    (record { answer = refl; links = refl; points = refl; log = a }))
