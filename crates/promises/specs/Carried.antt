-- A run as its steps. `Carried` says which operators of a script are carried out, each on the state that the one before
-- left, up to the script's end or the first refusal: document 01's meaning of done. Every run that is let in goes so
-- (`run_carried`), an operator is refused just where a condition fails (`step_refusal`), and the operators done, run
-- alone, leave the same (`refused_apart`): the refused one has changed nothing. Likewise a move (`MoveParts`).
use Rattle.std.specs.Prelude.{◌≡◌, refl, ◌≢◌, List, ℕ, zero, suc, ◌+◌, ◌≤◌, ◌<◌, eqb, ltb, length, take}
use Rattle.std.proofs.Common.{sym, ◌∙◌, subst, add-zero, zero-add, arith, length-take-le, le-leb, lt-ltb, ltb-true}
use Rattle.std.proofs.Common.{ltb-false, eqb-true}
use Rattle.std.proofs.lemmas.Bool.{lt-leb, eqb-false}
use Rattle.laws.specs.Bools.{split, eqb_same, eqb_other}
use Rattle.script.specs.RoundTrip.{read_next}
use Rattle.script.specs.Front.{operator_front}
use Rattle.layout.specs.declared.shape.Shape.{Shape}
use Rattle.layout.specs.Layout.{shape_of}
use Rattle.euler.specs.Exec.{limits, admit_of}
use Rattle.table.specs.declared.check.CheckAnswer.{CheckAnswer}
use Rattle.table.specs.Check.{answer}
use Rattle.runs.specs.Run.{State, read_at, inverse_bytes, carry_refusal, run_refusal, stepped, entry}
use Rattle.runs.specs.Run.{Ran, leaves, ran, run_from, run_of}
use Rattle.runs.specs.RunLaws.{run_read, run_ended}
use Rattle.runs.specs.Clauses.{pick_by, run_none, run_some, run_in_lem, run_out, entry_passed}
use Rattle.promises.specs.RunAll.{left_by}
use Rattle.promises.specs.Checked.{checked_good, good_entry}

-- ---- what an operator of a run is refused with

-- in document 01's order: what reading it gives (3, 4, 5), what the table gives (6, 7, 8), 9 where its inverse has no
-- room in front of the start, and else 0
pub record Refusing (read admitted size start refusal : ℕ) : Type 0 where
  pub not_read : read ≢ 0 → refusal ≡ read
  pub not_admitted : read ≡ 0 → admitted ≢ 0 → refusal ≡ admitted
  pub no_room : read ≡ 0 → admitted ≡ 0 → start < size → refusal ≡ 9
  pub taken : read ≡ 0 → admitted ≡ 0 → size ≤ start → refusal ≡ 0

-- AN OPERATOR IS REFUSED WHERE A CONDITION FAILS, AND NEVER OTHERWISE
pub step_refusal : (sh : Shape) (t : State) (s : List ℕ) (at : ℕ)
    → Refusing (read_at sh s at).refusal (admit_of sh t.links (read_at sh s at).op)
    (length (inverse_bytes sh t (read_at sh s at).op)) t.start (run_refusal sh t s at)
unfolding run_refusal carry_refusal
step_refusal sh t s at = record {
  not_read = λ d. rw (eqb_other d);
  not_admitted = λ z d. rw (eqb_same z, eqb_other d);
  no_room = λ z y h. rw (eqb_same z, eqb_same y, lt-leb _ _ h);
  taken = λ z y h. rw (eqb_same z, eqb_same y, le-leb _ _ h);
}

-- where it is not refused, it was read, and the script goes on behind it
step_ahead : (sh : Shape) (t : State) (s : List ℕ) (at : ℕ) → run_refusal sh t s at ≡ 0
    → ((read_at sh s at).refusal ≡ 0) × (at < (read_at sh s at).next) × ((read_at sh s at).next ≤ length s)
step_ahead sh t s at z =
    let r = run_read sh t s at z in
    let n = read_next (limits sh) s at r in
    (r, n.0, n.1)

-- ---- every run goes step by step

-- from a place of script s and a state on, so many operators are carried out one after the other; then the script has
-- ended, or its next operator is refused. `used` is the place then, `last` the state
pub data Carried (sh : Shape) (s : List ℕ) (refusal used : ℕ) (last : State) : ℕ → ℕ → State → Type 0 where
  ended : {at : ℕ} {t : State} → length s ≤ at → refusal ≡ 0 → used ≡ at → last ≡ t
      → Carried sh s refusal used last 0 at t
  refused : {at : ℕ} {t : State} → at < length s → run_refusal sh t s at ≢ 0 → refusal ≡ run_refusal sh t s at
      → used ≡ at → last ≡ t → Carried sh s refusal used last 0 at t
  done : {n at : ℕ} {t : State} → at < length s → run_refusal sh t s at ≡ 0
      → Carried sh s refusal used last n (read_at sh s at).next (stepped sh t (read_at sh s at).op)
      → Carried sh s refusal used last (suc n) at t

-- what is left of a run, c operators having been done before
abbrev Goes : Shape → List ℕ → ℕ → ℕ → State → Ran → Type 0
Goes sh s c at t r =
    (n : ℕ) × (r.answer.done ≡ c + n) × Carried sh s r.answer.refusal r.answer.used (left_by r) n at t

-- as many steps as bytes are left: the fuel cuts nothing off
goes : (sh : Shape) (s : List ℕ) (n at c : ℕ) (t : State) → length s ≤ at + n
    → Goes sh s c at t (run_from n sh s at c t)
goes sh s zero at c t h =
    subst (Goes sh s c at t) (sym (run_none sh s at c t)) (0, sym (add-zero c), ended (omega arith) refl refl refl)
goes sh s (suc n) at c t h =
    subst (Goes sh s c at t) (sym (run_some n sh s at c t))
    (pick_by (Goes sh s c at t) (ltb at (length s)) _ _
    (λ l. pick_by (Goes sh s c at t) (eqb (run_refusal sh t s at) 0) _ _
    (λ z.
    let e : run_refusal sh t s at ≡ 0 = eqb-true _ 0 z in
    let a = step_ahead sh t s at e in
    let u = stepped sh t (read_at sh s at).op in
    let g = goes sh s n (read_at sh s at).next (c + 1) u (omega (arith, h, a.1)) in
    (suc g.0, omega (arith, g.1), done (ltb-true at _ l) e g.2))
    (λ z. (0, sym (add-zero c), refused (ltb-true at _ l) (eqb-false _ 0 z) refl refl refl)))
    (λ l. (0, sym (add-zero c), ended (ltb-false at _ l) refl refl refl)))

-- DONE IS WHAT WAS CARRIED OUT: a run that is let in carries out as many of its script's first operators as it answers,
-- each on the state that the one before left, up to the script's end or the first refusal, which it answers
pub run_carried : (t : State) (s : List ℕ) → (entry t).refusal ≡ 0
    → Carried (shape_of t.links) s (run_of t s).answer.refusal (run_of t s).answer.used (left_by (run_of t s))
    (run_of t s).answer.done 0 t
run_carried t s h =
    let g = goes (shape_of t.links) s (length s) 0 0 t (omega arith) in
    let e : g.0 ≡ (run_from (length s) (shape_of t.links) s 0 0 t).answer.done = omega (arith, g.1) in
    rw (run_in_lem t s h) (rw e at g.2)

-- ---- the operators done, run alone

-- an operator that is read alike is refused alike
refusal_alike : (sh : Shape) (t : State) (s q : List ℕ) (at : ℕ) → read_at sh q at ≡ read_at sh s at
    → run_refusal sh t q at ≡ run_refusal sh t s at
unfolding run_refusal carry_refusal
refusal_alike sh t s q at e = rw e

-- the bytes used are a front of the script, and a run of them, from the same place on and with steps enough, does n
-- more than the c before, is not refused, and ends with the same state
abbrev Alone : Shape → List ℕ → ℕ → State → ℕ → ℕ → State → Type 0
Alone sh s used last n at t =
    (at ≤ used) × (used ≤ length s)
    × ((m c : ℕ) → used ≤ at + m → run_from m sh (take used s) at c t ≡ ran 0 (c + n) used last)

-- where none is done
alone_none : (sh : Shape) (s : List ℕ) (used : ℕ) (last : State) (at : ℕ) (t : State) → used ≡ at → last ≡ t
    → at ≤ length s → Alone sh s used last 0 at t
alone_none sh s used last at t u l i =
    let k = length-take-le used s (omega arith) in
    (omega arith, omega arith, λ m c j. run_ended sh (take used s) m at c t (omega arith) ∙ rw (u, l, add-zero c))

-- and where some are
alone : {sh : Shape} {s : List ℕ} {refusal used : ℕ} {last : State} {n at : ℕ} {t : State}
    → Carried sh s refusal used last n at t → at ≤ length s → Alone sh s used last n at t
alone {sh} {s} {used} {last} {at} {t} (ended h r u l) i = alone_none sh s used last at t u l i
alone {sh} {s} {used} {last} {at} {t} (refused h z r u l) i = alone_none sh s used last at t u l i
alone {sh} {s} {used} {last} {at} {t} (done {n} l z w) i =
    let a = step_ahead sh t s at z in
    let f = alone w a.2 in
    (omega (arith, a.1, f.0), f.1, on a.0 a.1 f)
  where
    on : (read_at sh s at).refusal ≡ 0 → at < (read_at sh s at).next
        → Alone sh s used last n (read_at sh s at).next (stepped sh t (read_at sh s at).op)
        → (m c : ℕ) → used ≤ at + m → run_from m sh (take used s) at c t ≡ ran 0 (c + suc n) used last
    on r low f zero c j = absurd (omega arith)
    on r low f (suc m) c j =
        let e = operator_front (limits sh) s at used r f.0 in
        let y : run_refusal sh t (take used s) at ≡ 0 = refusal_alike sh t s (take used s) at e ∙ z in
        let k = length-take-le used s f.1 in
        let q : c + 1 + n ≡ c + suc n = omega arith in
        run_some m sh (take used s) at c t
        ∙ rw (lt-ltb at (length (take used s)) (omega arith), y, e, ← q) (f.2 m (c + 1) (omega arith))

-- where the entry does not refuse it names no rule
let_in : (t : State) → (entry t).refusal ≡ 0 → entry t ≡ answer 0 0
let_in t h = let p = entry_passed t h in good_entry t (checked_good t.links t.points p.1) p.0

-- a run's answer and what it left, but for the refusal: that is the entry's
abbrev pub apart : CheckAnswer → Ran → Ran
apart a r =
    leaves
    (record {
      refusal = a.refusal;
      rule = a.rule;
      done = r.answer.done;
      used = r.answer.used;
      start = r.answer.start;
    })
    r.links r.points r.log

-- THE REFUSED OPERATOR CHANGES NOTHING, AND THOSE BEFORE IT STAND: the bytes of the operators done, run alone, do as
-- many, leave the same table, log and start, and are refused only where the entry refuses
pub refused_apart : (t : State) (s : List ℕ) → run_of t (take (run_of t s).answer.used s) ≡ apart (entry t) (run_of t s)
refused_apart t s = split (entry t).refusal 0
    (λ h.
    let f = alone (run_carried t s h) (omega arith) in
    let q = take (run_of t s).answer.used s in
    let k = length-take-le (run_of t s).answer.used s f.1 in
    run_in_lem t q h ∙ f.2 (length q) 0 (omega arith) ∙ rw (let_in t h, zero-add (run_of t s).answer.done))
    (λ d. rw (run_out t s d) (run_out t (take 0 s) d))
