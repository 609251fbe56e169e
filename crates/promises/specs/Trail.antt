-- A way there and back. `Trail sh x₀ p₀ n w q x p`: n operators lead from the table x₀, p₀ to x, p; w are their bytes,
-- the first one's first, and q those of their inverses, the last one's first. Whatever runs w from there writes q
-- (`went`), and whatever runs q from here writes w (`trail_back`): the inverse of the inverse is the operator.
use Rattle.std.specs.Prelude.{◌≡◌, true, eqb, ltb, ℤ, drop}
use Rattle.std.proofs.Math.Path.{refl}
use Rattle.std.proofs.Common.{sym, ap, ◌∙◌, subst, ⊎_elim, add-zero, arith, length-drop, take-append-drop}
use mathlib.Core.List.{List, [], ◌++◌, append_assoc, append-nil}
use Prim.Native.Nat.{ℕ, zero, suc, ◌+◌, ◌-◌, ◌*◌, ◌≤◌, ◌<◌}
use Rattle.std.proofs.Math.ListN.{length, length-append}
use borrow.Author.Tests.{lt-ltb, eqb-true, le-leb, lt-leb}
use Rattle.laws.specs.Bools.{le?, eqb_same}
use Rattle.numbers.specs.PaddedLaws.{PadsAt, pads_none, pads_both, drop_part}
use Rattle.script.specs.declared.Operator.{Operator}
use Rattle.script.specs.Operator.{operator_bytes}
use Rattle.script.specs.RoundTrip.{read_next, read_pads}
use Rattle.script.specs.Scripts.{operator_size}
use Rattle.layout.specs.declared.shape.Shape.{Shape}
use Rattle.euler.specs.Exec.{limits, admit_of, refusal_of, links_after, points_after, inverse}
use Rattle.sound_tables.specs.Accepted.{accepted}
use Rattle.sound_tables.specs.Good.{Good}
use Rattle.sound_operators.specs.Theorems.{all_hold}
use Rattle.runs.specs.Run.{State, state, read_at, inverse_bytes, carry_refusal, run_refusal, stepped, Ran, ran}
use Rattle.runs.specs.Run.{run_from}
use Rattle.runs.specs.Clauses.{pick_by, run_none, run_some}
use Rattle.runs.specs.RunLaws.{run_read}
use Rattle.promises.specs.RunAll.{left_by}
use Rattle.euler.specs.Inverses.{inverse_eight}
use Rattle.promises.specs.Reading.{taken, in_range_lem, range_writable, written_at}
use Rattle.promises.specs.Checked.{good_within}
use Rattle.promises.specs.Logging.{below, put_below, below_none, below_length, below_live, below_both}
use Rattle.promises.specs.WayBack.{steps}

-- none, or some and one more, accepted on a good table
pub data Trail (sh : Shape) (x₀ : List ℕ) (p₀ : List ℤ) : ℕ → List ℕ → List ℕ → List ℕ → List ℤ → Type 0 where
  none : {w q x : List ℕ} {p : List ℤ} → w ≡ [] → q ≡ [] → x ≡ x₀ → p ≡ p₀ → Trail sh x₀ p₀ 0 w q x p
  more : {n : ℕ} {w q x : List ℕ} {p : List ℤ} (o : Operator) (v r y : List ℕ) (k : List ℤ)
      → Trail sh x₀ p₀ n v r y k → Good sh y k → length o.args ≡ 8 → refusal_of sh y o ≡ 0
      → w ≡ v ++ operator_bytes o → q ≡ operator_bytes (inverse sh y k o) ++ r
      → x ≡ links_after sh y o → p ≡ points_after sh y k o → Trail sh x₀ p₀ (suc n) w q x p

-- no operators have no bytes
pub trail_none : {sh : Shape} {x₀ : List ℕ} {p₀ : List ℤ} {w q x : List ℕ} {p : List ℤ} → Trail sh x₀ p₀ 0 w q x p
    → w ≡ []
trail_none (none ew eq ex ep) = ew

-- n operators have at most 19 n bytes
pub trail_size : {sh : Shape} {x₀ : List ℕ} {p₀ : List ℤ} {n : ℕ} {w q x : List ℕ} {p : List ℤ}
    → Trail sh x₀ p₀ n w q x p → length w ≤ 19 * n
trail_size (none ew eq ex ep) = rw ew (omega arith)
trail_size {sh} (more o v r y k t g len acc ew eq ex ep) =
    let i = operator_size o (range_writable (good_within g) o len (accepted sh y o acc)) in
    omega (arith, ap length ew, length-append v (operator_bytes o), trail_size t, i.1)

-- ---- back

-- one operator back: what stands at a place is the inverse of o, run on what o left
module _ (sh : Shape) (y : List ℕ) (k : List ℤ) (o : Operator) (g : Good sh y k) (len : length o.args ≡ 8)
    (acc : refusal_of sh y o ≡ 0) (s : List ℕ) (at : ℕ) (rest : List ℕ)
    (d : drop at s ≡ operator_bytes (inverse sh y k o) ++ rest) where
  -- it is read
  back_read : read_at sh s at
      ≡ record { refusal = 0; next = at + length (operator_bytes (inverse sh y k o)); op = inverse sh y k o }
  back_read =
      let h = all_hold sh y k o g len acc in
      let b = accepted sh (links_after sh y o) (inverse sh y k o) h.1.accepted in
      written_at (good_within g) (inverse sh y k o) (inverse_eight sh y k o) b s at rest d

  -- there are bytes
  back_some : ltb at (length s) ≡ true
  back_some =
      let h = all_hold sh y k o g len acc in
      let b = accepted sh (links_after sh y o) (inverse sh y k o) h.1.accepted in
      let i = operator_size _ (range_writable (good_within g) (inverse sh y k o) (inverse_eight sh y k o) b) in
      let l = length-drop at s in
      let m : length (drop at s) ≡ length (operator_bytes (inverse sh y k o)) + length rest =
      ap length d ∙ length-append (operator_bytes (inverse sh y k o)) rest in
      lt-ltb at (length s) (omega (arith, l, m, i.0))

  -- it is admitted, and its own inverse is o
  back_admitted : admit_of sh (links_after sh y o) (inverse sh y k o) ≡ 0
  back_admitted = (in_range_lem sh (links_after sh y o) (inverse sh y k o) (all_hold sh y k o g len acc).1.accepted).1

  module _ (log : List ℕ) (start : ℕ) where
    abbrev there : State
    there = state (links_after sh y o) (points_after sh y k o) log start

    back_bytes : inverse_bytes sh there (inverse sh y k o) ≡ operator_bytes o
    unfolding inverse_bytes
    back_bytes = rw (all_hold sh y k o g len acc).1.again

    -- without room for o it is refused with 9
    back_full : start < length (operator_bytes o) → run_refusal sh there s at ≡ 9
    unfolding run_refusal carry_refusal
    back_full h = rw (back_read, eqb_same back_admitted, back_bytes, lt-leb (length (operator_bytes o)) start h)

  -- with room it is carried out, and o is what is written
  module _ (log : List ℕ) (start : ℕ) (fits : start ≤ length log) (room : length (operator_bytes o) ≤ start) where
    back_taken : run_refusal sh (there log start) s at ≡ 0
    unfolding run_refusal carry_refusal
    back_taken =
        rw (
          back_read,
          eqb_same back_admitted,
          back_bytes log start,
          le-leb (length (operator_bytes o)) start room,
        )

    back_there : stepped sh (there log start) (inverse sh y k o)
        ≡ state y k (below log start (operator_bytes o)) (start - length (operator_bytes o))
    unfolding stepped
    back_there =
        let h = (all_hold sh y k o g len acc).1 in
        rw (back_bytes log start, h.links, h.points, put_below log start fits (operator_bytes o) room)

-- two ends of a run that are the same
ran_alike : {c c' at at' start start' : ℕ} {x log log' : List ℕ} {p : List ℤ} → c ≡ c' → at ≡ at' → log ≡ log'
    → start ≡ start' → ran 0 c at (state x p log start) ≡ ran 0 c' at' (state x p log' start')
ran_alike a b e f = rw (a, b, e, f)

-- BACK: whatever has q at a place, run from there on x, p, leads back to x₀, p₀, with w written just below the start
pub trail_back : {sh : Shape} {x₀ : List ℕ} {p₀ : List ℤ} {n : ℕ} {w q x : List ℕ} {p : List ℤ}
    → Trail sh x₀ p₀ n w q x p → (s : List ℕ) (at : ℕ) (rest : List ℕ) → drop at s ≡ q ++ rest
    → (log : List ℕ) (start : ℕ) → start ≤ length log → length w ≤ start → (c : ℕ)
    → run_from n sh s at c (state x p log start)
    ≡ ran 0 (c + n) (at + length q) (state x₀ p₀ (below log start w) (start - length w))
trail_back {sh} {x} {p} (none ew eq ex ep) s at rest d log start fits room c =
    let z : start - 0 ≡ start = omega arith in
    run_none sh s at c (state x p log start)
    ∙ rw (ew, eq, ex, ep, add-zero c, add-zero at, z, take-append-drop start log)
trail_back {sh} {x₀} {p₀} (more {n} o v r y k t g len acc ew eq ex ep) s at rest d log start fits room c =
    let b : List ℕ = operator_bytes o in
    let i : List ℕ = operator_bytes (inverse sh y k o) in
    let u = state (links_after sh y o) (points_after sh y k o) log start in
    let l = length-append v b in
    let room' : length v + length b ≤ start = omega (arith, room, l, ap length ew) in
    let d' : drop at s ≡ i ++ (r ++ rest) = d ∙ ap (λ (a : List ℕ). a ++ rest) eq ∙ append_assoc i r rest in
    let m = length-append i r in
    let fits' : start - length b ≤ length (below log start b) =
    omega (arith, below_length log start fits b (omega arith), fits) in
    let rec = trail_back t s (at + length i) rest (drop_part s at i (r ++ rest) d') (below log start b)
    (start - length b) fits' (omega arith) (c + 1) in
    let e1 : c + 1 + n ≡ c + suc n = omega arith in
    let e2 : at + length i + length r ≡ at + length (i ++ r) = omega (arith, m) in
    let e3 : start - length b - length v ≡ start - length (v ++ b) = omega (arith, l) in
    let step : run_from (suc n) sh s at c u
    ≡ ran 0 (c + suc n) (at + length (i ++ r)) (state x₀ p₀ (below log start (v ++ b)) (start - length (v ++ b))) =
    run_some n sh s at c u ∙ rw (
      back_some sh y k o g len acc s at (r ++ rest) d',
      back_taken sh y k o g len acc s at (r ++ rest) d' log start fits (omega arith),
      back_read sh y k o g len acc s at (r ++ rest) d',
      back_there sh y k o g len acc s at (r ++ rest) d' log start fits (omega arith),
    ) (rec ∙ ran_alike e1 e2 (below_both log start fits v b room') e3) in
    rw (ex, ep, ew, eq) step

-- WITHOUT ROOM FOR ALL OF w it is refused with 9
pub trail_full : {sh : Shape} {x₀ : List ℕ} {p₀ : List ℤ} {n : ℕ} {w q x : List ℕ} {p : List ℤ}
    → Trail sh x₀ p₀ n w q x p → (s : List ℕ) (at : ℕ) (rest : List ℕ) → drop at s ≡ q ++ rest
    → (log : List ℕ) (start : ℕ) → start ≤ length log → start < length w → (c : ℕ)
    → (run_from n sh s at c (state x p log start)).answer.refusal ≡ 9
trail_full (none ew eq ex ep) s at rest d log start fits short c = absurd (omega (arith, short, ap length ew))
trail_full {sh} (more {n} o v r y k t g len acc ew eq ex ep) s at rest d log start fits short c =
    let b : List ℕ = operator_bytes o in
    let i : List ℕ = operator_bytes (inverse sh y k o) in
    let u = state (links_after sh y o) (points_after sh y k o) log start in
    let l = length-append v b in
    let short' : start < length v + length b = omega (arith, short, l, ap length ew) in
    let d' : drop at s ≡ i ++ (r ++ rest) = d ∙ ap (λ (a : List ℕ). a ++ rest) eq ∙ append_assoc i r rest in
    let next : length b ≤ start → (run_from (suc n) sh s at c u).answer.refusal ≡ 9 =
    λ room.
    let fits' : start - length b ≤ length (below log start b) =
    omega (arith, below_length log start fits b room, fits) in
    let rec = trail_full t s (at + length i) rest (drop_part s at i (r ++ rest) d') (below log start b)
    (start - length b) fits' (omega arith) (c + 1) in
    rw (
      run_some n sh s at c u,
      back_some sh y k o g len acc s at (r ++ rest) d',
      back_taken sh y k o g len acc s at (r ++ rest) d' log start fits room,
      back_read sh y k o g len acc s at (r ++ rest) d',
      back_there sh y k o g len acc s at (r ++ rest) d' log start fits room,
    ) rec in
    let stop : start < length b → (run_from (suc n) sh s at c u).answer.refusal ≡ 9 =
    λ full.
    rw (
      run_some n sh s at c u,
      back_some sh y k o g len acc s at (r ++ rest) d',
      back_full sh y k o g len acc s at (r ++ rest) d' log start full,
    ) in
    rw (ex, ep) (⊎_elim next stop (le? (length b) start))

-- ---- there

-- n operators with the bytes w have led from t₀ to t, and their inverses stand in the log just below the old start
pub record Gone (sh : Shape) (t₀ : State) (n : ℕ) (w : List ℕ) (t : State) : Type 0 where
  pub logged : List ℕ
  pub trail : Trail sh t₀.links t₀.points n w logged t.links t.points
  pub good : Good sh t.links t.points
  pub fits : t₀.start ≤ length t₀.log
  pub room : length logged ≤ t₀.start
  pub start : t.start ≡ t₀.start - length logged
  pub log : t.log ≡ below t₀.log t₀.start logged

-- nowhere yet
pub gone_none : {sh : Shape} (t : State) → Good sh t.links t.points → t.start ≤ length t.log → Gone sh t 0 []
    t
gone_none t g h =
    let z : t.start ≡ t.start - 0 = omega arith in
    record {
      logged = [];
      trail = none refl refl refl refl;
      good = g;
      fits = h;
      room = omega arith;
      start = z;
      log = sym (below_none t.log t.start h);
    }

module _ {sh : Shape} {t₀ t : State} {n : ℕ} {w : List ℕ} (g : Gone sh t₀ n w t) where
  -- the log is as long as it was, and its start is not beyond it
  pub gone_length : length t.log ≡ length t₀.log
  gone_length = ap length g.log ∙ below_length t₀.log t₀.start g.fits g.logged g.room

  pub gone_start : t.start ≤ length t.log
  gone_start = omega (arith, gone_length, g.start, g.fits)

  -- its live part is what was logged and then the old one
  pub gone_live : drop t.start t.log ≡ g.logged ++ drop t₀.start t₀.log
  gone_live = rw (g.log, g.start) (below_live t₀.log t₀.start g.fits g.logged g.room)

  -- from the old start on, nothing has changed
  pub gone_rest : drop t₀.start t.log ≡ drop t₀.start t₀.log
  gone_rest =
      let e : t.start + length g.logged ≡ t₀.start = omega (arith, g.start, g.room) in
      rw e at (drop_part t.log t.start g.logged (drop t₀.start t₀.log) gone_live)

  -- an operator more
  gone_more : (o : Operator) → length o.args ≡ 8 → refusal_of sh t.links o ≡ 0
      → length (inverse_bytes sh t o) ≤ t.start → Gone sh t₀ (suc n) (w ++ operator_bytes o) (stepped sh t o)
  unfolding stepped inverse_bytes
  gone_more o len acc room =
      let i : List ℕ = operator_bytes (inverse sh t.links t.points o) in
      let l = length-append i g.logged in
      let r : length i + length g.logged ≤ t₀.start = omega (arith, room, g.start, g.room) in
      let e : t.start - length i ≡ t₀.start - length (i ++ g.logged) = omega (arith, l, g.start) in
      record {
        logged = i ++ g.logged;
        trail = more o w g.logged t.links t.points g.trail g.good len acc refl refl refl refl;
        good = (all_hold sh t.links t.points o g.good len acc).0;
        fits = g.fits;
        room = omega (arith, l, r);
        start = e;
        log = put_below t.log t.start gone_start i room ∙ rw (g.log, g.start)
            (below_both t₀.log t₀.start g.fits i g.logged r);
      }

  -- a step of a run that is not refused
  gone_step : (s : List ℕ) (at : ℕ) → run_refusal sh t s at ≡ 0
      → Gone sh t₀ (suc n) (w ++ operator_bytes (read_at sh s at).op) (stepped sh t (read_at sh s at).op)
  gone_step s at h =
      let r = steps sh t s at h in
      let a = taken sh t.links s at r.0 in
      gone_more (read_at sh s at).op a.eight a.admitted r.1

-- a run from a place on, c operators having been done before: so many more, whose bytes in fewest groups are `bytes`
pub record Went (sh : Shape) (s : List ℕ) (t₀ : State) (m c at : ℕ) (w : List ℕ) (r : Ran) : Type 0 where
  pub count : ℕ
  pub bytes : List ℕ
  pub done : r.answer.done ≡ c + count
  pub read : PadsAt s at r.answer.used bytes
  pub within : at ≤ length s → r.answer.used ≤ length s
  pub gone : Gone sh t₀ (m + count) (w ++ bytes) (left_by r)

-- none more
went_none : {sh : Shape} (s : List ℕ) (t₀ : State) (m c at : ℕ) (w : List ℕ) (t : State) (refusal : ℕ)
    → Gone sh t₀ m w t → Went sh s t₀ m c at w (ran refusal c at t)
went_none s t₀ m c at w t refusal g = record {
  count = 0;
  bytes = [];
  done = sym (add-zero c);
  read = pads_none s at;
  within = λ h. h;
  gone = rw (add-zero m, append-nil w) g;
}

-- one, and what went on behind it
went_more : {sh : Shape} (s : List ℕ) (t₀ : State) (m c at : ℕ) (w : List ℕ) (r : Ran)
    → (read_at sh s at).refusal ≡ 0
    → Went sh s t₀ (suc m) (c + 1) (read_at sh s at).next (w ++ operator_bytes (read_at sh s at).op) r
    → Went sh s t₀ m c at w r
went_more {sh} s t₀ m c at w r z g =
    let b = operator_bytes (read_at sh s at).op in
    let e : suc m + g.count ≡ m + suc g.count = omega arith in
    record {
      count = suc g.count;
      bytes = b ++ g.bytes;
      done = omega (arith, g.done);
      read = pads_both (read_pads (limits sh) s at z) g.read;
      within = λ h. g.within (read_next (limits sh) s at z).1;
      gone = rw (← e, ← append_assoc w b g.bytes) g.gone;
    }

-- THERE: a run from any place of its script on has gone on by as many operators as it does
pub went : {sh : Shape} (s : List ℕ) (t₀ : State) (n m c at : ℕ) (w : List ℕ) (t : State) → Gone sh t₀ m w t
    → Went sh s t₀ m c at w (run_from n sh s at c t)
went {sh} s t₀ zero m c at w t g =
    subst (Went sh s t₀ m c at w) (sym (run_none sh s at c t)) (went_none s t₀ m c at w t 0 g)
went {sh} s t₀ (suc n) m c at w t g =
    let o = (read_at sh s at).op in
    let b = operator_bytes o in
    subst (Went sh s t₀ m c at w) (sym (run_some n sh s at c t))
    (pick_by (Went sh s t₀ m c at w) (ltb at (length s)) _ _
    (λ l. pick_by (Went sh s t₀ m c at w) (eqb (run_refusal sh t s at) 0) _ _
    (λ z.
    let e : run_refusal sh t s at ≡ 0 = eqb-true _ 0 z in
    went_more s t₀ m c at w _ (run_read sh t s at e)
    (went s t₀ n (suc m) (c + 1) (read_at sh s at).next (w ++ b) (stepped sh t o) (gone_step g s at e)))
    (λ z. went_none s t₀ m c at w t (run_refusal sh t s at) g))
    (λ l. went_none s t₀ m c at w t 0 g))
