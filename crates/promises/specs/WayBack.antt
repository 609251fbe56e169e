-- Undoing leads back. `Back sh n t₀ t`: the first n operators of t's live log are the written inverses, newest first,
-- of what was done since t₀, and behind them stands t₀'s live log; in front of them no byte has changed. Each operator
-- carried out adds one. The take-down is followed so; what runs and moves do is followed there and back by `Gone`
-- (Trail).
use Rattle.std.specs.Prelude.{◌≡◌, refl, Bool, true, false, List, ℕ, suc, ◌-◌, ◌≤◌, leb, length, take, drop}
use Rattle.std.proofs.Common.{sym, ap, ◌∙◌, arith, take-take, leb-true}
use Rattle.laws.specs.Bools.{pick}
use Rattle.script.specs.declared.Operator.{Operator}
use Rattle.script.specs.Operator.{operator_bytes}
use Rattle.layout.specs.declared.shape.Shape.{Shape}
use Rattle.euler.specs.Exec.{admit_of, refusal_of, points_after, inverse}
use Rattle.sound_tables.specs.Good.{Good}
use Rattle.runs.specs.Run.{State, read_at, refusal_at, inverse_bytes, carry_refusal, stepped, run_refusal}
use Rattle.runs.specs.RunLaws.{read_admitted}
use Rattle.sound_tables.specs.Accepted.{first_zero}
use Rattle.euler.specs.Inverses.{inverse_eight}
use Rattle.promises.specs.Logging.{put_length, put_live, put_rest, put_front}
use Rattle.promises.specs.Leads.{Leads, none, first}
use Rattle.sound_operators.specs.Theorems.{all_hold}

-- undoing n operators from state t leads to t₀
pub record Back (sh : Shape) (n : ℕ) (t₀ t : State) : Type 0 where
  pub good : Good sh t.links t.points
  pub below : t.start ≤ t₀.start
  pub fits : t₀.start ≤ length t₀.log
  pub same_length : length t.log ≡ length t₀.log
  pub rest : drop t₀.start t.log ≡ drop t₀.start t₀.log
  pub front : take t.start t.log ≡ take t.start t₀.log
  pub leads : Leads sh t₀.links t₀.points (drop t₀.start t₀.log) n t.links t.points
      (drop t.start t.log)

-- a good state whose start is not beyond the log leads to itself
pub back_none : {sh : Shape} (t : State) → Good sh t.links t.points → t.start ≤ length t.log → Back sh 0 t t
back_none t g h = record {
  good = g;
  below = omega arith;
  fits = h;
  same_length = refl;
  rest = refl;
  front = refl;
  leads = none refl refl refl;
}

-- an operator that is carried out is admitted, and its inverse has room
pub carries : (sh : Shape) (t : State) (o : Operator) → carry_refusal sh t o ≡ 0
    → (admit_of sh t.links o ≡ 0) × (length (inverse_bytes sh t o) ≤ t.start)
unfolding carry_refusal
carries sh t o h =
    let n = first_zero (admit_of sh t.links o) _ h in
    (n.0, leb-true _ _ (yes (leb (length (inverse_bytes sh t o)) t.start) n.1))
  where
    yes : (b : Bool) → ◌≡◌ {A = ℕ} (pick b 0 9) 0 → b ≡ true
    yes true e = refl
    yes false e = absurd (omega arith)

-- a step that is not refused: its operator is read and admitted, and the inverse has room
pub steps : (sh : Shape) (t : State) (s : List ℕ) (at : ℕ) → run_refusal sh t s at ≡ 0
    → (refusal_at sh t.links s at ≡ 0) × (length (inverse_bytes sh t (read_at sh s at).op) ≤ t.start)
unfolding run_refusal
steps sh t s at h =
    let r = first_zero (read_at sh s at).refusal _ h in
    let c = carries sh t (read_at sh s at).op r.1 in
    (sym (read_admitted sh t.links (read_at sh s at) r.0 0 (sym c.0)), c.1)

-- an accepted operator adds one
pub back_stepped : {sh : Shape} {n : ℕ} (t₀ t : State) (o : Operator) → Back sh n t₀ t → length o.args ≡ 8
    → refusal_of sh t.links o ≡ 0
    → length (inverse_bytes sh t o) ≤ t.start → Back sh (suc n) t₀ (stepped sh t o)
unfolding stepped inverse_bytes
back_stepped {sh} {n} t₀ t o b len acc room =
    let h = all_hold sh t.links t.points o b.good len acc in
    let i : Operator = inverse sh t.links t.points o in
    let f : t.start ≤ length t.log = omega (arith, b.below, b.fits, b.same_length) in
    record {
      good = h.0;
      below = omega (arith, b.below);
      fits = b.fits;
      same_length = put_length t.log t.start (operator_bytes i) room f ∙ b.same_length;
      rest = put_rest t.log t.start (operator_bytes i) room f t₀.start b.below ∙ b.rest;
      front =
          let k : ℕ = t.start - length (operator_bytes i) in
          put_front t.log t.start (operator_bytes i) room f k (omega (arith, room))
          ∙ sym (take-take k t.start t.log (omega arith)) ∙ ap (take k) b.front
          ∙ take-take k t.start t₀.log (omega arith);
      leads = first {n = n} {p = points_after sh t.links t.points o} i (drop t.start t.log)
          (put_live t.log t.start (operator_bytes i) room f) (inverse_eight sh t.links t.points o)
          h.1.accepted
          (rw (h.1.links, h.1.points) b.leads);
    }
