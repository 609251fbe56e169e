-- What the take-down has come to where nothing is left: all that it promises (`whole`).
use Rattle.std.specs.Prelude.{◌≡◌, refl, List, [], ◌++◌, ℕ, ◌+◌, ◌-◌, ◌*◌, ◌≤◌, ℤ, length}
use Rattle.std.specs.Prelude.{take, drop}
use Rattle.std.proofs.Common.{sym, ap, ◌∙◌, subst, append_assoc, zero-add, arith, length-append, length-drop}
use Rattle.std.proofs.Math.Seq.{take-append_seam}
use Rattle.script.specs.Operator.{operator_bytes}
use Rattle.codec.specs.Ranges.{Within}
use Rattle.script.specs.Scripts.{operator_size}
use Rattle.layout.specs.declared.shape.Shape.{Shape}
use Rattle.layout.specs.Layout.{shape_of}
use Rattle.euler.specs.Exec.{limits}
use Rattle.table.specs.declared.check.CheckAnswer.{CheckAnswer}
use Rattle.script.specs.declared.Operator.{Operator}
use Rattle.sound_tables.specs.Accepted.{accepted}
use Rattle.sound_tables.specs.Good.{Good}
use Rattle.sound_operators.specs.Theorems.{all_hold}
use Rattle.runs.specs.Run.{State, state, Ran, run_of, run_from}
use Rattle.runs.specs.Clauses.{run_in_lem}
use Rattle.promises.specs.Reading.{range_writable}
use Rattle.promises.specs.Leads.{Leads, none, first}
use Rattle.promises.specs.Checked.{good_within, good_entry}
use Rattle.promises.specs.WayBack.{Back, back_none}
use Rattle.evidence_fuel.specs.Inverse.{inverse_small}
use Rattle.takedown.specs.Inversion.{Work, inverted}
use Rattle.takedown.specs.Inversion.{begin}
use Rattle.inversion.specs.Script.{joins_of, joins_first, room_of, room_first}
use Rattle.inversion.specs.Path.{Path, acted, acted_table, path_back, joins_in, path_joins}
use Rattle.inversion.specs.Rebuild.{leads_part, Builds, leads_run}
use Rattle.inversion.specs.Counts.{solids, faces, vertices, rings}
use Rattle.inversion.specs.Promise.{clear_links, clear_points, Exact}

-- ---- a part of the log as a script

-- each operator takes a byte
leads_long : (sh : Shape) {x₀ : List ℕ} {p₀ : List ℤ} {q₀ : List ℕ} {n : ℕ} {x : List ℕ} {p : List ℤ} {q : List ℕ}
    → Within (limits sh) → Leads sh x₀ p₀ q₀ n x p q → n ≤ length q
leads_long sh v (none e f g) = omega arith
leads_long sh {x = x} v (first o rest e len acc more) =
    let s = operator_size o (range_writable v o len (accepted sh x o acc)) in
    omega (arith, ap length e ∙ length-append (operator_bytes o) rest, s.0, leads_long sh v more)

-- the joins of a part do not depend on what is behind it
joins_part : (sh : Shape) {x₀ : List ℕ} {p₀ : List ℤ} {n : ℕ} {x : List ℕ} {p : List ℤ} {b : List ℕ} (q₀ : List ℕ)
    → Within (limits sh) → Leads sh x₀ p₀ [] n x p b
    → joins_of n sh (b ++ q₀) x ≡ joins_of n sh b x
unfolding joins_of
joins_part sh q₀ v (none e f g) = refl
joins_part sh {x = x} {b = b} q₀ v (first {n} o rest e len acc more) =
    let d : b ++ q₀ ≡ operator_bytes o
    ++ (rest ++ q₀) = ap (λ t. t ++ q₀) e ∙ append_assoc (operator_bytes o) rest q₀ in
    joins_first sh v x o len acc (b ++ q₀) (rest ++ q₀) d n
    ∙ rw (joins_part sh q₀ v more) (sym (joins_first sh v x o len acc b rest e n))

-- nineteen bytes for each inverse are enough
room_enough : (sh : Shape) {x₀ : List ℕ} {p₀ : List ℤ} {n : ℕ} {x : List ℕ} {p : List ℤ} {b : List ℕ} → Good sh x p
    → Leads sh x₀ p₀ [] n x p b → room_of n sh b x p ≤ 19 * n
unfolding room_of
room_enough sh g (none e f h) = omega arith
room_enough sh {x = x} {p} {b} g (first {n} o rest e len acc more) =
    omega (
      arith,
      room_first sh (good_within g) x o len acc b rest e n p,
      (inverse_small g o len acc).most,
      room_enough sh (all_hold sh x p o g len acc).0 more,
    )

-- what the work leaves, n operators done
abbrev ends : State → ℕ → List ℕ → ℕ → Work
ends t n log start = record { done = n; state = state (clear_links t.links) (clear_points t.links) log start }

-- nothing in use, and undoing n operators leads back to t: what the log between the two starts is then
finish : (t : State) (n h : ℕ) (log : List ℕ) (start : ℕ)
    → Back (shape_of t.links) n t (state (clear_links t.links) (clear_points t.links) log start)
    → joins_of n (shape_of t.links) (drop start log) (clear_links t.links) ≡ h
    → n + 2 * solids (shape_of t.links) t.links ≤ vertices (shape_of t.links) t.links
    + 2 * faces (shape_of t.links) t.links + 2 * rings (shape_of t.links) t.links + 3 * h
    → Exact t (inverted 0 0 (ends t n log start)) h
finish t n h log start b jo short =
    let sh = shape_of t.links in
    let parts = leads_part b.leads in
    let v = good_within b.good in
    let size : length parts.0 ≡ t.start - start =
    omega (
      arith,
      ap length parts.1 ∙ length-append parts.0 (drop t.start t.log),
      length-drop start log,
      length-drop t.start t.log,
      b.same_length,
      b.below,
      b.fits,
    ) in
    let script : take (t.start - start) (drop start log) ≡ parts.0 =
    ap (λ k. take k (drop start log)) (sym size) ∙ ap (take (length parts.0)) parts.1
    ∙ take-append_seam parts.0 (drop t.start t.log) in
    let part-joins = joins_part sh (drop t.start t.log) v parts.2 in
    record {
      refusal = refl;
      rule = refl;
      links = refl;
      points = refl;
      below = b.below;
      same_length = b.same_length;
      rest = b.rest;
      front = b.front;
      bound = omega (arith, short);
      rebuilt = λ log' start' l r.
          let u : State = state (clear_links t.links) (clear_points t.links) log' start' in
          let en = run_in_lem u parts.0 (ap (λ (c : CheckAnswer). c.refusal) (good_entry u b.good l)) in
          let run = leads_run sh u v parts.2 parts.0 0 0 (length parts.0) (omega arith) refl
          (leads_long sh v parts.2)
          (subst (λ q. room_of n sh q (clear_links t.links) (clear_points t.links) ≤ start') script r) in
          subst (λ q. Builds t.links t.points n (length q) (run_of u q)) (sym script)
          (subst (λ (a : Ran). Builds t.links t.points n (length parts.0) a) (sym en)
          (subst (λ m. Builds t.links t.points m (length parts.0)
          (run_from (length parts.0) sh parts.0 0 0 u)) (zero-add n) run));
      enough = subst (λ q. room_of n sh q (clear_links t.links) (clear_points t.links) ≤ 19 * n) (sym script)
          (room_enough sh b.good parts.2);
      joins = ap (λ q. joins_of n sh q (clear_links t.links)) script ∙ sym part-joins
          ∙ ap (λ q. joins_of n sh q (clear_links t.links)) (sym parts.1) ∙ jo;
    }

-- a chain of accepted operators down to nothing
pub whole : (t : State) (h : ℕ) (os : List Operator) → t.start ≤ length t.log
    → Good (shape_of t.links) t.links t.points
    → Path (shape_of t.links) (clear_links t.links) (clear_points t.links) os t.links t.points
    → joins_in (shape_of t.links) t.links t.points os ≡ h
    → length os + 2 * solids (shape_of t.links) t.links ≤ vertices (shape_of t.links) t.links
    + 2 * faces (shape_of t.links) t.links + 2 * rings (shape_of t.links) t.links + 3 * h
    → 19 * length os ≤ t.start → Exact t (inverted 0 0 (acted (shape_of t.links) (begin t) os)) h
unfolding joins_of
whole t h os le g path j short room =
    let sh = shape_of t.links in
    let w = acted sh (begin t) os in
    let u = acted_table sh (begin t) path in
    let b : Back sh (length os) t w.state =
    rw (zero-add (length os)) at (path_back sh t (begin t) (back_none t g le) path room) in
    let k : joins_of (length os) sh (drop w.state.start w.state.log) w.state.links ≡ h =
    omega (
      arith,
      subst (λ m. joins_of m sh (drop w.state.start w.state.log) w.state.links
          ≡ joins_in sh t.links t.points os + 0) (zero-add (length os)) (path_joins sh t (begin t)
          (back_none t g le) path room),
      j,
    ) in
    same (length os) w w.state.links w.state.points (u.2 ∙ zero-add (length os)) refl refl u.0
    u.1 b k short
  where
    same : (n : ℕ) (w : Work) (x : List ℕ) (p : List ℤ) → w.done ≡ n → w.state.links ≡ x → w.state.points ≡ p
        → x ≡ clear_links t.links → p ≡ clear_points t.links
        → Back (shape_of t.links) n t w.state
        → joins_of n (shape_of t.links) (drop w.state.start w.state.log) w.state.links ≡ h
        → n + 2 * solids (shape_of t.links) t.links ≤ vertices (shape_of t.links) t.links
        + 2 * faces (shape_of t.links) t.links + 2 * rings (shape_of t.links) t.links + 3 * h
        → Exact t (inverted 0 0 w) h
    same n w x p dn ex ep cx cp b k s =
        let log = w.state.log in
        let start = w.state.start in
        let is : w ≡ ends t n log start = rw (dn, ex ∙ cx, ep ∙ cp) in
        subst (λ (v : Work). Exact t (inverted 0 0 v) h) (sym is)
        (finish t n h log start (subst (λ (v : Work). Back (shape_of t.links) n t v.state) is b)
        (subst (λ (v : Work). joins_of n (shape_of t.links) (drop start log) v.state.links ≡ h) is k) s)
