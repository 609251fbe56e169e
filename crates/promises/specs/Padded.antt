-- A PADDED SCRIPT DOES WHAT ITS SHORTEST FORM DOES, bytes taken aside (document 02, job 1): from any state and of any
-- bytes, refused ones too. The same of a padded log that operators are moved out of, by undo or redo.
use Rattle.std.specs.Prelude.{◌≡◌, refl, Bool, true, false, List, [], ◌++◌, ℕ, zero, suc, ◌+◌, ◌-◌, ◌≤◌, ◌<◌, eqb, ltb}
use Rattle.std.specs.Prelude.{length, take, drop}
use Rattle.std.proofs.Common.{sym, ap, ◌∙◌, ⊎_elim, append-nil, add-zero, add_assoc, arith, length-append}
use Rattle.std.proofs.Common.{drop_of_length-le, length-take-le, take_all, eqb-true}
use Rattle.laws.specs.Bools.{pick, le?, split, eqb_same}
use Rattle.numbers.specs.Padded.{shorten, shorten_from}
use Rattle.numbers.specs.PaddedLaws.{PadsAt, pads_none, pads_both, shorten_between, shorten_nil, shorten_length}
use Rattle.numbers.specs.PaddedLaws.{alike_behind, ends_alike, shorten_from_lem}
use Rattle.script.specs.Operator.{operator_bytes}
use Rattle.script.specs.RoundTrip.{read_next, read_pads}
use Rattle.script.specs.Padded.{in_short, read_padded}
use Rattle.layout.specs.declared.shape.Shape.{Shape}
use Rattle.layout.specs.Layout.{shape_of}
use Rattle.euler.specs.Exec.{limits}
use Rattle.runs.specs.Run.{State, read_at, carry_refusal, run_refusal, stepped, entry, Ran, leaves, run_from, run_of}
use Rattle.runs.specs.Move.{Moved, moved_by, move_of}
use Rattle.runs.specs.RunLaws.{run_read, run_ended}
use Rattle.runs.specs.Clauses.{run_none, run_some, run_in_lem, run_out, moved_beyond, move_within, move_in, move_out}

-- a run's answer and what it left, the bytes used counted in shortest form
abbrev pub short_used : List ℕ → Ran → Ran
short_used s r =
    leaves
    (record {
      refusal = r.answer.refusal;
      rule = r.answer.rule;
      done = r.answer.done;
      used = length (shorten (take r.answer.used s));
      start = r.answer.start;
    })
    r.links r.points r.log

-- of two values taken by one test
pick_alike : {X : Type 0} (f : X → X) (b : Bool) {u w u' w' : X} → (b ≡ true → u' ≡ f u) → (b ≡ false → w' ≡ f w)
    → pick b u' w' ≡ f (pick b u w)
pick_alike f true g h = g refl
pick_alike f false g h = h refl

-- ---- one operator

-- u has at b the shortest form of what s has at a
module _ (sh : Shape) (s u : List ℕ) (a b : ℕ) (e : drop b u ≡ shorten (drop a s)) where
  -- the same operator is read
  read_alike : read_at sh u b ≡ in_short b (read_at sh s a)
  read_alike = read_padded (limits sh) s u a b e

  -- a run refuses it alike
  run_alike : (t : State) → run_refusal sh t u b ≡ run_refusal sh t s a
  unfolding run_refusal carry_refusal
  run_alike t = rw read_alike

-- a place of u goes on behind an operator by its bytes in fewest groups
behind_alike : (sh : Shape) (s : List ℕ) (from at : ℕ) (w : List ℕ) → (read_at sh s at).refusal ≡ 0
    → (in_short (from + length w) (read_at sh s at)).next
    ≡ from + length (w ++ operator_bytes (read_at sh s at).op)
behind_alike sh s from at w z =
    let o = operator_bytes (read_at sh s at).op in
    rw (eqb_same z, length-append w o) (add_assoc from (length w) (length o))

-- ---- operator by operator

-- what is left of a run whose place in s is counted in shortest form from `from` on
abbrev short_place : ℕ → List ℕ → Ran → Ran
short_place from s r =
    leaves
    (record {
      refusal = r.answer.refusal;
      rule = r.answer.rule;
      done = r.answer.done;
      used = from + length (shorten (take (r.answer.used - from) (drop from s)));
      start = r.answer.start;
    })
    r.links r.points r.log

-- such a place
place_alike : (s : List ℕ) (from at : ℕ) (w : List ℕ) → PadsAt s from at w
    → from + length w ≡ from + length (shorten (take (at - from) (drop from s)))
place_alike s from at w x = rw (shorten_between x)

-- from a place on, behind whole numbers: u has there the shortest form of what s has
part_alike : (sh : Shape) (s u : List ℕ) (from n at done : ℕ) (t : State) (w : List ℕ)
    → drop from u ≡ shorten (drop from s) → PadsAt s from at w
    → run_from n sh u (from + length w) done t ≡ short_place from s (run_from n sh s at done t)
part_alike sh s u from zero at done t w f x =
    run_none sh u (from + length w) done t ∙ rw (run_none sh s at done t, place_alike s from at w x)
part_alike sh s u from (suc n) at done t w f x =
    let b : ℕ = from + length w in
    let o = (read_at sh s at).op in
    let e = alike_behind x u from f in
    let p = place_alike s from at w x in
    run_some n sh u b done t
    ∙ rw (ends_alike s u at b e, run_alike sh s u at b e t, read_alike sh s u at b e)
    (pick_alike (short_place from s) (ltb at (length s))
    (λ l. pick_alike (short_place from s) (eqb (run_refusal sh t s at) 0)
    (λ z.
    let r = run_read sh t s at (eqb-true _ 0 z) in
    rw (behind_alike sh s from at w r)
    (part_alike sh s u from n (read_at sh s at).next (done + 1) (stepped sh t o) (w ++ operator_bytes o) f
    (pads_both x (read_pads (limits sh) s at r))))
    (λ z. rw p))
    (λ l. rw p))
    ∙ sym (ap (short_place from s) (run_some n sh s at done t))

-- ---- run

-- there are no more operators than bytes: more steps change nothing
run_enough : (sh : Shape) (s : List ℕ) (m n at done : ℕ) (t : State) → length s ≤ at + m → length s ≤ at + n
    → run_from m sh s at done t ≡ run_from n sh s at done t
run_enough sh s zero n at done t h i = run_none sh s at done t ∙ sym (run_ended sh s n at done t (omega arith))
run_enough sh s (suc m) zero at done t h i = run_ended sh s (suc m) at done t (omega arith) ∙ sym (run_none sh s at done
    t)
run_enough sh s (suc m) (suc n) at done t h i =
    run_some m sh s at done t
    ∙ pick_alike (λ r. r) (ltb at (length s))
    (λ l. pick_alike (λ r. r) (eqb (run_refusal sh t s at) 0)
    (λ z.
    let g = read_next (limits sh) s at (run_read sh t s at (eqb-true _ 0 z)) in
    run_enough sh s m n (read_at sh s at).next (done + 1) (stepped sh t (read_at sh s at).op) (omega (arith, g.0))
    (omega (arith, g.0)))
    (λ z. refl))
    (λ l. refl)
    ∙ sym (run_some n sh s at done t)

-- A PADDED SCRIPT: the same refusal, rule, done and start, the same table and log; `used` is the length of the shortest
-- form of the bytes used
pub padded_run : (t : State) (s : List ℕ) → run_of t (shorten s) ≡ short_used s (run_of t s)
padded_run t s = split (entry t).refusal 0
    (λ h.
    let sh = shape_of t.links in
    let r = run_from (length s) sh s 0 0 t in
    let l = shorten_length s in
    let z : r.answer.used - 0 ≡ r.answer.used = omega arith in
    let q : 0 + length (shorten (take r.answer.used s)) ≡ length (shorten (take r.answer.used s)) = omega arith
    in
    run_in_lem t (shorten s) h
    ∙ run_enough sh (shorten s) (length (shorten s)) (length s) 0 0 t (omega arith) (omega (arith, l))
    ∙ part_alike sh s (shorten s) 0 (length s) 0 0 t [] refl (pads_none s 0)
    ∙ rw (run_in_lem t s h, z, q))
    (λ d. run_out t (shorten s) d ∙ rw (run_out t s d, shorten_nil))

-- ---- moves

-- what a move leaves, the bytes of the source that it used counted in shortest form
abbrev pub short_source : List ℕ → ℕ → Moved → Moved
short_source source from m =
    leaves
    (record {
      refusal = m.answer.refusal;
      rule = m.answer.rule;
      done = m.answer.done;
      from = from + length (shorten (take (m.answer.from - from) (drop from source)));
      to = m.answer.to;
    })
    m.links m.points m.log

-- shortening the live part of a log leaves its start where it was, beyond the log or not
inside_alike : (s : List ℕ) (from : ℕ) → from ≤ length s → from ≤ length (shorten_from from s)
inside_alike s from h =
    let l = length-append (take from s) (shorten (drop from s)) in
    let k = length-take-le from s h in
    omega (arith, l, k)

beyond_alike : (s : List ℕ) (from : ℕ) → length s < from → shorten_from from s ≡ s
beyond_alike s from h =
    let k : length s ≤ from = omega arith in
    let d : drop from s ≡ [] = drop_of_length-le s k in
    rw (take_all from s k, d, shorten_nil, append-nil s)

-- A PADDED LOG: a move of its shortest form gives the same refusal, rule and count, and leaves the same table and the
-- same other log; its place is then behind the shortest form of the bytes used
pub padded_move : (source : List ℕ) (from : ℕ) (t : State) (n : ℕ)
    → move_of (shorten_from from source) from t n ≡ short_source source from (move_of source from t n)
padded_move source from t n =
    ⊎_elim inside
    (λ h.
    let z : from - from ≡ 0 = omega arith in
    rw (beyond_alike source from h, moved_beyond source from t n h, z, shorten_nil, add-zero from))
    (le? from (length source))
  where
    inside : from ≤ length source → move_of (shorten_from from source) from t n
        ≡ short_source source from (move_of source from t n)
    inside h =
        let sh = shape_of t.links in
        let e = move_within source from t h in
        let f = move_within (shorten_from from source) from t (inside_alike source from h) in
        let z : from - from ≡ 0 = omega arith in
        split (entry t).refusal 0
        (λ a.
        let p = part_alike sh source (shorten_from from source) from n from 0 t [] (shorten_from_lem from source h)
        (pads_none source from) in
        move_in (shorten_from from source) from t n (rw f a) ∙ ap (moved_by n) (rw (add-zero from) at p)
        ∙ rw (move_in source from t n (rw e a)))
        (λ d.
        move_out (shorten_from from source) from t n (rw f d)
        ∙ rw (move_out source from t n (rw e d), e, f, z, shorten_nil, add-zero from))
