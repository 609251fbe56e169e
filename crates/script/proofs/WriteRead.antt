-- What is written is read back: the round trip of one operator, first written and then read.
use Rattle.std.specs.Prelude.{◌≡◌, refl, Bool, true, false, List, ℕ, ◌≤◌, eqb, leb, length, drop}
use Rattle.std.proofs.Common.{◌∙◌, zero-add, arith, leb-true, eqb-true}
use Rattle.std.proofs.lemmas.Bool.{eqb-false}
use Rattle.laws.specs.Bools.{pick}
use Rattle.script.specs.declared.Operator.{Operator}
use Rattle.codec.specs.Operands.{widest}
use Rattle.script.specs.Operator.{read_operator, operator_bytes, operator_refusal, Written, not_written}
use Rattle.script.specs.Operator.{write_operator}
use Rattle.script.specs.RoundTrip.{Writable, operator_written}
use Rattle.script.specs.EntryTrips.{write_fits}

-- by its two tests
tests : (a b : Bool) (r : ℕ) (u : Written) (out : List ℕ) → (a ≡ false → r ≡ 0 → ⊥)
    → (pick a (pick b u (not_written 9 out)) (not_written r out)).answer.refusal ≡ 0 → (a ≡ true) × (b ≡ true)
tests true true r u out f e = (refl, refl)
tests true false r u out f e = absurd (omega arith)
tests false b r u out f e = absurd (f refl e)

-- what it did not refuse can be written and fits
write_parts : (o : Operator) (out : List ℕ) → (write_operator o out).answer.refusal ≡ 0
    → (operator_refusal o ≡ 0) × (length (operator_bytes o) ≤ length out)
unfolding write_operator
write_parts o out e =
    let fits = leb (length (operator_bytes o)) (length out) in
    let t = tests (eqb (operator_refusal o) 0) fits (operator_refusal o) _ out (eqb-false _ 0) e in
    (eqb-true _ 0 t.0, leb-true _ _ t.1)

-- WRITE, THEN READ: what is written is read back as the same operator, and behind it is the length answered
pub write_read : (o : Operator) (out : List ℕ) → length o.args ≡ 8 → (write_operator o out).answer.refusal ≡ 0
    → read_operator widest (write_operator o out).out 0
    ≡ record { refusal = 0; next = (write_operator o out).answer.length; op = o }
write_read o out eight e =
    let p = write_parts o out e in
    let w : Writable o = record { eight_args = eight; not_refused = p.0 } in
    rw (write_fits o out p.0 p.1)
    (operator_written o w _ 0 (drop (length (operator_bytes o)) out) refl ∙ rw (zero-add (length (operator_bytes o))))
