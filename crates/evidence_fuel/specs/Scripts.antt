-- A run carries fuel too, as many steps as its script has bytes. Each operator takes a byte, so that is enough, on any
-- table.
use Rattle.std.specs.Prelude.{◌≡◌, refl, List, ℕ, zero, suc, ◌+◌, ◌≤◌, length}
use Rattle.std.proofs.Common.{sym, ◌∙◌, ⊎_elim, suc-add, arith, lt-ltb}
use Rattle.laws.specs.Bools.{split, le?, eqb_same, eqb_other}
use Rattle.script.specs.RoundTrip.{read_next}
use Rattle.layout.specs.declared.shape.Shape.{Shape}
use Rattle.euler.specs.Exec.{limits}
use Rattle.runs.specs.Run.{State, read_at, run_refusal, stepped, run_from}
use Rattle.runs.specs.RunLaws.{run_read, run_ended}

-- as many steps as bytes are left are as good as more
run_enough : (sh : Shape) (s : List ℕ) (m n at done : ℕ) (t : State) → length s ≤ at + m
    → run_from (m + n) sh s at done t ≡ run_from m sh s at done t
unfolding run_from
run_enough sh s zero n at done t h = run_ended sh s (0 + n) at done t (omega arith)
run_enough sh s (suc m) n at done t h = ⊎_elim
    (λ e. run_ended sh s (suc m + n) at done t e ∙ sym (run_ended sh s (suc m) at done t e))
    (λ l. split (run_refusal sh t s at) 0
    (λ z.
    let r = read_next (limits sh) s at (run_read sh t s at z) in
    rw (suc-add m n, lt-ltb at (length s) l, eqb_same z)
    (run_enough sh s m n (read_at sh s at).next (done + 1) (stepped sh t (read_at sh s at).op)
    (omega (arith, h, r.0))))
    (λ z. rw (suc-add m n, lt-ltb at (length s) l, eqb_other z) refl))
    (le? (length s) at)

-- so the fuel of a run cuts nothing off
pub run_fuel : (sh : Shape) (t : State) (s : List ℕ) (n : ℕ) → run_from (length s + n) sh s 0 0 t
    ≡ run_from (length s) sh s 0 0 t
run_fuel sh t s n = run_enough sh s (length s) n 0 0 t (omega arith)
