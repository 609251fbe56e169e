-- The roll-back of the take-down: as many operators as were done, read off the log and carried out unlogged, lead to
-- the table handed in. So by 10 the code leaves the table that the definition says.
use Rattle.std.specs.Prelude.{◌≡◌, refl, List, ℕ, ◌+◌, ℤ, length, drop}
use Rattle.std.proofs.Common.{◌∙◌}
use Rattle.numbers.specs.PaddedLaws.{drop_part}
use Rattle.script.specs.Operator.{operator_bytes}
use Rattle.codec.specs.Ranges.{Within}
use Rattle.layout.specs.declared.shape.Shape.{Shape}
use Rattle.euler.specs.Exec.{limits, links_after, points_after}
use Rattle.sound_tables.specs.Accepted.{accepted}
use Rattle.runs.specs.Run.{State, state}
use Rattle.promises.specs.Reading.{written_at}
use Rattle.promises.specs.Checked.{good_within}
use Rattle.promises.specs.Leads.{Leads, none, first}
use Rattle.promises.specs.WayBack.{Back}
use Rattle.takedown.specs.Inversion.{Work}
use Rattle.takedown.specs.Swift.{undone, rolled_back}

-- operators that lead to a table, carried out unlogged
undone_leads : (sh : Shape) {x₀ : List ℕ} {p₀ : List ℤ} {q₀ : List ℕ} {n : ℕ} {q : List ℕ} (t : State)
    → Within (limits sh) → drop t.start t.log ≡ q → Leads sh x₀ p₀ q₀ n t.links t.points q
    → ((undone n sh t).links ≡ x₀) × ((undone n sh t).points ≡ p₀)
unfolding undone
undone_leads sh t v d (none e f g) = (e, f)
undone_leads sh t v d (first o rest e len acc more) =
    let x = t.links in
    let w = written_at v o len (accepted sh x o acc) t.log t.start rest (d ∙ e) in
    rw (undone, w)
    (undone_leads sh
    (state (links_after sh x o) (points_after sh x t.points o) t.log (t.start + length (operator_bytes o))) v
    (drop_part t.log t.start (operator_bytes o) rest (d ∙ e)) more)

-- THE ROLL-BACK GIVES BACK THE TABLE HANDED IN
pub rolled_back_lem : (sh : Shape) (t : State) (w : Work) (n : ℕ) → w.done ≡ n → Back sh n t w.state
    → rolled_back sh t w ≡ state t.links t.points w.state.log t.start
rolled_back_lem sh t w n dn b =
    let u = undone_leads sh w.state (good_within b.good) refl b.leads in
    rw (dn, u.0, u.1)
