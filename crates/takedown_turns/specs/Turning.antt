-- A turn that may lack a number: then nothing is done.
use Rattle.std.specs.Prelude.{◌≡◌, true, false, List, ℕ, ℤ, ◌+◌, ◌≤◌, Option, None, Some}
use Rattle.layout.specs.declared.shape.Shape.{Shape}
use Rattle.takedown.specs.declared.ends.Ends.{Ends}
use Rattle.takedown.specs.Swift.{swift_turn, swift_lacks}
use Rattle.takedown_ends.specs.InWords.{InWords}
use Rattle.takedown_acts.specs.declared.acts.Progress.{Progress}
use Rattle.takedown_acts.specs.Held.{held}
use Rattle.takedown_across.specs.declared.across.Stage.{Stage}
use Rattle.takedown_across.specs.Passing.{staged}

-- what a turn of the lists x, p and log leaves: where it lacks a number, the work as it was; else the turn done
abbrev pub Turned : Shape → Ends → Progress → List ℕ → List ℤ → List ℕ → Option Stage → List ℕ → List ℤ → List ℕ
    → Type 0
Turned sh e at x p log None y q m = (swift_lacks sh e x ≡ true) × (held at y q m ≡ held at x p log)
Turned sh e at x p log (Some s) y q m =
    (swift_lacks sh e x ≡ false) × (staged s y q m ≡ swift_turn sh e x (held at x p log))
    × (s.progress.done ≤ at.done + 4099) × (InWords s.ends)
