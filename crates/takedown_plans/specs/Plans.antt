-- What it means that a plan is carried out.
use Rattle.std.specs.Prelude.{◌≡◌, Bool, true, false, Option, None, Some}
use Rattle.script.specs.declared.Operator.{Operator}
use Rattle.layout.specs.declared.shape.Shape.{Shape}
use Rattle.takedown.specs.declared.ends.Ends.{Ends}
use Rattle.takedown.specs.Inversion.{Work, act}
use Rattle.takedown.specs.Swift.{Swift}
use Rattle.takedown_ends.specs.InWords.{InWords}
use Rattle.takedown_plans.specs.declared.plans.Plan.{Plan}

-- the work, and what is carried on
abbrev pub swift_is : Work → Ends → Swift
swift_is w e = record { work = w; ends = e }

-- an operator more, where there is one
abbrev pub act_if : Shape → Work → Option Operator → Work
act_if sh w None = w
act_if sh w (Some o) = act sh w o

-- its operators one after the other
abbrev pub carried : Shape → Plan → Work → Swift
carried sh r w = swift_is (act_if sh (act sh w r.first) r.second) r.ends

-- no plan where the turn lacks a number; else one that comes to the turn
abbrev pub PlanFor : Shape → Option Plan → Bool → (Work → Swift) → Type 0
PlanFor sh None lack turn = lack ≡ true
PlanFor sh (Some r) lack turn = (lack ≡ false) × ((w : Work) → carried sh r w ≡ turn w) × (InWords r.ends)
