-- The work between two turns as the code holds it, and what a turn of A reads first.
use Rattle.std.specs.Prelude.{◌≡◌, List, ℕ, ◌+◌, ◌-◌, ◌*◌, ◌<◌, ℤ}
use Rattle.laws.specs.Bools.{pick}
use Rattle.layout.specs.declared.shape.Shape.{Shape}
use Rattle.layout.specs.Layout.{loop_of, next_of, side}
use Rattle.layout.specs.Items.{is_ring}
use Rattle.takedown.specs.declared.ends.Ends.{Ends}
use Rattle.takedown.specs.Inversion.{Work, outside, make_outer, move_rings}
use Rattle.takedown.specs.Swift.{Swift, seek, loop_from, least_mate}
use Rattle.takedown_acts.specs.Held.{held}
use Rattle.takedown_plans.specs.Plans.{swift_is}
use Rattle.takedown_across.specs.declared.across.Passage.{Passage}
use Rattle.takedown_across.specs.declared.across.Stage.{Stage}

-- how far it has come, the lists, and what is carried on
abbrev pub staged : Stage → List ℕ → List ℤ → List ℕ → Swift
staged r x p log = swift_is (held r.progress x p log) r.ends

-- the rings of the face that is passed moved to the root
abbrev pub moved_by : Shape → Passage → ℕ → Work → Work
moved_by sh p root w = move_rings sh (sh.loops + 1 - p.low) p.low p.face root (make_outer sh p.own p.face w)

-- numbers that are asked of the table are words
pub record Words (p : Passage) : Type 0 where
  pub half : p.half < 65536
  pub own : p.own < 65536
  pub face : p.face < 65536

-- what a turn of A reads first
pub record Planned (sh : Shape) (x : List ℕ) (e : Ends) (p : Passage) : Type 0 where
  pub half : p.half ≡ seek (2 * sh.edges) e.border (outside sh x e.root)
  pub own : p.own ≡ loop_of sh x p.half
  pub face : p.face ≡ side sh x p.half
  pub low : p.low ≡ pick (is_ring sh x p.own) 1 p.stray
  pub stray : p.stray ≡ loop_from sh x e
  pub near : p.near ≡ least_mate sh (2 * sh.edges) x (next_of sh x p.half) p.half p.half
