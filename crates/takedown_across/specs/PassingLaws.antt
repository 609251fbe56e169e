-- The ways through a turn of A, one law each, over plain variables.
use Rattle.std.specs.Prelude.{◌≡◌, ◌≢◌, Bool, List, ℕ, ◌+◌, ◌-◌, ◌*◌, eqb}
use Rattle.std.proofs.Common.{ap, ◌∙◌, eq-eqb, ne_eqb}
use Rattle.laws.specs.Bools.{pick}
use Rattle.script.specs.declared.Operator.{Operator}
use Rattle.layout.specs.declared.shape.Shape.{Shape}
use Rattle.layout.specs.Layout.{loop_of, next_of, side}
use Rattle.layout.specs.Items.{is_ring}
use Rattle.takedown.specs.declared.ends.Ends.{Ends}
use Rattle.takedown.specs.Inversion.{kef, outside, Work, act}
use Rattle.takedown.specs.Inversion.{make_outer, move_rings}
use Rattle.takedown.specs.Swift.{seek, stray_ring, loop_from, least_mate, ends_at, across}
use Rattle.takedown_across.specs.declared.across.Passage.{Passage}
use Rattle.takedown_plans.specs.Plans.{swift_is}
use Rattle.takedown_across.specs.Passing.{moved_by, Planned}

-- no ring of another face than the root is found
pub stray_past : (sh : Shape) (x : List ℕ) (e : Ends) (l : ℕ)
    → l ≡ seek sh.loops e.stray (stray_ring sh x e.solid e.root) → l ≡ 0
    → sh.loops + 1 ≡ loop_from sh x e
stray_past sh x e l el z = rw (← el, eq-eqb l 0 z)

-- one is
pub stray_found : (sh : Shape) (x : List ℕ) (e : Ends) (l : ℕ)
    → l ≡ seek sh.loops e.stray (stray_ring sh x e.solid e.root) → l ≢ 0
    → l ≡ loop_from sh x e
stray_found sh x e l el z = rw (← el, ne_eqb l 0 z)

-- what a turn of A reads, place by place
pub passage_read : (sh : Shape) (x : List ℕ) (e : Ends) (half own stray next face low near : ℕ) (ring : Bool)
    → half ≡ seek (2 * sh.edges) e.border (outside sh x e.root) → own ≡ loop_of sh x half
    → ring ≡ is_ring sh x own → stray ≡ loop_from sh x e
    → next ≡ next_of sh x half → face ≡ side sh x half → low ≡ pick ring 1 stray
    → near ≡ least_mate sh (2 * sh.edges) x next half half
    → Planned sh x e (record { half = half; own = own; face = face; low = low; stray = stray; near = near })
passage_read sh x e half own stray next face low near ring eh eo er es en ef el ew =
    record {
      half = eh;
      own = eo;
      face = ef;
      low = el ∙ ap (λ b. pick b 1 stray) er;
      stray = es;
      near = ew ∙ ap (λ j. least_mate sh (2 * sh.edges) x j half half) en;
    }

-- a face is passed, step by step
module _ (sh : Shape) (p : Passage) (root : ℕ) (w a b : Work) (ea : a ≡ make_outer sh p.own p.face w)
    (eb : b ≡ move_rings sh (sh.loops + 1 - p.low) p.low p.face root a) where
  pub passed : (o : Operator) (c : Work) → o ≡ kef p.half → c ≡ act sh b o
      → c ≡ act sh (moved_by sh p root w) (kef p.half)
  passed o c eo ec = rw (ec, eo, eb, ea)

  pub passed_still : eqb b.done w.done ≡ eqb (moved_by sh p root w).done w.done
  passed_still = rw (eb, ea)

-- a turn of A
pub across_is : (sh : Shape) (x : List ℕ) (e : Ends) (p : Passage) → Planned sh x e p
    → (w c : Work) (still : Bool) (r : Ends)
    → c ≡ act sh (moved_by sh p e.root w) (kef p.half) → still ≡ eqb (moved_by sh p e.root w).done w.done
    → r ≡ ends_at e.solid e.root (e.faces - 1) (pick still p.near 1) (pick still p.stray 1)
    → swift_is c r ≡ across sh e x (seek (2 * sh.edges) e.border (outside sh x e.root)) w
across_is sh x e p P w c still r ec es er = rw (er, es, ec, P.low, P.near, P.stray, P.own, P.face, P.half)
