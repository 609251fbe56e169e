-- What a half-edge or a loop is asked, answered from numbers read before: over plain variables, so that each proof of
-- code names just what it read.
use Rattle.std.specs.Prelude.{◌≡◌, Bool, not, ◌&&◌, List, ℕ, eqb}
use Rattle.layout.specs.declared.shape.Shape.{Shape}
use Rattle.layout.specs.Layout.{face_solid, loop_face, loop_of, next_of, side}
use Rattle.layout.specs.Mate.{mate}
use Rattle.layout.specs.Items.{is_ring}
use Rattle.takedown.specs.Inversion.{outside, of_solid, in_ring, is_spur, is_ring_of}
use Rattle.takedown.specs.Swift.{stray_ring}

module _ (sh : Shape) (x : List ℕ) where
  pub outside_read : (root k : ℕ) {m there here : ℕ} → m ≡ mate k → there ≡ side sh x m → here ≡ side sh x k
      → (eqb there root && not (eqb here root)) ≡ outside sh x root k
  outside_read root k em et eh = rw (et, eh, em)

  pub solid_read : (s k : ℕ) {f own : ℕ} → f ≡ side sh x k → own ≡ face_solid sh x f → eqb own s ≡ of_solid sh x s k
  solid_read s k ef eo = rw (eo, ef)

  pub in_ring_read : (s k : ℕ) {here ring : Bool} {l m other : ℕ} → here ≡ of_solid sh x s k → l ≡ loop_of sh x k
      → ring ≡ is_ring sh x l → m ≡ mate k → other ≡ loop_of sh x m
      → ((here && ring) && not (eqb other l)) ≡ in_ring sh x s k
  in_ring_read s k eh el er em eo = rw (eh, er, eo, em, el)

  pub spur_read : (s k : ℕ) {here : Bool} {next m : ℕ} → here ≡ of_solid sh x s k → next ≡ next_of sh x k → m ≡ mate k
      → (here && eqb next m) ≡ is_spur sh x s k
  spur_read s k eh en em = rw (eh, en, em)

  pub ring_of_read : (f l : ℕ) {own : ℕ} {ring : Bool} → own ≡ loop_face sh x l → ring ≡ is_ring sh x l
      → (eqb own f && ring) ≡ is_ring_of sh x f l
  ring_of_read f l eo er = rw (eo, er)

  pub stray_read : (s root l : ℕ) {f own : ℕ} {ring : Bool} → f ≡ loop_face sh x l → own ≡ face_solid sh x f
      → ring ≡ is_ring sh x l → ((eqb own s && not (eqb f root)) && ring) ≡ stray_ring sh x s root l
  stray_read s root l ef eo er = rw (eo, er, ef)
