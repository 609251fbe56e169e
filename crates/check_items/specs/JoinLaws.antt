-- Rules 4 and 6, one item at a time: the words that were read pass the tests of the table's words.
use Rattle.std.specs.Prelude.{◌≡◌, ◌≢◌, Bool, true, List, [], ◌∷◌, ℕ, eqb, leb}
use Rattle.std.proofs.Common.{◌∙◌}
use Rattle.laws.specs.Bools.{eqb_same, eqb_other}
use Rattle.laws.specs.Every.{every}
use Rattle.layout.specs.declared.shape.Shape.{Shape}
use Rattle.layout.specs.Layout.{face_solid, loop_first, start_of, loop_of, next_of, prev_of, side}
use Rattle.layout.specs.Mate.{mate}
use Rattle.layout.specs.Items.{some}
use Rattle.check_items.specs.Rules.{where_some, half_links, first_names, half_sides}
use Rattle.check_items.specs.Parts.{first_low}

module _ (sh : Shape) (x : List ℕ) (n : ℕ) where
  -- the loop's first half-edge is asked
  pub first_low_lem : (l : ℕ) (r : Bool) → l ≡ loop_of sh x n → r ≡ leb (loop_first sh x l) n → r ≡ first_low sh x n
  unfolding first_low
  first_low_lem l r el h = h ∙ rw el

  pub half_links_is : (v l a b f back forth m end start next : ℕ) (low : Bool)
      → v ≡ start_of sh x n → l ≡ loop_of sh x n → a ≡ next_of sh x n → b ≡ prev_of sh x n → f ≡ loop_first sh x l
      → back ≡ prev_of sh x a → forth ≡ next_of sh x b → m ≡ mate n → end ≡ start_of sh x m → start ≡ start_of sh x a
      → next ≡ loop_of sh x a → low ≡ first_low sh x n
      → where_some v (every (eqb back n ∷ eqb forth n ∷ eqb start end ∷ eqb next l ∷ some f ∷ low ∷ []))
      ≡ half_links sh x n
  unfolding half_links first_low
  half_links_is v l a b f back forth m end start next low ev el ea eb ef ek eh em ee es en ew =
      rw (ef, ek, eh, ee, em, es, en, ew, ev, el, ea, eb)

  pub first_names_is : (k l : ℕ) → k ≡ loop_first sh x n → l ≡ loop_of sh x k
      → where_some k (eqb l n) ≡ first_names sh x n
  unfolding first_names
  first_names_is k l ek el = rw (el, ek)

  -- a free half-edge has no sides
  pub sides_free : start_of sh x n ≡ 0 → true ≡ half_sides sh x n
  unfolding half_sides
  sides_free e = rw (eqb_same e)

  -- one in use has two
  pub sides_used : (s m t : ℕ) (r : Bool) → s ≡ side sh x n → m ≡ mate n → t ≡ side sh x m → start_of sh x n ≢ 0
      → r ≡ eqb (face_solid sh x s) (face_solid sh x t) → r ≡ half_sides sh x n
  unfolding half_sides
  sides_used s m t r es em et f h = h ∙ rw (et, em, es, eqb_other f)
