-- rmov as the take-down uses it: a ring becomes the outer loop of its face; a ring moves to a face across an edge of
-- the outer loop.
use Rattle.std.specs.Prelude.{◌≡◌, refl, ◌≢◌, List, [], ◌∷◌, ℕ, ℤ}
use Rattle.std.proofs.Common.{sym, ◌∙◌, subst}
use Rattle.layout.specs.declared.shape.Shape.{Shape}
use Rattle.layout.specs.Fields.{change, Outer, Face}
use Rattle.euler.specs.Exec.{refusal_of, marks_after, links_after, inverse}
use Rattle.euler.specs.ValenceLaws.{still_links}
use Rattle.sound_tables.specs.Cells.{Shows, shows_put}
use Rattle.sound_tables.specs.Good.{Good, own, good_shows}
use Rattle.sound_rings.specs.Sound.{Ring}
use Rattle.sound_rings.specs.Exact.{swap_links, move_links, rmov_points}
use Rattle.sound_operators.specs.Theorems.{all_hold}
use Rattle.takedown.specs.Inversion.{rmov}
use Rattle.inversion.specs.Path.{joins_in}

-- rmov is undone by rmov, which joins no faces
pub rmov_joins : (sh : Shape) (x : List ℕ) (p : List ℤ) (l f : ℕ) → joins_in sh x p (rmov l f ∷ []) ≡ 0
unfolding inverse
rmov_joins sh x p l f = refl

-- no vertex word changes
rmov_links_lem : (sh : Shape) (x : List ℕ) (l f : ℕ) → links_after sh x (rmov l f) ≡ marks_after sh x (rmov l f)
rmov_links_lem sh x l f = still_links sh x (rmov l f) 13 refl (λ y. refl) (λ y. refl)

module _ {sh : Shape} {x : List ℕ} {p : List ℤ} (g : Good sh x p) {l f : ℕ} (r : Ring sh (own sh x) l f) where
  -- in its own face
  pub swap_shows : f ≡ own sh x Face l → Shows sh (links_after sh x (rmov l f)) (change (own sh x) Outer f l)
  swap_shows e = subst (λ y. Shows sh y (change (own sh x) Outer f l))
      (sym (rmov_links_lem sh x l f ∙ swap_links sh x l f g.capacities r e))
      (shows_put (good_shows g) Outer f l r.face_in_lem.0 r.face_in_lem.1)

  -- to another face
  pub move_shows : f ≢ own sh x Face l → Shows sh (links_after sh x (rmov l f)) (change (own sh x) Face l f)
  move_shows d = subst (λ y. Shows sh y (change (own sh x) Face l f))
      (sym (rmov_links_lem sh x l f ∙ move_links sh x l f g.capacities r d))
      (shows_put (good_shows g) Face l f r.loop_in.0 r.loop_in.1)

-- the table stays good
pub rmov_good : {sh : Shape} {x : List ℕ} {p : List ℤ} → Good sh x p → (l f : ℕ) → refusal_of sh x (rmov l f) ≡ 0
    → Good sh (links_after sh x (rmov l f)) p
rmov_good {sh} {x} {p} g l f acc = subst (Good sh (links_after sh x (rmov l f))) (rmov_points sh x l f p)
    (all_hold sh x p (rmov l f) g refl acc).0
