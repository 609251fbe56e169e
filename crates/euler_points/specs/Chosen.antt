-- The killed vertex and the points by code, at a code that is known and at one that is none of those. They stay shut,
-- so that a proof names just the code and what stands there.
use Rattle.std.specs.Prelude.{◌≡◌, ◌⊎◌, List, ℕ, ℤ, get_or}
use Rattle.std.proofs.Math.Path.{refl}
use Rattle.std.proofs.Common.{subst, ⊎_elim}
use Rattle.laws.specs.Bools.{split}
use Rattle.script.specs.declared.Operator.{Operator}
use Rattle.layout.specs.declared.shape.Shape.{Shape}
use Rattle.euler.specs.ByCode.{by_code, by_none}
use Rattle.euler.specs.Surgery.{item_of}
use Rattle.euler.specs.Exec.{killed, killed_vertex, only_vertex, clear_point, points_by, points_after}

module _ (sh : Shape) (x : List ℕ) (o : Operator) where
  pub killed_at : (k v r : ℕ) → o.code ≡ k → get_or (killed sh x (item_of o)) k 0 ≡ v → r ≡ v → r ≡ killed_vertex sh x o
  unfolding killed_vertex
  killed_at k v r e f g = by_code (killed sh x (item_of o)) 0 o.code k v r e f g

  pub killed_kvsf : (a r : ℕ) → o.code ≡ 2 → a ≡ item_of o 0 → r ≡ only_vertex sh x a → r ≡ killed_vertex sh x o
  killed_kvsf a r e h g = killed_at 2 _ r e refl (subst (λ s. r ≡ only_vertex sh x s) h g)

  -- kvsf, kev and jekv kill a vertex, the others none
  pub killed_none : (o.code ≡ 2 → ⊥) → (o.code ≡ 4 → ⊥) → (o.code ≡ 12 → ⊥) → 0 ≡ killed_vertex sh x o
  unfolding killed_vertex
  killed_none d2 d4 d12 =
      split o.code 1 (λ e. rw e) (λ d1.
      split o.code 3 (λ e. rw e) (λ d3.
      split o.code 5 (λ e. rw e) (λ d5.
      split o.code 6 (λ e. rw e) (λ d6.
      split o.code 7 (λ e. rw e) (λ d7.
      split o.code 8 (λ e. rw e) (λ d8.
      split o.code 9 (λ e. rw e) (λ d9.
      split o.code 10 (λ e. rw e) (λ d10.
      split o.code 11 (λ e. rw e) (λ d11.
      split o.code 13 (λ e. rw e) (λ d13.
      by_none (killed sh x (item_of o)) 0 o.code refl refl
      (((((((((((((tt, d1), d2), d3), d4), d5), d6), d7), d8), d9), d10), d11), d12), d13)))))))))))

-- the points afterwards, v the killed vertex
unfoldable pub points_with : List ℤ → Operator → ℕ → List ℤ
points_with p o v = get_or (points_by p o (item_of o) v) o.code p

-- with the vertex that the operator kills they are those that the definition says
pub points_by_lem : (sh : Shape) (x : List ℕ) (p : List ℤ) (o : Operator) (v : ℕ) (r : List ℤ)
    → v ≡ killed_vertex sh x o
    → r ≡ points_with p o v → r ≡ points_after sh x p o
unfolding points_with points_after
points_by_lem sh x p o v r e h = subst (λ w. r ≡ get_or (points_by p o (item_of o) w) o.code p) e h

pub points_at : (p : List ℤ) (o : Operator) (v : ℕ) (k : ℕ) (q r : List ℤ) → o.code ≡ k
    → get_or (points_by p o (item_of o) v) k p ≡ q → r ≡ q → r ≡ points_with p o v
unfolding points_with
points_at p o v k q r e f g = by_code (points_by p o (item_of o) v) p o.code k q r e f g

-- kvsf, kev and jekv clear the point
pub points_cleared : (p : List ℤ) (o : Operator) (v : ℕ) (r : List ℤ)
    → (o.code ≡ 2) ⊎ ((o.code ≡ 4) ⊎ (o.code ≡ 12)) → r ≡ clear_point p v → r ≡ points_with p o v
points_cleared p o v r d g =
    ⊎_elim (λ e. points_at p o v 2 _ r e refl g)
    (⊎_elim (λ e. points_at p o v 4 _ r e refl g) (λ e. points_at p o v 12 _ r e refl g)) d

-- mvsf, mev and semv put a point, kvsf, kev and jekv clear one
pub points_none : (p : List ℤ) (o : Operator) (v : ℕ) → (o.code ≡ 1 → ⊥) → (o.code ≡ 2 → ⊥) → (o.code ≡ 3 → ⊥)
    → (o.code ≡ 4 → ⊥) → (o.code ≡ 11 → ⊥) → (o.code ≡ 12 → ⊥) → p ≡ points_with p o v
unfolding points_with
points_none p o v d1 d2 d3 d4 d11 d12 =
    split o.code 5 (λ e. rw e) (λ d5.
    split o.code 6 (λ e. rw e) (λ d6.
    split o.code 7 (λ e. rw e) (λ d7.
    split o.code 8 (λ e. rw e) (λ d8.
    split o.code 9 (λ e. rw e) (λ d9.
    split o.code 10 (λ e. rw e) (λ d10.
    split o.code 13 (λ e. rw e) (λ d13.
    by_none (points_by p o (item_of o) v) p o.code refl refl
    (((((((((((((tt, d1), d2), d3), d4), d5), d6), d7), d8), d9), d10), d11), d12), d13))))))))
