-- Where no half-edge leaves or comes no vertex word changes: both vertices are 0, and a store to vertex 0 does nothing.
use Rattle.std.specs.Prelude.{◌≡◌, refl, List, ℕ, get_or}
use Rattle.std.proofs.Common.{◌∙◌}
use Rattle.script.specs.declared.Operator.{Operator}
use Rattle.layout.specs.declared.shape.Shape.{Shape}
use Rattle.euler.specs.Surgery.{item_of}
use Rattle.euler.specs.Exec.{marks_after, links_after}
use Rattle.euler.specs.Valence.{none, leave_by, come_by, less_at, more_at, less_starts, more_starts}

pub less_none : (sh : Shape) (x : List ℕ) → less_at sh x none ≡ x
less_none sh x = refl

pub more_none : (sh : Shape) (x : List ℕ) → more_at sh x none ≡ x
more_none sh x = refl

-- an operator of code k, where the list by code has none
module _ (sh : Shape) (x : List ℕ) (o : Operator) (k : ℕ) (e : o.code ≡ k) where
  pub less_kept : get_or (leave_by sh x (item_of o)) k none ≡ none → (y : List ℕ) → less_starts sh x o y ≡ y
  unfolding less_starts
  less_kept z y = rw (e, z) (less_none sh y)

  pub more_kept : get_or (come_by sh x (item_of o)) k none ≡ none → more_starts sh o x ≡ x
  unfolding more_starts
  more_kept z = rw (e, z) (more_none sh x)

-- so an operator by which no half-edge comes or goes does nothing but its steps
pub still_links : (sh : Shape) (x : List ℕ) (o : Operator) (k : ℕ) → o.code ≡ k
    → ((y : List ℕ) → get_or (leave_by sh y (item_of o)) k none ≡ none)
    → ((y : List ℕ) → get_or (come_by sh y (item_of o)) k none ≡ none)
    → links_after sh x o ≡ marks_after sh x o
unfolding links_after
still_links sh x o k e l c =
    more_kept sh (less_starts sh x o (marks_after sh x o)) o k e (c _) ∙ less_kept sh x o k e (l x) (marks_after sh x o)
