-- What it says that a table's lengths fit its capacities.
use Rattle.std.specs.Prelude.{◌≡◌, true, List, ℕ, ◌≤◌, T, leb, ℤ}
use Rattle.std.proofs.Common.{leb→le, eqb→eq}
use Rattle.laws.specs.Bools.{true_T, and_T}
use Rattle.laws.specs.Every.{every_T}
use Rattle.bounds.specs.Bounds.{most_items}
use Rattle.layout.specs.Layout.{links_length, shape_of}
use Rattle.layout.specs.Points.{points_length}
use Rattle.layout.specs.Small.{Small}
use Rattle.table.specs.Sizes.{capacity, size_tests, sizes_fit, table_fits}

pub record Capacity (n : ℕ) : Type 0 where
  pub low : 1 ≤ n
  pub high : n ≤ most_items

pub record Sizes (m n s f l e v : ℕ) : Type 0 where
  pub solids : Capacity s
  pub faces : Capacity f
  pub loops : Capacity l
  pub edges : Capacity e
  pub vertices : Capacity v
  pub links : m ≡ links_length s f l e v
  pub points : n ≡ points_length v

capacity_is : (n : ℕ) → T (capacity n) → Capacity n
capacity_is n t = let h = and_T (leb 1 n) (leb n most_items) t in
    record { low = leb→le 1 n h.0; high = leb→le n most_items h.1 }

pub sizes_are : (m n s f l e v : ℕ) → sizes_fit m n s f l e v ≡ true → Sizes m n s f l e v
unfolding sizes_fit
sizes_are m n s f l e v t =
    let h = every_T (size_tests m n s f l e v) (true_T t) in
    record {
      solids = capacity_is s h.0;
      faces = capacity_is f h.1.0;
      loops = capacity_is l h.1.1.0;
      edges = capacity_is e h.1.1.1.0;
      vertices = capacity_is v h.1.1.1.1.0;
      links = eqb→eq _ _ h.1.1.1.1.1.0;
      points = eqb→eq _ _ h.1.1.1.1.1.1.0;
    }

-- the shape of a table that fits
pub fits_small : (x : List ℕ) (p : List ℤ) → table_fits x p ≡ true → Small (shape_of x)
fits_small x p t =
    let h = sizes_are _ _ _ _ _ _ _ t in
    record {
      solids = h.solids.high;
      faces = h.faces.high;
      loops = h.loops.high;
      edges = h.edges.high;
      vertices = h.vertices.high;
    }
