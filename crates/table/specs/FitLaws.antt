-- The tests of a table's capacities and lengths, as the code joins them.
use Rattle.std.specs.Prelude.{◌≡◌, Bool, ◌&&◌, ℕ, eqb}
use Rattle.layout.specs.Points.{points_length}
use Rattle.layout.specs.Layout.{links_length}
use Rattle.table.specs.Sizes.{capacity, sizes_fit}

-- the capacities are asked, then both lengths
pub lengths_fit : (m n s f l e v long : ℕ) (a b c d g : Bool) → a ≡ capacity s → b ≡ capacity f → c ≡ capacity l
    → d ≡ capacity e → g ≡ capacity v → long ≡ links_length s f l e v
    → ((((((a && b) && c) && d) && g) && eqb m long) && eqb n (points_length v)) ≡ sizes_fit m n s f l e v
unfolding sizes_fit
lengths_fit m n s f l e v long a b c d g ea eb ec ed eg el = rw (ea, eb, ec, ed, eg, el)
