-- How large a table may be.
use Rattle.std.specs.Prelude.{ℕ, suc, ◌*◌}

-- the most items of a kind that a table has (document 01: each capacity is at most 4,096)
abbrev pub most_items : ℕ
most_items = 4096

-- the most half-edges: two of each edge
abbrev pub most_halves : ℕ
most_halves = 2 * most_items

-- how long an array is that has a place for each item's number, and one for 0, which names none
abbrev pub item_places : ℕ
item_places = suc most_items

-- the same for half-edges
abbrev pub half_places : ℕ
half_places = suc most_halves
