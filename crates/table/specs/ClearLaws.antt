-- The capacities of a zeroed list, and a cleared table.
use Rattle.std.specs.Prelude.{◌≡◌, true, List, ℕ, suc, ◌-◌, ℤ, pos, length, replicate}
use Rattle.std.proofs.Common.{ap, arith}
use Rattle.layout.specs.Fields.{head}
use Rattle.layout.specs.Layout.{links_length}
use Rattle.table.specs.Sizes.{sizes_fit}
use Rattle.table.specs.SizesLaws.{sizes_are}
use Rattle.table.specs.Clear.{empty_links, with_capacities, cleared, clear_of}

-- zeros with the capacities in front are the empty links
pub capacities_first : (s f l e v : ℕ) → with_capacities (replicate (links_length s f l e v) 0) s f l e v
    ≡ empty_links s f l e v
capacities_first s f l e v =
    let n : links_length s f l e v ≡ suc (suc (suc (suc (suc (links_length s f l e v - head))))) = omega arith in
    ap (λ k. with_capacities (replicate k 0) s f l e v) n

-- zeroed, with the capacities put, it is the empty table
pub clear_done : (x : List ℕ) (p : List ℤ) (s f l e v : ℕ) → sizes_fit (length x) (length p) s f l e v ≡ true
    → (x1 x2 : List ℕ) (q : List ℤ) → x1 ≡ replicate (length x) 0 → x2 ≡ with_capacities x1 s f l e v
    → q ≡ replicate (length p) (pos 0) → cleared 0 x2 q ≡ clear_of x p s f l e v
unfolding clear_of
clear_done x p s f l e v h x1 x2 q e1 e2 eq =
    let z = sizes_are _ _ _ _ _ _ _ h in rw (h, e2, e1, eq, z.links, z.points, capacities_first s f l e v)
