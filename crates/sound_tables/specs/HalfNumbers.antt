-- Half-edges by edge and way: each half-edge is the half of its edge that its way names, and two halves of one edge are
-- the same or mates.
use Rattle.std.specs.Prelude.{◌≡◌, ◌≢◌, ◌⊎◌, ℕ, ◌-◌, ◌*◌, ◌%◌, ◌≤◌}
use Rattle.std.proofs.Common.{◌∙◌, inl, inr, arith}
use Rattle.laws.specs.Bools.{split, eqb_same, eqb_other}
use Rattle.layout.specs.Mate.{mate, edge_of}
use Rattle.layout.specs.MateLaws.{mate_odd, mate_even}
use Rattle.euler.specs.Surgery.{half_by, way_of}
use Rattle.sound_tables.specs.Sound.{In}

-- the edge of the half that a way names
pub edge_by : (e w : ℕ) → 1 ≤ e → edge_of (half_by e w) ≡ e
edge_by e w h = split (w % 2) 0 (λ q. rw (eqb_same q) (omega (arith, h))) (λ q. rw (eqb_other q) (omega (arith, h)))

-- its way is what the way leaves when divided by 2
pub way_rest : (e w : ℕ) → 1 ≤ e → way_of (half_by e w) ≡ w % 2
way_rest e w h = split (w % 2) 0
    (λ q. let m : (2 * e - 1) % 2 ≡ 1 = omega (arith, h) in rw (eqb_same q, eqb_same m) (omega (arith, q)))
    (λ q. let m : 2 * e % 2 ≢ 1 = omega arith in rw (eqb_other q, eqb_other m) (omega (arith, q)))

-- the way itself where that is 0 or 1
pub way_by : (e w : ℕ) → 1 ≤ e → w ≤ 1 → way_of (half_by e w) ≡ w
way_by e w h u = way_rest e w h ∙ omega (arith, u)

-- the way of a half-edge is 0 or 1
pub way_small : (k : ℕ) → way_of k ≤ 1
way_small k = split (k % 2) 1 (λ q. rw (eqb_same q) (omega arith)) (λ q. rw (eqb_other q) (omega arith))

-- the half of its edge that its way names is the half-edge
pub half_is : (k : ℕ) → 1 ≤ k → half_by (edge_of k) (way_of k) ≡ k
half_is k h = split (k % 2) 1 (λ q. rw (eqb_same q) (omega (arith, q, h))) (λ q. rw (eqb_other q) (omega (arith, q, h)))

-- its edge is in range
pub edge_in_range : (k n : ℕ) → In (2 * n) k → In n (edge_of k)
edge_in_range k n i = (omega (arith, i.0), omega (arith, i.1))

-- the second half of its edge is the half-edge or its mate
pub second_half : (k : ℕ) → (2 * edge_of k ≡ k) ⊎ (2 * edge_of k ≡ mate k)
second_half k = split (k % 2) 1 (λ q. inr (omega (arith, q, mate_odd k q))) (λ q. inl (omega (arith, q)))

-- mates are of one edge
pub mate_edge : (k : ℕ) → 1 ≤ k → edge_of (mate k) ≡ edge_of k
mate_edge k h = split (k % 2) 1 (λ q. rw (mate_odd k q) (omega (arith, q)))
    (λ q. rw (mate_even k q) (omega (arith, q, h)))

-- two halves of one edge are the same or mates
pub same_edge : (n k : ℕ) → 1 ≤ n → 1 ≤ k → edge_of n ≡ edge_of k → (n ≡ k) ⊎ (n ≡ mate k)
same_edge n k h j e = split n k (λ q. inl q) (λ q. inr (split (k % 2) 1
    (λ z. rw (mate_odd k z) (omega (arith, q, z, e, h, j)))
    (λ z. rw (mate_even k z) (omega (arith, q, z, e, h, j)))))
