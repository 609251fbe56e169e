-- The other half of an edge, as a function on all numbers; above 2 E each is its own (the dummies).
use Rattle.std.specs.Prelude.{◌≡◌, ◌≢◌, ℕ, ◌*◌, ◌≤◌, ◌<◌, ◌%◌, leb}
use Rattle.std.proofs.Common.{◌∙◌, ⊎_elim, arith, le→leb, leb→le}
use Rattle.laws.specs.Bools.{pick, split, le?, T_true, T_false}
use Rattle.layout.specs.Mate.{mate}
use Rattle.layout.specs.MateLaws.{mate_odd, mate_even, mate_mate, mate_range}

-- with dummies above 2 E
unfoldable pub mate⁺ : ℕ → ℕ → ℕ
mate⁺ c k = pick (leb k (2 * c)) (mate k) k

-- up to 2E it is the mate
pub mate⁺_low : (c k : ℕ) → k ≤ 2 * c → mate⁺ c k ≡ mate k
unfolding mate⁺
mate⁺_low c k h = rw (T_true {b = leb k (2 * c)} (le→leb k (2 * c) h))

-- above, the number itself
pub mate⁺_high : (c k : ℕ) → 2 * c < k → mate⁺ c k ≡ k
unfolding mate⁺
mate⁺_high c k h = rw (T_false {b = leb k (2 * c)} (λ t. omega (arith, leb→le k (2 * c) t)))

-- and its own inverse everywhere
pub mate⁺_mate⁺ : (c k : ℕ) → mate⁺ c (mate⁺ c k) ≡ k
mate⁺_mate⁺ c k = ⊎_elim
    (λ h. rw (mate⁺_low c k h)
    (mate⁺_low c (mate k) (split k 0 (λ z. rw z (rw (mate_even 0 (omega arith)) (omega arith)))
    (λ p. (mate_range k c (omega arith) h).1)) ∙ mate_mate k))
    (λ h. rw (mate⁺_high c k h) (mate⁺_high c k h)) (le? k (2 * c))

-- a half-edge is not its own mate
pub mate_other : (k : ℕ) → 1 ≤ k → k ≢ mate k
mate_other k l = split (k % 2) 1 (λ e. rw (mate_odd k e) (omega arith)) (λ e. rw (mate_even k e) (omega arith))
