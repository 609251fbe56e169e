-- The mate of an odd half-edge is the next number, that of an even one the number before; mates come in pairs.
use Rattle.std.specs.Prelude.{◌≡◌, ◌≢◌, ℕ, ◌+◌, ◌-◌, ◌*◌, ◌%◌, ◌≤◌}
use Rattle.std.proofs.Common.{◌∙◌, arith}
use Rattle.laws.specs.Bools.{split, eqb_same, eqb_other}
use Rattle.layout.specs.Mate.{mate}

pub mate_odd : (k : ℕ) → k % 2 ≡ 1 → mate k ≡ k + 1
unfolding mate
mate_odd k e = rw (eqb_same e)

pub mate_even : (k : ℕ) → k % 2 ≢ 1 → mate k ≡ k - 1
unfolding mate
mate_even k e = rw (eqb_other e)

-- the mate of the mate is the half-edge itself
pub mate_mate : (k : ℕ) → mate (mate k) ≡ k
mate_mate k = split (k % 2) 1
    (λ e. rw (mate_odd k e) (mate_even (k + 1) (omega arith) ∙ omega arith))
    (λ e. rw (mate_even k e) (split k 0 (λ z. rw z (mate_even 0 (omega arith))) (λ p. mate_odd (k - 1) (omega arith)
    ∙ omega arith)))

-- the mate of a half-edge of the first c edges is one of them
pub mate_range : (k c : ℕ) → 1 ≤ k → k ≤ 2 * c → (1 ≤ mate k) × (mate k ≤ 2 * c)
mate_range k c l u = split (k % 2) 1 (λ e. rw (mate_odd k e) (omega arith)) (λ e. rw (mate_even k e) (omega arith))
