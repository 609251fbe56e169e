-- A group by masks and shifts, as the code has it: the mask is a remainder, the shift a product that fits, and the two
-- share no bit.
use Rattle.std.specs.Prelude.{◌≡◌, ℕ, ◌+◌, ◌*◌, ◌%◌, ◌<◌}
use Rattle.std.proofs.Common.{◌∙◌, add_comm, lit≤, shl_exact}
use Rattle.std.specs.Int.Bits.{bit_and, bit_or, mask_lt, or_shifted_r}
use Rattle.std.proofs.lemmas.Nat.{and_mask, or_comm}

-- the lowest seven bits
pub masked : (n : ℕ) → bit_and n 127 ≡ n % 128
masked n = and_mask n 7

-- the same with the high bit set
pub marked : (n : ℕ) → bit_or (bit_and n 127) 128 ≡ n % 128 + 128
marked n = or_shifted_r 1 7 (bit_and n 127) (mask_lt n 7) ∙ rw (masked n) (add_comm 128 (n % 128))

-- two groups joined, in a word of 32 bits, in either order
pub joined : (low high : ℕ) → high < 33554432
    → (bit_or (bit_and low 127) (high * 128 % 4294967296) ≡ low % 128 + high * 128)
    × (bit_or (high * 128 % 4294967296) (bit_and low 127) ≡ low % 128 + high * 128)
joined low high h =
    let s : high * 128 % 4294967296 ≡ high * 128 = shl_exact 25 7 32 h (lit≤ tt) in
    let e : bit_or (bit_and low 127) (high * 128 % 4294967296) ≡ low % 128 + high * 128 =
    rw s (or_shifted_r high 7 (bit_and low 127) (mask_lt low 7) ∙ rw (masked low) (add_comm (high * 128) (low % 128)))
    in
    (e, or_comm (high * 128 % 4294967296) (bit_and low 127) ∙ e)
