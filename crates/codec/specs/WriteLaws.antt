-- What the code's loops over the operands store, turn by turn.
use Rattle.std.specs.Prelude.{◌≡◌, ℕ, suc, ◌+◌, ◌≤◌, ◌<◌, List, [], ◌∷◌, ◌++◌, length, get_or, drop, set}
use Rattle.std.proofs.Common.{sym, ap, ◌∙◌, add-zero, add-suc, suc-add, arith, length-append, eq-eqb, ne_eqb}
use Rattle.std.proofs.lemmas.List.Edits.{sets}
use Rattle.numbers.specs.Number.{groups}
use Rattle.codec.specs.Operands.{unused}
use Rattle.codec.specs.OperandBytes.{operand_bytes, operands_bytes}
use Rattle.codec.specs.OperandLaws.{ahead, behind}

pub sets_append : (l : List ℕ) (i : ℕ) (a b : List ℕ) → sets l i (a ++ b) ≡ sets (sets l i a) (i + length a) b
sets_append l i [] b = rw (add-zero i)
sets_append l i (x ∷ a) b =
    sets_append (set l i x) (suc i) a b
    ∙ ap (λ (k : ℕ). sets (sets (set l i x) (suc i) a) k b) (suc-add i (length a) ∙ sym (add-suc i (length a)))

module _ (k n : ℕ) where
  pub bytes_unused : k ≡ unused → operand_bytes k n ≡ []
  unfolding operand_bytes
  bytes_unused e = rw (eq-eqb k unused e)

  pub bytes_number : (k ≡ unused → ⊥) → operand_bytes k n ≡ groups n
  unfolding operand_bytes
  bytes_number e = rw (ne_eqb k unused e)

  pub size_unused : k ≡ unused → length (operand_bytes k n) ≡ 0
  size_unused e = rw (bytes_unused e)

  pub size_number : (k ≡ unused → ⊥) → length (operand_bytes k n) ≡ length (groups n)
  size_number e = rw (bytes_number e)

-- the bytes that are left, as a turn begins and at the end
module _ (ks ns : List ℕ) (i : ℕ) (p : length ks ≡ 8) (q : length ns ≡ 8) where
  pub bytes_next : i < 8 → operands_bytes (drop i ks) (drop i ns) ≡ operand_bytes (get_or ks i 0) (get_or ns i 0)
      ++ operands_bytes (drop (i + 1) ks) (drop (i + 1) ns)
  unfolding operands_bytes
  bytes_next h = rw (ahead ks i 0 (omega arith), ahead ns i 0 (omega arith))

  pub size_next : i < 8 → length (operands_bytes (drop i ks) (drop i ns))
      ≡ length (operand_bytes (get_or ks i 0) (get_or ns i 0))
      + length (operands_bytes (drop (i + 1) ks) (drop (i + 1) ns))
  size_next h =
      rw (bytes_next h) (length-append (operand_bytes (get_or ks i 0) (get_or ns i 0))
      (operands_bytes (drop (i + 1) ks) (drop (i + 1) ns)))

  pub write_turn : i < 8 → (l y : List ℕ) (a b : ℕ) (whole : List ℕ) → sets l a (operands_bytes (drop i ks) (drop i ns))
      ≡ whole
      → y ≡ sets l a (operand_bytes (get_or ks i 0) (get_or ns i 0))
      → b ≡ a + length (operand_bytes (get_or ks i 0) (get_or ns i 0))
      → sets y b (operands_bytes (drop (i + 1) ks) (drop (i + 1) ns)) ≡ whole
  write_turn h l y a b whole rest e f =
      rw (e, f)
      (sym (sets_append l a (operand_bytes (get_or ks i 0) (get_or ns i 0))
      (operands_bytes (drop (i + 1) ks) (drop (i + 1) ns))) ∙ (rw (bytes_next h) at rest))

  bytes_end : 8 ≤ i → operands_bytes (drop i ks) (drop i ns) ≡ []
  unfolding operands_bytes
  bytes_end h = rw (behind ks i p h)

  pub size_end : 8 ≤ i → length (operands_bytes (drop i ks) (drop i ns)) ≡ 0
  size_end h = rw (bytes_end h)

  pub write_end : 8 ≤ i → (l : List ℕ) (a : ℕ) (whole : List ℕ) → sets l a (operands_bytes (drop i ks) (drop i ns))
      ≡ whole → l ≡ whole
  write_end h l a whole rest = rw (bytes_end h) at rest
