-- The ways out of the code that looks whether an operator's items are in use, one law each.
use Rattle.std.specs.Prelude.{◌≡◌, refl, ℕ, ◌+◌, ◌≤◌, ◌<◌, ◌⊎◌, List, get_or}
use Rattle.std.proofs.Math.Path.{sym}
use native.Mathlib.Omega.{arith}
use Rattle.std.proofs.Math.Logic.{⊎_elim}
use Rattle.std.proofs.Math.ListN.{get_or-eq_default}
use borrow.Author.Tests.{eq-eqb, ne_eqb}
use Rattle.laws.specs.Bools.{same?}
use Rattle.layout.specs.declared.shape.Shape.{Shape}
use Rattle.layout.specs.Layout.{solid_used}
use Rattle.euler.specs.ByCode.{by_code}
use Rattle.euler.specs.Exec.{use_words, use_word, use_refusal, when_free, when_used}

module _ (sh : Shape) (x : List ℕ) (kind n : ℕ) where
  -- the word of a kind that is known, one of two, one of three, and of one that names no item
  pub word_at : (k v r : ℕ) → kind ≡ k → get_or (use_words sh x n) k 0 ≡ v → r ≡ v → r ≡ use_word sh x kind n
  unfolding use_word
  word_at k v r e f g = by_code (use_words sh x n) 0 kind k v r e f g

  pub word_two : (k v r : ℕ) → k ≤ kind → kind < k + 2 → get_or (use_words sh x n) k 0 ≡ v
      → get_or (use_words sh x n) (k + 1) 0 ≡ v → r ≡ v → r ≡ use_word sh x kind n
  word_two k v r low high f f' g =
      ⊎_elim (λ e. word_at k v r e f g) (λ e. word_at (k + 1) v r (omega arith) f' g) (same? kind k)

  pub word_solid : (r : ℕ) → 1 ≤ kind → kind < 4 → r ≡ solid_used sh x n → r ≡ use_word sh x kind n
  word_solid r low high g =
      ⊎_elim (λ e. word_at 1 _ r e refl g) (λ e. word_two 2 _ r (omega arith) high refl refl g) (same? kind 1)

  pub word_none : (kind < 1) ⊎ (12 ≤ kind) → 0 ≡ use_word sh x kind n
  unfolding use_word
  word_none d =
      ⊎_elim (λ h. let e : kind ≡ 0 = omega arith in rw e) (λ h. sym (get_or-eq_default (use_words sh x n) 0 h)) d

  pub use_none : n ≡ 0 → 0 ≡ use_refusal sh x kind n
  unfolding use_refusal
  use_none e = rw (eq-eqb n 0 e)

  pub use_free : (n ≡ 0 → ⊥) → (w : ℕ) → w ≡ use_word sh x kind n → w ≡ 0 → (r : ℕ) → r ≡ get_or when_free kind 0
      → r ≡ use_refusal sh x kind n
  unfolding use_refusal
  use_free h w e z r f = rw (ne_eqb n 0 h, ← e, eq-eqb w 0 z) f

  pub use_used : (n ≡ 0 → ⊥) → (w : ℕ) → w ≡ use_word sh x kind n → (w ≡ 0 → ⊥) → (r : ℕ) → r ≡ get_or when_used kind 0
      → r ≡ use_refusal sh x kind n
  unfolding use_refusal
  use_used h w e z r f = rw (ne_eqb n 0 h, ← e, ne_eqb w 0 z) f
