-- What the inverses by code say at a code that is known, and at one that is none of 1 to 13. They stay shut, so that a
-- proof names just the code and what stands there.
use Rattle.std.specs.Prelude.{◌≡◌, List, ℕ, ℤ, get_or}
use Rattle.std.proofs.Math.Path.{refl}
use Rattle.std.proofs.Common.{◌∙◌, ap}
use Rattle.script.specs.declared.Operator.{Operator}
use Rattle.script.specs.Operator.{blank_of}
use Rattle.codec.specs.Operands.{last_code}
use Rattle.codec.specs.OperandLaws.{NoneOf}
use Rattle.layout.specs.declared.shape.Shape.{Shape}
use Rattle.layout.specs.Layout.{next_of}
use Rattle.layout.specs.Mate.{mate}
use Rattle.euler.specs.ByCode.{by_code, by_none}
use Rattle.euler.specs.Surgery.{item_of, half_by}
use Rattle.euler.specs.EdgeOperators.{mef_inverse, mekr_inverse, jekv_inverse}
use Rattle.euler.specs.Exec.{inverses, inverse}

-- mef is undone from the mate of its half-edge
pub mef_undone : (e w : ℕ) {a b : ℕ} {r : Operator} → a ≡ half_by e w → b ≡ mate a → r ≡ mef_inverse b
    → r ≡ mef_inverse (mate (half_by e w))
mef_undone e w ea eb er = rw (er, eb, ea)

-- jekv from the half-edge that comes next
pub jekv_undone : (sh : Shape) (x : List ℕ) (p : List ℤ) (k : ℕ) {n : ℕ} {r : Operator} → n ≡ next_of sh x k
    → r ≡ jekv_inverse sh x p k n → r ≡ jekv_inverse sh x p k (next_of sh x k)
jekv_undone sh x p k e er = er ∙ ap (jekv_inverse sh x p k) e

-- and mekr from its half-edge
pub mekr_undone : (k h l : ℕ) {r : Operator} → k ≡ h → r ≡ mekr_inverse k l → r ≡ mekr_inverse h l
mekr_undone k h l e er = er ∙ ap (λ n. mekr_inverse n l) e

module _ (sh : Shape) (x : List ℕ) (o : Operator) where
  pub inverse_at : (p : List ℤ) (k : ℕ) (v r : Operator) → o.code ≡ k
      → get_or (inverses sh x p (item_of o)) k (blank_of 0 0) ≡ v → r ≡ v → r ≡ inverse sh x p o
  unfolding inverse
  inverse_at p k v r e f g = by_code (inverses sh x p (item_of o)) (blank_of 0 0) o.code k v r e f g

  -- an inverse that is made of the table and of three operands, of two, and of one, each read before
  pub inverse_of_three : (p : List ℤ) (k i j l : ℕ) (g : Shape → List ℕ → List ℤ → ℕ → ℕ → ℕ → Operator) {a b d : ℕ}
      {r : Operator} → o.code ≡ k
      → get_or (inverses sh x p (item_of o)) k (blank_of 0 0) ≡ g sh x p (item_of o i) (item_of o j) (item_of o l)
      → a ≡ item_of o i → b ≡ item_of o j → d ≡ item_of o l → r ≡ g sh x p a b d → r ≡ inverse sh x p o
  inverse_of_three p k i j l g {b = b} {d = d} e f h m n t =
      inverse_at p k _ _ e f
      (t ∙ ap (λ v. g sh x p v b d) h ∙ ap (λ v. g sh x p (item_of o i) v d) m ∙ ap
      (g sh x p (item_of o i) (item_of o j)) n)

  pub inverse_of_two : (p : List ℤ) (k i j : ℕ) (g : Shape → List ℕ → List ℤ → ℕ → ℕ → Operator) {a b : ℕ}
      {r : Operator} → o.code ≡ k
      → get_or (inverses sh x p (item_of o)) k (blank_of 0 0) ≡ g sh x p (item_of o i) (item_of o j) → a ≡ item_of o i
      → b ≡ item_of o j → r ≡ g sh x p a b → r ≡ inverse sh x p o
  inverse_of_two p k i j g e f h m t = inverse_of_three p k i j i (λ s y q a b _. g s y q a b) e f h m h t

  pub inverse_of_one : (p : List ℤ) (k i : ℕ) (g : Shape → List ℕ → List ℤ → ℕ → Operator) {a : ℕ} {r : Operator}
      → o.code ≡ k → get_or (inverses sh x p (item_of o)) k (blank_of 0 0) ≡ g sh x p (item_of o i) → a ≡ item_of o i
      → r ≡ g sh x p a → r ≡ inverse sh x p o
  inverse_of_one p k i g e f h t = inverse_of_two p k i i (λ s y q a _. g s y q a) e f h h t

  pub inverse_none : (p : List ℤ) (r : Operator) → NoneOf last_code o.code → r ≡ blank_of 0 0 → r ≡ inverse sh x p o
  unfolding inverse
  inverse_none p r n e = e ∙ by_none (inverses sh x p (item_of o)) (blank_of 0 0) o.code refl refl n
