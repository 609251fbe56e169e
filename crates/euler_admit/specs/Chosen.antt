-- What the conditions by code say at a code that is known, and at one that is none of 1 to 13. They stay shut, so that
-- a proof names just the code and what stands there.
use Rattle.std.specs.Prelude.{◌≡◌, Bool, List, ℕ, get_or}
use Rattle.std.proofs.Math.Path.{refl}
use Rattle.std.proofs.Math.Bool.{true}
use Rattle.script.specs.declared.Operator.{Operator}
use Rattle.codec.specs.Operands.{last_code}
use Rattle.codec.specs.OperandLaws.{NoneOf}
use Rattle.layout.specs.declared.shape.Shape.{Shape}
use Rattle.euler.specs.ByCode.{by_code, by_none}
use Rattle.euler.specs.Surgery.{item_of}
use Rattle.euler.specs.Exec.{conditions, condition}

module _ (sh : Shape) (x : List ℕ) (o : Operator) where
  pub condition_at : (k : ℕ) (v r : Bool) → o.code ≡ k → get_or (conditions sh x (item_of o)) k true ≡ v → r ≡ v
      → r ≡ condition sh x o
  unfolding condition
  condition_at k v r e f g = by_code (conditions sh x (item_of o)) true o.code k v r e f g

  -- a condition on up to four numbers read before is that on the operands
  pub condition_of : (k : ℕ) (g : Shape → List ℕ → ℕ → ℕ → ℕ → ℕ → Bool) {a b d e i j l m : ℕ} {r : Bool} → o.code ≡ k
      → r ≡ g sh x a b d e → a ≡ i → b ≡ j → d ≡ l → e ≡ m
      → get_or (conditions sh x (item_of o)) k true ≡ g sh x i j l m → r ≡ condition sh x o
  condition_of k g ek er ea eb ed ee z = condition_at k _ _ ek z (rw (er, ea, eb, ed, ee))

  pub condition_none : NoneOf last_code o.code → true ≡ condition sh x o
  unfolding condition
  condition_none n = by_none (conditions sh x (item_of o)) true o.code refl refl n
