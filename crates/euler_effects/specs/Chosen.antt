-- The links by code, at a code that is known and at one that is none of 1 to 13. They stay shut, so that a proof names
-- just the code and what stands there.
use Rattle.std.specs.Prelude.{◌≡◌, List, ℕ, ℤ, get_or}
use Rattle.std.proofs.Math.Path.{refl}
use Rattle.std.proofs.Common.{ap, ◌∙◌, subst}
use Rattle.codec.specs.Operands.{last_code}
use Rattle.codec.specs.OperandLaws.{NoneOf}
use Rattle.layout.specs.declared.shape.Shape.{Shape}
use Rattle.layout.specs.Layout.{next_of}
use Rattle.layout.specs.Items.{face_in}
use Rattle.euler.specs.ByCode.{by_code, by_none}
use Rattle.euler.specs.Surgery.{item_in, half_by}
use Rattle.euler.specs.EdgeOperators.{jekv_links}
use Rattle.euler.specs.FaceOperators.{kvsf_links}
use Rattle.euler.specs.Exec.{operator_by, links_by, marks_after, only_loop, only_vertex}

-- the links after code k with these operands
abbrev pub links_at : ℕ → Shape → List ℕ → List ℤ → List ℕ
links_at k sh x args = get_or (links_by sh x (item_in args)) k x

-- the half-edge that an edge and a way name, each read before
pub half_read : {e w : ℕ} (a b : ℕ) {k : ℕ} → a ≡ e → b ≡ w → k ≡ half_by a b → k ≡ half_by e w
half_read a b ea eb ek = rw (ek, ea, eb)

-- the links that an operator makes of up to seven numbers read before are those that it makes of its operands
pub links_of : (sh : Shape) (x : List ℕ) (args : List ℤ) (k : ℕ)
    (g : Shape → List ℕ → ℕ → ℕ → ℕ → ℕ → ℕ → ℕ → ℕ → List ℕ) {a b c d e f h i j l m n o q : ℕ} {r : List ℕ}
    → r ≡ g sh x a b c d e f h → a ≡ i → b ≡ j → c ≡ l → d ≡ m → e ≡ n → f ≡ o → h ≡ q
    → g sh x i j l m n o q ≡ links_at k sh x args → r ≡ links_at k sh x args
links_of sh x args k g er ea eb ec ed ee ef eh z = rw (er, ea, eb, ec, ed, ee, ef, eh) z

-- jekv by the half-edge that comes next
pub jekv_found : (sh : Shape) (x : List ℕ) (k : ℕ) {n : ℕ} {r : List ℕ} → n ≡ next_of sh x k
    → r ≡ jekv_links sh x k n → r ≡ jekv_links sh x k (next_of sh x k)
jekv_found sh x k e er = er ∙ ap (jekv_links sh x k) e

module _ (sh : Shape) (x : List ℕ) (code : ℕ) (args : List ℤ) where
  pub marks_at : (k : ℕ) (r : List ℕ) → code ≡ k → r ≡ links_at k sh x args
      → r ≡ marks_after sh x (operator_by code args)
  unfolding marks_after
  marks_at k r e g = by_code (links_by sh x (item_in args)) x code k _ r e refl g

  pub marks_kvsf : (a : ℕ) (r : List ℕ) → code ≡ 2 → a ≡ item_in args 0
      → r ≡ kvsf_links sh x a (face_in sh x a) (only_loop sh x a) (only_vertex sh x a)
      → r ≡ marks_after sh x (operator_by code args)
  marks_kvsf a r e h g =
      marks_at 2 r e (subst (λ s. r ≡ kvsf_links sh x s (face_in sh x s) (only_loop sh x s) (only_vertex sh x s)) h g)

  pub marks_none : NoneOf last_code code → x ≡ marks_after sh x (operator_by code args)
  unfolding marks_after
  marks_none n = by_none (links_by sh x (item_in args)) x code refl refl n
