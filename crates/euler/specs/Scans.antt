-- Scans down a column, by the label that its entries hold, and the ways out of their loops, one law each.
use Rattle.std.specs.Prelude.{◌≡◌, Bool, true, false, List, eqb, Option}
use Rattle.std.proofs.Common.{sym, subst, ◌∙◌}
use Rattle.std.specs.Option.{unwrap_or}
use Prim.Native.Nat.{ℕ, suc, ◌+◌, ◌-◌, ◌≤◌, ◌<◌}
use Rattle.std.proofs.Math.Numerals.{add-one}
use native.Mathlib.Omega.{arith}
use Rattle.laws.specs.Search.{Least, none_is, one_is, least, least_from, least_from_is}
use Rattle.laws.specs.Sums.{count_to}
use Rattle.layout.specs.declared.shape.Shape.{Shape}
use Rattle.layout.specs.declared.column.Column.{Column}
use Rattle.layout.specs.Fields.{Field, cap_of, column}
use Rattle.layout.specs.Column.{entry_of, column_at}
use Rattle.searching.specs.Searching.{LeastPasses}
use Rattle.searching.specs.SearchingLaws.{least_by as searched}

-- record n names the label
abbrev pub naming : Column → List ℕ → ℕ → ℕ → Bool
naming c x label n = eqb (entry_of c x n) label

-- ---- the column of a field, as the code hands it on

module _ (sh : Shape) (F : Field) {c : Column} (e : c ≡ column_at sh F) where
  pub column_short : cap_of sh F < 65536 → c.count < 65536
  column_short h = subst (λ (k : Column). k.count < 65536) (sym e) h

  pub count_by : (x : List ℕ) (label r : ℕ) → r ≡ count_to c.count (naming c x label)
      → r ≡ count_to (cap_of sh F) (λ n. eqb (column sh F x n) label)
  count_by x label r h = subst (λ (k : Column). r ≡ count_to k.count (naming k x label)) e h

  pub least_by : (x : List ℕ) (label r : ℕ) → r ≡ least c.count (naming c x label)
      → r ≡ least (cap_of sh F) (λ n. eqb (column sh F x n) label)
  least_by x label r h = subst (λ (k : Column). r ≡ least k.count (naming k x label)) e h

-- ---- the least

pub least_all : (n : ℕ) (p : ℕ → Bool) → least_from (n + 1 - 1) 1 p ≡ least n p
least_all n p = let e : n + 1 - 1 ≡ n = omega arith in rw e

least_le : (n : ℕ) (p : ℕ → Bool) → least n p ≤ n
least_le n p = go (least_from_is n 1 p)
  where
    go : Least n 1 p (least n p) → least n p ≤ n
    go (none_is z f) = omega (arith, z)
    go (one_is l u t f) = omega arith

-- what a search from 1 on finds, 0 for none
pub least_found : {answers : ℕ → Bool → Type 0} {n : ℕ} (p : ℕ → Bool) {o : Option ℕ} {r : ℕ} → r ≡ unwrap_or o 0
    → LeastPasses answers 1 n o → ((k : ℕ) → 1 ≤ k → k ≤ n → (b : Bool) → answers k b → b ≡ p k)
    → (r ≡ least n p) × (r ≤ n)
least_found {n = n} p {r = r} e s h = let q : r ≡ least n p = e ∙ searched p s h ∙ least_all n p in
    (q, omega (arith, q, least_le n p))

-- any test: record i passes, it does not, or all have been asked
module _ (p : ℕ → Bool) (n i whole : ℕ) (rest : least_from (n + 1 - i) i p ≡ whole) where
  pub found_here : i ≤ n → p i ≡ true → i ≡ whole
  unfolding least_from
  found_here h e = let m : n + 1 - i ≡ suc (n - i) = omega arith in rw (m, e) at rest

  pub found_on : i ≤ n → p i ≡ false → least_from (n + 1 - (i + 1)) (i + 1) p ≡ whole
  unfolding least_from
  found_on h e =
      let m : n + 1 - i ≡ suc (n - i) = omega arith in
      let k : n + 1 - (i + 1) ≡ n - i = omega arith in
      rw (k, add-one i) (rw (m, e) at rest)

  pub found_none : n < i → 0 ≡ whole
  unfolding least_from
  found_none h = let m : n + 1 - i ≡ 0 = omega arith in rw m at rest
