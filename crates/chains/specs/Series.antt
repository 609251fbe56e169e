-- A list of operators by place, and that it is accepted whole: an invariant that each of them keeps. What is said of
-- each operator at the table that it meets goes along.
use Rattle.std.specs.Prelude.{◌≡◌, refl, List, [], ◌∷◌, ◌++◌, ℤ, length}
use Rattle.std.proofs.Common.{ap}
use Rattle.std.proofs.Math.Path.{subst}
use Prim.Native.Nat.{ℕ, zero, suc, ◌+◌, ◌≤◌, ◌<◌}
use native.Mathlib.Omega.{arith}
use Rattle.script.specs.declared.Operator.{Operator}
use Rattle.script.specs.Operator.{write_script}
use Rattle.layout.specs.declared.shape.Shape.{Shape}
use Rattle.euler.specs.Exec.{refusal_of, links_after, points_after}
use Rattle.sound_tables.specs.Good.{Good}
use Rattle.sound_operators.specs.Theorems.{all_hold}
use Rattle.promises.specs.Leads.{Leads, none, first}
use Rattle.inversion.specs.Path.{Path, there, first, path_append}

-- f i, f (i + 1), .. , n of them
unfoldable pub series : {A : Type 0} → ℕ → ℕ → (ℕ → A) → List A
series i zero f = []
series i (suc n) f = f i ∷ series (suc i) n f

-- as many
pub series_length : {A : Type 0} (i n : ℕ) (f : ℕ → A) → length (series i n f) ≡ n
unfolding series
series_length i zero f = refl
series_length i (suc n) f = ap suc (series_length (suc i) n f)

-- all the lists f i, f (i + 1), .. , n of them, one after the other
unfoldable pub joined : {A : Type 0} → ℕ → ℕ → (ℕ → List A) → List A
joined i zero f = []
joined i (suc n) f = f i ++ joined (suc i) n f

-- what is said of tables
abbrev pub OfTable : Type 1
OfTable = List ℕ → List ℤ → Type 0

-- what is said of the links that an operator meets, and of the operator
abbrev pub OfStep : Type 1
OfStep = List ℕ → Operator → Type 0

-- R holds of each of the operators os, carried out from the links x on, at the links that it meets
abbrev pub Each : Shape → OfStep → List Operator → List ℕ → Type 0
Each sh R [] x = Unit {0}
Each sh R (o ∷ os) x = R x o × Each sh R os (links_after sh x o)

-- of two lists, one after the other
pub each_append : {sh : Shape} (R : OfStep) {y : List ℕ} {q : List ℤ} {os : List Operator} (ns : List Operator)
    {x : List ℕ} {p : List ℤ} → Path sh y q os x p → Each sh R os x → Each sh R ns y → Each sh R (os ++ ns) x
each_append R ns (there e f) a b = rw e b
each_append R ns (first o len acc r) a b = (a.0, each_append R ns r a.1 b)

-- the operators os are accepted one after the other from the table x, p on, R holds of each of them at the table that
-- it meets, and they lead to a good table of which P holds
pub record Reach (sh : Shape) (R : OfStep) (os : List Operator) (x : List ℕ) (p : List ℤ) (P : OfTable) : Type 0 where
  pub links : List ℕ
  pub points : List ℤ
  pub path : Path sh links points os x p
  pub each : Each sh R os x
  pub good : Good sh links points
  pub holds : P links points

-- R holds of an operator; it is accepted, and P holds then
abbrev pub Takes : Shape → OfStep → List ℕ → List ℤ → Operator → OfTable → Type 0
Takes sh R x p o P =
    (length o.args ≡ 8) × (refusal_of sh x o ≡ 0) × R x o × P (links_after sh x o) (points_after sh x p o)

module _ {sh : Shape} {R : OfStep} where
  -- none
  pub reach_none : {x : List ℕ} {p : List ℤ} {P : OfTable} → Good sh x p → P x p → Reach sh R [] x p P
  reach_none {x} {p} g h = record { links = x; points = p; path = there refl refl; each = tt; good = g; holds = h }

  -- one, and those after it
  pub reach_first : {o : Operator} {os : List Operator} {x : List ℕ} {p : List ℤ} {Q P : OfTable} → Good sh x p
      → Takes sh R x p o Q
      → ((y : List ℕ) (q : List ℤ) → Good sh y q → Q y q → Reach sh R os y q P) → Reach sh R (o ∷ os) x p P
  reach_first {o} {x = x} {p} g t h =
      let r = h (links_after sh x o) (points_after sh x p o) (all_hold sh x p o g t.0 t.1).0 t.3 in
      record {
        links = r.links;
        points = r.points;
        path = first o t.0 t.1 r.path;
        each = (t.2, r.each);
        good = r.good;
        holds = r.holds;
      }

  -- some, and those after them
  pub reach_append : {os ns : List Operator} {x : List ℕ} {p : List ℤ} {Q P : OfTable} → Reach sh R os x p Q
      → ((y : List ℕ) (q : List ℤ) → Good sh y q → Q y q → Reach sh R ns y q P) → Reach sh R (os ++ ns) x p P
  reach_append {ns = ns} a h =
      let r = h a.links a.points a.good a.holds in
      record {
        links = r.links;
        points = r.points;
        path = path_append a.path r.path;
        each = each_append R ns a.path a.each r.each;
        good = r.good;
        holds = r.holds;
      }

  -- the same with less said
  pub reach_map : {os : List Operator} {x : List ℕ} {p : List ℤ} {Q P : OfTable} → Reach sh R os x p Q
      → ((y : List ℕ) (q : List ℤ) → Good sh y q → Q y q → P y q) → Reach sh R os x p P
  reach_map a h = record {
    links = a.links;
    points = a.points;
    path = a.path;
    each = a.each;
    good = a.good;
    holds = h a.links a.points a.good a.holds;
  }

  -- A SERIES, by an invariant
  pub reach_series : (f : ℕ → Operator) (I : ℕ → OfTable) (i n : ℕ)
      → ((j : ℕ) → i ≤ j → j < i + n → (x : List ℕ) (p : List ℤ) → Good sh x p → I j x p → Takes sh R x p (f j) (I (suc
      j)))
      → {x : List ℕ} {p : List ℤ} → Good sh x p → I i x p → Reach sh R (series i n f) x p (I (i + n))
  unfolding series
  reach_series f I i zero step {x} {p} g h =
      let e : i ≡ i + 0 = omega arith in reach_none {P = I (i + 0)} g (subst (λ m. I m x p) e h)
  reach_series f I i (suc n) step {x} {p} g h =
      let e : suc i + n ≡ i + suc n = omega arith in
      reach_first {P = I (i + suc n)} g (step i (omega arith) (omega arith) x p g h)
      (λ y q g' h'. subst (λ m. Reach sh R (series (suc i) n f) y q (I m)) e
      (reach_series f I (suc i) n (λ j a b. step j (omega arith) (omega arith)) g' h'))

  -- and lists joined
  pub reach_joined : (f : ℕ → List Operator) (I : ℕ → OfTable) (i n : ℕ)
      → ((j : ℕ) → i ≤ j → j < i + n → (x : List ℕ) (p : List ℤ) → Good sh x p → I j x p → Reach sh R (f j) x p (I (suc
      j)))
      → {x : List ℕ} {p : List ℤ} → Good sh x p → I i x p → Reach sh R (joined i n f) x p (I (i + n))
  unfolding joined
  reach_joined f I i zero step {x} {p} g h =
      let e : i ≡ i + 0 = omega arith in reach_none {P = I (i + 0)} g (subst (λ m. I m x p) e h)
  reach_joined f I i (suc n) step {x} {p} g h =
      let e : suc i + n ≡ i + suc n = omega arith in
      reach_append {P = I (i + suc n)} (step i (omega arith) (omega arith) x p g h)
      (λ y q g' h'. subst (λ m. Reach sh R (joined (suc i) n f) y q (I m)) e
      (reach_joined f I (suc i) n (λ j a b. step j (omega arith) (omega arith)) g' h'))

-- ---- its bytes

-- it leads where the operators lead
pub path_leads : {sh : Shape} {y : List ℕ} {q : List ℤ} {os : List Operator} {x : List ℕ} {p : List ℤ}
    → Path sh y q os x p → Leads sh y q [] (length os) x p (write_script os)
unfolding write_script
path_leads (there e f) = none e f refl
path_leads (first {os} o len acc r) = first o (write_script os) refl len acc (path_leads r)
