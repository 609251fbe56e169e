-- Tests that compute (Bool) and what they say: a test that passes is a fact (`T`), a test of two numbers is their
-- equation or its denial, and a rule made of several tests is a list of them.
use Rattle.std.specs.Prelude.{◌≡◌, refl, ◌≢◌, ◌⊎◌, Bool, true, false, not, ◌&&◌, ◌||◌, List, [], ◌∷◌, ℕ, ◌-◌, ◌≤◌, ◌<◌}
use Rattle.std.specs.Prelude.{T, eqb}
use Rattle.std.proofs.Common.{sym, subst, inl, inr, arith, eqb→eq}
use Rattle.std.proofs.Math.Decide.{ℕ_discrete}
use Rattle.std.proofs.Math.Dec.{eqb_refl}

-- one of two values, by a test
abbrev pub pick {ℓ} : {X : Type ℓ} → Bool → X → X → X
pick true x y = x
pick false x y = y

-- what holds of both values holds of the one taken
pub pick_ind {ℓ} : {X : Type ℓ} (P : X → Type 0) (t : Bool) (u w : X) → P u → P w → P (pick t u w)
pick_ind P true u w a b = a
pick_ind P false u w a b = b

-- ---- a Bool and the fact that it is true

-- a test that passes is true
pub T_true : {b : Bool} → T b → b ≡ true
T_true {b = true} t = refl
T_true {b = false} t = absurd t

-- and what is true passes
pub true_T : {b : Bool} → b ≡ true → T b
true_T e = subst T (sym e) tt

-- a test that cannot pass is false
pub T_false : {b : Bool} → (T b → ⊥) → b ≡ false
T_false {b = true} f = absurd (f tt)
T_false {b = false} f = refl

-- and what is false does not pass
pub false_T : {b : Bool} → b ≡ false → T b → ⊥
false_T e t = subst T e t

-- a test is true or false, with the equation kept
pub ask : (b : Bool) → (b ≡ true) ⊎ (b ≡ false)
ask true = inl refl
ask false = inr refl

-- both of `&&` hold
pub and_T : (a b : Bool) → T (a && b) → T a × T b
and_T true b t = (tt, t)
and_T false b t = absurd t

-- two facts make an `&&`
pub T_and : (a b : Bool) → T a → T b → T (a && b)
T_and true b s t = t
T_and false b s t = absurd s

-- one of `||` holds
pub or_T : (a b : Bool) → T (a || b) → T a ⊎ T b
or_T true b t = inl tt
or_T false b t = inr t

-- the left one is enough
pub T_or_l : (a b : Bool) → T a → T (a || b)
T_or_l true b t = tt
T_or_l false b t = absurd t

-- and so is the right one
pub T_or_r : (a b : Bool) → T b → T (a || b)
T_or_r true b t = tt
T_or_r false b t = t

-- `not a || b` is "if a then b"
pub imp_T : (a b : Bool) → T (not a || b) → T a → T b
imp_T true b t s = t
imp_T false b t s = absurd s

-- and from "if a then b"
pub T_imp : (a b : Bool) → (T a → T b) → T (not a || b)
T_imp true b f = f tt
T_imp false b f = tt

-- "if a then b" depends on b only where a holds
pub imp_same : {b c : Bool} (a : Bool) → (T a → b ≡ c) → (not a || b) ≡ (not a || c)
imp_same true h = h tt
imp_same false h = refl

-- two tests that pass together are equal
pub same_T : {a b : Bool} → (T a → T b) → (T b → T a) → a ≡ b
same_T {a = true} {b} f g = sym (T_true (f tt))
same_T {a = false} {b} f g = sym (T_false g)

-- ---- two numbers

-- they are equal or not
pub same? : (m n : ℕ) → (m ≡ n) ⊎ (m ≢ n)
same? m n = go (ℕ_discrete m n)
  where
    go : Dec (m ≡ n) → (m ≡ n) ⊎ (m ≢ n)
    go (yes e) = inl e
    go (no f) = inr f

-- by cases on an equation, in place
pub split : {C : Type 0} (m n : ℕ) → (m ≡ n → C) → (m ≢ n → C) → C
split {C} m n f g = go (same? m n)
  where
    go : (m ≡ n) ⊎ (m ≢ n) → C
    go (inl e) = f e
    go (inr e) = g e

-- one is at most the other, or above it
pub le? : (m n : ℕ) → (m ≤ n) ⊎ (n < m)
le? m n = by (same? (m - n) 0)
  where
    by : (m - n ≡ 0) ⊎ (m - n ≢ 0) → (m ≤ n) ⊎ (n < m)
    by (inl z) = inl (omega arith)
    by (inr z) = inr (omega arith)

-- the test of equal numbers is true
pub eqb_same : {m n : ℕ} → m ≡ n → eqb m n ≡ true
eqb_same {m} {n} e = T_true (subst (λ k. T (eqb m k)) e (eqb_refl m))

-- of different ones false
pub eqb_other : {m n : ℕ} → m ≢ n → eqb m n ≡ false
eqb_other {m} {n} f = T_false (λ t. f (eqb→eq m n t))

-- ---- a rule's tests as a list: the facts come out by place, and no test has to be written again

-- all of a list's tests pass
abbrev pub allb : List Bool → Bool
allb [] = true
allb (b ∷ bs) = b && allb bs

-- the same as facts
abbrev pub All : List Bool → Type 0
All [] = Unit {0}
All (b ∷ bs) = T b × All bs

-- from the test to the facts
pub allb_T : (bs : List Bool) → T (allb bs) → All bs
allb_T [] t = tt
allb_T (true ∷ bs) t = (tt, allb_T bs t)
allb_T (false ∷ bs) t = absurd t

-- and back
pub T_allb : (bs : List Bool) → All bs → T (allb bs)
T_allb [] a = tt
T_allb (true ∷ bs) a = T_allb bs a.1
T_allb (false ∷ bs) a = absurd a.0
