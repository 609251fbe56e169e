-- What a test that computes says in plain words, both ways. A rule is a test made of small ones, and what it says is
-- made of what they say.
use Rattle.std.specs.Prelude.{◌≡◌, ◌≢◌, ◌⊎◌, Bool, not, ◌&&◌, ◌||◌, List, [], ◌∷◌, ℕ, ◌≤◌, T, eqb, leb, ℤ, ◌≤ℤ◌}
use Rattle.std.proofs.Common.{inl, inr, ⊎_elim, eqb→eq, leb→le, le→leb, T_not}
use Rattle.std.proofs.Math.Dec.{not_T}
use Rattle.std.specs.Int.Signed.{le_z}
use Rattle.laws.specs.Bools.{All, true_T, and_T, T_and, or_T, T_or_l, T_or_r, split, eqb_same}
use Rattle.laws.specs.Every.{every, every_T, T_every}
use Rattle.laws.specs.Search.{all_to, all_at, all_of}

-- the test b passes just if P holds
pub record Says (b : Bool) (P : Type 0) : Type 0 where
  pub out : T b → P
  pub back : P → T b

-- the same in other words
pub reword : {b : Bool} {P Q : Type 0} → (P → Q) → (Q → P) → Says b P → Says b Q
reword f g s = record { out = λ t. f (s.out t); back = λ q. s.back (g q) }

pub says_le : (m n : ℕ) → Says (leb m n) (m ≤ n)
says_le m n = record { out = leb→le m n; back = le→leb m n }

pub says_eq : (m n : ℕ) → Says (eqb m n) (m ≡ n)
says_eq m n = record { out = eqb→eq m n; back = λ e. true_T (eqb_same e) }

pub says_some : (n : ℕ) → Says (not (eqb n 0)) (n ≢ 0)
says_some n = record {
  out = λ t e. T_not (eqb n 0) t (true_T (eqb_same e));
  back =
      λ h. not_T (eqb n 0) (λ t. h (eqb→eq n 0 t));
}

pub says_le_z : (a b : ℤ) → Says (le_z a b) (a ≤ℤ b)
says_le_z a b = record { out = λ t. record { le = t }; back = λ h. h.le }

-- a test that is its own words
pub says_true : (b : Bool) → Says b (T b)
says_true b = record { out = λ t. t; back = λ t. t }

pub says_and : {a b : Bool} {P Q : Type 0} → Says a P → Says b Q → Says (a && b) (P × Q)
says_and {a} {b} s t = record {
  out = λ h. let r = and_T a b h in (s.out r.0, t.out r.1);
  back = λ h. T_and a b (s.back h.0) (t.back h.1);
}

pub says_or : {a b : Bool} {P Q : Type 0} → Says a P → Says b Q → Says (a || b) (P ⊎ Q)
says_or {a} {b} s t = record {
  out = λ h. ⊎_elim (λ u. inl (s.out u)) (λ u. inr (t.out u)) (or_T a b h);
  back = λ h. ⊎_elim (λ p. T_or_l a b (s.back p)) (λ q. T_or_r a b (t.back q)) h;
}

-- where n is not 0
pub says_where : (n : ℕ) {t : Bool} {P : Type 0} → Says t P → Says (eqb n 0 || t) (n ≢ 0 → P)
says_where n {t} s = record {
  out = λ h d. ⊎_elim (λ z. absurd (d (eqb→eq n 0 z))) (λ u. s.out u) (or_T (eqb n 0) t h);
  back = λ f. split n 0 (λ z. T_or_l (eqb n 0) t (true_T (eqb_same z))) (λ d. T_or_r (eqb n 0) t (s.back (f d)));
}

-- all of 1..n
pub says_all : (n : ℕ) {p : ℕ → Bool} {P : ℕ → Type 0} → ((k : ℕ) → Says (p k) (P k))
    → Says (all_to n p) ((k : ℕ) → 1 ≤ k → k ≤ n → P k)
says_all n {p} s = record {
  out = λ t k l u. (s k).out (all_at n p t k l u);
  back =
      λ h. all_of n p (λ k l u. (s k).back (h k l u));
}

-- a list of tests, and what they say together
pub data SaysAll : List Bool → Type 0 → Type 1 where
  last : {b : Bool} {P : Type 0} → Says b P → SaysAll (b ∷ []) P
  more : {b : Bool} {bs : List Bool} {P Q : Type 0} → Says b P → SaysAll bs Q → SaysAll (b ∷ bs) (P × Q)

facts_of : {bs : List Bool} {P : Type 0} → SaysAll bs P → All bs → P
facts_of (last s) a = s.out a.0
facts_of (more s r) a = (s.out a.0, facts_of r a.1)

tests_of : {bs : List Bool} {P : Type 0} → SaysAll bs P → P → All bs
tests_of (last s) p = (s.back p, tt)
tests_of (more s r) p = (s.back p.0, tests_of r p.1)

pub says_every : {bs : List Bool} {P : Type 0} → SaysAll bs P → Says (every bs) P
says_every {bs} s = record { out = λ t. facts_of s (every_T bs t); back = λ p. T_every bs (tests_of s p) }
