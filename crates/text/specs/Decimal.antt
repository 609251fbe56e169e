-- A number in decimal, as bytes: its digits give the number back, a number below 10 ^ k has at most k of them (k at
-- least 1), and the first of them is no 0 but for 0 itself.
use Rattle.std.specs.Prelude.{◌≡◌, refl, List, [], ◌∷◌, ◌++◌, ℕ, zero, suc, ◌+◌, ◌-◌, ◌*◌, ◌/◌, ◌%◌, ◌^◌, ◌≤◌, ◌<◌, ltb}
use Rattle.std.specs.Prelude.{length, get_or}
use Rattle.std.proofs.Common.{sym, ap, ◌∙◌, ⊎_elim, arith, length-append, lt-ltb, le-ltb}
use Rattle.std.proofs.Math.Nat.{pow-succ'}
use Rattle.laws.specs.Bools.{pick, le?}

-- the digits of a number that has at most k of them; digit d is the byte 48 + d
unfoldable pub digits : ℕ → ℕ → List ℕ
digits zero n = []
digits (suc k) n = pick (ltb n 10) ((48 + n) ∷ []) (digits k (n / 10) ++ ((48 + n % 10) ∷ []))

-- a number in decimal, from the highest digit down, with no leading zeros; n + 1 digits are always enough
unfoldable pub decimal : ℕ → List ℕ
decimal n = digits (suc n) n

-- the digits are the same however many are allowed
same_digits : (k m n : ℕ) → n < k → n < m → digits k n ≡ digits m n
unfolding digits
same_digits zero m n h g = absurd (omega arith)
same_digits (suc k) zero n h g = absurd (omega arith)
same_digits (suc k) (suc m) n h g =
    ⊎_elim (λ l. rw (le-ltb n 10 l, same_digits k m (n / 10) (omega arith) (omega arith))) (λ l. rw (lt-ltb n 10 l))
    (le? 10 n)

-- below 10, and from 10 on
pub decimal_one : (n : ℕ) → n < 10 → decimal n ≡ (48 + n) ∷ []
unfolding decimal digits
decimal_one n h = rw (lt-ltb n 10 h)

pub decimal_more : (n : ℕ) → 10 ≤ n → decimal n ≡ decimal (n / 10) ++ ((48 + n % 10) ∷ [])
unfolding decimal digits
decimal_more n h = rw (le-ltb n 10 h, same_digits n (suc (n / 10)) (n / 10) (omega arith) (omega arith))

-- digits read from the highest down, n the value of those before them
unfoldable pub value_of : ℕ → List ℕ → ℕ
value_of n [] = n
value_of n (d ∷ r) = value_of (n * 10 + (d - 48)) r

value_append : (n : ℕ) (a b : List ℕ) → value_of n (a ++ b) ≡ value_of (value_of n a) b
unfolding value_of
value_append n [] b = refl
value_append n (d ∷ a) b = value_append (n * 10 + (d - 48)) a b

digits_value : (k n : ℕ) → n < k → value_of 0 (digits k n) ≡ n
unfolding digits value_of
digits_value zero n h = absurd (omega arith)
digits_value (suc k) n h =
    ⊎_elim
    (λ l.
    let m : n / 10 * 10 + (48 + n % 10 - 48) ≡ n = omega arith in
    let v : value_of 0 (digits k (n / 10)) ≡ n / 10 = digits_value k (n / 10) (omega arith) in
    rw (le-ltb n 10 l, value_append 0 (digits k (n / 10)) ((48 + n % 10) ∷ []), v) m)
    (λ l. let m : 0 * 10 + (48 + n - 48) ≡ n = omega arith in rw (lt-ltb n 10 l) m)
    (le? 10 n)

-- the number is read back
pub decimal_value : (n : ℕ) → value_of 0 (decimal n) ≡ n
unfolding decimal
decimal_value n = digits_value (suc n) n (omega arith)

-- so two numbers have two texts
pub decimal_one_to_one : (m n : ℕ) → decimal m ≡ decimal n → m ≡ n
decimal_one_to_one m n e = sym (decimal_value m) ∙ ap (value_of 0) e ∙ decimal_value n

first_append : (a b : List ℕ) → 48 < get_or a 0 0 → 48 < get_or (a ++ b) 0 0
first_append [] b h = absurd (omega arith)
first_append (d ∷ a) b h = h

digits_first : (k n : ℕ) → 0 < n → n < k → 48 < get_or (digits k n) 0 0
unfolding digits
digits_first zero n z h = absurd (omega arith)
digits_first (suc k) n z h =
    ⊎_elim (λ l. rw (le-ltb n 10 l)
    (first_append (digits k (n / 10)) ((48 + n % 10) ∷ []) (digits_first k (n / 10) (omega arith) (omega arith))))
    (λ l. rw (lt-ltb n 10 l) (omega arith))
    (le? 10 n)

-- no number but 0 begins with the digit 0, byte 48
pub decimal_first : (n : ℕ) → 0 < n → 48 < get_or (decimal n) 0 0
unfolding decimal
decimal_first n z = digits_first (suc n) n z (omega arith)

-- a number below 10 ^ (k + 1) has at most k + 1 digits
pub decimal_length : (k n : ℕ) → n < 10 ^ suc k → length (decimal n) ≤ suc k
decimal_length zero n h = rw (decimal_one n (omega arith)) (omega arith)
decimal_length (suc k) n h =
    ⊎_elim
    (λ l.
    let p : 10 ^ suc (suc k) ≡ 10 * 10 ^ suc k = pow-succ' 10 (suc k) in
    let a = length-append (decimal (n / 10)) ((48 + n % 10) ∷ []) in
    rw (decimal_more n l) (omega (arith, a, decimal_length k (n / 10) (omega arith))))
    (λ l. rw (decimal_one n l) (omega arith))
    (le? 10 n)
