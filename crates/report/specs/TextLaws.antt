-- What the code that writes the text leaves, step by step.
use Rattle.std.specs.Prelude.{◌≡◌, List, ◌++◌, ℕ, zero, suc, ◌-◌, ◌*◌, ◌/◌, ◌%◌, ◌^◌, ◌≤◌, ◌<◌, length, take}
use Rattle.std.proofs.Common.{◌∙◌, subst, ⊎_elim, arith, lt-ltb}
use Rattle.std.proofs.Math.Nat.{pow-succ', one-le-pow, pow-le-pow_right}
use Rattle.std.proofs.lemmas.List.Edits.{sets}
use Rattle.laws.specs.Bools.{le?}
use Rattle.text.specs.Decimal.{decimal, decimal_one, decimal_more}
use Rattle.text.specs.Put.{newline, Put, then, put_4, put_8, put_front}
use Rattle.table.specs.declared.count.CountAnswer.{CountAnswer}
use Rattle.io.specs.Digits as io
use Rattle.report.specs.Text.{refusal_label, done_label, used_label, solids_label}
use Rattle.report.specs.Text.{faces_label, loops_label, edges_label, vertices_label, rings_label, holes_label, field}
use Rattle.report.specs.Text.{answer_line, count_line, text_of}

-- the fewest digits that hold a number, as the library `io` finds them
pub decimal_is : (k n : ℕ) → io.IsDigitCount 10 1 n k → io.last_digits 10 k n ≡ decimal n
decimal_is zero n (a, b, f) = absurd (omega arith)
decimal_is (suc zero) n (a, b, f) = let m : n % 10 ≡ n = omega arith in
    rw (lt-ltb (n % 10) 10 (omega arith), decimal_one n b, m)
decimal_is (suc (suc k)) n (a, b, f) =
    let p : 10 ^ suc (suc k) ≡ 10 * 10 ^ suc k = pow-succ' 10 (suc k) in
    let q : 10 ^ suc k ≡ 10 * 10 ^ k = pow-succ' 10 k in
    let z : 10 ^ suc k ≤ n = subst (λ (j : ℕ). 10 ^ j ≤ n) (omega arith) (f (omega arith)) in
    let o : 1 ≤ 10 ^ k = one-le-pow k 10 (omega arith) in
    let v : 10 ^ k ≤ n / 10 = omega arith in
    let w : 10 ^ (suc k - 1) ≤ n / 10 = subst (λ (j : ℕ). 10 ^ j ≤ n / 10) (omega arith) v in
    rw (
      lt-ltb (n % 10) 10 (omega arith),
      decimal_more n (omega arith),
      decimal_is (suc k) (n / 10) (omega arith, omega arith, λ g. w),
    )

-- a number of 64 bits has at most 20 digits
pub few_digits : (k n : ℕ) → io.IsDigitCount 10 1 n k → n < 2 ^ 64 → k ≤ 20
few_digits k n (a, b, f) h =
    ⊎_elim
    (λ (l : 21 ≤ k).
    let p : 10 ^ 20 ≤ 10 ^ (k - 1) = pow-le-pow_right {n = 10} (omega arith) {i = 20} {j = k - 1} (omega arith) in
    let q : 10 ^ (k - 1) ≤ n = f (omega arith) in
    omega arith)
    (λ l. omega arith)
    (le? 21 k)

-- the digits that `io` finds are put
pub put_digits : (x y t : List ℕ) (a b k n : ℕ) → io.IsDigitCount 10 1 n k → take k t ≡ io.last_digits 10 k n
    → Put x a (take k t) b y → Put x a (decimal n) b y
put_digits x y t a b k n f e p = rw (e ∙ decimal_is k n f) at p

-- a label, then its number
pub put_field : (x y z label : List ℕ) (a b d n : ℕ) → Put x a label b y → Put y b (decimal n) d z
    → Put x a (field label n) d z
unfolding field
put_field x y z label a b d n p q = then x y z a b d label (decimal n) p q

-- the first line
pub put_answer : (x x1 x2 x3 x4 : List ℕ) (a1 a2 a3 a4 refusal done used : ℕ)
    → Put x 0 (field refusal_label refusal) a1 x1 → Put x1 a1 (field done_label done) a2 x2
    → Put x2 a2 (field used_label used) a3 x3
    → Put x3 a3 newline a4 x4 → (a4 ≡ length (answer_line refusal done used))
    × (x4 ≡ sets x 0 (answer_line refusal done used))
unfolding answer_line
put_answer x x1 x2 x3 x4 a1 a2 a3 a4 refusal done used p1 p2 p3 p4 =
    put_front x x4 (field refusal_label refusal ++ field done_label done ++ field used_label used ++ newline) a4
    (put_4 x x1 x2 x3 x4 0 a1 a2 a3 a4 (field refusal_label refusal) (field done_label done)
    (field used_label used) newline p1 p2 p3 p4)

-- the second line
pub put_counts : (x x1 x2 x3 x4 x5 x6 x7 x8 : List ℕ) (a a1 a2 a3 a4 a5 a6 a7 a8 : ℕ) (c : CountAnswer)
    → Put x a (field solids_label c.solids) a1 x1 → Put x1 a1 (field faces_label c.faces) a2 x2
    → Put x2 a2 (field loops_label c.loops) a3 x3 → Put x3 a3 (field edges_label c.edges) a4 x4
    → Put x4 a4 (field vertices_label c.vertices) a5 x5 → Put x5 a5 (field rings_label c.rings) a6 x6
    → Put x6 a6 (field holes_label c.holes) a7 x7 → Put x7 a7 newline a8 x8 → Put x a (count_line c) a8 x8
unfolding count_line
put_counts x x1 x2 x3 x4 x5 x6 x7 x8 a a1 a2 a3 a4 a5 a6 a7 a8 c =
    put_8 x x1 x2 x3 x4 x5 x6 x7 x8 a a1 a2 a3 a4 a5 a6 a7 a8 (field solids_label c.solids)
    (field faces_label c.faces)
    (field loops_label c.loops) (field edges_label c.edges) (field vertices_label c.vertices)
    (field rings_label c.rings)
    (field holes_label c.holes) newline

-- both
pub put_text : (x y z : List ℕ) (a b refusal done used : ℕ) (c : CountAnswer)
    → (a ≡ length (answer_line refusal done used)) × (y ≡ sets x 0 (answer_line refusal done used))
    → Put y a (count_line c) b z → (b ≡ length (text_of refusal done used c))
    × (z ≡ sets x 0 (text_of refusal done used c))
unfolding text_of
put_text x y z a b refusal done used c (e, f) q =
    put_front x z (answer_line refusal done used ++ count_line c) b
    (then x y z 0 a b (answer_line refusal done used) (count_line c) (omega arith, f) q)
