-- How many of 1..n pass a test, by a list of them: one that has no number twice is no longer, and one that has them all
-- no shorter.
use Rattle.std.specs.Prelude.{◌≡◌, refl, Bool, true, false, List, [], ◌∷◌, ℕ, zero, suc, ◌+◌, ◌≤◌, T, eqb, length}
use Rattle.std.proofs.Common.{sym, ap, ◌∙◌, subst, inl, inr, ⊎_elim, arith}
use Rattle.laws.specs.Bools.{pick, T_true, T_false, split, eqb_same, eqb_other}
use Rattle.laws.specs.Sums.{bit, sum_to, count_to, bit_le, sum_ext, sum_add, sum_le, sum_change, sum_zero}
use Rattle.sound_tables.specs.Sound.{In}
use Rattle.wavefront_read.specs.Laps.{Among, Different}

-- a number is at most one of 1..n
pub once : (n c : ℕ) → count_to n (λ k. eqb c k) ≤ 1
unfolding sum_to
once zero c = omega arith
once (suc n) c = split c (suc n) (λ e. omega (arith, none e, bit_le (eqb c (suc n))))
    (λ d. omega (arith, once n c, ap bit (eqb_other d)))
  where
    -- the last is none of those before it
    none : c ≡ suc n → count_to n (λ k. eqb c k) ≡ 0
    none e = sum_ext n _ (λ k. 0) (λ k a b. ap bit (eqb_other {m = c} (λ q. omega arith))) ∙ sum_zero n

-- k passes and is not a
abbrev but : (ℕ → Bool) → ℕ → ℕ → Bool
but t a k = pick (eqb a k) false (t k)

-- numbers of 1..n that all differ and pass a test are no more than pass it
pub different_count : (n : ℕ) (t : ℕ → Bool) (l : List ℕ) → Different l → ((k : ℕ) → Among k l → In n k × T (t k))
    → length l ≤ count_to n t
different_count n t [] d h = omega arith
different_count n t (a ∷ l) d h =
    let r = h a (inl refl) in
    omega (
      arith,
      different_count n (but t a) l d.1
          (λ k i. ((h k (inr i)).0, rw (eqb_other (λ e. d.0 (subst (λ j. Among j l) (sym e) i))) (h k (inr i)).1)),
      sum_change n (λ k. bit (t k)) (λ k. bit (but t a k)) a r.0.0 r.0.1
          (λ k e. rw (eqb_other {m = a} {n = k} (λ q. e (sym q)))),
      ap bit (T_true {b = t a} r.1),
      ap (λ b. bit (pick b false (t a))) (eqb_same {m = a} refl),
    )

-- and a list of all that pass it is no shorter
pub count_most : (n : ℕ) (t : ℕ → Bool) (l : List ℕ) → ((k : ℕ) → In n k → T (t k) → Among k l)
    → count_to n t ≤ length l
count_most n t [] h = omega (
  arith,
  sum_ext n (λ k. bit (t k)) (λ k. 0) (λ k a b. ap bit (T_false {b = t k} (h k (a, b)))),
  sum_zero n,
)
count_most n t (a ∷ l) h = omega (
  arith,
  count_most n (but t a) l (λ k i p. others k i p),
  sum_le n (λ k. bit (t k)) (λ k. bit (but t a k) + bit (eqb a k)) (λ k b c. one (eqb a k) (t k)),
  sum_add n (λ k. bit (but t a k)) (λ k. bit (eqb a k)),
  once n a,
)
  where
    -- what is not a is behind it
    others : (k : ℕ) → In n k → T (but t a k) → Among k l
    others k i p = split a k (λ e. absurd (subst (λ b. T (pick b false (t k))) (eqb_same e) p))
        (λ d. ⊎_elim (λ e. absurd (d (sym e))) (λ j. j)
        (h k i (subst (λ b. T (pick b false (t k))) (eqb_other d) p)))

    -- what passes is a or not
    one : (b c : Bool) → bit c ≤ bit (pick b false c) + bit b
    one true c = bit_le c
    one false c = omega arith
