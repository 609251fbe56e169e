-- The least number that passes a test, above all the test of a label: where there is one, and what is known of it. (A
-- loop's first half-edge, a vertex's starter, a solid's least face.) And how many there are.
use Rattle.std.specs.Prelude.{◌≡◌, refl, ◌≢◌, Bool, true, ℕ, ◌+◌, ◌≤◌, eqb}
use Rattle.std.proofs.Common.{ap, ◌∙◌, ⊎_elim, arith, eqb→eq}
use Rattle.laws.specs.Bools.{pick, true_T, false_T, same_T, eqb_same, eqb_other, split, le?}
use Rattle.laws.specs.Search.{least, Least, none_is, one_is, least_from_is, least_unique, least_none}
use Rattle.laws.specs.Sums.{bit, sum_to, count_to, sum_ext, sum_change, sum_lt, sum_zero, count_one}
use Rattle.sound_tables.specs.Sound.{In}

module _ (n : ℕ) (p : ℕ → Bool) where
  -- what is found passes the test, and is not above any that does
  pub least_found : least n p ≢ 0 → In n (least n p) × (p (least n p) ≡ true)
      × ((k : ℕ) → In n k → p k ≡ true → least n p ≤ k)
  least_found h = go (least_from_is n 1 p)
    where
      -- by what a search finds
      go : Least n 1 p (least n p) → In n (least n p) × (p (least n p) ≡ true)
          × ((k : ℕ) → In n k → p k ≡ true → least n p ≤ k)
      go (none_is z f) = absurd (h z)
      go (one_is a b t f) = (
        (a, omega arith),
        t,
        λ k i e. ⊎_elim (λ g. g) (λ g. absurd (false_T (f k i.0 g) (true_T e))) (le? (least n p) k),
      )

  -- where one passes, one is found
  pub least_some : (k : ℕ) → In n k → p k ≡ true → least n p ≢ 0
  least_some k i e z = go (least_from_is n 1 p)
    where
      -- by what a search finds
      go : Least n 1 p (least n p) → ⊥
      go (none_is y f) = false_T (f k i.0 (omega (arith, i.1))) (true_T e)
      go (one_is a b t f) = omega (arith, a, z)

-- the least of 1..n with label l, or 0
abbrev pub least_with : ℕ → (ℕ → ℕ) → ℕ → ℕ
least_with n lab l = least n (λ k. eqb (lab k) l)

-- r is that number
pub record LeastIs (n : ℕ) (lab : ℕ → ℕ) (l r : ℕ) : Type 0 where
  pub range : In n r
  pub label : lab r ≡ l
  pub before : (k : ℕ) → In n k → lab k ≡ l → r ≤ k

module _ (n : ℕ) (lab : ℕ → ℕ) (l : ℕ) where
  -- what is found is it
  pub label_found : least_with n lab l ≢ 0 → LeastIs n lab l (least_with n lab l)
  label_found h =
      let r = least_found n (λ k. eqb (lab k) l) h in
      record { range = r.0; label = eqb→eq _ _ (true_T r.1); before = λ k i e. r.2 k i (eqb_same e) }

  -- where there is one, one is found
  pub label_some : (k : ℕ) → In n k → lab k ≡ l → least_with n lab l ≢ 0
  label_some k i e = least_some n (λ k. eqb (lab k) l) k i (eqb_same e)

  -- where there is none, 0 is found
  pub label_none : ((k : ℕ) → In n k → lab k ≢ l) → least_with n lab l ≡ 0
  label_none h = least_none n _ (λ k a b. eqb_other (h k (a, b)))

  -- and back
  pub none_label : least_with n lab l ≡ 0 → (k : ℕ) → In n k → lab k ≢ l
  none_label z k i e = label_some k i e z

  -- one with the label is found, if it is the only one
  pub label_only : (r : ℕ) → In n r → lab r ≡ l → ((k : ℕ) → In n k → lab k ≡ l → k ≡ r) → least_with n lab l ≡ r
  label_only r i e u = least_unique n _ r i.0 i.1 (eqb_same e)
      (λ j a b. eqb_other (λ q. omega (arith, b, u j (a, omega (arith, b, i.1)) q)))

  -- how many of 1..n have label l
  abbrev pub many_with : ℕ
  many_with = count_to n (λ k. eqb (lab k) l)

  -- none
  pub many_none : ((k : ℕ) → In n k → lab k ≢ l) → many_with ≡ 0
  many_none h = sum_ext n _ (λ k. 0) (λ k a b. ap bit (eqb_other (h k (a, b)))) ∙ sum_zero n

  -- and back
  pub none_many : many_with ≡ 0 → (k : ℕ) → In n k → lab k ≢ l
  none_many z k i e =
      omega (
        arith,
        z,
        sum_zero n,
        sum_lt n (λ j. 0) (λ j. bit (eqb (lab j) l)) k i.0 i.1
            (omega (arith, ap bit (eqb_same e))) (λ j a b. omega arith),
      )

  -- one alone
  pub many_one : (r : ℕ) → In n r → lab r ≡ l → ((k : ℕ) → In n k → lab k ≡ l → k ≡ r) → many_with ≡ 1
  many_one r i e u =
      sum_ext n _ (λ k. bit (eqb k r))
      (λ k a b. ap bit (same_T {a = eqb (lab k) l} {b = eqb k r}
      (λ t. true_T (eqb_same (u k (a, b) (eqb→eq _ _ t)))) (λ t. true_T (eqb_same (ap lab (eqb→eq _ _ t) ∙ e)))))
      ∙ count_one n (λ k. eqb k r) r i.0 i.1 (eqb_same {m = r} refl) (λ k f. eqb_other f)

  -- and back
  pub one_many : many_with ≡ 1 → (r k : ℕ) → In n r → lab r ≡ l → In n k → lab k ≡ l → k ≡ r
  one_many z r k i e j q = split k r (λ x. x) (λ x. absurd (omega (
    arith,
    z,
    ap bit (eqb_same e),
    drop_r,
    sum_zero n,
    sum_lt n (λ m. 0) others k j.0 j.1 (omega (arith, here x)) (λ m a b. omega arith),
    gone,
  )))
    where
      -- those with the label, but r
      others : ℕ → ℕ
      others m = pick (eqb m r) 0 (bit (eqb (lab m) l))

      -- k is one of them
      here : k ≢ r → others k ≡ 1
      here x = rw (eqb_other x, eqb_same q)

      -- r is not
      gone : others r ≡ 0
      gone = rw (eqb_same {m = r} refl)

      -- so they are one fewer
      drop_r : many_with + others r ≡ sum_to n others + bit (eqb (lab r) l)
      drop_r = sum_change n (λ m. bit (eqb (lab m) l)) others r i.0 i.1 (λ m f. rw (eqb_other f))
