-- For code: an array that is filled with the free numbers of a kind, in rising order.
use Rattle.std.specs.Prelude.{◌≡◌, refl, ◌⊎◌, Bool, true, false, List, ℕ, zero, suc, ◌+◌, ◌≤◌, ◌<◌, length, get_or}
use Rattle.std.specs.Prelude.{set}
use Rattle.std.proofs.Common.{sym, ap, ◌∙◌, subst, inl, inr, ⊎_elim, arith, length-set, get_or-set_same}
use Rattle.std.proofs.Common.{get_or-set_other}
use Rattle.laws.specs.Bools.{pick, ask, split}
use Rattle.laws.specs.Sums.{bit}
use Rattle.chains.specs.Ranks.{nth_from, count_from, count_yes, count_no, nth_zero, nth_suc, nth_no}

-- ---- one number more at the end

pub count_last : (n k : ℕ) (p : ℕ → Bool) → count_from (suc n) k p ≡ count_from n k p + bit (p (k + n))
unfolding count_from
count_last zero k p = let e : k + 0 ≡ k = omega arith in rw e (omega arith)
count_last (suc n) k p =
    let e : suc k + n ≡ k + suc n = omega arith in
    rw (← e) (omega (arith, count_last n (suc k) p))

-- those before it stay
pub nth_kept : (n k : ℕ) (p : ℕ → Bool) (j : ℕ) → j < count_from n k p → nth_from (suc n) k p j ≡ nth_from n k p j
unfolding count_from
nth_kept zero k p j h = absurd (omega arith)
nth_kept (suc n) k p j h = go (λ i u. nth_kept n (suc k) p i u) j h (ask (p k))
  where
    go : ((i : ℕ) → i < count_from n (suc k) p → nth_from (suc n) (suc k) p i ≡ nth_from n (suc k) p i) → (j : ℕ)
        → j < count_from (suc n) k p → (p k ≡ true) ⊎ (p k ≡ false)
        → nth_from (suc (suc n)) k p j ≡ nth_from (suc n) k p j
    go ih zero h (inl t) = nth_zero (suc n) k p t ∙ sym (nth_zero n k p t)
    go ih (suc j) h (inl t) = nth_suc (suc n) k p j t ∙ ih j (omega (arith, h, count_yes n k p t)) ∙ sym (nth_suc n k
        p j t)
    go ih j h (inr t) = nth_no (suc n) k p j t ∙ ih j (omega (arith, h, count_no n k p t)) ∙ sym (nth_no n k p j t)

-- and it is the next
pub nth_new : (n k : ℕ) (p : ℕ → Bool) → p (k + n) ≡ true → nth_from (suc n) k p (count_from n k p) ≡ k + n
unfolding count_from
nth_new zero k p t = let e : k + 0 ≡ k = omega arith in nth_zero 0 k p (ap p (sym e) ∙ t) ∙ sym e
nth_new (suc n) k p t =
    let e : suc k + n ≡ k + suc n = omega arith in
    let i = nth_new n (suc k) p (ap p e ∙ t) in
    ⊎_elim
    (λ u. ap (nth_from (suc (suc n)) k p) (count_yes n k p u) ∙ nth_suc (suc n) k p (count_from n (suc k) p) u ∙ i ∙ e)
    (λ u. ap (nth_from (suc (suc n)) k p) (count_no n k p u) ∙ nth_no (suc n) k p (count_from n (suc k) p) u ∙ i ∙ e)
    (ask (p k))

-- ---- the array

-- number n put at place `count`, if it passes
unfoldable pub taken : List ℕ → ℕ → ℕ → Bool → List ℕ
taken out count n t = pick t (set out count n) out

-- the numbers 1 to m have been looked at: `count` pass, and stand in front
pub record Filled (p : ℕ → Bool) (m size : ℕ) (out : List ℕ) (count : ℕ) : Type 0 where
  pub many : count ≡ count_from m 1 p
  pub long : length out ≡ size
  pub few : count ≤ m
  pub at : (j : ℕ) → j < count → get_or out j 0 ≡ nth_from m 1 p j

-- none yet
pub filled_none : (p : ℕ → Bool) (size : ℕ) (out : List ℕ) → length out ≡ size → Filled p 0 size out 0
unfolding count_from
filled_none p size out e = record { many = refl; long = e; few = omega arith; at = λ j h. absurd (omega (arith, h)) }

-- one more
pub filled_next : (p : ℕ → Bool) (m size : ℕ) (out out' : List ℕ) (count count' : ℕ) (t : Bool) → m < size
    → Filled p m size out count → p (suc m) ≡ t → out' ≡ taken out count (suc m) t → count' ≡ count + bit t
    → Filled p (suc m) size out' count'
unfolding taken
filled_next p m size out out' count count' true h f e q c =
    let l = count_last m 1 p in
    let b : bit (p (1 + m)) ≡ 1 = ap bit (ap p (omega arith) ∙ e) in
    record {
      many = omega (arith, c, l, b, f.many);
      long = ap length q ∙ length-set out count (suc m) ∙ f.long;
      few = omega (arith, c, f.few);
      at = λ j u. rw q (split j count
          (λ z.
          let w : count < length out = omega (arith, f.long, f.few, h) in
          let n : 1 + m ≡ suc m = omega arith in
          ap (λ i. get_or (set out count (suc m)) i 0) z ∙ get_or-set_same out count (suc m) 0 w
          ∙ sym (ap (nth_from (suc m) 1 p) (z ∙ f.many) ∙ nth_new m 1 p (ap p n ∙ e) ∙ n))
          (λ z. get_or-set_other out count j (suc m) 0 z ∙ f.at j (omega (arith, u, c, z))
          ∙ sym (nth_kept m 1 p j (omega (arith, u, c, z, f.many)))));
    }
filled_next p m size out out' count count' false h f e q c =
    let l = count_last m 1 p in
    let b : bit (p (1 + m)) ≡ 0 = ap bit (ap p (omega arith) ∙ e) in
    record {
      many = omega (arith, c, l, b, f.many);
      long = ap length q ∙ f.long;
      few = omega (arith, c, f.few);
      at = λ j u. rw q (f.at j (omega (arith, u, c)) ∙ sym (nth_kept m 1 p j (omega (arith, u, c, f.many))));
    }

-- all
pub filled_all : (p : ℕ → Bool) (e n size : ℕ) (out : List ℕ) (count : ℕ) → Filled p e size out count → e ≤ n → n ≤ e
    → Filled p n size out count
filled_all p e n size out count f a b = let z : e ≡ n = omega arith in subst (λ m. Filled p m size out count) z f

-- one more, as code counts
pub filled_more : (p : ℕ → Bool) (m m' size : ℕ) (out out' : List ℕ) (count count' : ℕ) (t : Bool) → m' ≡ m + 1 → m <
    size
    → Filled p m size out count → p m' ≡ t → out' ≡ taken out count m' t → count' ≡ count + bit t
    → Filled p m' size out' count'
filled_more p m m' size out out' count count' t i h f e q c =
    let z : m' ≡ suc m = omega arith in
    rw z (filled_next p m size out out' count count' t h f (ap p (sym z) ∙ e) (q ∙ ap (λ n. taken out count n t) z) c)
