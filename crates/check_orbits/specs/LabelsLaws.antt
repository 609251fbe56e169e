-- What the passes leave at a label, and the turns of their loops.
use Rattle.std.specs.Prelude.{◌≡◌, ◌≢◌, true, false, List, eqb, length, get_or, set}
use Rattle.std.proofs.Math.Path.{refl, sym, ap}
use Rattle.std.proofs.Common.{◌∙◌, ⊎_elim, arith, get_or-set_same}
use Prim.Native.Nat.{ℕ, zero, suc, ◌+◌, ◌-◌, ◌≤◌, ◌<◌}
use Rattle.std.proofs.Math.Dec.{eqb→eq}
use Rattle.std.proofs.Math.ListN.{length-set}
use Rattle.std.proofs.lemmas.List.{length-replicate}
use Rattle.std.proofs.Math.Seq.{get_or-set_other, set_out}
use Rattle.laws.specs.Bools.{true_T, false_T, split, le?, eqb_same, eqb_other}
use Rattle.laws.specs.Search.{least, Least, none_is, one_is, least_from_is}
use Rattle.laws.specs.Sums.{sum_to, bit, count_to}
use Rattle.laws.specs.Marks.{zeros_at}
use Rattle.bounds.specs.Bounds.{item_places, most_items}
use Rattle.check_orbits.specs.Labels.{blank, down, least_naming, tally, copied}

-- ---- the turns of a loop that goes down

-- one turn: what is left to do gives the whole
pub down_turn : (g : ℕ → List ℕ → List ℕ) (k : ℕ) (a b whole : List ℕ) → down g k a ≡ whole → 0 < k → b ≡ g k a
    → down g (k - 1) b ≡ whole
unfolding down
down_turn g zero a b whole rest h e = absurd (omega arith)
down_turn g (suc k) a b whole rest h e = let n : suc k - 1 ≡ k = omega arith in rw (n, e) rest

-- the number stored is the record's own
pub least_turn : (f : ℕ → ℕ) (k v w : ℕ) (a b whole : List ℕ) → least_naming f k a ≡ whole → 0 < k → v ≡ f k → w ≡ k
    → b ≡ set a v w → least_naming f (k - 1) b ≡ whole
least_turn f k v w a b whole rest h ev ew eb = down_turn (λ j l. set l (f j) j) k a b whole rest h (eb ∙ rw (ev, ew))

-- the entry that grows is the one that the record names
pub tally_turn : (f : ℕ → ℕ) (k v : ℕ) (a b whole : List ℕ) → tally f k a ≡ whole → 0 < k → v ≡ f k
    → b ≡ set a v (get_or a v 0 + 1) → tally f (k - 1) b ≡ whole
tally_turn f k v a b whole rest h ev eb =
    down_turn (λ j l. set l (f j) (get_or l (f j) 0 + 1)) k a b whole rest h (eb ∙ rw ev)

-- nothing is left
pub down_out : (g : ℕ → List ℕ → List ℕ) (k : ℕ) (a whole : List ℕ) → down g k a ≡ whole → k ≤ 0 → a ≡ whole
unfolding down
down_out g zero a whole rest h = rest
down_out g (suc k) a whole rest h = absurd (omega arith)

-- a store keeps the number of entries
pub long_set : (a b : List ℕ) (i v n : ℕ) → length a ≡ n → b ≡ set a i v → length b ≡ n
long_set a b i v n h e = rw (e, length-set a i v) h

-- the blank list has an entry for each label
blank_length : length blank ≡ item_places
blank_length = length-replicate {A = ℕ} item_places 0

pub blank_long : (a : List ℕ) → a ≡ blank → length a ≡ item_places
blank_long a e = ap length e ∙ blank_length

-- ---- counts stay small

-- no entry is above b
pub record AtMost (b : ℕ) (a : List ℕ) : Type 0 where
  pub at : (i : ℕ) → get_or a i 0 ≤ b

-- at first none is above 0
pub blank_most : (a : List ℕ) → a ≡ blank → AtMost 0 a
blank_most a e = record { at = λ i. rw e (omega (arith, zeros_at item_places i)) }

-- one more at i raises the bound by one
pub most_bump : (b : ℕ) (a c : List ℕ) (i : ℕ) → AtMost b a → c ≡ set a i (get_or a i 0 + 1) → AtMost (b + 1) c
most_bump b a c i m e = record { at = λ j. rw e (bound j) }
  where
    bound : (j : ℕ) → get_or (set a i (get_or a i 0 + 1)) j 0 ≤ b + 1
    bound j =
        split j i (λ q. rw q (same (m.at i)))
        (λ d. omega (arith, get_or-set_other a i j (get_or a i 0 + 1) 0 d, m.at j))
      where
        same : get_or a i 0 ≤ b → get_or (set a i (get_or a i 0 + 1)) i 0 ≤ b + 1
        same h = ⊎_elim (λ l. rw (set_out a i (get_or a i 0 + 1) l) (omega arith))
            (λ l. omega (arith, get_or-set_same a i (get_or a i 0 + 1) 0 l)) (le? (length a) i)

-- ---- the least that names a label

module _ (f : ℕ → ℕ) (v : ℕ) where
  -- none of 1..n names v: its entry is as it was
  least_kept : (n : ℕ) (a : List ℕ) → ((j : ℕ) → 1 ≤ j → j ≤ n → eqb (f j) v ≡ false) → get_or (least_naming f n a) v 0
      ≡ get_or a v 0
  unfolding down
  least_kept zero a h = refl
  least_kept (suc n) a h = least_kept n (set a (f (suc n)) (suc n)) (λ j l u. h j l (omega arith))
      ∙ get_or-set_other a (f (suc n)) v (suc n) 0 other
    where
      other : v ≢ f (suc n)
      other e = false_T (h (suc n) (omega arith) (omega arith)) (true_T (eqb_same (sym e)))

  -- r does, and none before it
  least_found : (n : ℕ) (a : List ℕ) (r : ℕ) → v < length a → 1 ≤ r → r ≤ n → eqb (f r) v ≡ true
      → ((j : ℕ) → 1 ≤ j → j < r → eqb (f j) v ≡ false) → get_or (least_naming f n a) v 0 ≡ r
  unfolding down
  least_found zero a r long l u t h = absurd (omega arith)
  least_found (suc n) a r long l u t h = split r (suc n)
      (λ e.
      let q : f (suc n) ≡ v = ap f (sym e) ∙ eqb→eq (f r) v (true_T t) in
      least_kept n (set a (f (suc n)) (suc n)) (λ j b c. h j b (omega arith))
      ∙ rw q (get_or-set_same a v (suc n) 0 long)
      ∙ sym e)
      (λ d. least_found n (set a (f (suc n)) (suc n)) r (omega (arith, length-set a (f (suc n)) (suc n))) l
      (omega arith) t h)

-- each label's entry, 0 at first, is the least that names it, or 0
pub least_naming_lem : (f : ℕ → ℕ) (n v : ℕ) (a : List ℕ) → v < length a → get_or a v 0 ≡ 0
    → get_or (least_naming f n a) v 0
    ≡ least n (λ k. eqb (f k) v)
least_naming_lem f n v a long z = go (least_from_is n 1 (λ k. eqb (f k) v))
  where
    go : Least n 1 (λ k. eqb (f k) v) (least n (λ k. eqb (f k) v)) → get_or (least_naming f n a) v 0
        ≡ least n (λ k. eqb (f k) v)
    go (none_is e h) = least_kept f v n a (λ j l u. h j l (omega arith)) ∙ z ∙ sym e
    go (one_is l u t h) = least_found f v n a (least n (λ k. eqb (f k) v)) long l (omega arith) t h

-- from the blank list
pub least_at : (f : ℕ → ℕ) (n v : ℕ) → v ≤ most_items → get_or (least_naming f n blank) v 0 ≡ least n (λ k. eqb (f k) v)
least_at f n v h = least_naming_lem f n v blank (omega (arith, blank_length)) (zeros_at item_places v)

-- ---- how many name a label

-- each label's entry grows by as many as name it
pub tally_more : (f : ℕ → ℕ) (n v : ℕ) (a : List ℕ) → v < length a
    → get_or (tally f n a) v 0 ≡ get_or a v 0 + count_to n (λ k. eqb (f k) v)
unfolding down sum_to
tally_more f zero v a long = omega arith
tally_more f (suc n) v a long =
    omega (
      arith,
      tally_more f n v (set a (f (suc n)) (get_or a (f (suc n)) 0 + 1)) (omega
          (arith, length-set a (f (suc n)) (get_or a (f (suc n)) 0 + 1))),
      step,
    )
  where
    step : get_or (set a (f (suc n)) (get_or a (f (suc n)) 0 + 1)) v 0 ≡ get_or a v 0 + bit (eqb (f (suc n)) v)
    step = split (f (suc n)) v
        (λ e. rw (eqb_same e, e) (get_or-set_same a v (get_or a v 0 + 1) 0 long))
        (λ d. rw (eqb_other d)
        (omega (arith, get_or-set_other a (f (suc n)) v (get_or a (f (suc n)) 0 + 1) 0 (λ e. d (sym e)))))

-- from the blank list
pub tally_at : (f : ℕ → ℕ) (n v : ℕ) → v ≤ most_items → get_or (tally f n blank) v 0 ≡ count_to n (λ k. eqb (f k) v)
tally_at f n v h = omega (arith, tally_more f n v blank (omega (arith, blank_length)), zeros_at item_places v)

-- ---- the column itself

-- above n nothing changes
copied_above : (f : ℕ → ℕ) (n i : ℕ) (a : List ℕ) → n < i → get_or (copied f n a) i 0 ≡ get_or a i 0
unfolding down
copied_above f zero i a h = refl
copied_above f (suc n) i a h = copied_above f n i (set a (suc n) (f (suc n))) (omega arith)
    ∙ get_or-set_other a (suc n) i (f (suc n)) 0 (omega arith)

-- each of 1..n has what the column has
pub copied_is : (f : ℕ → ℕ) (n i : ℕ) (a : List ℕ) → n < length a → 1 ≤ i → i ≤ n → get_or (copied f n a) i 0 ≡ f i
unfolding down
copied_is f zero i a long l u = absurd (omega arith)
copied_is f (suc n) i a long l u = split i (suc n)
    (λ e. rw e (copied_above f n (suc n) (set a (suc n) (f (suc n))) (omega arith)
    ∙ get_or-set_same a (suc n) (f (suc n)) 0 long))
    (λ d. copied_is f n i (set a (suc n) (f (suc n))) (omega (arith, length-set a (suc n) (f (suc n)))) l (omega arith))

-- from the blank list
pub copied_at : (f : ℕ → ℕ) (n i : ℕ) → n ≤ most_items → 1 ≤ i → i ≤ n → get_or (copied f n blank) i 0 ≡ f i
copied_at f n i h l u = copied_is f n i blank (omega (arith, blank_length)) l u
