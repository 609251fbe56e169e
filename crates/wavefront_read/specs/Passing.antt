-- The numbers that pass a test (`passing_to` of crate wavefront): those and no others, rising. The place of each is how
-- many pass up to it.
use Rattle.std.specs.Prelude.{◌≡◌, refl, ◌⊎◌, Bool, true, false, List, [], ◌∷◌, ◌++◌, ℕ, zero, suc, ◌<◌, T, length}
use Rattle.std.specs.Prelude.{get_or}
use Rattle.std.proofs.Common.{sym, ap, ◌∙◌, subst, inl, inr, ⊎_elim, append-nil, arith, length-append}
use Rattle.std.proofs.Math.ListN.{get_or-append}
use Rattle.laws.specs.Bools.{pick, T_true, true_T, ask, split, le?}
use Rattle.laws.specs.Sums.{bit, sum_to, count_to}
use Rattle.sound_tables.specs.Sound.{In}
use Rattle.wavefront.specs.Obj.{passing_to}
use Rattle.wavefront_read.specs.Laps.{Among}

-- behind a list stands what is put there
last_of_lem : (l : List ℕ) (a : ℕ) → get_or (l ++ (a ∷ [])) (length l) 0 ≡ a
last_of_lem [] a = refl
last_of_lem (b ∷ l) a = last_of_lem l a

-- as many stand there as pass
passing_length : (n : ℕ) (t : ℕ → Bool) → length (passing_to n t) ≡ count_to n t
unfolding passing_to sum_to
passing_length zero t = refl
passing_length (suc n) t =
    length-append (passing_to n t) (pick (t (suc n)) (suc n ∷ []) [])
    ∙ omega (arith, passing_length n t, one (t (suc n)))
  where
    -- one more or none
    one : (b : Bool) → length (pick b (suc n ∷ []) []) ≡ bit b
    one true = refl
    one false = refl

-- v passes, and i of 1..n pass before it: it stands at place i
pub record Placed (n : ℕ) (t : ℕ → Bool) (v i : ℕ) : Type 0 where
  pub range : In n v
  pub passes : T (t v)
  pub count : count_to v t ≡ suc i
  pub within : i < length (passing_to n t)
  pub at : get_or (passing_to n t) i 0 ≡ v

-- a further number changes nothing
placed_on : (n : ℕ) (t : ℕ → Bool) (v i : ℕ) → Placed n t v i → Placed (suc n) t v i
unfolding passing_to
placed_on n t v i r =
    let e = pick (t (suc n)) (suc n ∷ []) [] in
    record {
      range = (r.range.0, omega arith);
      passes = r.passes;
      count = r.count;
      within = omega (arith, length-append (passing_to n t) e, r.within);
      at = get_or-append (passing_to n t) e 0 i r.within ∙ r.at;
    }

-- the last number, if it passes
placed_last : (n : ℕ) (t : ℕ → Bool) → t (suc n) ≡ true → Placed (suc n) t (suc n) (length (passing_to n t))
unfolding passing_to sum_to
placed_last n t e =
    let l : passing_to (suc n) t ≡ passing_to n t ++ (suc n ∷ []) =
    ap (λ b. passing_to n t ++ pick b (suc n ∷ []) []) e in
    record {
      range = (omega arith, omega arith);
      passes = true_T e;
      count = omega (arith, ap bit e, passing_length n t);
      within = omega (arith, passing_length (suc n) t, passing_length n t, ap bit e);
      at = ap (λ r. get_or r (length (passing_to n t)) 0) l ∙ last_of_lem (passing_to n t) (suc n);
    }

-- each number that passes stands at its place
pub place_of : (n : ℕ) (t : ℕ → Bool) (v : ℕ) → In n v → T (t v) → (i : ℕ) × Placed n t v i
place_of zero t v h p = absurd (omega arith)
place_of (suc n) t v h p = split v (suc n)
    (λ e. (
      length (passing_to n t),
      subst (λ w. Placed (suc n) t w (length (passing_to n t))) (sym e)
          (placed_last n t (T_true (subst (λ w. T (t w)) e p))),
    ))
    (λ d. let r = place_of n t v (h.0, omega arith) p in (r.0, placed_on n t v r.0 r.1))

-- and at each place stands one
pub placed_at : (n : ℕ) (t : ℕ → Bool) (i : ℕ) → i < length (passing_to n t) → (v : ℕ) × Placed n t v i
unfolding passing_to sum_to
placed_at zero t i h = absurd (omega arith)
placed_at (suc n) t i h = ⊎_elim
    (λ l. let r = placed_at n t i l in (r.0, placed_on n t r.0 i r.1))
    (λ l. (suc n, last l (ask (t (suc n))))) (le? (suc i) (length (passing_to n t)))
  where
    -- behind all before it stands the last, and there only
    last : length (passing_to n t) < suc i → (t (suc n) ≡ true) ⊎ (t (suc n) ≡ false) → Placed (suc n) t (suc n) i
    last l (inl e) =
        let m : length (passing_to n t) ≡ i = omega (arith, passing_length (suc n) t, passing_length n t, ap bit e) in
        subst (Placed (suc n) t (suc n)) m (placed_last n t e)
    last l (inr e) = absurd (omega (arith, passing_length (suc n) t, passing_length n t, ap bit e))

-- what is among a list stands at a place
among_at : (k : ℕ) (l : List ℕ) → Among k l → (i : ℕ) × (i < length l) × (get_or l i 0 ≡ k)
among_at k [] h = absurd h
among_at k (a ∷ l) h = ⊎_elim (λ e. (0, omega arith, sym e))
    (λ i. let r = among_at k l i in (suc r.0, omega (arith, r.1), r.2)) h

-- all that stand there are of 1..n and pass
pub passing_only : (n : ℕ) (t : ℕ → Bool) (k : ℕ) → Among k (passing_to n t) → In n k × T (t k)
passing_only n t k h =
    let r = among_at k (passing_to n t) h in
    let v = placed_at n t r.0 r.1 in
    subst (λ j. In n j × T (t j)) (sym v.1.at ∙ r.2) (v.1.range, v.1.passes)

-- what stands at a place is among the list
at_among : (l : List ℕ) (i : ℕ) → i < length l → Among (get_or l i 0) l
at_among [] i h = absurd (omega arith)
at_among (a ∷ l) zero h = inl refl
at_among (a ∷ l) (suc i) h = inr (at_among l i (omega arith))

-- and all of 1..n that pass stand there
pub passing_all : (n : ℕ) (t : ℕ → Bool) (k : ℕ) → In n k → T (t k) → Among k (passing_to n t)
passing_all n t k h p =
    let r = place_of n t k h p in
    subst (λ j. Among j (passing_to n t)) r.1.at (at_among (passing_to n t) r.0 r.1.within)

-- each of a list is below the next
abbrev pub Rising : List ℕ → Type 0
Rising [] = Unit {0}
Rising (a ∷ []) = Unit {0}
Rising (a ∷ b ∷ l) = (a < b) × Rising (b ∷ l)

-- a number behind smaller ones
rising_then : (l : List ℕ) (c : ℕ) → Rising l → ((k : ℕ) → Among k l → k < c) → Rising (l ++ (c ∷ []))
rising_then [] c r h = tt
rising_then (a ∷ []) c r h = (h a (inl refl), tt)
rising_then (a ∷ b ∷ l) c r h = (r.0, rising_then (b ∷ l) c r.1 (λ k i. h k (inr i)))

-- so stand those that pass
pub passing_rising : (n : ℕ) (t : ℕ → Bool) → Rising (passing_to n t)
unfolding passing_to
passing_rising zero t = tt
passing_rising (suc n) t = one (t (suc n)) (passing_rising n t)
  where
    -- with the last, if it passes
    one : (b : Bool) → Rising (passing_to n t) → Rising (passing_to n t ++ pick b (suc n ∷ []) [])
    one true r = rising_then (passing_to n t) (suc n) r (λ k i. omega (arith, (passing_only n t k i).0.1))
    one false r = subst Rising (sym (append-nil (passing_to n t))) r
