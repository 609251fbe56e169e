-- Laws of the operands: which codes there are, and what is read and stored of one operand.
use Rattle.std.specs.Prelude.{◌≡◌, ◌⊎◌, ℕ, zero, suc, ◌+◌, ◌≤◌, ◌<◌, List, [], ◌∷◌, drop, leb}
use Rattle.std.specs.Prelude.{eqb, false, ℤ, pos, negsuc}
use Rattle.std.proofs.Common.{refl, sym, ap, ◌∙◌, inl, inr, ⊎_elim, drop_of_length-le, drop-cons}
use Rattle.std.proofs.Common.{add-one}
use native.Mathlib.Omega.{arith}
use Rattle.std.proofs.Math.ListN.{length, get_or, get_or-eq_default}
use borrow.Author.Tests.{lt-ltb, le-ltb, lt-leb, eq-eqb, ne_eqb}
use denote.Param.Members.{Mut, Called}
use Rattle.std.specs.Array.{IsFromFnResultFrom}
use Rattle.laws.specs.Bools.{same?}
use Rattle.codec.specs.declared.operands.Pattern.{Pattern}
use Rattle.codec.specs.Operands.{last_code, row, rows, pattern, leasts, in_range, each}
use Rattle.codec.specs.Operands.{coordinate}
use Rattle.codec.specs.Operands.{zig, zag, wire, unwire, none}

-- x is none of 1 to n; nested as a match over them leaves it
abbrev pub NoneOf : ℕ → ℕ → Type 0
NoneOf zero x = Unit {0}
NoneOf (suc n) x = NoneOf n x × (x ≡ suc n → ⊥)

-- so it is 0 or past them
pub none_of : (n x : ℕ) → NoneOf n x → (x ≡ 0) ⊎ (n < x)
none_of zero x d = ⊎_elim (λ e. inl e) (λ e. inr (omega arith)) (same? x 0)
none_of (suc n) x d = ⊎_elim (λ e. inl e) (λ h. let f = d.1 in inr (omega arith)) (none_of n x d.0)

-- the row of a code that is known
pub by_row : (code k : ℕ) (p : Pattern) → code ≡ k → pattern k ≡ p → p ≡ pattern code
by_row code k p e f = rw (e, f)

-- no such code
pub no_code : (x : ℕ) → last_code < x → row [] ≡ pattern x
unfolding pattern rows
no_code x h = let k : length rows ≤ x = omega arith in sym (get_or-eq_default rows (row []) k)

pub pattern_none : (x : ℕ) → NoneOf last_code x → row [] ≡ pattern x
unfolding pattern rows
pattern_none x d =
    ⊎_elim (λ e. rw e) (λ h. no_code x h) (none_of last_code x d)

-- one number in or out of range
module _ (most : List ℕ) (k n : ℕ) where
  pub range_low : n < get_or leasts k 0 → false ≡ in_range most k n
  unfolding in_range
  range_low h = rw (lt-ltb n (get_or leasts k 0) h)

  pub range_high : get_or leasts k 0 ≤ n → leb n (get_or most k 0) ≡ in_range most k n
  unfolding in_range
  range_high h = rw (le-ltb n (get_or leasts k 0) h)

  pub range_out : length most ≡ 15 → 15 ≤ k → eqb n 0 ≡ in_range most k n
  unfolding in_range
  range_out e h =
      let l : get_or leasts k 0 ≡ 0 = get_or-eq_default leasts 0 h in
      let h' : length most ≤ k = omega arith in
      let m : get_or most k 0 ≡ 0 = get_or-eq_default most 0 h' in
      rw (l, m, le-ltb n 0 (omega arith))
      (⊎_elim (λ z. rw z) (λ z. rw (ne_eqb n 0 z, lt-leb n 0 (omega arith))) (same? n 0))

-- what is left of a list: as a turn begins, and at the end
pub ahead {ℓ} : {A : Type ℓ} (l : List A) (i : ℕ) (d : A) → i < length l → drop i l ≡ get_or l i d ∷ drop (i + 1) l
ahead l i d h = rw (add-one i) (drop-cons l i d h)

pub behind {ℓ} : {A : Type ℓ} (l : List A) (i : ℕ) → length l ≡ 8 → 8 ≤ i → drop i l ≡ []
behind l i e h = let k : length l ≤ i = omega arith in drop_of_length-le l k

-- a list whose every place has the function of the kind and the operand there
pub each_by : {A B : Type 0} (f : ℕ → A → B) (ks : List ℕ) (xs : List A) (ys : List B) (d : A) (e : B)
    → length xs ≡ length ks → length ys ≡ length ks
    → ((i : ℕ) → i < length ks → get_or ys i e ≡ f (get_or ks i 0) (get_or xs i d)) → ys ≡ each f ks xs
each_by f [] xs [] d e p q h = refl
each_by f [] xs (y ∷ ys) d e p q h = absurd (omega arith)
each_by f (k ∷ ks) [] ys d e p q h = absurd (omega arith)
each_by f (k ∷ ks) (x ∷ xs) [] d e p q h = absurd (omega arith)
each_by f (k ∷ ks) (x ∷ xs) (y ∷ ys) d e p q h =
    rw (h 0 (omega arith)) (ap (λ l. f k x ∷ l)
    (each_by f ks xs ys d e (omega arith) (omega arith) (λ i l. h (suc i) (omega arith))))

-- an array made by calls, one for each place, that keep what the first began with and give w
pub made_by : {F B : Type 0} (g : Mut F (ℕ × Unit {0}) B) (keeps : F → Type 0) (w : ℕ → B) (ys : List B) (e : B)
    → ((p q : F) (i : ℕ) (y : B) → keeps p → Called g p (i, tt) y q → keeps q × (y ≡ w i))
    → (n i : ℕ) (p : F) → keeps p → IsFromFnResultFrom g p ys i n → (k : ℕ) → i ≤ k → k < i + n → get_or ys k e ≡ w k
made_by g keeps w ys e step zero i p s m k l h = absurd (omega arith)
made_by g keeps w ys e step (suc n) i p s m k l h =
    let t = step p m.0 i m.1 s m.3 in
    ⊎_elim (λ d. rw d (m.2.1 e ∙ t.1))
    (λ d. made_by g keeps w ys e step n (i + 1) m.0 t.0 m.4 k (omega (arith, l, d)) (omega (arith, h)))
    (same? k i)

-- one operand as it travels, and back
module _ (k : ℕ) (a : ℤ) where
  pub wire_coordinate : k ≡ coordinate → (n : ℕ) → n ≡ zig a → n ≡ wire k a
  unfolding wire
  wire_coordinate e n f = rw (f, eq-eqb k coordinate e)

  pub wire_negative : (k ≡ coordinate → ⊥) → (n : ℕ) → a ≡ negsuc n → none ≡ wire k a
  unfolding wire
  wire_negative e n f = rw (ne_eqb k coordinate e, f)

  pub wire_plain : (k ≡ coordinate → ⊥) → (n : ℕ) → a ≡ pos n → n ≡ wire k a
  unfolding wire
  wire_plain e n f = rw (ne_eqb k coordinate e, f)

module _ (k n : ℕ) where
  pub unwire_coordinate : k ≡ coordinate → (a : ℤ) → a ≡ zag n → a ≡ unwire k n
  unfolding unwire
  unwire_coordinate e a f = rw (f, eq-eqb k coordinate e)

  pub unwire_plain : (k ≡ coordinate → ⊥) → pos n ≡ unwire k n
  unfolding unwire
  unwire_plain e = rw (ne_eqb k coordinate e)
