-- NEW NUMBERS THE LEAST FREE (document 02, jobs 7 and 9): what that says of an operator at a table, by the kinds of its
-- operands; and why the j-th number that is free at the call is the least once j are taken.
use Rattle.std.specs.Prelude.{◌≡◌, ◌≢◌, ◌⊎◌, Bool, true, false, not, ◌&&◌, ◌||◌, List, [], ◌∷◌, ℕ, zero, suc, ◌+◌, ◌≤◌}
use Rattle.std.specs.Prelude.{◌<◌, eqb, get_or}
use Rattle.std.proofs.Common.{ap, ◌∙◌, inl, inr, ⊎_elim, arith}
use Rattle.laws.specs.Bools.{split, le?, eqb_same, eqb_other, true_T, false_T}
use Rattle.laws.specs.Search.{least, least_unique}
use Rattle.codec.specs.Operands.{pattern, largests}
use Rattle.script.specs.declared.Operator.{Operator}
use Rattle.script.specs.Operator.{operand_of}
use Rattle.layout.specs.declared.shape.Shape.{Shape}
use Rattle.layout.specs.Items.{some}
use Rattle.euler.specs.Exec.{limits, use_word, when_used}
use Rattle.sound_tables.specs.Sound.{In}
use Rattle.chains.specs.Ranks.{count_from, nth}
use Rattle.chains.specs.Cursor.{before_first, between}

-- ---- what is said

-- the operand n of a kind: where the kind is of new numbers (7), n is the least that is free in x; so it is not 0,
-- which `least` gives where none is free
unfoldable pub is_least : Shape → List ℕ → ℕ → ℕ → Bool
is_least sh x kind n =
    not (eqb (get_or when_used kind 0) 7)
    || some n && eqb n (least (get_or (largests (limits sh)) kind 0) (λ m. eqb (use_word sh x kind m) 0))

-- all operands of these kinds from place i on
unfoldable pub all_least : Shape → List ℕ → Operator → List ℕ → ℕ → Bool
all_least sh x o [] i = true
all_least sh x o (k ∷ ks) i = is_least sh x k (operand_of o i) && all_least sh x o ks (i + 1)

-- THE NEW NUMBERS of operator o are the least of their kinds that are free in x
abbrev pub LeastNew : Shape → List ℕ → Operator → Type 0
LeastNew sh x o = all_least sh x o (pattern o.code).kinds 0 ≡ true

-- ---- numbers by rank

-- one of the first j
pub record Taken (name : ℕ → ℕ) (j m : ℕ) : Type 0 where
  pub rank : ℕ
  pub earlier : rank < j
  pub is : m ≡ name rank

-- of more
taken_more : {name : ℕ → ℕ} {j m : ℕ} → Taken name j m → Taken name (suc j) m
taken_more t = record { rank = t.rank; earlier = omega (arith, t.earlier); is = t.is }

-- NAMES-LEAST, of a kind: no number below the j-th is free once the first j are taken
pub least_free : (n : ℕ) (q : ℕ → Bool) (j m : ℕ) → j < count_from n 1 q → 1 ≤ m → m < nth n q j
    → (q m ≡ false) ⊎ Taken (nth n q) j m
least_free n q zero m h a b = inl (before_first n 1 q m h a b)
least_free n q (suc j) m h a b = split m (nth n q j)
    (λ e. inr (record { rank = j; earlier = omega arith; is = e }))
    (λ e. ⊎_elim
    (λ l. ⊎_elim (λ z. inl z) (λ t. inr (taken_more t)) (least_free n q j m (omega (arith, h)) a l))
    (λ l. inl (between n 1 q j m h (omega (arith, l, e)) b))
    (le? (suc m) (nth n q j)))

-- below the j-th number each is in use by the words w, or is one of the first j
abbrev pub Below : (ℕ → ℕ) → (ℕ → ℕ) → ℕ → Type 0
Below w name j = (m : ℕ) → 1 ≤ m → m < name j → (w m ≢ 0) ⊎ Taken name j m

-- the numbers that are free by the words w are such
pub nth_below : (n : ℕ) (w : ℕ → ℕ) (j : ℕ) → j < count_from n 1 (λ i. eqb (w i) 0)
    → Below w (nth n (λ i. eqb (w i) 0)) j
nth_below n w j h m a b =
    ⊎_elim (λ e. inl (λ z. false_T e (true_T (eqb_same z)))) (λ t. inr t) (least_free n (λ i. eqb (w i) 0) j m h a b)

-- ---- as they are taken

-- what was in use by the words w₀, and the first j numbers, are in use by the words w
abbrev pub Held : ℕ → (ℕ → ℕ) → (ℕ → ℕ) → (ℕ → ℕ) → ℕ → Type 0
Held n w₀ w name j = (m : ℕ) → In n m → (w₀ m ≢ 0) ⊎ Taken name j m → w m ≢ 0

-- at first
pub held_none : (n : ℕ) (w name : ℕ → ℕ) → Held n w w name 0
held_none n w name m i h = ⊎_elim (λ e. e) (λ t. absurd (omega (arith, t.earlier))) h

-- still, where nothing goes out of use
pub held_still : (n : ℕ) {w₀ w w' name : ℕ → ℕ} {j : ℕ} → Held n w₀ w name j
    → ((m : ℕ) → In n m → w m ≢ 0 → w' m ≢ 0) → Held n w₀ w' name j
held_still n q h m i k = h m i (q m i k)

-- one more is taken
pub held_more : (n : ℕ) {w₀ w w' name : ℕ → ℕ} {j : ℕ} → Held n w₀ w name j → w' (name j) ≢ 0
    → ((m : ℕ) → In n m → m ≢ name j → w m ≢ 0 → w' m ≢ 0) → Held n w₀ w' name (j + 1)
held_more n {w₀} {w} {w'} {name} {j} q e h m i k = split m (name j) (λ z. rw z e) (λ z. h m i z (q m i (⊎_elim
    (λ a. inl a)
    (λ t. inr (record {
      rank = t.rank;
      earlier =
          let f : t.rank ≢ j = λ y. z (t.is ∙ ap name y) in
          omega (arith, t.earlier, f);
      is = t.is;
    })) k)))

-- THE NEXT IS THE LEAST THAT IS FREE
pub name_least : (n : ℕ) (w₀ w name : ℕ → ℕ) (j : ℕ) → In n (name j) → Below w₀ name j → Held n w₀ w name j
    → w (name j) ≡ 0 → least n (λ m. eqb (w m) 0) ≡ name j
name_least n w₀ w name j i b q e = least_unique n _ (name j) i.0 i.1 (eqb_same e)
    (λ m a l. eqb_other (q m (a, omega (arith, l, i.1)) (b m a l)))
