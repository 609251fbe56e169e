-- Operands written from the last to the first, so that their bytes end before a place.
use Rattle.std.specs.Prelude.{◌≡◌, refl, ℕ, zero, suc, ◌+◌, ◌-◌, ◌*◌, ◌≤◌, ◌<◌, true, List, [], ◌∷◌, ◌++◌, map, length}
use Rattle.std.specs.Prelude.{get_or, drop, set, ℤ, pos, eqb}
use Rattle.std.proofs.Common.{sym, ap, ◌∙◌, ⊎_elim, add-zero, add-suc, suc-add, arith, length-append, eq-eqb}
use Rattle.std.proofs.lemmas.List.Edits.{sets}
use Rattle.std.proofs.lemmas.List.{set_comm}
use Rattle.laws.specs.Bools.{ask, allb}
use Rattle.codec.specs.declared.operands.Pattern.{Pattern}
use Rattle.numbers.specs.Number.{groups}
use Rattle.codec.specs.Operands.{unused, rows, pattern, filled, wire, wires}
use Rattle.codec.specs.OperandBytes.{operand_bytes, operands_bytes}
use Rattle.numbers.specs.NumberLaws.{groups_size}
use Rattle.codec.specs.WriteLaws.{bytes_number, bytes_next}
use Rattle.codec.specs.Ranges.{not_true, each_row}

-- a store in front of stores
set_sets : (l : List ℕ) (i j a : ℕ) (vs : List ℕ) → i < j → set (sets l j vs) i a ≡ sets (set l i a) j vs
set_sets l i j a [] h = refl
set_sets l i j a (v ∷ vs) h =
    set_sets (set l j v) i (suc j) a vs (omega arith)
    ∙ ap (λ (m : List ℕ). sets m (suc j) vs) (set_comm l j i v a (omega arith))

-- bytes stored in front of bytes
pub sets_front : (l : List ℕ) (i : ℕ) (b a : List ℕ) → sets (sets l (i + length b) a) i b ≡ sets l i (b ++ a)
sets_front l i [] a = rw (add-zero i)
sets_front l i (x ∷ b) a =
    ap (λ (m : List ℕ). sets m (suc i) b) (set_sets l i (i + suc (length b)) x a (omega arith))
    ∙ ap (λ (k : ℕ). sets (sets (set l i x) k a) (suc i) b) (add-suc i (length b) ∙ sym (suc-add i (length b)))
    ∙ sets_front (set l i x) (suc i) b a

-- the same by places: `p` is where what stands there begins, `q` where it begins afterwards
pub before_turn : (l m y : List ℕ) (p q : ℕ) (b a whole : List ℕ) → whole ≡ b ++ a → m ≡ sets l p a → length b ≤ p
    → q ≡ p - length b → y ≡ sets m (p - length b) b → y ≡ sets l q whole
before_turn l m y p q b a whole w e h f g =
    let k : p - length b + length b ≡ p = omega arith in
    rw (g, e, w, f) (ap (λ (n : ℕ). sets (sets l n a) (p - length b) b) (sym k) ∙ sets_front l (p - length b) b a)

-- each code's row: its count is that of its operands
all_filled : allb (map (λ (p : Pattern). filled p.count p.kinds) rows) ≡ true
unfolding rows filled
all_filled = refl

pub pattern_filled : (code : ℕ) → filled (pattern code).count (pattern code).kinds ≡ true
unfolding filled
pattern_filled code = each_row (λ (p : Pattern). filled p.count p.kinds) refl all_filled code

pub filled_fits : (n : ℕ) (ks : List ℕ) → filled n ks ≡ true → n ≤ length ks
unfolding filled
filled_fits zero ks f = omega arith
filled_fits (suc n) [] f = not_true f
filled_fits (suc n) (k ∷ ks) f =
    ⊎_elim (λ t. not_true (rw t at f)) (λ t. let h = filled_fits n ks (rw t at f) in omega arith) (ask (eqb k unused))

used_at : (n i : ℕ) (ks : List ℕ) → filled n ks ≡ true → i < n → get_or ks i 0 ≡ unused → ⊥
unfolding filled
used_at zero i ks f h e = omega arith
used_at (suc n) i [] f h e = not_true f
used_at (suc n) zero (k ∷ ks) f h e = not_true (rw (eq-eqb k unused e) at f)
used_at (suc n) (suc i) (k ∷ ks) f h e =
    ⊎_elim (λ t. not_true (rw t at f)) (λ t. used_at n i ks (rw t at f) (omega arith) e) (ask (eqb k unused))

-- no byte behind them
pub none_behind : (n : ℕ) (ks ns : List ℕ) → length ns ≡ length ks → filled n ks ≡ true
    → operands_bytes (drop n ks) (drop n ns) ≡ []
unfolding filled operands_bytes operand_bytes
none_behind zero [] ns l f = refl
none_behind zero (k ∷ ks) [] l f = refl
none_behind zero (k ∷ ks) (n ∷ ns) l f =
    ⊎_elim (λ t. rw t (none_behind zero ks ns (omega arith) (rw t at f))) (λ t. not_true (rw t at f))
    (ask (eqb k unused))
none_behind (suc n) [] ns l f = refl
none_behind (suc n) (k ∷ ks) [] l f = absurd (omega arith)
none_behind (suc n) (k ∷ ks) (m ∷ ns) l f =
    ⊎_elim (λ t. not_true (rw t at f)) (λ t. none_behind n ks ns (omega arith) (rw t at f)) (ask (eqb k unused))

-- the last operands take no more bytes than all
pub size_drop : (n : ℕ) (ks ns : List ℕ) → length ns ≡ length ks
    → length (operands_bytes (drop n ks) (drop n ns)) ≤ length (operands_bytes ks ns)
unfolding operands_bytes
size_drop zero ks ns l = omega arith
size_drop (suc n) [] ns l = omega arith
size_drop (suc n) (k ∷ ks) [] l = absurd (omega arith)
size_drop (suc n) (k ∷ ks) (m ∷ ns) l =
    let h = size_drop n ks ns (omega arith) in
    let e = length-append (operand_bytes k m) (operands_bytes ks ns) in
    omega arith

pub wires_length : (ks : List ℕ) (xs : List ℤ) → length xs ≡ length ks → length (wires ks xs) ≡ length ks
wires_length [] xs l = refl
wires_length (k ∷ ks) [] l = absurd (omega arith)
wires_length (k ∷ ks) (x ∷ xs) l = let h = wires_length ks xs (omega arith) in omega arith

pub wires_at : (ks : List ℕ) (xs : List ℤ) → length xs ≡ length ks → (i : ℕ) → i < length ks
    → get_or (wires ks xs) i 0 ≡ wire (get_or ks i 0) (get_or xs i (pos 0))
wires_at [] xs l i h = absurd (omega arith)
wires_at (k ∷ ks) [] l i h = absurd (omega arith)
wires_at (k ∷ ks) (x ∷ xs) l zero h = refl
wires_at (k ∷ ks) (x ∷ xs) l (suc i) h = wires_at ks xs (omega arith) i (omega arith)

-- an operand takes at most three bytes
operand_bound : (k n : ℕ) → length (operand_bytes k n) ≤ 3
unfolding operand_bytes
operand_bound k n = ⊎_elim (λ t. rw t (omega arith)) (λ t. rw t (groups_size n).1) (ask (eqb k unused))

pub operands_bound : (ks ns : List ℕ) → length (operands_bytes ks ns) ≤ 3 * length ks
unfolding operands_bytes
operands_bound [] ns = omega arith
operands_bound (k ∷ ks) [] = omega arith
operands_bound (k ∷ ks) (n ∷ ns) =
    let h = operands_bound ks ns in
    let o = operand_bound k n in
    let e = length-append (operand_bytes k n) (operands_bytes ks ns) in
    omega arith

-- operand i - 1 written in front of those behind it
module _ (ks : List ℕ) (xs : List ℤ) (p : length ks ≡ 8) (q : length xs ≡ 8) (n : ℕ) (f : filled n ks ≡ true) where
  -- the bytes of the operands from i on
  abbrev behind : ℕ → List ℕ
  behind i = operands_bytes (drop i ks) (drop i (wires ks xs))

  eight : length (wires ks xs) ≡ 8
  eight = let h = wires_length ks xs (omega arith) in omega arith

  bytes_at : (i : ℕ) → i < n → behind i ≡ groups (wire (get_or ks i 0) (get_or xs i (pos 0))) ++ behind (i + 1)
  bytes_at i h =
      let k = filled_fits n ks f in
      bytes_next ks (wires ks xs) i p eight (omega arith)
      ∙ ap (λ (b : List ℕ). b ++ behind (i + 1))
      (bytes_number (get_or ks i 0) (get_or (wires ks xs) i 0) (used_at n i ks f h)
      ∙ ap groups (wires_at ks xs (omega arith) i (omega arith)))

  pub last_none : behind n ≡ []
  last_none = none_behind n ks (wires ks xs) (wires_length ks xs (omega arith)) f

  module _ (i w : ℕ) (h : 0 < i) (k : i ≤ n) (e : w ≡ wire (get_or ks (i - 1) 0) (get_or xs (i - 1) (pos 0)))
      (end from : ℕ)
      (fits : length (operands_bytes ks (wires ks xs)) ≤ end) (g : from ≡ end - length (behind i)) where
    bytes_last : behind (i - 1) ≡ groups w ++ behind i
    bytes_last =
        let o : i - 1 + 1 ≡ i = omega arith in
        bytes_at (i - 1) (omega arith)
        ∙ ap (λ (b : List ℕ). b ++ behind (i - 1 + 1)) (ap groups (sym e))
        ∙ ap (λ (j : ℕ). groups w ++ behind j) o

    size_last : length (behind (i - 1)) ≡ length (groups w) + length (behind i)
    size_last = rw bytes_last (length-append (groups w) (behind i))

    pub last_fits : (length (groups w) ≤ from) × (from ≤ end)
    last_fits =
        let d = size_drop (i - 1) ks (wires ks xs) (wires_length ks xs (omega arith)) in
        let z = size_last in
        (omega arith, omega arith)

    pub last_turn : (l m y : List ℕ) (to : ℕ) → m ≡ sets l from (behind i) → to ≡ from - length (groups w)
        → y ≡ sets m (from - length (groups w)) (groups w)
        → (to ≡ end - length (behind (i - 1))) × (y ≡ sets l to (behind (i - 1)))
    last_turn l m y to a b d =
        let z = size_last in
        (omega arith, before_turn l m y from to (groups w) (behind i) (behind (i - 1)) bytes_last a last_fits.0 b d)
