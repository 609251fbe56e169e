-- Operators written one after the other, with the bytes that their inverses take.
use Rattle.std.specs.Prelude.{◌≡◌, refl, List, [], ◌∷◌, ◌++◌, ℕ, suc, ◌+◌, ◌*◌, ◌≤◌, ℤ, length}
use Rattle.std.proofs.Common.{sym, ap, ◌∙◌, subst, append-nil, arith, length-append, le-leb}
use Rattle.std.proofs.lemmas.List.Edits.{sets}
use Rattle.std.proofs.Math.Seq.{length-sets}
use Rattle.codec.specs.WriteLaws.{sets_append}
use Rattle.script.specs.declared.Operator.{Operator}
use Rattle.script.specs.Operator.{operator_bytes, put_bytes, write_script}
use Rattle.layout.specs.declared.shape.Shape.{Shape}
use Rattle.euler.specs.Exec.{inverse}
use Rattle.chains.specs.Series.{series, joined, series_length}
use Rattle.chains.specs.Cursor.{series_last, joined_last, write_append}
use Rattle.chains.specs.Runs.{room_for}

-- the list stands in the buffer from place `from` on; `at` is the place behind it, and `room` has grown by the bytes of
-- the inverses
pub record Laid (os : List Operator) (out₀ : List ℕ) (from room₀ : ℕ) (out : List ℕ) (at room : ℕ) : Type 0 where
  pub is : out ≡ sets out₀ from (write_script os)
  pub behind : at ≡ from + length (write_script os)
  pub most : at ≤ from + 27 * length os
  pub rooms : (sh : Shape) (x : List ℕ) (p : List ℤ) → room ≡ room₀ + room_for sh x p os
  pub less : room ≤ room₀ + 27 * length os

-- the inverse of an operator takes n bytes, whatever the table
pub record Undone (op : Operator) (n : ℕ) : Type 0 where
  pub is : (sh : Shape) (x : List ℕ) (p : List ℤ) → length (operator_bytes (inverse sh x p op)) ≡ n
  pub few : n ≤ 27

-- the room of two lists
room_append : (sh : Shape) (x : List ℕ) (p : List ℤ) (os ns : List Operator)
    → room_for sh x p (os ++ ns) ≡ room_for sh x p os + room_for sh x p ns
unfolding room_for
room_append sh x p [] ns = omega arith
room_append sh x p (o ∷ os) ns = omega (arith, room_append sh x p os ns)

-- none
pub laid_none : (out : List ℕ) (from room : ℕ) → Laid [] out from room out from room
unfolding write_script room_for
laid_none out from room = record {
  is = refl;
  behind = omega arith;
  most = omega arith;
  rooms = λ sh x p. omega arith;
  less = omega arith;
}

-- one
pub laid_one : (op : Operator) (out out' : List ℕ) (from at size room room' more : ℕ) → Undone op more
    → size ≡ length (operator_bytes op) → size ≤ 27 → from + 27 ≤ length out
    → out' ≡ put_bytes out from (operator_bytes op) → at ≡ from + size → room' ≡ room + more
    → Laid (op ∷ []) out from room out' at room'
unfolding put_bytes write_script room_for
laid_one op out out' from at size room room' more inv s m fits q a b =
    let e = append-nil (operator_bytes op) in
    let f : from + length (operator_bytes op) ≤ length out = omega (arith, s, m, fits) in
    record {
      is = q ∙ rw (le-leb (from + length (operator_bytes op)) (length out) f) (ap (sets out from) (sym e));
      behind = omega (arith, a, s, ap length e);
      most = omega (arith, a, m);
      rooms = λ sh x p. omega (arith, b, inv.is sh x p);
      less = omega (arith, b, inv.few);
    }

-- two lists
pub laid_join : {os ns : List Operator} {a b c : List ℕ} {p q r s t u : ℕ} → Laid os a p s b q t → Laid ns b q t c r u
    → Laid (os ++ ns) a p s c r u
laid_join {os} {ns} {a} {b} {c} {p} {q} {r} {s} {t} {u} h k =
    let w = write_script os in
    let v = write_script ns in
    let e = write_append os ns in
    let l = length-append w v in
    let m = length-append os ns in
    record {
      is = k.is ∙ ap (λ n. sets b n v) h.behind ∙ ap (λ o. sets o (p + length w) v) h.is
          ∙ sym (sets_append a p w v) ∙ ap (sets a p) (sym e);
      behind = omega (arith, h.behind, k.behind, ap length e, l);
      most = omega (arith, h.most, k.most, m);
      rooms = λ sh x y. omega (arith, h.rooms sh x y, k.rooms sh x y, room_append sh x y os ns);
      less = omega (arith, h.less, k.less, m);
    }

-- the buffer keeps its length
pub laid_length : {os : List Operator} {a b : List ℕ} {p q s t : ℕ} → Laid os a p s b q t → length b ≡ length a
laid_length {os} {a} {p = p} h = ap length h.is ∙ length-sets a p (write_script os)

-- a series and one more
pub laid_next : (f : ℕ → Operator) (j : ℕ) {j' : ℕ} {op : Operator} {a b c : List ℕ} {p q r s t u : ℕ}
    → Laid (series 0 j f) a p s b q t → Laid (op ∷ []) b q t c r u → op ≡ f j → j' ≡ j + 1
    → Laid (series 0 j' f) a p s c r u
laid_next f j {j'} {op} {a} {c = c} {p} {r = r} {s} {u = u} h k e i =
    let z : j' ≡ suc j = omega arith in
    let n : 0 + j ≡ j = omega arith in
    let w : series 0 j f ++ (op ∷ []) ≡ series 0 j' f =
    ap (λ o. series 0 j f ++ (o ∷ [])) (e ∙ ap f (sym n)) ∙ sym (series_last 0 j f) ∙ ap (λ m. series 0 m f) (sym z) in
    subst (λ os. Laid os a p s c r u) w (laid_join h k)

-- lists joined and one more
pub laid_more : (f : ℕ → List Operator) (j : ℕ) {j' : ℕ} {os : List Operator} {a b c : List ℕ} {p q r s t u : ℕ}
    → Laid (joined 0 j f) a p s b q t → Laid os b q t c r u → os ≡ f j → j' ≡ j + 1
    → Laid (joined 0 j' f) a p s c r u
laid_more f j {j'} {os} {a} {c = c} {p} {r = r} {s} {u = u} h k e i =
    let z : j' ≡ suc j = omega arith in
    let n : 0 + j ≡ j = omega arith in
    let w : joined 0 j f ++ os ≡ joined 0 j' f =
    ap (λ o. joined 0 j f ++ o) (e ∙ ap f (sym n)) ∙ sym (joined_last 0 j f) ∙ ap (λ m. joined 0 m f) (sym z) in
    subst (λ os. Laid os a p s c r u) w (laid_join h k)

-- no list at first
pub laid_empty : {A : List Operator} {out : List ℕ} {from room : ℕ} → [] ≡ A → Laid A out from room out from room
laid_empty {out = out} {from} {room} e = subst (λ os. Laid os out from room out from room) e (laid_none out from room)

pub series_zero : (f : ℕ → Operator) → [] ≡ series 0 0 f
unfolding series
series_zero f = refl

pub joined_zero : (f : ℕ → List Operator) → [] ≡ joined 0 0 f
unfolding joined
joined_zero f = refl

-- how far a series goes
pub laid_far : (f : ℕ → Operator) (j : ℕ) {a b : List ℕ} {p q s t : ℕ} → Laid (series 0 j f) a p s b q t
    → (q ≤ p + 27 * j) × (t ≤ s + 27 * j)
laid_far f j h = (omega (arith, h.most, series_length 0 j f), omega (arith, h.less, series_length 0 j f))

-- all of it
pub laid_all : (f : ℕ → Operator) (j n : ℕ) {a b : List ℕ} {p q s t : ℕ} → Laid (series 0 j f) a p s b q t → j ≤ n
    → n ≤ j → Laid (series 0 n f) a p s b q t
laid_all f j n {a} {b} {p} {q} {s} {t} h c d =
    let z : j ≡ n = omega arith in subst (λ m. Laid (series 0 m f) a p s b q t) z h
