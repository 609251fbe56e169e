-- Texts put into a buffer, one behind the other; what is past the buffer's end is left out.
use Rattle.std.specs.Prelude.{◌≡◌, List, [], ◌∷◌, ◌++◌, ℕ, suc, ◌+◌, ◌≤◌, ◌<◌, length, get_or, drop, set}
use Rattle.std.proofs.Common.{sym, add-zero, arith, add-one, length-append, drop_of_length-le, drop-cons}
use Rattle.std.proofs.lemmas.List.Edits.{sets}
use Rattle.codec.specs.WriteLaws.{sets_append}

-- the end of a line
abbrev pub newline : List ℕ
newline = 10 ∷ []

-- bytes copied one by one: the rest of the text, put where the copy stands, is the whole put at its place
pub put_begin : (l : List ℕ) (at : ℕ) (text : List ℕ) → sets l (at + 0) text ≡ sets l at text
put_begin l at text = rw (add-zero at)

module _ (l : List ℕ) (at i : ℕ) (text whole : List ℕ) (rest : sets l (at + i) (drop i text) ≡ whole) where
  pub put_turn : i < length text → sets (set l (at + i) (get_or text i 0)) (at + (i + 1)) (drop (i + 1) text) ≡ whole
  put_turn h = let n : at + (i + 1) ≡ suc (at + i) = omega arith in
      rw (n, add-one i) (rw (drop-cons text i 0 h) at rest)

  pub put_end : length text ≤ i → l ≡ whole
  put_end h = rw (drop_of_length-le text h) at rest

-- a text is put into a buffer at a place: the place behind it, and the buffer then
abbrev pub Put : List ℕ → ℕ → List ℕ → ℕ → List ℕ → Type 0
Put x a t b y = (b ≡ a + length t) × (y ≡ sets x a t)

-- one text behind the other
pub then : (x y z : List ℕ) (a b d : ℕ) (t u : List ℕ) → Put x a t b y → Put y b u d z → Put x a (t ++ u) d z
then x y z a b d t u (e, f) (g, h) = (omega (arith, length-append t u), rw (h, f, e) (sym (sets_append x a t u)))

-- four texts, and eight
pub put_4 : (x x1 x2 x3 x4 : List ℕ) (a a1 a2 a3 a4 : ℕ) (t1 t2 t3 t4 : List ℕ)
    → Put x a t1 a1 x1 → Put x1 a1 t2 a2 x2 → Put x2 a2 t3 a3 x3 → Put x3 a3 t4 a4 x4
    → Put x a (t1 ++ t2 ++ t3 ++ t4) a4 x4
put_4 x x1 x2 x3 x4 a a1 a2 a3 a4 t1 t2 t3 t4 p1 p2 p3 p4 =
    then x x3 x4 a a3 a4 (t1 ++ t2 ++ t3) t4 (then x x2 x3 a a2 a3 (t1 ++ t2) t3 (then x x1 x2 a a1 a2 t1 t2 p1 p2) p3)
    p4

pub put_8 : (x x1 x2 x3 x4 x5 x6 x7 x8 : List ℕ) (a a1 a2 a3 a4 a5 a6 a7 a8 : ℕ) (t1 t2 t3 t4 t5 t6 t7 t8 : List ℕ)
    → Put x a t1 a1 x1 → Put x1 a1 t2 a2 x2 → Put x2 a2 t3 a3 x3 → Put x3 a3 t4 a4 x4
    → Put x4 a4 t5 a5 x5 → Put x5 a5 t6 a6 x6 → Put x6 a6 t7 a7 x7 → Put x7 a7 t8 a8 x8
    → Put x a (t1 ++ t2 ++ t3 ++ t4 ++ t5 ++ t6 ++ t7 ++ t8) a8 x8
put_8 x x1 x2 x3 x4 x5 x6 x7 x8 a a1 a2 a3 a4 a5 a6 a7 a8 t1 t2 t3 t4 t5 t6 t7 t8 p1 p2 p3 p4 p5 p6 p7 p8 =
    then x x7 x8 a a7 a8 (t1 ++ t2 ++ t3 ++ t4 ++ t5 ++ t6 ++ t7) t8
    (put_4 x x4 x5 x6 x7 a a4 a5 a6 a7 (t1 ++ t2 ++ t3 ++ t4) t5 t6 t7
    (put_4 x x1 x2 x3 x4 a a1 a2 a3 a4 t1 t2 t3 t4 p1 p2 p3 p4) p5 p6 p7) p8

-- at the front of the buffer the place behind a text is its length
pub put_front : (x y t : List ℕ) (b : ℕ) → Put x 0 t b y → (b ≡ length t) × (y ≡ sets x 0 t)
put_front x y t b (e, f) = (omega arith, f)
