-- Laws of padded bytes: what the shortest form is, number by number; that the same numbers are read from it; and that
-- shortest bytes are their own.
use Rattle.std.specs.Prelude.{◌≡◌, refl, ◌≢◌, Bool, true, false, ◌&&◌, List, [], ◌∷◌, ◌++◌, ℕ, zero, suc, ◌+◌, ◌-◌, ◌*◌}
use Rattle.std.specs.Prelude.{◌/◌, ◌%◌, ◌≤◌, ◌<◌, ltb, leb, eqb, length, take, drop}
use Rattle.std.specs.Prelude.{Option, Some, None}
use Rattle.std.proofs.Common.{sym, ap, ◌∙◌, subst, ⊎_elim, append_assoc, append-nil, add-zero, zero-add, arith}
use Rattle.std.proofs.Common.{length-take, length-drop, length-append, take-append-drop, drop_of_length-le}
use Rattle.std.proofs.Common.{length-take-le, drop_at, drop-drop, get_or-take, get_or-drop, lt-ltb, le-ltb, le-leb}
use Rattle.std.proofs.Common.{leb-false, ne_eqb}
use Rattle.std.proofs.Math.ListN.{get_or-eq_default}
use Rattle.std.proofs.Math.Seq.{take-length, take-append_seam, drop-length, drop-append_seam}
use Rattle.std.proofs.lemmas.Bool.{lt-leb, eqb-false}
use Rattle.laws.specs.Bools.{pick, le?}
use Rattle.numbers.specs.Number.{first, read_number, groups, on_num}
use Rattle.numbers.specs.NumberLaws.{first_end, groups_1, groups_2, groups_3, size_2, size_3, groups_size}
use Rattle.numbers.specs.NumberTrip.{Reads, one, two, three, reads_got, reads_size, reads_small, reads_own}
use Rattle.numbers.specs.NumberTrip.{number_found, bad_anywhere, number_next, number_small, number_written}
use Rattle.numbers.specs.NumberTrip.{Bytes, reads_fewest, reads_form, form_groups}
use Rattle.numbers.specs.Padded.{shorten_for, shorten, shorten_from, shortest}

-- ---- one number of the shortest form

-- of no bytes there are none
shorten_none : (n : ℕ) (s : List ℕ) → length s ≤ 0 → shorten_for n s ≡ s
unfolding shorten_for read_number first
shorten_none zero s h = refl
shorten_none (suc n) [] h = refl
shorten_none (suc n) (b ∷ r) h = absurd (omega arith)

-- so nothing becomes nothing
pub shorten_nil : shorten [] ≡ []
unfolding shorten shorten_for
shorten_nil = refl

-- there are no more numbers than bytes: more steps change nothing
enough : (m n : ℕ) (s : List ℕ) → length s ≤ m → length s ≤ n → shorten_for m s ≡ shorten_for n s
unfolding shorten_for
enough zero n s h i = sym (shorten_none n s h)
enough (suc m) zero s h i = shorten_none (suc m) s i
enough (suc m) (suc n) s h i = by (read_number s 0) refl (λ l. enough m n l)
  where
    by : (x : Option (ℕ × ℕ)) → read_number s 0 ≡ x
        → ((l : List ℕ) → length l ≤ m → length l ≤ n → shorten_for m l ≡ shorten_for n l)
        → on_num x (λ v next. groups v ++ shorten_for m (drop next s)) s
        ≡ on_num x (λ v next. groups v ++ shorten_for n (drop next s)) s
    by (Some (v, k)) e rest =
        let a = number_next s 0 v k e in
        let l = length-drop k s in
        ap (λ (r : List ℕ). groups v ++ r) (rest (drop k s) (omega (arith, a.0, l)) (omega (arith, a.0, l)))
    by None e rest = refl

-- what is not read stays
pub shorten_bad : (s : List ℕ) → read_number s 0 ≡ None → shorten s ≡ s
unfolding shorten shorten_for
shorten_bad [] e = refl
shorten_bad (b ∷ r) e = rw e

-- a number in its fewest groups, and then the rest
pub shorten_got : (s : List ℕ) (v k : ℕ) → read_number s 0 ≡ Some (v, k) → shorten s ≡ groups v ++ shorten (drop k s)
unfolding shorten shorten_for
shorten_got s v k e =
    let a = number_next s 0 v k e in
    let l = length-drop k s in
    enough (length s) (suc (length s)) s (omega arith) (omega arith)
    ∙ rw e (ap (λ (r : List ℕ). groups v ++ r)
    (enough (length s) (length (drop k s)) (drop k s) (omega (arith, l)) (omega arith)))

-- number by number: what holds where no number is read, and of a number where it holds behind it, holds of any bytes
module _ (P : List ℕ → Type 0) (bad : (s : List ℕ) → read_number s 0 ≡ None → P s)
    (got : (s : List ℕ) (v k : ℕ) → read_number s 0 ≡ Some (v, k) → P (drop k s) → P s) where
  -- of n bytes at most
  numbers_for : (n : ℕ) (s : List ℕ) → length s ≤ n → P s
  numbers_for zero s h = bad s (first_end s 0 h)
  numbers_for (suc n) s h = by (read_number s 0) refl (λ l. numbers_for n l)
    where
      by : (x : Option (ℕ × ℕ)) → read_number s 0 ≡ x → ((l : List ℕ) → length l ≤ n → P l) → P s
      by (Some (v, k)) e rest =
          let a = number_next s 0 v k e in
          got s v k e (rest (drop k s) (omega (arith, a.0, length-drop k s, h)))
      by None e rest = bad s e

  -- of any
  by_numbers : (s : List ℕ) → P s
  by_numbers s = numbers_for (length s) s (omega arith)

-- THE SHORTEST FORM IS NO LONGER
pub shorten_length : (s : List ℕ) → length (shorten s) ≤ length s
shorten_length =
    by_numbers (λ s. length (shorten s) ≤ length s) (λ s e. rw (shorten_bad s e) (omega arith))
    (λ s v k e i.
    let f = number_found s 0 v k e in
    let a = number_next s 0 v k e in
    let p = length-append (groups v) (shorten (drop k s)) in
    rw (shorten_got s v k e)
    (omega (arith, p, i, length-drop k s, a.1, f.behind, reads_fewest f.reads)))

-- ---- bytes that are whole numbers

-- p is some numbers, and w the same in fewest groups
pub data Pads : List ℕ → List ℕ → Type 0 where
  nothing : Pads [] []
  number : {p : List ℕ} (n : ℕ) → Reads p n (length p) → Pads p (groups n)
  both : {p q w v : List ℕ} → Pads p w → Pads q v → Pads (p ++ q) (w ++ v)

-- its shortest form, whatever follows
pub shorten_pads : {p w : List ℕ} → Pads p w → (q : List ℕ) → shorten (p ++ q) ≡ w ++ shorten q
unfolding read_number
shorten_pads nothing q = refl
shorten_pads {p} (number n r) q =
    let own : Reads (p ++ q) n (length p) =
    subst (λ (l : List ℕ). Reads (l ++ q) n (length p)) (take-length p) (reads_own q r) in
    let e : read_number (p ++ q) 0 ≡ Some (n, length p) = reads_got 0 own ∙ rw (zero-add (length p)) in
    shorten_got (p ++ q) n (length p) e ∙ rw (drop-append_seam p q)
shorten_pads (both {p} {q = p'} {w} {v} a b) q =
    rw (append_assoc p p' q, append_assoc w v (shorten q))
    (shorten_pads a (p' ++ q) ∙ ap (λ (r : List ℕ). w ++ r) (shorten_pads b q))

-- and where nothing does
pub shorten_whole : {p w : List ℕ} → Pads p w → shorten p ≡ w
shorten_whole {p} {w} x = let e = shorten_pads x [] in rw (append-nil p, shorten_nil, append-nil w) at e

-- the bytes of s from a place up to another are whole numbers, w the same in fewest groups
pub record PadsAt (s : List ℕ) (at k : ℕ) (w : List ℕ) : Type 0 where
  pub bytes : List ℕ
  pub behind : k ≡ at + length bytes
  pub there : drop at s ≡ bytes ++ drop k s
  pub pads : Pads bytes w

-- none
pub pads_none : (s : List ℕ) (at : ℕ) → PadsAt s at at []
pads_none s at = record { bytes = []; behind = sym (add-zero at); there = refl; pads = nothing }

-- some, and some behind them
pub pads_both : {s : List ℕ} {a b c : ℕ} {w v : List ℕ} → PadsAt s a b w → PadsAt s b c v → PadsAt s a c (w ++ v)
pads_both {s} {a} {b} {c} x y = record {
  bytes = x.bytes ++ y.bytes;
  behind = rw (length-append x.bytes y.bytes) (omega (arith, x.behind, y.behind));
  there = x.there ∙ ap (λ (l : List ℕ). x.bytes ++ l) y.there
      ∙ sym (append_assoc x.bytes y.bytes (drop c s));
  pads = both x.pads y.pads;
}

-- A NUMBER THAT IS READ
pub number_pads : (s : List ℕ) (at n k : ℕ) → read_number s at ≡ Some (n, k) → PadsAt s at k (groups n)
number_pads s at n k e =
    let f = number_found s at n k e in
    let z = reads_size f.reads in
    let b : List ℕ = take f.size (drop at s) in
    let l : length b ≡ f.size = length-take-le f.size (drop at s) z.2 in
    let own : Reads b n f.size =
    subst (λ (p : List ℕ). Reads p n f.size) (append-nil b) (reads_own [] f.reads) in
    record {
      bytes = b;
      behind = f.behind ∙ rw l;
      there = sym (take-append-drop f.size (drop at s)) ∙ rw (drop-drop f.size at s, ← f.behind);
      pads = number n (subst (λ (g : ℕ). Reads b n g) (sym l) own);
    }

-- what is behind the first of two parts
pub drop_part : (s : List ℕ) (at : ℕ) (a q : List ℕ) → drop at s ≡ a ++ q → drop (at + length a) s ≡ q
drop_part s at a q e = sym (drop-drop (length a) at s) ∙ ap (drop (length a)) e ∙ drop-append_seam a q

-- ---- the shortest form of a slice, and the same place in it

module _ {s : List ℕ} {at k : ℕ} {w : List ℕ} (x : PadsAt s at k w) where
  -- what is between
  pub pads_between : take (k - at) (drop at s) ≡ x.bytes
  pads_between =
      let n : k - at ≡ length x.bytes = omega (arith, x.behind) in
      rw (n, x.there) (take-append_seam x.bytes (drop k s))

  -- in fewest groups
  pub shorten_between : shorten (take (k - at) (drop at s)) ≡ w
  shorten_between = rw pads_between (shorten_whole x.pads)

  -- and what is behind it stands behind it
  pub shorten_behind : shorten (drop at s) ≡ w ++ shorten (drop k s)
  shorten_behind = rw x.there (shorten_pads x.pads (drop k s))

  -- so it does in any u that has at b the shortest form of what s has here
  pub alike_behind : (u : List ℕ) (b : ℕ) → drop b u ≡ shorten (drop at s) → drop (b + length w) u ≡ shorten (drop k s)
  alike_behind u b e = drop_part u b w (shorten (drop k s)) (e ∙ shorten_behind)

-- THE SAME NUMBERS ARE READ FROM THE SHORTEST FORM: where u stands in shortest form what s has, at another place
pub number_same : (s u : List ℕ) (a b : ℕ) → drop b u ≡ shorten (drop a s)
    → read_number u b ≡ on_num (read_number s a) (λ n k. Some (n, b + length (groups n))) None
unfolding read_number
number_same s u a b e = by (read_number s a) refl
  where
    by : (x : Option (ℕ × ℕ)) → read_number s a ≡ x
        → read_number u b ≡ on_num x (λ n k. Some (n, b + length (groups n))) None
    by (Some (n, k)) f =
        let x = number_pads s a n k f in
        number_written u b n (shorten (drop k s)) (number_small s a n k f) (e ∙ shorten_behind x)
    by None f =
        let z : first 0 (drop a s) ≡ None = bad_anywhere a 0 (drop a s) f in
        bad_anywhere a b (drop b u) (rw (e ∙ shorten_bad (drop a s) z) f)

-- where there are bytes there are some in shortest form, and where there are none there are none
pub shorten_empty : (s : List ℕ) → shorten s ≡ [] → s ≡ []
shorten_empty s e = by (read_number s 0) refl
  where
    by : (x : Option (ℕ × ℕ)) → read_number s 0 ≡ x → s ≡ []
    by (Some (n, k)) f =
        let l = ap length (sym (shorten_got s n k f) ∙ e) in
        let z = groups_size n in
        absurd (omega (arith, l, length-append (groups n) (shorten (drop k s)), z.0))
    by None f = sym (shorten_bad s f) ∙ e

-- they end at the same place
pub ends_alike : (s u : List ℕ) (a b : ℕ) → drop b u ≡ shorten (drop a s) → ltb b (length u) ≡ ltb a (length s)
ends_alike s u a b e =
    let m = length-drop a s in
    let n = length-drop b u in
    ⊎_elim
    (λ h.
    let d : drop a s ≡ [] = drop_of_length-le s h in
    let f : drop b u ≡ [] = e ∙ rw d shorten_nil in
    let k : length (drop b u) ≡ 0 = rw f in
    rw (le-ltb a (length s) h, le-ltb b (length u) (omega (arith, n, k))))
    (λ h. ⊎_elim
    (λ k.
    let d : drop b u ≡ [] = drop_of_length-le u k in
    let f = shorten_empty (drop a s) (sym e ∙ d) in
    let l : length (drop a s) ≡ 0 = rw f in
    absurd (omega (arith, m, l, h)))
    (λ k. rw (lt-ltb a (length s) h, lt-ltb b (length u) k))
    (le? (length u) b))
    (le? (length s) a)

-- what stands in front of a place, and the shortest form of what stands there
pub shorten_from_lem : (at : ℕ) (s : List ℕ) → at ≤ length s → drop at (shorten_from at s) ≡ shorten (drop at s)
shorten_from_lem at s h = drop_at (take at s) (shorten (drop at s)) at (length-take-le at s h)

-- ---- shortest bytes

-- of a byte and what is behind it
shortest_head : (b d : ℕ) (r : List ℕ) → shortest (b ∷ d ∷ r) ≡ true → (128 ≤ b → d ≢ 0) × (shortest (d ∷ r) ≡ true)
unfolding shortest
shortest_head b d r e = by (leb 128 b) (eqb d 0) refl refl e
  where
    by : (x y : Bool) → leb 128 b ≡ x → eqb d 0 ≡ y → pick (x && y) false (shortest (d ∷ r)) ≡ true
        → (128 ≤ b → d ≢ 0) × (shortest (d ∷ r) ≡ true)
    by true true f g h = absurd (let z : ◌≡◌ {A = ℕ} 0 1 = cc in omega arith)
    by true false f g h = (λ k. eqb-false d 0 g, h)
    by false y f g h = (λ k. absurd (let l = leb-false 128 b f in omega arith), h)

-- and the other way
shortest_front : (b d : ℕ) (r : List ℕ) → (128 ≤ b → d ≢ 0) → shortest (d ∷ r) ≡ true → shortest (b ∷ d ∷ r) ≡ true
unfolding shortest
shortest_front b d r h e =
    ⊎_elim (λ i. rw (ne_eqb d 0 (h i), le-leb 128 b i) e) (λ i. rw (lt-leb 128 b i) e) (le? 128 b)

-- from any place on
pub shortest_drop : (k : ℕ) (s : List ℕ) → shortest s ≡ true → shortest (drop k s) ≡ true
unfolding shortest
shortest_drop zero s e = e
shortest_drop (suc k) [] e = refl
shortest_drop (suc k) (b ∷ []) e = shortest_drop k [] refl
shortest_drop (suc k) (b ∷ d ∷ r) e = shortest_drop k (d ∷ r) (shortest_head b d r e).1

-- and up to any place
pub shortest_take : (k : ℕ) (s : List ℕ) → shortest s ≡ true → shortest (take k s) ≡ true
unfolding shortest
shortest_take zero s e = refl
shortest_take (suc k) [] e = refl
shortest_take (suc zero) (b ∷ r) e = refl
shortest_take (suc (suc k)) (b ∷ []) e = refl
shortest_take (suc (suc k)) (b ∷ d ∷ r) e =
    shortest_front b d (take k r) (shortest_head b d r e).0 (shortest_take (suc k) (d ∷ r) (shortest_head b d r e).1)

-- a number of shortest bytes has no more groups than it needs
short_size : {l : List ℕ} {n g : ℕ} → shortest l ≡ true → Reads l n g → g ≤ length (groups n)
short_size e (one b r h) = (groups_size b).0
short_size e (two b d r h i) =
    let z = (shortest_head b d r e).0 h in
    let n : ℕ = b % 128 + d * 128 in
    let k = size_2 n (omega arith) (omega arith) in
    omega (arith, k)
short_size e (three b d f r h i j) =
    let z = (shortest_head d f r (shortest_head b d (f ∷ r) e).1).0 i in
    let n : ℕ = b % 128 + d % 128 * 128 + f * 16384 in
    let k = size_3 n (omega arith) in
    omega (arith, k)

-- so it is as it would be written
short_groups : {l : List ℕ} {n g : ℕ} → Bytes l → shortest l ≡ true → Reads l n g → take g l ≡ groups n
short_groups {l} {n} {g} w e r =
    let z : g ≡ length (groups n) = omega (arith, reads_fewest r, short_size e r) in
    reads_form w r ∙ rw z (form_groups n (reads_small r))

-- from any place on they are bytes
bytes_drop : (k : ℕ) {s : List ℕ} → Bytes s → Bytes (drop k s)
bytes_drop k {s} w = record { at = λ i. rw (get_or-drop k s i 0) (w.at (k + i)) }

-- and so are some of these
pub bytes_part : (at n : ℕ) {s : List ℕ} → Bytes s → Bytes (take n (drop at s))
bytes_part at n {s} w = record {
  at = λ i.
      ⊎_elim (λ h. let e = get_or-eq_default (take n (drop at s)) 0 h in omega (arith, e))
      (λ h.
      let l = length-take n (drop at s) in
      let e = get_or-take n (drop at s) i 0 (omega (arith, l, h)) in
      let b = (bytes_drop at w).at i in
      omega (arith, e, b))
      (le? (length (take n (drop at s))) i);
}

-- SHORTEST BYTES ARE THEIR OWN SHORTEST FORM
pub shortest_same : (s : List ℕ) → Bytes s → shortest s ≡ true → shorten s ≡ s
shortest_same =
    by_numbers (λ s. Bytes s → shortest s ≡ true → shorten s ≡ s) (λ s f w e. shorten_bad s f)
    (λ s v k f rest w e.
    let r = number_found s 0 v k f in
    let z : k ≡ r.size = omega (arith, r.behind) in
    let g : take k s ≡ groups v = rw z (short_groups w e r.reads) in
    shorten_got s v k f ∙ rw (← g, rest (bytes_drop k w) (shortest_drop k s e)) (take-append-drop k s))

-- a byte in front that is the last of its number
shortest_last : (b : ℕ) (s : List ℕ) → b < 128 → shortest s ≡ true → shortest (b ∷ s) ≡ true
unfolding shortest
shortest_last b [] h e = refl
shortest_last b (d ∷ r) h e = rw (lt-leb 128 b h) e

-- the bytes of a number in front
shortest_groups : (n : ℕ) (q : List ℕ) → n < 2097152 → shortest q ≡ true → shortest (groups n ++ q) ≡ true
shortest_groups n q h e =
    ⊎_elim
    (λ i. rw (groups_3 n i) (shortest_front (n % 128 + 128) (n / 128 % 128 + 128) _ (λ a z. omega arith)
    (shortest_front (n / 128 % 128 + 128) (n / 16384 % 128) q (λ a z. omega arith)
    (shortest_last (n / 16384 % 128) q (omega arith) e))))
    (λ i. ⊎_elim
    (λ j. rw (groups_2 n j i)
    (shortest_front (n % 128 + 128) (n / 128) q (λ a z. omega arith) (shortest_last (n / 128) q (omega arith) e)))
    (λ j. rw (groups_1 n j) (shortest_last n q j e))
    (le? 128 n))
    (le? 16384 n)

-- or of several
pub shortest_pads : {p w : List ℕ} → Pads p w → (q : List ℕ) → shortest q ≡ true → shortest (w ++ q) ≡ true
shortest_pads nothing q e = e
shortest_pads (number n r) q e = shortest_groups n q (reads_small r) e
shortest_pads (both {w} {v} a b) q e = rw (append_assoc w v q) (shortest_pads a (v ++ q) (shortest_pads b q e))

-- THE SHORTEST FORM OF WHOLE NUMBERS IS SHORTEST
pub shorten_shortest : {s w : List ℕ} → PadsAt s 0 (length s) w → shortest (shorten s) ≡ true
unfolding shortest
shorten_shortest {s} {w} x =
    rw (shorten_behind x, drop-length s, shorten_nil) (shortest_pads x.pads [] refl)
