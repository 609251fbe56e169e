-- Operands: what is written is read back; what is read is what would be written, in whatever form it stands; and the
-- same is read from the shortest form.
use Rattle.std.specs.Prelude.{◌≡◌, refl, ℕ, suc, ◌+◌, ◌*◌, ◌≤◌, true, List, [], ◌∷◌, ◌++◌, length, get_or, drop, ℤ, pos}
use Rattle.std.specs.Prelude.{negsuc, eqb}
use Rattle.std.specs.Prelude.{Option, Some, None}
use Rattle.std.proofs.Common.{sym, ap, ◌∙◌, ⊎_elim, add-zero, add_assoc, arith, append_assoc, length-append}
use Rattle.laws.specs.Bools.{ask, same?}
use Rattle.numbers.specs.Number.{read_number, groups, on_num}
use Rattle.codec.specs.Operands.{unused, coordinate, largests, widest, in_range, in_ranges}
use Rattle.codec.specs.Operands.{plain, wire, unwire, each, wires, unwires}
use Rattle.codec.specs.OperandBytes.{on_numbers, read_operand, read_operands, operand_bytes}
use Rattle.codec.specs.OperandBytes.{operands_bytes}
use Rattle.codec.specs.SignedLaws.{zig_zag, zag_zig}
use Rattle.codec.specs.ReadLaws.{operand_unused, operand_number}
use Rattle.codec.specs.WriteLaws.{bytes_unused, bytes_number}
use Rattle.numbers.specs.NumberTrip.{same_read, number_written, number_next}
use Rattle.numbers.specs.Padded.{shorten}
use Rattle.numbers.specs.PaddedLaws.{drop_part, PadsAt, pads_none, pads_both, number_pads, number_same}
use Rattle.numbers.specs.PaddedLaws.{alike_behind}
use Rattle.codec.specs.Ranges.{range_between, range_small, ranges_cons}

-- ONE OPERAND
-- write, then read
operand_written : (k n : ℕ) (s : List ℕ) (at : ℕ) (q : List ℕ) → in_range (largests widest) k n ≡ true
    → drop at s ≡ operand_bytes k n ++ q
    → read_operand k s at ≡ Some (n, at + length (operand_bytes k n))
operand_written k n s at q e f =
    ⊎_elim
    (λ z.
    let b = range_between (largests widest) k n e in
    let l : get_or (largests widest) k 0 ≡ 0 = rw z in
    let m : n ≡ 0 = omega arith in
    rw (bytes_unused k n z, m, add-zero at) (sym (operand_unused k s at z)))
    (λ z.
    let b = range_small k n e in
    rw (bytes_number k n z) (sym (operand_number k s at z _ refl)
    ∙ number_written s at n q (omega arith) (rw (bytes_number k n z) at f)))
    (same? k unused)

-- read, then write
operand_pads : (k n : ℕ) (s : List ℕ) (at next : ℕ) → read_operand k s at ≡ Some (n, next)
    → PadsAt s at next (operand_bytes k n)
operand_pads k n s at next e =
    ⊎_elim
    (λ z.
    let f : Some (0, at) ≡ Some (n, next) = operand_unused k s at z ∙ e in
    let g : next ≡ at = sym (same_read f).1 in
    rw (bytes_unused k n z, g) (pads_none s at))
    (λ z. rw (bytes_number k n z) (number_pads s at n next (operand_number k s at z _ refl ∙ e)))
    (same? k unused)

-- from the shortest form
operand_same : (k : ℕ) (s u : List ℕ) (a b : ℕ) → drop b u ≡ shorten (drop a s)
    → read_operand k u b ≡ on_num (read_operand k s a) (λ n next. Some (n, b + length (operand_bytes k n))) None
operand_same k s u a b e =
    ⊎_elim
    (λ z. rw (← operand_unused k u b z, ← operand_unused k s a z, bytes_unused k 0 z, add-zero b))
    (λ z. rw (← operand_number k u b z _ refl, ← operand_number k s a z _ refl)
    (number_same s u a b e ∙ by z (read_number s a)))
    (same? k unused)
  where
    by : (k ≡ unused → ⊥) → (x : Option (ℕ × ℕ))
        → on_num {X = Option (ℕ × ℕ)} x (λ n next. Some (n, b + length (groups n))) None
        ≡ on_num x (λ n next. Some (n, b + length (operand_bytes k n))) None
    by z (Some (n, next)) = rw (bytes_number k n z)
    by z None = refl

-- reading goes forward
pub operand_next : (k n : ℕ) (s : List ℕ) (at next : ℕ) → at ≤ length s → read_operand k s at ≡ Some (n, next)
    → (at ≤ next) × (next ≤ length s) × (next ≤ at + 3)
operand_next k n s at next h e =
    ⊎_elim
    (λ z.
    let f : Some (0, at) ≡ Some (n, next) = operand_unused k s at z ∙ e in
    let g : next ≡ at = sym (same_read f).1 in
    (omega arith, omega arith, omega arith))
    (λ z. let b = number_next s at n next (operand_number k s at z _ refl ∙ e) in (omega (arith, b.0), b.1, b.2))
    (same? k unused)

-- ALL OPERANDS
-- the first of several that were read, and the others
pub record Step (k : ℕ) (ks s : List ℕ) (at : ℕ) (ns : List ℕ) (next : ℕ) : Type 0 where
  pub n : ℕ
  pub mid : ℕ
  pub rest : List ℕ
  pub first : read_operand k s at ≡ Some (n, mid)
  pub others : read_operands ks s mid ≡ Some (rest, next)
  pub all : ns ≡ n ∷ rest

-- what is cut is not read
pub cut : {X : Type 0} (ns : List ℕ) (next : ℕ) → ◌≡◌ {A = Option (List ℕ × ℕ)} None (Some (ns, next)) → X
cut ns next e = absurd (let z : ◌≡◌ {A = ℕ} 0 1 = cc in omega arith)

pub step : (k : ℕ) (ks s : List ℕ) (at : ℕ) (ns : List ℕ) (next : ℕ) → read_operands (k ∷ ks) s at ≡ Some (ns, next)
    → Step k ks s at ns next
unfolding read_operands
step k ks s at ns next e = one (read_operand k s at) refl e
  where
    two : (n mid : ℕ) (y : Option (List ℕ × ℕ)) → read_operand k s at ≡ Some (n, mid) → read_operands ks s mid ≡ y
        → on_numbers {X = Option (List ℕ × ℕ)} y (λ ms end. Some (n ∷ ms, end)) None ≡ Some (ns, next)
        → Step k ks s at ns next
    two n mid (Some (ms, end)) a b f =
        let g = same_read f in
        record { n = n; mid = mid; rest = ms; first = a; others = rw g.1 at b; all = sym g.0 }
    two n mid None a b f = cut ns next f

    one : (x : Option (ℕ × ℕ)) → read_operand k s at ≡ x
        → on_num {X = Option (List ℕ × ℕ)} x
        (λ n mid. on_numbers (read_operands ks s mid) (λ ms end. Some (n ∷ ms, end)) None) None ≡ Some (ns, next)
        → Step k ks s at ns next
    one (Some (n, mid)) a f = two n mid (read_operands ks s mid) a refl f
    one None a f = cut ns next f

pub operands_written : (ks ns s : List ℕ) (at : ℕ) (q : List ℕ) → length ks ≡ length ns
    → in_ranges (largests widest) ks ns ≡ true
    → drop at s ≡ operands_bytes ks ns ++ q → read_operands ks s at ≡ Some (ns, at + length (operands_bytes ks ns))
unfolding read_operands operands_bytes
operands_written [] [] s at q l e f = rw (add-zero at)
operands_written [] (n ∷ ns) s at q l e f = absurd (omega arith)
operands_written (k ∷ ks) [] s at q l e f = absurd (omega arith)
operands_written (k ∷ ks) (n ∷ ns) s at q l e f =
    let a = ranges_cons (largests widest) k n ks ns e in
    let g : drop at s ≡ operand_bytes k n ++ (operands_bytes ks ns ++ q) = f
    ∙ append_assoc (operand_bytes k n) (operands_bytes ks ns) q in
    rw (
      operand_written k n s at (operands_bytes ks ns ++ q) a.0 g,
      operands_written ks ns s (at + length (operand_bytes k n)) q (omega arith) a.1 (drop_part
          s at (operand_bytes k n) (operands_bytes ks ns ++ q) g),
      length-append (operand_bytes k n) (operands_bytes ks ns),
      add_assoc at (length (operand_bytes k n)) (length (operands_bytes ks ns)),
    )

-- read, then write
pub operands_pads : (ks s : List ℕ) (at : ℕ) (ns : List ℕ) (next : ℕ) → read_operands ks s at ≡ Some (ns, next)
    → PadsAt s at next (operands_bytes ks ns)
unfolding read_operands operands_bytes
operands_pads [] s at ns next e = rw (← (same_read e).1) (pads_none s at)
operands_pads (k ∷ ks) s at ns next e =
    let t = step k ks s at ns next e in
    rw t.all
    (pads_both (operand_pads k t.n s at t.mid t.first)
    (operands_pads ks s t.mid t.rest next t.others))

-- all operands, read from the shortest form
abbrev Short : ℕ → List ℕ → Option (List ℕ × ℕ) → Option (List ℕ × ℕ)
Short b ks x = on_numbers x (λ ns next. Some (ns, b + length (operands_bytes ks ns))) None

-- where u has at b the shortest form of what s has at a
pub operands_same : (ks s u : List ℕ) (a b : ℕ) → drop b u ≡ shorten (drop a s)
    → read_operands ks u b ≡ Short b ks (read_operands ks s a)
unfolding read_operands operands_bytes
operands_same [] s u a b e = rw (add-zero b)
operands_same (k ∷ ks) s u a b e =
    rw (operand_same k s u a b e) (one (read_operand k s a) refl (λ c d. operands_same ks s u c d))
  where
    two : (n c : ℕ) (y : Option (List ℕ × ℕ))
        → on_numbers {X = Option (List ℕ × ℕ)} (Short c ks y) (λ ms end. Some (n ∷ ms, end)) None
        ≡ on_numbers y (λ ms end. Some (n ∷ ms, c + length (operands_bytes ks ms))) None
    two n c (Some (ms, end)) = refl
    two n c None = refl

    three : (n : ℕ) (y : Option (List ℕ × ℕ))
        → on_numbers {X = Option (List ℕ × ℕ)} y
        (λ ms end. Some (n ∷ ms, b + length (operand_bytes k n) + length (operands_bytes ks ms))) None
        ≡ Short b (k ∷ ks) (on_numbers y (λ ms end. Some (n ∷ ms, end)) None)
    three n (Some (ms, end)) =
        rw (
          length-append (operand_bytes k n) (operands_bytes ks ms),
          add_assoc b (length (operand_bytes k n)) (length (operands_bytes ks ms)),
        )
    three n None = refl

    one : (x : Option (ℕ × ℕ)) → read_operand k s a ≡ x
        → ((c d : ℕ) → drop d u ≡ shorten (drop c s) → read_operands ks u d ≡ Short d ks (read_operands ks s c))
        → on_num {X = Option (List ℕ × ℕ)} (on_num x (λ n next. Some (n, b + length (operand_bytes k n))) None)
        (λ n mid. on_numbers (read_operands ks u mid) (λ ms end. Some (n ∷ ms, end)) None) None
        ≡ Short b (k ∷ ks) (on_num x (λ n mid. on_numbers (read_operands ks s mid) (λ ms end. Some (n ∷ ms, end)) None)
        None)
    one (Some (n, mid)) f rest =
        let c : ℕ = b + length (operand_bytes k n) in
        rw (rest mid c (alike_behind (operand_pads k n s a mid f) u b e))
        (two n c (read_operands ks s mid) ∙ three n (read_operands ks s mid))
    one None f rest = refl

pub operands_length : (ks s : List ℕ) (at : ℕ) (ns : List ℕ) (next : ℕ) → read_operands ks s at ≡ Some (ns, next)
    → length ns ≡ length ks
unfolding read_operands
operands_length [] s at ns next e = rw (← (same_read e).0)
operands_length (k ∷ ks) s at ns next e =
    let t = step k ks s at ns next e in
    rw t.all (ap suc (operands_length ks s t.mid t.rest next t.others))

pub operands_next : (ks s : List ℕ) (at : ℕ) (ns : List ℕ) (next : ℕ) → at ≤ length s
    → read_operands ks s at ≡ Some (ns, next) → (at ≤ next) × (next ≤ length s) × (next ≤ at + 3 * length ks)
unfolding read_operands
operands_next [] s at ns next h e = let b = (same_read e).1 in (omega arith, omega arith, omega arith)
operands_next (k ∷ ks) s at ns next h e =
    let t = step k ks s at ns next e in
    let a = operand_next k t.n s at t.mid h t.first in
    let b = operands_next ks s t.mid t.rest next a.1 t.others in
    (omega (arith, a.0, b.0), b.1, omega (arith, a.2, b.2))

-- THE RECORD'S OPERANDS
-- a number that travelled, travels again
wire_unwire : (k n : ℕ) → wire k (unwire k n) ≡ n
unfolding wire unwire
wire_unwire k n = ⊎_elim (λ t. rw t (zig_zag n)) (λ t. rw t) (ask (eqb k coordinate))

-- an operand whose number is in range comes back
unwire_wire : (k : ℕ) (a : ℤ) → in_range (largests widest) k (wire k a) ≡ true → unwire k (wire k a) ≡ a
unfolding wire unwire
unwire_wire k a e = ⊎_elim (λ t. rw t (zag_zig a)) (λ t. rw t (back a (range_small k _ (rw t at e))))
    (ask (eqb k coordinate))
  where
    back : (a : ℤ) → plain a ≤ 100000 → pos (plain a) ≡ a
    back (pos n) h = refl
    back (negsuc n) h = absurd (omega arith)

pub wires_unwires : (ks ns : List ℕ) → length ns ≡ length ks → wires ks (unwires ks ns) ≡ ns
wires_unwires [] [] l = refl
wires_unwires [] (n ∷ ns) l = absurd (omega arith)
wires_unwires (k ∷ ks) [] l = absurd (omega arith)
wires_unwires (k ∷ ks) (n ∷ ns) l = rw (wire_unwire k n, wires_unwires ks ns (omega arith))

pub unwires_wires : (ks : List ℕ) (xs : List ℤ) → length xs ≡ length ks → in_ranges (largests widest) ks (wires ks xs)
    ≡ true → unwires ks (wires ks xs) ≡ xs
unwires_wires [] [] l e = refl
unwires_wires [] (x ∷ xs) l e = absurd (omega arith)
unwires_wires (k ∷ ks) [] l e = absurd (omega arith)
unwires_wires (k ∷ ks) (x ∷ xs) l e =
    let a = ranges_cons (largests widest) k (wire k x) ks (wires ks xs) e in
    rw (unwire_wire k x a.0, unwires_wires ks xs (omega arith) a.1)

pub each_length : {A B : Type 0} (f : ℕ → A → B) (ks : List ℕ) (xs : List A) → length xs ≡ length ks
    → length (each f ks xs) ≡ length ks
each_length f [] xs l = refl
each_length f (k ∷ ks) [] l = absurd (omega arith)
each_length f (k ∷ ks) (x ∷ xs) l = ap suc (each_length f ks xs (omega arith))
