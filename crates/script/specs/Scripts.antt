-- Whole scripts, both ways; and how many bytes an operator takes.
use Rattle.std.specs.Prelude.{◌≡◌, refl, ℕ, zero, suc, ◌+◌, ◌≤◌, ◌<◌, Bool, true, false, List, [], ◌∷◌, ◌++◌, map}
use Rattle.std.specs.Prelude.{length, get_or, ltb, leb, eqb}
use Rattle.std.proofs.Common.{sym, ap, ◌∙◌, subst, ⊎_elim, arith, append_assoc, append-nil, length-append, lt-ltb}
use Rattle.std.proofs.Common.{le-ltb, eqb-true, leb-true, ltb-true, ltb-false}
use Rattle.std.proofs.Math.Seq.{drop-append_seam, drop-length}
use Rattle.std.proofs.lemmas.Bool.{eqb-false}
use Rattle.laws.specs.Bools.{pick, ask, allb, le?}
use Rattle.script.specs.declared.Operator.{Operator}
use Rattle.script.specs.declared.ReadAnswer.{ReadAnswer}
use Rattle.codec.specs.declared.operands.Pattern.{Pattern}
use Rattle.numbers.specs.Number.{groups}
use Rattle.numbers.specs.NumberLaws.{size_1, size_2, size_3, groups_size}
use Rattle.codec.specs.Operands.{unused, row, rows, pattern, widest, largests, in_ranges, wire}
use Rattle.codec.specs.OperandBytes.{operand_bytes, operands_bytes}
use Rattle.script.specs.Operator.{read_operator, numbers_of, operator_bytes, write_script, Script}
use Rattle.script.specs.Operator.{script_is, before, read_from, read_script}
use Rattle.codec.specs.WriteLaws.{size_number}
use Rattle.numbers.specs.Padded.{shorten, shortest}
use Rattle.numbers.specs.PaddedLaws.{PadsAt, pads_none, pads_both, shorten_behind, shorten_nil, shortest_pads}
use Rattle.codec.specs.Ranges.{range_between, ranges_cons, each_row, eight, code_between}
use Rattle.codec.specs.OperandTrip.{each_length}
use Rattle.script.specs.RoundTrip.{Writable, parts, operator_written, read_next, read_pads}

-- SIZES
-- a larger number takes no fewer bytes
groups_more : (m n : ℕ) → m ≤ n → length (groups m) ≤ length (groups n)
groups_more m n h =
    ⊎_elim (λ a. let e = size_3 n a in let f = groups_size m in omega arith)
    (λ a. ⊎_elim
    (λ b. let e = size_2 n b a in ⊎_elim (λ c. let f = size_2 m c (omega arith) in omega arith) (λ c. let f =
    size_1 m c in omega arith) (le? 128 m))
    (λ b. let e = size_1 n b in let f = size_1 m (omega arith) in omega arith)
    (le? 128 n))
    (le? 16384 n)

operand_more : (k m n : ℕ) → m ≤ n → length (operand_bytes k m) ≤ length (operand_bytes k n)
unfolding operand_bytes
operand_more k m n h = ⊎_elim (λ t. rw t (omega arith)) (λ t. rw t (groups_more m n h)) (ask (eqb k unused))

-- the operands take the most bytes when each is the largest of its kind
abbrev most : List ℕ → List ℕ
most ks = map (λ k. get_or (largests widest) k 0) ks

operands_most : (ks ns : List ℕ) → in_ranges (largests widest) ks ns ≡ true
    → length (operands_bytes ks ns) ≤ length (operands_bytes ks (most ks))
unfolding operands_bytes
operands_most [] ns e = omega arith
operands_most (k ∷ ks) [] e = omega arith
operands_most (k ∷ ks) (n ∷ ns) e =
    let a = ranges_cons (largests widest) k n ks ns e in
    let b = range_between (largests widest) k n a.0 in
    let c = operand_more k n (get_or (largests widest) k 0) b.1 in
    let d = operands_most ks ns a.1 in
    rw (
      length-append (operand_bytes k n) (operands_bytes ks ns),
      length-append (operand_bytes k (get_or (largests widest) k 0)) (operands_bytes ks (most ks)),
    )
    (omega arith)

-- that is 18 at most; and where there are operands, the first is used
unfoldable sized : Pattern → Bool
sized p = leb (length (operands_bytes p.kinds (most p.kinds))) 18

unfoldable begins : Pattern → Bool
begins p = pick (eqb p.count 0) true (ltb 0 (get_or p.kinds 0 0))

all_sized : allb (map sized rows) ≡ true
unfolding rows sized operands_bytes operand_bytes groups
all_sized = refl

none_sized : sized (row []) ≡ true
unfolding sized operands_bytes operand_bytes
none_sized = refl

all_begin : allb (map begins rows) ≡ true
unfolding rows begins
all_begin = refl

none_begin : begins (row []) ≡ true
unfolding begins
none_begin = refl

first_used : (code : ℕ) → ((pattern code).count ≡ 0 → ⊥) → 0 < get_or (pattern code).kinds 0 0
unfolding begins
first_used code h =
    let e = each_row begins none_begin all_begin code in
    ⊎_elim (λ t. absurd (h (eqb-true _ 0 t))) (λ t. ltb-true 0 _ (rw t at e)) (ask (eqb (pattern code).count 0))

some : (ks ns : List ℕ) → 0 < length ks → length ks ≡ length ns → 0 < get_or ks 0 0 → 1 ≤ length (operands_bytes ks ns)
unfolding operands_bytes
some [] ns h l f = absurd (omega arith)
some (k ∷ ks) [] h l f = absurd (omega arith)
some (k ∷ ks) (n ∷ ns) h l f =
    let a = size_number k n (λ e. omega arith) in
    let b = groups_size n in
    rw (length-append (operand_bytes k n) (operands_bytes ks ns)) (omega arith)

-- AN OPERATOR TAKES 2 TO 19 BYTES
pub operator_size : (op : Operator) → Writable op → (2 ≤ length (operator_bytes op)) × (length (operator_bytes op) ≤ 19)
unfolding operator_bytes sized
operator_size op w =
    let p = parts op w.not_refused in
    let c = code_between op.code p.is_code in
    let k = eight op.code in
    let l = w.eight_args in
    let one = size_1 op.code (omega arith) in
    let high = operands_most (pattern op.code).kinds (numbers_of op) p.ranges in
    let full : length (operands_bytes (pattern op.code).kinds (most (pattern op.code).kinds)) ≤ 18 =
    leb-true _ 18 (each_row sized none_sized all_sized op.code) in
    let n : length (numbers_of op) ≡ length (pattern op.code).kinds =
    each_length wire (pattern op.code).kinds op.args (omega arith) in
    let low = some (pattern op.code).kinds (numbers_of op) (omega arith) (sym n)
    (first_used op.code p.is_code) in
    rw (length-append (groups op.code) (operands_bytes (pattern op.code).kinds (numbers_of op)))
    (omega arith, omega arith)

-- AND IS WRITTEN SHORTEST: in front of shortest bytes it leaves them so
pub operator_shortest : (op : Operator) → Writable op → (q : List ℕ) → shortest q ≡ true
    → shortest (operator_bytes op ++ q) ≡ true
operator_shortest op w q e =
    let r = operator_written op w (operator_bytes op ++ q) 0 q refl in
    let x = read_pads widest (operator_bytes op ++ q) 0 (ap (λ (a : ReadAnswer). a.refusal) r) in
    let o : (read_operator widest (operator_bytes op ++ q) 0).op ≡ op = ap (λ (a : ReadAnswer). a.op) r in
    subst (λ (i : Operator). shortest (operator_bytes i ++ q) ≡ true) o (shortest_pads x.pads q e)

-- SCRIPTS
-- all operators of a script can be written
abbrev pub AllWritable : List Operator → Type 0
AllWritable [] = Unit {0}
AllWritable (op ∷ ops) = Writable op × AllWritable ops

count_bytes : (ops : List Operator) → AllWritable ops → length ops ≤ length (write_script ops)
unfolding write_script
count_bytes [] w = omega arith
count_bytes (op ∷ ops) w =
    let a = operator_size op w.0 in
    let b = count_bytes ops w.1 in
    rw (length-append (operator_bytes op) (write_script ops)) (omega arith)

from_written : (ops : List Operator) (fuel : ℕ) (p : List ℕ) → AllWritable ops → length ops ≤ fuel
    → read_from fuel (p ++ write_script ops) (length p) ≡ script_is 0 ops
unfolding read_from write_script
from_written [] zero p w h = refl
from_written [] (suc n) p w h = rw (append-nil p, le-ltb (length p) (length p) (omega arith))
from_written (op ∷ ops) zero p w h = absurd (omega arith)
from_written (op ∷ ops) (suc n) p w h =
    let a = operator_size op w.0 in
    let s : List ℕ = p ++ (operator_bytes op ++ write_script ops) in
    let l : length p < length s =
    rw (length-append p (operator_bytes op ++ write_script ops), length-append (operator_bytes op) (write_script ops))
    (omega arith) in
    let r = operator_written op w.0 s (length p) (write_script ops)
    (drop-append_seam p (operator_bytes op ++ write_script ops)) in
    let i = from_written ops n (p ++ operator_bytes op) w.1 (omega arith) in
    let j = rw (append_assoc p (operator_bytes op) (write_script ops), length-append p (operator_bytes op)) at i in
    rw (lt-ltb (length p) (length s) l, r, j)

-- write, then read: the same operators, and no refusal
pub script_written : (ops : List Operator) → AllWritable ops → read_script (write_script ops) ≡ script_is 0 ops
unfolding read_script
script_written ops w = from_written ops (length (write_script ops)) [] w (count_bytes ops w)

-- one operator of a script that was read, by its tests
turn_back : (s : List ℕ) (at : ℕ) (rest : Script) (a b : Bool) → at ≤ length s → ltb at (length s) ≡ a
    → eqb (read_operator widest s at).refusal 0 ≡ b
    → ((read_operator widest s at).refusal ≡ 0 → rest.refusal ≡ 0
    → PadsAt s (read_operator widest s at).next (length s) (write_script rest.operators))
    → (pick a (pick b (before (read_operator widest s at).op rest) (script_is (read_operator widest s at).refusal []))
    (script_is 0 [])).refusal ≡ 0
    → PadsAt s at (length s) (write_script (pick a
    (pick b (before (read_operator widest s at).op rest) (script_is (read_operator widest s at).refusal []))
    (script_is 0 [])).operators)
unfolding write_script
turn_back s at rest true true h t u i e =
    let z = eqb-true _ 0 u in pads_both (read_pads widest s at z) (i z e)
turn_back s at rest true false h t u i e = absurd (eqb-false _ 0 u e)
turn_back s at rest false b h t u i e =
    let l : length s ≡ at = omega (arith, ltb-false at (length s) t, h) in rw l (pads_none s at)

-- from a place on
pads_from : (n : ℕ) (s : List ℕ) (at : ℕ) → at ≤ length s → length s ≤ at + n → (read_from n s at).refusal ≡ 0
    → PadsAt s at (length s) (write_script (read_from n s at).operators)
unfolding read_from write_script
pads_from zero s at h k e = let l : length s ≡ at = omega arith in rw l (pads_none s at)
pads_from (suc n) s at h k e =
    turn_back s at (read_from n s (read_operator widest s at).next) (ltb at (length s))
    (eqb (read_operator widest s at).refusal 0) h refl refl
    (λ z f.
    let x = read_next widest s at z in
    pads_from n s (read_operator widest s at).next x.1 (omega (arith, x.0, k)) f)
    e

-- read, then write: a script read to its end is whole numbers, those of its operators
pub script_pads : (s : List ℕ) → (read_script s).refusal ≡ 0
    → PadsAt s 0 (length s) (write_script (read_script s).operators)
unfolding read_script
script_pads s e = pads_from (length s) s 0 (omega arith) (omega arith) e

-- so it is written in its shortest form
pub written_script : (s : List ℕ) → (read_script s).refusal ≡ 0 → write_script (read_script s).operators ≡ shorten s
written_script s e =
    let x = script_pads s e in
    sym (shorten_behind x ∙ rw (drop-length s, shorten_nil) (append-nil (write_script (read_script s).operators)))
