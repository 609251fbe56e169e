-- A list of operators run: the script of operators that are accepted one after the other, as a run and as room in the
-- log.
use Rattle.std.specs.Prelude.{◌≡◌, refl, List, [], ◌∷◌, ◌++◌, ℕ, zero, suc, ◌+◌, ◌≤◌, ℤ, length, drop}
use Rattle.std.proofs.Common.{ap, ◌∙◌, zero-add, arith, length-append, length-drop, lt-ltb, le-ltb}
use Rattle.laws.specs.Bools.{split, eqb_same, eqb_other}
use Rattle.numbers.specs.PaddedLaws.{drop_part}
use Rattle.script.specs.declared.Operator.{Operator}
use Rattle.script.specs.Operator.{operator_bytes, write_script}
use Rattle.script.specs.Scripts.{operator_size}
use Rattle.codec.specs.Ranges.{Within}
use Rattle.layout.specs.declared.shape.Shape.{Shape}
use Rattle.layout.specs.Layout.{shape_of}
use Rattle.euler.specs.Exec.{limits, inverse}
use Rattle.sound_tables.specs.Accepted.{accepted}
use Rattle.sound_tables.specs.Good.{Good}
use Rattle.runs.specs.Run.{State, inverse_bytes, stepped, run_refusal, run_from, entry, run_of}
use Rattle.promises.specs.Reading.{range_writable, written_at}
use Rattle.promises.specs.Checked.{good_within}
use Rattle.inversion.specs.Path.{Path, there, first}
use Rattle.inversion.specs.Script.{room_of, room_first}
use Rattle.inversion.specs.Rebuild.{Builds, leads_run}
use Rattle.chains.specs.Series.{series, joined, path_leads}

-- ---- a list of operators run

-- each takes a byte at least
pub script_long : {sh : Shape} (v : Within (limits sh)) {y : List ℕ} {q : List ℤ} {os : List Operator} {x : List ℕ} {p
    : List ℤ}
    → Path sh y q os x p → length os ≤ length (write_script os)
unfolding write_script
script_long v (there e f) = omega arith
script_long {sh} v {x = x} (first {os} o len acc r) =
    let s = operator_size o (range_writable v o len (accepted sh x o acc)) in
    omega (arith, s.0, script_long v r, length-append (operator_bytes o) (write_script os))

-- THE RUN OF A LIST OF OPERATORS that are accepted one after the other, on a table that passes the check, with room for
-- their inverses
pub path_run : (t : State) {y : List ℕ} {q : List ℤ} {os : List Operator} → (entry t).refusal ≡ 0
    → Good (shape_of t.links) t.links t.points
    → Path (shape_of t.links) y q os t.links t.points
    → room_of (length os) (shape_of t.links) (write_script os) t.links t.points ≤ t.start
    → Builds y q (length os) (length (write_script os)) (run_of t (write_script os))
unfolding run_of
path_run t {y} {q} {os} e g r room =
    let sh = shape_of t.links in
    rw (eqb_same e) (rw (← zero-add (length os)) (leads_run sh t (good_within g) (path_leads r) (write_script os) 0 0
    (length (write_script os)) (omega arith) refl (script_long (good_within g) r) room))

-- ---- room

-- the bytes of the inverses, as they are read off the first table
unfoldable pub room_for : Shape → List ℕ → List ℤ → List Operator → ℕ
room_for sh x p [] = 0
room_for sh x p (o ∷ os) = length (operator_bytes (inverse sh x p o)) + room_for sh x p os

-- its inverse depends on its operands alone, not on the table
abbrev pub Plain : Operator → Type 0
Plain o = (sh : Shape) (x y : List ℕ) (p q : List ℤ) → inverse sh x p o ≡ inverse sh y q o

-- all of a list
abbrev pub AllPlain : List Operator → Type 0
AllPlain [] = Unit {0}
AllPlain (o ∷ os) = Plain o × AllPlain os

pub plain_append : (os ns : List Operator) → AllPlain os → AllPlain ns → AllPlain (os ++ ns)
plain_append [] ns a b = b
plain_append (o ∷ os) ns a b = (a.0, plain_append os ns a.1 b)

pub plain_series : (f : ℕ → Operator) (i n : ℕ) → ((j : ℕ) → Plain (f j)) → AllPlain (series i n f)
unfolding series
plain_series f i zero h = tt
plain_series f i (suc n) h = (h i, plain_series f (suc i) n h)

pub plain_joined : (f : ℕ → List Operator) (i n : ℕ) → ((j : ℕ) → AllPlain (f j)) → AllPlain (joined i n f)
unfolding joined
plain_joined f i zero h = tt
plain_joined f i (suc n) h = plain_append (f i) (joined (suc i) n f) (h i) (plain_joined f (suc i) n h)

-- then the room that a run takes is known before anything is done
pub room_is : {sh : Shape} → Within (limits sh) → (x₀ : List ℕ) (p₀ : List ℤ) → {y : List ℕ} {q : List ℤ} {os : List
    Operator}
    {x : List ℕ} {p : List ℤ} → Path sh y q os x p → AllPlain os
    → room_of (length os) sh (write_script os) x p ≡ room_for sh x₀ p₀ os
unfolding write_script room_of room_for
room_is v x₀ p₀ (there e f) a = refl
room_is {sh} v x₀ p₀ {x = x} {p} (first {os} o len acc r) a =
    room_first sh v x o len acc (operator_bytes o ++ write_script os) (write_script os) refl (length os) p
    ∙ rw (room_is v x₀ p₀ r a.1, a.0 sh x x₀ p p₀)

-- THE RUN TAKES JUST THIS ROOM: so many bytes lie between the start that it leaves and the old one
path_start : {sh : Shape} {y : List ℕ} {q : List ℤ} (t : State) → Within (limits sh) → {os : List Operator}
    → Path sh y q os t.links t.points → (s : List ℕ) (at done fuel : ℕ) → at ≤ length s
    → drop at s ≡ write_script os → length os ≤ fuel
    → room_of (length os) sh (write_script os) t.links t.points ≤ t.start
    → (run_from fuel sh s at done t).answer.start + room_of (length os) sh (write_script os) t.links t.points
    ≡ t.start
unfolding run_from stepped inverse_bytes write_script room_of
path_start t v (there e f) s at done zero h d l m = omega arith
path_start t v (there e f) s at done (suc fuel) h d l m =
    let k : at ≡ length s = omega (arith, length-drop at s, ap length d, h) in
    rw (le-ltb at (length s) (omega (arith, k))) (omega arith)
path_start {sh} t v (first {os} o len acc r) s at done zero h d l m = absurd (omega arith)
path_start {sh} t v (first {os} o len acc r) s at done (suc fuel) h d l m =
    let a = accepted sh t.links o acc in
    let rest = write_script os in
    let size = operator_size o (range_writable v o len a) in
    let w = room_first sh v t.links o len acc (operator_bytes o ++ rest) rest refl (length os) t.points in
    let n : length (drop at s) ≡ length (operator_bytes o) + length rest =
    ap length d ∙ length-append (operator_bytes o) rest in
    let b = leads_run sh t v (path_leads (first o len acc r)) s at done (suc fuel) h d l m in
    let i = path_start (stepped sh t o) v r s (at + length (operator_bytes o)) (done + 1) fuel
    (omega (arith, length-drop at s, n, h)) (drop_part s at (operator_bytes o) rest d) (omega (arith, l))
    (omega (arith, w, m)) in
    let y = lt-ltb at (length s) (omega (arith, length-drop at s, n, h, size.0)) in
    split (run_refusal sh t s at) 0
    (λ z. rw (y, eqb_same z, written_at v o len a s at rest d) (omega (arith, i, w, m)))
    (λ z. absurd (z (rw (y, eqb_other z) at b.refusal)))

-- of a whole run
pub room_taken : (t : State) {y : List ℕ} {q : List ℤ} {os : List Operator} → (entry t).refusal ≡ 0
    → Good (shape_of t.links) t.links t.points → Path (shape_of t.links) y q os t.links t.points
    → AllPlain os → (x₀ : List ℕ) (p₀ : List ℤ) → room_for (shape_of t.links) x₀ p₀ os ≤ t.start
    → (run_of t (write_script os)).answer.start + room_for (shape_of t.links) x₀ p₀ os ≡ t.start
unfolding run_of
room_taken t e g r a x₀ p₀ m =
    let i = room_is (good_within g) x₀ p₀ r a in
    rw (eqb_same e, ← i) (path_start t (good_within g) r _ 0 0 _ (omega arith) refl (script_long (good_within g) r)
    (omega (arith, i, m)))
