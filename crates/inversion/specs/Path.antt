-- Operators carried out one after the other, each accepted on the table that the one before left. What is known of a
-- chain of accepted operators on a good table, whatever chose them: the table stays good, the log leads back, the
-- logged part read forward builds the first table again and holds as many joins as the chain has mfkrh.
use Rattle.std.specs.Prelude.{◌≡◌, refl, List, [], ◌∷◌, ◌++◌, ℕ, suc, ◌+◌, ◌*◌, ◌≤◌, ℤ, length, drop}
use Rattle.std.proofs.Common.{sym, ◌∙◌, subst, add-zero, arith}
use Rattle.laws.specs.Sums.{bit}
use Rattle.script.specs.declared.Operator.{Operator}
use Rattle.script.specs.Operator.{operator_bytes}
use Rattle.layout.specs.declared.shape.Shape.{Shape}
use Rattle.euler.specs.Exec.{refusal_of, links_after, points_after, inverse}
use Rattle.sound_tables.specs.Good.{Good}
use Rattle.sound_operators.specs.Theorems.{all_hold}
use Rattle.runs.specs.Run.{State, inverse_bytes, stepped}
use Rattle.promises.specs.Checked.{good_within}
use Rattle.euler.specs.Inverses.{inverse_eight}
use Rattle.promises.specs.Logging.{put_live}
use Rattle.promises.specs.WayBack.{Back, back_stepped}
use Rattle.evidence_fuel.specs.Inverse.{inverse_small}
use Rattle.takedown.specs.Inversion.{Work, act}
use Rattle.inversion.specs.Script.{joins_faces, joins_of, joins_first}

-- the operators os, accepted one after the other, lead from the table x, p to the table y, q
pub data Path (sh : Shape) (y : List ℕ) (q : List ℤ) : List Operator → List ℕ → List ℤ → Type 0 where
  there : {x : List ℕ} {p : List ℤ} → x ≡ y → p ≡ q → Path sh y q [] x p
  first : {os : List Operator} {x : List ℕ} {p : List ℤ} (o : Operator) → length o.args ≡ 8 → refusal_of sh x o ≡ 0
      → Path sh y q os (links_after sh x o) (points_after sh x p o) → Path sh y q (o ∷ os) x p

-- the work of carrying them out
unfoldable pub acted : Shape → Work → List Operator → Work
acted sh w [] = w
acted sh w (o ∷ os) = acted sh (act sh w o) os

-- one chain behind the other
pub path_append : {sh : Shape} {y z : List ℕ} {q r : List ℤ} {os ns : List Operator} {x : List ℕ} {p : List ℤ}
    → Path sh y q os x p → Path sh z r ns y q → Path sh z r (os ++ ns) x p
path_append {sh} {y} {z} {q} {r} {ns = ns} (there e f) b = rw (e, f) b
path_append (first o len acc a) b = first o len acc (path_append a b)

pub acted_append : (sh : Shape) (w : Work) (os ns : List Operator) → acted sh w (os ++ ns) ≡ acted sh (acted sh w os) ns
unfolding acted
acted_append sh w [] ns = refl
acted_append sh w (o ∷ os) ns = acted_append sh (act sh w o) os ns

-- a good table stays good
pub path_good : {sh : Shape} {y : List ℕ} {q : List ℤ} {os : List Operator} {x : List ℕ} {p : List ℤ} → Good sh x p
    → Path sh y q os x p → Good sh y q
path_good g (there e f) = rw (← e, ← f) g
path_good {sh} {x = x} {p} g (first o len acc r) = path_good (all_hold sh x p o g len acc).0 r

-- the work ends with the table that the chain leads to, and counts its operators
pub acted_table : (sh : Shape) {y : List ℕ} {q : List ℤ} {os : List Operator} (w : Work)
    → Path sh y q os w.state.links w.state.points
    → ((acted sh w os).state.links ≡ y) × ((acted sh w os).state.points ≡ q)
    × ((acted sh w os).done ≡ w.done + length os)
unfolding acted act stepped
acted_table sh w (there e f) = (e, f, sym (add-zero w.done))
acted_table sh w (first {os} o len acc r) =
    let i = acted_table sh (act sh w o) r in
    (i.0, i.1, i.2 ∙ omega arith)

-- one more of the log
step_back : (sh : Shape) {n : ℕ} (t₀ : State) (w : Work) (o : Operator) → Back sh n t₀ w.state → length o.args ≡ 8
    → refusal_of sh w.state.links o ≡ 0 → 19 ≤ w.state.start
    → Back sh (suc n) t₀ (act sh w o).state × (w.state.start ≤ (act sh w o).state.start + 19)
unfolding act stepped inverse_bytes
step_back sh t₀ w o b len acc room =
    let m = (inverse_small b.good o len acc).most in
    (back_stepped t₀ w.state o b len acc (omega (arith, m, room)), omega (arith, m, room))

-- undoing leads back over the whole chain, if there are 19 bytes for each of its operators
pub path_back : (sh : Shape) {y : List ℕ} {q : List ℤ} {n : ℕ} {os : List Operator} (t₀ : State) (w : Work)
    → Back sh n t₀ w.state
    → Path sh y q os w.state.links w.state.points → 19 * length os ≤ w.state.start
    → Back sh (n + length os) t₀ (acted sh w os).state
unfolding acted act stepped
path_back sh {n} t₀ w b (there e f) h = rw (add-zero n) b
path_back sh {n} t₀ w b (first {os} o len acc r) h =
    let s = step_back sh t₀ w o b len acc (omega (arith, h)) in
    let e : suc n + length os ≡ n + suc (length os) = omega arith in
    subst (λ m. Back sh m t₀ (acted sh (act sh w o) os).state) e
    (path_back sh t₀ (act sh w o) s.0 r (omega (arith, h, s.1)))

-- and its start is at most 19 bytes lower for each of them
pub path_low : (sh : Shape) {y : List ℕ} {q : List ℤ} {n : ℕ} {os : List Operator} (t₀ : State) (w : Work)
    → Back sh n t₀ w.state
    → Path sh y q os w.state.links w.state.points → 19 * length os ≤ w.state.start
    → w.state.start ≤ (acted sh w os).state.start + 19 * length os
unfolding acted act stepped
path_low sh t₀ w b (there e f) h = omega arith
path_low sh t₀ w b (first {os} o len acc r) h =
    let s = step_back sh t₀ w o b len acc (omega (arith, h)) in
    omega (arith, s.1, path_low sh t₀ (act sh w o) s.0 r (omega (arith, h, s.1)))

-- ---- the joins of the logged part

-- how many of the inverses of os join two faces of one solid, each on the table that its operator left
abbrev pub joins_in : Shape → List ℕ → List ℤ → List Operator → ℕ
joins_in sh x p [] = 0
joins_in sh x p (o ∷ os) = bit (joins_faces sh (links_after sh x o) (inverse sh x p o))
    + joins_in sh (links_after sh x o) (points_after sh x p o) os

-- one more
step_joins : (sh : Shape) {n : ℕ} (t₀ : State) (w : Work) (o : Operator) → Back sh n t₀ w.state
    → length o.args ≡ 8 → refusal_of sh w.state.links o ≡ 0 → 19 ≤ w.state.start
    → joins_of (suc n) sh (drop (act sh w o).state.start (act sh w o).state.log) (act sh w o).state.links
    ≡ bit (joins_faces sh (links_after sh w.state.links o) (inverse sh w.state.links w.state.points o))
    + joins_of n sh (drop w.state.start w.state.log) w.state.links
unfolding act stepped inverse_bytes
step_joins sh {n} t₀ w o b len acc room =
    let t : State = w.state in
    let h = all_hold sh t.links t.points o b.good len acc in
    let i : Operator = inverse sh t.links t.points o in
    let m = (inverse_small b.good o len acc).most in
    let live = put_live t.log t.start (operator_bytes i) (omega (arith, m, room))
    (omega (arith, b.below, b.fits, b.same_length)) in
    joins_first sh (good_within h.0) (links_after sh t.links o) i (inverse_eight sh t.links t.points o)
    h.1.accepted _ (drop t.start t.log) live n
    ∙ rw h.1.links

-- and the whole chain
pub path_joins : (sh : Shape) {y : List ℕ} {q : List ℤ} {n : ℕ} {os : List Operator} (t₀ : State) (w : Work)
    → Back sh n t₀ w.state
    → Path sh y q os w.state.links w.state.points → 19 * length os ≤ w.state.start
    → joins_of (n + length os) sh (drop (acted sh w os).state.start (acted sh w os).state.log) (acted sh w
    os).state.links
    ≡ joins_in sh w.state.links w.state.points os
    + joins_of n sh (drop w.state.start w.state.log) w.state.links
unfolding acted act stepped
path_joins sh {n} t₀ w b (there e f) h = rw (add-zero n) (omega arith)
path_joins sh {n} t₀ w b (first {os} o len acc r) h =
    let s = step_back sh t₀ w o b len acc (omega (arith, h)) in
    let j = step_joins sh t₀ w o b len acc (omega (arith, h)) in
    let e : n + suc (length os) ≡ suc n + length os = omega arith in
    let i = path_joins sh t₀ (act sh w o) s.0 r (omega (arith, h, s.1)) in
    rw e (i ∙ omega (arith, j))
