-- Where the search for a loop's first begins: no half-edge below a sound table's first names the loop, nor below the
-- lesser of it and a new half-edge.
use Rattle.std.specs.Prelude.{◌≡◌, ◌≢◌, List, ℕ, suc, ◌*◌, ◌≤◌, ltb, ℤ}
use Rattle.std.proofs.Common.{sym, ◌∙◌, subst, ⊎_elim, arith, lt→ltb, ltb→lt}
use Rattle.laws.specs.Bools.{split, le?, T_true, T_false, eqb_same, eqb_other}
use Rattle.layout.specs.declared.shape.Shape.{Shape}
use Rattle.euler.specs.Surgery.{lower}
use Rattle.layout.specs.Fields.{First, Start, Loop, Columns}
use Rattle.sound_tables.specs.Sound.{In, first_of, Sound}
use Rattle.sound_tables.specs.Labels.{label_found, label_some}

-- the lesser is not above the one
pub lower_one : (f k i : ℕ) → f ≢ 0 → f ≤ i → lower f k ≤ i
lower_one f k i d h = rw (eqb_other d) (⊎_elim
    (λ g. rw (T_true {b = ltb f k} (lt→ltb f k g)) h)
    (λ g. rw (T_false {b = ltb f k} (λ t. omega (arith, g, ltb→lt f k t))) (omega (arith, g, h))) (le? (suc f) k))

-- nor above the other
pub lower_other : (f k i : ℕ) → k ≤ i → lower f k ≤ i
lower_other f k i h = split f 0 (λ z. rw (eqb_same z) h) (λ d. rw (eqb_other d) (⊎_elim
    (λ g. rw (T_true {b = ltb f k} (lt→ltb f k g)) (omega (arith, g, h)))
    (λ g. rw (T_false {b = ltb f k} (λ t. omega (arith, g, ltb→lt f k t))) h) (le? (suc f) k)))

-- where the other is the lesser of two new half-edges, it is not above these, nor above those that the one is not above
pub lower_new : (f k m i : ℕ) → 1 ≤ k → (i ≢ k → i ≢ m → (f ≢ 0) × (f ≤ i)) → lower f (lower k m) ≤ i
lower_new f k m i h old = split i k
    (λ e. lower_other f (lower k m) i (lower_one k m i (λ z. omega (arith, h, z)) (omega (arith, e))))
    (λ d. split i m
    (λ e. lower_other f (lower k m) i (lower_other k m i (omega (arith, e))))
    (λ g. let o = old d g in lower_one f (lower k m) i o.0 o.1))

-- the least that names a loop is there and not above any that does
pub least_low : (sh : Shape) (c : Columns) (l i : ℕ) → In (2 * sh.edges) i → c Loop i ≡ l
    → (first_of sh c l ≢ 0) × (first_of sh c l ≤ i)
least_low sh c l i j e =
    let h = label_some (2 * sh.edges) (c Loop) l i j e in
    (h, (label_found (2 * sh.edges) (c Loop) l h).before i j e)

-- so is a sound table's first
pub first_low_lem : {sh : Shape} {p : List ℤ} {c : Columns} → Sound sh p c → (l i : ℕ) → 1 ≤ l → In (2 * sh.edges) i
    → c Loop i ≡ l → (c First l ≢ 0) × (c First l ≤ i)
first_low_lem {sh} {p} {c} a l i h j e =
    let u : c Start i ≢ 0 = λ z. omega (arith, h, sym e ∙ (a.half_free i j z).loop) in
    let s = a.half i j u in
    let q : c First l ≡ first_of sh c l = subst (λ m. c First m ≡ first_of sh c m) e
    (a.loop (c Loop i) s.loop_in s.loop_used).first in
    rw q (least_low sh c l i j e)
