-- What the test `crossed` says: some half-edge lies between k and its mate, and its own mate does not.
use Rattle.std.specs.Prelude.{◌≡◌, refl, ◌⊎◌, Bool, true, false, List, ℕ, ◌+◌, ◌-◌, ◌*◌, ◌/◌, ◌%◌, ◌≤◌, T}
use Rattle.std.proofs.Common.{sym, ap, ◌∙◌, inl, inr, ⊎_elim, arith}
use Rattle.std.proofs.lemmas.Bool.{false≢true}
use Rattle.laws.specs.Bools.{split, T_true, true_T}
use Rattle.laws.specs.Search.{any_to, any_at, any_of}
use Rattle.layout.specs.declared.shape.Shape.{Shape}
use Rattle.layout.specs.Mate.{mate}
use Rattle.layout.specs.MateLaws.{mate_odd, mate_even}
use Rattle.takedown.specs.Inversion.{between, either, crossed}

-- ---- the two halves of an edge

mate_low : (e : ℕ) → 1 ≤ e → mate (2 * e - 1) ≡ 2 * e
mate_low e h = mate_odd (2 * e - 1) (omega arith) ∙ omega arith

mate_high : (e : ℕ) → 1 ≤ e → mate (2 * e) ≡ 2 * e - 1
mate_high e h = mate_even (2 * e) (omega arith)

-- exactly one
either_one : (a b : Bool) → either a b ≡ true → ((a ≡ true) × (b ≡ false)) ⊎ ((a ≡ false) × (b ≡ true))
either_one true true h = absurd (false≢true h)
either_one true false h = inl (refl, refl)
either_one false b h = inr (refl, h)

not_either : (a b : Bool) → a ≡ true → b ≡ false → either a b ≡ true
not_either a b e f = rw (e, f)

either_not : (a b : Bool) → a ≡ false → b ≡ true → either a b ≡ true
either_not a b e f = rw (e, f)

-- a half-edge between k and its mate whose own mate is not
pub record Crossing (sh : Shape) (x : List ℕ) (k : ℕ) : Type 0 where
  pub j : ℕ
  pub range : (1 ≤ j) × (j ≤ 2 * sh.edges)
  pub inside : between sh x k j ≡ true
  pub outside : between sh x k (mate j) ≡ false

-- the test finds one
pub crossed_at : (sh : Shape) (x : List ℕ) (k : ℕ) → crossed sh x k ≡ true → Crossing sh x k
unfolding crossed
crossed_at sh x k h =
    let a = any_at sh.edges (λ e. either (between sh x k (2 * e - 1)) (between sh x k (2 * e))) (true_T h) in
    let e = a.0 in
    ⊎_elim
    (λ q. record {
      j = 2 * e - 1;
      range = (omega (arith, a.1), omega (arith, a.2));
      inside = q.0;
      outside =
          ap (between sh x k) (mate_low e a.1) ∙ q.1;
    })
    (λ q. record {
      j = 2 * e;
      range = (omega (arith, a.1), omega (arith, a.2));
      inside = q.1;
      outside =
          ap (between sh x k) (mate_high e a.1) ∙ q.0;
    })
    (either_one (between sh x k (2 * e - 1)) (between sh x k (2 * e)) (T_true a.3))

-- and if there is one, it passes
pub at_crossed : (sh : Shape) (x : List ℕ) (k : ℕ) → Crossing sh x k → crossed sh x k ≡ true
unfolding crossed
at_crossed sh x k c = T_true (by (c.j % 2) refl)
  where
    pick_e : (e : ℕ) → 1 ≤ e → e ≤ sh.edges → either (between sh x k (2 * e - 1)) (between sh x k (2 * e)) ≡ true
        → T (any_to sh.edges (λ e. either (between sh x k (2 * e - 1)) (between sh x k (2 * e))))
    pick_e e l u t =
        any_of sh.edges (λ e. either (between sh x k (2 * e - 1)) (between sh x k (2 * e))) e l u (true_T t)

    by : (m : ℕ) → c.j % 2 ≡ m
        → T (any_to sh.edges (λ e. either (between sh x k (2 * e - 1)) (between sh x k (2 * e))))
    by m q = split (c.j % 2) 1
        (λ o.
        let e : ℕ = (c.j + 1) / 2 in
        let je : c.j ≡ 2 * e - 1 = omega (arith, o, c.range) in
        let l : 1 ≤ e = omega (arith, o, c.range) in
        pick_e e l (omega (arith, o, c.range))
        (not_either _ _ (ap (between sh x k) (sym je) ∙ c.inside)
        (ap (between sh x k) (sym (mate_low e l) ∙ ap mate (sym je)) ∙ c.outside)))
        (λ o.
        let e : ℕ = c.j / 2 in
        let je : c.j ≡ 2 * e = omega (arith, o, c.range) in
        let l : 1 ≤ e = omega (arith, o, c.range) in
        pick_e e l (omega (arith, o, c.range))
        (either_not _ _ (ap (between sh x k) (sym (mate_high e l) ∙ ap mate (sym je)) ∙ c.outside)
        (ap (between sh x k) (sym je) ∙ c.inside)))
