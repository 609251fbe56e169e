-- The crossing test by two walks: the first marks what lies between k and its mate, the second asks each half-edge
-- there for its own mate.
use Rattle.std.specs.Prelude.{◌≡◌, refl, ◌≢◌, Bool, true, false, not, ◌||◌, List, T, eqb, ltb, length, get_or, set}
use Rattle.std.specs.Prelude.{replicate}
use Rattle.std.proofs.Common.{sym, ap, ◌∙◌, subst, ⊎_elim, eqb→eq, length-set, get_or-set_same, get_or-set_other}
use Rattle.std.proofs.lemmas.Bool.{false≢true}
use Prim.Native.Nat.{ℕ, zero, suc, ◌+◌, ◌-◌, ◌*◌, ◌%◌, ◌≤◌, ◌<◌}
use native.Mathlib.Omega.{arith}
use Rattle.std.proofs.Math.Dec.{eqb_refl}
use Rattle.std.proofs.lemmas.List.{length-replicate}
use borrow.Author.Tests.{eq-eqb, ne_eqb, le-ltb, ltb-false, not-false}
use Rattle.laws.specs.Bools.{pick, split, eqb_same, eqb_other, T_true, true_T, false_T, or_T, T_or_l, T_or_r, same_T}
use Rattle.laws.specs.Marks.{marked, zeros_at}
use Rattle.bounds.specs.Bounds.{half_places, most_items}
use Rattle.layout.specs.declared.shape.Shape.{Shape}
use Rattle.layout.specs.Layout.{next_of}
use Rattle.layout.specs.Mate.{mate}
use Rattle.layout.specs.MateLaws.{mate_odd, mate_even}
use Rattle.takedown.specs.Inversion.{on_run, between, crossed}
use Rattle.takedown.specs.Crossed.{Crossing, crossed_at, at_crossed}

-- how long the marks are: a place for each half-edge's number, for 0, and for the mate of the number behind the last
abbrev pub mark_places : ℕ
mark_places = suc half_places

-- the half-edges from k up to before stop are marked, at most n steps
unfoldable pub mark_run : Shape → ℕ → List ℕ → ℕ → ℕ → List ℕ → List ℕ
mark_run sh zero x k stop marks = marks
mark_run sh (suc n) x k stop marks = pick (eqb k stop) marks (mark_run sh n x (next_of sh x k) stop (set marks k 1))

-- half-edge k is one of 1..n, and its mate is not marked
abbrev pub unpaired : ℕ → List ℕ → ℕ → Bool
unpaired n marks k = pick (ltb k 1 || ltb n k) false (eqb (get_or marks (mate k) 0) 0)

-- some half-edge from k up to before stop is so, at most m steps
unfoldable pub any_unpaired : Shape → ℕ → ℕ → List ℕ → ℕ → ℕ → List ℕ → Bool
any_unpaired sh n zero x k stop marks = false
any_unpaired sh n (suc m) x k stop marks =
    pick (eqb k stop) false (pick (unpaired n marks k) true (any_unpaired sh n m x (next_of sh x k) stop marks))

-- neither of two
or_false_both : (a b : Bool) → (a || b) ≡ false → (a ≡ false) × (b ≡ false)
or_false_both true b h = absurd (false≢true (sym h))
or_false_both false b h = (refl, h)

-- the ways out of that test
module _ (n : ℕ) (marks : List ℕ) (k : ℕ) where
  pub unpaired_no : (ltb k 1 || ltb n k) ≡ true → false ≡ unpaired n marks k
  unpaired_no h = rw h

  pub unpaired_is : (ltb k 1 || ltb n k) ≡ false → (m : ℕ) → m ≡ mate k → eqb (get_or marks m 0) 0 ≡ unpaired n marks k
  unpaired_is h m e = rw (h, e)

  -- k is then one of 1..n
  pub unpaired_range : (ltb k 1 || ltb n k) ≡ false → (1 ≤ k) × (k ≤ n)
  unpaired_range h =
      let r = or_false_both (ltb k 1) (ltb n k) h in (ltb-false k 1 r.0, ltb-false n k r.1)

-- ---- the ways out of the walk

module _ (sh : Shape) (left : ℕ) (x : List ℕ) (k stop : ℕ) (marks whole : List ℕ)
    (rest : mark_run sh left x k stop marks ≡ whole) where
  pub mark_stop : 0 < left → k ≡ stop → marks ≡ whole
  unfolding mark_run
  mark_stop h e = let n : left ≡ suc (left - 1) = omega arith in rw (n, eq-eqb k stop e) at rest

  pub mark_turn : (d : ℕ) → left ≡ suc d → k ≢ stop → (y : List ℕ) → y ≡ set marks k 1 → (m : ℕ) → m ≡ next_of sh x k
      → mark_run sh d x m stop y ≡ whole
  unfolding mark_run
  mark_turn d n e y p m q = rw (q, p) (rw (n, ne_eqb k stop e) at rest)

  pub mark_out : left ≤ 0 → marks ≡ whole
  unfolding mark_run
  mark_out h = let n : left ≡ 0 = omega arith in rw n at rest

-- one mark more keeps the length
pub long_mark : (marks y : List ℕ) (k : ℕ) → length marks ≡ mark_places → y ≡ set marks k 1 → length y ≡ mark_places
long_mark marks y k h e = ap length e ∙ length-set marks k 1 ∙ h

-- ---- what is marked

-- a test or nothing
or_false : (b : Bool) → b ≡ (b || false)
or_false true = refl
or_false false = refl

or_swap : (a b c : Bool) → ((a || b) || c) ≡ (b || (a || c))
or_swap true true c = refl
or_swap true false c = refl
or_swap false true c = refl
or_swap false false c = refl

-- one mark more
mark_one : (marks : List ℕ) (k j : ℕ) → j < length marks → marked (set marks k 1) j ≡ (eqb k j || marked marks j)
mark_one marks k j h =
    split k j
    (λ e. rw (eqb_same e, e, get_or-set_same marks j 1 0 h))
    (λ e. rw (eqb_other e, get_or-set_other marks k j 1 0 (λ q. e (sym q))))

-- a step of the walk, where it goes on
run_step : (b here : Bool) (marks next : List ℕ) (j : ℕ) (on : Bool) → marked next j ≡ ((here || marked marks j) || on)
    → marked (pick b marks next) j ≡ (marked marks j || pick b false (here || on))
run_step true here marks next j on e = or_false (marked marks j)
run_step false here marks next j on e = e ∙ or_swap here (marked marks j) on

-- a half-edge is marked in the end if it was at first or the walk meets it
marked_run : (sh : Shape) (n : ℕ) (x : List ℕ) (k stop : ℕ) (marks : List ℕ) (j : ℕ) → j < length marks
    → marked (mark_run sh n x k stop marks) j ≡ (marked marks j || on_run sh n x k stop j)
unfolding mark_run on_run
marked_run sh zero x k stop marks j h = or_false (marked marks j)
marked_run sh (suc n) x k stop marks j h =
    run_step (eqb k stop) (eqb k j) marks (mark_run sh n x (next_of sh x k) stop (set marks k 1)) j
    (on_run sh n x (next_of sh x k) stop j)
    (marked_run sh n x (next_of sh x k) stop (set marks k 1) j (rw (length-set marks k 1) h)
    ∙ ap (λ b. b || on_run sh n x (next_of sh x k) stop j) (mark_one marks k j h))

-- ---- what the second walk finds

-- what it finds is met on the run, and is unpaired
found_step : (P : ℕ → Bool) (k : ℕ) (met : ℕ → Bool) (s u r : Bool) → T (pick s false (pick u true r))
    → (u ≡ true → T (P k))
    → (T r → (j : ℕ) × T (met j) × T (P j)) → (j : ℕ) × T (pick s false (eqb k j || met j)) × T (P j)
found_step P k met true u r t here on = absurd t
found_step P k met false true r t here on = (k, T_or_l (eqb k k) (met k) (eqb_refl k), here refl)
found_step P k met false false r t here on = let f = on t in (f.0, T_or_r (eqb k f.0) (met f.0) f.1, f.2)

found : (sh : Shape) (n m : ℕ) (x : List ℕ) (k stop : ℕ) (marks : List ℕ) → T (any_unpaired sh n m x k stop marks)
    → (j : ℕ) × T (on_run sh m x k stop j) × T (unpaired n marks j)
unfolding any_unpaired on_run
found sh n zero x k stop marks t = absurd t
found sh n (suc m) x k stop marks t =
    found_step (unpaired n marks) k (on_run sh m x (next_of sh x k) stop) (eqb k stop) (unpaired n marks k)
    (any_unpaired sh n m x (next_of sh x k) stop marks) t true_T (found sh n m x (next_of sh x k) stop marks)

-- and it finds whatever is met and unpaired
finds_step : (P : ℕ → Bool) (k j : ℕ) (met s u r : Bool) → u ≡ P k → T (P j) → T (pick s false (eqb k j || met))
    → (T met → T r)
    → T (pick s false (pick u true r))
finds_step P k j met true u r e p o on = absurd o
finds_step P k j met false true r e p o on = tt
finds_step P k j met false false r e p o on =
    ⊎_elim (λ q. absurd (false_T (sym e) (subst (λ i. T (P i)) (sym (eqb→eq k j q)) p))) on (or_T (eqb k j) met o)

finds : (sh : Shape) (n m : ℕ) (x : List ℕ) (k stop : ℕ) (marks : List ℕ) (j : ℕ) → T (on_run sh m x k stop j)
    → T (unpaired n marks j)
    → T (any_unpaired sh n m x k stop marks)
unfolding any_unpaired on_run
finds sh n zero x k stop marks j o u = absurd o
finds sh n (suc m) x k stop marks j o u =
    finds_step (unpaired n marks) k j (on_run sh m x (next_of sh x k) stop j) (eqb k stop) (unpaired n marks k)
    (any_unpaired sh n m x (next_of sh x k) stop marks) refl u o (λ q. finds sh n m x (next_of sh x k) stop marks j q u)

-- a mate is next to its half-edge
mate_near : (j : ℕ) → mate j ≤ j + 1
mate_near j = split (j % 2) 1 (λ o. omega (arith, mate_odd j o)) (λ o. omega (arith, mate_even j o))

-- what it says of a half-edge that it is unpaired
unpaired_by : (a b m : Bool) → T (pick (a || b) false m) → (a ≡ false) × (b ≡ false) × (m ≡ true)
unpaired_by true b m t = absurd t
unpaired_by false true m t = absurd t
unpaired_by false false m t = (refl, refl, T_true t)

unpaired_says : (n : ℕ) (marks : List ℕ) (j : ℕ) → T (unpaired n marks j)
    → (1 ≤ j) × (j ≤ n) × (marked marks (mate j) ≡ false)
unpaired_says n marks j u =
    let r = unpaired_by (ltb j 1) (ltb n j) (eqb (get_or marks (mate j) 0) 0) u in
    (ltb-false j 1 r.0, ltb-false n j r.1, ap not r.2)

says_unpaired : (n : ℕ) (marks : List ℕ) (j : ℕ) → 1 ≤ j → j ≤ n → marked marks (mate j) ≡ false
    → T (unpaired n marks j)
says_unpaired n marks j lo hi m =
    let e : unpaired n marks j ≡ true =
    rw (le-ltb j 1 lo, le-ltb n j hi) (not-false (eqb (get_or marks (mate j) 0) 0) m) in
    true_T e

-- from no marks on, what is marked lies between k and its mate
module _ (sh : Shape) (x : List ℕ) (k : ℕ) (small : sh.edges ≤ most_items) (marks : List ℕ)
    (e : marks ≡ mark_run sh (2 * sh.edges) x (next_of sh x k) (mate k) (replicate mark_places 0)) where
  marked_between : (j : ℕ) → j ≤ half_places → marked marks j ≡ between sh x k j
  marked_between j h =
      ap (λ m. marked m j) e
      ∙ marked_run sh (2 * sh.edges) x (next_of sh x k) (mate k) (replicate mark_places 0) j (omega
      (arith, h, length-replicate {A = ℕ} mark_places 0))
      ∙ ap (λ b. b || between sh x k j) (ap (λ n. not (eqb n 0)) (zeros_at mark_places j))

  -- so what is found by the second walk crosses k
  unpaired_crosses : (j : ℕ) → T (between sh x k j) → T (unpaired (2 * sh.edges) marks j) → T (crossed sh x k)
  unpaired_crosses j b u =
      let r = unpaired_says (2 * sh.edges) marks j u in
      let lo = r.0 in
      let hi = r.1 in
      true_T (at_crossed sh x k (record {
        j = j;
        range = (lo, hi);
        inside = T_true b;
        outside = sym (marked_between (mate j) (omega (arith, mate_near j, hi, small))) ∙ r.2;
      }))

  -- and whatever crosses k is unpaired
  crosses_unpaired : (c : Crossing sh x k) → T (unpaired (2 * sh.edges) marks c.j)
  crosses_unpaired c =
      says_unpaired (2 * sh.edges) marks c.j c.range.0 c.range.1
      (marked_between (mate c.j) (omega (arith, mate_near c.j, c.range.1, small)) ∙ c.outside)

  pub crossed_is : (r : Bool) → r ≡ any_unpaired sh (2 * sh.edges) (2 * sh.edges) x (next_of sh x k) (mate k) marks
      → r ≡ crossed sh x k
  crossed_is r q =
      q ∙ same_T
      (λ t. let f = found sh (2 * sh.edges) (2 * sh.edges) x (next_of sh x k) (mate k) marks t in
      unpaired_crosses f.0 f.1 f.2)
      (λ t.
      let c = crossed_at sh x k (T_true t) in
      finds sh (2 * sh.edges) (2 * sh.edges) x (next_of sh x k) (mate k) marks c.j (true_T c.inside)
      (crosses_unpaired c))

-- the walk begins behind k and stops at its mate
pub crossed_steps : (sh : Shape) (x : List ℕ) (k : ℕ) → sh.edges ≤ most_items → (from stop n : ℕ)
    → from ≡ next_of sh x k
    → stop ≡ mate k → n ≡ 2 * sh.edges
    → (marks : List ℕ) → marks ≡ mark_run sh n x from stop (replicate mark_places 0)
    → (r : Bool) → r ≡ any_unpaired sh n n x from stop marks → r ≡ crossed sh x k
crossed_steps sh x k small from stop n ef es en marks em r q =
    crossed_is sh x k small marks (rw (ef, es, en) at em) r (rw (ef, es, en) at q)

-- ---- the ways out of the second walk

module _ (sh : Shape) (n left : ℕ) (x : List ℕ) (k stop : ℕ) (marks : List ℕ) (whole : Bool)
    (rest : any_unpaired sh n left x k stop marks ≡ whole) where
  pub any_stop : 0 < left → k ≡ stop → false ≡ whole
  unfolding any_unpaired
  any_stop h e = let m : left ≡ suc (left - 1) = omega arith in rw (m, eq-eqb k stop e) at rest

  module _ (h : 0 < left) (e : k ≢ stop) (b : Bool) (eb : b ≡ unpaired n marks k) where
    pub any_here : b ≡ true → true ≡ whole
    unfolding any_unpaired
    any_here t = let m : left ≡ suc (left - 1) = omega arith in rw (m, ne_eqb k stop e, ← eb, t) at rest

    pub any_turn : b ≡ false → (j : ℕ) → j ≡ next_of sh x k → (d : ℕ) → left ≡ suc d
        → any_unpaired sh n d x j stop marks ≡ whole
    unfolding any_unpaired
    any_turn t j ej d m = rw ej (rw (m, ne_eqb k stop e, ← eb, t) at rest)

  pub any_out : left ≤ 0 → false ≡ whole
  unfolding any_unpaired
  any_out h = let m : left ≡ 0 = omega arith in rw m at rest
