-- Small instances that go through every assumption of the laws, so that none of them is empty.
-- Here: searches, columns, chains, permutations, the six moves and walks. `LinearInstances` has marks, closure and
-- union.
use Rattle.std.specs.Prelude.{◌≡◌, refl, ◌≢◌, Bool, true, false, ◌&&◌, List, [], ◌∷◌, ℕ, zero, suc, ◌+◌, ◌≤◌, ◌<◌, T}
use Rattle.std.specs.Prelude.{leb, eqb, get_or, set}
use Rattle.std.proofs.Common.{sym, ap, ◌∙◌, inl, inr, arith, leb→le}
use Rattle.laws.specs.Bools.{pick, eqb_other}
use Rattle.laws.specs.Search.{all_to, least, least_from, least_ext}
use Rattle.laws.specs.Sums.{sum_to, count_to, sum_change, count_one}
use Rattle.laws.specs.Update.{upd, relabel, apart, upd_same, upd_off}
use Rattle.laws.specs.Columns.{Kind, col_of, col, store, sweep, store_same, store_else, col_store, col_store_other}
use Rattle.laws.specs.Columns.{col_store_apart, sweep_at, sweep_above, sweep_other, sweep_apart}
use Rattle.laws.specs.Columns.{col_at, store_at, columns_ext}
use Rattle.laws.specs.Linked.{Linked, link, back, via, map_linked, map_within}
use Rattle.laws.specs.Permutations.{iter, Twice, pigeonhole, comes_back, soon, redo, undo_in, inverse_same}
use Rattle.laws.specs.Cycles.{Cycles, agree, birth, death, alone}
use Rattle.laws.specs.Exchange.{Till, stop, go}
use Rattle.laws.specs.Moves.{Or, But, ins, out, xchg, ins_cycles, out_cycles, merge_cycles, halve_cycles}
use Rattle.laws.specs.Walks.{first, meets, Used, all_step, all_met, cycles_of, of_cycles, run_yes, run_no}
use Rattle.laws.specs.Walks.{walk_till, till_walk}

-- ---- search and sums, at sizes that show that they compute

-- the least of 1..4096 that is 4000 or more
least_computes : least 4096 (λ k. leb 4000 k) ≡ 4000
unfolding least_from
least_computes = refl

-- 17 of 1..4096 are 17 or less
count_computes : count_to 4096 (λ k. leb k 17) ≡ 17
unfolding sum_to
count_computes = refl

-- a test that only 3 passes, by two tests that agree on 1..4
least_3 : (least 4 (λ k. eqb k 3) ≡ 3) × (least 4 (λ k. eqb k 3) ≡ least 4 (λ k. eqb (upd (λ i. i) 9 3 k) 3))
unfolding least_from
least_3 =
    (refl, least_ext 4 _ _ (λ j l u. let d : j ≢ 9 = omega arith in ap (λ k. eqb k 3) (sym (upd_off (λ i. i) 3 d))))

-- it is counted once
count_3 : count_to 4 (λ k. eqb k 3) ≡ 1
count_3 = count_one 4 (λ k. eqb k 3) 3 (omega arith) (omega arith) refl (λ k h. eqb_other h)

-- one entry of a sum changes
change : sum_to 3 (λ k. k) + 9 ≡ sum_to 3 (upd (λ k. k) 2 9) + 2
unfolding sum_to upd
change = sum_change 3 (λ k. k) (upd (λ k. k) 2 9) 2 (omega arith) (omega arith) (λ k h. sym (upd_off (λ k. k) 9 h))

-- four changes read by simp
read_back : (f : ℕ → ℕ) → upd (upd (upd (upd f 1 5) 2 6) 3 7) 4 8 2 ≡ 6
read_back f =
    apart {k = 1} {a = 2} {p = 3} {q = 4} (record {
      ka = omega arith;
      kp = omega arith;
      kq = omega arith;
      ap =
          omega arith;
      aq = omega arith;
      pq = omega arith;
    })
    (λ c1 c2 c3 c4 c5 c6 c7 c8 c9 c10 c11 c12. simp (upd_same, upd_off))

-- ---- columns: one word, then two records of two words, then one record of one word

-- the kind of two records
abbrev pairs : Kind
pairs = record { base = 1; width = 2; count = 2 }

-- the kind of one
abbrev single : Kind
single = record { base = 5; width = 1; count = 1 }

-- a list of that layout
abbrev words : List ℕ
words = 9 ∷ 10 ∷ 11 ∷ 12 ∷ 13 ∷ 14 ∷ []

-- what is stored is read
stored : col pairs 1 (store pairs 1 words 2 7) 2 ≡ 7
stored = col_store pairs 1 words (omega arith) (omega arith) 2 7 2 (omega arith) (omega arith)
    ∙ upd_same (col pairs 1 words) 2 7

-- another record is as it was
stored_record : col pairs 1 (store pairs 1 words 2 7) 1 ≡ 11
stored_record = col_store pairs 1 words (omega arith) (omega arith) 2 7 1 (omega arith) (omega arith)
    ∙ upd_off (col pairs 1 words) 7 (omega arith)

-- and another field
stored_field : col pairs 0 (store pairs 1 words 2 7) 2 ≡ 12
stored_field = col_store_other 0 pairs 0 1 words (omega arith) (omega arith) (omega arith) 2 7 2

-- and another kind, on either side
stored_kind : (col single 0 (store pairs 1 words 2 7) 1 ≡ 14) × (col pairs 1 (store single 0 words 1 7) 2 ≡ 13)
stored_kind = (
  col_store_apart 0 single pairs 0 1 words
      (omega arith) (omega arith) (inr (omega arith)) 2 7 1 (omega arith) (omega arith),
  col_store_apart 0 pairs single 1 0 words
      (omega arith) (omega arith) (inl (omega arith)) 1 7 2 (omega arith) (omega arith),
)

-- a sweep over the first record only
swept : (col pairs 0 (sweep pairs 0 1 (λ n w. n + w) words) 1 ≡ 11)
    × (col pairs 0 (sweep pairs 0 1 (λ n w. n + w) words) 2 ≡ 12)
swept = (
  sweep_at pairs 0 (λ n w. n + w) words (omega arith) (omega arith) 1 1 (omega arith) (omega arith) (omega arith),
  sweep_above pairs 0 (λ n w. n + w) words (omega arith) (omega arith) 1 2 (omega arith) (omega arith),
)

-- a sweep over both leaves the other field and the other kind
swept_else : (col pairs 1 (sweep pairs 0 2 (λ n w. n + w) words) 2 ≡ 13)
    × (col single 0 (sweep pairs 0 2 (λ n w. n + w) words) 1 ≡ 14)
swept_else = (
  sweep_other pairs 1 0 2 (λ n w. n + w) words (omega arith) (omega arith) (omega arith) 2,
  sweep_apart single pairs 0 0 2 (λ n w. n + w) words (omega arith) (omega arith) (inr
      (omega arith)) (omega arith) 1 (omega arith),
)

-- record 2 of the pairs begins one width behind their base
as_code : (get_or words 3 0 ≡ col pairs 0 words 2) × (set words 3 7 ≡ store pairs 0 words 2 7)
as_code = (col_at 0 1 2 0 words 2 (omega arith), store_at 1 2 0 words 2 7 (omega arith))

-- two pairs of another type, behind one word
abbrev flags : List Bool
flags = true ∷ true ∷ true ∷ true ∷ true ∷ []

-- there too what is stored is read, and the word beside it is as it was
flagged : (col_of false pairs 1 (store pairs 1 flags 2 false) 2 ≡ false)
    × (col_of false pairs 0 (store pairs 1 flags 2 false) 2 ≡ true)
flagged = (
  store_same false pairs 1 flags (omega arith) (omega arith) 2 false (omega arith) (omega arith),
  store_else false pairs 0 1 flags (omega arith) (omega arith) 2 false 2 (inr (omega arith)),
)

-- a store and its undoing give the list back: by its columns, word by word
restored : store pairs 1 (store pairs 1 words 2 7) 2 13 ≡ words
restored =
    columns_ext 0 1 (pairs ∷ single ∷ []) _ words refl (refl, omega arith, (refl, omega arith, refl))
    head (one, (two, tt))
  where
    head : (k : ℕ) → k < 1 → get_or (store pairs 1 (store pairs 1 words 2 7) 2 13) k 0 ≡ get_or words k 0
    head zero h = refl
    head (suc k) h = absurd (omega arith)

    one : (j n : ℕ) → j < 2 → 1 ≤ n → n ≤ 2 → col pairs j (store pairs 1 (store pairs 1 words 2 7) 2 13) n
        ≡ col pairs j words n
    one zero n hj l u =
        col_store_other 0 pairs 0 1 (store pairs 1 words 2 7) (omega arith) (omega arith) (omega arith) 2 13 n
        ∙ col_store_other 0 pairs 0 1 words (omega arith) (omega arith) (omega arith) 2 7 n
    one (suc zero) zero hj l u = refl
    one (suc zero) (suc zero) hj l u = refl
    one (suc zero) (suc (suc zero)) hj l u = refl
    one (suc zero) (suc (suc (suc n))) hj l u = absurd (omega arith)
    one (suc (suc j)) n hj l u = absurd (omega arith)

    two : (j n : ℕ) → j < 1 → 1 ≤ n → n ≤ 1 → col single j (store pairs 1 (store pairs 1 words 2 7) 2 13) n
        ≡ col single j words n
    two zero zero hj l u = refl
    two zero (suc zero) hj l u = refl
    two zero (suc (suc n)) hj l u = absurd (omega arith)
    two (suc j) n hj l u = absurd (omega arith)

-- ---- chains

-- 1 and 3 in the chain of successors below 5, and what it is mapped to
chain_13 : Linked (λ i j. (j ≡ suc i) × (j < 5)) 1 3
chain_13 = via 2 (link {i = 1} {j = 2} (refl, omega arith)) (link {i = 2} {j = 3} (refl, omega arith))

-- one further on, in the chain below 6
mapped : Linked (λ i j. (j ≡ suc i) × (j < 6)) 2 4
mapped = map_linked suc (λ i j r. link (ap suc r.0, omega arith)) chain_13

-- backwards, within the numbers below 5
mapped_within : Linked (λ i j. i ≡ suc j) 1 3
mapped_within = map_within (λ i. i < 5) (λ i j r. (λ h. omega arith, λ h. omega arith)) (λ i j r h. back (link r.0))
    chain_13 (omega arith)

-- ---- one cycle of four, 1 3 2 4, among 1..5

-- what each goes to
abbrev nx : ℕ → ℕ
nx i = get_or (0 ∷ 3 ∷ 4 ∷ 2 ∷ 1 ∷ []) i 0

-- and comes from
abbrev pv : ℕ → ℕ
pv i = get_or (0 ∷ 4 ∷ 3 ∷ 1 ∷ 2 ∷ []) i 0

-- one label
abbrev lab : ℕ → ℕ
lab i = 1

-- the numbers in use
abbrev pub below : ℕ → Bool
below i = leb i 4

-- as a set
abbrev pub U : ℕ → Type 0
U = Used 5 below

-- a statement about each number in use
pub each : (P : ℕ → Type 0) → P 1 → P 2 → P 3 → P 4 → (i : ℕ) → U i → P i
each P a b c d zero u = absurd (omega (arith, u.0))
each P a b c d (suc zero) u = a
each P a b c d (suc (suc zero)) u = b
each P a b c d (suc (suc (suc zero))) u = c
each P a b c d (suc (suc (suc (suc zero)))) u = d
each P a b c d (suc (suc (suc (suc (suc i))))) u =
    absurd (omega (arith, leb→le (suc (suc (suc (suc (suc i))))) 4 u.2))

-- each of 1..4 is in use
pub use_of : (i : ℕ) → 1 ≤ i → T (leb i 4) → U i
use_of i l t = (l, omega (arith, leb→le i 4 t), t)

-- the tests compute
tests : T (all_step 5 below nx pv lab) × T (all_met 5 below nx (λ l. 1) lab)
unfolding all_step all_met all_to meets
tests = (tt, tt)

-- and the cycle follows from them
ring : Cycles 5 U nx lab
ring = cycles_of 5 below nx (λ l. 1) lab pv (λ i u. use_of 1 (omega arith) tt) tests.0 tests.1

-- and the tests from the cycle
tests_again : T (all_step 5 below nx pv lab) × T (all_met 5 below nx (λ l. 1) lab)
tests_again = of_cycles 5 below nx (λ l. 1) lab pv (λ i u. (use_of 1 (omega arith) tt, refl))
    (each (λ i. pv (nx i) ≡ i) refl refl refl refl) ring

-- the same cycle of functions that agree with it on the numbers in use
ring_again : Cycles 5 U (upd nx 5 7) (upd lab 5 7)
ring_again =
    agree ring (λ i u. u) (λ i u. u) (each (λ i. upd nx 5 7 i ≡ nx i) (upd_off nx 7 (omega arith))
    (upd_off nx 7 (omega arith)) (upd_off nx 7 (omega arith)) (upd_off nx 7 (omega arith)))
    (each (λ i. upd lab 5 7 i ≡ lab i) (upd_off lab 7 (omega arith)) (upd_off lab 7 (omega arith))
    (upd_off lab 7 (omega arith)) (upd_off lab 7 (omega arith)))

-- two of three numbers of 1..2 are equal
twice : Twice 2 (λ i. get_or (1 ∷ 2 ∷ 1 ∷ []) i 0)
twice = pigeonhole 2 _ h
  where
    h : (i : ℕ) → i ≤ 2 → (1 ≤ get_or (1 ∷ 2 ∷ 1 ∷ []) i 0) × (get_or (1 ∷ 2 ∷ 1 ∷ []) i 0 ≤ 2)
    h zero l = (omega arith, omega arith)
    h (suc zero) l = (omega arith, omega arith)
    h (suc (suc zero)) l = (omega arith, omega arith)
    h (suc (suc (suc i))) l = absurd (omega arith)

-- from 3 on, 3 is met again
back_again : (m : ℕ) × (iter nx m 2 ≡ 3)
back_again = comes_back ring.perm 3 (use_of 3 (omega arith) tt)

-- what is met after 90 steps is met in fewer than 5
soon_met : (k : ℕ) × (k < 5) × (k ≤ 90) × (iter nx k 1 ≡ iter nx 90 1)
soon_met = soon ring.perm 90 90 1 (omega arith) (use_of 1 (omega arith) tt)

-- pv undoes nx on the other side too
other_side : nx (pv 4) ≡ 4
other_side = redo ring.perm pv (each (λ i. pv (nx i) ≡ i) refl refl refl refl) 4 (use_of 4 (omega arith) tt)

-- what undoes nx is pv on the numbers in use, and stays there
only_pv : (g : ℕ → ℕ) → ((i : ℕ) → U i → g (nx i) ≡ i) → (g 4 ≡ 2) × U (g 4)
only_pv g h = (
  inverse_same ring.perm nx pv g (each (λ i. pv (nx i) ≡ i) refl refl refl refl) h (λ i u. refl) 4 (use_of 4
      (omega arith) tt),
  undo_in ring.perm g h 4 (use_of 4 (omega arith) tt),
)

-- ---- the six moves

-- 5 goes in after 1: 1 5 3 2 4
grown : Cycles 5 (Or 5 U) (ins nx 5 1) (upd lab 5 1)
grown = ins_cycles ring 5 1 (λ u. u.2) (omega arith) (omega arith) (use_of 1 (omega arith) tt)

-- 3, which comes after 1, goes out: 1 2 4
shrunk : Cycles 5 (But 3 U) (out nx 3 1) lab
shrunk = out_cycles ring 3 1 (use_of 1 (omega arith) tt) refl (omega arith)

-- the run from 3 up to 2 gets the label 2
abbrev lab2 : ℕ → ℕ
lab2 i = pick (leb 2 i && leb i 3) 2 1

-- on the run up to 2 are 3 and 2
run_32 : (i : ℕ) → U i → Till nx 1 2 i → lab2 i ≡ 2
run_32 = each (λ i. Till nx 1 2 i → lab2 i ≡ 2) at_1 (λ t. refl) (λ t. refl) at_4
  where
    at_1 : Till nx 1 2 1 → lab2 1 ≡ 2
    at_1 (stop e) = absurd (omega arith)
    at_1 (go h k t) = absurd (h refl)

    at_4 : Till nx 1 2 4 → lab2 4 ≡ 2
    at_4 (stop e) = absurd (omega arith)
    at_4 (go h k t) = absurd (omega (arith, at_1 t))

-- on the rest, up to 1, are 4 and 1
rest_41 : (i : ℕ) → U i → Till nx 2 1 i → lab2 i ≡ 1
rest_41 = each (λ i. Till nx 2 1 i → lab2 i ≡ 1) (λ t. refl) at_2 at_3 (λ t. refl)
  where
    at_2 : Till nx 2 1 2 → lab2 2 ≡ 1
    at_2 (stop e) = absurd (omega arith)
    at_2 (go h k t) = absurd (h refl)

    at_3 : Till nx 2 1 3 → lab2 3 ≡ 1
    at_3 (stop e) = absurd (omega arith)
    at_3 (go h k t) = absurd (omega (arith, at_2 t))

-- 1 and 2 exchange what they go to: two cycles, 1 4 and 3 2
halves : Cycles 5 U (xchg nx 1 2) lab2
halves = halve_cycles ring 1 2 2 lab2 (use_of 1 (omega arith) tt) (use_of 2 (omega arith) tt) (omega arith) refl
    (λ i u. omega arith) run_32 rest_41 (λ i u h. absurd (h refl))

-- and again: they are one
whole : Cycles 5 U (xchg (xchg nx 1 2) 1 2) (relabel lab2 2 1)
whole = merge_cycles halves 1 2 (use_of 1 (omega arith) tt) (use_of 2 (omega arith) tt) (omega arith)

-- 5 comes as a cycle of one with the label 9
born : Cycles 5 (Or 5 U) (upd nx 5 5) (upd lab 5 9)
born = birth ring (record {
  fresh = λ u. u.2;
  x_low = omega arith;
  x_high = omega arith;
  old = λ i u. inr u;
  new = inl refl;
  cases = λ i u. u;
  f_x = upd_same nx 5 5;
  f_o = λ i h. upd_off nx 5 h;
  lab_x = λ i u. omega (arith, upd_same lab 5 9);
  lab_o = λ i h. upd_off lab 9 h;
})

-- alone with its label
only_5 : (i : ℕ) → Or 5 U i → upd lab 5 9 i ≡ upd lab 5 9 5 → i ≡ 5
only_5 = alone born (inl refl) (upd_same nx 5 5)

-- and goes
gone : Cycles 5 (But 5 (Or 5 U)) (upd nx 5 5) (upd lab 5 9)
gone = death born (record {
  x_in = inl refl;
  f_x = upd_same nx 5 5;
  old = λ i u h. (u, h);
  in_old = λ i u. u.0;
  not_x = λ u. u.1 refl;
  f_o = λ i h. refl;
  lab_o = λ i h. refl;
})

-- ---- the run after 1 up to 4: 3 and 2

-- 2 is on the run, by the test
on_run : Till nx 1 2 2
unfolding first
on_run = run_yes ring (use_of 1 (omega arith) tt) (use_of 4 (omega arith) tt) (use_of 2 (omega arith) tt) refl
    (omega arith) refl 2 (use_of 2 (omega arith) tt) (omega arith) refl refl

-- 1 is not
off_run : Till nx 2 1 1
unfolding first
off_run = run_no ring (use_of 1 (omega arith) tt) (use_of 4 (omega arith) tt) (use_of 2 (omega arith) tt) refl
    (omega arith) refl 1 (use_of 1 (omega arith) tt) (omega arith) refl refl

-- two steps from 3 lead to 4
two_steps : iter nx 2 3 ≡ 4
unfolding iter
two_steps = refl

-- and not sooner
no_sooner : (t : ℕ) → t < 2 → iter nx t 3 ≢ 4
unfolding iter
no_sooner zero l = omega arith
no_sooner (suc zero) l = omega arith
no_sooner (suc (suc t)) l = absurd (omega arith)

-- the walk from 3 is on the run
walked : Till nx 1 4 3
unfolding iter
walked = walk_till ring (use_of 1 (omega arith) tt) (omega arith) 2 two_steps no_sooner 2 0 refl

-- and meets each of it
met : (t : ℕ) × (t < 2) × (iter nx t 3 ≡ 2)
met = till_walk ring (use_of 1 (omega arith) tt) (omega arith) 2 two_steps no_sooner 2 (use_of 2 (omega arith) tt)
    (omega arith) (go (omega arith) (omega arith) (stop refl))
