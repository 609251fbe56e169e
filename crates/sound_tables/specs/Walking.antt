-- The walks of the operators, seen through the columns: a run given another loop, and the least half-edge of a loop. On
-- a permutation the fuel of 2E steps is enough for a run, and what is found for a loop is the least half-edge that
-- names it.
use Rattle.std.specs.Prelude.{◌≡◌, refl, ◌≢◌, ◌⊎◌, false, List, ℕ, zero, suc, ◌+◌, ◌-◌, ◌*◌, ◌≤◌, ◌<◌, ltb}
use Rattle.std.proofs.Common.{sym, ap, ◌∙◌, inl, inr, ⊎_elim, arith, lt→ltb, ltb→lt}
use Rattle.laws.specs.Bools.{pick, split, le?, T_true, T_false, eqb_same, eqb_other}
use Rattle.laws.specs.Update.{upd_same, upd_off}
use Rattle.laws.specs.Permutations.{iter, iter_add, iter_last, iter_in, comes_back, soon}
use Rattle.laws.specs.Cycles.{Cycles, forwards}
use Rattle.layout.specs.declared.shape.Shape.{Shape}
use Rattle.layout.specs.Layout.{loop_of, next_of}
use Rattle.euler.specs.Surgery.{relabel, passed, seek}
use Rattle.euler.specs.Passed.{passed_first, relabel_passed}
use Rattle.layout.specs.Fields.{Field, Loop, Next, Columns, change, same_field}
use Rattle.sound_tables.specs.Cells.{Shows, shows_put}
use Rattle.sound_tables.specs.Sound.{In}
use Rattle.sound_tables.specs.Labels.{least_with, LeastIs, label_found, label_some}

-- ---- how far it is

-- y is d steps from x, and not nearer
pub record Steps (f : ℕ → ℕ) (x y d : ℕ) : Type 0 where
  pub at : iter f d x ≡ y
  pub first : (t : ℕ) → t < d → iter f t x ≢ y

-- what is met at all is met a first time
pub first_hit : (f : ℕ → ℕ) (m x y : ℕ) → iter f m x ≡ y → (d : ℕ) × (d ≤ m) × Steps f x y d
unfolding iter
first_hit f zero x y e = (0, omega arith, record { at = e; first = λ t l. absurd (omega arith) })
first_hit f (suc m) x y e = split x y
    (λ q. (0, omega arith, record { at = q; first = λ t l. absurd (omega arith) }))
    (λ q. let r = first_hit f m (f x) y e in
    (suc r.0, omega (arith, r.1), record { at = r.2.at; first = later q r.2 }))
  where
    -- it was not met before
    later : {d : ℕ} → x ≢ y → Steps f (f x) y d → (t : ℕ) → t < suc d → iter f t x ≢ y
    later q s zero l = q
    later q s (suc t) l = s.first t (omega arith)

-- one step nearer
pub steps_on : (f : ℕ → ℕ) (x y d : ℕ) → Steps f x y (suc d) → (x ≢ y) × Steps f (f x) y d
unfolding iter
steps_on f x y d s = (s.first 0 (omega arith), record { at = s.at; first = λ t l. s.first (suc t) (omega arith) })

-- it is so far and no other way
pub steps_one : (f : ℕ → ℕ) (x y d e : ℕ) → Steps f x y d → Steps f x y e → d ≡ e
steps_one f x y d e s r = ⊎_elim (λ h. absurd (r.first d h s.at))
    (λ h. ⊎_elim (λ g. absurd (s.first e g r.at)) (λ g. omega (arith, g, h)) (le? (suc e) d)) (le? (suc d) e)

-- and none is met twice on the way
pub steps_apart : (f : ℕ → ℕ) (x y d : ℕ) → Steps f x y d → (t u : ℕ) → t < u → u < d → iter f t x ≢ iter f u x
steps_apart f x y d s t u h v e =
    let m : ℕ = d - u in
    let p : u + m ≡ d = omega arith in
    s.first (t + m) (omega arith)
    (iter_add f t m x ∙ ap (iter f m) e ∙ sym (iter_add f u m x) ∙ ap (λ n. iter f n x) p ∙ s.at)

-- ---- a run given another loop

-- the columns once d half-edges from k on name l
unfoldable pub run_columns : Columns → ℕ → ℕ → ℕ → Columns
run_columns c k zero l = c
run_columns c k (suc d) l = run_columns (change c Loop k l) (c Next k) d l

-- the links show them
pub shows_passed : (sh : Shape) (d : ℕ) (x : List ℕ) (c : Columns) (k l : ℕ) → Shows sh x c
    → ((t : ℕ) → t < d → In (2 * sh.edges) (iter (c Next) t k)) → Shows sh (passed sh d x k l) (run_columns c k d l)
unfolding passed run_columns iter
shows_passed sh zero x c k l s i = s
shows_passed sh (suc d) x c k l s i =
    let r = i 0 (omega arith) in
    rw (passed_first sh d x k l, s.at Next k r.1)
    (shows_passed sh d _ (change c Loop k l) (c Next k) l (shows_put s Loop k l r.0 r.1)
    (λ t b. i (suc t) (omega arith)))

-- the list leads the same way as the columns
same_way : (sh : Shape) (d : ℕ) (x : List ℕ) (c : Columns) (k : ℕ) → Shows sh x c
    → ((t : ℕ) → t < d → In (2 * sh.edges) (iter (c Next) t k)) → (t : ℕ) → t ≤ d → iter (next_of sh x) t k
    ≡ iter (c Next) t k
unfolding iter
same_way sh d x c k s i zero h = refl
same_way sh zero x c k s i (suc t) h = absurd (omega arith)
same_way sh (suc d) x c k s i (suc t) h =
    rw (s.at Next k (i 0 (omega arith)).1)
    (same_way sh d x c (c Next k) s (λ u b. i (suc u) (omega arith)) t (omega arith))

-- and so does what the whole walk leaves
pub shows_relabel : (sh : Shape) (n d : ℕ) (x : List ℕ) (c : Columns) (k stop l : ℕ) → Shows sh x c → d ≤ n
    → Steps (c Next) k stop d
    → ((t : ℕ) → t < d → In (2 * sh.edges) (iter (c Next) t k)) → Shows sh (relabel sh n x k stop l)
    (run_columns c k d l)
shows_relabel sh n d x c k stop l s h w i =
    let e = same_way sh d x c k s i in
    rw (relabel_passed sh n d x k stop l h (λ t b q. w.first t b (sym (e t (omega arith)) ∙ q))
    (inr (e d (omega arith) ∙ w.at))) (shows_passed sh d x c k l s i)

-- what names l goes on to do so
run_kept : (c : Columns) (d k l i : ℕ) → c Loop i ≡ l → run_columns c k d l Loop i ≡ l
unfolding run_columns
run_kept c zero k l i e = e
run_kept c (suc d) k l i e = run_kept (change c Loop k l) d (c Next k) l i
    (split i k (λ q. rw q (upd_same (c Loop) k l)) (λ q. upd_off (c Loop) l q ∙ e))

-- those met have l
pub run_met : (c : Columns) (d k l t : ℕ) → t < d → run_columns c k d l Loop (iter (c Next) t k) ≡ l
unfolding run_columns iter
run_met c zero k l t h = absurd (omega arith)
run_met c (suc d) k l zero h = run_kept (change c Loop k l) d (c Next k) l k (upd_same (c Loop) k l)
run_met c (suc d) k l (suc t) h = run_met (change c Loop k l) d (c Next k) l t (omega arith)

-- the others what they had
pub run_off : (c : Columns) (d k l i : ℕ) → ((t : ℕ) → t < d → iter (c Next) t k ≢ i) → run_columns c k d l Loop i
    ≡ c Loop i
unfolding run_columns iter
run_off c zero k l i h = refl
run_off c (suc d) k l i h =
    run_off (change c Loop k l) d (c Next k) l i (λ t b. h (suc t) (omega arith))
    ∙ upd_off (c Loop) l (λ e. h 0 (omega arith) (sym e))

-- and the other columns stay
pub run_other : (c : Columns) (d k l : ℕ) (F : Field) → same_field Loop F ≡ false → (n : ℕ) → run_columns c k d l F n
    ≡ c F n
unfolding run_columns
run_other c zero k l F e n = refl
run_other c (suc d) k l F e n = run_other (change c Loop k l) d (c Next k) l F e n ∙ rw e

-- ---- the least half-edge of a loop

-- r is the least of b and the d half-edges from k on
pub record LeastOf (f : ℕ → ℕ) (k d b r : ℕ) : Type 0 where
  pub start : r ≤ b
  pub below : (t : ℕ) → t < d → r ≤ iter f t k
  pub one : (r ≡ b) ⊎ ((t : ℕ) × (t < d) × (r ≡ iter f t k))

-- the smaller of two
smaller : (k b : ℕ) → (pick (ltb k b) k b ≤ k) × (pick (ltb k b) k b ≤ b)
    × ((pick (ltb k b) k b ≡ k) ⊎ (pick (ltb k b) k b ≡ b))
smaller k b = ⊎_elim
    (λ h. rw (T_true {b = ltb k b} (lt→ltb k b h)) (omega arith, omega arith, inl refl))
    (λ h. rw (T_false {b = ltb k b} (λ t. omega (arith, h, ltb→lt k b t))) (omega arith, omega arith, inr refl))
    (le? (suc k) b)

-- one step on, with the smaller of k and b for b
least_on : (f : ℕ → ℕ) (k d b r : ℕ) → LeastOf f k (suc d) b r → LeastOf f (f k) d (pick (ltb k b) k b) r
unfolding iter
least_on f k d b r g = record {
  start = under;
  below = λ t l. g.below (suc t) (omega arith);
  one =
      ⊎_elim (λ e. inl (omega (arith, under, (smaller k b).1, e))) (λ q. met q.0 q.1 q.2) g.one;
}
  where
    -- the least is not above the smaller
    under : r ≤ pick (ltb k b) k b
    under = ⊎_elim (λ q. omega (arith, q, g.below 0 (omega arith))) (λ q. omega (arith, q, g.start)) (smaller k b).2

    -- it is met one step later
    met : (t : ℕ) → t < suc d → r ≡ iter f t k → (r ≡ pick (ltb k b) k b) ⊎ ((t : ℕ) × (t < d) × (r ≡ iter f t (f k)))
    met zero l e = inl (omega (arith, under, (smaller k b).0, e))
    met (suc t) l e = inr (t, omega arith, e)

-- a number not above the least is the least where it names l, else it is below
tried : (sh : Shape) (x : List ℕ) (c : Columns) (l j r : ℕ) → Shows sh x c → 1 ≤ l
    → LeastIs (2 * sh.edges) (c Loop) l r → j ≤ r
    → ((loop_of sh x j ≡ l) × (j ≡ r)) ⊎ ((loop_of sh x j ≢ l) × (j + 1 ≤ r))
tried sh x c l j r s p m h = split (loop_of sh x j) l
    (λ e. inl (
      e,
      omega (
        arith,
        h,
        m.before j (above j e, omega (arith, h, m.range.1)) (sym (s.at Loop j (omega (arith, h, m.range.1))) ∙ e),
      ),
    ))
    (λ e. let d : j ≢ r = λ q. e (ap (loop_of sh x) q ∙ s.at Loop r m.range.1 ∙ m.label) in
    inr (e, omega (arith, h, d)))
  where
    -- number 0 names no loop
    above : (j : ℕ) → loop_of sh x j ≡ l → 1 ≤ j
    above zero e = absurd (omega (arith, p, e))
    above (suc j) e = omega arith

-- both searches end at the least: the numbers from j on, which it is among, and the walk from k to stop, which meets it
seek_is : (sh : Shape) (n d : ℕ) (x : List ℕ) (c : Columns) (l j k stop b r : ℕ) → Shows sh x c → 1 ≤ l
    → LeastIs (2 * sh.edges) (c Loop) l r → j ≤ r → b ≤ j + n
    → Steps (c Next) k stop d → ((t : ℕ) → t < d → In (2 * sh.edges) (iter (c Next) t k)) → LeastOf (c Next) k d b r
    → seek sh n x l j k stop b ≡ r
unfolding seek iter
seek_is sh zero d x c l j k stop b r s p m h v w i g = omega (arith, g.start, h, v)
seek_is sh (suc n) zero x c l j k stop b r s p m h v w i g = ⊎_elim
    (λ f. rw (eqb_same f.0) f.1)
    (λ f. rw (eqb_other f.0, eqb_same w.at) (⊎_elim sym (λ q. absurd (omega (arith, q.1))) g.one))
    (tried sh x c l j r s p m h)
seek_is sh (suc n) (suc d) x c l j k stop b r s p m h v w i g = ⊎_elim
    (λ f. rw (eqb_same f.0) f.1)
    (λ f.
    let o = steps_on (c Next) k stop d w in
    rw (eqb_other f.0, eqb_other o.0, s.at Next k (i 0 (omega arith)).1)
    (seek_is sh n d x c l (j + 1) (c Next k) stop (pick (ltb k b) k b) r s p m f.1
    (omega (arith, v, (smaller k b).1)) o.1 (λ t a. i (suc t) (omega arith)) (least_on (c Next) k d b r g)))
    (tried sh x c l j r s p m h)

-- labels are kept along the way
pub iter_keeps : {n : ℕ} {U : ℕ → Type 0} {f lab : ℕ → ℕ} → Cycles n U f lab → (t i : ℕ) → U i
    → lab (iter f t i) ≡ lab i
unfolding iter
iter_keeps c zero i w = refl
iter_keeps {f = f} c (suc t) i w = iter_keeps c t (f i) (c.perm.f_in i w) ∙ c.keeps i w

module _ {n : ℕ} {U : ℕ → Type 0} {f lab : ℕ → ℕ} (c : Cycles n U f lab) (k : ℕ) (u : U k) where
  -- it comes back in fewer than n steps
  pub way_round : (d : ℕ) × (d < n) × Steps f (f k) k d
  way_round =
      let b = comes_back c.perm k u in
      let s = soon c.perm b.0 b.0 (f k) (omega arith) (c.perm.f_in k u) in
      let r = first_hit f s.0 (f k) k (s.3 ∙ b.1) in
      (r.0, omega (arith, r.1, s.1), r.2)

  -- and meets all of its label on the way
  pub on_the_way : {d : ℕ} → Steps f (f k) k d → (j : ℕ) → U j → lab j ≡ lab k
      → (j ≡ k) ⊎ ((t : ℕ) × (t < d) × (iter f t (f k) ≡ j))
  on_the_way {d} s j w e =
      let m = forwards c.perm (c.one (f k) j (c.perm.f_in k u) w (c.keeps k u ∙ sym e)) in
      let r = first_hit f m.0.0 (f k) j m.0.1 in
      ⊎_elim (λ h. inr (r.0, h, r.2.at)) (λ h. split r.0 d
      (λ q. inl (sym r.2.at ∙ ap (λ t. iter f t (f k)) q ∙ s.at))
      (λ q.
      let p : suc d + (r.0 - suc d) ≡ r.0 = omega (arith, h, q) in
      absurd (r.2.first (r.0 - suc d) (omega (arith, h, q))
      (ap (iter f (r.0 - suc d)) (sym (iter_last f d (f k) ∙ ap f s.at))
      ∙ sym (iter_add f (suc d) (r.0 - suc d) (f k)) ∙ ap (λ t. iter f t (f k)) p ∙ r.2.at)))) (le? (suc r.0) d)

-- where the cycle of k is loop l and none below `low` names l, the least that names it is found, if the numbers up to k
-- may be tried
pub seek_first : (sh : Shape) (x : List ℕ) (c : Columns) (U : ℕ → Type 0) (l low k n : ℕ) → Shows sh x c
    → Cycles (2 * sh.edges) U (c Next) (c Loop) → 1 ≤ l → U k → c Loop k ≡ l
    → ((i : ℕ) → In (2 * sh.edges) i → c Loop i ≡ l → U i) → ((i : ℕ) → In (2 * sh.edges) i → c Loop i ≡ l → low ≤ i)
    → k ≤ low + n → seek sh n x l low (next_of sh x k) k k ≡ least_with (2 * sh.edges) (c Loop) l
seek_first sh x c U l low k n s y p u e all from h =
    let N = 2 * sh.edges in
    let P = y.perm in
    let d = way_round y k u in
    let fk = P.f_in k u in
    let i : (t : ℕ) → In N (iter (c Next) t (c Next k)) = λ t. let w = iter_in P t (c Next k) fk in
    (P.low _ w, P.high _ w) in
    let m : LeastIs N (c Loop) l (least_with N (c Loop) l) = label_found N (c Loop) l
    (label_some N (c Loop) l k (P.low k u, P.high k u) e) in
    let g : LeastOf (c Next) (c Next k) d.0 k (least_with N (c Loop) l) = record {
      start = m.before k (P.low k u, P.high k u) e;
      below = λ t a. m.before _ (i t) (iter_keeps y t (c Next k) fk ∙ y.keeps k u ∙ e);
      one = ⊎_elim inl (λ q. inr (q.0, q.1, sym q.2))
          (on_the_way y k u d.2 _ (all _ m.range m.label) (m.label ∙ sym e));
    } in
    ap (λ z. seek sh n x l low z k k) (s.at Next k (P.high k u))
    ∙ seek_is sh n d.0 x c l low (c Next k) k k _ s p m (from _ m.range m.label) h d.2 (λ t a. i t) g
