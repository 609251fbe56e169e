-- The numbers of loops stay right: one loop changes its face, so one number goes down by one and one goes up by one.
use Rattle.std.specs.Prelude.{◌≡◌, refl, ◌≢◌, ◌⊎◌, Bool, true, ◌&&◌, List, ℕ, zero, suc, ◌+◌, ◌-◌, ◌≤◌, ◌<◌, eqb, leb}
use Rattle.std.specs.Prelude.{ltb, ℤ, length, get_or, set}
use Rattle.std.proofs.Common.{sym, ap, ◌∙◌, inl, inr, arith, le→leb, lt→ltb, length-set, get_or-set_same}
use Rattle.std.proofs.Common.{get_or-set_other}
use Rattle.laws.specs.Bools.{pick_ind, split, T_true, T_and, eqb_same, eqb_other}
use Rattle.laws.specs.Sums.{sum_to, bit, count_to, sum_ext, count_le}
use Rattle.bounds.specs.Bounds.{item_places, most_items}
use Rattle.script.specs.declared.Operator.{Operator}
use Rattle.layout.specs.declared.shape.Shape.{Shape}
use Rattle.layout.specs.Layout.{loop_face}
use Rattle.euler.specs.Queries.{loops_in}
use Rattle.euler.specs.Exec.{links_after, refusal_of}
use Rattle.sound_tables.specs.Sound.{In}
use Rattle.sound_tables.specs.Good.{Good}
use Rattle.euler_counts.specs.Counts.{Counted, moved_loop, is_place, lowered, raised, counts_after}
use Rattle.sound_counts.specs.Moves.{others_stay, moved_in}

-- ---- sums

-- one term of 1..n changes: the sum changes by as much
change_in : (n : ℕ) (f g : ℕ → ℕ) (c : ℕ) → In n c → ((k : ℕ) → In n k → k ≢ c → f k ≡ g k)
    → sum_to n f + g c ≡ sum_to n g + f c
unfolding sum_to
change_in zero f g c i h = absurd (omega (arith, i.0, i.1))
change_in (suc n) f g c i h = split c (suc n)
    (λ e. omega (arith, sum_ext n f g (λ k a b. h k (a, omega arith) (omega arith)), ap f e, ap g e))
    (λ d. omega (
      arith,
      change_in n f g c (i.0, omega (arith, i.1)) (λ k j. h k (j.0, omega (arith, j.1))),
      h (suc n) (omega arith, omega arith) (λ q. d (sym q)),
    ))

-- what passes is counted
count_has : (n : ℕ) (q : ℕ → Bool) (c : ℕ) → In n c → bit (q c) ≤ count_to n q
unfolding sum_to
count_has zero q c i = absurd (omega (arith, i.0, i.1))
count_has (suc n) q c i = split c (suc n)
    (λ e. omega (arith, ap (λ k. bit (q k)) e))
    (λ d. omega (arith, count_has n q c (i.0, omega (arith, i.1))))

-- ---- one number less, one more

-- a face that a table can have has a place
place_yes : (f : ℕ) → 1 ≤ f → f ≤ most_items → is_place f ≡ true
place_yes f a b = T_true (T_and (leb 1 f) (leb f most_items) (le→leb 1 f a) (le→leb f most_items b))

-- one less: the list is as long
lowered_length : (c : List ℕ) (f : ℕ) → length (lowered c f) ≡ length c
unfolding lowered
lowered_length c f =
    pick_ind (λ (d : List ℕ). length d ≡ length c) (is_place f) (set c f (get_or c f 0 - 1)) c
    (length-set c f (get_or c f 0 - 1)) refl

-- one more: the list is as long
raised_length : (c : List ℕ) (f : ℕ) → length (raised c f) ≡ length c
unfolding raised
raised_length c f =
    pick_ind (λ (d : List ℕ). length d ≡ length c) (is_place f && ltb (get_or c f 0) 65535) (set c f (get_or c f 0 + 1))
    c
    (length-set c f (get_or c f 0 + 1)) refl

-- face a has one loop less, the others have as many
lowered_at : (c : List ℕ) (a f : ℕ) → length c ≡ item_places → 1 ≤ f → f ≤ most_items
    → get_or (lowered c a) f 0 ≡ get_or c f 0 - bit (eqb a f)
unfolding lowered
lowered_at c a f len l u = split a f
    (λ e. rw (e, place_yes f l u, eqb_same {m = f} refl) (get_or-set_same c f _ 0 (omega arith)))
    (λ d. rw (eqb_other d) (pick_ind (λ k. get_or k f 0 ≡ get_or c f 0 - 0) (is_place a) _ _
    (get_or-set_other c a f _ 0 (λ q. d (sym q)) ∙ omega arith) (omega arith)))

-- face b has one loop more, the others have as many; the number does not fill its word
raised_at : (c : List ℕ) (b f : ℕ) → length c ≡ item_places → 1 ≤ f → f ≤ most_items → get_or c f 0 < 65535
    → get_or (raised c b) f 0 ≡ get_or c f 0 + bit (eqb b f)
unfolding raised
raised_at c b f len l u s = split b f
    (λ e.
    let t : ltb (get_or c f 0) 65535 ≡ true = T_true (lt→ltb (get_or c f 0) 65535 s) in
    rw (e, place_yes f l u, t, eqb_same {m = f} refl) (get_or-set_same c f _ 0 (omega arith)))
    (λ d. rw (eqb_other d) (pick_ind (λ k. get_or k f 0 ≡ get_or c f 0 + 0) (is_place b && ltb (get_or c b 0) 65535) _ _
    (get_or-set_other c b f _ 0 (λ q. d (sym q)) ∙ omega arith) (omega arith)))

-- ---- after an operator

-- the list of numbers is as long as it was
pub counted_length : (sh : Shape) (x c : List ℕ) (o : Operator) → length (counts_after sh x c o) ≡ length c
unfolding counts_after
counted_length sh x c o = raised_length _ _ ∙ lowered_length c _

-- at most loop m changes its face: of a face's loops m is gone if it was one of them, and m has come if it is one now;
-- and if it was one, there was one at least
moved_count : (sh : Shape) (x y : List ℕ) (m f : ℕ) → 1 ≤ f → (m ≡ 0) ⊎ In sh.loops m
    → ((l : ℕ) → In sh.loops l → l ≢ m → loop_face sh y l ≡ loop_face sh x l)
    → (loops_in sh x f + bit (eqb (loop_face sh y m) f) ≡ loops_in sh y f + bit (eqb (loop_face sh x m) f))
    × (bit (eqb (loop_face sh x m) f) ≤ loops_in sh x f)
moved_count sh x y m f u (inl z) s =
    let e : loops_in sh x f ≡ loops_in sh y f =
    sum_ext sh.loops _ _ (λ l a b. ap (λ g. bit (eqb g f)) (sym (s l (a, b) (omega arith)))) in
    rw (z, eqb_other {m = 0} {n = f} (omega arith)) (ap (λ n. n + 0) e, omega arith)
moved_count sh x y m f u (inr i) s = (
  change_in sh.loops (λ l. bit (eqb (loop_face sh x l) f)) (λ l. bit (eqb (loop_face sh y l) f)) m i
      (λ l j d. ap (λ g. bit (eqb g f)) (sym (s l j d))),
  count_has sh.loops (λ l. eqb (loop_face sh x l) f) m i,
)

-- the numbers are right after an accepted operator where they were before it
pub counted_after : (sh : Shape) (x : List ℕ) (p : List ℤ) (c : List ℕ) (o : Operator) → Good sh x p
    → length o.args ≡ 8 → refusal_of sh x o ≡ 0 → length c ≡ item_places → Counted sh x c
    → Counted sh (links_after sh x o) (counts_after sh x c o)
unfolding counts_after
counted_after sh x p c o g len h k r = record {
  loops = λ f l u.
      let m = moved_loop sh x o in
      let y = links_after sh x o in
      let a = loop_face sh x m in
      let b = loop_face sh y m in
      let q = moved_count sh x y m f l (moved_in sh x p o g len h) (others_stay sh x p o g len h) in
      let e1 = lowered_at c a f k l u in
      let n : get_or (lowered c a) f 0 < 65535 =
      omega (arith, e1, r.loops f l u, count_le sh.loops (λ i. eqb (loop_face sh x i) f), g.capacities.loops.1) in
      let e2 = raised_at (lowered c a) b f (lowered_length c a ∙ k) l u n in
      omega (arith, e1, e2, q.0, q.1, r.loops f l u);
}
