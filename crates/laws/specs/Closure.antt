-- Which of the items 1..n a chain of edges links to one of them, computed: mark it, and go n times over the edges; an
-- edge with one end marked gets the other one marked. What is marked in the end is what is linked.
use Rattle.std.specs.Prelude.{◌≡◌, ◌⊎◌, Bool, not, ◌&&◌, ◌||◌, List, set, replicate}
use Rattle.std.proofs.Math.Path.{refl, subst}
use Rattle.std.proofs.Common.{sym, ap, ◌∙◌}
use Rattle.std.proofs.Math.Logic.{inl, inr, ⊎_elim}
use Prim.Native.Nat.{ℕ, zero, suc, ◌+◌, ◌≤◌, ◌<◌}
use native.Mathlib.Omega.{arith}
use Rattle.std.proofs.Math.Dec.{T}
use Rattle.std.proofs.Math.ListN.{length, length-set, length-replicate}
use Rattle.laws.specs.Bools.{pick, T_true, true_T, ask, and_T, T_and, or_T, imp_T, T_imp, T_or_l, T_or_r, split}
use Rattle.laws.specs.Bools.{le?}
use Rattle.laws.specs.Search.{all_to, all_at, all_of}
use Rattle.laws.specs.Sums.{bit, count_to, sum_lt, count_le, count_tight}
use Rattle.laws.specs.Linked.{Linked, same, link, back, via, carry}
use Rattle.laws.specs.Walks.{Used}
use Rattle.laws.specs.Marks.{marked, is_marked, zeros_at, set_here, set_there, set_kept}

-- one of the edges U leads from g to h: a and b give the ends of each edge
abbrev pub Edge : (ℕ → Type 0) → (ℕ → ℕ) → (ℕ → ℕ) → ℕ → ℕ → Type 0
Edge U a b g h = (i : ℕ) × U i × (a i ≡ g) × (b i ≡ h)

-- edge i, if it is present and one of its ends is marked, gets both marked
unfoldable pub across : (ℕ → Bool) → (ℕ → ℕ) → (ℕ → ℕ) → ℕ → List ℕ → List ℕ
across present a b i ms = pick (present i && (marked ms (a i) || marked ms (b i))) (set (set ms (a i) 1) (b i) 1) ms

-- the edges 1 to m, in this order
unfoldable pub pass : (ℕ → Bool) → (ℕ → ℕ) → (ℕ → ℕ) → ℕ → List ℕ → List ℕ
pass present a b zero ms = ms
pass present a b (suc m) ms = across present a b (suc m) (pass present a b m ms)

-- k times over the edges
unfoldable pub rounds : (ℕ → Bool) → (ℕ → ℕ) → (ℕ → ℕ) → ℕ → ℕ → List ℕ → List ℕ
rounds present a b m zero ms = ms
rounds present a b m (suc k) ms = rounds present a b m k (pass present a b m ms)

-- of 0..n only x is marked
abbrev pub only_mark : ℕ → ℕ → List ℕ
only_mark n x = set (replicate (suc n) 0) x 1

-- y is linked to x, among n items
unfoldable pub linkedb : ℕ → ℕ → (ℕ → Bool) → (ℕ → ℕ) → (ℕ → ℕ) → ℕ → ℕ → Bool
linkedb n m present a b x y = marked (rounds present a b m n (only_mark n x)) y

-- each item in use is linked to its label's representative
unfoldable pub all_linked : ℕ → (ℕ → Bool) → ℕ → (ℕ → Bool) → (ℕ → ℕ) → (ℕ → ℕ) → (ℕ → ℕ) → (ℕ → ℕ) → Bool
all_linked n used m present a b rep lab = all_to n (λ g. not (used g) || linkedb n m present a b (rep (lab g)) g)

-- ---- one edge

module _ (present : ℕ → Bool) (a b : ℕ → ℕ) (i : ℕ) (ms : List ℕ) where
  -- the edge is gone across
  across_yes : T (present i) → T (marked ms (a i)) ⊎ T (marked ms (b i))
      → across present a b i ms ≡ set (set ms (a i) 1) (b i) 1
  unfolding across
  across_yes t s =
      rw (T_true {b = present i && (marked ms (a i) || marked ms (b i))}
      (T_and (present i) (marked ms (a i) || marked ms (b i)) t
      (⊎_elim (T_or_l (marked ms (a i)) (marked ms (b i))) (T_or_r (marked ms (a i)) (marked ms (b i))) s)))

  -- by cases: it is, or nothing happens
  across_is : (P : List ℕ → Type 0) → (T (present i) → T (marked ms (a i)) ⊎ T (marked ms (b i))
      → P (set (set ms (a i) 1) (b i) 1)) → P ms → P (across present a b i ms)
  unfolding across
  across_is P y n = ⊎_elim
      (λ e. let t = and_T (present i) (marked ms (a i) || marked ms (b i)) (true_T e) in
      rw e (y t.0 (or_T (marked ms (a i)) (marked ms (b i)) t.1)))
      (λ e. rw e n) (ask (present i && (marked ms (a i) || marked ms (b i))))

  -- it keeps the length
  across_length : length (across present a b i ms) ≡ length ms
  across_length = across_is (λ l. length l ≡ length ms) (λ t s. length-set (set ms (a i) 1) (b i) 1
      ∙ length-set ms (a i) 1) refl

  -- what is marked stays so
  across_kept : (g : ℕ) → T (marked ms g) → T (marked (across present a b i ms) g)
  across_kept g t = across_is (λ l. T (marked l g)) (λ p s. set_kept (set ms (a i) 1) (b i) g (set_kept ms (a i) g t)) t

  -- marks stay within any set that the edge does not lead out of
  across_within : (P : ℕ → Type 0) → (T (present i) → (P (a i) → P (b i)) × (P (b i) → P (a i)))
      → ((g : ℕ) → T (marked ms g) → P g) → (g : ℕ) → T (marked (across present a b i ms) g) → P g
  across_within P c h = across_is (λ l. (g : ℕ) → T (marked l g) → P g) (λ p s g t. new g t (ends p s)) h
    where
      ends : T (present i) → T (marked ms (a i)) ⊎ T (marked ms (b i)) → P (a i) × P (b i)
      ends p s = ⊎_elim (λ t. (h (a i) t, (c p).0 (h (a i) t))) (λ t. ((c p).1 (h (b i) t), h (b i) t)) s

      new : (g : ℕ) → T (marked (set (set ms (a i) 1) (b i) 1) g) → P (a i) × P (b i) → P g
      new g t e = split g (b i) (λ q. subst P (sym q) e.1) (λ q. split g (a i) (λ r. subst P (sym r) e.0)
          (λ r. h g (rw (set_there ms (a i) g r) at (rw (set_there (set ms (a i) 1) (b i) g q) at t))))

  -- an edge with one end marked has both marked after
  across_both : a i < length ms → b i < length ms → T (present i) → T (marked ms (a i)) ⊎ T (marked ms (b i))
      → T (marked (across present a b i ms) (a i)) × T (marked (across present a b i ms) (b i))
  across_both la lb t s =
      rw (across_yes t s) (
        set_kept (set ms (a i) 1) (b i) (a i) (set_here ms (a i) la),
        set_here (set ms (a i) 1) (b i) (omega (arith, length-set ms (a i) 1)),
      )

-- ---- all edges, once

module _ (present : ℕ → Bool) (a b : ℕ → ℕ) (ms : List ℕ) where
  -- a pass keeps the length
  pass_length : (m : ℕ) → length (pass present a b m ms) ≡ length ms
  unfolding pass
  pass_length zero = refl
  pass_length (suc m) = across_length present a b (suc m) (pass present a b m ms) ∙ pass_length m

  -- and the marks
  pass_kept : (m g : ℕ) → T (marked ms g) → T (marked (pass present a b m ms) g)
  unfolding pass
  pass_kept zero g t = t
  pass_kept (suc m) g t = across_kept present a b (suc m) (pass present a b m ms) g (pass_kept m g t)

  -- marks stay within any set that no edge leads out of
  pass_within : (m : ℕ) (P : ℕ → Type 0) → ((i : ℕ) → Used m present i → (P (a i) → P (b i)) × (P (b i) → P (a i)))
      → ((g : ℕ) → T (marked ms g) → P g) → (g : ℕ) → T (marked (pass present a b m ms) g) → P g
  unfolding pass
  pass_within zero P c h = h
  pass_within (suc m) P c h = across_within present a b (suc m) (pass present a b m ms) P
      (λ t. c (suc m) (omega arith, omega arith, t)) (pass_within m P (λ i u. c i (u.0, omega (arith, u.1), u.2)) h)

  -- an edge with one end marked has both marked after
  pass_both : (m i : ℕ) → a i < length ms → b i < length ms → Used m present i → T (marked ms (a i))
      ⊎ T (marked ms (b i)) → T (marked (pass present a b m ms) (a i)) × T (marked (pass present a b m ms) (b i))
  unfolding pass
  pass_both zero i la lb u s = absurd (omega (arith, u.0, u.1))
  pass_both (suc m) i la lb u s = split i (suc m) last
      (λ q. let r = pass_both m i la lb (u.0, omega (arith, u.1), u.2) s in (
        across_kept present a b (suc m) (pass present a b m ms) (a i) r.0,
        across_kept present a b (suc m) (pass present a b m ms) (b i) r.1,
      ))
    where
      last : i ≡ suc m → T (marked (across present a b (suc m) (pass present a b m ms)) (a i))
          × T (marked (across present a b (suc m) (pass present a b m ms)) (b i))
      last q = subst (λ k. T (marked (across present a b k (pass present a b m ms)) (a i))
          × T (marked (across present a b k (pass present a b m ms)) (b i))) q
          (across_both present a b i (pass present a b m ms) (omega (arith, pass_length m))
          (omega (arith, pass_length m)) u.2
          (⊎_elim (λ t. inl (pass_kept m (a i) t)) (λ t. inr (pass_kept m (b i) t)) s))

-- ---- n times

module _ (n m : ℕ) (present : ℕ → Bool) (a b : ℕ → ℕ) (ends : (i : ℕ) → Used m present i → (1 ≤ a i) × (a i ≤ n)
    × (1 ≤ b i) × (b i ≤ n)) where
  -- no edge has one end marked and one not
  abbrev Closed : List ℕ → Type 0
  Closed ms = (i : ℕ) → Used m present i → (T (marked ms (a i)) → T (marked ms (b i)))
      × (T (marked ms (b i)) → T (marked ms (a i)))

  -- once over the edges
  abbrev once : List ℕ → List ℕ
  once = pass present a b m

  -- k times
  abbrev times : ℕ → List ℕ → List ℕ
  times = rounds present a b m

  -- a pass that marks no more of 1..n than were marked has nothing to mark
  closed_by_count : (ms : List ℕ) → n < length ms → count_to n (marked (once ms)) ≤ count_to n (marked ms) → Closed ms
  closed_by_count ms long c i u =
      (λ t. down (b i) e.2 e.3 (both (inl t)).1, λ t. down (a i) e.0 e.1 (both (inr t)).0)
    where
      e : (1 ≤ a i) × (a i ≤ n) × (1 ≤ b i) × (b i ≤ n)
      e = ends i u

      both : T (marked ms (a i)) ⊎ T (marked ms (b i)) → T (marked (once ms) (a i)) × T (marked (once ms) (b i))
      both = pass_both present a b ms m i (omega (arith, e.1)) (omega (arith, e.3)) u

      down : (g : ℕ) → 1 ≤ g → g ≤ n → T (marked (once ms) g) → T (marked ms g)
      down = count_tight n (marked ms) (marked (once ms)) (λ g t. pass_kept present a b ms m g t) c

  -- after a closed marking nothing changes
  closed_once : (ms : List ℕ) → Closed ms → Closed (once ms)
  closed_once ms c i u = (λ t. up (b i) ((c i u).0 (down (a i) t)), λ t. up (a i) ((c i u).1 (down (b i) t)))
    where
      up : (g : ℕ) → T (marked ms g) → T (marked (once ms) g)
      up g t = pass_kept present a b ms m g t

      down : (g : ℕ) → T (marked (once ms) g) → T (marked ms g)
      down = pass_within present a b ms m (λ g. T (marked ms g)) c (λ g t. t)

  -- however often
  closed_times : (k : ℕ) (ms : List ℕ) → Closed ms → Closed (times k ms)
  unfolding rounds
  closed_times zero ms c = c
  closed_times (suc k) ms c = closed_times k (once ms) (closed_once ms c)

  -- k rounds: closed, or k more are marked
  stage : (k : ℕ) (ms : List ℕ) → n < length ms → Closed (times k ms)
      ⊎ (k + count_to n (marked ms) ≤ count_to n (marked (times k ms)))
  unfolding rounds
  stage zero ms long = inr (omega arith)
  stage (suc k) ms long = ⊎_elim
      (λ c. inl (closed_times (suc k) ms (closed_by_count ms long c)))
      (λ l. ⊎_elim (λ c. inl c) (λ g. inr (omega arith))
      (stage k (once ms) (omega (arith, pass_length present a b ms m))))
      (le? (count_to n (marked (once ms))) (count_to n (marked ms)))

  -- n rounds are enough
  rounds_closed : (ms : List ℕ) → n < length ms → 1 ≤ count_to n (marked ms) → Closed (times n ms)
  rounds_closed ms long l = ⊎_elim (λ c. c) (λ g. absurd (omega (arith, count_le n (marked (times n ms)))))
      (stage n ms long)

  -- what is marked stays marked
  rounds_kept : (k : ℕ) (ms : List ℕ) (g : ℕ) → T (marked ms g) → T (marked (times k ms) g)
  unfolding rounds
  rounds_kept zero ms g t = t
  rounds_kept (suc k) ms g t = rounds_kept k (once ms) g (pass_kept present a b ms m g t)

  -- and within any set that no edge leads out of
  rounds_within : (P : ℕ → Type 0) → ((i : ℕ) → Used m present i → (P (a i) → P (b i)) × (P (b i) → P (a i)))
      → (k : ℕ) (ms : List ℕ) → ((g : ℕ) → T (marked ms g) → P g) → (g : ℕ) → T (marked (times k ms) g) → P g
  unfolding rounds
  rounds_within P c zero ms h = h
  rounds_within P c (suc k) ms h = rounds_within P c k (once ms) (pass_within present a b ms m P c h)

  -- what the test says is linked is linked
  pub linked_sound : (x y : ℕ) → T (linkedb n m present a b x y) → Linked (Edge (Used m present) a b) x y
  unfolding linkedb
  linked_sound x y t = rounds_within (Linked (Edge (Used m present) a b) x) (λ i u. let l = link (i, u, refl, refl) in
      (λ p. via (a i) p l, λ p. via (b i) p (back l))) n (only_mark n x)
      (λ g s. split g x (λ e. same (sym e))
      (λ h. absurd (is_marked (replicate (suc n) 0) g (rw (set_there (replicate (suc n) 0) x g h) at s)
      (zeros_at (suc n) g)))) y t

  -- and what is linked is found
  pub linked_complete : (x y : ℕ) → 1 ≤ x → x ≤ n → Linked (Edge (Used m present) a b) x y
      → T (linkedb n m present a b x y)
  unfolding linkedb
  linked_complete x y lx hx l = (carry (λ g. T (marked (times n (only_mark n x)) g))
      (λ g h s. let c = rounds_closed (only_mark n x) (omega (arith, long)) one s.0 s.1 in (
        λ t. subst (λ k. T (marked (times n (only_mark n x)) k)) s.3 (c.0
            (subst (λ k. T (marked (times n (only_mark n x)) k)) (sym s.2) t)),
        λ t. subst (λ k. T (marked (times n (only_mark n x)) k)) s.2 (c.1
            (subst (λ k. T (marked (times n (only_mark n x)) k)) (sym s.3) t)),
      )) l).0 (rounds_kept n (only_mark n x) x here)
    where
      long : length (only_mark n x) ≡ suc n
      long = length-set (replicate (suc n) 0) x 1 ∙ length-replicate (suc n) 0

      here : T (marked (only_mark n x) x)
      here = set_here (replicate (suc n) 0) x (omega (arith, length-replicate {A = ℕ} (suc n) 0))

      one : 1 ≤ count_to n (marked (only_mark n x))
      one = omega (
        arith,
        sum_lt n (λ k. 0) (λ k. bit (marked (only_mark n x) k)) x lx hx (omega
            (arith, ap bit (T_true {b = marked (only_mark n x) x} here))) (λ k p q. omega arith),
      )

  -- ---- each label is one class

  module _ (used : ℕ → Bool) (rep lab : ℕ → ℕ) where
    -- if each is linked to its label's representative, those of one label are linked
    pub all_linked_lem : T (all_linked n used m present a b rep lab) → (g h : ℕ) → Used n used g → Used n used h
        → lab g ≡ lab h → Linked (Edge (Used m present) a b) g h
    unfolding all_linked
    all_linked_lem t g h u v e =
        via (rep (lab g)) (back (from g u)) (subst (λ l. Linked (Edge (Used m present) a b) (rep l) h) (sym e)
        (from h v))
      where
        from : (g : ℕ) → Used n used g → Linked (Edge (Used m present) a b) (rep (lab g)) g
        from g u = linked_sound (rep (lab g)) g (imp_T (used g) _ (all_at n _ t g u.0 u.1) u.2)

    -- and back, if each representative is one of its label
    pub linked_all : ((g : ℕ) → Used n used g → Used n used (rep (lab g)) × (lab (rep (lab g)) ≡ lab g))
        → ((g h : ℕ) → Used n used g → Used n used h → lab g ≡ lab h → Linked (Edge (Used m present) a b) g h)
        → T (all_linked n used m present a b rep lab)
    unfolding all_linked
    linked_all rooted one =
        all_of n _ (λ g l h. T_imp (used g) _ (λ t. let r = rooted g (l, h, t) in
        linked_complete (rep (lab g)) g r.0.0 r.0.1 (one (rep (lab g)) g r.0 (l, h, t) r.1)))
