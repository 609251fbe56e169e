-- A linear check that each label has one cycle. From each label's representative the walk marks what it meets and stops
-- at the first number that is marked; in the end the numbers marked are those that are met from their own
-- representative.
use Rattle.std.specs.Prelude.{◌≡◌, ◌≢◌, ◌⊎◌, Bool, not, ◌||◌, List, eqb, length, get_or, set, replicate}
use Rattle.std.proofs.Math.Path.{refl, sym, ap, subst}
use Rattle.std.proofs.Common.{◌∙◌, eqb→eq, T_not, get_or-set_same, get_or-set_other}
use Rattle.std.proofs.Math.Logic.{inl, inr, ⊎_elim}
use Prim.Native.Nat.{ℕ, zero, suc, ◌+◌, ◌≤◌, ◌<◌}
use native.Mathlib.Omega.{arith}
use Rattle.std.proofs.Math.Dec.{T, not_T}
use Rattle.std.proofs.Math.ListN.{length-set, get_or-eq_default}
use Rattle.laws.specs.Bools.{pick, le?, T_true, true_T, same_T, imp_same, split, eqb_same, eqb_other}
use Rattle.laws.specs.Search.{all_to, all_ext}
use Rattle.laws.specs.Permutations.{iter, iter_last, iter_in, Perm, soon}
use Rattle.laws.specs.Cycles.{Cycles}
use Rattle.laws.specs.Walks.{meets, meets_iter, met_soon, met_cycles, cycles_met, Used, all_met, met_at, met_of}

-- k is marked
abbrev pub marked : List ℕ → ℕ → Bool
marked marks k = not (eqb (get_or marks k 0) 0)

-- from k along f: mark what is not marked, and stop at the first that is, or when the fuel is used up
unfoldable pub mark_from : (ℕ → ℕ) → ℕ → ℕ → List ℕ → List ℕ
mark_from f zero k marks = marks
mark_from f (suc n) k marks = pick (eqb (get_or marks k 0) 0) (mark_from f n (f k) (set marks k 1)) marks

-- the same from a representative; 0 is none
unfoldable pub mark_rep : (ℕ → ℕ) → ℕ → ℕ → List ℕ → List ℕ
mark_rep f n r marks = pick (eqb r 0) marks (mark_from f n r marks)

-- from the representatives of the labels 1 to m, in this order
unfoldable pub mark_to : (ℕ → ℕ) → ℕ → (ℕ → ℕ) → ℕ → List ℕ → List ℕ
mark_to f n rep zero marks = marks
mark_to f n rep (suc m) marks = mark_rep f n (rep (suc m)) (mark_to f n rep m marks)

-- ---- the steps of the code, as equations

-- a marked number ends the walk
pub mark_stop : (f : ℕ → ℕ) (n k : ℕ) (marks : List ℕ) → get_or marks k 0 ≢ 0 → mark_from f n k marks ≡ marks
unfolding mark_from
mark_stop f zero k marks h = refl
mark_stop f (suc n) k marks h = rw (eqb_other h)

-- another one is marked, and the walk goes on
pub mark_on : (f : ℕ → ℕ) (n k : ℕ) (marks : List ℕ) → get_or marks k 0 ≡ 0 → mark_from f (suc n) k marks
    ≡ mark_from f n (f k) (set marks k 1)
unfolding mark_from
mark_on f n k marks h = rw (eqb_same h)

-- no representative, no walk
pub mark_none : (f : ℕ → ℕ) (n : ℕ) (rep : ℕ → ℕ) (m : ℕ) (marks : List ℕ) → rep (suc m) ≡ 0
    → mark_to f n rep (suc m) marks ≡ mark_to f n rep m marks
unfolding mark_to mark_rep
mark_none f n rep m marks e = rw (eqb_same e)

-- a representative, a walk
pub mark_some : (f : ℕ → ℕ) (n : ℕ) (rep : ℕ → ℕ) (m : ℕ) (marks : List ℕ) → rep (suc m) ≢ 0
    → mark_to f n rep (suc m) marks ≡ mark_from f n (rep (suc m)) (mark_to f n rep m marks)
unfolding mark_to mark_rep
mark_some f n rep m marks h = rw (eqb_other h)

-- a walk keeps the length
pub mark_from_length : (f : ℕ → ℕ) (n k : ℕ) (marks : List ℕ) → length (mark_from f n k marks) ≡ length marks
unfolding mark_from
mark_from_length f zero k marks = refl
mark_from_length f (suc n) k marks = split (get_or marks k 0) 0
    (λ e. ap length (mark_on f n k marks e) ∙ mark_from_length f n (f k) (set marks k 1) ∙ length-set marks k 1)
    (λ h. ap length (mark_stop f (suc n) k marks h))

-- and so do all
pub mark_to_length : (f : ℕ → ℕ) (n : ℕ) (rep : ℕ → ℕ) (m : ℕ) (marks : List ℕ) → length (mark_to f n rep m marks)
    ≡ length marks
unfolding mark_to
mark_to_length f n rep zero marks = refl
mark_to_length f n rep (suc m) marks = split (rep (suc m)) 0
    (λ e. ap length (mark_none f n rep m marks e) ∙ mark_to_length f n rep m marks)
    (λ h. ap length (mark_some f n rep m marks h) ∙ mark_from_length f n (rep (suc m)) (mark_to f n rep m marks)
    ∙ mark_to_length f n rep m marks)

-- ---- what one walk marks

-- marked: the word is not 0
pub is_marked : (marks : List ℕ) (k : ℕ) → T (marked marks k) → get_or marks k 0 ≢ 0
is_marked marks k t e = T_not (eqb (get_or marks k 0) 0) t (true_T (eqb_same e))

-- and back
pub mark_is : (marks : List ℕ) (k : ℕ) → get_or marks k 0 ≢ 0 → T (marked marks k)
mark_is marks k h = not_T (eqb (get_or marks k 0) 0) (λ t. h (eqb→eq _ _ t))

-- nothing is marked at first
pub zeros_at : (n i : ℕ) → ◌≡◌ {A = ℕ} (get_or (replicate n 0) i 0) 0
zeros_at zero i = refl
zeros_at (suc n) zero = refl
zeros_at (suc n) (suc i) = zeros_at n i

-- after a mark more, k is marked
pub set_here : (marks : List ℕ) (k : ℕ) → k < length marks → T (marked (set marks k 1) k)
set_here marks k l = mark_is (set marks k 1) k (λ e. omega (arith, get_or-set_same marks k 1 0 l))

-- another number is marked as before
pub set_there : (marks : List ℕ) (k z : ℕ) → z ≢ k → marked (set marks k 1) z ≡ marked marks z
set_there marks k z h = rw (get_or-set_other marks k z 1 0 h)

-- and what was marked stays so
pub set_kept : (marks : List ℕ) (k z : ℕ) → T (marked marks z) → T (marked (set marks k 1) z)
set_kept marks k z t = split z k (λ e. rw e (set_here marks k (subst (λ i. i < length marks) e within)))
    (λ h. rw (set_there marks k z h) t)
  where
    within : z < length marks
    within = ⊎_elim (λ l. absurd (is_marked marks z t (get_or-eq_default marks 0 l))) (λ l. l) (le? (length marks) z)

module _ (f : ℕ → ℕ) where
  -- what is marked after the walk was marked before or is met
  pub mark_sound : (n k z : ℕ) (marks : List ℕ) → T (marked (mark_from f n k marks) z) → T (marked marks z)
      ⊎ ((j : ℕ) × (iter f j k ≡ z))
  unfolding mark_from iter
  mark_sound zero k z marks t = inl t
  mark_sound (suc n) k z marks t = split (get_or marks k 0) 0
      (λ e. ⊎_elim (λ s. split z k (λ q. inr (0, sym q)) (λ h. inl (rw (set_there marks k z h) at s)))
      (λ s. inr (suc s.0, s.1))
      (mark_sound n (f k) z (set marks k 1) (rw (mark_on f n k marks e) at t)))
      (λ h. inl (rw (mark_stop f (suc n) k marks h) at t))

  -- and what was marked before still is
  pub mark_kept : (n k z : ℕ) (marks : List ℕ) → T (marked marks z) → T (marked (mark_from f n k marks) z)
  unfolding mark_from
  mark_kept zero k z marks t = t
  mark_kept (suc n) k z marks t = split (get_or marks k 0) 0
      (λ e. rw (mark_on f n k marks e) (mark_kept n (f k) z (set marks k 1) (set_kept marks k z t)))
      (λ h. rw (mark_stop f (suc n) k marks h) t)

module _ {n : ℕ} {U : ℕ → Type 0} {f : ℕ → ℕ} (p : Perm n U f) (r : ℕ) (u : U r) where
  -- the t steps so far are marked, and of the cycle nothing else is: the rest of the walk marks the whole cycle
  mark_rest : (fuel t : ℕ) (marks : List ℕ) → t + fuel ≡ n → n < length marks
      → ((j : ℕ) → j < t → T (marked marks (iter f j r)))
      → ((j : ℕ) → T (marked marks (iter f j r)) → (i : ℕ) × (i < t) × (iter f i r ≡ iter f j r)) → (j : ℕ)
      → T (marked (mark_from f fuel (iter f t r) marks) (iter f j r))
  unfolding mark_from iter
  mark_rest zero t marks e long done only j = let s = soon p j j r (omega arith) u in
      subst (λ z. T (marked marks z)) s.3 (done s.0 (omega (arith, s.1)))
  mark_rest (suc fuel) t marks e long done only j = split (get_or marks (iter f t r) 0) 0
      (λ z. fresh z (mark_rest fuel (suc t) (set marks (iter f t r) 1) (omega arith)
      (omega (arith, length-set marks (iter f t r) 1))))
      (λ h. rw (mark_stop f (suc fuel) (iter f t r) marks h) (closed (mark_is marks (iter f t r) h) j))
    where
      -- the walk is back where it began: all of the cycle is marked
      closed : T (marked marks (iter f t r)) → (j : ℕ) → T (marked marks (iter f j r))
      closed now zero = split t 0 (λ z. subst (λ i. T (marked marks (iter f i r))) z now) (λ z. done 0 (omega arith))
      closed now (suc j) =
          let s = only j (closed now j) in
          subst (λ z. T (marked marks z)) (iter_last f s.0 r ∙ ap f s.2 ∙ sym (iter_last f j r))
          (split (suc s.0) t (λ q. subst (λ i. T (marked marks (iter f i r))) (sym q) now)
          (λ q. done (suc s.0) (omega (arith, s.1))))

      -- one step further
      fresh : get_or marks (iter f t r) 0 ≡ 0
          → (((j : ℕ) → j < suc t → T (marked (set marks (iter f t r) 1) (iter f j r)))
          → ((j : ℕ) → T (marked (set marks (iter f t r) 1) (iter f j r)) → (i : ℕ) × (i < suc t)
          × (iter f i r ≡ iter f j r))
          → (j : ℕ) → T (marked (mark_from f fuel (iter f (suc t) r) (set marks (iter f t r) 1)) (iter f j r)))
          → T (marked (mark_from f (suc fuel) (iter f t r) marks) (iter f j r))
      fresh z ih =
          rw (mark_on f fuel (iter f t r) marks z)
          (subst (λ k. T (marked (mark_from f fuel k (set marks (iter f t r) 1)) (iter f j r))) (iter_last f t r) (ih
          (λ i l. split (iter f i r) (iter f t r)
          (λ q. rw q (set_here marks (iter f t r) (omega (arith, p.high _ (iter_in p t r u)))))
          (λ q. let d : i ≢ t = λ e. q (ap (λ k. iter f k r) e) in
          rw (set_there marks (iter f t r) (iter f i r) q) (done i (omega arith))))
          (λ i m. split (iter f i r) (iter f t r) (λ q. (t, omega arith, sym q)) (λ q. let s =
          only i (rw (set_there marks (iter f t r) (iter f i r) q) at m) in (s.0, omega (arith, s.1), s.2)))
          j))

  -- a walk over a cycle of which nothing is marked marks all of it
  pub mark_cycle : (marks : List ℕ) → n < length marks → ((j : ℕ) → T (marked marks (iter f j r)) → ⊥) → (j : ℕ)
      → T (marked (mark_from f n r marks) (iter f j r))
  unfolding iter
  mark_cycle marks long none j = mark_rest n 0 marks (omega arith) long (λ i l. absurd (omega arith))
      (λ i t. absurd (none i t)) j

-- ---- what all walks mark

-- k is met from its label's representative
abbrev pub Met : (ℕ → ℕ) → (ℕ → ℕ) → (ℕ → ℕ) → ℕ → Type 0
Met f rep lab k = (j : ℕ) × (iter f j (rep (lab k)) ≡ k)

-- labels are of 1..m, each label in use has a representative in use, of that label; f permutes the numbers in use and
-- keeps labels
pub record Labelled (n m : ℕ) (U : ℕ → Type 0) (f rep lab : ℕ → ℕ) : Type 0 where
  pub perm : Perm n U f
  pub keeps : (i : ℕ) → U i → lab (f i) ≡ lab i
  pub lab_low : (i : ℕ) → U i → 1 ≤ lab i
  pub lab_high : (i : ℕ) → U i → lab i ≤ m
  pub has_rep : (i : ℕ) → U i → rep (lab i) ≢ 0
  pub rep_in : (l : ℕ) → 1 ≤ l → l ≤ m → rep l ≢ 0 → U (rep l) × (lab (rep l) ≡ l)

module _ {n m : ℕ} {U : ℕ → Type 0} {f rep lab : ℕ → ℕ} (h : Labelled n m U f rep lab) where
  -- steps keep labels
  iter_keeps : (j x : ℕ) → U x → lab (iter f j x) ≡ lab x
  unfolding iter
  iter_keeps zero x u = refl
  iter_keeps (suc j) x u = iter_keeps j (f x) (h.perm.f_in x u) ∙ h.keeps x u

  -- the representative of a label in use is in use and of that label
  rep_of : (i : ℕ) → U i → U (rep (lab i)) × (lab (rep (lab i)) ≡ lab i)
  rep_of i u = h.rep_in (lab i) (h.lab_low i u) (h.lab_high i u) (h.has_rep i u)

  -- after the walks of the labels 1 to l, those numbers of these labels are marked that are met
  abbrev Done : ℕ → List ℕ → Type 0
  Done l marks = ((k : ℕ) → U k → T (marked marks k) → (lab k ≤ l) × Met f rep lab k)
      × ((k : ℕ) → U k → lab k ≤ l → Met f rep lab k → T (marked marks k))

  -- one label more
  done_step : (l : ℕ) (marks : List ℕ) → suc l ≤ m → n < length marks → Done l marks
      → Done (suc l) (mark_rep f n (rep (suc l)) marks)
  unfolding mark_rep
  done_step l marks b long d = split (rep (suc l)) 0
      (λ z. rw (eqb_same z) (
        λ k u t. let r = d.0 k u t in (omega (arith, r.0), r.1),
        λ k u c g. d.1 k u (below k u c (λ e. h.has_rep k u (ap rep e ∙ z))) g,
      ))
      (λ q. rw (eqb_other q) (walked (h.rep_in (suc l) (omega arith) b q)))
    where
      below : (k : ℕ) → U k → lab k ≤ suc l → lab k ≢ suc l → lab k ≤ l
      below k u c e = omega arith

      walked : U (rep (suc l)) × (lab (rep (suc l)) ≡ suc l) → Done (suc l) (mark_from f n (rep (suc l)) marks)
      walked v = (
        λ k u t. ⊎_elim (λ s. let r = d.0 k u s in
            (omega (arith, r.0), r.1)) (λ s. met k s.0 s.1) (mark_sound f n (rep (suc l)) k marks t),
        λ k u c g. split (lab k) (suc l)
            (λ e. subst (λ z. T (marked (mark_from f n (rep (suc l)) marks) z)) (ap (λ i. iter f g.0 (rep i)) (sym e)
            ∙ g.1) (mark_cycle h.perm (rep (suc l)) v.0 marks long none g.0))
            (λ e. mark_kept f n (rep (suc l)) k marks (d.1 k u (below k u c e) g)),
      )
        where
          met : (k j : ℕ) → iter f j (rep (suc l)) ≡ k → (lab k ≤ suc l) × Met f rep lab k
          met k j e =
              let q : lab k ≡ suc l = ap lab (sym e) ∙ iter_keeps j (rep (suc l)) v.0 ∙ v.1 in
              (omega arith, (j, ap (λ i. iter f j (rep i)) q ∙ e))

          none : (j : ℕ) → T (marked marks (iter f j (rep (suc l)))) → ⊥
          none j t =
              let q : lab (iter f j (rep (suc l))) ≡ suc l = iter_keeps j (rep (suc l)) v.0 ∙ v.1 in
              omega (arith, (d.0 (iter f j (rep (suc l))) (iter_in h.perm j (rep (suc l)) v.0) t).0)

  -- all labels
  done_all : (marks : List ℕ) → n < length marks → ((k : ℕ) → k ≤ n → get_or marks k 0 ≡ 0) → (l : ℕ) → l ≤ m
      → Done l (mark_to f n rep l marks)
  unfolding mark_to
  done_all marks long clean zero b = (
    λ k u t. absurd (is_marked marks k t (clean k (h.perm.high k u))),
    λ k u l g. absurd (omega (arith, h.lab_low k u)),
  )
  done_all marks long clean (suc l) b =
      done_step l (mark_to f n rep l marks) b (omega (arith, mark_to_length f n rep l marks))
      (done_all marks long clean l (omega arith))

  -- a number in use is marked in the end exactly if it is met from its label's representative within n steps
  pub marks_meet : (marks : List ℕ) → n < length marks → ((k : ℕ) → k ≤ n → get_or marks k 0 ≡ 0) → (k : ℕ) → U k
      → marked (mark_to f n rep m marks) k ≡ meets f n (rep (lab k)) k
  marks_meet marks long clean k u = same_T
      (λ t. let g = (done.0 k u t).1 in true_T (met_soon h.perm (rep_of k u).0 g.0 g.1))
      (λ t. let g = meets_iter f n (rep (lab k)) k (T_true t) in done.1 k u (h.lab_high k u) (g.0, g.2))
    where
      done : Done m (mark_to f n rep m marks)
      done = done_all marks long clean m (omega arith)

-- ---- the test over all numbers of 1..n that are in use

-- each number in use is marked: the test of the code
unfoldable pub all_marked : ℕ → (ℕ → Bool) → List ℕ → Bool
all_marked n used marks = all_to n (λ k. not (used k) || marked marks k)

-- the two are one
pub marked_met : (n m : ℕ) (used : ℕ → Bool) (f rep lab : ℕ → ℕ) (marks : List ℕ) → Labelled n m (Used n used) f rep lab
    → n < length marks → ((k : ℕ) → k ≤ n → get_or marks k 0 ≡ 0)
    → all_marked n used (mark_to f n rep m marks) ≡ all_met n used f rep lab
unfolding all_marked all_met
marked_met n m used f rep lab marks h long clean =
    all_ext n _ _ (λ k l u. imp_same (used k) (λ v. marks_meet h marks long clean k (l, u, v)))

-- the readable test says what `Cycles` says of one cycle for each label
pub met_all_cycles : (n m : ℕ) (used : ℕ → Bool) (f rep lab : ℕ → ℕ) → Labelled n m (Used n used) f rep lab
    → T (all_met n used f rep lab) → Cycles n (Used n used) f lab
met_all_cycles n m used f rep lab h t = met_cycles h.perm h.keeps rep (λ i u. (rep_of h i u).0)
    (met_at n used f rep lab t)

-- and back
pub cycles_all_met : (n m : ℕ) (used : ℕ → Bool) (f rep lab : ℕ → ℕ) → Labelled n m (Used n used) f rep lab
    → Cycles n (Used n used) f lab → T (all_met n used f rep lab)
cycles_all_met n m used f rep lab h c = met_of n used f rep lab (cycles_met c rep (rep_of h))
