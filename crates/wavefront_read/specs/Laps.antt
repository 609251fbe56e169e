-- One lap along a permutation (`lap` of crate wavefront): the cycle of a number, each of it once, from that number on.
-- Along what undoes the permutation it is the same lap turned round.
use Rattle.std.specs.Prelude.{◌≡◌, ◌≢◌, ◌↔◌, ◌⊎◌}
use Rattle.std.proofs.Math.Path.{refl, sym, ap, subst}
use Rattle.std.proofs.Common.{◌∙◌, inl, inr, ⊎_elim}
use mathlib.Core.List.{List, [], ◌∷◌, ◌++◌, append-nil, map, reverse, reverse_aux}
use Prim.Native.Nat.{ℕ, zero, suc, ◌-◌, ◌≤◌, ◌<◌}
use native.Mathlib.Omega.{arith}
use Rattle.std.proofs.Math.ListN.{length, get_or}
use Rattle.std.proofs.lemmas.List.{length-reverse}
use Rattle.laws.specs.Bools.{eqb_same, eqb_other}
use Rattle.laws.specs.Permutations.{iter, iter_last, Perm, inj, iter_in, redo, undo_in}
use Rattle.laws.specs.Cycles.{Cycles}
use Rattle.sound_tables.specs.Walking.{Steps, steps_on, iter_keeps, way_round, on_the_way}
use Rattle.wavefront.specs.Obj.{lap}

-- ---- lists

-- k is one of a list
abbrev pub Among : ℕ → List ℕ → Type 0
Among k [] = ⊥
Among k (a ∷ l) = (k ≡ a) ⊎ Among k l

-- no two of a list are equal
abbrev pub Different : List ℕ → Type 0
Different [] = Unit {0}
Different (a ∷ l) = (Among a l → ⊥) × Different l

-- the first of a list, then the others from the last on
abbrev pub turn_round : List ℕ → List ℕ
turn_round [] = []
turn_round (a ∷ l) = a ∷ reverse l

-- what is among a list put backwards in front of another is among one of them
among_either : (k : ℕ) (l r : List ℕ) → Among k (reverse_aux l r) → Among k l ⊎ Among k r
among_either k [] r h = inr h
among_either k (a ∷ l) r h = ⊎_elim (λ i. inl (inr i)) (⊎_elim (λ e. inl (inl e)) inr) (among_either k l (a ∷ r) h)

-- and back
either_among : (k : ℕ) (l r : List ℕ) → Among k l ⊎ Among k r → Among k (reverse_aux l r)
either_among k [] r h = ⊎_elim absurd (λ i. i) h
either_among k (a ∷ l) r h =
    either_among k l (a ∷ r) (⊎_elim (⊎_elim (λ e. inr (inl e)) inl) (λ i. inr (inr i)) h)

-- turned round, a list has the same numbers
pub turn_among : (k : ℕ) (l : List ℕ) → Among k l → Among k (turn_round l)
turn_among k [] h = h
turn_among k (a ∷ l) h = ⊎_elim inl (λ i. inr (either_among k l [] (inl i))) h

-- and no others
pub among_turn : (k : ℕ) (l : List ℕ) → Among k (turn_round l) → Among k l
among_turn k [] h = h
among_turn k (a ∷ l) h = ⊎_elim inl (λ i. inr (⊎_elim (λ j. j) absurd (among_either k l [] i))) h

-- a map goes through a list put backwards in front of another
map_back : (h : ℕ → ℕ) (l r : List ℕ) → map h (reverse_aux l r) ≡ reverse_aux (map h l) (map h r)
map_back h [] r = refl
map_back h (a ∷ l) r = map_back h l (a ∷ r)

-- so it goes through a turn
pub map_turn : (h : ℕ → ℕ) (l : List ℕ) → map h (turn_round l) ≡ turn_round (map h l)
map_turn h [] = refl
map_turn h (a ∷ l) = ap (λ r. h a ∷ r) (map_back h l [])

-- as many
pub turn_length : (l : List ℕ) → length (turn_round l) ≡ length l
turn_length [] = refl
turn_length (a ∷ l) = ap suc (length-reverse l)

-- ---- so many steps

-- k, f k and so on: m numbers
unfoldable pub walk : (ℕ → ℕ) → ℕ → ℕ → List ℕ
walk f zero k = []
walk f (suc m) k = k ∷ walk f m (f k)

-- they are m
walk_length : (f : ℕ → ℕ) (m k : ℕ) → length (walk f m k) ≡ m
unfolding walk
walk_length f zero k = refl
walk_length f (suc m) k = ap suc (walk_length f m (f k))

-- each is so many steps away
walk_steps : (f : ℕ → ℕ) (m k j : ℕ) → Among j (walk f m k) → (t : ℕ) × (t < m) × (iter f t k ≡ j)
unfolding walk iter
walk_steps f zero k j h = absurd h
walk_steps f (suc m) k j h = ⊎_elim (λ e. (0, omega arith, sym e))
    (λ i. let r = walk_steps f m (f k) j i in (suc r.0, omega (arith, r.1), r.2)) h

-- and what is fewer than m steps away is one of them
steps_walk : (f : ℕ → ℕ) (m k t j : ℕ) → t < m → iter f t k ≡ j → Among j (walk f m k)
unfolding walk iter
steps_walk f zero k t j h e = absurd (omega arith)
steps_walk f (suc m) k zero j h e = inl (sym e)
steps_walk f (suc m) k (suc t) j h e = inr (steps_walk f m (f k) t j (omega arith) e)

-- the one at place i is i steps away
walk_at : (f : ℕ → ℕ) (m k i : ℕ) → i < m → get_or (walk f m k) i 0 ≡ iter f i k
unfolding walk iter
walk_at f zero k i h = absurd (omega arith)
walk_at f (suc m) k zero h = refl
walk_at f (suc m) k (suc i) h = walk_at f m (f k) i (omega arith)

-- the last of them by itself
walk_last : (f : ℕ → ℕ) (m k : ℕ) (r : List ℕ) → walk f (suc m) k ++ r ≡ walk f m k ++ (iter f m k ∷ r)
unfolding walk iter
walk_last f zero k r = refl
walk_last f (suc m) k r = ap (λ l. k ∷ l) (walk_last f m (f k) r)

-- one lap is the walk up to the return
lap_walk : (f : ℕ → ℕ) (a n d k : ℕ) → d < n → Steps f (f k) a d → lap f a n k ≡ walk f (suc d) k
unfolding lap walk iter
lap_walk f a zero d k h s = absurd (omega arith)
lap_walk f a (suc n) zero k h s = rw (eqb_same s.at)
lap_walk f a (suc n) (suc d) k h s =
    let o = steps_on f (f k) a d s in
    rw (eqb_other o.0) (ap (λ l. k ∷ l) (lap_walk f a n d (f k) (omega arith) o.1))

-- ---- on a permutation

module _ {n : ℕ} {U : ℕ → Type 0} {f : ℕ → ℕ} (p : Perm n U f) where
  -- up to the return no number comes twice
  walk_different : (m k : ℕ) → U k → ((t : ℕ) → 1 ≤ t → t < m → iter f t k ≢ k) → Different (walk f m k)
  unfolding walk iter
  walk_different zero k u h = tt
  walk_different (suc m) k u h = (
    λ i. let r = walk_steps f m (f k) k i in h (suc r.0) (omega arith) (omega (arith, r.1)) r.2,
    walk_different m (f k) (p.f_in k u)
        (λ t a b e. h t a (omega arith) (inj p (iter_in p t k u) u (sym (iter_last f t k) ∙ e))),
  )

  module _ (g : ℕ → ℕ) (gf : (i : ℕ) → U i → g (f i) ≡ i) where
    -- so many steps on and back again
    iter_back : (t k : ℕ) → U k → iter g t (iter f t k) ≡ k
    unfolding iter
    iter_back zero k u = refl
    iter_back (suc t) k u =
        iter_last g t (iter f t (f k)) ∙ ap g (iter_back t (f k) (p.f_in k u)) ∙ gf k u

    -- the same, back first
    iter_on : (t k : ℕ) → U k → iter f t (iter g t k) ≡ k
    unfolding iter
    iter_on zero k u = refl
    iter_on (suc t) k u =
        iter_last f t (iter g t (g k)) ∙ ap f (iter_on t (g k) (undo_in p g gf k u)) ∙ redo p g gf k u

    -- the walk behind k, backwards, is a walk along g
    walk_back : (m k : ℕ) (r : List ℕ) → U k → reverse_aux (walk f m (f k)) r ≡ walk g m (iter f m k) ++ r
    unfolding walk iter
    walk_back zero k r u = refl
    walk_back (suc m) k r u =
        let v = p.f_in k u in
        walk_back m (f k) (f k ∷ r) v ∙ ap (λ j. walk g m (iter f m (f k)) ++ (j ∷ r)) (sym (iter_back m (f k) v))
        ∙ sym (walk_last g m (iter f m (f k)) r)

-- ---- one lap

module _ {n : ℕ} {U : ℕ → Type 0} {f lab : ℕ → ℕ} (c : Cycles n U f lab) (a : ℕ) (u : U a) where
  -- along f it comes back to a after d + 1 steps, at most n, and not before, and the lap is those d + 1 numbers
  pub lap_is : (d : ℕ) × (d < n) × Steps f (f a) a d × (lap f a n a ≡ walk f (suc d) a)
  lap_is = let w = way_round c a u in (w.0, w.1, w.2, lap_walk f a n w.0 a w.1 w.2)

  -- so it begins with a, from each place f leads to the next place, and from the last one to the first
  pub lap_order : (get_or (lap f a n a) 0 0 ≡ a)
      × ((i : ℕ) → suc i < length (lap f a n a) → get_or (lap f a n a) (suc i) 0 ≡ f (get_or (lap f a n a) i 0))
      × (f (get_or (lap f a n a) (length (lap f a n a) - 1) 0) ≡ a)
  unfolding iter
  lap_order =
      let w = lap_is in
      let d = w.0 in
      let at : (i : ℕ) → i < suc d → get_or (walk f (suc d) a) i 0 ≡ iter f i a = walk_at f (suc d) a in
      let last : suc d - 1 ≡ d = omega arith in
      rw (w.3, walk_length f (suc d) a, last) (
        at 0 (omega arith),
        λ i h. at (suc i) h ∙ iter_last f i a ∙ ap f (sym (at i (omega arith))),
        ap f (at d (omega arith)) ∙ sym (iter_last f d a) ∙ w.2.at,
      )

  -- no number comes twice
  pub lap_different : Different (lap f a n a)
  unfolding iter
  lap_different = let w = lap_is in
      subst Different (sym w.3) (walk_different c.perm (suc w.0) a u (earlier w.2))
    where
      -- it does not come back before
      earlier : {d : ℕ} → Steps f (f a) a d → (t : ℕ) → 1 ≤ t → t < suc d → iter f t a ≢ a
      earlier s zero b h = absurd (omega arith)
      earlier s (suc t) b h = s.first t (omega arith)

  -- all of the label of a are in the lap
  pub lap_whole : (j : ℕ) → U j → lab j ≡ lab a → Among j (lap f a n a)
  unfolding iter
  lap_whole j v e = let w = lap_is in
      subst (Among j) (sym w.3) (⊎_elim (λ q. steps_walk f (suc w.0) a 0 j (omega arith) (sym q))
      (λ q. steps_walk f (suc w.0) a (suc q.0) j (omega (arith, q.1)) q.2) (on_the_way c a u w.2 j v e))

  -- and only those
  pub lap_only : (j : ℕ) → Among j (lap f a n a) → U j × (lab j ≡ lab a)
  lap_only j h =
      let w = lap_is in
      let r = walk_steps f (suc w.0) a j (subst (Among j) w.3 h) in
      (subst U r.2 (iter_in c.perm r.0 a u), ap lab (sym r.2) ∙ iter_keeps c r.0 a u)

  module _ (g : ℕ → ℕ) (gf : (i : ℕ) → U i → g (f i) ≡ i) where
    -- along what undoes f it comes back as soon
    steps_back : (d : ℕ) → Steps f (f a) a d → Steps g (g a) a d
    unfolding iter
    steps_back d s = record {
      at = ap (iter g (suc d)) (sym s.at) ∙ iter_back c.perm g gf (suc d) a u;
      first = λ t h e. s.first t h (ap (iter f (suc t)) (sym e) ∙ iter_on c.perm g gf (suc t) a u);
    }

    -- and the lap is the same, turned round
    pub lap_turned : lap g a n a ≡ turn_round (lap f a n a)
    unfolding walk iter
    lap_turned =
        let w = lap_is in
        let d = w.0 in
        let s = w.2 in
        let before : iter f d a ≡ g a =
        sym (gf (iter f d a) (iter_in c.perm d a u)) ∙ ap g (sym (iter_last f d a) ∙ s.at) in
        lap_walk g a n d a w.1 (steps_back d s)
        ∙ ap (λ k. a ∷ walk g d k) (sym before) ∙ ap (λ l. a ∷ l) (sym (append-nil (walk g d (iter f d a))))
        ∙ ap (λ l. a ∷ l) (sym (walk_back c.perm g gf d a [] u)) ∙ ap turn_round (sym w.3)

    -- it has three at least just if neither the one before a nor the one before that is a
    pub lap_three : (3 ≤ length (lap f a n a)) ↔ ((g a ≢ a) × (g (g a) ≢ a))
    unfolding iter
    lap_three =
        let w = lap_is in
        let s = steps_back w.0 w.2 in
        let size : length (lap f a n a) ≡ suc w.0 = ap length w.3 ∙ walk_length f (suc w.0) a in
        (λ h. (s.first 0 (omega arith), s.first 1 (omega arith)), λ h. many w.0 size s h.0 h.1)
      where
        -- neither one nor two are enough
        many : (d : ℕ) → length (lap f a n a) ≡ suc d → Steps g (g a) a d → g a ≢ a → g (g a) ≢ a
            → 3 ≤ length (lap f a n a)
        many zero e s h i = absurd (h s.at)
        many (suc zero) e s h i = absurd (i s.at)
        many (suc (suc d)) e s h i = omega arith
