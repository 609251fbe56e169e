-- The corners of a loop of a sound table: from its first half-edge round, each once, and no others.
use Rattle.std.specs.Prelude.{◌≡◌, refl, ◌≢◌, List, eqb, ℤ}
use Rattle.std.proofs.Common.{sym, ◌∙◌, ⊎_elim, arith}
use Rattle.std.proofs.Math.Path.{ap}
use Prim.Native.Nat.{ℕ, zero, suc, ◌+◌, ◌-◌, ◌*◌, ◌≤◌, ◌<◌}
use Rattle.laws.specs.Bools.{eqb_same, eqb_other, split, le?}
use Rattle.laws.specs.Permutations.{iter, iter_add, iter_last, iter_in, iter_inj}
use Rattle.laws.specs.Search.{least, least_unique}
use Rattle.layout.specs.declared.shape.Shape.{Shape}
use Rattle.layout.specs.Fields.{Loop, Next, Prev, Columns}
use Rattle.sound_tables.specs.Sound.{HalfUsed, Sound}
use Rattle.sound_tables.specs.EdgeIn.{next_prev}
use Rattle.sound_tables.specs.Walking.{Steps, iter_keeps, way_round}
use Rattle.sweeps.specs.Rising.{before, Different}
use Rattle.sweeps.specs.Lifted.{only_in}
use Rattle.sweeps.specs.Amid.{Lap}

module _ {sh : Shape} {p : List ℤ} {c : Columns} (S : Sound sh p c) {l h : ℕ} (u : HalfUsed sh c h) (lo : c Loop h ≡
    l) where
  -- corner j
  abbrev k : ℕ → ℕ
  k j = iter (c Next) j h

  -- once round
  pub round : (d : ℕ) × (d < 2 * sh.edges) × Steps (c Next) (c Next h) h d
  round = way_round S.rules.loops h u

  -- the corners are in use
  used : (j : ℕ) → HalfUsed sh c (iter (c Next) j h)
  used j = iter_in S.rules.loops.perm j h u

  -- it does not come back before
  not_back : (t : ℕ) → 1 ≤ t → t ≤ round.0 → iter (c Next) t h ≢ h
  unfolding iter
  not_back zero b g = absurd (omega arith)
  not_back (suc t) b g = round.2.first t (omega arith)

  -- it comes back
  comes : iter (c Next) (suc round.0) h ≡ h
  unfolding iter
  comes = round.2.at

  -- two corners are one corner only if
  apart_lt : (i j : ℕ) → i < j → j ≤ round.0 → iter (c Next) i h ≢ iter (c Next) j h
  apart_lt i j a b e =
      let m : ℕ = j - i in
      let q : m + i ≡ j = omega arith in
      not_back m (omega arith) (omega arith)
      (sym (iter_inj S.rules.loops.perm i h (iter (c Next) m h) u (used m)
      (e ∙ ap (λ n. iter (c Next) n h) (sym q) ∙ iter_add (c Next) m i h)))

  -- they are different
  different : Different round.0 (λ j. iter (c Next) j h)
  different i j a b e = split i j (λ z. z) (λ z. ⊎_elim (λ g. absurd (apart_lt i j g b e))
      (λ g. absurd (apart_lt j i (omega arith) a (sym e))) (le? (suc i) j))

  -- A LAP
  pub lap_of : Lap sh c l round.0 (λ j. iter (c Next) j h)
  unfolding iter
  lap_of = record {
    used = λ j b. used j;
    loop = λ j b. iter_keeps S.rules.loops j h u ∙ lo;
    prev = λ j b. prev_at j b;
    apart = different;
  }
    where
      -- the one before
      prev_at : (j : ℕ) → j ≤ round.0 → c Prev (iter (c Next) j h) ≡ before (λ j. iter (c Next) j h) round.0 j
      prev_at zero b = ap (c Prev) (sym comes ∙ iter_last (c Next) round.0 h)
          ∙ S.rules.undone (iter (c Next) round.0 h) (used round.0)
      prev_at (suc j) b = ap (c Prev) (iter_last (c Next) j h) ∙ S.rules.undone (iter (c Next) j h) (used j)

  -- so many corners are counted
  pub lap_least : least (2 * sh.edges) (λ j. eqb (iter (c Next) j h) h) ≡ suc round.0
  lap_least = least_unique (2 * sh.edges) _ (suc round.0) (omega arith) (omega (arith, round.1)) (eqb_same comes)
      (λ j a b. eqb_other (not_back j a (omega arith)))

-- ---- a lap is the whole loop

module _ {sh : Shape} {p : List ℤ} {c : Columns} (S : Sound sh p c) {l z : ℕ} {k : ℕ → ℕ} (lap : Lap sh c l z k) where
  -- the one before a corner is followed by it
  next_is : (j : ℕ) → j ≤ z → c Next (before k z j) ≡ k j
  next_is j u = ap (c Next) (sym (lap.prev j u)) ∙ next_prev S.rules (k j) (lap.used j u)

  -- EACH HALF-EDGE OF THE LOOP IS A CORNER
  pub lap_all : (i : ℕ) → HalfUsed sh c i → c Loop i ≡ l → (j : ℕ) × (j ≤ z) × (i ≡ k j)
  lap_all i u e = only_in S.rules.loops (λ i. (j : ℕ) × (j ≤ z) × (i ≡ k j)) go (k 0) (lap.used 0 (omega arith))
      (0, omega arith, refl) i u (e ∙ sym (lap.loop 0 (omega arith)))
    where
      go : (i : ℕ) → (j : ℕ) × (j ≤ z) × (i ≡ k j) → (j : ℕ) × (j ≤ z) × (c Next i ≡ k j)
      go i t = split t.0 z
          (λ h. (0, omega arith, ap (c Next) (t.2 ∙ ap k h) ∙ next_is 0 (omega arith)))
          (λ h.
          let v : suc t.0 ≤ z = omega (arith, t.1, h) in
          (suc t.0, v, ap (c Next) t.2 ∙ next_is (suc t.0) v))
