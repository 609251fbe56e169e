-- On a sound table the fuel of the operators' walks cuts nothing off: a run given another loop, by 2E steps at most, is
-- the whole run, and the search for a loop's first finds it. (The run is said first for any table whose next column is
-- a permutation, as it is amid an operator.)
use Rattle.std.specs.Prelude.{◌≡◌, refl, List, ℕ, ◌+◌, ◌-◌, ◌*◌, ◌≤◌, ◌<◌, ℤ}
use Rattle.std.proofs.Common.{sym, ◌∙◌, inr, arith}
use Rattle.laws.specs.Permutations.{iter, Perm, iter_in, soon}
use Rattle.laws.specs.Cycles.{Cycles, forwards}
use Rattle.layout.specs.declared.shape.Shape.{Shape}
use Rattle.layout.specs.Layout.{loop_first, loop_of, next_of}
use Rattle.euler.specs.Surgery.{relabel, relabel_run, passed, seek, first_from}
use Rattle.euler.specs.Passed.{relabel_passed}
use Rattle.sound_tables.specs.Sound.{In, HalfUsed}
use Rattle.sound_tables.specs.Names.{named_used}
use Rattle.sound_tables.specs.Labels.{least_with, LeastIs, label_found, label_some}
use Rattle.sound_tables.specs.Walking.{Steps, first_hit, seek_first}
use Rattle.sound_tables.specs.Passing.{RunPassed, run_passed}
use Rattle.sound_tables.specs.FirstLow.{first_low_lem}
use Rattle.sound_tables.specs.Good.{Good, own, good_shows}

-- ---- a table whose next column permutes the half-edges of U

module _ (sh : Shape) (x : List ℕ) (U : ℕ → Type 0) (P : Perm (2 * sh.edges) U (next_of sh x)) where
  -- what is met at all from k on is met in fewer than 2E steps
  pub near : (k stop m : ℕ) → U k → iter (next_of sh x) m k ≡ stop → (d : ℕ) × (d < 2 * sh.edges)
      × Steps (next_of sh x) k stop d
  near k stop m u e =
      let s = soon P m m k (omega arith) u in
      let r = first_hit (next_of sh x) s.0 k stop (s.3 ∙ e) in
      (r.0, omega (arith, r.1, s.1), r.2)

  -- more fuel gives no other half-edge another loop
  pub relabel_more : (k stop m l : ℕ) → U k → iter (next_of sh x) m k ≡ stop → (n : ℕ)
      → relabel sh (2 * sh.edges + n) x k stop l ≡ relabel_run sh x k stop l
  relabel_more k stop m l u e n =
      let d = near k stop m u e in
      let all : (f : ℕ) → 2 * sh.edges ≤ f → relabel sh f x k stop l ≡ passed sh d.0 x k l = λ f h.
      relabel_passed sh f d.0 x k stop l (omega (arith, d.1, h)) d.2.first (inr d.2.at) in
      all (2 * sh.edges + n) (omega arith) ∙ sym (all (2 * sh.edges) (omega arith))

-- ---- a sound table

-- the search for the first of k's loop from `low` on: to try more numbers finds no other, and what is found is the
-- least half-edge that names the loop, its first
pub record LeastFuel (sh : Shape) (x : List ℕ) (low k : ℕ) : Type 0 where
  pub fuel : (n : ℕ) → seek sh (k - low + n) x (loop_of sh x k) low (next_of sh x k) k k
      ≡ first_from sh x (loop_of sh x k) low k
  pub least : LeastIs (2 * sh.edges) (loop_of sh x) (loop_of sh x k) (first_from sh x (loop_of sh x k) low k)
  pub first : first_from sh x (loop_of sh x k) low k ≡ loop_first sh x (loop_of sh x k)

-- the run from half-edge k up to before stop, given loop l: no fuel is missing; it has d half-edges, and at each that
-- is passed, the last among them, those behind name l and no other word is changed
pub record RelabelFuel (sh : Shape) (x : List ℕ) (k stop l : ℕ) : Type 0 where
  pub fuel : (n : ℕ) → relabel sh (2 * sh.edges + n) x k stop l ≡ relabel_run sh x k stop l
  pub d : ℕ
  pub short : d < 2 * sh.edges
  pub steps : Steps (next_of sh x) k stop d
  pub used : (t : ℕ) → t < d → HalfUsed sh (own sh x) (iter (next_of sh x) t k)
  pub whole : relabel_run sh x k stop l ≡ passed sh d x k l
  pub amid : (n : ℕ) → n ≤ d → RunPassed sh (own sh x) k l n (passed sh n x k l)

module _ {sh : Shape} {x : List ℕ} {p : List ℤ} (g : Good sh x p) (k : ℕ) (u : HalfUsed sh (own sh x) k) where
  -- the loops are the cycles of next
  loops : Cycles (2 * sh.edges) (HalfUsed sh (own sh x)) (next_of sh x) (loop_of sh x)
  loops = g.sound.rules.loops

  pub least_fuel : (low : ℕ) → low ≤ loop_first sh x (loop_of sh x k) → LeastFuel sh x low k
  least_fuel low h =
      let s = g.sound.half k (u.0, u.1) u.2 in
      let from : (i : ℕ) → In (2 * sh.edges) i → loop_of sh x i ≡ loop_of sh x k → low ≤ i =
      λ i r q. omega (arith, h, (first_low_lem g.sound (loop_of sh x k) i s.loop_in.0 r q).1) in
      let found : (n : ℕ) → k ≤ low + n → seek sh n x (loop_of sh x k) low (next_of sh x k) k k
      ≡ least_with (2 * sh.edges) (loop_of sh x) (loop_of sh x k) = λ n r.
      seek_first sh x (own sh x) (HalfUsed sh (own sh x)) (loop_of sh x k) low k n (good_shows g) loops
      s.loop_in.0 u refl (named_used g.sound s.loop_in.0) from r in
      let e = found (k - low) (omega arith) in
      record {
        fuel = λ n. found (k - low + n) (omega arith) ∙ sym e;
        least = rw e (label_found (2 * sh.edges) (loop_of sh x) (loop_of sh x k)
            (label_some (2 * sh.edges) (loop_of sh x) (loop_of sh x k) k (u.0, u.1) refl));
        first = e ∙ sym (g.sound.loop (loop_of sh x k) s.loop_in s.loop_used).first;
      }

  pub relabel_fuel : (stop l : ℕ) → HalfUsed sh (own sh x) stop → loop_of sh x stop ≡ loop_of sh x k
      → RelabelFuel sh x k stop l
  relabel_fuel stop l v e =
      let m = (forwards loops.perm (loops.one k stop u v (sym e))).0 in
      let w = near sh x (HalfUsed sh (own sh x)) loops.perm k stop m.0 u m.1 in
      let i : (t : ℕ) → t < w.0 → HalfUsed sh (own sh x) (iter (next_of sh x) t k) =
      λ t h. iter_in loops.perm t k u in
      record {
        fuel = relabel_more sh x (HalfUsed sh (own sh x)) loops.perm k stop m.0 l u m.1;
        d = w.0;
        short = w.1;
        steps = w.2;
        used = i;
        whole = relabel_passed sh (2 * sh.edges) w.0 x k stop l (omega (arith, w.1)) w.2.first
            (inr w.2.at);
        amid = λ n h. run_passed sh n x (own sh x) k l (good_shows g)
            (λ t b. let r = i t (omega arith) in (r.0, r.1));
      }
