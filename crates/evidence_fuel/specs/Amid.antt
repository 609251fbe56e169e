-- Amid an operator: a walk on a list that is not sound yet, but whose next column is already that of the sound table
-- which the operator leaves. (After an edge has gone in or come out, only loops, firsts and whole records are stored,
-- so next stays.) The fuel is enough there too, and a run is relabelled where it sits.
use Rattle.std.specs.Prelude.{◌≡◌, refl, List, ℕ, zero, suc, ◌+◌, ◌*◌, ◌≤◌, length, ℤ}
use Rattle.std.proofs.Common.{sym, ap, ◌∙◌, subst}
use Rattle.laws.specs.Columns.{Chained}
use Rattle.laws.specs.Permutations.{iter, Perm, iter_in}
use Rattle.laws.specs.Cycles.{forwards}
use Rattle.layout.specs.declared.shape.Shape.{Shape}
use Rattle.layout.specs.Layout.{loop_of, next_of}
use Rattle.layout.specs.Fields.{groups}
use Rattle.euler.specs.Surgery.{relabel, relabel_run, passed}
use Rattle.sound_tables.specs.Cells.{shows_own}
use Rattle.sound_tables.specs.Sound.{HalfUsed}
use Rattle.sound_tables.specs.Good.{Good, own}
use Rattle.sound_tables.specs.Walking.{Steps}
use Rattle.sound_tables.specs.Passing.{RunPassed, run_passed}
use Rattle.evidence_fuel.specs.Walks.{near, relabel_more}

-- functions that agree where one of them stays go the same way
iter_agree : (f h : ℕ → ℕ) (U : ℕ → Type 0) → ((i : ℕ) → U i → U (h i)) → ((i : ℕ) → U i → f i ≡ h i) → (m k : ℕ) → U k
    → iter f m k ≡ iter h m k
unfolding iter
iter_agree f h U s e zero k u = refl
iter_agree f h U s e (suc m) k u = rw (e k u) (iter_agree f h U s e m (h k) (s k u))

module _ {sh : Shape} {z : List ℕ} {q : List ℤ} (g : Good sh z q) (y : List ℕ) (same : (i : ℕ)
    → HalfUsed sh (own sh z) i → next_of sh y i ≡ next_of sh z i) where
  -- next permutes the half-edges of the sound table
  amid : Perm (2 * sh.edges) (HalfUsed sh (own sh z)) (next_of sh y)
  amid =
      let P = g.sound.rules.loops.perm in
      record {
        low = P.low;
        high = P.high;
        f_in = λ i u. subst (HalfUsed sh (own sh z)) (sym (same i u)) (P.f_in i u);
        inv = P.inv;
        undo = λ i u. ap P.inv (same i u) ∙ P.undo i u;
      }

  module _ (k stop l : ℕ) (u : HalfUsed sh (own sh z) k) (v : HalfUsed sh (own sh z) stop) (e : loop_of sh z stop
      ≡ loop_of sh z k) where
    -- a half-edge of the same loop is met
    meets : (m : ℕ) × (iter (next_of sh y) m k ≡ stop)
    meets =
        let c = g.sound.rules.loops in
        let m = (forwards c.perm (c.one k stop u v (sym e))).0 in (
          m.0,
          iter_agree (next_of sh y) (next_of sh z) (HalfUsed sh (own sh z)) c.perm.f_in same m.0 k u ∙ m.1,
        )

    -- the run to it
    pub relabel_amid : (n : ℕ) → relabel sh (2 * sh.edges + n) y k stop l ≡ relabel_run sh y k stop l
    relabel_amid = relabel_more sh y (HalfUsed sh (own sh z)) amid k stop meets.0 l u meets.1

    -- and at each half-edge passed those behind name l, and no other word is changed
    pub run_amid : Chained 0 (groups sh) (length y) → (d : ℕ) × Steps (next_of sh y) k stop d
        × ((n : ℕ) → n ≤ d → RunPassed sh (own sh y) k l n (passed sh n y k l))
    run_amid fit =
        let w = near sh y (HalfUsed sh (own sh z)) amid k stop meets.0 u meets.1 in (
          w.0,
          w.2,
          λ n h. run_passed sh n y (own sh y) k l (shows_own sh y fit)
              (λ t b. let i = iter_in amid t k u in (amid.low _ i, amid.high _ i)),
        )
