-- The theorems of the pairs for all thirteen operators, as long as vertex words are marks.
use Rattle.std.specs.Prelude.{◌≡◌, List, ℕ, ℤ, length}
use Rattle.std.proofs.Math.Logic.{inl}
use Rattle.script.specs.declared.Operator.{Operator}
use Rattle.layout.specs.declared.shape.Shape.{Shape}
use Rattle.euler.specs.Exec.{refusal_of, killed_vertex}
use Rattle.sound_tables.specs.Accepted.{by_thirteen}
use Rattle.sound_tables.specs.Good.{Marked}
use Rattle.sound_tables.specs.Balance.{Balanced}
use Rattle.sound_tables.specs.Undone.{Kept, Undone, Low, Gone}
use Rattle.sound_lone.specs.Exact.{mvsf_holds, kvsf_holds, mvsf_balanced, kvsf_balanced, kvsf_gone}
use Rattle.sound_rings.specs.Exact.{rmov_holds, rmov_balanced}
use Rattle.sound_spurs.specs.Exact.{mev_holds, kev_holds, kev_gone}
use Rattle.sound_spurs.specs.Balance.{mev_balanced, kev_balanced}
use Rattle.sound_cuts.specs.MefHolds.{mef_holds}
use Rattle.sound_cuts.specs.Exact.{kef_holds}
use Rattle.sound_cuts.specs.Balance.{mef_balanced, kef_balanced}
use Rattle.sound_bridges.specs.Exact.{mekr_holds, kemr_holds}
use Rattle.sound_bridges.specs.Balance.{mekr_balanced, kemr_balanced}
use Rattle.sound_holes.specs.Exact.{kfmrh_holds, mfkrh_holds, kfmrh_balanced, mfkrh_balanced}
use Rattle.sound_splits.specs.Exact.{semv_holds, jekv_holds, jekv_gone}
use Rattle.sound_splits.specs.Balance.{semv_balanced, jekv_balanced}

-- an operator that is undone whatever the word of a vertex is
always : {A B C : Type 0} → A × B → A × (C → B)
always h = (h.0, λ c. h.1)

module _ (sh : Shape) (x : List ℕ) (p : List ℤ) (o : Operator) (g : Marked sh x p) (len : length o.args ≡ 8)
    (h : refusal_of sh x o ≡ 0) where
  -- the table stays sound; and the operator is undone, where the word of the vertex that it kills is 1
  pub marks_hold : Kept sh x p o × (Low sh x o → Undone sh x p o)
  marks_hold = by_thirteen sh x o h
      (λ e. always (mvsf_holds sh x p o g len e h)) (λ e. kvsf_holds sh x p o g len e h)
      (λ e. always (mev_holds sh x p o g len e h)) (λ e. kev_holds sh x p o g len e h)
      (λ e. always (mef_holds sh x p o g len e h)) (λ e. always (kef_holds sh x p o g len e h))
      (λ e. always (kemr_holds sh x p o g len e h)) (λ e. always (mekr_holds sh x p o g len e h))
      (λ e. always (kfmrh_holds sh x p o g len e h)) (λ e. always (mfkrh_holds sh x p o g len e h))
      (λ e. always (semv_holds sh x p o g len e h)) (λ e. jekv_holds sh x p o g len e h)
      (λ e. always (rmov_holds sh x p o g len e h))

  -- starts and marks change as `leaveOf` and `comeOf` say
  pub marks_balanced : Balanced sh x o
  marks_balanced = by_thirteen sh x o h
      (λ e. mvsf_balanced sh x p o g len e h) (λ e. kvsf_balanced sh x p o g len e h)
      (λ e. mev_balanced sh x p o g len e h) (λ e. kev_balanced sh x p o g len e h)
      (λ e. mef_balanced sh x p o g len e h) (λ e. kef_balanced sh x p o g len e h)
      (λ e. kemr_balanced sh x p o g len e h) (λ e. mekr_balanced sh x p o g len e h)
      (λ e. kfmrh_balanced sh x p o g len e h) (λ e. mfkrh_balanced sh x p o g len e h)
      (λ e. semv_balanced sh x p o g len e h) (λ e. jekv_balanced sh x p o g len e h)
      (λ e. rmov_balanced sh x p o g len e h)

  -- a vertex that is killed is free afterwards
  pub marks_gone : Gone sh x o
  unfolding killed_vertex
  marks_gone = by_thirteen sh x o h
      (λ e. inl (rw e)) (λ e. kvsf_gone sh x p o g len e h) (λ e. inl (rw e)) (λ e. kev_gone sh x p o g len e h)
      (λ e. inl (rw e)) (λ e. inl (rw e)) (λ e. inl (rw e)) (λ e. inl (rw e)) (λ e. inl (rw e)) (λ e. inl (rw e))
      (λ e. inl (rw e)) (λ e. jekv_gone sh x p o g len e h) (λ e. inl (rw e))
