-- The log when bytes go in just below its start: they stand in front of what was live, and that is as it was.
use Rattle.std.specs.Prelude.{◌≡◌, ℕ, ◌+◌, ◌-◌, ◌≤◌, take, drop}
use Rattle.std.proofs.Math.Path.{sym}
use Rattle.std.proofs.Common.{ap, ◌∙◌, length-append, take-append-drop, length-take-le, drop_at, drop-drop, take-take}
use mathlib.Core.List.{List, [], ◌++◌, append_assoc}
use native.Mathlib.Omega.{arith}
use Rattle.std.proofs.Math.ListN.{length}
use Rattle.std.proofs.Math.Seq.{length-sets, sets-eq}
use Rattle.std.proofs.lemmas.List.{take-append-le}
use borrow.Author.Tests.{le-leb}
use Rattle.numbers.specs.PaddedLaws.{drop_part}
use Rattle.script.specs.Operator.{put_bytes}

-- a log with bytes just below its start
abbrev pub below : List ℕ → ℕ → List ℕ → List ℕ
below log start b = take (start - length b) log ++ (b ++ drop start log)

module _ (log : List ℕ) (start : ℕ) (fits : start ≤ length log) where
  -- it is what is written there
  pub put_below : (b : List ℕ) → length b ≤ start → put_bytes log (start - length b) b ≡ below log start b
  unfolding put_bytes
  put_below b room =
      let e : start - length b + length b ≡ start = omega arith in
      rw (
        le-leb (start - length b + length b) (length log) (omega arith),
        sets-eq b log (start - length b) (omega arith),
        e,
        append_assoc (take (start - length b) log) b (drop start log),
      )

  -- no bytes change nothing
  pub below_none : below log start [] ≡ log
  below_none = let e : start - 0 ≡ start = omega arith in rw e (take-append-drop start log)

  -- it is as long as the log
  pub below_length : (b : List ℕ) → length b ≤ start → length (below log start b) ≡ length log
  unfolding put_bytes
  below_length b room =
      sym (ap length (put_below b room)) ∙ rw (le-leb (start - length b + length b) (length log) (omega arith))
      (length-sets log (start - length b) b)

  -- read from the new start: the bytes, then the old live part
  pub below_live : (b : List ℕ) → length b ≤ start → drop (start - length b) (below log start b) ≡ b ++ drop start log
  below_live b room =
      drop_at (take (start - length b) log) (b ++ drop start log) (start - length b)
      (length-take-le (start - length b) log (omega arith))

  -- bytes below bytes
  pub below_both : (a b : List ℕ) → length a + length b ≤ start
      → below (below log start b) (start - length b) a ≡ below log start (a ++ b)
  below_both a b room =
      let k : ℕ = start - length b - length a in
      let l = length-take-le (start - length b) log (omega arith) in
      let f : take k (below log start b) ≡ take k log =
      take-append-le k (take (start - length b) log) (b ++ drop start log) (omega (arith, l))
      ∙ take-take k (start - length b) log (omega arith) in
      let m = length-append a b in
      let s : start - length (a ++ b) ≡ k = omega (arith, m) in
      rw (f, below_live b (omega arith), s, append_assoc a b (drop start log))

  -- and where they stand there already nothing changes
  pub below_same : (at : ℕ) (b : List ℕ) → start ≡ at + length b → drop at log ≡ b ++ drop start log
      → below log start b ≡ log
  below_same at b e d =
      let f : start - length b ≡ at = omega (arith, e) in rw (f, ← d) (take-append-drop at log)

-- ---- what is written is that

module _ (log : List ℕ) (start : ℕ) (b : List ℕ) (room : length b ≤ start) (fits : start ≤ length log) where
  -- the log after
  abbrev after : List ℕ
  after = put_bytes log (start - length b) b

  -- it is as long as before
  pub put_length : length after ≡ length log
  put_length = ap length (put_below log start fits b room) ∙ below_length log start fits b room

  -- read from the new start: the bytes, then the old live part
  pub put_live : drop (start - length b) after ≡ b ++ drop start log
  put_live = ap (drop (start - length b)) (put_below log start fits b room) ∙ below_live log start fits b room

  -- from any place on that is not below the old start, nothing has changed
  pub put_rest : (at : ℕ) → start ≤ at → drop at after ≡ drop at log
  put_rest at h =
      let e : start - length b + length b ≡ start = omega arith in
      let f : start + (at - start) ≡ at = omega arith in
      let g : drop start after ≡ drop start log =
      rw e at (drop_part after (start - length b) b (drop start log) put_live) in
      let k : drop (start + (at - start)) after ≡ drop (start + (at - start)) log =
      sym (drop-drop (at - start) start after) ∙ ap (drop (at - start)) g ∙ drop-drop (at - start) start log in
      rw f at k

  -- up to any place in front of the new start neither
  pub put_front : (at : ℕ) → at + length b ≤ start → take at after ≡ take at log
  put_front at h =
      let l = length-take-le (start - length b) log (omega arith) in
      ap (take at) (put_below log start fits b room)
      ∙ take-append-le at (take (start - length b) log) (b ++ drop start log) (omega (arith, l))
      ∙ take-take at (start - length b) log (omega arith)
