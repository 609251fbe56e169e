-- What the program's code leaves, step by step.
use Rattle.std.specs.Prelude.{◌≡◌, refl, List, ℕ, ◌≤◌, ◌<◌, ℤ, pos, length, take, replicate}
use Rattle.std.proofs.Common.{ap, ◌∙◌, arith, le-leb}
use Rattle.std.proofs.Math.ListN.{length-take}
use Rattle.std.proofs.lemmas.List.Edits.{sets}
use Rattle.std.proofs.Math.Seq.{length-sets}
use Rattle.std.proofs.lemmas.Bool.{lt-leb}
use Rattle.table.specs.declared.count.CountAnswer.{CountAnswer}
use Rattle.table.specs.Clear.{Cleared, cleared, clear_of, empty_links, empty_points}
use Rattle.table.specs.Count.{count_of}
use Rattle.table.specs.Sizes.{sizes_fit}
use Rattle.runs.specs.Run.{State, state, Ran, run_of}
use Rattle.report.specs.Text.{text_of, too_long}
use Rattle.zoghvari.specs.Program.{empty, report_of, program_of}

-- clearing the program's memory is not refused
cleared_is : clear_of (replicate 965 0) (replicate 192 (pos 0)) 64 64 64 64 64
    ≡ cleared 0 (empty_links 64 64 64 64 64) (empty_points 64)
unfolding clear_of sizes_fit
cleared_is = refl

-- it makes the empty table
pub cleared_empty : (refusal : ℕ) (x : List ℕ) (p : List ℤ)
    → cleared refusal x p ≡ clear_of (replicate 965 0) (replicate 192 (pos 0)) 64 64 64 64 64
    → state x p (replicate 40960 0) 40960 ≡ empty
unfolding empty
cleared_empty refusal x p e =
    ap (λ (c : Cleared). state c.links c.points (replicate 40960 0) 40960) (e ∙ cleared_is)

-- the text of its run
pub reported : (s : List ℕ) (t : State) (r : Ran) (c : CountAnswer) (x y : List ℕ) (n : ℕ) → t ≡ empty → r ≡ run_of t s
    → c ≡ count_of r.links r.points
    → (n ≡ length (text_of r.answer.refusal r.answer.done r.answer.used c))
    × (y ≡ sets x 0 (text_of r.answer.refusal r.answer.done r.answer.used c))
    → (n ≡ length (report_of (run_of empty s))) × (y ≡ sets x 0 (report_of (run_of empty s)))
unfolding report_of
reported s t r c x y n e f g h = rw (← e, ← f, ← g) h

-- n bytes of the input's buffer: so many, run; and one more than may be, too long
module _ (s : List ℕ) (n : ℕ) where
  pub taken : n ≤ length s → n ≡ length (take n s)
  taken h = let k = length-take n s in omega arith

  pub program_runs : n ≤ 4096 → program_of (take n s) ≡ report_of (run_of empty (take n s))
  unfolding program_of
  program_runs h = let k = length-take n s in rw (le-leb (length (take n s)) 4096 (omega arith))

  pub program_long : length s ≡ 4097 → 4096 < n → program_of (take n s) ≡ too_long
  unfolding program_of
  program_long e h = let k = length-take n s in rw (lt-leb (length (take n s)) 4096 (omega arith))

-- the front of the buffer that holds the text
pub shown : (s x y : List ℕ) (n : ℕ) → length x ≡ 256 → (n ≡ length (program_of s)) × (y ≡ sets x 0 (program_of s))
    → n ≤ 256
    → (n ≤ length y) × (n ≡ length (take n y))
shown s x y n e (f, g) h =
    let l : length y ≡ 256 = ap length g ∙ length-sets x 0 (program_of s) ∙ e in
    (omega arith, taken y n (omega arith))
