-- What the program's code leaves, step by step. The table is sound after every run and the buffer is long enough for
-- each of its solids, so that of the call's refusals those of the solid are left.
use Rattle.std.specs.Prelude.{◌≡◌, refl, ◌≢◌, List, ℕ, ◌+◌, ◌-◌, ◌≤◌, ◌<◌, ℤ, take, replicate}
use Rattle.std.proofs.Common.{sym, ◌∙◌, subst, length-take, drop_of_length-le}
use Rattle.std.proofs.Math.Path.{ap}
use native.Mathlib.Omega.{arith}
use Rattle.std.proofs.Math.ListN.{length}
use Rattle.std.proofs.lemmas.List.{length-replicate}
use Rattle.std.proofs.lemmas.List.Edits.{sets}
use Rattle.std.proofs.Math.Seq.{length-sets}
use borrow.Author.Tests.{le-leb, lt-leb}
use Rattle.laws.specs.Bools.{split, eqb_same, eqb_other}
use Rattle.layout.specs.declared.shape.Shape.{Shape}
use Rattle.layout.specs.Layout.{shape_from, shape_of, solid_used}
use Rattle.layout.specs.Items.{some}
use Rattle.layout.specs.Small.{Small}
use Rattle.table.specs.Clear.{Cleared, cleared, clear_of, empty_links, empty_points}
use Rattle.table.specs.Sizes.{sizes_fit}
use Rattle.table.specs.SizesLaws.{fits_small}
use Rattle.table.specs.CheckLaws.{checked_fits}
use Rattle.table.specs.Valid.{Valid}
use Rattle.sound_tables.specs.Good.{Good}
use Rattle.sound_tables.specs.ValidGood.{valid_good}
use Rattle.sound_tables.specs.ClearSound.{clear_valid}
use Rattle.runs.specs.Run.{state, Ran, run_of}
use Rattle.promises.specs.Checked.{good_checked}
use Rattle.promises.specs.OtherLog.{with_log, Alike, Same, same_run}
use Rattle.promises.specs.Trail.{gone_none}
use Rattle.promises.specs.Edits.{gone_run}
use Rattle.takedown.specs.Swift.{seek}
use Rattle.text.specs.Put.{newline, Put, then, put_front}
use Rattle.report.specs.Text.{field, refusal_label, too_long}
use Rattle.wavefront.specs.Obj.{obj_text, solid_refusal, Texted, texted, fitted, unless_refused, obj_of}
use Rattle.wavefront_read.specs.TurnedRound.{showable}
use Rattle.wavefront_read.specs.Length.{obj_length}
use Rattle.zoghvari_obj.specs.Program.{empty, comment, refusal_line, least_solid, solid_text, part_text, run_text}
use Rattle.zoghvari_obj.specs.Program.{program_of}

-- the shape of the program's table
abbrev pub own_shape : Shape
own_shape = shape_from 1024 1024 1024 1024 1024

-- ---- a run on the empty table

-- a log of n zeros
full : (n : ℕ) → n ≡ length (replicate {A = ℕ} n 0)
full n = sym (length-replicate n 0)

-- its log starts at its end, and so holds nothing
empty_start : (empty.start ≡ 655360) × (empty.start ≡ length empty.log)
unfolding empty
empty_start = (refl, full 655360)

-- like any log of that length
empty_log : (log : List ℕ) → 655360 ≡ length log → Alike empty.start empty.log log
empty_log log h =
    let a : length empty.log ≤ empty.start = omega (arith, empty_start.1) in
    let b : length log ≤ empty.start = omega (arith, empty_start.0, h) in
    (omega (arith, empty_start.0, empty_start.1, h), drop_of_length-le empty.log a ∙ sym (drop_of_length-le log b))

-- memory of the program's lengths, whatever it holds
module _ (x0 : List ℕ) (p0 : List ℤ) (words : 15365 ≡ length x0) (coordinates : 3072 ≡ length p0) where
  -- is cleared, and that is not refused
  cleared_is : clear_of x0 p0 1024 1024 1024 1024 1024
      ≡ cleared 0 (empty_links 1024 1024 1024 1024 1024) (empty_points 1024)
  unfolding clear_of sizes_fit
  cleared_is = rw (← words, ← coordinates)

  -- to a good table
  empty_good : Good own_shape empty.links empty.points
  unfolding empty
  empty_good =
      let v = clear_valid x0 p0 1024 1024 1024 1024 1024 (ap (λ (c : Cleared). c.answer.refusal) cleared_is) in
      valid_good empty.links empty.points (subst (λ (c : Cleared). Valid c.links c.points) cleared_is v)

  -- a script run on it with any log
  module _ (refusal : ℕ) (x : List ℕ) (p : List ℤ) (log s : List ℕ) (r : Ran)
      (e : cleared refusal x p ≡ clear_of x0 p0 1024 1024 1024 1024 1024)
      (f : r ≡ run_of (state x p log 655360) s) (bytes : 655360 ≡ length log) where
    -- runs as with an empty one
    began : state x p log 655360 ≡ with_log empty log
    unfolding empty
    began = ap (λ (c : Cleared). state c.links c.points log 655360) (e ∙ cleared_is)

    ran_same : Same (run_of empty s) r
    ran_same = rw (f, began) (same_run empty log s (empty_log log bytes))

    -- leaves a good table
    pub run_good : Good own_shape r.links r.points
    run_good =
        let h : empty.start ≤ length empty.log = omega (arith, empty_start.1) in
        let g = (gone_run empty s (gone_none empty empty_good h)).good in
        rw (← ran_same.links, ← ran_same.points) g

    -- and what is printed of it is what the line on its refusal or the table says
    module _ (out y : List ℕ) (n : ℕ) where
      pub run_refused : r.answer.refusal ≢ 0 → Put out 0 (refusal_line r.answer.refusal) n y
          → Put out 0 (run_text (run_of empty s)) n y
      unfolding run_text
      run_refused d h = rw (ran_same.answer, eqb_other d) h

      pub run_done : r.answer.refusal ≡ 0 → Put out 0 (part_text r.links r.points) n y
          → Put out 0 (run_text (run_of empty s)) n y
      unfolding run_text
      run_done z h = rw (ran_same.answer, eqb_same z, ran_same.links, ran_same.points) h

-- ---- the line on a refusal

-- the words with the number, then the end of the line
pub put_line : (x y z : List ℕ) (a b n : ℕ) → Put x 0 (field (comment refusal_label) n) a y → Put y a newline b z
    → Put x 0 (refusal_line n) b z
unfolding refusal_line
put_line x y z a b n = then x y z 0 a b (field (comment refusal_label) n) newline

-- ---- the least solid in use

-- as the search from 1 on finds it
pub least_sought : (sh : Shape) (x : List ℕ) (s : ℕ) → sh ≡ shape_of x
    → s ≡ seek sh.solids 1 (λ k. some (solid_used sh x k)) → s ≡ least_solid (shape_of x) x
least_sought sh x s h e =
    let n : sh.solids + 1 - 1 ≡ sh.solids = omega arith in
    subst (λ (t : Shape). s ≡ least_solid t x) h (rw n at e)

-- where it can be asked for: capacities of a good table are small
pub good_small : (sh : Shape) (x : List ℕ) (p : List ℤ) → Good own_shape x p → sh ≡ shape_of x → Small sh
good_small sh x p g e = rw e (fits_small x p (checked_fits x p (ap (λ a. a.refusal) (good_checked g))))

-- what the call answers for solid s of a good table of the program's shape: the check does not refuse it
module _ (x : List ℕ) (p : List ℤ) (g : Good own_shape x p) (out : List ℕ) (room : 38912 ≤ length out) (s : ℕ) where
  called : obj_of x p s out ≡ unless_refused (solid_refusal (shape_of x) x s) 0 (obj_text (shape_of x) x p s) out
  unfolding obj_of
  called = rw (good_checked g)

  -- the solid's text fits, so that there is no refusal 13
  fits : solid_refusal (shape_of x) x s ≡ 0 → length (obj_text (shape_of x) x p s) ≤ 38912
  fits z =
      let v : 1024 ≡ (shape_of x).vertices = ap (λ (sh : Shape). sh.vertices) g.shape in
      let f : 1024 ≡ (shape_of x).faces = ap (λ (sh : Shape). sh.faces) g.shape in
      let e : 1024 ≡ (shape_of x).edges = ap (λ (sh : Shape). sh.edges) g.shape in
      let l = obj_length (subst (λ (sh : Shape). Good sh x p) g.shape g) (showable (shape_of x) x s z) in
      omega (arith, v, f, e, l)

  written : solid_refusal (shape_of x) x s ≡ 0
      → obj_of x p s out ≡ texted 0 0 (length (obj_text (shape_of x) x p s)) (sets out 0 (obj_text (shape_of x) x p s))
  unfolding fitted
  written z =
      let h : length (obj_text (shape_of x) x p s) ≤ length out = omega (arith, fits z, room) in
      called ∙ rw (eqb_same z, le-leb (length (obj_text (shape_of x) x p s)) (length out) h)

  refused : solid_refusal (shape_of x) x s ≢ 0 → obj_of x p s out ≡ texted (solid_refusal (shape_of x) x s) 0 0 out
  refused d = called ∙ rw (eqb_other d)

  module _ (e : s ≡ least_solid (shape_of x) x) (a b n : ℕ) (y : List ℕ) (h : texted a b n y ≡ obj_of x p s out) where
    -- its text, where it has one
    pub part_written : a ≡ 0 → Put out 0 (part_text x p) n y × (n ≤ 38912)
    unfolding solid_text
    part_written z =
        split (solid_refusal (shape_of x) x s) 0
        (λ q. let t = h ∙ written q in
        let size : n ≡ length (obj_text (shape_of x) x p s) = ap (λ (c : Texted). c.answer.length) t in
        (rw (← e, eqb_same q) (omega arith, ap (λ (c : Texted). c.out) t), omega (arith, fits q, size)))
        (λ d. absurd (d (sym (ap (λ (c : Texted). c.answer.refusal) (h ∙ refused d)) ∙ z)))

    -- the line on its refusal, where it has none: the call has written nothing
    pub part_refused : a ≢ 0 → (m : ℕ) (z : List ℕ) → Put y 0 (refusal_line a) m z → Put out 0 (part_text x p) m z
    unfolding solid_text
    part_refused d m z k =
        split (solid_refusal (shape_of x) x s) 0
        (λ q. absurd (d (ap (λ (c : Texted). c.answer.refusal) (h ∙ written q))))
        (λ q. let t = h ∙ refused q in
        rw (← e, eqb_other q, ← ap (λ (c : Texted). c.answer.refusal) t, ← ap (λ (c : Texted). c.out) t) k)

-- ---- the whole program

-- an input that is run, and one that is too long
module _ (s x y : List ℕ) (n : ℕ) where
  pub program_runs : length s ≤ 65536 → Put x 0 (run_text (run_of empty s)) n y
      → (n ≡ length (program_of s)) × (y ≡ sets x 0 (program_of s))
  unfolding program_of
  program_runs h p = rw (le-leb (length s) 65536 h) (put_front x y (run_text (run_of empty s)) n p)

  pub program_long : 65536 < length s → Put x 0 (comment too_long) n y
      → (n ≡ length (program_of s)) × (y ≡ sets x 0 (program_of s))
  unfolding program_of
  program_long h p = rw (lt-leb (length s) 65536 h) (put_front x y (comment too_long) n p)

-- the front of the buffer that holds the text
pub shown : (s x y : List ℕ) (n : ℕ) → length x ≡ 38912 → (n ≡ length (program_of s)) × (y ≡ sets x 0 (program_of s))
    → n ≤ 38912
    → (n ≤ length y) × (n ≡ length (take n y))
shown s x y n e (f, g) h =
    let l : length y ≡ 38912 = ap length g ∙ length-sets x 0 (program_of s) ∙ e in
    let k = length-take n y in
    (omega arith, omega arith)
