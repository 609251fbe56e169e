-- How a call ends, for every input: which refusal, what length, and every byte of the buffer; and what a reader finds
-- in a buffer that was written.
use Rattle.std.specs.Prelude.{◌≡◌, refl, ◌≢◌, List, ℕ, ◌≤◌, ◌<◌, ℤ, length, take, drop}
use Rattle.std.proofs.Common.{ap, ⊎_elim, le-leb}
use Rattle.std.proofs.Math.Option.{some}
use Rattle.std.proofs.lemmas.List.Edits.{sets}
use Rattle.std.proofs.lemmas.Bool.{lt-leb}
use Rattle.laws.specs.Bools.{split, le?, eqb_same, eqb_other}
use Rattle.layout.specs.Layout.{shape_of}
use Rattle.table.specs.Check.{check_of}
use Rattle.wavefront.specs.Obj.{obj_text, solid_refusal, Texted, texted, fitted, obj_of}
use Rattle.wavefront_read.specs.Reader.{mesh, read_obj}
use Rattle.wavefront_read.specs.ReadBack.{points_of, cycles_of}
use Rattle.wavefront_read.specs.Shown.{TextShows}

-- ---- the four ends

-- the text of solid s, as the call has it
abbrev pub whole_text : List ℕ → List ℤ → ℕ → List ℕ
whole_text x p s = obj_text (shape_of x) x p s

-- what the check refuses; else what is refused of the solid; else a text that does not fit; else one that is written
pub data TextEnds (x : List ℕ) (p : List ℤ) (s : ℕ) (out : List ℕ) : Type 0 where
  unsound : (check_of x p).refusal ≢ 0
      → obj_of x p s out ≡ texted (check_of x p).refusal (check_of x p).rule 0 out → TextEnds x p s out
  unshown : (check_of x p).refusal ≡ 0 → solid_refusal (shape_of x) x s ≢ 0
      → obj_of x p s out ≡ texted (solid_refusal (shape_of x) x s) 0 0 out → TextEnds x p s out
  unfitting : (check_of x p).refusal ≡ 0 → solid_refusal (shape_of x) x s ≡ 0 → length out < length (whole_text x p s)
      → obj_of x p s out ≡ texted 13 0 (length (whole_text x p s)) out → TextEnds x p s out
  written : (check_of x p).refusal ≡ 0 → solid_refusal (shape_of x) x s ≡ 0 → length (whole_text x p s) ≤ length out
      → obj_of x p s out ≡ texted 0 0 (length (whole_text x p s)) (sets out 0 (whole_text x p s)) → TextEnds x p s out

-- EVERY CALL ENDS IN ONE OF THE FOUR
pub obj_ends : (x : List ℕ) (p : List ℤ) (s : ℕ) (out : List ℕ) → TextEnds x p s out
unfolding obj_of fitted
obj_ends x p s out = split (check_of x p).refusal 0 (λ z. split (solid_refusal (shape_of x) x s) 0
    (λ y. ⊎_elim
    (λ l. written z y l (rw (eqb_same z, eqb_same y, le-leb (length (whole_text x p s)) (length out) l) refl))
    (λ l. unfitting z y l (rw (eqb_same z, eqb_same y, lt-leb (length (whole_text x p s)) (length out) l) refl))
    (le? (length (whole_text x p s)) (length out)))
    (λ d. unshown z d (rw (eqb_same z, eqb_other d) refl)))
    (λ d. unsound d (rw (eqb_other d) refl))

-- ---- a refusal

-- A REFUSAL WRITES NO BYTE
pub obj_out : (x : List ℕ) (p : List ℤ) (s : ℕ) (out : List ℕ) → (obj_of x p s out).answer.refusal ≢ 0
    → (obj_of x p s out).out ≡ out
obj_out x p s out d = go (obj_ends x p s out)
  where
    go : TextEnds x p s out → (obj_of x p s out).out ≡ out
    go (unsound a e) = ap (λ (r : Texted). r.out) e
    go (unshown z a e) = ap (λ (r : Texted). r.out) e
    go (unfitting z y l e) = ap (λ (r : Texted). r.out) e
    go (written z y l e) = absurd (d (ap (λ (r : Texted). r.answer.refusal) e))

-- ---- a text

-- a call that answers 0: so many bytes at the front of the buffer are the text, of which a reader makes the solid's
-- points and cycles, turned round (`TextShows`); what stood behind stands there still
pub record TextRead (x : List ℕ) (p : List ℤ) (s : ℕ) (out : List ℕ) (r : Texted) : Type 0 where
  pub text : take r.answer.length r.out ≡ whole_text x p s
  pub read : read_obj (take r.answer.length r.out)
      ≡ some (mesh (points_of (shape_of x) x p s) (cycles_of (shape_of x) x s))
  pub shows : TextShows (shape_of x) x p s
  pub behind : drop r.answer.length r.out ≡ drop r.answer.length out
