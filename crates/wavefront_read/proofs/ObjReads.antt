-- A reader finds the solid in the buffer, of every call that answers 0.
use Rattle.std.specs.Prelude.{◌≡◌, List, ◌++◌, ℕ, ◌≤◌, ℤ, length, take, drop}
use Rattle.std.proofs.Common.{sym, ap, ◌∙◌, zero-add, arith}
use Rattle.std.proofs.lemmas.List.Edits.{sets, sets-eq}
use Rattle.std.proofs.Math.Seq.{take-append_seam, drop-append_seam}
use Rattle.layout.specs.Layout.{shape_of}
use Rattle.promises.specs.Checked.{checked_valid}
use Rattle.wavefront.specs.Obj.{Texted, obj_of}
use Rattle.wavefront_read.specs.Reader.{read_obj}
use Rattle.wavefront_read.specs.ReadBack.{obj_read}
use Rattle.wavefront_read.specs.Written.{whole_text, TextEnds, unsound, unshown, unfitting, written, obj_ends, TextRead}
use Rattle.wavefront_read.proofs.TextShows.{text_shows}

-- the front of the buffer is the text, and behind it nothing changed
front : (t out : List ℕ) → length t ≤ length out
    → (take (length t) (sets out 0 t) ≡ t) × (drop (length t) (sets out 0 t) ≡ drop (length t) out)
front t out h =
    let e : sets out 0 t ≡ t ++ drop (length t) out =
    sets-eq t out 0 (omega arith) ∙ ap (λ n. t ++ drop n out) (zero-add (length t)) in
    rw e (take-append_seam t (drop (length t) out), drop-append_seam t (drop (length t) out))

-- A READER FINDS THE SOLID IN THE BUFFER, of every call that answers 0
pub obj_reads : (x : List ℕ) (p : List ℤ) (s : ℕ) (out : List ℕ) → (obj_of x p s out).answer.refusal ≡ 0
    → TextRead x p s out (obj_of x p s out)
obj_reads x p s out h = go (obj_ends x p s out)
  where
    number : {r : Texted} → obj_of x p s out ≡ r → r.answer.refusal ≡ 0
    number e = ap (λ (r : Texted). r.answer.refusal) (sym e) ∙ h

    go : TextEnds x p s out → TextRead x p s out (obj_of x p s out)
    go (unsound d e) = absurd (d (number e))
    go (unshown z d e) = absurd (d (number e))
    go (unfitting z y l e) = absurd (omega (arith, number e))
    go (written z y l e) =
        let f = front (whole_text x p s) out l in
        rw e (record {
          text = f.0;
          read = ap read_obj f.0 ∙ obj_read (shape_of x) x p s;
          shows = text_shows x p (checked_valid x p z) s y;
          behind = f.1;
        })
