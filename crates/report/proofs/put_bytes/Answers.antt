use Rattle.std.proofs.Common.{arith, refl, sym, ap, ◌∙◌, ◌++◌, ◌+◌, length, take}
use Rattle.std.proofs.lemmas.List.Edits.{sets-eq}
use mathlib.Core.List.{append_assoc}
use borrow.Rule.Slice.PartMut.{put_mid, Post-is}
use Rattle.report.proofs.put_bytes.Goals as goal

pub returns : goal.returns
returns c = let a = c.args in let e = a.at + length a.text.now in (
  refl,
  ap (put_mid a.at _ a.out.now) c.copy_from_slice.ensures.after
      ∙ ap (λ t. take a.at a.out.now ++ (a.text.now ++ t)) (Post-is a.at e a.out.now (omega arith))
      ∙ sym (append_assoc (take a.at a.out.now) a.text.now _)
      ∙ sym (sets-eq a.text.now a.out.now a.at c.requires),
)
