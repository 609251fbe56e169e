use mathlib.Core.Path.{refl, sym}
use lib.Seq.{set_out}
use Rattle.wavefront_text.proofs.bytes.put_byte.Goals as goal

pub returns-then-at-out : goal.returns-then-at-out
returns-then-at-out c = (refl, refl)

pub returns : goal.returns
returns c = (refl, sym (set_out _ _ _ c.if-at-out.false))
