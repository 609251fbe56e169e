use mathlib.Core.Path.{refl}
use Rattle.layout.specs.Fields.{Start}
use Rattle.layout.specs.LayoutLaws.{read_field}
use Rattle.layout.proofs.columns.start_of.Goals as goal

-- base, width and word of the field Start, each by itself: a word of another field is refused at its number
pub returns : goal.returns
returns c = let b = c.args in (
  read_field b.sh Start _ _ _ b.links.now b.n _ c.cell.ensures.0 refl refl refl,
  c.cell.ensures.1,
)
