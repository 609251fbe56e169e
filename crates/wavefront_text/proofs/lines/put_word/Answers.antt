use Rattle.wavefront_text.specs.LineLaws.{word_asks, word_put, place_word}
use native.Mathlib.Omega.{arith}
use Rattle.wavefront_text.proofs.lines.put_word.Goals as goal

pub put_coordinate-requires : goal.put_coordinate-requires
put_coordinate-requires c = let a = c.args in (
  omega arith,
  word_asks a.points.now a.v a.i _ c.coordinate.ensures
      c.requires.3,
)

pub returns : goal.returns
returns c = let a = c.args in
    let e = c.coordinate.ensures in
    let t = c.requires.3 in
    let h = c.put_coordinate.ensures in record {
      put = word_put a.points.now a.v a.i _ e t a.out.now _ _ _ h;
      upper_bound = place_word a.points.now a.v a.i
          _ e t a.out.now _ _ _ h;
    }
