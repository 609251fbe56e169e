use Rattle.wavefront_text.specs.LineLaws.{put_corner, rank_low}
use native.Mathlib.Omega.{arith}
use Rattle.wavefront_text.proofs.lines.put_corner.Goals as goal

pub put_number-requires : goal.put_number-requires
put_number-requires c = (
  omega arith,
  omega (
    arith,
    rank_low
        c.args.ranks.now
        c.start_of-v.result
        _ c.requires.2
        c.rank_of-rank.ensures,
  ),
)

pub returns : goal.returns
returns c = let a = c.args in
    let r = put_corner a.out.now _ _ _ _ _ a.sh a.links.now a.ranks.now a.k
    _ _ _ c.requires.2
    c.start_of-v.ensures.0
    c.rank_of-rank.ensures
    c.put_byte-number.ensures
    c.put_number.ensures (omega arith) in
    let both = r in record { put = both.0; upper_bound = both.1 }
