use Rattle.wavefront_entry.specs.RankLaws.{mark_zero, mark_past, mark_one}
use Rattle.wavefront_entry.proofs.ranks.mark.Goals as goal

pub returns-then-v-eq0 : goal.returns-then-v-eq0
returns-then-v-eq0 c = mark_zero c.args.ranks.now _ c.if-v-eq0.true

pub returns-then-v-gt-MOST_ITEMS : goal.returns-then-v-gt-MOST_ITEMS
returns-then-v-gt-MOST_ITEMS c = mark_past c.args.ranks.now _ c.if-v-gt-MOST_ITEMS.true

pub returns : goal.returns
returns c = mark_one c.args.ranks.now _ c.if-v-eq0.false c.if-v-gt-MOST_ITEMS.false
