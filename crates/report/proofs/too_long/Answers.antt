use Rattle.report.specs.Text.{too_long}
use Rattle.text.specs.Put.{put_front}
use Rattle.report.proofs.too_long.Goals as goal

pub returns : goal.returns
returns c = put_front c.args.out.now _ too_long _ c.put_bytes.ensures
