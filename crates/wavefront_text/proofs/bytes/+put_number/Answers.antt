use Rattle.std.proofs.Common.{arith}
use Rattle.wavefront_text.specs.PutLaws.{put_digit, put_last, place_last}
use Rattle.wavefront_text.proofs.bytes.+put_number.Goals as goal

pub returns-then-n-lt10 : goal.returns-then-n-lt10
returns-then-n-lt10 t c = put_digit _ _ _ _ _ c.if-n-lt10.true c.put_byte.ensures

pub put_byte-requires-2 : goal.put_byte-requires-2
put_byte-requires-2 t c = let h = place_last _ _ _ _ _ (omega arith) c.put_number-last.ensures in omega arith

pub returns : goal.returns
returns t c = put_last _ _ _ _ _ _ _ (omega arith) c.put_number-last.ensures c.put_byte-2.ensures
