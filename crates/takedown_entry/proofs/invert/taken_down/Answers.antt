use Rattle.std.proofs.Common.{refl}
use Rattle.takedown_entry.specs.Entry.{in_small, in_counted, invert_short, invert_done, invert_lack}
use Rattle.takedown_entry.specs.Entry.{ended_ok, ended_err}
use Rattle.takedown_entry.proofs.invert.taken_down.Goals as goal

pub is_short-requires : goal.is_short-requires
is_short-requires c = let r = c.requires in
    in_counted _ _ c.args.log.now _ r.0 _ r.1 r.2 _ c.shape_of-sh.ensures

pub returns-then-is_short : goal.returns-then-is_short
returns-then-is_short c = let r = c.requires in
    invert_short _ _ _ _ r.0 _ r.1 r.2 _ c.shape_of-sh.ensures _ c.is_short.ensures c.if-is_short.true

pub invert_all-requires : goal.invert_all-requires
invert_all-requires c = let r = c.requires in
    in_small _ _ c.args.log.now _ r.0 _ r.1 r.2 _ c.shape_of-sh.ensures

pub returns-in-Ok : goal.returns-in-Ok
returns-in-Ok c = let r = c.requires in
    invert_done _ _ _ _ r.0 _ r.1 r.2 _ c.shape_of-sh.ensures _ c.is_short.ensures c.if-is_short.false _
    (ended_ok _ _ _ _ _ _ c.invert_all.ensures c.in-Ok.is) refl

pub roll_back-requires : goal.roll_back-requires
roll_back-requires c = let r = c.requires in
    in_small _ _ c.args.log.now _ r.0 _ r.1 r.2 _ c.shape_of-sh.ensures

pub returns-in-Err : goal.returns-in-Err
returns-in-Err c = let r = c.requires in
    invert_lack _ _ _ _ r.0 _ r.1 r.2 _ c.shape_of-sh.ensures _ c.is_short.ensures c.if-is_short.false _
    (ended_err _ _ _ _ _ _ c.invert_all.ensures c.in-Err.is) refl _ _ c.roll_back.ensures.0 c.roll_back.ensures.1
