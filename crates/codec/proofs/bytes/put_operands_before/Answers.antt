use mathlib.Core.Path.{◌≡◌, refl}
use Prim.Native.Nat.{◌<◌, ◌-◌}
use native.Mathlib.Omega.{arith}
use lib.ListN.{get_or}
use lib.IntN.{pos}
use Rattle.std.proofs.Common.{rules}
use Rattle.codec.specs.Operands.{wire}
use Rattle.codec.specs.BeforeLaws.{filled_fits, last_none, last_fits, last_turn}
use Rattle.codec.proofs.bytes.put_operands_before.Goals as goal

pub loop-i-init : goal.loop-i-init
loop-i-init c = let f = c.requires.kinds_value in
    let l = c.well_formed.1.1.1.0.1.0.1 in
    let k = filled_fits c.args.count c.args.kinds f in
    let m = c.well_formed.1.1.1.1.0.1.0.1 in
    let z = last_none c.args.kinds c.args.args l m c.args.count f in (
      omega arith,
      omega arith,
      f,
      l,
      m,
      refl,
      c.requires.args_len_bound.0,
      c.requires.args_len_bound.1,
      rw z (omega arith),
      rw z refl,
    )

pub write_before-p-requires : goal.write_before-p-requires
write_before-p-requires c = let v = c.loop-i.invariant in
    let i = c.loop-i.i - 1 in
    let e : c.to_wire.result ≡ wire (get_or c.args.kinds i 0) (get_or c.args.args i (pos 0)) = search rules in
    let h : 0 < c.loop-i.i = omega arith in
    let t = last_fits _ _ v.3 v.4 _ v.2 _ _ h v.0 e _ _ v.6 v.8 in
    (t.0, omega arith)

pub loop-i-preserved : goal.loop-i-preserved
loop-i-preserved c = let v = c.loop-i.invariant in
    let i = c.loop-i.i - 1 in
    let e : c.to_wire.result ≡ wire (get_or c.args.kinds i 0) (get_or c.args.args i (pos 0)) = search rules in
    let h : 0 < c.loop-i.i = omega arith in
    let w = c.write_before-p.ensures in
    let t = last_turn _ _ v.3 v.4 _ v.2 _ _ h v.0 e _ _ v.6 v.8 _ _ _ _ v.9 w.value w.out_after in
    (omega arith, v.1, v.2, v.3, v.4, omega arith, v.6, v.7, t.0, t.1)
