use Rattle.std.proofs.Common.{arith, rules}
use Rattle.refusals.specs.UnlessLaws.{held, not_held}
use Rattle.chains.specs.Numbers.{edge_free, vertex_free, face_free, loop_free}
use Rattle.sweep_call.specs.PlanLaws.{good_small, all_set, written_all_lem, written_none}
use Rattle.sweep_call.proofs.plan.write_script.Goals as goal

pub returns-in_err-ensure : goal.returns-in_err-ensure
returns-in_err-ensure c = let x = c.args.links.now in let sh = c.args.sh in
    let h = not_held _ _ _ _ c.from_residual.ensures.1 c.in_err-ensure.ensures in
    written_none _ _ _ _ _ _ _ _ _ _ _ _ _
    (c.free_numbers-nv.ensures (vertex_free sh x) (λ k l u b q. search rules)).many
    (c.free_numbers-ne.ensures (edge_free sh x) (λ k l u b q. search rules)).many
    (c.free_numbers-nf.ensures (face_free sh x) (λ k l u b q. search rules)).many
    (c.free_numbers-nl.ensures (loop_free sh x) (λ k l u b q. search rules)).many
    c.corners_to-n.ensures.0 c.enough.ensures h.0 h.1

pub put_face-put-requires : goal.put_face-put-requires
put_face-put-requires c = let x = c.args.links.now in let sh = c.args.sh in
    let k = all_set c.requires _ _ _ _ _ _ _ _ _ _
    (c.free_numbers-ne.ensures (edge_free sh x) (λ k l u b q. search rules))
    (c.free_numbers-nv.ensures (vertex_free sh x) (λ k l u b q. search rules))
    (c.free_numbers-nf.ensures (face_free sh x) (λ k l u b q. search rules))
    (c.free_numbers-nl.ensures (loop_free sh x) (λ k l u b q. search rules))
    c.corners_to-n.ensures.0 c.enough.ensures (held _ _ _ c.in_ok-ensure.ensures) in record {
      small = (good_small c.requires.good, k.few, omega (arith, k.few));
      named = k.named;
      liftable = k.lifts;
    }

pub returns : goal.returns
returns c = let x = c.args.links.now in let sh = c.args.sh in
    let k = all_set c.requires _ _ _ _ _ _ _ _ _ _
    (c.free_numbers-ne.ensures (edge_free sh x) (λ k l u b q. search rules))
    (c.free_numbers-nv.ensures (vertex_free sh x) (λ k l u b q. search rules))
    (c.free_numbers-nf.ensures (face_free sh x) (λ k l u b q. search rules))
    (c.free_numbers-nl.ensures (loop_free sh x) (λ k l u b q. search rules))
    c.corners_to-n.ensures.0 c.enough.ensures (held _ _ _ c.in_ok-ensure.ensures) in
    written_all_lem c.requires _ _ _ _ k _ _ _ _ (omega arith) c.put_face-put.ensures
