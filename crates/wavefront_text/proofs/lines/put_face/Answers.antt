use Rattle.wavefront_text.specs.LineLaws.{lap_on, lap_back, lap_end, put_face}
use Rattle.wavefront.specs.Obj.{corner_word}
use Rattle.layout.specs.Layout.{prev_of}
use Rattle.std.proofs.Common.{refl, ◌∙◌, get_or, arith, ◌≡◌, ◌-◌, ◌*◌}
use Rattle.wavefront_text.proofs.lines.put_face.Goals.{else-loop-test, then-loop-test+then-k-first}
use Rattle.wavefront_text.proofs.lines.put_face.Goals as goal

pub loop-init : goal.loop-init
loop-init c = let e : 2 * c.args.sh.edges - 0 ≡ 2 * c.args.sh.edges = omega arith in
    (omega arith, omega arith, rw e (refl, refl))

pub loop-preserved : goal.loop-preserved
loop-preserved c = (
  omega arith,
  omega arith,
  lap_on _ _ _ _ _ _ (corner_word c.args.sh c.args.links.now (λ v. get_or c.args.ranks.now v 0))
      (prev_of c.args.sh c.args.links.now) _ _ _ _ _ (omega arith) c.loop.invariant.2
      c.put_corner-place.ensures.put c.prev_of-k.ensures.0 c.if-k-first.false (omega arith),
)

pub put_byte-requires : goal.put_byte-requires
put_byte-requires c = elim c.loop-test.branch [
  | else-loop-test w ↦ omega arith
  | then-loop-test+then-k-first w ↦ omega arith
]

pub returns-clause-put : goal.returns-clause-put
returns-clause-put c = put_face c.args.out.now _ _ _ _ _ _ _ c.args.sh c.args.links.now
    (λ v. get_or c.args.ranks.now v 0) c.args.f _ _ _ c.face_outer.ensures.0 c.loop_first-first.ensures.0 refl
    c.put_byte-place.ensures
    (elim c.loop-test.branch [
      | else-loop-test w ↦ let h = lap_end _ _ _ _ (corner_word c.args.sh c.args.links.now
          (λ v. get_or c.args.ranks.now v 0)) (prev_of c.args.sh c.args.links.now) _ _ _ (omega arith)
          c.loop.invariant.2 in (w.place-is ∙ h.0, w.out-is ∙ h.1)
      | then-loop-test+then-k-first w ↦ let h = lap_back _ _ _ _ _ _ (corner_word c.args.sh c.args.links.now
          (λ v. get_or c.args.ranks.now v 0)) (prev_of c.args.sh c.args.links.now) _ _ _ _ (omega arith)
          c.loop.invariant.2 w.put_corner-place.ensures.put w.prev_of-k.ensures.0 w.if-k-first.true in
          (w.place-is ∙ h.0, w.out-is ∙ h.1)
    ]) c.put_byte.ensures

pub returns-clause-upper_bound : goal.returns-clause-upper_bound
returns-clause-upper_bound c = elim c.loop-test.branch [
  | else-loop-test w ↦ omega arith
  | then-loop-test+then-k-first w ↦ omega arith
]
