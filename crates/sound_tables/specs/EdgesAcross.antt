-- Faces across an edge, by the edge and by its halves: an edge in use is its first half, and a half-edge in use is of
-- an edge, one way or the other.
use Rattle.std.specs.Prelude.{◌≡◌, ◌≢◌, ℕ, ◌+◌, ◌-◌, ◌*◌, ◌/◌, ◌%◌}
use Rattle.std.proofs.Common.{sym, ap, ◌∙◌, arith}
use Rattle.laws.specs.Bools.{split}
use Rattle.laws.specs.Linked.{Linked, link, back}
use Rattle.layout.specs.declared.shape.Shape.{Shape}
use Rattle.layout.specs.Mate.{mate}
use Rattle.layout.specs.MateLaws.{mate_odd, mate_even, mate_mate}
use Rattle.layout.specs.Fields.{Start, Columns}
use Rattle.sound_tables.specs.Faces.{Share}
use Rattle.sound_tables.specs.Sound.{In, HalfUsed}

module _ (sh : Shape) (c : Columns) (mates : (k : ℕ) → HalfUsed sh c k → HalfUsed sh c (mate k)) (s : ℕ → ℕ) where
  -- an edge between two faces is its first half
  pub edge_half : (e f g : ℕ) → In sh.edges e → c Start (2 * e) ≢ 0 → s (2 * e - 1) ≡ f → s (2 * e) ≡ g
      → Share (HalfUsed sh c) s mate f g
  edge_half e f g i u ef eg =
      let m : mate (2 * e - 1) ≡ 2 * e = mate_odd (2 * e - 1) (omega (arith, i.0)) ∙ omega (arith, i.0) in
      let q : mate (2 * e) ≡ 2 * e - 1 = ap mate (sym m) ∙ mate_mate (2 * e - 1) in
      let w = mates (2 * e) (omega (arith, i.0), omega (arith, i.1), u) in
      (2 * e - 1, (omega (arith, i.0), omega (arith, i.1), λ z. w.2 (ap (c Start) q ∙ z)), ef, ap s m ∙ eg)

  -- and where each edge in use is a step, a half-edge leads from its face to its mate's
  pub half_edge : {R : ℕ → ℕ → Type 0}
      → ((e : ℕ) → In sh.edges e → HalfUsed sh c (2 * e - 1) → HalfUsed sh c (2 * e) → R (s (2 * e - 1)) (s (2 * e)))
      → (f g : ℕ) → Share (HalfUsed sh c) s mate f g → Linked R f g
  half_edge {R} step f g t =
      let k = t.0 in
      let w = t.1 in
      let m = mates k w in
      split (k % 2) 1
      (λ o.
      let i : In sh.edges ((k + 1) / 2) = (omega (arith, w.0), omega (arith, w.1)) in
      let e : 2 * ((k + 1) / 2) - 1 ≡ k = omega (arith, w.0) in
      let d : 2 * ((k + 1) / 2) ≡ mate k = omega (arith, w.0, mate_odd k o) in
      rw (← t.2, ← t.3) (link (rw (e, d) at (step ((k + 1) / 2) i (rw e w) (rw d m)))))
      (λ o.
      let i : In sh.edges (k / 2) = (omega (arith, w.0), omega (arith, w.1)) in
      let e : 2 * (k / 2) ≡ k = omega (arith, w.0) in
      let d : 2 * (k / 2) - 1 ≡ mate k = omega (arith, w.0, mate_even k o) in
      rw (← t.2, ← t.3) (back (link (rw (d, e) at (step (k / 2) i (rw d m) (rw e w))))))
