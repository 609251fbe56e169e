-- The mev half of a loop's sweep: each mev is accepted and has the least numbers. Then the risers stand.
use Rattle.std.specs.Prelude.{◌≡◌, refl, ◌≢◌, List, ℕ, suc, ◌+◌, ◌*◌, ◌≤◌, ◌<◌, ℤ}
use Rattle.std.proofs.Common.{sym, ◌∙◌, subst, inr, arith, lit≤}
use Rattle.laws.specs.Bools.{split}
use Rattle.layout.specs.declared.shape.Shape.{Shape}
use Rattle.layout.specs.MateLaws.{mate_range}
use Rattle.layout.specs.Points.{point_width, coordinate}
use Rattle.layout.specs.Fields.{Start, VertexUsed, Columns}
use Rattle.sound_tables.specs.Sound.{In, HalfUsed}
use Rattle.sound_tables.specs.Names.{free_halves}
use Rattle.sound_tables.specs.PointLists.{three}
use Rattle.sound_tables.specs.Good.{own, Good}
use Rattle.sound_spurs.specs.MevAccepted.{Mev, MevFits, mev_accepted}
use Rattle.chains.specs.Numbers.{Names}
use Rattle.chains.specs.Least.{LeastNew}
use Rattle.chains.specs.Series.{series, OfTable, Takes, Reach, reach_map, reach_series}
use Rattle.sweeps.specs.Sweep.{riser_at, down_at}
use Rattle.sweeps.specs.Raised.{mev_raised, mev_point, mev_others}
use Rattle.sweeps.specs.Rising.{Rising, rising_more}
use Rattle.sweeps.specs.Frames.{SameHalf, raised_keeps}
use Rattle.sweeps.specs.Numbers.{next_mev}
use Rattle.sweeps.specs.Lifted.{up_at, Risen, risen_keeps}
use Rattle.sweeps.specs.Amid.{Setting, Amid, amid_at, amid_raised, riser_rank, corner_rank, up_no_corner}
use Rattle.sweeps.specs.Amid.{down_no_corner}

-- one more new vertex
pub risen_more : {sh : Shape} {d : Columns} {q : List ℤ} {h w : ℕ → ℕ} {X Y Z : ℕ → ℤ} {n : ℕ}
    → Risen sh d q h w X Y Z n → HalfUsed sh d (h n) → d Start (h n) ≡ w n → In sh.vertices (w n)
    → d VertexUsed (w n) ≢ 0 → ((i : ℕ) → i < point_width → coordinate q (w n) i ≡ three (X n) (Y n) (Z n) i)
    → Risen sh d q h w X Y Z (suc n)
risen_more {n = n} y a b c e f = record {
  half = λ j u. split j n (λ z. rw z a) (λ z. y.half j (omega arith));
  start = λ j u. split j n (λ z. rw z b) (λ z. y.start j (omega arith));
  inside = λ j u. split j n (λ z. rw z c) (λ z. y.inside j (omega arith));
  used = λ j u. split j n (λ z. rw z e) (λ z. y.used j (omega arith));
  point = λ j u. split j n (λ z. rw z f) (λ z. y.point j (omega arith));
}

module _ {sh : Shape} {c₀ : Columns} {N : Names} {ne nn l z B : ℕ} {k : ℕ → ℕ} {X Y Z : ℕ → ℤ}
    (Q : Setting sh c₀ N ne nn l z B k X Y Z) (c₁ : Columns) (p₁ : List ℤ) where
  -- after j mev
  abbrev pub AfterMev : ℕ → OfTable
  AfterMev j x p = Rising sh (own sh x) l z k (up_at N B) j
      × Risen sh (own sh x) p (down_at N B) (λ i. N.vertex (B + i)) X Y Z j
      × Amid sh c₀ c₁ p₁ (own sh x) p l N ne nn (2 * B + j) (B + j) B

  -- the operands of riser j
  abbrev mev : ℕ → Mev
  mev j = record {
    loop = l;
    half = k j;
    edge = N.edge (2 * B + j);
    vertex = N.vertex (B + j);
    way = 0;
    x = X j;
    y = Y j;
    z = Z j;
  }

  -- one more
  riser_takes : (j : ℕ) → 0 ≤ j → j < 0 + suc z → (x : List ℕ) (p : List ℤ) → Good sh x p → AfterMev j x p
      → Takes sh (LeastNew sh) x p (riser_at N l B k X Y Z j) (AfterMev (suc j))
  riser_takes j _ h x p g q =
      let jz : j ≤ z = omega arith in
      let am = q.2 in
      let ej = riser_rank Q j jz in
      let vj = corner_rank Q j jz in
      let ef = am.fresh.edges (2 * B + j) (omega arith) ej in
      let vf = am.fresh.vertices (B + j) (omega arith) vj in
      let hu = q.0.used j jz in
      let fits : MevFits sh (own sh x) (mev j) = record {
        loop_in = Q.l_in;
        loop_used = am.used;
        edge_in_range = Q.supply.edge_in_range (2 * B + j) ej;
        edge_free = ef;
        vertex_in = Q.supply.vertex_in (B + j) vj;
        vertex_free = vf;
        corner = inr (hu, q.0.loop j jz);
        way = lit≤ tt;
        range = Q.range j jz;
      } in
      let R = mev_raised g fits hu in
      let fr = free_halves g.sound (N.edge (2 * B + j)) 0 (Q.supply.edge_in_range (2 * B + j) ej) ef in
      let bin = mate_range (up_at N B j) sh.edges fr.0.0 fr.0.1 in
      let v1 : N.vertex (B + j) ≢ 0 = λ y. omega (arith, (Q.supply.vertex_in (B + j) vj).0, y) in
      let K = raised_keeps g.sound R hu (q.0.loop j jz) fr.1 fr.2 vf (mev_others g fits hu) in
      let e1 : 2 * B + j + 1 ≡ 2 * B + suc j = omega arith in
      let e2 : B + j + 1 ≡ B + suc j = omega arith in (
        refl,
        mev_accepted sh x g.capacities fits,
        next_mev _ Q.supply am.fresh am.taking ej vj l (k j) 0 (X j) (Y j) (Z j),
        (
          rising_more Q.lap.apart q.0 jz R fr.0 bin fr.1 fr.2 v1 (up_no_corner Q) (down_no_corner Q),
          risen_more (risen_keeps K q.1) (bin.0, bin.1, λ y. v1 (sym R.start_b ∙ y)) R.start_b
              fits.vertex_in R.vertex_new (mev_point g fits hu),
          amid_at e1 e2 refl (amid_raised Q.supply am Q.l_in K ej vj R),
        ),
      )

  -- at first
  pub risers_start : (x : List ℕ) {p : List ℤ} → ((j : ℕ) → j ≤ z → SameHalf c₀ (own sh x) (k j))
      → Amid sh c₀ c₁ p₁ (own sh x) p l N ne nn (2 * B) B B → AfterMev 0 x p
  risers_start x same am =
      let e1 : 2 * B ≡ 2 * B + 0 = omega arith in
      let e2 : B ≡ B + 0 = omega arith in (
        record {
          used = λ j u. let w = Q.lap.used j u in (w.0, w.1, λ y. w.2 (sym (same j u).start ∙ y));
          loop = λ j u. (same j u).loop ∙ Q.lap.loop j u;
          prev = λ j h u. (same j u).prev ∙ Q.lap.prev j u;
          foot = λ j h. absurd (omega (arith, h));
          up = λ j h. absurd (omega (arith, h));
          down = λ j h. absurd (omega (arith, h));
        },
        record {
          half = λ j h. absurd (omega (arith, h));
          start = λ j h. absurd (omega (arith, h));
          inside = λ j h. absurd (omega (arith, h));
          used = λ j h. absurd (omega (arith, h));
          point = λ j h. absurd (omega (arith, h));
        },
        amid_at e1 e2 refl am,
      )

  -- ALL RISERS
  pub risers_reach : {x : List ℕ} {p : List ℤ} → Good sh x p → AfterMev 0 x p
      → Reach sh (LeastNew sh) (series 0 (suc z) (riser_at N l B k X Y Z)) x p (AfterMev (suc z))
  risers_reach {x} {p} g q =
      reach_map {Q = AfterMev (0 + suc z)} {P = AfterMev (suc z)}
      (reach_series (riser_at N l B k X Y Z) AfterMev 0 (suc z) riser_takes g q)
      (λ y t g' h. let e : 0 + suc z ≡ suc z = omega arith in subst (λ m. AfterMev m y t) e h)
