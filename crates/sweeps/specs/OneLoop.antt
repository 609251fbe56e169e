-- The sweep of one loop: its mev and its mef are accepted one after the other, each with the least numbers. They leave
-- the loop lifted and keep the other loops.
use Rattle.std.specs.Prelude.{◌≡◌, refl, ◌≢◌, List, ◌++◌, ℕ, suc, ◌+◌, ◌*◌, ◌≤◌, ℤ}
use Rattle.std.proofs.Common.{sym, subst, arith}
use Rattle.laws.specs.Bools.{split, eqb_same, eqb_other}
use Rattle.layout.specs.declared.shape.Shape.{Shape}
use Rattle.layout.specs.Fields.{Columns}
use Rattle.euler.specs.Exec.{links_after, points_after}
use Rattle.sound_tables.specs.Good.{own, Good}
use Rattle.sound_operators.specs.Theorems.{all_hold}
use Rattle.chains.specs.Numbers.{Names}
use Rattle.chains.specs.Least.{LeastNew}
use Rattle.chains.specs.Series.{series, OfTable, Takes, Reach, reach_none, reach_first, reach_append, reach_map}
use Rattle.chains.specs.Series.{reach_series}
use Rattle.sweeps.specs.Sweep.{down_at, riser_at, side_at, only_side, sides_of}
use Rattle.sweeps.specs.Closed.{mef_accepted1, mef_points1, mef_parted1, mef_lapped}
use Rattle.sweeps.specs.Rising.{On}
use Rattle.sweeps.specs.Closing.{lapped_side}
use Rattle.sweeps.specs.Frames.{Keeps, keeps_all, loop_keeps, lapped_keeps, Grew}
use Rattle.sweeps.specs.Numbers.{Fresh, Taking}
use Rattle.sweeps.specs.Lifted.{up_at, after_at, top_at, top_after, Lifted}
use Rattle.sweeps.specs.Amid.{Setting, Amid, amid_at, up_no_corner, up_no_down}
use Rattle.sweeps.specs.Risers.{AfterMev, risers_start, risers_reach}
use Rattle.sweeps.specs.SideFaces.{AfterMef, fits, fr, bin, side_least, amid_more, side_takes}
use Rattle.sweeps.specs.SideFaces.{amid_first, foot1, first_takes}

module _ {sh : Shape} {c₀ : Columns} {N : Names} {ne nn l z B : ℕ} {k : ℕ → ℕ} {X Y Z : ℕ → ℤ}
    (Q : Setting sh c₀ N ne nn l z B k X Y Z) (c₁ : Columns) (p₁ : List ℤ) where
  -- what is left of a loop: it is lifted, and the numbers after its own are the next
  abbrev pub Done : OfTable
  Done x p = Lifted sh N k X Y Z l z B (own sh x) p
      × Amid sh c₀ c₁ p₁ (own sh x) p l N ne nn (2 * (B + suc z)) (B + suc z) (B + suc z)

  -- all numbers are taken
  amid_done : (x : List ℕ) {p : List ℤ} (j : ℕ) → j ≡ suc z
      → Amid sh c₀ c₁ p₁ (own sh x) p l N ne nn (2 * B + suc z + j) (B + suc z) (B + j)
      → Amid sh c₀ c₁ p₁ (own sh x) p l N ne nn (2 * (B + suc z)) (B + suc z) (B + suc z)
  amid_done x j e q =
      let e1 : 2 * B + suc z + j ≡ 2 * (B + suc z) = omega (arith, e) in
      let e2 : B + j ≡ B + suc z = omega (arith, e) in
      amid_at e1 refl e2 q

  -- two corners and more: after the last mef
  done_by : (x : List ℕ) (p : List ℤ) → AfterMef Q c₁ p₁ (1 + z) x p → Done x p
  done_by x p q = (
    record {
      side = λ j u. q.0.side j (omega arith);
      top = λ j u. split j z
          (λ e. let o = q.0.last j (omega (arith, e)) in rw (eqb_same e) (rw (eqb_same e) at o))
          (λ e. rw (eqb_other e) (q.0.top j (omega arith)));
      risen = q.1.0;
    },
    amid_done _ (1 + z) (omega arith) q.1.1,
  )

  -- ---- one corner

  -- its only side: mef at the riser's down half, way 2
  lone_takes : z ≡ 0 → (x : List ℕ) (p : List ℤ) → Good sh x p → AfterMev Q c₁ p₁ (suc z) x p
      → Takes sh (LeastNew sh) x p (only_side N l z B) Done
  lone_takes z0 x p g q =
      let u : 0 ≤ z = omega arith in
      let H = down_at N B 0 in
      let o = only_side N l z B in
      let am = amid_first Q c₁ p₁ g q in
      let oh = q.0.down 0 (omega arith) u in
      let s0 : after_at N z B 0 ≡ up_at N B 0 = rw (eqb_same (sym z0)) in
      let ok = subst (On sh (own sh x) l (k 0)) s0 (foot1 Q c₁ p₁ g q 0 u) in
      let os = q.0.up 0 (omega arith) u in
      let ft = fits Q c₁ p₁ 0 u x p g am in
      let f = fr Q c₁ p₁ 0 u x p g am in
      let acc = mef_accepted1 g ft H oh.0 oh.1 in
      let A = mef_parted1 g ft H oh.0 oh.1 in
      let C = mef_lapped g ft H oh.0 oh.1 in
      let K = lapped_keeps g.sound A C oh.0 oh.1 f.1 f.2 ft.m_free ft.f_free
      (mef_points1 g ft H oh.0 oh.1) in
      let S = lapped_side g.sound (all_hold sh x p o g refl acc).0.sound A C f.1 f.2 (bin Q c₁ p₁ 0 u x p g
      am) oh ok os (λ e. up_no_down Q 0 0 u u (sym e)) (λ e. up_no_corner Q 0 0 u u (sym e)) in
      let t0 : top_after N z B 0 ≡ top_at N z B 0 = rw (eqb_same (sym z0)) in
      let cl = amid_more Q c₁ p₁ 0 u x p g am (links_after sh x o) (points_after sh x p o) A K in (
        refl,
        acc,
        side_least Q c₁ p₁ 0 u x p g am 2 H H,
        (
          record {
            side = λ j v. let e : j ≡ 0 = omega arith in rw e (rw s0 S);
            top = λ j v. let e : j ≡ 0 = omega arith in rw e (rw t0 (
              (f.0.0, f.0.1, A.start_a),
              A.loop_a,
              C.next_a,
            ));
            risen = cl.0;
          },
          amid_done _ (suc 0) (omega (arith, z0)) cl.1,
        ),
      )

  -- ---- the whole loop

  -- all sides
  sides_reach : (x : List ℕ) (p : List ℤ) → Good sh x p → AfterMev Q c₁ p₁ (suc z) x p
      → Reach sh (LeastNew sh) (sides_of N l z B) x p Done
  unfolding series
  sides_reach x p g q = split z 0
      (λ e. rw (eqb_same e) (reach_first {Q = Done} {P = Done} g (lone_takes e x p g q) (λ y t g' h. reach_none {P =
      Done} g' h)))
      (λ e. rw (eqb_other e) (reach_first {Q = AfterMef Q c₁ p₁ 1} {P = Done} g (first_takes Q c₁ p₁ g q (omega arith))
      (λ y t g' h. reach_map {Q = AfterMef Q c₁ p₁ (1 + z)} {P = Done}
      (reach_series (side_at N l z B) (AfterMef Q c₁ p₁) 1 z (side_takes Q c₁ p₁) g' h)
      (λ y' t' g'' h'. done_by y' t' h'))))

-- A LOOP IS SWEPT: from a table x, p where it is as at the call
pub loop_reach : {sh : Shape} {c₀ : Columns} {N : Names} {ne nn l z B : ℕ} {k : ℕ → ℕ} {X Y Z : ℕ → ℤ} {p₀ : List ℤ}
    {O : ℕ → Type 0} (Q : Setting sh c₀ N ne nn l z B k X Y Z) {x : List ℕ} {p : List ℤ} → Good sh x p
    → Keeps sh c₀ p₀ (own sh x) p O → O l → Fresh (own sh x) N ne nn (2 * B) B B
    → Taking sh c₀ (own sh x) N (2 * B) B B → Grew sh c₀ (own sh x) (2 * B) B B
    → Reach sh (LeastNew sh) (series 0 (suc z) (riser_at N l B k X Y Z) ++ sides_of N l z B) x p (Done Q (own sh x) p)
loop_reach {sh} {l = l} {z} {O = O} Q {x} {p} g R o F T₀ G =
    reach_append {Q = AfterMev Q (own sh x) p (suc z)} {P = Done Q (own sh x) p} (risers_reach Q (own sh x) p g
    (risers_start Q (own sh x) p x
    (λ j u. R.half _ (Q.lap.used j u) (subst O (sym (Q.lap.loop j u)) o))
    (record {
      used = loop_keeps R l Q.l_in Q.l_used;
      keeps = keeps_all sh (own sh x) p (λ m. m ≢ l);
      fresh = F;
      taking = T₀;
      grew = G;
    })))
    (sides_reach Q (own sh x) p)
