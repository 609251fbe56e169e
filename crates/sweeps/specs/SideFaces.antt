-- The mef half of a loop's sweep, for two corners and more: each mef is accepted and has the least numbers. Then all
-- sides stand, and the loop is lifted.
use Rattle.std.specs.Prelude.{◌≡◌, refl, ◌≢◌, List, ℕ, suc, ◌+◌, ◌*◌, ◌≤◌, ◌<◌, ℤ}
use Rattle.std.proofs.Common.{sym, ap, ◌∙◌, subst, arith}
use Rattle.laws.specs.Bools.{split, eqb_same, eqb_other}
use Rattle.script.specs.declared.Operator.{Operator}
use Rattle.layout.specs.declared.shape.Shape.{Shape}
use Rattle.layout.specs.Mate.{mate}
use Rattle.layout.specs.MateLaws.{mate_range}
use Rattle.layout.specs.Fields.{Start, Loop, Columns}
use Rattle.euler.specs.Exec.{refusal_of, links_after, points_after}
use Rattle.sound_tables.specs.Sound.{In, HalfUsed, Sound}
use Rattle.sound_tables.specs.Names.{free_halves}
use Rattle.sound_tables.specs.Good.{own, Good}
use Rattle.sound_cuts.specs.MefOperands.{mef_of}
use Rattle.sound_operators.specs.Theorems.{all_hold}
use Rattle.chains.specs.Numbers.{Names}
use Rattle.chains.specs.Least.{LeastNew}
use Rattle.chains.specs.Series.{OfTable, Takes}
use Rattle.sweeps.specs.Sweep.{down_at, side_at}
use Rattle.sweeps.specs.Closed.{MefFits, Parted, Closed, mef_accepted2, mef_points2, mef_parted2, mef_closed}
use Rattle.sweeps.specs.Rising.{On}
use Rattle.sweeps.specs.Closing.{stays, lifted, closed_side}
use Rattle.sweeps.specs.Frames.{Keeps, closed_keeps}
use Rattle.sweeps.specs.Numbers.{next_mef}
use Rattle.sweeps.specs.Lifted.{up_at, after_at, top_at, end_at, Side, side_keeps, Risen, risen_keeps}
use Rattle.sweeps.specs.Amid.{Setting, Amid, amid_at, amid_parted, side_rank, corner_rank, new_loop}
use Rattle.sweeps.specs.Amid.{up_no_corner, down_no_corner, top_no_corner, downs_differ}
use Rattle.sweeps.specs.Amid.{up_no_down, top_no_down, top_no_after, after_is_up, afters_differ, end_no_down}
use Rattle.sweeps.specs.Risers.{AfterMev}

-- after j mef: sides j and later stand open in loop l, after the edges of the earlier sides, which are closed
pub record Open (sh : Shape) (N : Names) (l z B : ℕ) (k : ℕ → ℕ) (c : Columns) (j : ℕ) : Type 0 where
  pub down : (i : ℕ) → j ≤ i → i ≤ z → On sh c l (down_at N B i) (k i)
  pub foot : (i : ℕ) → j ≤ i → i ≤ z → On sh c l (k i) (after_at N z B i)
  pub up : (i : ℕ) → j ≤ i → i ≤ z → On sh c l (after_at N z B i) (end_at N z B i)
  pub top : (i : ℕ) → suc i < j → On sh c l (top_at N z B i) (top_at N z B (suc i))
  pub last : (i : ℕ) → suc i ≡ j → On sh c l (top_at N z B i) (end_at N z B i)
  pub side : (i : ℕ) → i < j → Side sh c (N.loop (B + i)) (N.face (B + i)) (k i) (after_at N z B i)
      (mate (top_at N z B i)) (down_at N B i)

module _ {sh : Shape} {c₀ : Columns} {N : Names} {ne nn l z B : ℕ} {k : ℕ → ℕ} {X Y Z : ℕ → ℤ}
    (Q : Setting sh c₀ N ne nn l z B k X Y Z) (c₁ : Columns) (p₁ : List ℤ) where
  -- the down half of riser j
  abbrev H : ℕ → ℕ
  H j = down_at N B j

  -- the riser after corner j
  abbrev S : ℕ → ℕ
  S j = after_at N z B j

  -- the half of side j's edge that stays in the loop
  abbrev a : ℕ → ℕ
  a j = top_at N z B j

  -- where side j ends
  abbrev E : ℕ → ℕ
  E j = end_at N z B j

  -- mef over corner j
  abbrev mef : ℕ → Operator
  mef j = side_at N l z B j

  -- the numbers after j mef, and all new vertices
  abbrev pub AmidMef : ℕ → OfTable
  AmidMef j x p = Risen sh (own sh x) p (down_at N B) (λ i. N.vertex (B + i)) X Y Z (suc z)
      × Amid sh c₀ c₁ p₁ (own sh x) p l N ne nn (2 * B + suc z + j) (B + suc z) (B + j)

  -- after j mef
  abbrev pub AfterMef : ℕ → OfTable
  AfterMef j x p = Open sh N l z B k (own sh x) j × AmidMef j x p

  -- ---- one mef, from H j over corner j

  module _ (j : ℕ) (jz : j ≤ z) (x : List ℕ) (p : List ℤ) (g : Good sh x p) (q : AmidMef j x p) where
    -- its operands fit
    pub fits : MefFits sh (own sh x) l (N.edge (2 * B + suc z + j)) (N.face (B + j)) (N.loop (B + j))
    fits =
        let ej = side_rank Q j jz in
        let fj = corner_rank Q j jz in
        record {
          l_in = Q.l_in;
          l_used = q.1.used;
          e_in = Q.supply.edge_in_range (2 * B + suc z + j) ej;
          e_free = q.1.fresh.edges (2 * B + suc z + j) (omega arith) ej;
          f_in = Q.supply.face_in_lem (B + j) fj;
          f_free = q.1.fresh.faces (B + j) (omega arith) fj;
          m_in = Q.supply.loop_in (B + j) fj;
          m_free = q.1.fresh.loops (B + j) (omega arith) fj;
        }

    -- its edge is free
    pub fr : In (2 * sh.edges) (a j) × (own sh x Start (a j) ≡ 0) × (own sh x Start (mate (a j)) ≡ 0)
    fr = free_halves g.sound (N.edge (2 * B + suc z + j)) 0 fits.e_in fits.e_free

    -- the other half
    pub bin : In (2 * sh.edges) (mate (a j))
    bin = mate_range (a j) sh.edges fr.0.0 fr.0.1

    -- it takes the least numbers
    pub side_least : (w h1 h2 : ℕ) → LeastNew sh x (mef_of l h1 h2 (N.edge (2 * B + suc z + j)) (N.face (B + j))
        (N.loop (B + j)) w)
    side_least w h1 h2 =
        next_mef _ Q.supply q.1.fresh q.1.taking (side_rank Q j jz) (corner_rank Q j jz) l h1 h2 w

    -- what is left once it is done
    pub amid_more : (y : List ℕ) (t : List ℤ)
        → Parted sh (own sh x) (own sh y) l (a j) (mate (a j)) (N.face (B + j)) (N.loop (B + j))
        → Keeps sh (own sh x) p (own sh y) t (λ m. m ≢ l) → AmidMef (suc j) y t
    amid_more y t A K =
        let e1 : 2 * B + suc z + j + 1 ≡ 2 * B + suc z + suc j = omega arith in
        let e2 : B + j + 1 ≡ B + suc j = omega arith in (
          risen_keeps K q.0,
          amid_at e1 refl e2 (amid_parted Q.supply q.1 Q.l_in K (side_rank Q j jz) (corner_rank Q j jz) A),
        )

    -- between two corners
    module _ (oh : On sh (own sh x) l (H j) (k j)) (ok : On sh (own sh x) l (k j) (S j)) (os : On sh (own sh x) l (S
        j) (E j)) where
      -- where it ends is in use
      end_used : HalfUsed sh (own sh x) (E j)
      end_used = subst (HalfUsed sh (own sh x)) os.2 (g.sound.rules.loops.perm.f_in (S j) os.0)

      -- in the loop
      end_loop : own sh x Loop (E j) ≡ l
      end_loop = ap (own sh x Loop) (sym os.2) ∙ g.sound.rules.loops.keeps (S j) os.0 ∙ os.1

      -- and not where it begins
      ht : H j ≢ E j
      ht e = end_no_down Q j j jz (omega arith) (sym e)

      -- it is accepted
      side_accepted : refusal_of sh x (mef j) ≡ 0
      side_accepted = mef_accepted2 g fits (H j) (E j) oh.0 oh.1 end_used end_loop ht

      -- the columns afterwards
      abbrev d : Columns
      d = own sh (links_after sh x (mef j))

      -- the loops afterwards
      A : Parted sh (own sh x) (own sh (links_after sh x (mef j))) l (a j) (mate (a j)) (N.face (B + j)) (N.loop (B
          + j))
      A = mef_parted2 g fits (H j) (E j) oh.0 oh.1 end_used end_loop ht

      -- what follows what
      C : Closed sh (own sh x) (own sh (links_after sh x (mef j))) (H j) (E j) (a j)
      C = mef_closed g fits (H j) (E j) oh.0 oh.1 end_used end_loop ht

      -- sound
      D : Sound sh (points_after sh x p (mef j)) (own sh (links_after sh x (mef j)))
      D = (all_hold sh x p (mef j) g refl side_accepted).0.sound

      -- other loops are kept
      K : Keeps sh (own sh x) p (own sh (links_after sh x (mef j))) (points_after sh x p (mef j)) (λ m. m ≢ l)
      K = closed_keeps g.sound A C oh.0 oh.1 end_used end_loop fr.1 fr.2 fits.m_free fits.f_free
          (mef_points2 g fits (H j) (E j) oh.0 oh.1 end_used end_loop ht)

      -- its three half-edges differ
      hk : H j ≢ k j
      hk = down_no_corner Q j j jz jz

      -- the riser down is not the riser up
      hs : H j ≢ S j
      hs = after_is_up Q (λ i. H j ≢ i) j jz (λ m u e. up_no_down Q m j u jz (sym e))

      -- nor is the corner
      ks : k j ≢ S j
      ks = after_is_up Q (λ i. k j ≢ i) j jz (λ m u e. up_no_corner Q m j u jz (sym e))

      -- a half-edge of the loop stays, and what follows it
      keep : (n y : ℕ) → On sh (own sh x) l n y → n ≢ H j → n ≢ k j → n ≢ S j → y ≢ H j → On sh d l n y
      keep = stays g.sound D A C fr.1 fr.2 bin oh ok os hk hs ks ht

      -- the one before H j is followed by the new one
      lift_on : (n : ℕ) → On sh (own sh x) l n (H j) → n ≢ H j → n ≢ k j → n ≢ S j → On sh d l n (a j)
      lift_on = lifted g.sound D A C fr.1 fr.2 bin oh ok os hk hs ks ht

      -- later corners stand
      down_on : (i : ℕ) → suc j ≤ i → i ≤ z → On sh (own sh x) l (H i) (k i) → On sh d l (H i) (k i)
      down_on i h u o = keep (H i) (k i) o (λ e. omega (arith, h, downs_differ Q i j u jz e))
          (down_no_corner Q i j u jz) (after_is_up Q (λ n. H i ≢ n) j jz (λ m w e. up_no_down Q m i w u (sym e)))
          (λ e. down_no_corner Q j i jz u (sym e))

      -- and what follows them
      foot_on : (i : ℕ) → suc j ≤ i → i ≤ z → On sh (own sh x) l (k i) (S i) → On sh d l (k i) (S i)
      foot_on i h u o = keep (k i) (S i) o (λ e. down_no_corner Q j i jz u (sym e))
          (λ e. omega (arith, h, Q.lap.apart i j u jz e))
          (after_is_up Q (λ n. k i ≢ n) j jz (λ m w e. up_no_corner Q m i w u (sym e)))
          (after_is_up Q (λ n. n ≢ H j) i u (λ m w e. up_no_down Q m j w jz e))

      -- S i is none of the three
      S_off : (i : ℕ) → suc j ≤ i → i ≤ z → (S i ≢ H j) × (S i ≢ k j) × (S i ≢ S j)
      S_off i h u = (
        after_is_up Q (λ n. n ≢ H j) i u (λ m w e. up_no_down Q m j w jz e),
        after_is_up Q (λ n. n ≢ k j) i u (λ m w e. up_no_corner Q m j w jz e),
        λ e. omega (arith, h, afters_differ Q i j u jz e),
      )

      -- so later risers stand
      up_on : (i : ℕ) → suc j ≤ i → i ≤ z → On sh (own sh x) l (S i) (E i) → On sh d l (S i) (E i)
      up_on i h u o = let w = S_off i h u in keep (S i) (E i) o w.0 w.1 w.2 (end_no_down Q i j u (omega arith))

      -- the edge of an earlier side stays
      top_on : (i : ℕ) → suc i < j → On sh (own sh x) l (a i) (a (suc i)) → On sh d l (a i) (a (suc i))
      top_on i h o = let u : i ≤ z = omega arith in
          keep (a i) (a (suc i)) o (top_no_down Q i j u jz) (top_no_corner Q i j u jz) (top_no_after Q i j u jz)
          (top_no_down Q (suc i) j (omega arith) jz)

      -- that of the one before is followed by the new one
      top_next : (i : ℕ) → suc i ≡ j → On sh (own sh x) l (a i) (E i) → On sh d l (a i) (a (suc i))
      top_next i e o =
          let u : i ≤ z = omega arith in
          let n : i ≢ z = λ y. omega (arith, e, jz, y) in
          let o' : On sh (own sh x) l (a i) (H (suc i)) = rw (eqb_other n) at o in
          subst (λ m. On sh d l (a i) (a m)) (sym e)
          (lift_on (a i) (subst (λ m. On sh (own sh x) l (a i) (H m)) e o') (top_no_down Q i j u jz)
          (top_no_corner Q i j u jz) (top_no_after Q i j u jz))

      -- the new one is followed by where the side ends
      top_new : On sh d l (a j) (E j)
      top_new = ((fr.0.0, fr.0.1, A.start_a), A.loop_a, C.next_a)

      -- so it is for the last
      last_on : (i : ℕ) → suc i ≡ suc j → On sh d l (a i) (E i)
      last_on i e = let y : j ≡ i = omega (arith, e) in subst (λ m. On sh d l (a m) (E m)) y top_new

      -- the side is closed
      side_new : Side sh d (N.loop (B + j)) (N.face (B + j)) (k j) (S j) (mate (a j)) (H j)
      side_new = closed_side g.sound D A C fr.1 fr.2 bin oh ok os hk hs ks ht

      -- and earlier ones stay closed
      side_on : (i : ℕ) → i < suc j
          → (i < j → Side sh (own sh x) (N.loop (B + i)) (N.face (B + i)) (k i) (S i) (mate (a i)) (H i))
          → Side sh d (N.loop (B + i)) (N.face (B + i)) (k i) (S i) (mate (a i)) (H i)
      side_on i h o = split i j
          (λ e. subst (λ m. Side sh d (N.loop (B + m)) (N.face (B + m)) (k m) (S m) (mate (a m)) (H m)) (sym e)
          side_new)
          (λ e.
          let u : i ≤ z = omega arith in
          let b = corner_rank Q i u in
          side_keeps K (new_loop Q i u) (Q.supply.loop_in (B + i) b) (Q.supply.face_in_lem (B + i) b)
          (o (omega arith)))

      -- what is left
      amid_next : AmidMef (suc j) (links_after sh x (mef j)) (points_after sh x p (mef j))
      amid_next = amid_more (links_after sh x (mef j)) (points_after sh x p (mef j)) A K

  -- ---- sides 1 and later

  -- one more
  pub side_takes : (j : ℕ) → 1 ≤ j → j < 1 + z → (x : List ℕ) (p : List ℤ) → Good sh x p → AfterMef j x p
      → Takes sh (LeastNew sh) x p (side_at N l z B j) (AfterMef (suc j))
  side_takes j _ h x p g q =
      let jz : j ≤ z = omega arith in
      let oh = q.0.down j (omega arith) jz in
      let ok = q.0.foot j (omega arith) jz in
      let os = q.0.up j (omega arith) jz in
      let am = q.1 in (
        refl,
        side_accepted j jz x p g am oh ok os,
        side_least j jz x p g am 0 (H j) (E j),
        (
          record {
            down = λ i b u. down_on j jz x p g am oh ok os i b u (q.0.down i (omega arith) u);
            foot = λ i b u. foot_on j jz x p g am oh ok os i b u (q.0.foot i (omega arith) u);
            up = λ i b u. up_on j jz x p g am oh ok os i b u (q.0.up i (omega arith) u);
            top = λ i b. split (suc i) j
                (λ e. top_next j jz x p g am oh ok os i e (q.0.last i e))
                (λ e. let v : suc i < j = omega arith in top_on j jz x p g am oh ok os i v (q.0.top i v));
            last = last_on j jz x p g am oh ok os;
            side = λ i b. side_on j jz x p g am oh ok os i b (q.0.side i);
          },
          amid_next j jz x p g am oh ok os,
        ),
      )

  -- ---- the first

  -- the loop once all risers are up
  module _ {x : List ℕ} {p : List ℤ} (g : Good sh x p) (q : AfterMev Q c₁ p₁ (suc z) x p) where
    -- as the mef half finds it
    pub amid_first : AmidMef 0 x p
    amid_first =
        let e1 : 2 * B + suc z ≡ 2 * B + suc z + 0 = omega arith in
        let e2 : B ≡ B + 0 = omega arith in
        (q.1, amid_at e1 refl e2 q.2)

    -- corner i is followed by the riser after it
    pub foot1 : (i : ℕ) → i ≤ z → On sh (own sh x) l (k i) (S i)
    foot1 i u = (
      q.0.used i u,
      q.0.loop i u,
      split i z
          (λ e. rw (eqb_same e, e) (q.0.foot 0 (omega arith) (omega arith)))
          (λ e. rw (eqb_other e) (q.0.foot (suc i) (omega arith) (omega arith))),
    )

    -- which is followed by its down half
    up1 : (i : ℕ) → i ≤ z → i ≢ z → On sh (own sh x) l (S i) (E i)
    up1 i u e = rw (eqb_other e) (q.0.up (suc i) (omega arith) (omega arith))

    -- the first side
    pub first_takes : 1 ≤ z → Takes sh (LeastNew sh) x p (side_at N l z B 0) (AfterMef 1)
    first_takes z1 =
        let am = amid_first in
        let z0 : 0 ≤ z = omega arith in
        let n0 : 0 ≢ z = λ e. omega (arith, z1, e) in
        let oh = q.0.down 0 (omega arith) z0 in
        let ok = foot1 0 z0 in
        let os = up1 0 z0 n0 in
        let first = q.0.up 0 (omega arith) z0 in
        let w = S_off 0 z0 x p g am oh ok os z z1 (omega arith) in (
          refl,
          side_accepted 0 z0 x p g am oh ok os,
          side_least 0 z0 x p g am 0 (H 0) (E 0),
          (
            record {
              down = λ i b u. down_on 0 z0 x p g am oh ok os i b u (q.0.down i (omega arith) u);
              foot = λ i b u. foot_on 0 z0 x p g am oh ok os i b u (foot1 i u);
              up = λ i b u. split i z
                  (λ e. rw e (rw (eqb_same {m = z} refl) (lift_on 0 z0 x p g am oh ok os (up_at N B 0) first
                  (rw (eqb_same {m = z} refl) at w.0) (rw (eqb_same {m = z} refl) at w.1) (rw (eqb_same {m = z}
                  refl) at w.2))))
                  (λ e. up_on 0 z0 x p g am oh ok os i b u (up1 i u e));
              top = λ i b. absurd (omega (arith, b));
              last = last_on 0 z0 x p g am oh ok os;
              side = λ i b. side_on 0 z0 x p g am oh ok os i b (λ n. absurd (omega (arith, n)));
            },
            amid_next 0 z0 x p g am oh ok os,
          ),
        )
