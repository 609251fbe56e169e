-- The ways through the walks, the tips and the moves of the lower ends, one law each, over plain variables.
use Rattle.std.specs.Prelude.{◌≡◌, ◌≢◌, Bool, true, false, ◌&&◌, List, eqb, ltb}
use Prim.Native.Nat.{ℕ, ◌+◌, ◌-◌, ◌*◌}
use borrow.Author.Tests.{eq-eqb, ne_eqb}
use Rattle.laws.specs.Bools.{pick}
use Rattle.layout.specs.declared.shape.Shape.{Shape}
use Rattle.layout.specs.Layout.{next_of, prev_of}
use Rattle.layout.specs.Mate.{mate}
use Rattle.layout.specs.Items.{face_in}
use Rattle.euler.specs.Queries.{faces_in}
use Rattle.takedown.specs.declared.ends.Ends.{Ends}
use Rattle.takedown.specs.Inversion.{is_spur}
use Rattle.takedown.specs.Swift.{seek, lesser, greater, ends_at, solid_from, enter, least_run, ring_ends}
use Rattle.takedown.specs.Swift.{spur_ends, cross_ends, tipped, least_tip, spur_from}

-- ---- the tips

module _ (sh : Shape) (x : List ℕ) (e : Ends) where
  module _ (t b : ℕ) (s : Bool) (es : s ≡ is_spur sh x e.solid t) where
    pub tip_taken : (ltb t e.spur && s) ≡ true → (r : ℕ) → r ≡ lesser t b → r ≡ tipped sh x e t b
    unfolding tipped
    tip_taken h r er = rw (← es, h) er

    pub tip_left : (ltb t e.spur && s) ≡ false → b ≡ tipped sh x e t b
    unfolding tipped
    tip_left h = rw (← es, h)

  pub tips_tried : (a b c d : ℕ) → a ≡ tipped sh x e e.tip4 (2 * sh.edges + 1) → b ≡ tipped sh x e e.tip3 a
      → c ≡ tipped sh x e e.tip2 b
      → d ≡ tipped sh x e e.tip c → d ≡ least_tip sh x e
  tips_tried a b c d ea eb ec ed = rw (ed, ec, eb, ea)

  module _ (t : ℕ) (et : t ≡ least_tip sh x e) where
    pub spur_sought : t ≡ 2 * sh.edges + 1 → (k : ℕ) → k ≡ seek (2 * sh.edges) e.spur (is_spur sh x e.solid)
        → k ≡ spur_from sh x e
    unfolding spur_from
    spur_sought h k ek = rw (← et, eq-eqb t (2 * sh.edges + 1) h) ek

    pub spur_tip : t ≢ 2 * sh.edges + 1 → t ≡ spur_from sh x e
    unfolding spur_from
    spur_tip h = rw (← et, ne_eqb t (2 * sh.edges + 1) h)

-- ---- a solid is entered

pub entered_is : (sh : Shape) (x : List ℕ) (low s r n : ℕ) (e : Ends) → s ≡ solid_from sh x low → r ≡ face_in sh x s
    → n ≡ faces_in sh x s → e ≡ ends_at s r n 1 1
    → e ≡ enter sh x low
unfolding enter
entered_is sh x low s r n e es er en ee = rw (← es, ← er, ← en) ee

-- ---- after A

module _ (e : Ends) (n near stray : ℕ) (en : n ≡ e.faces - 1) (still : Bool) where
  pub across_still : still ≡ true → (r : Ends) → r ≡ ends_at e.solid e.root n near stray
      → r ≡ ends_at e.solid e.root (e.faces - 1) (pick still near 1) (pick still stray 1)
  across_still h r er = rw (h, ← en) er

  pub across_moved : still ≡ false → (r : Ends) → r ≡ ends_at e.solid e.root n 1 1
      → r ≡ ends_at e.solid e.root (e.faces - 1) (pick still near 1) (pick still stray 1)
  across_moved h r er = rw (h, ← en) er

-- ---- after B

pub ring_ends_are : (sh : Shape) (x : List ℕ) (e : Ends) (k before m other a near ring spur tip3 tip4 : ℕ)
    → before ≡ prev_of sh x k → m ≡ mate k
    → other ≡ prev_of sh x m → a ≡ lesser before other → near ≡ lesser e.spur a
    → ring ≡ pick (eqb e.pair 1) (2 * sh.edges + 1) k
    → spur ≡ pick (eqb e.pair 1) e.spur near → tip3 ≡ pick (eqb e.pair 1) before e.tip3
    → tip4 ≡ pick (eqb e.pair 1) other e.tip4
    → record {
      solid = e.solid;
      root = e.root;
      faces = e.faces;
      border = 1;
      stray = 1;
      half = e.half;
      ring = ring;
      pair =
          0;
      spur = spur;
      tip = e.tip;
      tip2 = e.tip2;
      tip3 = tip3;
      tip4 = tip4;
      cross = e.cross;
      lone = 1;
    }
    ≡ ring_ends sh x e k
ring_ends_are sh x e k before m other a near ring spur tip3 tip4 eb em eo ea en er es e3 e4 =
    rw (er, es, en, ea, e3, e4, eo, em, eb)

pub spur_ends_are : (sh : Shape) (x : List ℕ) (e : Ends) (k before spur tip2 tip3 tip4 : ℕ) → before ≡ prev_of sh x k
    → spur ≡ greater e.spur k
    → tip2 ≡ pick (eqb e.tip2 k) e.tip e.tip2 → tip3 ≡ pick (eqb e.tip3 k) e.tip e.tip3
    → tip4 ≡ pick (eqb e.tip4 k) e.tip e.tip4
    → record {
      solid = e.solid;
      root = e.root;
      faces = e.faces;
      border = 1;
      stray = 1;
      half = e.half;
      ring = 2 * sh.edges
          + 1;
      pair = 0;
      spur = spur;
      tip = before;
      tip2 = tip2;
      tip3 = tip3;
      tip4 = tip4;
      cross = e.cross;
      lone = 1;
    }
    ≡ spur_ends sh x e k
spur_ends_are sh x e k before spur tip2 tip3 tip4 eb es e2 e3 e4 = rw (eb, es, e2, e3, e4)

pub cross_ends_are : (sh : Shape) (x : List ℕ) (e : Ends) (k m before other next ring : ℕ) → m ≡ mate k
    → before ≡ prev_of sh x k → other ≡ prev_of sh x m
    → next ≡ next_of sh x k → ring ≡ least_run sh (2 * sh.edges) x next m (2 * sh.edges + 1)
    → record {
      solid = e.solid;
      root = e.root;
      faces = e.faces;
      border = 1;
      stray = 1;
      half = e.half;
      ring = ring;
      pair =
          1;
      spur = 2 * sh.edges + 1;
      tip = before;
      tip2 = other;
      tip3 = before;
      tip4 = other;
      cross = k;
      lone = 1;
    }
    ≡ cross_ends sh x e k
cross_ends_are sh x e k m before other next ring em eb eo en er = rw (er, eb, eo, en, em)
