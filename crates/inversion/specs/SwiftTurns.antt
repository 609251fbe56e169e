-- B's turns keep the lower ends.
use Rattle.std.specs.Prelude.{◌≡◌, ◌≢◌, Bool, true, List, ℕ, zero, suc, ◌+◌, ◌*◌, ◌≤◌, ◌<◌, eqb, ℤ}
use Rattle.std.proofs.Math.Path.{refl, ap}
use Rattle.std.proofs.Common.{sym, ◌∙◌, eqb→eq}
use Rattle.std.proofs.Math.Logic.{⊎_elim}
use Rattle.std.proofs.Math.Bool.{false}
use Rattle.std.proofs.lemmas.Bool.{false≢true}
use native.Mathlib.Omega.{arith}
use Rattle.laws.specs.Bools.{pick, pick_ind, split, le?, true_T, eqb_same, eqb_other}
use Rattle.laws.specs.Permutations.{iter, iter_in}
use Rattle.layout.specs.declared.shape.Shape.{Shape}
use Rattle.layout.specs.Layout.{next_of}
use Rattle.layout.specs.Mate.{mate}
use Rattle.layout.specs.MateLaws.{mate_mate}
use Rattle.euler.specs.Queries.{faces_in}
use Rattle.euler.specs.Exec.{links_after, points_after}
use Rattle.layout.specs.Fields.{Loop, Next, Prev}
use Rattle.sound_tables.specs.EdgeIn.{prev_in}
use Rattle.sound_tables.specs.Sound.{In, HalfUsed}
use Rattle.sound_tables.specs.Walking.{Steps, steps_on}
use Rattle.sound_tables.specs.Good.{Good, own}
use Rattle.sound_bridges.specs.KemrColumns.{walk}
use Rattle.takedown.specs.Inversion.{solid_at, free_face, free_loop, edges_left, of_solid, in_ring, ring_half, is_spur}
use Rattle.takedown.specs.Inversion.{spur_half, crossed, is_crossed, crossed_half, kev, kemr}
use Rattle.inversion.specs.TurnCross.{span}
use Rattle.inversion.specs.OfSolid.{least_some, least_no, both, joint, of_solid_lem}
use Rattle.inversion.specs.Gone.{Goes}
use Rattle.inversion.specs.TurnsB.{ring_left, least_before, fails, InRing, in_ring_lem, kev_half, kev_next, kev_good}
use Rattle.inversion.specs.TurnsB.{kev_goes_on, kev_ring, parted_of, kemr_half, kemr_good, kemr_goes_on}
use Rattle.inversion.specs.TurnsB.{ring_half_lem, ring_good, ring_goes_on, ring_keeps}
use Rattle.inversion.specs.Spans.{kemr_spans, kemr_from, spans_none}
use Rattle.takedown.specs.declared.ends.Ends.{Ends}
use Rattle.takedown.specs.Swift.{lesser, greater, with_half, least_run, ring_ends, spur_ends, cross_ends}
use Rattle.inversion.specs.SwiftKept.{lesser_left, lesser_right, lesser_low, greater_one, Keeps, half_kept}
use Rattle.inversion.specs.SwiftKept.{spur_kept, cross_kept}

-- ---- kev

module _ {sh : Shape} {x : List ℕ} {p : List ℤ} (g : Good sh x p) (sn : solid_at sh x ≢ 0)
    (one : faces_in sh x (solid_at sh x) ≡ 1)
    (left : edges_left sh x (solid_at sh x) ≡ true) (none : ring_half sh x (solid_at sh x) ≡ 0)
    (spur : spur_half sh x (solid_at sh x) ≢ 0) where
  uk : HalfUsed sh (own sh x) (spur_half sh x (solid_at sh x))
  uk = kev_half g sn one left none spur

  nk : own sh x Next (spur_half sh x (solid_at sh x)) ≡ mate (spur_half sh x (solid_at sh x))
  nk = kev_next g sn one left none spur

  g₁ : Good sh (links_after sh x (kev (spur_half sh x (solid_at sh x))))
      (points_after sh x p (kev (spur_half sh x (solid_at sh x))))
  g₁ = kev_good g sn one left none spur

  G₁ : Goes sh x (links_after sh x (kev (spur_half sh x (solid_at sh x)))) (spur_half sh x (solid_at sh x))
  G₁ = kev_goes_on g sn one left none spur

  -- the lower ends
  pub kept_spur : (e : Ends) (r k₀ : ℕ) → Keeps sh x (solid_at sh x) r e → 1 ≤ k₀
      → ((i : ℕ) → In (2 * sh.edges) i → i < k₀ → of_solid sh x (solid_at sh x) i ≡ false)
      → Keeps sh (links_after sh x (kev (spur_half sh x (solid_at sh x)))) (solid_at sh x) r
      (spur_ends sh x (with_half e k₀)
      (spur_half sh x (solid_at sh x)))
  kept_spur e r k₀ K l₀ h₀ = record {
    border_low = omega arith;
    loop_low = omega arith;
    lone_low = omega arith;
    lone = λ i j h. absurd (omega (arith, j.0, h));
    loop = λ i j h. absurd (omega (arith, j.0, h));
    pair = λ z. absurd (omega (arith, z));
    half_low = l₀;
    ring_low = omega arith;
    spur_low = ⊎_elim (λ q. omega (arith, q, K.spur_low)) (λ q. omega (arith, q.0, q.1, K.spur_low))
        (greater_one e.spur (spur_half sh x (solid_at sh x)));
    cross_low = K.cross_low;
    tips_in =
        let u = prev_in g.sound.rules (spur_half sh x (solid_at sh x)) uk in
        let T = K.tips_in in (
          (u.0, u.1),
          pick_ind (In (2 * sh.edges)) (eqb e.tip2
              (spur_half sh x (solid_at sh x))) e.tip e.tip2 T.0 T.1,
          pick_ind (In (2 * sh.edges)) (eqb e.tip3
              (spur_half sh x (solid_at sh x))) e.tip e.tip3 T.0 T.2,
          pick_ind (In (2 * sh.edges)) (eqb e.tip4 (spur_half sh x (solid_at sh x))) e.tip e.tip4 T.0
              T.3,
        );
    border = λ i j h. absurd (omega (arith, j.0, h));
    half = λ i j h. half_kept g g₁ sn G₁ i j (h₀ i j h);
    ring = λ i j h. kev_ring g sn one left none spur i j
        (least_no (2 * sh.edges) (in_ring sh x (solid_at sh x)) none i j);
    spur = λ i j h d d₂ d₃ d₄. fails false _ refl (λ t. absurd (new i j h d d₂ d₃ d₄ t));
    cross = λ i j h. cross_kept g g₁ sn G₁ i j (K.cross i j h);
  }
    where
      -- the mate comes after k
      before_mate : own sh x Prev (mate (spur_half sh x (solid_at sh x))) ≡ spur_half sh x (solid_at sh x)
      before_mate = ap (own sh x Prev) (sym nk) ∙ g.sound.rules.undone (spur_half sh x (solid_at sh x)) uk

      -- a tip other than k is a tip still
      kept : (i t : ℕ) → i ≢ spur_half sh x (solid_at sh x) → i ≢ pick (eqb t (spur_half sh x (solid_at sh x))) e.tip t
          → i ≢ t
      kept i t d c z = split t (spur_half sh x (solid_at sh x)) (λ q. d (z ∙ q)) (λ q. c (rw (eqb_other q) z))

      -- where k is that tip, the first one is in its place
      first : (i t : ℕ) → spur_half sh x (solid_at sh x) ≡ t → i ≢ pick (eqb t (spur_half sh x (solid_at sh x))) e.tip t
          → i ≢ e.tip
      first i t q c z = c (rw (eqb_same (sym q)) z)

      -- none but k was a spur
      old : (i : ℕ) → In (2 * sh.edges) i → i < greater e.spur (spur_half sh x (solid_at sh x))
          → i ≢ spur_half sh x (solid_at sh x)
          → i ≢ pick (eqb e.tip2 (spur_half sh x (solid_at sh x))) e.tip e.tip2
          → i ≢ pick (eqb e.tip3 (spur_half sh x (solid_at sh x))) e.tip e.tip3
          → i ≢ pick (eqb e.tip4 (spur_half sh x (solid_at sh x))) e.tip e.tip4 → is_spur sh x (solid_at sh x) i
          ≡ false
      old i j h d d₂ d₃ d₄ = ⊎_elim (λ q. least_before (2 * sh.edges) (is_spur sh x (solid_at sh x)) i j (omega arith))
          (λ q. ⊎_elim
          (λ z.
          let hs : i < e.spur = omega (arith, h, z) in
          let k : ℕ = spur_half sh x (solid_at sh x) in
          let ks : k < e.spur = omega (arith, q, hs) in
          K.spur i j hs
          (split k e.tip (λ m c. d (c ∙ sym m)) (λ m₁.
          split k e.tip2 (λ m. first i e.tip2 m d₂) (λ m₂.
          split k e.tip3 (λ m. first i e.tip3 m d₃) (λ m₃.
          split k e.tip4 (λ m. first i e.tip4 m d₄) (λ m₄.
          absurd (false≢true (sym (K.spur k (uk.0, uk.1) ks m₁ m₂ m₃ m₄)
          ∙ (least_some (2 * sh.edges) (is_spur sh x (solid_at sh x)) spur).1)))))))
          (kept i e.tip2 d d₂) (kept i e.tip3 d d₃) (kept i e.tip4 d d₄))
          (λ z. absurd (omega (arith, h, z.1, q)))
          (greater_one e.spur (spur_half sh x (solid_at sh x))))
          (le? (suc i) (spur_half sh x (solid_at sh x)))

      new : (i : ℕ) → In (2 * sh.edges) i → i < greater e.spur (spur_half sh x (solid_at sh x))
          → i ≢ own sh x Prev (spur_half sh x (solid_at sh x))
          → i ≢ pick (eqb e.tip2 (spur_half sh x (solid_at sh x))) e.tip e.tip2
          → i ≢ pick (eqb e.tip3 (spur_half sh x (solid_at sh x))) e.tip e.tip3
          → i ≢ pick (eqb e.tip4 (spur_half sh x (solid_at sh x))) e.tip e.tip4
          → is_spur sh (links_after sh x (kev (spur_half sh x (solid_at sh x)))) (solid_at sh x) i ≡ true → ⊥
      new i j h d d₂ d₃ d₄ t =
          let b = both (of_solid sh (links_after sh x (kev (spur_half sh x (solid_at sh x)))) (solid_at sh x) i) _ t in
          let u = of_solid_lem g₁ sn i j b.0 in
          let dk : i ≢ spur_half sh x (solid_at sh x) = (G₁.edge.used i u.0).1 in
          ⊎_elim d (λ z. dk (z ∙ before_mate)) (spur_kept g g₁ sn G₁ i j (old i j h dk d₂ d₃ d₄) t)

-- ---- kemr

-- the least of a run is not above any half-edge of it, nor above its mate
run_below : (sh : Shape) (n d : ℕ) (x : List ℕ) (j stop b : ℕ) → d ≤ n → Steps (next_of sh x) j stop d
    → least_run sh n x j stop b ≤ b
unfolding least_run iter
run_below sh zero d x j stop b h w = omega arith
run_below sh (suc n) zero x j stop b h w = rw (eqb_same w.at) (omega arith)
run_below sh (suc n) (suc d) x j stop b h w =
    let o = steps_on (next_of sh x) j stop d w in
    rw (eqb_other o.0)
    (omega (
      arith,
      run_below sh n d x (next_of sh x j) stop (lesser (lesser j (mate j)) b) (omega arith) o.1,
      lesser_right (lesser j (mate j)) b,
    ))

run_met : (sh : Shape) (n d : ℕ) (x : List ℕ) (j stop b : ℕ) → d ≤ n → Steps (next_of sh x) j stop d → (t : ℕ) → t < d
    → (least_run sh n x j stop b ≤ iter (next_of sh x) t j)
    × (least_run sh n x j stop b ≤ mate (iter (next_of sh x) t j))
unfolding least_run iter
run_met sh zero d x j stop b h w t l = absurd (omega arith)
run_met sh (suc n) zero x j stop b h w t l = absurd (omega arith)
run_met sh (suc n) (suc d) x j stop b h w zero l =
    let o = steps_on (next_of sh x) j stop d w in
    let q = run_below sh n d x (next_of sh x j) stop (lesser (lesser j (mate j)) b) (omega arith) o.1 in
    rw (eqb_other o.0) (
      omega (arith, q, lesser_left (lesser j (mate j)) b, lesser_left j (mate j)),
      omega (arith, q, lesser_left (lesser j (mate j)) b, lesser_right j (mate j)),
    )
run_met sh (suc n) (suc d) x j stop b h w (suc t) l =
    let o = steps_on (next_of sh x) j stop d w in
    rw (eqb_other o.0) (run_met sh n d x (next_of sh x j) stop (lesser (lesser j (mate j)) b) (omega arith) o.1 t
    (omega arith))

run_low : (sh : Shape) (n d : ℕ) (x : List ℕ) (j stop b : ℕ) → d ≤ n → Steps (next_of sh x) j stop d → 1 ≤ b
    → ((t : ℕ) → t < d → (1 ≤ iter (next_of sh x) t j) × (1 ≤ mate (iter (next_of sh x) t j)))
    → 1 ≤ least_run sh n x j stop b
unfolding least_run iter
run_low sh zero d x j stop b h w l f = l
run_low sh (suc n) zero x j stop b h w l f = rw (eqb_same w.at) l
run_low sh (suc n) (suc d) x j stop b h w l f =
    let o = steps_on (next_of sh x) j stop d w in
    let q = f 0 (omega arith) in
    rw (eqb_other o.0) (run_low sh n d x (next_of sh x j) stop (lesser (lesser j (mate j)) b) (omega arith) o.1
    (lesser_low (lesser j (mate j)) b (lesser_low j (mate j) q.0 q.1) l) (λ t m. f (suc t) (omega arith)))

module _ {sh : Shape} {x : List ℕ} {p : List ℤ} (g : Good sh x p) (free : free_loop sh x ≢ 0) (sn : solid_at sh x ≢ 0)
    (one : faces_in sh x (solid_at sh x) ≡ 1)
    (left : edges_left sh x (solid_at sh x) ≡ true) (none : ring_half sh x (solid_at sh x) ≡ 0)
    (no-spur : spur_half sh x (solid_at sh x) ≡ 0) where
  uc : HalfUsed sh (own sh x) (crossed_half sh x (solid_at sh x))
  uc = kemr_half g free sn one left none no-spur

  g₂ : Good sh (links_after sh x (kemr (crossed_half sh x (solid_at sh x)) (free_loop sh x)))
      (points_after sh x p (kemr (crossed_half sh x (solid_at sh x)) (free_loop sh x)))
  g₂ = kemr_good g free sn one left none no-spur

  G₂ : Goes sh x (links_after sh x (kemr (crossed_half sh x (solid_at sh x)) (free_loop sh x)))
      (crossed_half sh x (solid_at sh x))
  G₂ = kemr_goes_on g free sn one left none no-spur

  -- the run from k to its mate
  run : (d : ℕ) × (d < 2 * sh.edges)
      × Steps (own sh x Next) (own sh x Next (crossed_half sh x (solid_at sh x))) (mate
      (crossed_half sh x (solid_at sh x))) d
  run = walk g.sound (span g free sn one left none no-spur)

  ring_low₂ : 1 ≤ least_run sh (2 * sh.edges) x (own sh x Next (crossed_half sh x (solid_at sh x))) (mate
      (crossed_half sh x (solid_at sh x))) (2 * sh.edges + 1)
  ring_low₂ = run_low sh (2 * sh.edges) run.0 x _ _ (2 * sh.edges + 1) (omega (arith, run.1)) run.2
      (omega arith) (λ t h.
      let u = iter_in g.sound.rules.loops.perm t (own sh x Next (crossed_half sh x (solid_at sh x)))
      (g.sound.rules.loops.perm.f_in _ uc) in
      (u.0, (g.sound.rules.mate_in _ u).0))

  -- a half-edge of a ring with its mate in another loop is on the run, or its mate is
  ring₂ : (i : ℕ) → In (2 * sh.edges) i
      → i < least_run sh (2 * sh.edges) x (own sh x Next (crossed_half sh x (solid_at sh x))) (mate
      (crossed_half sh x (solid_at sh x))) (2 * sh.edges + 1)
      → in_ring sh (links_after sh x (kemr (crossed_half sh x (solid_at sh x)) (free_loop sh x))) (solid_at sh x) i
      ≡ false
  unfolding run
  ring₂ i j h = fails false _ refl (λ t. absurd (clash (in_ring_lem g₂ sn i j t)))
    where
      clash : InRing g₂ sn i → ⊥
      clash r =
          let um = g₂.sound.rules.mate_in i r.0.0 in
          ⊎_elim (λ e. r.2 e)
          (⊎_elim
          (λ e.
          let f = kemr_from g free sn one left none no-spur i r.0.0 e.0 in
          omega (
            arith,
            h,
            f.2,
            (run_met sh (2 * sh.edges) run.0 x _ _ (2 * sh.edges + 1) (omega (arith, run.1)) run.2 f.0
                f.1).0,
          ))
          (λ e.
          let f = kemr_from g free sn one left none no-spur (mate i) um e.1 in
          omega (
            arith,
            h,
            ap mate f.2 ∙ mate_mate i,
            (run_met sh (2 * sh.edges) run.0 x _ _ (2 * sh.edges + 1) (omega (arith, run.1)) run.2 f.0
                f.1).1,
          )))
          (kemr_spans g free sn one left none no-spur g₂ i r.0.0 r.0.1)

  pub kept_cross : (e : Ends) (r k₀ : ℕ) → Keeps sh x (solid_at sh x) r e → 1 ≤ k₀
      → ((i : ℕ) → In (2 * sh.edges) i → i < k₀ → of_solid sh x (solid_at sh x) i ≡ false)
      → Keeps sh (links_after sh x (kemr (crossed_half sh x (solid_at sh x)) (free_loop sh x))) (solid_at sh x) r
      (cross_ends
      sh x (with_half e k₀) (crossed_half sh x (solid_at sh x)))
  kept_cross e r k₀ K l₀ h₀ = record {
    border_low = omega arith;
    loop_low = omega arith;
    lone_low = omega arith;
    lone = λ i j h. absurd (omega (arith, j.0, h));
    loop = λ i j h. absurd (omega (arith, j.0, h));
    pair = λ z. (
      (
        free_loop sh x,
        own sh x Loop (crossed_half sh x (solid_at sh x)),
        kemr_spans g free sn one left none no-spur g₂,
      ),
      refl,
      refl,
    );
    half_low = l₀;
    ring_low = ring_low₂;
    spur_low = omega arith;
    cross_low = uc.0;
    tips_in =
        let u = prev_in g.sound.rules (crossed_half sh x (solid_at sh x)) uc in
        let v = prev_in g.sound.rules (mate (crossed_half sh x (solid_at sh x)))
        (g.sound.rules.mate_in (crossed_half sh x (solid_at sh x)) uc) in
        ((u.0, u.1), (v.0, v.1), (u.0, u.1), (v.0, v.1));
    border = λ i j h. absurd (omega (arith, j.0, h));
    half = λ i j h. half_kept g g₂ sn G₂ i j (h₀ i j h);
    ring = ring₂;
    spur = λ i j h d d₂ d₃ d₄. fails false _ refl
        (λ t. absurd
        (⊎_elim d d₂ (spur_kept g g₂ sn G₂ i j (least_no (2 * sh.edges) (is_spur sh x (solid_at sh x)) no-spur i j)
        t)));
    cross = λ i j h. cross_kept g g₂ sn G₂ i j
        (λ t. parted_of g sn one none i j t (fails (is_crossed sh x (solid_at sh x) i) (crossed sh x i)
        (least_before (2 * sh.edges) (is_crossed sh x (solid_at sh x)) i j h)
        (λ c. joint (of_solid sh x (solid_at sh x) i) (crossed sh x i) t c)));
  }

-- ---- mfkrh and kef

module _ {sh : Shape} {x : List ℕ} {p : List ℤ} (g : Good sh x p) (free : free_face sh x ≢ 0) (sn : solid_at sh x ≢ 0)
    (one : faces_in sh x (solid_at sh x) ≡ 1)
    (left : edges_left sh x (solid_at sh x) ≡ true) (some : ring_half sh x (solid_at sh x) ≢ 0) where
  uh : HalfUsed sh (own sh x) (ring_half sh x (solid_at sh x))
  uh = ring_half_lem g free sn one left some

  g₃ : Good sh (ring_left sh x) p
  g₃ = ring_good g free sn one left some

  G₃ : Goes sh x (ring_left sh x) (ring_half sh x (solid_at sh x))
  G₃ = ring_goes_on g free sn one left some

  -- behind kemr there is none any more
  ring₃ : (e : Ends) (r : ℕ) → Keeps sh x (solid_at sh x) r e → (b : Bool) → eqb e.pair 1 ≡ b → (i : ℕ)
      → In (2 * sh.edges) i → i < pick b (2 * sh.edges + 1) (ring_half sh x (solid_at sh x))
      → in_ring sh (ring_left sh x) (solid_at sh x) i ≡ false
  ring₃ e r K true q i j h = let s = K.pair (eqb→eq _ _ (true_T q)) in
      spans_none g free sn one left some s.0.2 i j
  ring₃ e r K false q i j h =
      ring_keeps g free sn one left some i j (least_before (2 * sh.edges) (in_ring sh x (solid_at sh x)) i j h)

  ring_low₃ : (b : Bool) → 1 ≤ pick b (2 * sh.edges + 1) (ring_half sh x (solid_at sh x))
  ring_low₃ true = omega arith
  ring_low₃ false = uh.0

  -- what came before k and its mate
  abbrev P₃ : ℕ
  P₃ = own sh x Prev (ring_half sh x (solid_at sh x))

  abbrev Q₃ : ℕ
  Q₃ = own sh x Prev (mate (ring_half sh x (solid_at sh x)))

  spur₃ : (e : Ends) (r : ℕ) → Keeps sh x (solid_at sh x) r e → (b : Bool) → eqb e.pair 1 ≡ b → (i : ℕ)
      → In (2 * sh.edges) i → i < pick b e.spur (lesser e.spur (lesser P₃ Q₃))
      → i ≢ e.tip → i ≢ e.tip2 → i ≢ pick b P₃ e.tip3 → i ≢ pick b Q₃ e.tip4
      → is_spur sh (ring_left sh x) (solid_at sh x) i ≡ true → ⊥
  spur₃ e r K true q i j h d d₂ d₃ d₄ t =
      let c = K.pair (eqb→eq _ _ (true_T q)) in
      ⊎_elim d₃ d₄ (spur_kept g g₃ sn G₃ i j (K.spur i j h d d₂ (λ z. d (z ∙ c.1)) (λ z. d₂ (z ∙ c.2))) t)
  spur₃ e r K false q i j h d d₂ d₃ d₄ t = ⊎_elim
      (λ z. omega (arith, h, z, lesser_right e.spur (lesser P₃ Q₃), lesser_left P₃ Q₃))
      (λ z. omega (arith, h, z, lesser_right e.spur (lesser P₃ Q₃), lesser_right P₃ Q₃))
      (spur_kept g g₃ sn G₃ i j (K.spur i j (omega (arith, h, lesser_left e.spur (lesser P₃ Q₃))) d d₂ d₃ d₄) t)

  pub kept_ring : (e : Ends) (r k₀ : ℕ) → Keeps sh x (solid_at sh x) r e → 1 ≤ k₀
      → ((i : ℕ) → In (2 * sh.edges) i → i < k₀ → of_solid sh x (solid_at sh x) i ≡ false)
      → Keeps sh (ring_left sh x) (solid_at sh x) r (ring_ends sh x (with_half e k₀) (ring_half sh x (solid_at sh x)))
  kept_ring e r k₀ K l₀ h₀ =
      let P = own sh x Prev (ring_half sh x (solid_at sh x)) in
      let Q = own sh x Prev (mate (ring_half sh x (solid_at sh x))) in
      let uP : In (2 * sh.edges) P = let u = prev_in g.sound.rules (ring_half sh x (solid_at sh x)) uh in
      (u.0, u.1) in
      let uQ : In (2 * sh.edges) Q = let u = prev_in g.sound.rules (mate (ring_half sh x (solid_at sh x)))
      (g.sound.rules.mate_in (ring_half sh x (solid_at sh x)) uh) in (u.0, u.1) in
      record {
        border_low = omega arith;
        loop_low = omega arith;
        lone_low = omega arith;
        lone = λ i j h. absurd (omega (arith, j.0, h));
        loop = λ i j h. absurd (omega (arith, j.0, h));
        pair = λ z. absurd (omega (arith, z));
        half_low = l₀;
        ring_low = ring_low₃ (eqb e.pair 1);
        spur_low = pick_ind (λ n. 1 ≤ n) (eqb e.pair 1) e.spur (lesser e.spur (lesser P Q)) K.spur_low
            (lesser_low _ _ K.spur_low (lesser_low _ _ uP.0 uQ.0));
        cross_low = K.cross_low;
        tips_in = (
          K.tips_in.0,
          K.tips_in.1,
          pick_ind (In (2 * sh.edges)) (eqb e.pair 1) P e.tip3 uP K.tips_in.2,
          pick_ind (In (2 * sh.edges)) (eqb e.pair 1) Q e.tip4 uQ K.tips_in.3,
        );
        border = λ i j h. absurd (omega (arith, j.0, h));
        half = λ i j h. half_kept g g₃ sn G₃ i j (h₀ i j h);
        ring = ring₃ e r K (eqb e.pair 1) refl;
        spur = λ i j h d d₂ d₃ d₄. fails false _ refl
            (λ t. absurd (spur₃ e r K (eqb e.pair 1) refl i j h d d₂ d₃ d₄ t));
        cross = λ i j h. cross_kept g g₃ sn G₃ i j (K.cross i j h);
      }
