-- The half-edges of the solid at hand, and the searches among them.
use Rattle.std.specs.Prelude.{◌≡◌, refl, ◌≢◌, Bool, true, false, ◌&&◌, List, ℕ, ◌-◌, ◌*◌, ◌<◌, eqb, ℤ}
use Rattle.std.proofs.Common.{sym, ap, ◌∙◌, subst, ⊎_elim, arith, eqb→eq}
use Rattle.std.proofs.lemmas.Bool.{false≢true}
use Rattle.std.proofs.Math.Dec.{not_T}
use Rattle.laws.specs.Bools.{split, ask, T_true, true_T, eqb_same, eqb_other}
use Rattle.laws.specs.Search.{least, Least, none_is, one_is, least_from_is}
use Rattle.laws.specs.Linked.{link, map_within}
use Rattle.laws.specs.Cycles.{Cycles, forwards}
use Rattle.laws.specs.Exchange.{Till}
use Rattle.laws.specs.Walks.{walk_till, till_walk}
use Rattle.layout.specs.declared.shape.Shape.{Shape}
use Rattle.layout.specs.Mate.{mate}
use Rattle.layout.specs.MateLaws.{mate_mate}
use Rattle.euler.specs.Queries.{faces_in}
use Rattle.layout.specs.Fields.{Columns, Solid, Outer, Face, Loop, Next}
use Rattle.layout.specs.Items.{some}
use Rattle.sound_tables.specs.Mates.{mate_other}
use Rattle.sound_tables.specs.Sound.{In, HalfUsed, side}
use Rattle.sound_tables.specs.Labels.{one_many}
use Rattle.sound_tables.specs.Walking.{Steps}
use Rattle.sound_tables.specs.Good.{Good, own}
use Rattle.evidence_fuel.specs.Walks.{near}
use Rattle.takedown.specs.Inversion.{of_solid, edges_left, in_ring, ring_half, is_spur, spur_half, between, is_crossed}
use Rattle.takedown.specs.Inversion.{crossed_half}
use Rattle.inversion.specs.Crossing.{crossed as crossing}
use Rattle.takedown.specs.Crossed.{at_crossed}
use Rattle.inversion.specs.Runs.{run_at, at_run}

-- ---- the least that passes a test

pub least_some : (n : ℕ) (p : ℕ → Bool) → least n p ≢ 0 → In n (least n p) × (p (least n p) ≡ true)
least_some n p h = go (least_from_is n 1 p)
  where
    go : Least n 1 p (least n p) → In n (least n p) × (p (least n p) ≡ true)
    go (none_is z f) = absurd (h z)
    go (one_is l u t f) = ((l, omega arith), t)

pub least_no : (n : ℕ) (p : ℕ → Bool) → least n p ≡ 0 → (k : ℕ) → In n k → p k ≡ false
least_no n p z k i = go (least_from_is n 1 p)
  where
    go : Least n 1 p (least n p) → p k ≡ false
    go (none_is y f) = f k i.0 (omega (arith, i.1))
    go (one_is l u t f) = absurd (omega (arith, l, z))

pub least_there : (n : ℕ) (p : ℕ → Bool) (k : ℕ) → In n k → p k ≡ true → least n p ≢ 0
least_there n p k i t z = false≢true (sym (least_no n p z k i) ∙ t)

-- both parts of a test
pub both : (a b : Bool) → (a && b) ≡ true → (a ≡ true) × (b ≡ true)
both true b h = (refl, h)
both false b h = absurd (false≢true h)

pub joint : (a b : Bool) → a ≡ true → b ≡ true → (a && b) ≡ true
joint a b e f = rw (e, f)

-- a number that is there
pub some_not : (n : ℕ) → some n ≡ true → n ≢ 0
some_not n h z = false≢true (rw (eqb_same z) at h)

pub some_is : (n : ℕ) → n ≢ 0 → some n ≡ true
some_is n d = rw (eqb_other d)

pub not_some : (n : ℕ) → some n ≡ false → n ≡ 0
not_some n h = split n 0 (λ e. e) (λ d. absurd (false≢true (sym h ∙ rw (eqb_other d))))

module _ {sh : Shape} {x : List ℕ} {p : List ℤ} (g : Good sh x p) {s : ℕ} (sn : s ≢ 0) where
  -- half-edge k is in use and of solid s
  abbrev pub Of : ℕ → Type 0
  Of k = HalfUsed sh (own sh x) k × (own sh x Solid (side (own sh x) k) ≡ s)

  -- the test says so
  pub of_solid_lem : (k : ℕ) → In (2 * sh.edges) k → of_solid sh x s k ≡ true → Of k
  of_solid_lem k i t =
      let e : own sh x Solid (side (own sh x) k) ≡ s = eqb→eq _ _ (true_T t) in
      ((i.0, i.1, λ z. sn (sym e ∙ ap (λ l. own sh x Solid (own sh x Face l)) (g.sound.half_free k i z).loop)), e)

  pub solid_of : (k : ℕ) → Of k → of_solid sh x s k ≡ true
  solid_of k u = eqb_same u.1

  -- so is its mate
  pub of_mate : (k : ℕ) → Of k → Of (mate k)
  of_mate k u = (g.sound.rules.mate_in k u.0, g.sound.solids.edge k u.0 ∙ u.1)

  -- and what follows it
  pub of_next : (k : ℕ) → Of k → Of (own sh x Next k)
  of_next k u = (
    g.sound.rules.loops.perm.f_in k u.0,
    ap (λ l. own sh x Solid (own sh x Face l)) (g.sound.rules.loops.keeps k u.0) ∙ u.1,
  )

  -- they fall into loops of their own
  pub of_cycles : Cycles (2 * sh.edges) Of (own sh x Next) (own sh x Loop)
  of_cycles =
      let c = g.sound.rules.loops in
      record {
        perm = record {
          low = λ i u. c.perm.low i u.0;
          high = λ i u. c.perm.high i u.0;
          f_in = of_next;
          inv = c.perm.inv;
          undo = λ i u. c.perm.undo i u.0;
        };
        keeps = λ i u. c.keeps i u.0;
        one = λ i j u v e. map_within Of
            (λ a b t. (
              λ w. subst Of t.1 (of_next a w),
              λ w. (
                t.0,
                ap (λ l. own sh x Solid (own sh x Face l)) (sym (c.keeps a t.0)
                    ∙ ap (own sh x Loop) t.1) ∙ w.1,
              ),
            ))
            (λ a b t w. link (w, t.1)) (c.one i j u.0 v.0 e) u;
      }

  -- a solid of one face: where no ring has a half-edge with its mate in another loop, each edge lies in one loop
  pub one_loop : faces_in sh x s ≡ 1 → ring_half sh x s ≡ 0 → (k : ℕ) → Of k → own sh x Loop (mate k) ≡ own sh x Loop k
  one_loop one none k u = split (own sh x Loop (mate k)) (own sh x Loop k) (λ e. e)
      (λ d. absurd (d (sym (outer (mate k) (of_mate k u) (λ e. d (e ∙ ap (own sh x Loop) (mate_mate k))))
      ∙ ap (own sh x Outer) same_face ∙ outer k u (λ e. d (sym e)))))
    where
      c : Columns
      c = own sh x

      -- a half-edge whose mate is in another loop lies in the outer loop
      outer : (j : ℕ) → Of j → c Loop j ≢ c Loop (mate j) → c Outer (c Face (c Loop j)) ≡ c Loop j
      outer j v d = split (c Outer (c Face (c Loop j))) (c Loop j) (λ e. e) (λ n. absurd (false≢true (
          sym (least_no (2 * sh.edges) (in_ring sh x s) none j (v.0.0, v.0.1))
          ∙ joint _ _ (joint _ _ (solid_of j v)
          (T_true (not_T (eqb (c Outer (c Face (c Loop j))) (c Loop j)) (λ t. n (eqb→eq _ _ t)))))
          (T_true (not_T (eqb (c Loop (mate j)) (c Loop j)) (λ t. d (sym (eqb→eq _ _ t))))))))

      -- the two sides are the one face
      same_face : c Face (c Loop (mate k)) ≡ c Face (c Loop k)
      same_face =
          let a = g.sound.solids.side_in_lem k u.0 in
          let b = g.sound.solids.side_in_lem (mate k) (of_mate k u).0 in
          one_many sh.faces (c Solid) s one (c Face (c Loop k)) (c Face (c Loop (mate k))) (a.0, a.1) u.1
          (b.0, b.1) (of_mate k u).1

  -- B's last step: something is crossed
  pub crossed_there : faces_in sh x s ≡ 1 → ring_half sh x s ≡ 0 → spur_half sh x s ≡ 0 → edges_left sh x s ≡ true
      → crossed_half sh x s ≢ 0
  crossed_there one none no-spur left z =
      let k = least (2 * sh.edges) (of_solid sh x s) in
      let f = least_some (2 * sh.edges) (of_solid sh x s) (some_not _ left) in
      crossing of_cycles of_mate mate_mate (λ i u e. mate_other i u.0.0 (sym e)) (one_loop one none)
      (λ i u e. false≢true (sym (least_no (2 * sh.edges) (is_spur sh x s) no-spur i (u.0.0, u.0.1))
      ∙ joint _ _ (solid_of i u) (eqb_same e)))
      uncrossed k (of_solid_lem k f.0 f.1)
    where
      c : Columns
      c = own sh x

      -- the run from k to its mate
      steps : (k : ℕ) → Of k → (d : ℕ) × (d < 2 * sh.edges) × Steps (c Next) (c Next k) (mate k) d
      steps k u =
          let m = (forwards of_cycles.perm (of_cycles.one (c Next k) (mate k) (of_next k u) (of_mate k u)
          (of_cycles.keeps k u ∙ sym (one_loop one none k u)))).0 in
          near sh x (HalfUsed sh c) g.sound.rules.loops.perm (c Next k) (mate k) m.0 (of_next k u).0 m.1

      -- nothing is crossed: with a half-edge its mate lies between
      uncrossed : (k i : ℕ) → Of k → Of i → c Loop i ≡ c Loop k → i ≢ mate k → Till (c Next) k (mate k) i
          → Till (c Next) k (mate k) (mate i)
      uncrossed k i u v e d t =
          let w = steps k u in
          let ka : k ≢ mate k = mate_other k u.0.0 in
          let r = till_walk of_cycles u ka w.0 w.2.at w.2.first i v d t in
          let inside = at_run sh (2 * sh.edges) w.0 x (c Next k) (mate k) i (omega (arith, w.1)) w.2 r.0
          r.1 r.2 in
          ⊎_elim
          (λ q.
          let m = run_at sh (2 * sh.edges) w.0 x (c Next k) (mate k) (mate i) (omega (arith, w.1)) w.2 q in
          subst (Till (c Next) k (mate k)) m.2 (walk_till of_cycles u ka w.0 w.2.at w.2.first
          (w.0 - m.0) m.0 (omega (arith, m.1))))
          (λ q. absurd (false≢true (sym (least_no (2 * sh.edges) (is_crossed sh x s) z k (u.0.0, u.0.1))
          ∙ joint _ _ (solid_of k u) (at_crossed sh x k
          (record { j = i; range = (v.0.0, v.0.1); inside = inside; outside = q })))))
          (ask (between sh x k (mate i)))
