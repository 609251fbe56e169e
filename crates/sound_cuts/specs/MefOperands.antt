-- The operands that mef needs to make an edge, read off the corners; they are those of kef's inverse.
use Rattle.std.specs.Prelude.{◌≡◌, refl, ◌≢◌, Bool, true, false, not, ◌&&◌, ◌||◌, List, [], ◌∷◌, ℕ, ◌+◌, ◌%◌, ◌≤◌, eqb}
use Rattle.std.specs.Prelude.{leb, ℤ, pos}
use Rattle.std.proofs.Common.{sym, ap, ◌∙◌, inl, inr, ⊎_elim, arith}
use Rattle.laws.specs.Bools.{pick, split, eqb_same, eqb_other}
use Rattle.script.specs.declared.Operator.{Operator}
use Rattle.layout.specs.declared.shape.Shape.{Shape}
use Rattle.layout.specs.Mate.{mate, edge_of}
use Rattle.euler.specs.Surgery.{half_by, way_of}
use Rattle.euler.specs.EdgeOperators.{a_alone, b_alone}
use Rattle.layout.specs.Fields.{Isolated, Start, Loop, Next, Prev, Columns}
use Rattle.sound_tables.specs.Cells.{Shows}
use Rattle.sound_tables.specs.Sound.{HalfUsed, Sound}
use Rattle.sound_tables.specs.HalfNumbers.{way_small, half_is, mate_edge}
use Rattle.sound_tables.specs.Good.{own}
use Rattle.sound_tables.specs.CornerTest.{CornerAt}
use Rattle.sound_cuts.specs.Relation.{Spot, tie_n, tie_n', rest_of, end_of, AtA, AtB, seat, Lone}
use Rattle.sound_cuts.specs.Relation.{first_corner, second_corner, Cut, a_seated, b_seated}

-- mef l h1 h2 e f l2 w
abbrev pub mef_of : ℕ → ℕ → ℕ → ℕ → ℕ → ℕ → ℕ → Operator
mef_of l h1 h2 e f l2 w = record {
  code = 5;
  count = 7;
  args = pos l ∷ pos h1 ∷ pos h2 ∷ pos e ∷ pos f ∷ pos l2 ∷ pos w
      ∷ pos 0 ∷ [];
}

-- kef k
abbrev pub kef_of : ℕ → Operator
kef_of k = record { code = 6; count = 1; args = pos k ∷ pos 0 ∷ pos 0 ∷ pos 0 ∷ pos 0 ∷ pos 0 ∷ pos 0 ∷ pos 0 ∷ [] }

-- the way: a's, and 2 more where a alone is alone
abbrev pub way_back : Spot → ℕ
way_back q = way_of q.a + pick (eqb q.N q.a && not (eqb q.M q.b)) 2 0

-- ---- the half that the operands name

-- edge and way of a, whose mate is b
pub half_back : (a b : ℕ) → 1 ≤ a → mate a ≡ b → (w : ℕ) → w % 2 ≡ way_of a → half_by (edge_of b) w ≡ a
half_back a b i e w h =
    let y : edge_of b ≡ edge_of a = ap edge_of (sym e) ∙ mate_edge a i in
    let r : w % 2 ≡ way_of a % 2 = omega (arith, h, way_small a) in
    rw (y, r) (half_is a i)

-- ---- what mef finds in the list

-- these operands ask for this edge
pub record Asks (sh : Shape) (x : List ℕ) (q : Spot) (h1 h2 w : ℕ) : Type 0 where
  pub N_is : pick (a_alone h1 h2 w) q.a h2 ≡ q.N
  pub P_is : pick (a_alone h1 h2 w) q.a (own sh x Prev h1) ≡ q.P
  pub M_is : pick (b_alone h1 h2 w) q.b h1 ≡ q.M
  pub Q_is : pick (b_alone h1 h2 w) q.b (own sh x Prev h2) ≡ q.Q
  pub u_is : pick (eqb h1 0) (own sh x Isolated q.l) (own sh x Start h1) ≡ q.u
  pub v_is : pick (eqb h2 0) (own sh x Isolated q.l) (own sh x Start h2) ≡ q.v
  pub corner1 : CornerAt sh (own sh x) q.l h1
  pub corner2 : CornerAt sh (own sh x) q.l h2
  pub ways : (not (leb 2 w) || (eqb h1 h2 && not (eqb h1 0))) ≡ true
  pub w_in : w ≤ 3
  pub half : half_by (edge_of q.b) w ≡ q.a

-- a way, or two more, is at most 3
way_most : (a : ℕ) (t : Bool) → way_of a + pick t 2 0 ≤ 3
way_most a true = omega (arith, way_small a)
way_most a false = omega (arith, way_small a)

-- its remainder is the way
way_rest : (a : ℕ) (t : Bool) → (way_of a + pick t 2 0) % 2 ≡ way_of a
way_rest a true = split (a % 2) 1 (λ o. rw (eqb_same o)) (λ o. rw (eqb_other o))
way_rest a false = split (a % 2) 1 (λ o. rw (eqb_same o)) (λ o. rw (eqb_other o))

-- it is 2 or more where it is two more
way_high : (a : ℕ) (t : Bool) → leb 2 (way_of a + pick t 2 0) ≡ t
way_high a true = split (a % 2) 1 (λ o. rw (eqb_same o)) (λ o. rw (eqb_other o))
way_high a false = split (a % 2) 1 (λ o. rw (eqb_same o)) (λ o. rw (eqb_other o))

module _ {sh : Shape} {c d : Columns} {q : Spot} (k : Cut sh c d q) {x : List ℕ} (s : Shows sh x c) where
  -- the vertex that is read at a half-edge of c
  read_start : (h v : ℕ) → HalfUsed sh c h → c Start h ≡ v
      → pick (eqb h 0) (own sh x Isolated q.l) (own sh x Start h) ≡ v
  read_start h v w e =
      let o : h ≢ 0 = λ z. omega (arith, w.0, z) in
      rw (eqb_other o) (s.at Start h w.1 ∙ e)

  -- what comes before it
  read_prev : (h v : ℕ) → HalfUsed sh c h → c Prev h ≡ v → own sh x Prev h ≡ v
  read_prev h v w e = s.at Prev h w.1 ∙ e

  -- it is a corner
  read_corner : (h : ℕ) → HalfUsed sh c h → c Loop h ≡ q.l → CornerAt sh (own sh x) q.l h
  read_corner h w e = inr ((w.0, w.1, λ z. w.2 (sym (s.at Start h w.1) ∙ z)), s.at Loop h w.1 ∙ e)

  -- at an isolated loop its vertex is read
  read_isolated : (h v : ℕ) → h ≡ 0 → c Isolated q.l ≡ v
      → pick (eqb h 0) (own sh x Isolated q.l) (own sh x Start h) ≡ v
  read_isolated h v z e = rw (eqb_same z) (s.at Isolated q.l k.site.l_in.1 ∙ e)

  -- and it is a corner
  read_lone : (h : ℕ) → h ≡ 0 → c Isolated q.l ≡ q.u → CornerAt sh (own sh x) q.l h
  read_lone h z e = inl (z, λ y. k.site.u_some (sym e ∙ sym (s.at Isolated q.l k.site.l_in.1) ∙ y))

  -- the operands say which half is alone
  flags : (a_alone (rest_of q) (end_of q) (way_back q) ≡ eqb q.N q.a)
      × (b_alone (rest_of q) (end_of q) (way_back q) ≡ eqb q.M q.b)
      × ((not (leb 2 (way_back q)) || (eqb (rest_of q) (end_of q) && not (eqb (rest_of q) 0))) ≡ true)
  flags = rw (way_high q.a (eqb q.N q.a && not (eqb q.M q.b)))
      (go k.site.near.at_a k.site.near.at_b)
    where
      -- in each case
      go : AtA sh c q → AtB sh c q → ((eqb (rest_of q) (end_of q)
          && (eqb (rest_of q) 0 || (eqb q.N q.a && not (eqb q.M q.b)))) ≡ eqb q.N q.a)
          × ((eqb (rest_of q) (end_of q) && not (eqb q.N q.a && not (eqb q.M q.b))) ≡ eqb q.M q.b)
          × ((not (eqb q.N q.a && not (eqb q.M q.b))
          || (eqb (rest_of q) (end_of q) && not (eqb (rest_of q) 0))) ≡ true)
      go (inr o) (inr r) = rw (
        a_seated k.site o.after,
        b_seated k.site r.after,
        eqb_other (λ (z : q.M ≡ q.N). k.site.near.N_M (sym z)),
      ) (refl, refl, refl)
      go (inr o) (inl r) = rw (
        a_seated k.site o.after,
        eqb_same r.after,
        eqb_same {m = q.N} refl,
        eqb_other (λ (z : q.N ≡ 0). omega (arith, o.after.0, z)),
      ) (refl, refl, refl)
      go (inl o) (inr r) = rw (
        eqb_same o.after,
        b_seated k.site r.after,
        eqb_same {m = q.M} refl,
        eqb_other (λ (z : q.M ≡ 0). omega (arith, r.after.0, z)),
      ) (refl, refl, refl)
      go (inl o) (inl r) = rw (eqb_same o.after, eqb_same r.after) (refl, refl, refl)

  module _ {p : List ℤ} (r : Sound sh p c) where
    -- next is of the same loop
    next_loop : (P h : ℕ) → HalfUsed sh c P → c Next P ≡ h → c Loop P ≡ q.l → c Loop h ≡ q.l
    next_loop P h w e g = ap (c Loop) (sym e) ∙ r.rules.loops.keeps P w ∙ g

    -- the operands read off the corners ask for the edge
    pub asks : Asks sh x q (rest_of q) (end_of q) (way_back q)
    asks = record {
      N_is = rw flags.0 (⊎_elim (λ o. rw (eqb_same o.after) (sym o.after))
          (λ o. rw (a_seated k.site o.after)) k.site.near.at_a);
      P_is = rw flags.0 (⊎_elim (λ o. rw (eqb_same o.after) (sym o.before))
          (λ o. rw (a_seated k.site o.after) (read_prev (tie_n q) q.P o.corner o.prev))
          k.site.near.at_a);
      M_is = rw flags.1 (⊎_elim (λ o. rw (eqb_same o.after) (sym o.after))
          (λ o. rw (b_seated k.site o.after)) k.site.near.at_b);
      Q_is = rw flags.1 (⊎_elim (λ o. rw (eqb_same o.after) (sym o.before))
          (λ o. rw (b_seated k.site o.after) (read_prev (tie_n' q) q.Q o.corner o.prev))
          k.site.near.at_b);
      u_is = ⊎_elim (λ o. read_start (rest_of q) q.u o.1.corner o.1.start)
          (λ o. read_isolated (rest_of q) q.u (none₁ o) o.2) (first_corner k.site);
      v_is = ⊎_elim (λ o. read_start (end_of q) q.v o.2.corner o.2.start)
          (λ o. read_isolated (end_of q) q.v (none₂ o) (o.2 ∙ o.0.ends)) (second_corner k.site);
      corner1 = ⊎_elim (λ o. read_corner (rest_of q) o.1.corner
          (next_loop (seat q) (rest_of q) o.1.before o.1.next o.1.loop))
          (λ o. read_lone (rest_of q) (none₁ o) o.2) (first_corner k.site);
      corner2 = ⊎_elim (λ o. read_corner (end_of q) o.2.corner
          (next_loop o.0 (end_of q) o.2.before o.2.next o.2.loop))
          (λ o. read_lone (end_of q) (none₂ o) o.2) (second_corner k.site);
      ways = flags.2;
      w_in = way_most q.a (eqb q.N q.a && not (eqb q.M q.b));
      half = half_back q.a q.b k.site.a_in.0 k.site.ab (way_back q)
          (way_rest q.a (eqb q.N q.a && not (eqb q.M q.b)));
    }
      where
        -- there is no first corner where both are alone
        none₁ : Lone k.site → rest_of q ≡ 0
        none₁ o = rw (eqb_same o.0.after, eqb_same o.1.after)

        -- nor a second
        none₂ : Lone k.site → end_of q ≡ 0
        none₂ o = rw (eqb_same o.0.after, eqb_same o.1.after)
