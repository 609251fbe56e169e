-- mef on a list that shows the columns without the edge: it is accepted, makes the list with it, and is undone by kef.
use Rattle.std.specs.Prelude.{◌≡◌, true, List, [], ◌∷◌, ℕ, ◌*◌, ◌≤◌, ℤ}
use Rattle.std.proofs.Math.Path.{refl}
use Rattle.std.proofs.Common.{sym, ap, ◌∙◌, ⊎_elim, arith}
use Rattle.std.proofs.Math.IntN.{pos}
use borrow.Author.Tests.{le-leb}
use Rattle.bounds.specs.Bounds.{most_halves}
use Rattle.script.specs.declared.Operator.{Operator}
use Rattle.codec.specs.Operands.{pattern, rows}
use Rattle.layout.specs.declared.shape.Shape.{Shape}
use Rattle.layout.specs.Mate.{edge_of}
use Rattle.euler.specs.Surgery.{edge_in}
use Rattle.euler.specs.EdgeOperators.{mef_test, mef_links}
use Rattle.euler.specs.Valence.{ends, come_of}
use Rattle.euler.specs.Exec.{limits, use_word, condition, refusal_of, marks_after, points_after, inverse}
use Rattle.layout.specs.Fields.{Solid, Face, Start, Columns}
use Rattle.sound_tables.specs.Cells.{Shows}
use Rattle.sound_tables.specs.Sound.{In, Sound}
use Rattle.sound_tables.specs.Accepted.{accepted_back, ranges_cons, uses_cons, item_cons, old_use, new_use, use_none}
use Rattle.sound_tables.specs.Accepted.{in_range_lem, unused_range, unused_use, in_range_or_none}
use Rattle.sound_tables.specs.HalfNumbers.{second_half, edge_in_range}
use Rattle.sound_tables.specs.Good.{own, Capacities}
use Rattle.sound_tables.specs.CornerTest.{corner_most, corner_test, corner_use}
use Rattle.sound_cuts.specs.Relation.{Spot, rest_of, end_of, ba, Cut}
use Rattle.sound_cuts.specs.MefShown.{cut_list}
use Rattle.sound_cuts.specs.MefOperands.{mef_of, kef_of, way_back, Asks, asks}

-- mef with the operands read off the corners
abbrev pub mef_at : Spot → Operator
mef_at q = mef_of q.l (rest_of q) (end_of q) (edge_of q.b) q.f q.m (way_back q)

module _ {sh : Shape} {p : List ℤ} {c d : Columns} {q : Spot} (k : Cut sh c d q) (t : Sound sh p d) {x : List ℕ}
    (s : Shows sh x c) (caps : Capacities sh) where
  -- ---- for operands that ask for this edge

  module _ (h1 h2 w : ℕ) (o : Asks sh x q h1 h2 w) where
    -- the operator
    abbrev op : Operator
    op = mef_of q.l h1 h2 (edge_of q.b) q.f q.m w

    -- the numbers are read as they stand
    ln : q.l ≤ most_halves
    ln = omega (arith, k.site.l_in.1, caps.loops)

    -- the new loop
    mn : q.m ≤ most_halves
    mn = omega (arith, k.site.m_in.1, caps.loops)

    -- the new face
    fn : q.f ≤ most_halves
    fn = omega (arith, k.site.f_in.1, caps.faces)

    -- the edge is in range
    e_in : In sh.edges (edge_of q.b)
    e_in = edge_in_range q.b sh.edges k.site.b_in

    -- the edge
    en : edge_of q.b ≤ most_halves
    en = omega (arith, e_in.1, caps.edges)

    -- the first corner
    h1n : h1 ≤ most_halves
    h1n = let m : h1 ≤ 2 * sh.edges = corner_most sh (own sh x) q.l h1 o.corner1 in omega (arith, m, caps.edges)

    -- the second
    h2n : h2 ≤ most_halves
    h2n = let m : h2 ≤ 2 * sh.edges = corner_most sh (own sh x) q.l h2 o.corner2 in omega (arith, m, caps.edges)

    -- the way
    wn : w ≤ most_halves
    wn = omega (arith, o.w_in)

    -- the stores are those of `cut_list`
    links_is : mef_links sh x q.l h1 h2 q.a q.f q.m w ≡ cut_list k t s
    unfolding mef_links edge_in
    links_is = rw (k.site.ab, o.N_is, o.P_is, o.M_is, o.Q_is, o.u_is, o.v_is)

    -- so are those of the operator
    links_by : marks_after sh x op ≡ cut_list k t s
    unfolding marks_after
    links_by =
        rw (
          le-leb q.l most_halves ln,
          le-leb h1 most_halves h1n,
          le-leb h2 most_halves h2n,
          le-leb (edge_of q.b) most_halves en,
          le-leb
              q.f most_halves fn,
          le-leb q.m most_halves mn,
          le-leb w most_halves wn,
          o.half,
        ) links_is

    -- kef undoes it
    inverse_by : (v : List ℤ) → inverse sh x v op ≡ kef_of q.b
    unfolding inverse
    inverse_by v = rw (le-leb (edge_of q.b) most_halves en, le-leb w most_halves wn, o.half, k.site.ab)

    -- half-edges come where the edge ends
    come_by : (y : List ℕ) → come_of sh y op ≡ ends sh y q.a
    come_by y = rw (le-leb (edge_of q.b) most_halves en, le-leb w most_halves wn, o.half)

    -- the edge is free
    edge_free : own sh x Start (2 * edge_of q.b) ≡ 0
    edge_free = ⊎_elim (λ z. ap (own sh x Start) z ∙ s.at Start q.b k.site.b_in.1 ∙ k.zero_b.s)
        (λ z. ap (own sh x Start) (z ∙ ba k.site) ∙ s.at Start q.a k.site.a_in.1 ∙ k.zero_a.s)
        (second_half q.b)

    -- the test passes
    test_by : mef_test sh x q.l h1 h2 w ≡ true
    unfolding mef_test
    test_by = rw (corner_test sh x q.l h1 o.corner1, corner_test sh x q.l h2 o.corner2, o.ways)

    -- it is accepted
    accepted_by : refusal_of sh x op ≡ 0
    unfolding pattern rows use_word condition
    accepted_by = accepted_back sh x op (record {
      code = refl;
      count = refl;
      range =
          ranges_cons (limits sh) 6 _ (pos q.l)
          (pos h1 ∷ pos h2 ∷ pos (edge_of q.b) ∷ pos q.f ∷ pos q.m ∷ pos w ∷ pos 0 ∷ [])
          (in_range_lem (limits sh) 6 q.l refl refl k.site.l_in)
          (ranges_cons (limits sh) 10 _ (pos h1)
          (pos h2 ∷ pos (edge_of q.b) ∷ pos q.f ∷ pos q.m ∷ pos w ∷ pos 0 ∷ [])
          (in_range_or_none (limits sh) 10 h1 refl refl (corner_most sh (own sh x) q.l h1 o.corner1))
          (ranges_cons (limits sh) 10 _ (pos h2) (pos (edge_of q.b) ∷ pos q.f ∷ pos q.m ∷ pos w ∷ pos 0 ∷ [])
          (in_range_or_none (limits sh) 10 h2 refl refl (corner_most sh (own sh x) q.l h2 o.corner2))
          (ranges_cons (limits sh) 8 _ (pos (edge_of q.b)) (pos q.f ∷ pos q.m ∷ pos w ∷ pos 0 ∷ [])
          (in_range_lem (limits sh) 8 (edge_of q.b) refl refl e_in)
          (ranges_cons (limits sh) 5 _ (pos q.f) (pos q.m ∷ pos w ∷ pos 0 ∷ [])
          (in_range_lem (limits sh) 5 q.f refl refl k.site.f_in)
          (ranges_cons (limits sh) 7 _ (pos q.m) (pos w ∷ pos 0 ∷ [])
          (in_range_lem (limits sh) 7 q.m refl refl k.site.m_in)
          (ranges_cons (limits sh) 13 _ (pos w) (pos 0 ∷ []) (in_range_or_none (limits sh) 13 w refl refl o.w_in)
          (unused_range (limits sh) 1)))))));
      used =
          item_cons sh x op 6 _ 0 ln (old_use sh x 6 q.l (λ z. omega (arith, k.site.l_in.0, z)) refl
          (λ z. k.site.l_used (sym (s.at Face q.l k.site.l_in.1) ∙ z)))
          (item_cons sh x op 10 _ 1 h1n (corner_use sh x q.l h1 o.corner1)
          (item_cons sh x op 10 _ 2 h2n (corner_use sh x q.l h2 o.corner2)
          (item_cons sh x op 8 _ 3 en (new_use sh x 8 (edge_of q.b) (λ z. omega (arith, e_in.0, z)) refl edge_free)
          (item_cons sh x op 5 _ 4 fn (new_use sh x 5 q.f (λ z. omega (arith, k.site.f_in.0, z)) refl
          (s.at Solid q.f k.site.f_in.1 ∙ k.site.f_free))
          (item_cons sh x op 7 _ 5 mn (new_use sh x 7 q.m (λ z. omega (arith, k.site.m_in.0, z)) refl
          (s.at Face q.m k.site.m_in.1 ∙ k.site.m_free))
          (uses_cons sh x op 13 _ 6 (use_none sh x 13 _ refl refl) (unused_use sh x op 1 7)))))));
      holds = rw
          (le-leb q.l most_halves ln, le-leb h1 most_halves h1n, le-leb h2 most_halves h2n, le-leb w most_halves wn)
          test_by;
    })

  -- ---- for those read off the corners

  module _ (r : Sound sh p c) where
    -- they ask for the edge
    abbrev oo : Asks sh x q (rest_of q) (end_of q) (way_back q)
    oo = asks k s r

    -- what it does
    pub mef_links_lem : marks_after sh x (mef_at q) ≡ cut_list k t s
    mef_links_lem = links_by (rest_of q) (end_of q) (way_back q) oo

    -- the operator that undoes it
    pub mef_inverse : (v : List ℤ) → inverse sh x v (mef_at q) ≡ kef_of q.b
    mef_inverse = inverse_by (rest_of q) (end_of q) (way_back q) oo

    -- where half-edges come
    pub mef_come : (y : List ℕ) → come_of sh y (mef_at q) ≡ ends sh y q.a
    mef_come = come_by (rest_of q) (end_of q) (way_back q) oo

    -- it is accepted
    pub mef_accepted : refusal_of sh x (mef_at q) ≡ 0
    mef_accepted = accepted_by (rest_of q) (end_of q) (way_back q) oo

-- points stay
pub mef_points : (sh : Shape) (x : List ℕ) (v : List ℤ) (q : Spot) → points_after sh x v (mef_at q) ≡ v
unfolding points_after
mef_points sh x v q = refl
