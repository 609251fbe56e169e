-- The test of two linked faces says what it should: on a sound table it passes just if a chain of half-edges in use
-- links them, also once a loop lies in another face.
use Rattle.std.specs.Prelude.{◌≡◌, refl, true, false, List, ℕ, ◌-◌, ◌*◌, eqb, ℤ}
use Rattle.std.proofs.Common.{subst, arith, eqb→eq, T_not}
use Rattle.std.proofs.Math.Dec.{not_T}
use Rattle.laws.specs.Bools.{true_T, T_true, T_false, split, eqb_same}
use Rattle.laws.specs.Update.{upd, upd_at, upd_off}
use Rattle.laws.specs.Linked.{Linked, link, map_linked, carry}
use Rattle.layout.specs.declared.shape.Shape.{Shape}
use Rattle.layout.specs.Mate.{mate}
use Rattle.check_shells.specs.Shells.{side_as, Joins, linked_by}
use Rattle.check_shells.specs.ShellsLaws.{within_T, T_within, joins_T, T_joins}
use Rattle.check_shells.specs.RuleLaws.{linked_T, T_linked}
use Rattle.euler.specs.FaceOperators.{linked_after}
use Rattle.layout.specs.Fields.{Face, Start, Loop, Columns}
use Rattle.sound_tables.specs.Faces.{Share}
use Rattle.sound_tables.specs.Sound.{In, HalfUsed, Sound}
use Rattle.sound_tables.specs.Good.{own}
use Rattle.sound_tables.specs.EdgesAcross.{edge_half, half_edge}

-- the face of each half-edge once loop l lies in face f
abbrev pub side_in : Columns → ℕ → ℕ → ℕ → ℕ
side_in c l f k = upd (c Face) l f (c Loop k)

-- chains over the half-edges in use, s giving the face of each
abbrev pub Chain : Shape → Columns → (ℕ → ℕ) → ℕ → ℕ → Type 0
Chain sh c s = Linked (Share (HalfUsed sh c) s mate)

module _ {sh : Shape} (x : List ℕ) {p : List ℤ} (a : Sound sh p (own sh x)) (s : ℕ → ℕ) where
  -- the table's columns
  abbrev c : Columns
  c = own sh x

  -- what passes is linked
  linked_chain : (f g : ℕ) → linked_by sh x s f g ≡ true → Chain sh c s f g
  linked_chain f g t = map_linked (λ i. i)
      (λ i j e. link (edge_half sh c a.rules.mate_in s e.0 i j (e.1.0, e.1.1)
      (λ z. T_not (eqb (c Start (2 * e.0)) 0) (joins_T sh x s e.0 e.1.2).0 (true_T (eqb_same z))) e.2
      e.3)) (linked_T sh x s f g (true_T t)).2

  -- and what is linked passes
  chain_linked : ((k : ℕ) → HalfUsed sh c k → In sh.faces (s k)) → (f g : ℕ) → In sh.faces f → In sh.faces g
      → Chain sh c s f g → linked_by sh x s f g ≡ true
  chain_linked sides f g i j h = T_true (T_linked sh x s f g (T_within sh.faces f i.0 i.1)
      (T_within sh.faces g j.0 j.1) (map_linked (λ k. k) (half_edge sh c a.rules.mate_in s joined) h))
    where
      -- an edge in use joins the faces of its halves
      joined : (e : ℕ) → In sh.edges e → HalfUsed sh c (2 * e - 1) → HalfUsed sh c (2 * e)
          → Joins sh x s sh.edges (s (2 * e - 1)) (s (2 * e))
      joined e i u w =
          let here = sides (2 * e - 1) u in
          let there = sides (2 * e) w in (
            e,
            (
              i.0,
              i.1,
              T_joins sh x s e (not_T (eqb (c Start (2 * e)) 0)
                  (λ z. w.2 (eqb→eq (c Start (2 * e)) 0 z))) (here.0, here.1, there.0, there.1),
            ),
            refl,
            refl,
          )

-- ---- once loop l lies in face f

module _ {sh : Shape} (x : List ℕ) {p : List ℤ} (a : Sound sh p (own sh x)) (l f : ℕ) (jf : In sh.faces f) where
  -- each half-edge in use has a face there
  side_face : (k : ℕ) → HalfUsed sh (own sh x) k → In sh.faces (side_in (own sh x) l f k)
  side_face k u =
      let b = a.solids.side_in_lem k u in
      split (own sh x Loop k) l (λ e. rw (upd_at (own sh x Face) f e) jf)
      (λ n. rw (upd_off (own sh x Face) f n) (b.0, b.1))

  -- chains lead from faces to faces
  chain_face : {g h : ℕ} → Chain sh (own sh x) (side_in (own sh x) l f) g h → In sh.faces g → In sh.faces h
  chain_face c = (carry (In sh.faces) (λ i j t. (
    λ q. subst (In sh.faces) t.3 (side_face (mate t.0) (a.rules.mate_in t.0 t.1)),
    λ q. subst (In sh.faces) t.2 (side_face t.0 t.1),
  )) c).0

  -- what passes is linked
  pub after_chain : (g h : ℕ) → linked_after sh x l f g h ≡ true → Chain sh (own sh x) (side_in (own sh x) l f) g h
  unfolding linked_after upd
  after_chain g h t = linked_chain _ a (side_in (own sh x) l f) g h t

  -- and what is linked passes
  pub chain_after : (g h : ℕ) → In sh.faces g → Chain sh (own sh x) (side_in (own sh x) l f) g h
      → linked_after sh x l f g h ≡ true
  unfolding linked_after upd
  chain_after g h i c = chain_linked _ a (side_in (own sh x) l f) side_face g h i (chain_face c i) c

  -- a number of no face is linked to nothing
  pub after_none : (g : ℕ) → linked_after sh x l f g 0 ≡ false
  unfolding linked_after
  after_none g =
      T_false (λ t. let w = within_T sh.faces 0 (linked_T sh x (side_as sh x l f) g 0 t).1 in omega (arith, w.0))
