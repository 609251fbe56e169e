-- On a table whose edges have faces on both sides the shells are those of document 01: what chains of edges in use
-- link. So the code's answer is the second part of rule 6.
use Rattle.std.specs.Prelude.{◌≡◌, refl, ◌≢◌, Bool, true, false, ◌&&◌, ◌||◌, ℕ, ◌≤◌, List, T, get_or}
use Rattle.std.proofs.Common.{arith}
use Rattle.std.proofs.Math.Dec.{eqb}
use Rattle.std.proofs.lemmas.Bool.{eqb-false}
use Rattle.laws.specs.Bools.{true_T, false_T, and_T, T_and, same_T, eqb_same}
use Rattle.laws.specs.Search.{all_to, all_ext, least, Least, none_is, one_is, least_from_is}
use Rattle.laws.specs.Linked.{Linked, link, map_linked, carry}
use Rattle.laws.specs.Walks.{Used}
use Rattle.laws.specs.Closure.{Edge, linkedb, linked_sound, linked_complete}
use Rattle.layout.specs.declared.shape.Shape.{Shape}
use Rattle.layout.specs.Layout.{face_solid, side}
use Rattle.check_shells.specs.Shells.{side_a, side_b, edge_used, within, joins, Joins, Ends, Sided, linked_by}
use Rattle.check_shells.specs.Shells.{faces_linked, face_whole, shells_whole}
use Rattle.check_shells.specs.ShellsLaws.{within_T, T_within, joins_T, T_joins, ends}

-- what follows `||` matters only where the first fails
or_same : (a b d : Bool) → (a ≡ false → b ≡ d) → (a || b) ≡ (a || d)
or_same true b d h = refl
or_same false b d h = h refl

-- the least of some of 1..n is one of 1..n
least_within : (n : ℕ) (t : ℕ → Bool) (k : ℕ) → 1 ≤ k → k ≤ n → t k ≡ true → (1 ≤ least n t) × (least n t ≤ n)
least_within n t k l u e = go (least_from_is n 1 t)
  where
    go : Least n 1 t (least n t) → (1 ≤ least n t) × (least n t ≤ n)
    go (none_is z none) = absurd (false_T (none k l (omega arith)) (true_T e))
    go (one_is a b s first) = (a, omega arith)

-- ---- on any table

module _ (sh : Shape) (x : List ℕ) (s : ℕ → ℕ) where
  -- the test of a chain over the edges that join faces
  abbrev by_joins : ℕ → ℕ → Bool
  by_joins = linkedb sh.faces sh.edges (joins sh x s) (side_a s) (side_b s)

  -- linked faces are faces with a chain between them
  pub linked_T : (f g : ℕ) → T (linked_by sh x s f g) → T (within sh.faces f) × T (within sh.faces g)
      × Linked (Joins sh x s sh.edges) f g
  unfolding linked_by
  linked_T f g t =
      let a = and_T (within sh.faces f && within sh.faces g) (by_joins f g) t in
      let b = and_T (within sh.faces f) (within sh.faces g) a.0 in
      (b.0, b.1, linked_sound sh.faces sh.edges (joins sh x s) (side_a s) (side_b s) (ends sh x s) f g a.1)

  -- and such faces are linked
  pub T_linked : (f g : ℕ) → T (within sh.faces f) → T (within sh.faces g) → Linked (Joins sh x s sh.edges) f g
      → T (linked_by sh x s f g)
  unfolding linked_by
  T_linked f g tf tg l =
      let b = within_T sh.faces f tf in
      T_and (within sh.faces f && within sh.faces g) (by_joins f g)
      (T_and (within sh.faces f) (within sh.faces g) tf tg)
      (linked_complete sh.faces sh.edges (joins sh x s) (side_a s) (side_b s) (ends sh x s) f g b.0 b.1 l)

-- ---- where edges have faces on both sides

-- the test of a chain over the edges in use
abbrev pub by_use : Shape → List ℕ → (ℕ → ℕ) → ℕ → ℕ → Bool
by_use sh x s = linkedb sh.faces sh.edges (edge_used sh x) (side_a s) (side_b s)

module _ (sh : Shape) (x : List ℕ) (s : ℕ → ℕ) (d : Sided sh x s) where
  -- one step of such a chain
  abbrev Uses : ℕ → ℕ → Type 0
  Uses = Edge (Used sh.edges (edge_used sh x)) (side_a s) (side_b s)

  -- f is a face
  abbrev Face : ℕ → Type 0
  Face f = (1 ≤ f) × (f ≤ sh.faces)

  -- what is in use has ends, as the laws of closure ask
  used_ends : (e : ℕ) → Used sh.edges (edge_used sh x) e → Ends sh.faces s e
  used_ends e u = d.at e u.0 u.1 u.2

  -- then an edge in use joins faces
  used_joins : (i j : ℕ) → Uses i j → Joins sh x s sh.edges i j
  used_joins i j r = (r.0, (r.1.0, r.1.1, T_joins sh x s r.0 r.1.2 (used_ends r.0 r.1)), r.2, r.3)

  -- as one that joins faces is in use
  joins_used : (i j : ℕ) → Joins sh x s sh.edges i j → Uses i j
  joins_used i j r = (r.0, (r.1.0, r.1.1, (joins_T sh x s r.0 r.1.2).0), r.2, r.3)

  -- a step leads from faces to faces, either way
  face_kept : (i j : ℕ) → Uses i j → (Face i → Face j) × (Face j → Face i)
  face_kept i j r = let n = used_ends r.0 r.1 in (
    λ a. (omega (arith, n.2, r.3), omega (arith, n.3, r.3)),
    λ a. (omega (arith, n.0, r.2), omega (arith, n.1, r.2)),
  )

  -- from a face on, what is linked is what chains of edges in use link
  pub linked_is : (f g : ℕ) → 1 ≤ f → f ≤ sh.faces → linked_by sh x s f g ≡ by_use sh x s f g
  linked_is f g l u = same_T
      (λ t. linked_complete sh.faces sh.edges (edge_used sh x) (side_a s) (side_b s) used_ends f g l u
      (map_linked (λ k. k) (λ i j r. link (joins_used i j r)) (linked_T sh x s f g t).2))
      (λ t. by_chain (linked_sound sh.faces sh.edges (edge_used sh x) (side_a s) (side_b s) used_ends f g t))
    where
      by_chain : Linked Uses f g → T (linked_by sh x s f g)
      by_chain c = let b = (carry Face face_kept c).0 (l, u) in
          T_linked sh x s f g (T_within sh.faces f l u) (T_within sh.faces g b.0 b.1)
          (map_linked (λ k. k) (λ i j r. link (used_joins i j r)) c)

module _ (sh : Shape) (x : List ℕ) (d : Sided sh x (side sh x)) where
  -- the least face of solid s, or 0
  abbrev least_face : ℕ → ℕ
  least_face s = least sh.faces (λ f. eqb (face_solid sh x f) s)

  -- with the least face of each solid for its leader it is the second part of rule 6
  pub whole_is : (ls : List ℕ)
      → ((f : ℕ) → 1 ≤ f → f ≤ sh.faces → face_solid sh x f ≢ 0 → get_or ls (face_solid sh x f) 0
      ≡ least_face (face_solid sh x f))
      → shells_whole sh x ls
      ≡ all_to sh.faces (λ f. eqb (face_solid sh x f) 0 || by_use sh x (side sh x) (least_face (face_solid sh x f)) f)
  unfolding face_whole
  whole_is ls h = all_ext sh.faces (face_whole sh x ls) (λ f. eqb (face_solid sh x f) 0
      || by_use sh x (side sh x) (least_face (face_solid sh x f)) f)
      (λ f l u. or_same (eqb (face_solid sh x f) 0) (faces_linked sh x (get_or ls (face_solid sh x f) 0) f)
      (by_use sh x (side sh x) (least_face (face_solid sh x f)) f)
      (λ e. let b = least_within sh.faces (λ g. eqb (face_solid sh x g) (face_solid sh x f)) f l u
      (eqb_same {m = face_solid sh x f} refl) in
      rw (h f l u (eqb-false (face_solid sh x f) 0 e)) (linked_is sh x (side sh x) d (least_face (face_solid sh x f)) f
      b.0 b.1)))
