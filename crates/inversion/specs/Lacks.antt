-- What a turn lacks: where it calls for a free face, loop or edge number and none of that kind is left (`Lack`); that
-- the test says just this; and that a turn that does not lack has what it calls for.
use Rattle.std.specs.Prelude.{◌≡◌, ◌≢◌, true, false, List, ℕ, ◌*◌, eqb}
use Rattle.std.proofs.Common.{sym, ◌∙◌, eqb→eq}
use Rattle.std.proofs.Math.Logic.{⊎_elim}
use Rattle.std.proofs.Math.Bool.{false≢true}
use Rattle.laws.specs.Bools.{split, ask, true_T, eqb_same, eqb_other}
use Rattle.laws.specs.Search.{least, least_none}
use Rattle.layout.specs.declared.shape.Shape.{Shape}
use Rattle.layout.specs.Layout.{face_solid, loop_face, start_of}
use Rattle.layout.specs.Items.{face_in}
use Rattle.euler.specs.Queries.{faces_in}
use Rattle.sound_tables.specs.Sound.{In}
use Rattle.takedown.specs.Inversion.{solid_at, free_face, free_loop, free_edge, edges_left, ring_half, spur_half}
use Rattle.takedown.specs.Inversion.{ring_of}
use Rattle.takedown.specs.Inversion.{lacks_b, lacks, lack_at}
use Rattle.inversion.specs.OfSolid.{least_no}

-- what the turn of the solid at hand calls for is left
abbrev pub Enough : Shape → List ℕ → Type 0
Enough sh x = lack_at sh x ≡ false

-- the turn lacks a number of this kind: B is on and calls for a face (mfkrh) or for a loop (kemr), or C is on and calls
-- for an edge (mekr), and every number of the kind is in use
pub data Lack (sh : Shape) (x : List ℕ) : Type 0 where
  no_face : faces_in sh x (solid_at sh x) ≡ 1 → edges_left sh x (solid_at sh x) ≡ true
      → ring_half sh x (solid_at sh x) ≢ 0
      → ((f : ℕ) → In sh.faces f → face_solid sh x f ≢ 0) → Lack sh x
  no_loop : faces_in sh x (solid_at sh x) ≡ 1 → edges_left sh x (solid_at sh x) ≡ true
      → ring_half sh x (solid_at sh x) ≡ 0
      → spur_half sh x (solid_at sh x) ≡ 0 → ((l : ℕ) → In sh.loops l → loop_face sh x l ≢ 0) → Lack sh x
  no_edge : faces_in sh x (solid_at sh x) ≡ 1 → edges_left sh x (solid_at sh x) ≡ false
      → ring_of sh x (face_in sh x (solid_at sh x)) ≢ 0
      → ((e : ℕ) → In sh.edges e → start_of sh x (2 * e) ≢ 0) → Lack sh x

-- no number of a kind is free, as a search and as a sentence
all_used : (n : ℕ) (f : ℕ → ℕ) → least n (λ k. eqb (f k) 0) ≡ 0 → (k : ℕ) → In n k → f k ≢ 0
all_used n f z k i e = false≢true (sym (least_no n (λ k. eqb (f k) 0) z k i) ∙ eqb_same e)

none_free : (n : ℕ) (f : ℕ → ℕ) → ((k : ℕ) → In n k → f k ≢ 0) → least n (λ k. eqb (f k) 0) ≡ 0
none_free n f h = least_none n _ (λ k a b. eqb_other (h k (a, b)))

module _ (sh : Shape) (x : List ℕ) where
  -- ---- where it does not lack

  module _ (enough : Enough sh x) (one : faces_in sh x (solid_at sh x) ≡ 1) where
    pub face_left : edges_left sh x (solid_at sh x) ≡ true → ring_half sh x (solid_at sh x) ≢ 0 → free_face sh x ≢ 0
    unfolding lacks lacks_b
    face_left left d z = false≢true (sym (rw (eqb_same one, left, eqb_other d, eqb_same z) at enough))

    pub loop_left : edges_left sh x (solid_at sh x) ≡ true → ring_half sh x (solid_at sh x) ≡ 0
        → spur_half sh x (solid_at sh x) ≡ 0 → free_loop sh x ≢ 0
    unfolding lacks lacks_b
    loop_left left none no-spur z =
        false≢true (sym (rw (eqb_same one, left, eqb_same none, eqb_same no-spur, eqb_same z) at enough))

    pub edge_left : edges_left sh x (solid_at sh x) ≡ false → ring_of sh x (face_in sh x (solid_at sh x)) ≢ 0
        → free_edge sh x ≢ 0
    unfolding lacks
    edge_left left d z = false≢true (sym (rw (eqb_same one, left, eqb_other d, eqb_same z) at enough))

  -- ---- the test says it

  -- free numbers that are not 0 are no lack
  no_lack : (n : ℕ) → eqb n 0 ≡ true → n ≡ 0
  no_lack n t = eqb→eq n 0 (true_T t)

  -- kvsf calls for none
  last_none : faces_in sh x (solid_at sh x) ≡ 1 → edges_left sh x (solid_at sh x) ≡ false
      → ring_of sh x (face_in sh x (solid_at sh x)) ≡ 0 → lack_at sh x ≡ false
  unfolding lacks
  last_none one left z = rw (eqb_same one, left, eqb_same z)

  pub lack_is : lack_at sh x ≡ true → Lack sh x
  unfolding lacks lacks_b
  lack_is t = split (faces_in sh x (solid_at sh x)) 1
      (λ one. ⊎_elim
      (λ left. split (ring_half sh x (solid_at sh x)) 0
      (λ none. split (spur_half sh x (solid_at sh x)) 0
      (λ z. no_loop one left none z (all_used sh.loops (loop_face sh x)
      (no_lack _ (rw (eqb_same one, left, eqb_same none, eqb_same z) at t))))
      (λ d. absurd (false≢true (rw (eqb_same one, left, eqb_same none, eqb_other d) at t))))
      (λ d. no_face one left d (all_used sh.faces (face_solid sh x)
      (no_lack _ (rw (eqb_same one, left, eqb_other d) at t)))))
      (λ left. split (ring_of sh x (face_in sh x (solid_at sh x))) 0
      (λ z. absurd (false≢true (sym (last_none one left z) ∙ t)))
      (λ d. no_edge one left d (all_used sh.edges (λ e. start_of sh x (2 * e))
      (no_lack _ (rw (eqb_same one, left, eqb_other d) at t)))))
      (ask (edges_left sh x (solid_at sh x))))
      (λ many. absurd (false≢true (rw (eqb_other many) at t)))

  pub is_lack : Lack sh x → lack_at sh x ≡ true
  unfolding lacks lacks_b
  is_lack (no_face one left d a) = rw (eqb_same one, left, eqb_other d, none_free sh.faces (face_solid sh x) a)
  is_lack (no_loop one left none z a) =
      rw (eqb_same one, left, eqb_same none, eqb_same z, none_free sh.loops (loop_face sh x) a)
  is_lack (no_edge one left d a) =
      rw (eqb_same one, left, eqb_other d, none_free sh.edges (λ e. start_of sh x (2 * e)) a)
