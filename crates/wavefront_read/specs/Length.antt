-- How long the text of a solid can be: not empty; a line of a vertex has 26 bytes at most, a line of a face 2 and 5 for
-- each corner, and each half-edge is a corner of one face.
use Rattle.std.specs.Prelude.{◌≡◌, refl, ◌⊎◌, Bool, true, false, List, [], ◌∷◌, ◌++◌, ℕ, zero, suc, ◌+◌, ◌*◌, ◌≤◌, ◌<◌}
use Rattle.std.specs.Prelude.{T, eqb, ℤ, length}
use Rattle.std.proofs.Common.{ap, inl, inr, ⊎_elim, append-nil, eqb→eq}
use native.Mathlib.Omega.{arith}
use Rattle.std.proofs.Math.ListN.{length-append}
use Rattle.laws.specs.Bools.{pick, true_T, ask, eqb_same}
use Rattle.laws.specs.Sums.{bit, sum_to, count_to, sum_le, sum_swap, count_le}
use Rattle.layout.specs.declared.shape.Shape.{Shape}
use Rattle.layout.specs.Layout.{face_solid, start_of, side}
use Rattle.layout.specs.Points.{coordinate}
use Rattle.sound_tables.specs.Sound.{In, Sound}
use Rattle.sound_tables.specs.Labels.{many_with}
use Rattle.sound_tables.specs.Good.{own, Good}
use Rattle.text.specs.Decimal.{decimal_length}
use Rattle.wavefront.specs.Obj.{passing_to, own_vertex, own_face, own_vertices, own_faces, rank, millimetres}
use Rattle.wavefront.specs.Obj.{concat_map}
use Rattle.wavefront.specs.Lengths.{concat_map_append, millimetres_length}
use Rattle.text.specs.Put.{newline}
use Rattle.wavefront.specs.Obj.{spaced, vertex_line, backwards, corner_word, face_line, obj_text}
use Rattle.wavefront_read.specs.Laps.{Among, turn_length}
use Rattle.wavefront_read.specs.Counts.{once, different_count}
use Rattle.wavefront_read.specs.TurnedRound.{Showable, onwards, turned_round}
use Rattle.wavefront_read.specs.Passing.{passing_all}
use Rattle.wavefront_read.specs.Ranks.{corner_own}

-- ---- counts and sums

-- n times c
sum_const : (n c : ℕ) → sum_to n (λ k. c) ≡ c * n
unfolding sum_to
sum_const zero c = omega arith
sum_const (suc n) c = omega (arith, sum_const n c)

-- each of 1..n has one label at most
labels_once : (m n : ℕ) (lab : ℕ → ℕ) → sum_to m (λ l. many_with n lab l) ≤ n
labels_once m n lab = omega (
  arith,
  sum_swap m n (λ l k. bit (eqb (lab k) l)),
  sum_le n (λ k. count_to m (λ l. eqb (lab k) l)) (λ k. 1) (λ k a b. once m (lab k)),
  sum_const n 1,
)

-- ---- texts

-- texts of which one has bytes
joined_some : (text : ℕ → List ℕ) (k : ℕ) (l : List ℕ) → Among k l → 0 < length (text k)
    → 0 < length (concat_map text l)
unfolding concat_map
joined_some text k [] m h = absurd m
joined_some text k (a ∷ l) m h = ⊎_elim
    (λ e. omega (arith, h, ap (λ j. length (text j)) e, length-append (text a) (concat_map text l)))
    (λ i. omega (arith, joined_some text k l i h, length-append (text a) (concat_map text l))) m

-- texts of at most c bytes each
concat_map_most : (text : ℕ → List ℕ) (c : ℕ) (l : List ℕ) → ((k : ℕ) → Among k l → length (text k) ≤ c)
    → length (concat_map text l) ≤ c * length l
unfolding concat_map
concat_map_most text c [] h = omega arith
concat_map_most text c (a ∷ l) h =
    omega (
      arith,
      length-append (text a) (concat_map text l),
      h a (inl refl),
      concat_map_most text c l (λ k i. h k (inr i)),
    )

-- texts of the numbers that pass a test, of at most m k bytes for k
concat_map_sum : (text : ℕ → List ℕ) (m : ℕ → ℕ) (n : ℕ) (t : ℕ → Bool)
    → ((k : ℕ) → In n k → T (t k) → length (text k) ≤ m k) → length (concat_map text (passing_to n t)) ≤ sum_to n m
unfolding concat_map passing_to sum_to
concat_map_sum text m zero t h = omega arith
concat_map_sum text m (suc n) t h =
    omega (
      arith,
      ap length (concat_map_append text (passing_to n t) (pick (t (suc n)) (suc n ∷ []) [])),
      length-append (concat_map text (passing_to n t)) (concat_map text (pick (t (suc n)) (suc n ∷ []) [])),
      concat_map_sum text m n t (λ k i. h k (i.0, omega (arith, i.1))),
      one (ask (t (suc n))),
    )
  where
    -- the last, if it passes
    one : (t (suc n) ≡ true) ⊎ (t (suc n) ≡ false)
        → length (concat_map text (pick (t (suc n)) (suc n ∷ []) [])) ≤ m (suc n)
    one (inl e) = rw e (omega (
      arith,
      ap length (append-nil (text (suc n))),
      h (suc n) (omega arith, omega arith) (true_T e),
    ))
    one (inr e) = rw e (omega arith)

-- ---- lines

-- 2 and 5 times m k, for each k of 1..n
sum_lines : (n : ℕ) (m : ℕ → ℕ) → sum_to n (λ k. 2 + 5 * m k) ≡ 2 * n + 5 * sum_to n m
unfolding sum_to
sum_lines zero m = refl
sum_lines (suc n) m = omega (arith, sum_lines n m)

-- a vertex
vertex_most : {sh : Shape} (x : List ℕ) {p : List ℤ} → Sound sh p (own sh x) → (v : ℕ) → In sh.vertices v
    → length (vertex_line p v) ≤ 26
unfolding vertex_line
vertex_most x {p = p} a v i =
    let word : ℕ → List ℕ = λ j. millimetres (coordinate p v j) in
    let most : (j : ℕ) → j < 3 → length (word j) ≤ 7 = λ j h.
    millimetres_length (coordinate p v j) ((a.point v i).range j h) in
    let one = (118 ∷ []) ++ spaced (word 0) in
    let two = one ++ spaced (word 1) in
    let three = two ++ spaced (word 2) in
    omega (
      arith,
      length-append one (spaced (word 1)),
      length-append two (spaced (word 2)),
      length-append three newline,
      most 0 (omega arith),
      most 1 (omega arith),
      most 2 (omega arith),
    )

-- the text of a solid in use has a line, for the solid has a face
pub obj_some : {sh : Shape} {x : List ℕ} {p : List ℤ} → Sound sh p (own sh x) → {s : ℕ} → Showable sh x s
    → 0 < length (obj_text sh x p s)
unfolding obj_text face_line
obj_some {sh} {x} {p} a {s} q =
    let f = a.solid s q.number q.used in
    let faces = concat_map (face_line sh x (rank sh x s)) (own_faces sh x s) in
    let m = passing_all sh.faces (own_face sh x s) f.0 f.1 (true_T (eqb_same f.2)) in
    omega (
      arith,
      length-append (concat_map (vertex_line p) (own_vertices sh x s)) faces,
      joined_some (face_line sh x (rank sh x s)) f.0 (own_faces sh x s) m (omega arith),
    )

module _ {sh : Shape} {x : List ℕ} {p : List ℤ} (g : Good sh x p) {s : ℕ} (q : Showable sh x s) where
  module _ (f : ℕ) (i : In sh.faces f) (e : face_solid sh x f ≡ s) where
    -- a corner
    corner_most : (k : ℕ) → Among k (backwards sh x f) → length (corner_word sh x (rank sh x s) k) ≤ 5
    unfolding corner_word
    corner_most k h =
        let v = start_of sh x k in
        let o = (corner_own g.sound q f i e k h).0 in
        omega (
          arith,
          decimal_length 3 (rank sh x s v) (omega (arith, count_le v (own_vertex sh x s), o, g.capacities.vertices)),
        )

    -- the corners of a face are no more than the half-edges that lie in it
    backwards_most : length (backwards sh x f) ≤ many_with (2 * sh.edges) (side sh x) f
    backwards_most =
        let r = turned_round g.sound q f i e in
        omega (
          arith,
          ap length r.written,
          turn_length (onwards sh x f),
          different_count (2 * sh.edges) (λ k. eqb (side sh x k) f) (onwards sh x f) r.once
              (λ k h. let w = r.only k h in ((w.0.0, w.0.1), true_T (eqb_same w.1))),
        )

    -- a face
    face_most : length (face_line sh x (rank sh x s) f) ≤ 2 + 5 * many_with (2 * sh.edges) (side sh x) f
    unfolding face_line
    face_most = omega (
      arith,
      length-append (concat_map (corner_word sh x (rank sh x s)) (backwards sh x f)) newline,
      concat_map_most (corner_word sh x (rank sh x s)) 5 (backwards sh x f) corner_most,
      backwards_most,
    )

  -- the whole text
  pub obj_length : length (obj_text sh x p s) ≤ 26 * sh.vertices + 2 * sh.faces + 5 * (2 * sh.edges)
  unfolding obj_text
  obj_length =
      let n = 2 * sh.edges in
      omega (
        arith,
        length-append (concat_map (vertex_line p) (own_vertices sh x s))
            (concat_map (face_line sh x (rank sh x s)) (own_faces sh x s)),
        concat_map_sum (vertex_line p) (λ v. 26) sh.vertices (own_vertex sh x s) (λ v i t. vertex_most _ g.sound v i),
        sum_const sh.vertices 26,
        concat_map_sum (face_line sh x (rank sh x s)) (λ f. 2 + 5 * many_with n (side sh x) f) sh.faces
            (own_face sh x s)
            (λ f i t. face_most f i (eqb→eq (face_solid sh x f) s t)),
        sum_lines sh.faces (λ f. many_with n (side sh x) f),
        labels_once sh.faces n (side sh x),
      )

  -- so no text is longer than 155,648 bytes
  pub obj_longest : length (obj_text sh x p s) ≤ 155648
  obj_longest = omega (arith, obj_length, g.capacities.vertices, g.capacities.faces, g.capacities.edges)
