-- Tables with the same columns, or columns that differ in one place, and what is counted and found in them.
use Rattle.std.specs.Prelude.{◌≡◌, ◌≢◌, ◌⊎◌, Bool, true, false, List, ℕ, zero, suc, ◌+◌, ◌*◌, ◌≤◌, eqb, ℤ, length}
use Rattle.std.proofs.Math.Path.{refl}
use Rattle.std.proofs.Common.{sym, ap, ◌∙◌, inl, inr, arith, eqb→eq}
use Rattle.laws.specs.Bools.{split, same?, true_T, eqb_same, eqb_other}
use Rattle.laws.specs.Search.{least_ext}
use Rattle.laws.specs.Sums.{sum_to, bit, count_to, sum_ext}
use Rattle.script.specs.declared.Operator.{Operator}
use Rattle.layout.specs.declared.shape.Shape.{Shape}
use Rattle.euler.specs.Queries.{faces_in}
use Rattle.euler.specs.Exec.{refusal_of, marks_after, links_after}
use Rattle.table.specs.Count.{item_used}
use Rattle.layout.specs.Fields.{SolidUsed, Solid, Face, Start, VertexUsed}
use Rattle.layout.specs.Items.{some, face_in}
use Rattle.sound_tables.specs.Sound.{In}
use Rattle.sound_tables.specs.Good.{Good, own}
use Rattle.sound_valence.specs.Kept.{links_used}
use Rattle.takedown.specs.Inversion.{solid_at, free_face, free_loop, free_edge}
use Rattle.inversion.specs.OfSolid.{least_some, least_there}
use Rattle.inversion.specs.Counts.{solids, faces, loops, edges, vertices, is_stray, strays, count_same}

-- one term of 1..n changes
pub change_in : (n : ℕ) (f g : ℕ → ℕ) (c : ℕ) → 1 ≤ c → c ≤ n → ((k : ℕ) → 1 ≤ k → k ≤ n → k ≢ c → f k ≡ g k)
    → sum_to n f + g c ≡ sum_to n g + f c
unfolding sum_to
change_in zero f g c l u h = absurd (omega arith)
change_in (suc n) f g c l u h = go (λ v. change_in n f g c l v (λ k a b d. h k a (omega arith) d)) (same? c (suc n))
  where
    go : (c ≤ n → sum_to n f + g c ≡ sum_to n g + f c) → (c ≡ suc n) ⊎ (c ≢ suc n)
        → sum_to (suc n) f + g c ≡ sum_to (suc n) g + f c
    go ih (inl e) = omega (arith, sum_ext n f g (λ k l' u'. h k l' (omega arith) (omega arith)), ap f e, ap g e)
    go ih (inr e) = omega (arith, ih (omega arith), h (suc n) (omega arith) (omega arith) (λ q. e (sym q)))

-- how many of the words f 1 .. f n are not 0
abbrev pub words : ℕ → (ℕ → ℕ) → ℕ
words n f = count_to n (λ k. some (f k))

pub words_same : (n : ℕ) (f g : ℕ → ℕ) → ((k : ℕ) → In n k → f k ≡ g k) → words n f ≡ words n g
words_same n f g h = count_same n (λ k. some (f k)) (λ k. some (g k)) (λ k a b. ap some (h k (a, b)))

-- one of them becomes 0
pub words_fewer : (n : ℕ) (f g : ℕ → ℕ) (c : ℕ) → In n c → f c ≡ 0 → g c ≢ 0 → ((k : ℕ) → In n k → k ≢ c → f k ≡ g k)
    → suc (words n f) ≡ words n g
words_fewer n f g c i z d h =
    omega (
      arith,
      change_in n (λ k. bit (some (f k))) (λ k. bit (some (g k))) c i.0 i.1 (λ k a b e. ap
          (λ m. bit (some m)) (h k (a, b) e)),
      here,
      there,
    )
  where
    here : bit (some (f c)) ≡ 0
    here = rw (eqb_same z)

    there : bit (some (g c)) ≡ 1
    there = rw (eqb_other d)

-- ---- the counts are words of columns

module _ (sh : Shape) (x : List ℕ) where
  pub solids_is : solids sh x ≡ words sh.solids (own sh x SolidUsed)
  unfolding item_used
  solids_is = refl

  pub faces_is : faces sh x ≡ words sh.faces (own sh x Solid)
  unfolding item_used
  faces_is = refl

  pub loops_is : loops sh x ≡ words sh.loops (own sh x Face)
  unfolding item_used
  loops_is = refl

  pub edges_is : edges sh x ≡ words sh.edges (λ e. own sh x Start (2 * e))
  unfolding item_used
  edges_is = refl

  pub vertices_is : vertices sh x ≡ words sh.vertices (own sh x VertexUsed)
  unfolding item_used
  vertices_is = refl

-- words that are 0 in the same places
words_alike : (n : ℕ) (f g : ℕ → ℕ) → ((k : ℕ) → In n k → (f k ≡ 0 → g k ≡ 0) × (g k ≡ 0 → f k ≡ 0))
    → words n f ≡ words n g
words_alike n f g h = count_same n (λ k. some (f k)) (λ k. some (g k)) (λ k a b. split (f k) 0
    (λ z. let y = (h k (a, b)).0 z in rw (eqb_same z, eqb_same y))
    (λ d. rw (eqb_other d, eqb_other (λ y. d ((h k (a, b)).1 y)))))

-- vertices are counted whatever their words are
pub vertices_by_marks : {sh : Shape} {x : List ℕ} {p : List ℤ} (o : Operator) → Good sh x p → length o.args ≡ 8
    → refusal_of sh x o ≡ 0 → vertices sh (links_after sh x o) ≡ vertices sh (marks_after sh x o)
vertices_by_marks {sh} {x} o g len h =
    vertices_is sh _ ∙ words_alike sh.vertices _ _ (links_used o g len h) ∙ sym (vertices_is sh _)

-- ---- the same solids and faces

module _ (sh : Shape) (x y : List ℕ) (es : (n : ℕ) → In sh.faces n → own sh y Solid n ≡ own sh x Solid n) where
  -- each solid has its least face
  pub face_in_same : (s : ℕ) → face_in sh y s ≡ face_in sh x s
  face_in_same s = least_ext sh.faces _ _ (λ f a b. ap (λ n. eqb n s) (es f (a, b)))

  -- and as many faces
  pub faces_in_same : (s : ℕ) → faces_in sh y s ≡ faces_in sh x s
  faces_in_same s = count_same sh.faces _ _ (λ f a b. ap (λ n. eqb n s) (es f (a, b)))

  pub free_face_same : free_face sh y ≡ free_face sh x
  free_face_same = least_ext sh.faces _ _ (λ f a b. ap (λ n. eqb n 0) (es f (a, b)))

  -- a loop of the same face is stray or not
  pub stray_same : (l f : ℕ) → own sh y Face l ≡ f → own sh x Face l ≡ f → (f ≡ 0) ⊎ In sh.faces f
      → is_stray sh y l ≡ is_stray sh x l
  stray_same l f a b (inl z) = rw (a, b, z)
  stray_same l f a b (inr i) = rw (a, b, es f i, face_in_same (own sh x Solid f))

pub solid_at_same : (sh : Shape) (x y : List ℕ)
    → ((n : ℕ) → In sh.solids n → own sh y SolidUsed n ≡ own sh x SolidUsed n) → solid_at sh y ≡ solid_at sh x
solid_at_same sh x y e = least_ext sh.solids _ _ (λ s a b. ap some (e s (a, b)))

-- the face of a loop is 0 or a face
pub face_or_none : {sh : Shape} {x : List ℕ} {p : List ℤ} → Good sh x p → (l : ℕ) → In sh.loops l
    → (own sh x Face l ≡ 0) ⊎ In sh.faces (own sh x Face l)
face_or_none {sh} {x} g l i = split (own sh x Face l) 0 (λ z. inl z) (λ d. inr (g.sound.loop l i d).face_in_lem)

-- an edge number that was free stays free
pub free_edge_kept : (sh : Shape) (x y : List ℕ) → ((i : ℕ) → In (2 * sh.edges) i → own sh x Start i ≡ 0
    → own sh y Start i ≡ 0) → free_edge sh x ≢ 0 → free_edge sh y ≢ 0
free_edge_kept sh x y h d =
    let f = least_some sh.edges (λ e. eqb (own sh x Start (2 * e)) 0) d in
    least_there sh.edges (λ e. eqb (own sh y Start (2 * e)) 0) (free_edge sh x) f.0
    (eqb_same (h (2 * free_edge sh x) (omega (arith, f.0.0), omega (arith, f.0.1)) (eqb→eq _ _ (true_T f.1))))

-- the same loops
module _ (sh : Shape) (x y : List ℕ) (ef : (n : ℕ) → In sh.loops n → own sh y Face n ≡ own sh x Face n) where
  pub free_loop_same : free_loop sh y ≡ free_loop sh x
  free_loop_same = least_ext sh.loops _ _ (λ l a b. ap (λ n. eqb n 0) (ef l (a, b)))

  -- and faces: the same stray loops
  pub strays_same : {p : List ℤ} → Good sh x p → ((n : ℕ) → In sh.faces n → own sh y Solid n ≡ own sh x Solid n)
      → strays sh y ≡ strays sh x
  strays_same g es =
      count_same sh.loops _ _ (λ l a u. stray_same sh x y es l (own sh x Face l) (ef l (a, u)) refl
      (face_or_none g l (a, u)))

  pub loops_same : loops sh y ≡ loops sh x
  loops_same = loops_is sh y ∙ words_same sh.loops _ _ ef ∙ sym (loops_is sh x)

-- tests that agree but at c, where q passes and p does not
pub count_fewer_in : (n : ℕ) (p q : ℕ → Bool) (c : ℕ) → In n c → p c ≡ false → q c ≡ true
    → ((k : ℕ) → In n k → k ≢ c → p k ≡ q k) → suc (count_to n p) ≡ count_to n q
count_fewer_in n p q c i a b h =
    omega (
      arith,
      change_in n (λ k. bit (p k)) (λ k. bit (q k)) c i.0 i.1 (λ k l u d. ap bit (h k (l, u) d)),
      ap bit a,
      ap bit b,
    )
