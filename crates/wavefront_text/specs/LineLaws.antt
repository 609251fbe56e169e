-- What the code that puts lines asks of points and ranks, and what it leaves, step by step.
use Rattle.std.specs.Prelude.{◌≡◌, refl, ◌≢◌, Bool, true, false, List, [], ◌∷◌, ◌++◌, ℕ, zero, suc, ◌+◌, ◌-◌, ◌*◌, ◌≤◌}
use Rattle.std.specs.Prelude.{◌<◌, T, eqb, ℤ, length, get_or}
use Rattle.std.proofs.Common.{sym, ap, ◌∙◌, append-nil, arith, add-one, length-append}
use Rattle.std.proofs.Math.Seq.{length-sets}
use Rattle.laws.specs.Bools.{pick, eqb_same, eqb_other}
use Rattle.layout.specs.declared.shape.Shape.{Shape}
use Rattle.layout.specs.Layout.{face_outer, loop_first, start_of, prev_of}
use Rattle.layout.specs.Items.{some}
use Rattle.text.specs.Decimal.{decimal, decimal_length}
use Rattle.codec.specs.SignedLaws.{back}
use Rattle.codec.specs.WriteLaws.{sets_append}
use Rattle.layout.specs.Points.{point_width, range_test, in_range, coordinate}
use Rattle.text.specs.Put.{newline, Put, then, put_4}
use Rattle.wavefront_text.specs.PutLaws.{range_held}
use Rattle.wavefront.specs.Lengths.{concat_map_append, millimetres_length}
use Rattle.wavefront.specs.Obj.{passing_to, millimetres, spaced, concat_map, vertex_line}
use Rattle.wavefront.specs.Obj.{lap, backwards, corner_word, face_line}

-- the three coordinates of vertex v are in range
abbrev pub InRanges : List ℤ → ℕ → Type 0
InRanges p v = (i : ℕ) → i < point_width → T (in_range p v i)

-- and so are those of the vertices 1 to n
abbrev pub AllInRange : List ℤ → ℕ → Type 0
AllInRange p n = (v : ℕ) → 1 ≤ v → v ≤ n → InRanges p v

-- every number of a list has at most four digits
abbrev pub Low : List ℕ → Type 0
Low ranks = (v : ℕ) → get_or ranks v 0 < 10000

-- ---- a vertex's line

-- its letter, its three coordinates and its end
pub put_vertex : (x x1 x2 x3 x4 x5 : List ℕ) (a a1 a2 a3 a4 a5 : ℕ) (p : List ℤ) (v : ℕ)
    → Put x a (118 ∷ []) a1 x1 → Put x1 a1 (spaced (millimetres (coordinate p v 0))) a2 x2
    → Put x2 a2 (spaced (millimetres (coordinate p v 1))) a3 x3
    → Put x3 a3 (spaced (millimetres (coordinate p v 2))) a4 x4 → Put x4 a4 newline a5 x5
    → Put x a (vertex_line p v) a5 x5
unfolding vertex_line
put_vertex x x1 x2 x3 x4 x5 a a1 a2 a3 a4 a5 p v p1 p2 p3 p4 p5 =
    let word : ℕ → List ℕ = λ i. spaced (millimetres (coordinate p v i)) in
    then x x4 x5 a a4 a5 ((118 ∷ []) ++ word 0 ++ word 1 ++ word 2) newline
    (put_4 x x1 x2 x3 x4 a a1 a2 a3 a4 (118 ∷ []) (word 0) (word 1) (word 2) p1 p2 p3 p4) p5

-- a coordinate that was read, as it is handed on
module _ (p : List ℤ) (v i : ℕ) (c : ℤ) (e : c ≡ coordinate p v i) (t : T (in_range p v i)) where
  same_coordinate : back c ≡ coordinate p v i
  same_coordinate = ap back e ∙ range_held (coordinate p v i) t

  -- is in range
  pub word_asks : T (range_test (back c))
  word_asks = rw same_coordinate t

  -- its word is put
  pub word_put : (x y : List ℕ) (a b : ℕ) → Put x a (spaced (millimetres (back c))) b y
      → Put x a (spaced (millimetres (coordinate p v i))) b y
  word_put x y a b h = rw same_coordinate at h

  -- and has at most eight bytes
  pub place_word : (x y : List ℕ) (a b : ℕ) → Put x a (spaced (millimetres (back c))) b y → b ≤ a + 8
  place_word x y a b h = omega (arith, (word_put x y a b h).0, millimetres_length (coordinate p v i) t)

-- ---- lines one after the other

-- nothing put
pub put_none : (x : List ℕ) (a : ℕ) → Put x a [] a x
put_none x a = (omega arith, refl)

-- no number, no text
pub listed_none : (x : List ℕ) (a : ℕ) (g : ℕ → List ℕ) (t : ℕ → Bool) → Put x a (concat_map g (passing_to 0 t)) a x
unfolding concat_map passing_to
listed_none x a g t = put_none x a

-- the text of one number, or of none
single : (g : ℕ → List ℕ) (k : ℕ) (c : Bool) → concat_map g (pick c (k ∷ []) []) ≡ pick c (g k) []
unfolding concat_map
single g k true = append-nil (g k)
single g k false = refl

-- the next number's text, where it passes
pub listed_next : (x y z : List ℕ) (a b d : ℕ) (g : ℕ → List ℕ) (t : ℕ → Bool) (k : ℕ)
    → Put x a (concat_map g (passing_to k t)) b y → Put y b (pick (t (k + 1)) (g (k + 1)) []) d z
    → Put x a (concat_map g (passing_to (k + 1) t)) d z
unfolding passing_to
listed_next x y z a b d g t k p q =
    rw (add-one k)
    (rw (concat_map_append g (passing_to k t) (pick (t (suc k)) (suc k ∷ []) []), single g (suc k) (t (suc k)))
    (then x y z a b d (concat_map g (passing_to k t)) (pick (t (suc k)) (g (suc k)) []) p (rw (add-one k) at q)))

-- up to the last
pub listed_all : (x y : List ℕ) (a b : ℕ) (g : ℕ → List ℕ) (t : ℕ → Bool) (k n : ℕ) → k ≤ n → n ≤ k
    → Put x a (concat_map g (passing_to k t)) b y → Put x a (concat_map g (passing_to n t)) b y
listed_all x y a b g t k n l m p = let e : n ≡ k = omega arith in rw e p

-- a buffer keeps its length
pub put_length : (x y : List ℕ) (a b : ℕ) (t : List ℕ) → Put x a t b y → length y ≡ length x
put_length x y a b t (e, f) = ap length f ∙ length-sets x a t

-- ---- the corners of a face

-- a text is put whose front is put: the rest of it is put behind
pub put_rest : (x y z : List ℕ) (a b d : ℕ) (t u : List ℕ) → Put x a (t ++ u) d z → Put x a t b y → Put y b u d z
put_rest x y z a b d t u (e, f) (g, h) =
    (omega (arith, length-append t u), f ∙ sets_append x a t u ∙ rw (h, g) refl)

-- a lap that ends here, or goes on
cut : (f : ℕ → ℕ) (a n k : ℕ) (c : Bool) → pick c [] (lap f a n k) ≡ lap f a (pick c 0 n) k
unfolding lap
cut f a n k true = refl
cut f a n k false = refl

-- one step of a lap
pub lap_step : (f : ℕ → ℕ) (a n k : ℕ) → 0 < n → lap f a n k ≡ k ∷ lap f a (pick (eqb (f k) a) 0 (n - 1)) (f k)
unfolding lap
lap_step f a zero k h = absurd (omega arith)
lap_step f a (suc n) k h = let e : suc n - 1 ≡ n = omega arith in rw e (ap (λ l. k ∷ l) (cut f a n (f k) (eqb (f k) a)))

-- the first corner of a lap, and the rest of it
lap_next : (x y z : List ℕ) (at b d : ℕ) (g : ℕ → List ℕ) (f : ℕ → ℕ) (a n k m j : ℕ) → 0 < n
    → Put x at (concat_map g (lap f a n k)) d z → Put x at (g k) b y → j ≡ f k → m ≡ pick (eqb j a) 0 (n - 1)
    → Put y b (concat_map g (lap f a m j)) d z
unfolding concat_map
lap_next x y z at b d g f a n k m j h p q e r =
    let l = lap f a (pick (eqb (f k) a) 0 (n - 1)) (f k) in
    rw (r, e) (put_rest x y z at b d (g k) (concat_map g l) (rw (lap_step f a n k h) at p) q)

-- the end of a lap
pub lap_end : (x z : List ℕ) (at d : ℕ) (g : ℕ → List ℕ) (f : ℕ → ℕ) (a n k : ℕ) → n ≡ 0
    → Put x at (concat_map g (lap f a n k)) d z → (at ≡ d) × (x ≡ z)
unfolding concat_map lap
lap_end x z at d g f a n k e p = let q : Put x at [] d z = rw e at p in (omega (arith, q.0), sym q.1)

-- the walk goes on
pub lap_on : (x y z : List ℕ) (at b d : ℕ) (g : ℕ → List ℕ) (f : ℕ → ℕ) (a n k m j : ℕ) → 0 < n
    → Put x at (concat_map g (lap f a n k)) d z → Put x at (g k) b y → j ≡ f k → j ≢ a → m ≡ n - 1
    → Put y b (concat_map g (lap f a m j)) d z
lap_on x y z at b d g f a n k m j h p q e c i = lap_next x y z at b d g f a n k m j h p q e (rw (eqb_other c) i)

-- or is back
pub lap_back : (x y z : List ℕ) (at b d : ℕ) (g : ℕ → List ℕ) (f : ℕ → ℕ) (a n k j : ℕ) → 0 < n
    → Put x at (concat_map g (lap f a n k)) d z → Put x at (g k) b y → j ≡ f k → j ≡ a → (b ≡ d) × (y ≡ z)
lap_back x y z at b d g f a n k j h p q e c =
    lap_end y z b d g f a 0 j refl (lap_next x y z at b d g f a n k 0 j h p q e (rw (eqb_same c) refl))

-- ---- what is put only where a test passes

-- the line of a vertex with no rank, and of one with a rank
pub put_unranked : (x t l : List ℕ) (a v r : ℕ) → r ≡ get_or l v 0 → r ≡ 0
    → Put x a (pick (some (get_or l v 0)) t []) a x
put_unranked x t l a v r e z = rw (← e, z) (put_none x a)

pub put_own_rank : (x y t l : List ℕ) (a b v r : ℕ) → r ≡ get_or l v 0 → r ≢ 0 → Put x a t b y
    → Put x a (pick (some (get_or l v 0)) t []) b y
put_own_rank x y t l a b v r e z p = rw (← e, eqb_other z) p

-- the line of a face of the solid, and of another
pub put_own : (x y t : List ℕ) (a b s r n : ℕ) → r ≡ n → r ≡ s → Put x a t b y → Put x a (pick (eqb n s) t []) b y
put_own x y t a b s r n e z p = rw (← e, eqb_same z) p

pub put_other : (x t : List ℕ) (a s r n : ℕ) → r ≡ n → r ≢ s → Put x a (pick (eqb n s) t []) a x
put_other x t a s r n e z = rw (← e, eqb_other z) (put_none x a)

-- ---- a corner

-- a rank has at most four digits
pub rank_low : (l : List ℕ) (v r : ℕ) → Low l → r ≡ get_or l v 0 → r < 10000
rank_low l v r h e = rw e (h v)

-- a space and the rank of a half-edge's start; at most five bytes
pub put_corner : (x x1 x2 : List ℕ) (a a1 a2 : ℕ) (sh : Shape) (links l : List ℕ) (k v r n : ℕ) → Low l
    → v ≡ start_of sh links k → r ≡ get_or l v 0 → Put x a (32 ∷ []) a1 x1 → Put x1 a1 (decimal n) a2 x2 → n ≡ r
    → Put x a (corner_word sh links (λ v. get_or l v 0) k) a2 x2 × (a2 ≤ a + 5)
unfolding corner_word
put_corner x x1 x2 a a1 a2 sh links l k v r n low ev er p q e =
    let h = then x x1 x2 a a1 a2 (32 ∷ []) (decimal n) p q in
    let d = decimal_length 3 n (rank_low l v n low (e ∙ er)) in
    (rw (← ev, ← er, ← e) h, omega (arith, p.0, q.0, d))

-- ---- a face's line

-- its letter, the corners of its lap and its end
pub put_face : (x x1 x2 x3 : List ℕ) (a a1 a2 a3 : ℕ) (sh : Shape) (links : List ℕ) (number : ℕ → ℕ) (f o first k : ℕ)
    → o ≡ face_outer sh links f → first ≡ loop_first sh links o → k ≡ first → Put x a (102 ∷ []) a1 x1
    → Put x1 a1 (concat_map (corner_word sh links number) (lap (prev_of sh links) first (2 * sh.edges) k)) a2 x2
    → Put x2 a2 newline a3 x3 → Put x a (face_line sh links number f) a3 x3
unfolding face_line backwards
put_face x x1 x2 x3 a a1 a2 a3 sh links number f o first k eo ef ek p q r =
    let e : first ≡ loop_first sh links (face_outer sh links f) = ef ∙ ap (loop_first sh links) eo in
    let u = concat_map (corner_word sh links number) (lap (prev_of sh links) first (2 * sh.edges) first) in
    rw (← e) (then x x2 x3 a a2 a3 ((102 ∷ []) ++ u) newline (then x x1 x2 a a1 a2 (102 ∷ []) u p (rw ek at q)) r)
