-- The list of coordinates, by the laws of columns: a point that is put is read back, the others stay, and the
-- coordinates settle the list; so points stay sound.
use Rattle.std.specs.Prelude.{◌≡◌, refl, ◌≢◌, List, [], ◌∷◌, ℕ, zero, suc, ◌≤◌, ◌<◌, T, ℤ, pos, length, get_or}
use Rattle.std.proofs.Common.{sym, ◌∙◌, inl, inr, arith, lit≤}
use Rattle.laws.specs.Bools.{split}
use Rattle.laws.specs.Columns.{store_length, store_same, store_else, columns_ext}
use Rattle.layout.specs.declared.shape.Shape.{Shape}
use Rattle.layout.specs.Points.{point_width, points_length, point_kind, coordinate, set_coordinate, range_test}
use Rattle.euler.specs.Surgery.{put_point}
use Rattle.layout.specs.Fields.{VertexUsed, Columns}
use Rattle.sound_tables.specs.Sound.{In, PointSound}

-- the three coordinates of a point
abbrev pub three : ℤ → ℤ → ℤ → ℕ → ℤ
three a b c i = get_or (a ∷ b ∷ c ∷ []) i (pos 0)

-- what holds of three coordinates holds of each
pub all_three : (P : ℤ → Type 0) (a b c : ℤ) → P a → P b → P c → (i : ℕ) → i < point_width → P (three a b c i)
all_three P a b c pa pb pc zero h = pa
all_three P a b c pa pb pc (suc zero) h = pb
all_three P a b c pa pb pc (suc (suc zero)) h = pc
all_three P a b c pa pb pc (suc (suc (suc i))) h = absurd (omega arith)

-- putting a point keeps the length
pub put_length : (p : List ℤ) (v : ℕ) (a b c : ℤ) → length (put_point p v a b c) ≡ length p
put_length p v a b c =
    store_length (point_kind v) 2 (set_coordinate (set_coordinate p v 0 a) v 1 b) v c
    ∙ store_length (point_kind v) 1 (set_coordinate p v 0 a) v b ∙ store_length (point_kind v) 0 p v a

module _ (p : List ℤ) (v : ℕ) (a b c : ℤ) where
  -- the list with the first coordinate put, and with the second
  abbrev one : List ℤ
  one = set_coordinate p v 0 a

  abbrev two : List ℤ
  two = set_coordinate one v 1 b

  -- the point is read back
  pub put_at : 1 ≤ v → points_length v ≤ length p → (i : ℕ) → i < point_width
      → coordinate (put_point p v a b c) v i ≡ three a b c i
  put_at l u zero h =
      store_else (pos 0) (point_kind v) 0 2 two (lit≤ tt) (lit≤ tt) v c v (inr (omega arith))
      ∙ store_else (pos 0) (point_kind v) 0 1 one (lit≤ tt) (lit≤ tt) v b v (inr (omega arith))
      ∙ store_same (pos 0) (point_kind v) 0 p (omega arith) (lit≤ tt) v a l (omega arith)
  put_at l u (suc zero) h =
      store_else (pos 0) (point_kind v) 1 2 two (lit≤ tt) (lit≤ tt) v c v (inr (omega arith))
      ∙ store_same (pos 0) (point_kind v) 1 one (omega (arith, store_length (point_kind v) 0 p v a)) (lit≤ tt) v b l
      (omega arith)
  put_at l u (suc (suc zero)) h =
      let long : length two ≡ length p = store_length (point_kind v) 1 one v b ∙ store_length (point_kind v) 0 p v a in
      store_same (pos 0) (point_kind v) 2 two (omega (arith, long)) (lit≤ tt) v c l (omega arith)
  put_at l u (suc (suc (suc i))) h = absurd (omega arith)

  -- and the others stay
  pub put_off : (w : ℕ) → w ≢ v → (i : ℕ) → i < point_width → coordinate (put_point p v a b c) w i ≡ coordinate p w i
  put_off w n i h =
      store_else (pos 0) (point_kind v) i 2 two h (lit≤ tt) v c w (inl n)
      ∙ store_else (pos 0) (point_kind v) i 1 one h (lit≤ tt) v b w (inl n)
      ∙ store_else (pos 0) (point_kind v) i 0 p h (lit≤ tt) v a w (inl n)

-- lists of n points that agree are equal
pub points_ext : (n : ℕ) (p q : List ℤ) → length p ≡ points_length n → length q ≡ points_length n
    → ((v : ℕ) → In n v → (i : ℕ) → i < point_width → coordinate p v i ≡ coordinate q v i) → p ≡ q
points_ext n p q lp lq h =
    columns_ext (pos 0) 0 (point_kind n ∷ []) p q (lp ∙ sym lq) (refl, lit≤ tt, omega arith)
    (λ k u. absurd (omega arith)) (λ i v u l m. h v (l, m) i u, tt)

-- a point put over, and put back
pub put_back : (n : ℕ) (p : List ℤ) (v : ℕ) (a b c : ℤ) → length p ≡ points_length n → In n v
    → put_point (put_point p v a b c) v (coordinate p v 0) (coordinate p v 1) (coordinate p v 2) ≡ p
put_back n p v a b c lp i =
    let q = put_point p v a b c in
    let e : length q ≡ length p = put_length p v a b c in
    points_ext n _ p (put_length q v _ _ _ ∙ e ∙ lp) lp (λ w j k h. split w v
    (λ x. rw x (put_at q v _ _ _ i.0 (omega (arith, e, lp, i.1)) k h ∙ own k h))
    (λ x. put_off q v _ _ _ w x k h ∙ put_off p v a b c w x k h))
  where
    own : (k : ℕ) → k < point_width
        → three (coordinate p v 0) (coordinate p v 1) (coordinate p v 2) k ≡ coordinate p v k
    own zero h = refl
    own (suc zero) h = refl
    own (suc (suc zero)) h = refl
    own (suc (suc (suc k))) h = absurd (omega arith)

-- a point put where all was zero, and cleared
pub put_cleared : (n : ℕ) (p : List ℤ) (v : ℕ) (a b c : ℤ) → length p ≡ points_length n → In n v
    → ((i : ℕ) → i < point_width → coordinate p v i ≡ pos 0)
    → put_point (put_point p v a b c) v (pos 0) (pos 0) (pos 0) ≡ p
put_cleared n p v a b c lp i o =
    (λ t. put_point (put_point p v a b c) v (sym (o 0 (lit≤ tt)) t) (sym (o 1 (lit≤ tt)) t) (sym (o 2 (lit≤ tt)) t))
    ∙ put_back n p v a b c lp i

-- ---- the points of d, where only v is used otherwise than in c

module _ (sh : Shape) (p : List ℤ) (c d : Columns) (v : ℕ)
    (len : length p ≡ points_length sh.vertices) (iv : In sh.vertices v)
    (old : (w : ℕ) → In sh.vertices w → PointSound p c w)
    (same : (w : ℕ) → w ≢ v → d VertexUsed w ≡ c VertexUsed w) where
  -- v's point is put: it is in range, and zero where v is free
  points_put : (a b z : ℤ) → ((i : ℕ) → i < point_width → T (range_test (three a b z i)))
      → (d VertexUsed v ≡ 0 → (i : ℕ) → i < point_width → three a b z i ≡ pos 0)
      → (w : ℕ) → In sh.vertices w → PointSound (put_point p v a b z) d w
  points_put a b z range none w i =
      let long : points_length v ≤ length p = omega (arith, len, iv.1) in
      split w v
      (λ e. rw e (record {
        range = λ j h. rw (put_at p v a b z iv.0 long j h) (range j h);
        zero = λ h j m. put_at p v a b z iv.0 long j m ∙ none h j m;
      }))
      (λ n. let r = old w i in record {
        range = λ j h. rw (put_off p v a b z w n j h) (r.range j h);
        zero = λ h j m. put_off p v a b z w n j m ∙ r.zero (sym (same w n) ∙ h) j m;
      })

  -- v comes into use, with a point in range
  pub points_new : (a b z : ℤ) → T (range_test a) → T (range_test b) → T (range_test z) → d VertexUsed v ≡ 1
      → (w : ℕ) → In sh.vertices w → PointSound (put_point p v a b z) d w
  points_new a b z ha hb hz e =
      points_put a b z (all_three (λ t. T (range_test t)) a b z ha hb hz) (λ h. absurd (omega (arith, sym e ∙ h)))

  -- v goes, and its point is cleared
  pub points_cleared : (w : ℕ) → In sh.vertices w → PointSound (put_point p v (pos 0) (pos 0) (pos 0)) d w
  points_cleared =
      points_put (pos 0) (pos 0) (pos 0) (all_three (λ t. T (range_test t)) (pos 0) (pos 0) (pos 0) tt tt tt)
      (λ h. all_three (λ t. t ≡ pos 0) (pos 0) (pos 0) (pos 0) refl refl refl)
