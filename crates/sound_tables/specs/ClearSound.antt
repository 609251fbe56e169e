-- A cleared table is sound: what clearing answers 0 for passes the check, for all capacities.
-- (The way back, that a sound table without a solid is the cleared one, is `empty-table` of crate inversion.)
use Rattle.std.specs.Prelude.{◌≡◌, refl, List, ◌∷◌, ℕ, zero, suc, ◌+◌, ◌-◌, ◌*◌, ◌≤◌, ◌<◌, ℤ, pos, length, get_or}
use Rattle.std.specs.Prelude.{replicate}
use Rattle.std.proofs.Common.{⊎_elim, arith, lit≤}
use Rattle.std.proofs.lemmas.List.{length-replicate}
use Rattle.laws.specs.Bools.{ask}
use Rattle.laws.specs.Cycles.{Cycles}
use Rattle.layout.specs.declared.shape.Shape.{Shape}
use Rattle.layout.specs.Layout.{links_length, shape_from}
use Rattle.layout.specs.Points.{point_width, points_length, coordinate}
use Rattle.table.specs.Sizes.{sizes_fit}
use Rattle.table.specs.SizesLaws.{Sizes, sizes_are}
use Rattle.table.specs.Clear.{empty_links, empty_points, clear_of}
use Rattle.table.specs.Valid.{Valid}
use Rattle.layout.specs.Fields.{Field, group_of, word_of, group_at, head, field_in}
use Rattle.layout.specs.Fields.{SolidUsed, Solid, Outer, Face, First, Isolated}
use Rattle.layout.specs.Fields.{Start, Loop, Next, Prev, VertexUsed}
use Rattle.sound_tables.specs.Sound.{HalfUsed, FaceUsed, Sound}
use Rattle.sound_tables.specs.Good.{own, Good}
use Rattle.sound_tables.specs.ValidGood.{sizes_capacities, good_valid}

-- a list of one value, read anywhere
same_at : {A : Type 0} (z : A) (n j : ℕ) → get_or (replicate n z) j z ≡ z
same_at z zero j = refl
same_at z (suc n) zero = refl
same_at z (suc n) (suc j) = same_at z n j

-- behind the capacities an empty table holds zeros
pub past_head : (a b c d e n i : ℕ) → 5 ≤ i → get_or (a ∷ b ∷ c ∷ d ∷ e ∷ replicate n 0) i 0 ≡ 0
past_head a b c d e n (suc (suc (suc (suc (suc i))))) h = same_at 0 n i
past_head a b c d e n zero h = absurd (omega arith)
past_head a b c d e n (suc zero) h = absurd (omega arith)
past_head a b c d e n (suc (suc zero)) h = absurd (omega arith)
past_head a b c d e n (suc (suc (suc zero))) h = absurd (omega arith)
past_head a b c d e n (suc (suc (suc (suc zero)))) h = absurd (omega arith)

-- and so do its points
pub zero_coordinate : (n v i : ℕ) → coordinate (replicate n (pos 0)) v i ≡ pos 0
zero_coordinate n zero i = refl
zero_coordinate n (suc v) i = same_at (pos 0) n (0 + point_width * v + i)

module _ (s f l e v : ℕ) where
  -- the empty table
  abbrev x : List ℕ
  x = empty_links s f l e v

  -- its points
  abbrev p : List ℤ
  p = empty_points v

  -- and its shape
  abbrev sh : Shape
  sh = shape_from s f l e v

  -- records stand behind the capacities
  base_5 : (g : ℕ) → 1 ≤ g → g < 6 → 5 ≤ (group_at sh g).base
  base_5 zero h u = absurd (omega arith)
  base_5 (suc zero) h u = lit≤ tt
  base_5 (suc (suc zero)) h u = omega arith
  base_5 (suc (suc (suc zero))) h u = omega arith
  base_5 (suc (suc (suc (suc zero)))) h u = omega arith
  base_5 (suc (suc (suc (suc (suc zero))))) h u = omega arith
  base_5 (suc (suc (suc (suc (suc (suc g)))))) h u = absurd (omega arith)

  -- so each of their words is 0
  pub word_0 : (F : Field) → 1 ≤ group_of F → (n : ℕ) → own sh x F n ≡ 0
  word_0 F h zero = refl
  word_0 F h (suc n) =
      past_head s f l e v (links_length s f l e v - head)
      ((group_at sh (group_of F)).base + (group_at sh (group_of F)).width * n + word_of F)
      (omega (arith, base_5 (group_of F) h (field_in sh F).1))

  -- no half-edge is in use
  no_half : {A : Type 0} (k : ℕ) → HalfUsed sh (own sh x) k → A
  no_half k u = absurd (u.2 (word_0 Start (lit≤ tt) k))

  -- and no face
  no_face : {A : Type 0} (g : ℕ) → FaceUsed sh (own sh x) g → A
  no_face g u = absurd (u.2 (word_0 Solid (lit≤ tt) g))

  -- so there are no cycles
  no_cycles : (g lab : ℕ → ℕ) → Cycles (2 * e) (HalfUsed sh (own sh x)) g lab
  no_cycles g lab = record {
    perm = record {
      low = λ k u. u.0;
      high = λ k u. u.1;
      f_in = λ k u. no_half k u;
      inv = λ k. k;
      undo = λ k u. no_half k u;
    };
    keeps = λ k u. no_half k u;
    one = λ i j u w q. no_half i u;
  }

  -- nothing is in use, and all is zero
  empty_sound : Sound sh p (own sh x)
  empty_sound = record {
    solid_mark = λ n i. omega (arith, word_0 SolidUsed (lit≤ tt) n);
    solid = λ n i h. absurd (h (word_0 SolidUsed (lit≤ tt) n));
    face_free = λ n i h. word_0 Outer (lit≤ tt) n;
    face = λ n i h. absurd (h (word_0 Solid (lit≤ tt) n));
    loop_free = λ n i h. (word_0 First (lit≤ tt) n, word_0 Isolated (lit≤ tt) n);
    loop = λ n i h. absurd (h (word_0 Face (lit≤ tt) n));
    half_free = λ k i h. record {
      loop = word_0 Loop (lit≤ tt) k;
      next = word_0 Next (lit≤ tt) k;
      prev = word_0 Prev (lit≤ tt) k;
    };
    half = λ k i h. absurd (h (word_0 Start (lit≤ tt) k));
    vertex = λ n i h. absurd (h (word_0 VertexUsed (lit≤ tt) n));
    point = λ n i. record {
      range = λ j h. rw (zero_coordinate (points_length v) n j) tt;
      zero = λ h j k. zero_coordinate (points_length v) n j;
    };
    rules = record {
      mate_in = λ k u. no_half k u;
      loops = no_cycles _ _;
      verts = no_cycles _ _;
      undone = λ k u. no_half k u;
    };
    solids = record { side_in_lem = λ k u. no_half k u; edge = λ k u. no_half k u; one = λ g h u w q. no_face g u };
  }

  -- an empty table of these capacities is good
  empty_good : {m n : ℕ} → Sizes m n s f l e v → Good sh x p
  empty_good z = record {
    shape = refl;
    capacities = sizes_capacities z;
    fit = omega (arith, length-replicate {A = ℕ} (links_length s f l e v - head) 0);
    points = length-replicate (points_length v) (pos 0);
    sound = empty_sound;
    valent = λ n i h. absurd (h (word_0 VertexUsed (lit≤ tt) n));
  }

-- WHAT IS CLEARED IS SOUND: whatever was handed in, a clearing that answers 0 leaves a table that passes the check
pub clear_valid : (x : List ℕ) (p : List ℤ) (s f l e v : ℕ) → (clear_of x p s f l e v).answer.refusal ≡ 0
    → Valid (clear_of x p s f l e v).links (clear_of x p s f l e v).points
unfolding clear_of
clear_valid x p s f l e v h =
    ⊎_elim
    (λ t. rw t (good_valid (empty_links s f l e v) (empty_points v) (empty_good s f l e v (sizes_are _ _ s f l e v t))))
    (λ t. let z : ◌≡◌ {A = ℕ} 1 0 = rw t at h in absurd (omega arith))
    (ask (sizes_fit (length x) (length p) s f l e v))
