-- What the risers' code rests on.
use Rattle.std.specs.Prelude.{◌≡◌, refl, true, List, [], ◌∷◌, ℕ, suc, ◌+◌, ◌*◌, ◌-◌, ◌^◌, ◌≤◌, ◌<◌, ℤ, pos, ◌+ℤ◌}
use Rattle.std.specs.Prelude.{get_or, length}
use Rattle.std.proofs.Common.{sym, ap, ◌∙◌, subst, arith, length-append, SFits, to_z, to_z-of_z, le-leb}
use Rattle.std.specs.Int.Signed.{mag}
use Rattle.std.specs.Int.{w32}
use Rattle.std.proofs.Math.Facts.{to_z_pos}
use Rattle.laws.specs.Permutations.{iter, iter_last}
use Rattle.script.specs.declared.Operator.{Operator}
use Rattle.numbers.specs.Number.{groups}
use Rattle.codec.specs.Operands.{pattern, wire}
use Rattle.codec.specs.OperandBytes.{operand_bytes, operands_bytes}
use Rattle.script.specs.Operator.{operator_bytes}
use Rattle.layout.specs.declared.shape.Shape.{Shape}
use Rattle.layout.specs.Layout.{start_of, next_of, loop_first}
use Rattle.layout.specs.Mate.{mate}
use Rattle.layout.specs.Points.{coordinate, range_test}
use Rattle.euler.specs.EdgeOperators.{mev_inverse, mef_inverse}
use Rattle.euler.specs.Exec.{inverse}
use Rattle.chains.specs.Numbers.{free_names}
use Rattle.chains.specs.Series.{series}
use Rattle.sweeps.specs.declared.Vector.{Vector}
use Rattle.sweeps.specs.Sweep.{corner_of, mev_at, mef_at, moved_by, riser_at}
use Rattle.sweep_puts.specs.Laid.{Laid, Undone, laid_next, laid_far, laid_length, laid_all}
use Rattle.sweep_reads.specs.MovedLaws.{back, held_in}

-- the first n of a list are names of items
pub record Holds (names : ℕ → ℕ) (list : List ℕ) (n : ℕ) : Type 0 where
  pub at : (j : ℕ) → j < n → get_or list j 0 ≡ names j
  pub low : (j : ℕ) → j < n → 1 ≤ get_or list j 0
  pub high : (j : ℕ) → j < n → get_or list j 0 ≤ 4096

-- the corners of a loop can be moved
pub record Moving (sh : Shape) (x : List ℕ) (p : List ℤ) (v : Vector) (l n : ℕ) : Type 0 where
  pub along_x : (j : ℕ) → j < n → range_test (moved_by sh x p 0 v.x (corner_of sh x l j)) ≡ true
  pub along_y : (j : ℕ) → j < n → range_test (moved_by sh x p 1 v.y (corner_of sh x l j)) ≡ true
  pub along_z : (j : ℕ) → j < n → range_test (moved_by sh x p 2 v.z (corner_of sh x l j)) ≡ true

-- the riser at corner j of loop l
abbrev pub riser_of : Shape → List ℕ → List ℤ → Vector → ℕ → ℕ → ℕ → Operator
riser_of sh x p v l b =
    riser_at (free_names sh x) l b (corner_of sh x l)
    (λ j. moved_by sh x p 0 v.x (corner_of sh x l j)) (λ j. moved_by sh x p 1 v.y (corner_of sh x l j))
    (λ j. moved_by sh x p 2 v.z (corner_of sh x l j))

-- inverses by operands alone
pub mev_undone : (l h e v : ℕ) (x y z : ℤ) (n : ℕ) → e ≤ 4096 → n ≡ length (operator_bytes (mev_inverse (2 * e - 1)))
    → n ≤ 27 → Undone (mev_at l h e v x y z) n
unfolding inverse
mev_undone l h e v x y z n m q b = record {
  is = λ sh t p. rw (le-leb e 8192 (omega (arith, m))) (sym q);
  few = b;
}

pub mef_undone : (l h1 h2 e f l2 : ℕ) (n : ℕ) → e ≤ 4096 → n ≡ length (operator_bytes (mef_inverse (mate (2 * e - 1))))
    → n ≤ 27 → Undone (mef_at l h1 h2 e f l2 0) n
unfolding inverse
mef_undone l h1 h2 e f l2 n m q b = record {
  is = λ sh t p. rw (le-leb e 8192 (omega (arith, m))) (sym q);
  few = b;
}

pub mef_undone_2 : (l h1 h2 e f l2 : ℕ) (n : ℕ) → e ≤ 4096
    → n ≡ length (operator_bytes (mef_inverse (mate (2 * e - 1))))
    → n ≤ 27 → Undone (mef_at l h1 h2 e f l2 2) n
unfolding inverse
mef_undone_2 l h1 h2 e f l2 n m q b = record {
  is = λ sh t p. rw (le-leb e 8192 (omega (arith, m))) (sym q);
  few = b;
}

-- ---- operators out of their parts

-- a number below 65,536, stored
pub stored : (n : ℕ) → n < 65536 → to_z w32 n ≡ pos n
stored n h = to_z_pos w32 (omega (arith, h))

pub mev_is : (l h e v : ℕ) (x y z : ℤ) → l < 65536 → h < 65536 → e < 65536 → v < 65536 → SFits w32 x → SFits w32 y
    → SFits w32 z
    → ◌≡◌ {A = Operator} (record {
      code = 3;
      count = 8;
      args = to_z w32 l ∷ to_z w32 h ∷ to_z w32 e ∷ to_z w32 v ∷ pos 0
          ∷ back x ∷ back y ∷ back z ∷ [];
    })
    (mev_at l h e v x y z)
mev_is l h e v x y z a b c d f g i =
    rw (stored l a, stored h b, stored e c, stored v d, to_z-of_z f, to_z-of_z g, to_z-of_z i) refl

pub mef_is : (l h1 h2 e f l2 w : ℕ) → l < 65536 → h1 < 65536 → h2 < 65536 → e < 65536 → f < 65536 → l2 < 65536
    → w < 65536
    → ◌≡◌ {A = Operator} (record {
      code = 5;
      count = 7;
      args = to_z w32 l ∷ to_z w32 h1 ∷ to_z w32 h2 ∷ to_z w32 e ∷ to_z
          w32 f ∷ to_z w32 l2 ∷ to_z w32 w ∷ pos 0 ∷ [];
    })
    (mef_at l h1 h2 e f l2 w)
mef_is l h1 h2 e f l2 w a b c d g h i =
    rw (stored l a, stored h1 b, stored h2 c, stored e d, stored f g, stored l2 h, stored w i) refl

-- what undoes them: a byte for the code, and the half-edge
pub kev_size : (h k : ℕ) (n : ℕ) → h ≡ k → n ≡ length (groups h) → 1 + n ≡ length (operator_bytes (mev_inverse k))
unfolding operator_bytes operands_bytes operand_bytes pattern wire groups
kev_size h k n e q = rw (q, e) (omega (arith, length-append (groups k) []))

pub kef_size : (h k : ℕ) (n : ℕ) → h ≡ k → n ≡ length (groups h) → 1 + n ≡ length (operator_bytes (mef_inverse k))
unfolding operator_bytes operands_bytes operand_bytes pattern wire groups
kef_size h k n e q = rw (q, e) (omega (arith, length-append (groups k) []))

-- the riser at half-edge k by edge e and vertex v, as code makes it
unfoldable pub riser_by : Shape → List ℕ → List ℤ → Vector → ℕ → ℕ → ℕ → ℕ → Operator
riser_by sh x p v l k e w =
    mev_at l k e w (held_in (moved_by sh x p 0 v.x k)) (held_in (moved_by sh x p 1 v.y k))
    (held_in (moved_by sh x p 2 v.z k))

pub riser_made : (sh : Shape) (t : List ℕ) (p : List ℤ) (l k e w s : ℕ) (d : Vector) (x y z : ℤ) (op : Operator)
    → SFits w32 d.x → SFits w32 d.y → SFits w32 d.z → mag x < 2 ^ 31 → mag y < 2 ^ 31 → mag z < 2 ^ 31
    → s ≡ start_of sh t k → x ≡ held_in (coordinate p s 0 +ℤ back d.x) → y ≡ held_in (coordinate p s 1 +ℤ back d.y)
    → z ≡ held_in (coordinate p s 2 +ℤ back d.z) → op ≡ mev_at l k e w (back x) (back y) (back z)
    → op ≡ riser_by sh t p d l k e w
unfolding riser_by
riser_made sh t p l k e w s d x y z op fx fy fz mx my mz es ex ey ez q =
    q ∙ rw (
      to_z-of_z {w = w32} {z = x} (record { sfits = mx }),
      to_z-of_z {w = w32} {z = y} (record { sfits = my }),
      to_z-of_z {w = w32} {z = z} (record { sfits = mz }),
      ex,
      ey,
      ez,
      to_z-of_z fx,
      to_z-of_z fy,
      to_z-of_z fz,
      es,
    ) refl

-- it is undone by its edge
pub riser_undone : (sh : Shape) (t : List ℕ) (p : List ℤ) (v : Vector) (l k e w : ℕ) (op : Operator) (n : ℕ) → e ≤ 4096
    → op ≡ riser_by sh t p v l k e w → n ≡ length (operator_bytes (mev_inverse (2 * e - 1))) → n ≤ 27 → Undone op n
unfolding riser_by
riser_undone sh t p v l k e w op n m q r b = rw q (mev_undone _ _ _ _ _ _ _ n m r b)

-- a coordinate in range is kept
kept : (c : ℤ) → range_test c ≡ true → held_in c ≡ c
unfolding held_in
kept c e = rw e refl

-- and it is the sweep's
pub riser_is : (sh : Shape) (t : List ℕ) (p : List ℤ) (v : Vector) (l n b j k e w : ℕ) (edges vertices : List ℕ)
    (op : Operator) → Holds (free_names sh t).edge edges (2 * (b + n)) → Holds (free_names sh t).vertex vertices (b + n)
    → Moving sh t p v l n → j < n → k ≡ corner_of sh t l j → e ≡ get_or edges (2 * b + j) 0
    → w ≡ get_or vertices (b + j) 0
    → op ≡ riser_by sh t p v l k e w → op ≡ riser_of sh t p v l b j
unfolding riser_by
riser_is sh t p v l n b j k e w edges vertices op he hv m h ek ee ew q =
    q ∙ rw (
      ek,
      ee ∙ he.at (2 * b + j) (omega (arith, h)),
      ew ∙ hv.at (b + j) (omega (arith, h)),
      kept _ (m.along_x j h),
      kept _ (m.along_y j h),
      kept _ (m.along_z j h),
    ) refl

-- the next corner
pub corner_next : (sh : Shape) (t : List ℕ) (l j k k' : ℕ) → k ≡ corner_of sh t l j → k' ≡ next_of sh t k
    → k' ≡ corner_of sh t l (j + 1)
corner_next sh t l j k k' e q =
    let z : suc j ≡ j + 1 = omega arith in
    q ∙ ap (next_of sh t) e ∙ sym (iter_last (next_of sh t) j (loop_first sh t l)) ∙ ap (corner_of sh t l) z

-- the first
pub corner_first : (sh : Shape) (t : List ℕ) (l k : ℕ) → k ≡ loop_first sh t l → k ≡ corner_of sh t l 0
unfolding iter
corner_first sh t l k e = e

-- the loop's invariant: j risers are written
abbrev pub Rising : Shape → List ℕ → List ℤ → Vector → ℕ → ℕ → ℕ → List ℕ → ℕ → ℕ → List ℕ → ℕ → ℕ → ℕ → ℕ → Type 0
Rising sh t p v l n b out₀ at room out k place sum j =
    (j ≤ n) × (k < 65536) × (place ≤ at + 27 * j) × (sum ≤ room + 27 * j) × (length out ≡ length out₀)
    × (k ≡ corner_of sh t l j) × Laid (series 0 j (riser_of sh t p v l b)) out₀ at room out place sum

-- one more
pub risers_turn : (sh : Shape) (t : List ℕ) (p : List ℤ) (v u : Vector) (l n b : ℕ) (edges vertices out₀ : List ℕ)
    (at room : ℕ) (out : List ℕ) (k place sum j e w : ℕ) (op : Operator) (out' : List ℕ) (k' place' sum' : ℕ)
    → Holds (free_names sh t).edge edges (2 * (b + n)) → Holds (free_names sh t).vertex vertices (b + n)
    → Moving sh t p u l n → v ≡ u → j < n → Rising sh t p v l n b out₀ at room out k place sum j
    → e ≡ get_or edges (2 * b + j) 0 → w ≡ get_or vertices (b + j) 0 → op ≡ riser_by sh t p v l k e w
    → Laid (op ∷ []) out place sum out' place' sum' → k' ≡ next_of sh t k → k' < 65536
    → Rising sh t p v l n b out₀ at room out' k' place' sum' (j + 1)
risers_turn sh t p v u l n b edges vertices out₀ at room out k place sum j e w op out' k' place' sum' he hv m₀ vu h
    i ee ew q d
    ek lk =
    let m = subst (λ w. Moving sh t p w l n) (sym vu) m₀ in
    let g = laid_next (riser_of sh t p v l b) j i.6 d
    (riser_is sh t p v l n b j k e w edges vertices op he hv m h i.5 ee ew q) refl in
    let f = laid_far (riser_of sh t p v l b) (j + 1) g in (
      omega (arith, h),
      lk,
      f.0,
      f.1,
      laid_length g,
      corner_next sh t l j k k' i.5 ek,
      g,
    )

-- all
pub risers_end : (sh : Shape) (t : List ℕ) (p : List ℤ) (v u : Vector) (l n b : ℕ) (out₀ : List ℕ) (at room : ℕ)
    (out : List ℕ) (k place sum j : ℕ) → Rising sh t p v l n b out₀ at room out k place sum j → n ≤ j → v ≡ u
    → Laid (series 0 n (riser_of sh t p u l b)) out₀ at room out place sum
risers_end sh t p v u l n b out₀ at room out k place sum j i h e =
    subst (λ w. Laid (series 0 n (riser_of sh t p w l b)) out₀ at room out place sum) e
    (laid_all (riser_of sh t p v l b) j n i.6 i.0 h)
