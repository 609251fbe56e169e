-- Numbers in range: below the largest, and in every wider range.
use Rattle.std.specs.Prelude.{◌≡◌, ◌↔◌, ℕ, zero, suc, ◌*◌, ◌≤◌, ◌<◌, Bool, true, false, length, get_or, ltb, leb, eqb}
use Rattle.std.proofs.Math.Path.{refl}
use Rattle.std.proofs.Common.{sym, ap, ⊎_elim, arith, ltb-false, leb-true, eqb-true, le-leb, le-ltb}
use mathlib.Core.List.{List, [], ◌∷◌, map}
use Rattle.laws.specs.Bools.{true_T, T_true, same_T, ask, allb, le?}
use Rattle.bounds.specs.Bounds.{most_halves, most_items}
use Rattle.codec.specs.declared.Limits.{Limits}
use Rattle.codec.specs.declared.operands.Pattern.{Pattern}
use Rattle.codec.specs.Operands.{last_code, row, rows, pattern, leasts, largests, widest, in_range, in_ranges}
use Rattle.codec.specs.OperandLaws.{no_code}

pub not_true : {X : Type 0} → ◌≡◌ {A = Bool} false true → X
not_true e = absurd (let z : ◌≡◌ {A = ℕ} 0 1 = cc in omega arith)

-- a number in range lies between the least and the largest of its kind
pub range_between : (most : List ℕ) (k n : ℕ) → in_range most k n ≡ true
    → (get_or leasts k 0 ≤ n) × (n ≤ get_or most k 0)
unfolding in_range
range_between most k n e =
    ⊎_elim (λ t. not_true (rw t at e))
    (λ t. (ltb-false n (get_or leasts k 0) t, leb-true n (get_or most k 0) (rw t at e)))
    (ask (ltb n (get_or leasts k 0)))

pub between_range : (most : List ℕ) (k n : ℕ) → get_or leasts k 0 ≤ n → n ≤ get_or most k 0 → in_range most k n ≡ true
unfolding in_range
between_range most k n h l = rw (le-ltb n (get_or leasts k 0) h, le-leb n (get_or most k 0) l)

pub ranges_cons : (most : List ℕ) (k n : ℕ) (ks ns : List ℕ) → in_ranges most (k ∷ ks) (n ∷ ns) ≡ true
    → (in_range most k n ≡ true) × (in_ranges most ks ns ≡ true)
unfolding in_ranges
ranges_cons most k n ks ns e = ⊎_elim (λ t. (t, rw t at e)) (λ t. not_true (rw t at e)) (ask (in_range most k n))

pub cons_ranges : (most : List ℕ) (k n : ℕ) (ks ns : List ℕ) → in_range most k n ≡ true → in_ranges most ks ns ≡ true
    → in_ranges most (k ∷ ks) (n ∷ ns) ≡ true
unfolding in_ranges
cons_ranges most k n ks ns a b = rw a b

-- all in range, place by place
pub ranges_at : (most ks ns : List ℕ) → length ns ≡ length ks → in_ranges most ks ns ≡ true → (i : ℕ) → i < length ks
    → in_range most (get_or ks i 0) (get_or ns i 0) ≡ true
ranges_at most [] ns l e i h = absurd (omega arith)
ranges_at most (k ∷ ks) [] l e i h = absurd (omega arith)
ranges_at most (k ∷ ks) (n ∷ ns) l e zero h = (ranges_cons most k n ks ns e).0
ranges_at most (k ∷ ks) (n ∷ ns) l e (suc i) h = ranges_at most ks ns (omega arith) (ranges_cons most k n ks ns e).1 i
    (omega arith)

-- and back
ranges_all : (most ks ns : List ℕ) → length ns ≡ length ks
    → ((i : ℕ) → i < length ks → in_range most (get_or ks i 0) (get_or ns i 0) ≡ true) → in_ranges most ks ns ≡ true
unfolding in_ranges
ranges_all most [] ns l h = refl
ranges_all most (k ∷ ks) [] l h = refl
ranges_all most (k ∷ ks) (n ∷ ns) l h =
    cons_ranges most k n ks ns (h 0 (omega arith))
    (ranges_all most ks ns (omega arith) (λ i d. h (suc i) (omega arith)))

-- a test that is true just where each is in range
pub ranges_by : (most ks ns : List ℕ) (r : Bool) → length ns ≡ length ks
    → r ≡ true ↔ ((i : ℕ) → i < length ks → in_range most (get_or ks i 0) (get_or ns i 0) ≡ true)
    → r ≡ in_ranges most ks ns
ranges_by most ks ns r l h =
    same_T (λ t. true_T (ranges_all most ks ns l (h.0 (T_true t))))
    (λ t. true_T (h.1 (ranges_at most ks ns l (T_true t))))

-- wider limits accept as much
module _ (most wide : List ℕ) (h : (k : ℕ) → get_or most k 0 ≤ get_or wide k 0) where
  pub ranges_wider : (ks ns : List ℕ) → in_ranges most ks ns ≡ true → in_ranges wide ks ns ≡ true
  unfolding in_ranges
  ranges_wider [] ns e = refl
  ranges_wider (k ∷ ks) [] e = refl
  ranges_wider (k ∷ ks) (n ∷ ns) e =
      let a = ranges_cons most k n ks ns e in
      let b = range_between most k n a.0 in
      let w = h k in
      cons_ranges wide k n ks ns (between_range wide k n b.0 (omega arith)) (ranges_wider ks ns a.1)

-- limits that a table can have
pub record Within (lim : Limits) : Type 0 where
  pub solids : lim.solids ≤ most_items
  pub faces : lim.faces ≤ most_items
  pub loops : lim.loops ≤ most_items
  pub edges : lim.edges ≤ most_items
  pub vertices : lim.vertices ≤ most_items

-- each number of a list at most that of another
abbrev Below : List ℕ → List ℕ → Type 0
Below [] ys = Unit {0}
Below (x ∷ xs) [] = ⊥
Below (x ∷ xs) (y ∷ ys) = (x ≤ y) × Below xs ys

below_at : (xs ys : List ℕ) → Below xs ys → (k : ℕ) → get_or xs k 0 ≤ get_or ys k 0
below_at [] ys b k = omega arith
below_at (x ∷ xs) [] b k = absurd b
below_at (x ∷ xs) (y ∷ ys) b zero = b.0
below_at (x ∷ xs) (y ∷ ys) b (suc k) = below_at xs ys b.1 k

pub within_largest : (lim : Limits) → Within lim → (k : ℕ) → get_or (largests lim) k 0 ≤ get_or (largests widest) k 0
within_largest lim w =
    let s = w.solids in
    let f = w.faces in
    let l = w.loops in
    let e = w.edges in
    let v = w.vertices in
    let h : 2 * lim.edges ≤ most_halves = omega arith in
    let o : 1 ≤ 1 = omega arith in
    below_at (largests lim) (largests widest)
    (omega arith, (s, (s, (s, (f, (f, (l, (l, (e, (h, (h, (v, (o, (omega arith, (omega arith, tt)))))))))))))))

-- a test that each row passes, each code's row passes
all_at : (f : Pattern → Bool) (l : List Pattern) (d : Pattern) → f d ≡ true → allb (map f l) ≡ true → (k : ℕ)
    → f (get_or l k d) ≡ true
all_at f [] d e a k = e
all_at f (p ∷ ps) d e a zero = ⊎_elim (λ t. t) (λ t. not_true (rw t at a)) (ask (f p))
all_at f (p ∷ ps) d e a (suc k) = ⊎_elim (λ t. all_at f ps d e (rw t at a) k) (λ t. not_true (rw t at a)) (ask (f p))

pub each_row : (f : Pattern → Bool) → f (row []) ≡ true → allb (map f rows) ≡ true → (code : ℕ)
    → f (pattern code) ≡ true
unfolding pattern
each_row f e a code = all_at f rows (row []) e a code

-- every number in range without a table fits three groups
pub largest_small : (k : ℕ) → get_or (largests widest) k 0 ≤ 100000
largest_small k = all_le (largests widest) refl k
  where
    all_le : (l : List ℕ) → allb (map (λ n. leb n 100000) l) ≡ true → (k : ℕ) → get_or l k 0 ≤ 100000
    all_le [] a k = omega arith
    all_le (n ∷ ns) a zero = ⊎_elim (λ t. leb-true n 100000 t) (λ t. not_true (rw t at a)) (ask (leb n 100000))
    all_le (n ∷ ns) a (suc k) = ⊎_elim (λ t. all_le ns (rw t at a) k) (λ t. not_true (rw t at a)) (ask (leb n 100000))

pub range_small : (k n : ℕ) → in_range (largests widest) k n ≡ true → n ≤ 100000
range_small k n e = let b = range_between (largests widest) k n e in let s = largest_small k in omega arith

-- eight operands to each code
abbrev eight_kinds : Pattern → Bool
eight_kinds p = eqb (length p.kinds) 8

all_eight : allb (map eight_kinds rows) ≡ true
unfolding rows
all_eight = refl

pub eight : (code : ℕ) → length (pattern code).kinds ≡ 8
eight code = eqb-true _ 8 (each_row eight_kinds refl all_eight code)

-- the codes are 1 to the last
pub no_code_0 : (pattern 0).count ≡ 0
unfolding pattern rows
no_code_0 = refl

pub code_between : (code : ℕ) → ((pattern code).count ≡ 0 → ⊥) → (1 ≤ code) × (code ≤ last_code)
code_between zero h = absurd (h no_code_0)
code_between (suc n) h = (
  omega arith,
  ⊎_elim (λ l. l) (λ g. absurd (h (sym (ap (λ (p : Pattern). p.count) (no_code (suc n) g))))) (le?
      (suc n) last_code),
)
