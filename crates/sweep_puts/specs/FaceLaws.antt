-- What the code of a loop and of a face rests on.
use Rattle.std.specs.Prelude.{◌≡◌, refl, ◌≢◌, List, [], ◌∷◌, ℕ, zero, suc, ◌+◌, ◌*◌, ◌-◌, ◌≤◌, ◌<◌, eqb, ℤ, length}
use Rattle.std.proofs.Common.{sym, ap, ◌∙◌, subst, arith, length-append}
use Rattle.laws.specs.Bools.{pick, eqb_same, eqb_other, split}
use Rattle.laws.specs.Sums.{sum_to}
use Rattle.script.specs.declared.Operator.{Operator}
use Rattle.layout.specs.declared.shape.Shape.{Shape}
use Rattle.layout.specs.Layout.{loop_face}
use Rattle.chains.specs.Numbers.{free_names}
use Rattle.chains.specs.Series.{series, joined, series_length}
use Rattle.sweeps.specs.Accepted.{sum_up}
use Rattle.sweeps.specs.declared.Vector.{Vector}
use Rattle.sweeps.specs.Sweep.{corners_in, corners_of, corners_to, side_at, only_side, sides_of, loop_ops}
use Rattle.sweeps.specs.Sweep.{ops_of}
use Rattle.sweeps.specs.Sweep.{sweep_ops}
use Rattle.sweep_puts.specs.Laid.{Laid, laid_join, laid_more, laid_length, laid_empty, laid_far}
use Rattle.sweep_puts.specs.RiserLaws.{Holds, Moving, riser_of}
use Rattle.sweep_puts.specs.SideLaws.{Low, names_in}

-- the lists hold the free numbers for n corners
pub record Named (sh : Shape) (x edges vertices faces loops : List ℕ) (n : ℕ) : Type 0 where
  pub edge : Holds (free_names sh x).edge edges (2 * n)
  pub vertex : Holds (free_names sh x).vertex vertices n
  pub face : Holds (free_names sh x).face faces n
  pub loop : Holds (free_names sh x).loop loops n

holds_less : {f : ℕ → ℕ} {l : List ℕ} {m n : ℕ} → m ≤ n → Holds f l n → Holds f l m
holds_less h i = record {
  at = λ j a. i.at j (omega (arith, h, a));
  low = λ j a. i.low j (omega (arith, h, a));
  high = λ j a. i.high j (omega (arith, h, a));
}

pub named_less : {sh : Shape} {x edges vertices faces loops : List ℕ} {m n : ℕ} → m ≤ n
    → Named sh x edges vertices faces loops n → Named sh x edges vertices faces loops m
named_less h i = record {
  edge = holds_less (omega (arith, h)) i.edge;
  vertex = holds_less h i.vertex;
  face = holds_less h i.face;
  loop = holds_less h i.loop;
}

pub low_of : {f : ℕ → ℕ} {l : List ℕ} {m n : ℕ} → Holds f l n → m ≤ n → Low l m
low_of i h = record { high = λ j a. i.high j (omega (arith, h, a)) }

-- every loop of the face has corners, and they can be moved
pub record Liftable (sh : Shape) (x : List ℕ) (p : List ℤ) (f : ℕ) (v : Vector) : Type 0 where
  pub some_corner : (l : ℕ) → 1 ≤ l → l ≤ sh.loops → loop_face sh x l ≡ f → 1 ≤ corners_in sh x l
  pub moving : (l : ℕ) → 1 ≤ l → l ≤ sh.loops → Moving sh x p v l (corners_of sh x f l)

-- ---- a loop

series_ext : (f g : ℕ → Operator) (i n : ℕ) → ((j : ℕ) → i ≤ j → j < i + n → f j ≡ g j) → series i n f ≡ series i n g
unfolding series
series_ext f g i zero h = refl
series_ext f g i (suc n) h =
    ap (λ o. o ∷ series (suc i) n f) (h i (omega arith) (omega arith))
    ∙ ap (λ l. g i ∷ l) (series_ext f g (suc i) n (λ j a b. h j (omega arith) (omega arith)))

module _ (sh : Shape) (x edges vertices faces loops : List ℕ) (l z b : ℕ)
    (h : Named sh x edges vertices faces loops (b + suc z)) where
  side_same : (j : ℕ) → j < suc z → side_at (names_in edges faces loops) l z b j ≡ side_at (free_names sh x) l z b j
  side_same j a = split j z
      (λ e. rw (
        eqb_same e,
        h.edge.at (2 * b + j) (omega (arith, a)),
        h.edge.at (2 * b + suc z + 0) (omega arith),
        h.edge.at (2 * b + suc z + j) (omega (arith, a)),
        h.face.at (b + j) (omega (arith, a)),
        h.loop.at (b + j) (omega (arith, a)),
      ) refl)
      (λ e. rw (
        eqb_other e,
        h.edge.at (2 * b + j) (omega (arith, a)),
        h.edge.at (2 * b + suc j) (omega (arith, a)),
        h.edge.at (2 * b + suc z + j) (omega (arith, a)),
        h.face.at (b + j) (omega (arith, a)),
        h.loop.at (b + j) (omega (arith, a)),
      ) refl)

  only_same : only_side (names_in edges faces loops) l z b ≡ only_side (free_names sh x) l z b
  only_same = rw (
    h.edge.at (2 * b + 0) (omega arith),
    h.edge.at (2 * b + suc z + 0) (omega arith),
    h.face.at (b + 0) (omega arith),
    h.loop.at (b + 0) (omega arith),
  ) refl

  pub sides_same : sides_of (names_in edges faces loops) l z b ≡ sides_of (free_names sh x) l z b
  sides_same = split z 0 (λ e. rw (eqb_same e) (ap (λ o. o ∷ []) only_same))
      (λ e. rw (eqb_other e) (series_ext _ _ 0 (suc z) (λ j a c. side_same j (omega (arith, c)))))

pub loop_laid : (sh : Shape) (x : List ℕ) (p : List ℤ) (edges vertices faces loops : List ℕ) (v : Vector) (l n b : ℕ)
    (out : List ℕ) (at room : ℕ) (out' : List ℕ) (at' room' : ℕ) (out'' : List ℕ) (at'' room'' : ℕ) → 1 ≤ n
    → Named sh x edges vertices faces loops (b + n)
    → Laid (series 0 n (riser_of sh x p v l b)) out at room out' at' room'
    → Laid (sides_of (names_in edges faces loops) l (n - 1) b) out' at' room' out'' at'' room''
    → Laid (loop_ops sh x p v l (n - 1) b) out at room out'' at'' room''
loop_laid sh x p edges vertices faces loops v l n b out at room out' at' room' out'' at'' room'' h d i k =
    let z : n ≡ suc (n - 1) = omega arith in
    let e : Named sh x edges vertices faces loops (b + suc (n - 1)) =
    subst (λ m. Named sh x edges vertices faces loops (b + m)) z d in
    let r : series 0 n (riser_of sh x p v l b) ≡ series 0 (suc (n - 1)) (riser_of sh x p v l b) =
    ap (λ m. series 0 m (riser_of sh x p v l b)) z in
    laid_join (subst (λ os. Laid os out at room out' at' room') r i)
    (subst (λ os. Laid os out' at' room' out'' at'' room'') (sides_same sh x edges vertices faces loops l (n - 1) b e)
    k)

-- how far the risers go
pub risers_far : (sh : Shape) (x : List ℕ) (p : List ℤ) (v : Vector) (l n b : ℕ) (out : List ℕ) (at room : ℕ)
    (out' : List ℕ) (at' room' : ℕ) → Laid (series 0 n (riser_of sh x p v l b)) out at room out' at' room'
    → (at' ≤ at + 27 * n) × (room' ≤ room + 27 * n) × (length out' ≡ length out)
risers_far sh x p v l n b out at room out' at' room' h =
    let f = laid_far (riser_of sh x p v l b) n h in (f.0, f.1, laid_length h)

-- ---- a part

unfoldable pub part_of : Shape → List ℕ → List ℤ → Vector → ℕ → ℕ → ℕ → List Operator
part_of sh x p v l n b = pick (eqb n 0) [] (loop_ops sh x p v l (n - 1) b)

pub part_none : (sh : Shape) (x : List ℕ) (p : List ℤ) (v : Vector) (l n b : ℕ) (out : List ℕ) (at room : ℕ) → n ≡ 0
    → Laid (part_of sh x p v l n b) out at room out at room
unfolding part_of
part_none sh x p v l n b out at room e = laid_empty (rw (eqb_same e) refl)

pub part_all : (sh : Shape) (x : List ℕ) (p : List ℤ) (v : Vector) (l n b : ℕ) (out : List ℕ) (at room : ℕ)
    (out' : List ℕ) (at' room' : ℕ) → (n ≡ 0 → ⊥) → Laid (loop_ops sh x p v l (n - 1) b) out at room out' at' room'
    → Laid (part_of sh x p v l n b) out at room out' at' room'
unfolding part_of
part_all sh x p v l n b out at room out' at' room' e h = rw (eqb_other e) h

part_length : (sh : Shape) (x : List ℕ) (p : List ℤ) (v : Vector) (l n b : ℕ)
    → length (part_of sh x p v l n b) ≡ 2 * n
unfolding part_of
part_length sh x p v l n b = split n 0 (λ e. rw (eqb_same e) (omega (arith, e)))
    (λ e.
    let m = n - 1 in
    let a : length (sides_of (free_names sh x) l m b) ≡ suc m =
    split m 0 (λ y. rw (eqb_same y) (omega (arith, y))) (λ y. rw (eqb_other y) (series_length 0 (suc m) _)) in
    let c = series_length 0 (suc m) (riser_of sh x p v l b) in
    let d = length-append (series 0 (suc m) (riser_of sh x p v l b)) (sides_of (free_names sh x) l m b) in
    rw (eqb_other e) (omega (arith, a, c, d, e)))

-- ---- the face

part_is : (sh : Shape) (x : List ℕ) (p : List ℤ) (f : ℕ) (v : Vector) (l : ℕ) → Liftable sh x p f v → l < sh.loops
    → part_of sh x p v (suc l) (corners_of sh x f (suc l)) (corners_to sh x f l) ≡ ops_of sh x p f v l
unfolding part_of corners_of
part_is sh x p f v l g h = split (loop_face sh x (suc l)) f
    (λ e.
    let c = g.some_corner (suc l) (omega arith) (omega arith) e in
    let n : corners_in sh x (suc l) ≢ 0 = λ q. omega (arith, q, c) in
    rw (eqb_same e, eqb_other n) refl)
    (λ e. rw (eqb_other e) refl)

-- the loop's invariant: the loops up to l are written
abbrev pub Facing : Shape → List ℕ → List ℤ → ℕ → Vector → List ℕ → List ℕ → ℕ → ℕ → ℕ → ℕ → Type 0
Facing sh x p f v out₀ out at room b l =
    (l ≤ sh.loops) × (at ≤ 54 * b) × (room ≤ 54 * b) × (length out ≡ length out₀) × (b ≡ corners_to sh x f l)
    × Laid (joined 0 l (ops_of sh x p f v)) out₀ 0 0 out at room

-- how many corners there are with the next
pub face_few : (sh : Shape) (x : List ℕ) (f b l c : ℕ) → l < sh.loops → b ≡ corners_to sh x f l
    → c ≡ corners_of sh x f (l + 1) → b + c ≤ corners_to sh x f sh.loops
unfolding sum_to
face_few sh x f b l c h e q =
    let z : l + 1 ≡ suc l = omega arith in
    omega (arith, e, q, ap (corners_of sh x f) z, sum_up (suc l) sh.loops (corners_of sh x f) (omega (arith, h)))

pub face_turn : (sh : Shape) (x : List ℕ) (p : List ℤ) (f : ℕ) (v u : Vector) (out₀ out : List ℕ) (at room b l c : ℕ)
    (out' : List ℕ) (at' room' : ℕ) → Liftable sh x p f u → v ≡ u → l < sh.loops
    → Facing sh x p f v out₀ out at room b l → c ≡ corners_of sh x f (l + 1)
    → Laid (part_of sh x p v (l + 1) c b) out at room out' at' room'
    → Facing sh x p f v out₀ out' at' room' (b + c) (l + 1)
unfolding sum_to
face_turn sh x p f v u out₀ out at room b l c out' at' room' g₀ vu h i q d =
    let g = subst (λ w. Liftable sh x p f w) (sym vu) g₀ in
    let z : l + 1 ≡ suc l = omega arith in
    let w : part_of sh x p v (l + 1) c b ≡ ops_of sh x p f v l =
    rw (q, i.4, z) (part_is sh x p f v l g h) in
    let n = part_length sh x p v (l + 1) c b in
    let e = laid_more (ops_of sh x p f v) l i.5 d w refl in (
      omega (arith, h),
      omega (arith, d.most, n, i.1),
      omega (arith, d.less, n, i.2),
      laid_length d ∙ i.3,
      rw (q, i.4, z) (omega arith),
      e,
    )

pub face_end : (sh : Shape) (x : List ℕ) (p : List ℤ) (f : ℕ) (v u : Vector) (out₀ out : List ℕ) (at room b l : ℕ)
    → Facing sh x p f v out₀ out at room b l → sh.loops ≤ l → v ≡ u → Laid (sweep_ops sh x p f u) out₀ 0 0 out at room
unfolding sweep_ops
face_end sh x p f v u out₀ out at room b l i h vu =
    let z : l ≡ sh.loops = omega (arith, i.0, h) in
    subst (λ w. Laid (joined 0 sh.loops (ops_of sh x p f w)) out₀ 0 0 out at room) vu
    (subst (λ m. Laid (joined 0 m (ops_of sh x p f v)) out₀ 0 0 out at room) z i.5)

pub moving_at : (sh : Shape) (x : List ℕ) (p : List ℤ) (f : ℕ) (v : Vector) (l c : ℕ) → Liftable sh x p f v
    → l < sh.loops → c ≡ corners_of sh x f (l + 1) → Moving sh x p v (l + 1) c
moving_at sh x p f v l c g h q =
    subst (Moving sh x p v (l + 1)) (sym q) (g.moving (l + 1) (omega arith) (omega (arith, h)))
