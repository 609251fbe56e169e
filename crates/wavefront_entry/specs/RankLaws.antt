-- The array of ranks: what it holds while the code fills it.
use Rattle.std.specs.Prelude.{◌≡◌, refl, ◌≢◌, ◌⊎◌, Bool, true, false, ◌&&◌, List, ℕ, suc, ◌+◌, ◌-◌, ◌*◌, ◌≤◌, ◌<◌, eqb}
use Rattle.std.specs.Prelude.{leb, length, get_or, set, replicate}
use Rattle.std.proofs.Common.{sym, ap, ◌∙◌, inl, inr, ⊎_elim, arith, add-one, eqb→eq, length-set, get_or-set_same}
use Rattle.std.proofs.Common.{get_or-set_other, le-leb}
use Rattle.std.proofs.lemmas.List.{length-replicate, get_or-replicate}
use Rattle.std.proofs.Math.ListN.{get_or-eq_default}
use Rattle.std.proofs.lemmas.Bool.{lt-leb}
use Rattle.laws.specs.Bools.{pick, pick_ind, T_true, T_false, and_T, ask, same?, split, le?, eqb_same, eqb_other}
use Rattle.laws.specs.Search.{any_to}
use Rattle.laws.specs.Sums.{bit, sum_to, count_to, sum_ext, count_le, bit_le}
use Rattle.bounds.specs.Bounds.{most_items, item_places}
use Rattle.layout.specs.declared.shape.Shape.{Shape}
use Rattle.layout.specs.Layout.{face_solid, start_of, side}
use Rattle.layout.specs.Items.{some}
use Rattle.wavefront.specs.Obj.{own_vertex, rank}
use Rattle.wavefront_text.specs.LineLaws.{Low}

-- 1 at place v, where v is the number of a vertex that a table can have
abbrev pub marked_at : List ℕ → ℕ → List ℕ
marked_at ranks v = pick (leb 1 v && leb v most_items) (set ranks v 1) ranks

-- r at place v, where it is marked
abbrev pub numbered : List ℕ → ℕ → ℕ → List ℕ
numbered ranks v r = pick (eqb (get_or ranks v 0) 0) ranks (set ranks v r)

-- half-edge k starts at v and is one of solid s
abbrev pub starts_at : Shape → List ℕ → ℕ → ℕ → ℕ → Bool
starts_at sh x s v k = eqb (start_of sh x k) v && eqb (face_solid sh x (side sh x k)) s

-- the vertices at which one of the half-edges 1 to n of solid s starts are marked, and no others
pub record MarkedTo (sh : Shape) (x : List ℕ) (s n : ℕ) (ranks : List ℕ) : Type 0 where
  pub size : length ranks ≡ item_places
  pub none : get_or ranks 0 0 ≡ 0
  pub mark : (v : ℕ) → 1 ≤ v → v ≤ most_items → get_or ranks v 0 ≡ bit (any_to n (starts_at sh x s v))

-- what vertex v has in the end: its rank where it is one of solid s
abbrev pub ranked : Shape → List ℕ → ℕ → ℕ → ℕ
ranked sh x s v = pick (own_vertex sh x s v) (rank sh x s v) 0

-- vertex v is marked
abbrev pub is_marked : List ℕ → ℕ → Bool
is_marked l v = some (get_or l v 0)

-- of the marked vertices 1 to n of the list l each is counted in m, from 1; all others are as in l
pub record CountedTo (l : List ℕ) (n : ℕ) (m : List ℕ) : Type 0 where
  pub size : length m ≡ length l
  pub below : (v : ℕ) → 1 ≤ v → v ≤ n → get_or m v 0 ≡ pick (is_marked l v) (count_to v (is_marked l)) 0
  pub above : (v : ℕ) → n < v → get_or m v 0 ≡ get_or l v 0
  pub none : get_or m 0 0 ≡ get_or l 0 0

-- all have it, in at most four digits
pub record Ranked (sh : Shape) (x : List ℕ) (s : ℕ) (ranks : List ℕ) : Type 0 where
  pub low : Low ranks
  pub all : (v : ℕ) → 1 ≤ v → v ≤ sh.vertices → get_or ranks v 0 ≡ ranked sh x s v

-- ---- marks

-- the ways out of marking: no place, and a place
pub mark_zero : (l : List ℕ) (v : ℕ) → v ≡ 0 → l ≡ marked_at l v
mark_zero l v z = rw z

pub mark_past : (l : List ℕ) (v : ℕ) → most_items < v → l ≡ marked_at l v
mark_past l v h = rw (le-leb 1 v (omega arith), lt-leb v most_items h)

pub mark_one : (l : List ℕ) (v : ℕ) → v ≢ 0 → v ≤ most_items → set l v 1 ≡ marked_at l v
mark_one l v d h = rw (le-leb 1 v (omega arith), le-leb v most_items h)

-- the start of a half-edge of the solid, and no start of another
pub own_start : (s f v r m : ℕ) → f ≡ m → f ≡ s → r ≡ v → r ≡ pick (eqb m s) v 0
own_start s f v r m e z h = rw (← e, eqb_same z) h

pub no_start : (s f v m : ℕ) → f ≡ m → f ≢ s → 0 ≡ pick (eqb m s) v 0
no_start s f v m e z = rw (← e, eqb_other z)

-- none is marked at the beginning
pub marked_none : (sh : Shape) (x : List ℕ) (s : ℕ) → MarkedTo sh x s 0 (replicate item_places 0)
unfolding any_to
marked_none sh x s = record {
  size = length-replicate {A = ℕ} item_places 0;
  none = get_or-replicate {A = ℕ} item_places 0 0 0 (omega arith);
  mark = λ v l u. get_or-replicate {A = ℕ} item_places v 0 0 (omega arith);
}

marked_length : (l : List ℕ) (v : ℕ) → length (marked_at l v) ≡ length l
marked_length l v = pick_ind {X = List ℕ} (λ m. length m ≡ length l) (leb 1 v && leb v most_items)
    (set l v 1) l (length-set l v 1) refl

marked_off : (l : List ℕ) (v u : ℕ) → v ≢ u → get_or (marked_at l v) u 0 ≡ get_or l u 0
marked_off l v u d = pick_ind (λ m. get_or m u 0 ≡ get_or l u 0) (leb 1 v && leb v most_items) (set l v 1) l
    (get_or-set_other l v u 1 0 (λ e. d (sym e))) refl

marked_at_lem : (l : List ℕ) (v : ℕ) → length l ≡ item_places → 1 ≤ v → v ≤ most_items → get_or (marked_at l v) v 0 ≡ 1
marked_at_lem l v e h u = rw (le-leb 1 v h, le-leb v most_items u) (get_or-set_same l v 1 0 (omega (arith, e)))

marked_zero : (l : List ℕ) (v : ℕ) → get_or (marked_at l v) 0 0 ≡ get_or l 0 0
marked_zero l v = split v 0 (λ e. rw e) (λ d. marked_off l v 0 d)

-- the next half-edge's start is marked
pub marked_next : (sh : Shape) (x : List ℕ) (s k : ℕ) (l m : List ℕ) (v : ℕ) → MarkedTo sh x s k l
    → v ≡ pick (eqb (face_solid sh x (side sh x (k + 1))) s) (start_of sh x (k + 1)) 0 → m ≡ marked_at l v
    → MarkedTo sh x s (k + 1) m
unfolding any_to
marked_next sh x s k l m v a e q = record {
  size = rw q (marked_length l v ∙ a.size);
  none = rw q (marked_zero l v ∙ a.none);
  mark = λ u h i. rw (q, add-one k) (split v u
      (λ y. let t = starts u (omega arith) y in
      let w : get_or (marked_at l v) u 0 ≡ 1 = rw (← y) (marked_at_lem l v a.size (omega arith) (omega arith)) in
      rw t w)
      (λ d. let f = starts_not u d in rw f (marked_off l v u d ∙ a.mark u h i)));
}
  where
    here : v ≡ pick (eqb (face_solid sh x (side sh x (suc k))) s) (start_of sh x (suc k)) 0
    here = rw (add-one k) at e

    starts : (u : ℕ) → 1 ≤ u → v ≡ u → starts_at sh x s u (suc k) ≡ true
    starts u h y = ⊎_elim
        (λ t. let z : start_of sh x (suc k) ≡ u = sym (rw t at here) ∙ y in
        ap (λ c. eqb (start_of sh x (suc k)) u && c) t ∙ ap (λ c. c && true) (eqb_same z))
        (λ t. let z : v ≡ 0 = here ∙ rw t refl in absurd (omega arith))
        (ask (eqb (face_solid sh x (side sh x (suc k))) s))

    starts_not : (u : ℕ) → v ≢ u → starts_at sh x s u (suc k) ≡ false
    starts_not u d = T_false (λ t.
        let r = and_T (eqb (start_of sh x (suc k)) u) (eqb (face_solid sh x (side sh x (suc k))) s) t in
        let y : eqb (face_solid sh x (side sh x (suc k))) s ≡ true = T_true r.1 in
        d ((rw y at here) ∙ eqb→eq (start_of sh x (suc k)) u r.0))

-- up to the last
pub marked_all : (sh : Shape) (x : List ℕ) (s k n : ℕ) (l : List ℕ) → k ≤ n → n ≤ k → MarkedTo sh x s k l
    → MarkedTo sh x s n l
marked_all sh x s k n l h i a = let e : n ≡ k = omega arith in rw e a

-- ---- ranks

-- a marked vertex gets the next rank, one that is not stays as it is
pub number_none : (l : List ℕ) (v r n : ℕ) → n ≡ get_or l v 0 → n ≡ 0
    → (l ≡ numbered l v (r + 1)) × (r ≡ pick (eqb (get_or l v 0) 0) r (r + 1))
number_none l v r n e z = rw (← e, z) (refl, refl)

pub number_one : (l : List ℕ) (v r n w m : ℕ) → n ≡ get_or l v 0 → n ≢ 0 → w ≡ r + 1 → m ≡ r + 1
    → (set l v w ≡ numbered l v (r + 1)) × (m ≡ pick (eqb (get_or l v 0) 0) r (r + 1))
number_one l v r n w m e z ew em = rw (← e, eqb_other z, ew, em) (refl, refl)

-- none is counted at first
pub counted_none : (l : List ℕ) → CountedTo l 0 l
counted_none l = record { size = refl; below = λ v h i. absurd (omega arith); above = λ v h. refl; none = refl }

pub count_none : (l : List ℕ) → 0 ≡ count_to 0 (is_marked l)
unfolding sum_to
count_none l = refl

-- the next one is, where it is marked
pub counted_next : (l : List ℕ) (v last r : ℕ) (m o : List ℕ) → v < length l - 1 → CountedTo l v m
    → last ≡ count_to v (is_marked l) → o ≡ numbered m (v + 1) (last + 1)
    → r ≡ pick (eqb (get_or m (v + 1) 0) 0) last (last + 1)
    → CountedTo l (v + 1) o × (r ≡ count_to (v + 1) (is_marked l))
unfolding sum_to
counted_next l v last r m o h a e q w = rw (add-one v) (go (same? (get_or l (suc v) 0) 0))
  where
    here : get_or m (suc v) 0 ≡ get_or l (suc v) 0
    here = a.above (suc v) (omega arith)

    o_is : o ≡ numbered m (suc v) (last + 1)
    o_is = rw (add-one v) at q

    r_is : r ≡ pick (eqb (get_or m (suc v) 0) 0) last (last + 1)
    r_is = rw (add-one v) at w

    go : (get_or l (suc v) 0 ≡ 0) ⊎ (get_or l (suc v) 0 ≢ 0)
        → CountedTo l (suc v) o × (r ≡ count_to (suc v) (is_marked l))
    go (inl z) = (
      record {
        size = rw o_same a.size;
        below = λ u i j. split u (suc v) (λ y. rw (y, o_same, z) (here ∙ z))
            (λ d. rw o_same (a.below u i (omega arith)));
        above = λ u i. rw o_same (a.above u (omega arith));
        none = rw o_same a.none;
      },
      rw z (omega (arith, r_same, e)),
    )
      where
        o_same : o ≡ m
        o_same = rw (here ∙ z) at o_is

        r_same : r ≡ last
        r_same = rw (here ∙ z) at r_is
    go (inr d) = (
      record {
        size = rw o_set (length-set m (suc v) (last + 1) ∙ a.size);
        below = λ u i j. split u (suc v)
            (λ y. rw (y, o_set, marks) (get_or-set_same m (suc v) (last + 1) 0 (omega (arith, a.size)) ∙ next))
            (λ y. rw o_set (get_or-set_other m (suc v) u (last + 1) 0 y ∙ a.below u i (omega arith)));
        above = λ u i. rw o_set
            (get_or-set_other m (suc v) u (last + 1) 0 (λ y. absurd (omega arith)) ∙ a.above u (omega arith));
        none = rw o_set (get_or-set_other m (suc v) 0 (last + 1) 0 (λ y. absurd (omega arith)) ∙ a.none);
      },
      rw marks (r_next ∙ next),
    )
      where
        marks : eqb (get_or l (suc v) 0) 0 ≡ false
        marks = eqb_other d

        other : eqb (get_or m (suc v) 0) 0 ≡ false
        other = eqb_other (λ y. d (sym here ∙ y))

        o_set : o ≡ set m (suc v) (last + 1)
        o_set = rw other at o_is

        r_next : r ≡ last + 1
        r_next = rw other at r_is

        next : last + 1 ≡ 1 + count_to v (is_marked l)
        next = omega (arith, e)

-- up to the last
pub counted_all : (l : List ℕ) (v n : ℕ) (m : List ℕ) → v ≤ n → n ≤ v → CountedTo l v m → CountedTo l n m
counted_all l v n m h i a = let e : n ≡ v = omega arith in rw e a

-- a mark is a vertex of the solid
own_mark : (sh : Shape) (x : List ℕ) (s : ℕ) (l : List ℕ) (v : ℕ)
    → get_or l v 0 ≡ bit (any_to (2 * sh.edges) (starts_at sh x s v)) → is_marked l v ≡ own_vertex sh x s v
unfolding own_vertex
own_mark sh x s l v e = rw e (some_bit (any_to (2 * sh.edges) (starts_at sh x s v)))
  where
    some_bit : (c : Bool) → some (bit c) ≡ c
    some_bit true = refl
    some_bit false = refl

-- ranks have at most four digits
few_ranks : (sh : Shape) (x : List ℕ) (s v : ℕ) → v ≤ most_items → ranked sh x s v < 10000
few_ranks sh x s v h = pick_ind (λ r. r < 10000) (own_vertex sh x s v) (rank sh x s v) 0
    (omega (arith, count_le v (own_vertex sh x s))) (omega arith)

-- the marked vertices are those of the solid: so what is counted are the ranks
pub ranked_all : (sh : Shape) (x : List ℕ) (s : ℕ) (l m : List ℕ) → sh.vertices ≤ most_items
    → MarkedTo sh x s (2 * sh.edges) l → CountedTo l sh.vertices m → Ranked sh x s m
ranked_all sh x s l m few a b = record {
  low = low;
  all = all;
}
  where
    own : (v : ℕ) → 1 ≤ v → v ≤ most_items → is_marked l v ≡ own_vertex sh x s v
    own v h i = own_mark sh x s l v (a.mark v h i)

    all : (v : ℕ) → 1 ≤ v → v ≤ sh.vertices → get_or m v 0 ≡ ranked sh x s v
    all v h i = b.below v h i ∙ rw (
      own v h (omega arith),
      sum_ext v (λ u. bit (is_marked l u)) (λ u. bit (own_vertex sh x s u)) (λ u j k. ap bit (own u j (omega arith))),
    ) refl

    low : (v : ℕ) → get_or m v 0 < 10000
    low v = split v 0 (λ z. rw z (omega (arith, b.none, a.none)))
        (λ d. ⊎_elim (λ j. omega (arith, all v (omega arith) j, few_ranks sh x s v (omega arith)))
        (λ j. ⊎_elim
        (λ k. omega (
          arith,
          b.above v j,
          a.mark v (omega arith) k,
          bit_le (any_to (2 * sh.edges) (starts_at sh x s v)),
        ))
        (λ k. omega (arith, get_or-eq_default m 0 {n = v} (omega (arith, b.size, a.size)))) (le? v most_items))
        (le? v sh.vertices))
