-- rmov, its own inverse, vertex words read as marks (`Marked`): a marked table stays marked, and the inverse gives
-- every word back.
use Rattle.std.specs.Prelude.{◌≡◌, ◌≢◌, ◌⊎◌, Bool, true, ◌||◌, List, [], ◌∷◌, ℕ, ◌*◌, ◌≤◌, eqb, ℤ, length}
use Rattle.std.proofs.Math.Path.{refl}
use Rattle.std.proofs.Common.{sym, ap, ◌∙◌, subst, arith, eqb→eq}
use Rattle.std.proofs.Math.Logic.{inl, inr, ⊎_elim}
use Rattle.std.proofs.Math.Bool.{not}
use Rattle.std.proofs.Math.Dec.{T_not, not_T}
use borrow.Author.Tests.{le-leb}
use Rattle.laws.specs.Bools.{true_T, T_true, and_T, or_T, split, eqb_same, eqb_other}
use Rattle.laws.specs.Every.{every_T, T_every}
use Rattle.laws.specs.Search.{least}
use Rattle.laws.specs.Update.{upd_same, upd_off}
use Rattle.bounds.specs.Bounds.{most_halves}
use Rattle.script.specs.declared.Operator.{Operator}
use Rattle.codec.specs.Operands.{pattern, rows}
use Rattle.layout.specs.declared.shape.Shape.{Shape}
use Rattle.layout.specs.Layout.{set_face_outer, set_loop_face}
use Rattle.layout.specs.Mate.{mate}
use Rattle.layout.specs.MateLaws.{mate_mate}
use Rattle.euler.specs.FaceOperators.{shares_outside, rmov_test, rmov_links}
use Rattle.euler.specs.Exec.{use_word, condition, refusal_of, marks_after, points_after, inverse}
use Rattle.layout.specs.Fields.{Solid, Outer, Face, Start, Loop, Columns, change}
use Rattle.sound_tables.specs.Cells.{Shows, shows_put, put_back}
use Rattle.sound_tables.specs.Sound.{In, HalfUsed, side}
use Rattle.sound_tables.specs.Labels.{least_found, least_some}
use Rattle.sound_tables.specs.Accepted.{use_old, old_use}
use Rattle.sound_tables.specs.TwoOperands.{two_of, two_operands, two_accepted}
use Rattle.sound_tables.specs.Good.{own, Capacities, Marked, marked_shows, marked_after}
use Rattle.sound_tables.specs.Balance.{Balanced, shown_still}
use Rattle.sound_tables.specs.Undone.{Kept, Undone, exact}
use Rattle.sound_rings.specs.Sound.{Ring, Shared, swap_sound, move_sound, mate_outside}

-- rmov l f
abbrev pub rmov_of : ℕ → ℕ → Operator
rmov_of l f = two_of 13 l f

-- ---- the condition

module _ (sh : Shape) (x : List ℕ) (l f : ℕ) where
  -- the table's columns
  abbrev c : Columns
  c = own sh x

  -- the tests of one half-edge
  abbrev tests : ℕ → List Bool
  tests k = not (eqb (c Start k) 0) ∷ eqb (side c k) (c Face l) ∷ not (eqb (c Loop k) l) ∷ eqb (side c (mate k)) f ∷ []

  -- what passes is shared
  shared_of : (k : ℕ) → In (2 * sh.edges) k → shares_outside sh x l f k ≡ true → Shared sh c l f k
  shared_of k i t =
      let s = every_T (tests k) (true_T t) in
      record {
        used = (i.0, i.1, λ z. T_not (eqb (c Start k) 0) s.0 (true_T (eqb_same z)));
        here = eqb→eq _ _ s.1.0;
        outside = λ z. T_not (eqb (c Loop k) l) s.1.1.0 (true_T (eqb_same z));
        there = eqb→eq _ _ s.1.1.1.0;
      }

  -- and what is shared passes
  of_shared : (k : ℕ) → Shared sh c l f k → shares_outside sh x l f k ≡ true
  of_shared k s = T_true (T_every (tests k) (
    not_T (eqb (c Start k) 0) (λ t. s.used.2 (eqb→eq (c Start k) 0 t)),
    (
      true_T (eqb_same s.here),
      (not_T (eqb (c Loop k) l) (λ t. s.outside (eqb→eq (c Loop k) l t)), (true_T (eqb_same s.there), tt)),
    ),
  ))

  -- the face is l's own, or lies across an edge outside l
  abbrev pub Reached : Type 0
  Reached = (f ≡ c Face l) ⊎ ((f ≢ c Face l) × (k : ℕ) × Shared sh c l f k)

  -- the least half-edge that is shared, or 0
  abbrev shared : ℕ
  shared = least (2 * sh.edges) (shares_outside sh x l f)

  -- what the test says
  reached_of : rmov_test sh x l f ≡ true → (c Outer (c Face l) ≢ l) × Reached
  unfolding rmov_test
  reached_of t =
      let a = and_T (not (eqb (c Outer (c Face l)) l)) (eqb f (c Face l) || not (eqb shared 0)) (true_T t) in
      let other : f ≢ c Face l → shared ≢ 0 = λ n. ⊎_elim (λ s. absurd (n (eqb→eq _ _ s)))
      (λ s z. T_not (eqb shared 0) s (true_T (eqb_same z))) (or_T (eqb f (c Face l)) (not (eqb shared 0)) a.1) in (
        λ e. T_not (eqb (c Outer (c Face l)) l) a.0 (true_T (eqb_same e)),
        split f (c Face l) inl (λ n.
            let w = least_found (2 * sh.edges) (shares_outside sh x l f) (other n) in
            inr (n, shared, shared_of shared w.0 w.1)),
      )

  -- and when it passes
  of_reached : c Outer (c Face l) ≢ l → Reached → rmov_test sh x l f ≡ true
  unfolding rmov_test
  of_reached h r = rw (eqb_other h) (⊎_elim (λ e. rw (eqb_same {m = f} {n = c Face l} e)) (λ q.
      let u = q.2.used in
      rw (
        eqb_other q.0,
        eqb_other (least_some (2 * sh.edges) (shares_outside sh x l f) q.1 (u.0, u.1) (of_shared q.1 q.2)),
      )) r)

  -- l is read as it stands
  ln : Capacities sh → Ring sh c l f → l ≤ most_halves
  ln caps r = omega (arith, r.loop_in.1, caps.loops)

  -- and f
  fn : Capacities sh → Ring sh c l f → f ≤ most_halves
  fn caps r = omega (arith, r.face_in_lem.1, caps.faces)

  -- it is accepted
  pub rmov_accepted : Capacities sh → Ring sh c l f → Reached → refusal_of sh x (rmov_of l f) ≡ 0
  unfolding pattern rows use_word condition
  rmov_accepted caps r q = two_accepted sh x 13 6 4 refl refl refl refl (omega (arith, caps.loops)) refl refl
      (omega (arith, caps.faces)) refl l f r.loop_in r.face_in_lem r.loop_used
      (old_use sh x 4 f (omega (arith, r.face_in_lem.0)) refl r.face_used)
      (rw (le-leb l most_halves (ln caps r), le-leb f most_halves (fn caps r)) (of_reached r.ring q))

  -- what it does where the face is l's own
  pub swap_links : Capacities sh → Ring sh c l f → f ≡ c Face l
      → marks_after sh x (rmov_of l f) ≡ set_face_outer sh x f l
  unfolding marks_after rmov_links
  swap_links caps r e = rw (le-leb l most_halves (ln caps r), le-leb f most_halves (fn caps r), eqb_same e)

  -- and where it is another
  pub move_links : Capacities sh → Ring sh c l f → f ≢ c Face l
      → marks_after sh x (rmov_of l f) ≡ set_loop_face sh x l f
  unfolding marks_after rmov_links
  move_links caps r n = rw (le-leb l most_halves (ln caps r), le-leb f most_halves (fn caps r), eqb_other n)

  -- points stay
  pub rmov_points : (p : List ℤ) → points_after sh x p (rmov_of l f) ≡ p
  unfolding points_after
  rmov_points p = refl

  -- the inverse where the face is l's own
  swap_inverse : Capacities sh → Ring sh c l f → (p : List ℤ) → f ≡ c Face l → inverse sh x p (rmov_of l f)
      ≡ rmov_of (c Outer f) f
  unfolding inverse
  swap_inverse caps r p e = rw (le-leb l most_halves (ln caps r), le-leb f most_halves (fn caps r), eqb_same e)

  -- and where it is another
  move_inverse : Capacities sh → Ring sh c l f → (p : List ℤ) → f ≢ c Face l → inverse sh x p (rmov_of l f) ≡ rmov_of l
      (c Face l)
  unfolding inverse
  move_inverse caps r p n = rw (le-leb l most_halves (ln caps r), le-leb f most_halves (fn caps r), eqb_other n)

-- ---- the ring becomes the outer loop

module _ {sh : Shape} {x : List ℕ} {p : List ℤ} (g : Marked sh x p) {l f : ℕ} (r : Ring sh (own sh x) l f)
    (e : f ≡ own sh x Face l) where
  -- the list afterwards
  abbrev y : List ℕ
  y = set_face_outer sh x f l

  -- and its columns
  abbrev d : Columns
  d = change (own sh x) Outer f l

  -- the list shows them
  y_shows : Shows sh y d
  y_shows = shows_put (marked_shows g) Outer f l r.face_in_lem.0 r.face_in_lem.1

  -- the old outer loop
  abbrev l₀ : ℕ
  l₀ = own sh x Outer f

  -- it is a loop
  old_in : In sh.loops l₀
  old_in = (g.sound.face f r.face_in_lem r.face_used).outer_in

  -- of f
  old_face : own sh x Face l₀ ≡ f
  old_face = (g.sound.face f r.face_in_lem r.face_used).outer_face

  -- and still is
  y_face : own sh y Face l₀ ≡ f
  y_face = y_shows.at Face l₀ old_in.1 ∙ old_face

  -- the outer loop is l
  y_outer : own sh y Outer f ≡ l
  y_outer = y_shows.at Outer f r.face_in_lem.1 ∙ upd_same (own sh x Outer) f l

  -- it is a ring now
  y_ring : Ring sh (own sh y) l₀ f
  y_ring = record {
    loop_in = old_in;
    loop_used = λ z. omega (arith, r.face_in_lem.0, sym y_face ∙ z);
    face_in_lem = r.face_in_lem;
    face_used = λ z. r.face_used (sym (y_shows.at Solid f r.face_in_lem.1) ∙ z);
    ring = λ q. r.ring (ap (own sh x Outer) (sym e) ∙ sym q ∙ ap (own sh y Outer) y_face ∙ y_outer);
  }

  -- and its outer loop put back, the list is the first one
  swap_back : set_face_outer sh y f l₀ ≡ x
  swap_back = put_back (marked_shows g) Outer f l l₀ r.face_in_lem.0 r.face_in_lem.1 refl

  -- a marked table stays marked, and the inverse gives everything back
  swap_exact : Kept sh x p (rmov_of l f) × Undone sh x p (rmov_of l f)
  swap_exact = exact
      (swap_links sh x l f g.capacities r e) (rmov_points sh x l f p) (swap_inverse sh x l f g.capacities r p e)
      (marked_after g y_shows (λ n. refl) refl (swap_sound g.sound r e))
      (rmov_accepted sh y l₀ f g.capacities y_ring (inl (sym y_face)))
      (swap_links sh y l₀ f g.capacities y_ring (sym y_face) ∙ swap_back)
      (rmov_points sh y l₀ f p)
      (swap_inverse sh y l₀ f g.capacities y_ring p (sym y_face) ∙ ap (λ m. rmov_of m f) y_outer)

-- ---- the ring goes to another face

module _ {sh : Shape} {x : List ℕ} {p : List ℤ} (g : Marked sh x p) {l f k : ℕ} (r : Ring sh (own sh x) l f)
    (n : f ≢ own sh x Face l) (s : Shared sh (own sh x) l f k) where
  -- the list afterwards
  abbrev ym : List ℕ
  ym = set_loop_face sh x l f

  -- and its columns
  abbrev dm : Columns
  dm = change (own sh x) Face l f

  -- the old face
  abbrev f₀ : ℕ
  f₀ = own sh x Face l

  -- the list shows them
  ym_shows : Shows sh ym dm
  ym_shows = shows_put (marked_shows g) Face l f r.loop_in.0 r.loop_in.1

  -- the face of l is f
  ym_face : own sh ym Face l ≡ f
  ym_face = ym_shows.at Face l r.loop_in.1 ∙ upd_same (own sh x Face) l f

  -- the old face is in use
  old_loop : In sh.faces f₀ × (own sh x Solid f₀ ≢ 0)
  old_loop = let b = g.sound.loop l r.loop_in r.loop_used in (b.face_in_lem, b.face_used)

  -- l is a ring of it to be
  ym_ring : Ring sh (own sh ym) l f₀
  ym_ring = record {
    loop_in = r.loop_in;
    loop_used = λ z. omega (arith, r.face_in_lem.0, sym ym_face ∙ z);
    face_in_lem = old_loop.0;
    face_used = λ z. old_loop.1 (sym (ym_shows.at Solid f₀ old_loop.0.1) ∙ z);
    ring = λ q. n (sym (g.sound.face f r.face_in_lem r.face_used).outer_face
        ∙ ap (own sh x Face) (sym (ym_shows.at Outer f r.face_in_lem.1) ∙ ap (own sh ym Outer) (sym ym_face) ∙ q));
  }

  -- a half-edge outside the ring lies where it lay
  side_stays : (i : ℕ) → HalfUsed sh (own sh x) i → own sh x Loop i ≢ l → side (own sh ym) i ≡ side (own sh x) i
  side_stays i u q =
      let j = (g.sound.half i (u.0, u.1) u.2).loop_in in
      ap (own sh ym Face) (ym_shows.at Loop i u.1) ∙ ym_shows.at Face (own sh x Loop i) j.1
      ∙ upd_off (own sh x Face) f q

  -- the mate of the shared half-edge is shared the other way
  ym_shared : Shared sh (own sh ym) l f₀ (mate k)
  ym_shared =
      let m = g.sound.rules.mate_in k s.used in
      let o = mate_outside g.sound r n s in
      record {
        used = (m.0, m.1, λ z. m.2 (sym (ym_shows.at Start (mate k) m.1) ∙ z));
        here = side_stays (mate k) m o ∙ s.there ∙ sym ym_face;
        outside = λ q. o (sym (ym_shows.at Loop (mate k) m.1) ∙ q);
        there = ap (side (own sh ym)) (mate_mate k) ∙ side_stays k s.used s.outside ∙ s.here;
      }

  -- f is not the old face
  ym_other : f₀ ≢ own sh ym Face l
  ym_other q = n (sym (q ∙ ym_face))

  -- and l put back, the list is the first one
  move_back : set_loop_face sh ym l f₀ ≡ x
  move_back = put_back (marked_shows g) Face l f f₀ r.loop_in.0 r.loop_in.1 refl

  -- a marked table stays marked, and the inverse gives everything back
  move_exact : Kept sh x p (rmov_of l f) × Undone sh x p (rmov_of l f)
  move_exact = exact
      (move_links sh x l f g.capacities r n) (rmov_points sh x l f p) (move_inverse sh x l f g.capacities r p n)
      (marked_after g ym_shows (λ n. refl) refl (move_sound g.sound r n s))
      (rmov_accepted sh ym l f₀ g.capacities ym_ring (inr (ym_other, mate k, ym_shared)))
      (move_links sh ym l f₀ g.capacities ym_ring ym_other ∙ move_back)
      (rmov_points sh ym l f₀ p)
      (move_inverse sh ym l f₀ g.capacities ym_ring p ym_other ∙ ap (rmov_of l) ym_face)

-- ---- as an operator

-- what holds of both ways to move a ring holds of an accepted rmov
rmov_either : (sh : Shape) (x : List ℕ) (p : List ℤ) (o : Operator) (Q : Operator → Type 0) → Marked sh x p
    → ((l f : ℕ) → Ring sh (own sh x) l f → f ≡ own sh x Face l → Q (rmov_of l f))
    → ((l f k : ℕ) → Ring sh (own sh x) l f → f ≢ own sh x Face l → Shared sh (own sh x) l f k → Q (rmov_of l f))
    → length o.args ≡ 8 → o.code ≡ 13 → refusal_of sh x o ≡ 0 → Q o
unfolding pattern rows use_word condition
rmov_either sh x p o Q g swap move len e h =
    let caps = g.capacities in
    let k = two_operands sh x 13 6 4 refl refl refl refl (omega (arith, caps.loops)) refl refl
    (omega (arith, caps.faces)) refl o len e h in
    let q = reached_of sh x k.m k.n (rw (k.m_small, k.n_small) at k.holds) in
    let r : Ring sh (own sh x) k.m k.n = record {
      loop_in = k.m_in;
      loop_used = k.m_used;
      face_in_lem = k.n_in;
      face_used = use_old sh x 4 k.n (omega (arith, k.n_in.0)) refl k.n_use;
      ring = q.0;
    } in
    subst Q (sym k.is) (⊎_elim (swap k.m k.n r) (λ a. move k.m k.n a.1 r a.0 a.2) q.1)

-- a marked table stays marked, and the inverse gives everything back
pub rmov_holds : (sh : Shape) (x : List ℕ) (p : List ℤ) (o : Operator) → Marked sh x p → length o.args ≡ 8
    → o.code ≡ 13 → refusal_of sh x o ≡ 0 → Kept sh x p o × Undone sh x p o
rmov_holds sh x p o g = rmov_either sh x p o (λ o. Kept sh x p o × Undone sh x p o) g (λ l f r. swap_exact g r)
    (λ l f k r. move_exact g r)

-- neither half-edges nor vertices change
pub rmov_balanced : (sh : Shape) (x : List ℕ) (p : List ℤ) (o : Operator) → Marked sh x p → length o.args ≡ 8
    → o.code ≡ 13 → refusal_of sh x o ≡ 0 → Balanced sh x o
rmov_balanced sh x p o g = rmov_either sh x p o (Balanced sh x) g
    (λ l f r e. shown_still (subst (λ t. Shows sh t (change (own sh x) Outer f l))
    (sym (swap_links sh x l f g.capacities r e)) (y_shows g r e)) refl refl (λ i. refl) (λ w i. inl refl))
    (λ l f k r n s. shown_still (subst (λ t. Shows sh t (change (own sh x) Face l f))
    (sym (move_links sh x l f g.capacities r n)) (ym_shows g r n s)) refl refl (λ i. refl) (λ w i. inl refl))
