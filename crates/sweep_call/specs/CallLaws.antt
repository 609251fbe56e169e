-- From the refusals to what the writing asks for.
use Rattle.std.specs.Prelude.{◌≡◌, ◌≢◌, Bool, true, ◌&&◌, List, [], ◌∷◌, ℕ, ◌*◌, ◌≤◌, ◌<◌, ℤ}
use Rattle.std.proofs.Math.Path.{refl, sym}
use Rattle.std.proofs.Common.{◌∙◌, arith}
use Rattle.std.proofs.Math.Bool.{false}
use Rattle.std.proofs.Math.Dec.{leb, leb→le}
use borrow.Author.Tests.{le-leb}
use Rattle.laws.specs.Bools.{pick, eqb_same, eqb_other, split, T_true, T_false}
use Rattle.laws.specs.Every.{every}
use Rattle.laws.specs.Search.{all_to, any_to}
use Rattle.refusals.specs.declared.Refusal.TheVariants.{OutOfRange}
use Rattle.refusals.specs.Numbers.{refusal_in, unless}
use Rattle.layout.specs.declared.shape.Shape.{Shape}
use Rattle.layout.specs.Small.{Small}
use Rattle.layout.specs.Layout.{face_solid, loop_face}
use Rattle.layout.specs.Items.{some}
use Rattle.sound_tables.specs.Good.{Good}
use Rattle.chains.specs.Ranks.{nth, nth_in}
use Rattle.chains.specs.Ranked.{Filled}
use Rattle.chains.specs.Numbers.{edge_free, vertex_free, face_free, loop_free}
use Rattle.sweeps.specs.declared.Vector.{Vector}
use Rattle.sweeps.specs.Sweep.{corners_to, lone_in, moves, spare, sweep_ops, sweep_refusal}
use Rattle.chains.specs.Runs.{room_for}
use Rattle.sweeps.specs.Accepted.{Sweepable, corners_some, corners_move, corners_yes, corners_no}
use Rattle.sweep_puts.specs.RiserLaws.{Holds}
use Rattle.sweep_puts.specs.FaceLaws.{Named, Liftable}

-- ---- names

-- an array of ranks holds as many names as are free
pub holds_of : (q : ℕ → Bool) (m size : ℕ) (list : List ℕ) (count n : ℕ) → Filled q m size list count → m ≤ 4096
    → n ≤ count → Holds (nth m q) list n
holds_of q m size list count n f h e = record {
  at = λ j a. f.at j (omega (arith, a, e));
  low = λ j a.
      let s = nth_in m 1 q j (omega (arith, a, e, f.many)) in
      omega (arith, s.low, f.at j (omega (arith, a, e)));
  high = λ j a.
      let s = nth_in m 1 q j (omega (arith, a, e, f.many)) in
      omega (arith, s.high, h, f.at j (omega (arith, a, e)));
}

pub named_of : (sh : Shape) (x edges vertices faces loops : List ℕ) (size ne nv nf nl n : ℕ) → Small sh
    → Filled (edge_free sh x) sh.edges size edges ne → Filled (vertex_free sh x) sh.vertices size vertices nv
    → Filled (face_free sh x) sh.faces size faces nf → Filled (loop_free sh x) sh.loops size loops nl
    → 2 * n ≤ ne → n ≤ nv → n ≤ nf → n ≤ nl → Named sh x edges vertices faces loops n
named_of sh x edges vertices faces loops size ne nv nf nl n s fe fv ff fl a b c d = record {
  edge = holds_of _ sh.edges size edges ne (2 * n) fe s.edges a;
  vertex = holds_of _ sh.vertices size vertices nv n fv s.vertices b;
  face = holds_of _ sh.faces size faces nf n ff s.faces c;
  loop = holds_of _ sh.loops size loops nl n fl s.loops d;
}

-- ---- corners

-- a face that can be swept
pub liftable_of : {sh : Shape} {x : List ℕ} {p : List ℤ} {start f : ℕ} {v : Vector} → Good sh x p
    → Sweepable sh x p start f v → Liftable sh x p f v
liftable_of {sh} {x} {p} {start} {f} {v} g r = record {
  some_corner = λ l a b e. corners_some g r l (a, b) e;
  moving = λ l a b. split (loop_face sh x l) f
      (λ e.
      let n = corners_yes sh x f l e in
      record {
        along_x = λ j h. T_true (corners_move g r l (a, b) e j (omega (arith, h, n)) 0 (omega arith));
        along_y = λ j h. T_true (corners_move g r l (a, b) e j (omega (arith, h, n)) 1 (omega arith));
        along_z = λ j h. T_true (corners_move g r l (a, b) e j (omega (arith, h, n)) 2 (omega arith));
      })
      (λ e.
      let n = corners_no sh x f l e in
      record {
        along_x = λ j h. absurd (omega (arith, h, n));
        along_y = λ j h. absurd (omega (arith, h, n));
        along_z = λ j h. absurd (omega (arith, h, n));
      });
}

-- ---- refusals before anything is written

unfoldable pub face_refusal_of : Shape → List ℕ → List ℤ → ℕ → Vector → ℕ
face_refusal_of sh x p f v =
    pick (some f && leb f sh.faces)
    (pick (some (face_solid sh x f))
    (pick (any_to sh.loops (lone_in sh x f)) 14 (pick (all_to (2 * sh.edges) (moves sh x p f v)) 0 5)) 6) 5

module _ (sh : Shape) (x : List ℕ) (p : List ℤ) (f : ℕ) (v : Vector) where
  pub early_none : f ≡ 0 → 5 ≡ face_refusal_of sh x p f v
  unfolding face_refusal_of
  early_none e = rw (eqb_same e) refl

  pub early_high : (f ≡ 0 → ⊥) → sh.faces < f → 5 ≡ face_refusal_of sh x p f v
  unfolding face_refusal_of
  early_high n h = rw (eqb_other n, lt_leb h) refl
    where
      lt_leb : sh.faces < f → leb f sh.faces ≡ false
      lt_leb h = T_false (λ t. omega (arith, h, leb→le f sh.faces t))

  module _ (n : f ≡ 0 → ⊥) (h : f ≤ sh.faces) where
    pub early_free : (s : ℕ) → s ≡ face_solid sh x f → s ≡ 0 → 6 ≡ face_refusal_of sh x p f v
    unfolding face_refusal_of
    early_free s e z = rw (eqb_other n, le-leb f sh.faces h, eqb_same (sym e ∙ z)) refl

    module _ (s : ℕ) (e : s ≡ face_solid sh x f) (z : s ≡ 0 → ⊥) where
      pub early_lone : (b : Bool) → b ≡ any_to sh.loops (lone_in sh x f) → b ≡ true → 14 ≡ face_refusal_of sh x p f v
      unfolding face_refusal_of
      early_lone b q t = rw (eqb_other n, le-leb f sh.faces h, eqb_other (λ y. z (e ∙ y)), sym q ∙ t) refl

      -- then the points decide
      pub early_last : (b d : Bool) → b ≡ any_to sh.loops (lone_in sh x f) → b ≡ false
          → d ≡ all_to (2 * sh.edges) (moves sh x p f v) → refusal_in (unless d OutOfRange) ≡ face_refusal_of sh x p f v
      unfolding face_refusal_of
      early_last b d q t r =
          rw (eqb_other n, le-leb f sh.faces h, eqb_other (λ y. z (e ∙ y)), sym q ∙ t, sym r) (decided d)
        where
          decided : (c : Bool) → refusal_in (unless c OutOfRange) ≡ pick c 0 5
          decided true = refl
          decided false = refl

-- ---- enough numbers

pub every_four : (a b c d : Bool) → (a && (b && (c && d))) ≡ every (a ∷ b ∷ c ∷ d ∷ [])
every_four true true true true = refl
every_four true true true false = refl
every_four true true false d = refl
every_four true false c d = refl
every_four false b c d = refl

-- ---- the whole refusal

-- the four tests of the face, and what comes after them
abbrev tests : Bool → Bool → Bool → Bool → ℕ → ℕ
tests a b c d r = pick a (pick b (pick c 14 (pick d r 5)) 6) 5

chain : (a b c d : Bool) (r : ℕ) → (◌≢◌ {A = ℕ} (tests a b c d 0) 0 → tests a b c d r ≡ tests a b c d 0)
    × (◌≡◌ {A = ℕ} (tests a b c d 0) 0 → tests a b c d r ≡ r)
chain false b c d r = ((λ n. refl), (λ e. absurd (omega (arith, e))))
chain true false c d r = ((λ n. refl), (λ e. absurd (omega (arith, e))))
chain true true true d r = ((λ n. refl), (λ e. absurd (omega (arith, e))))
chain true true false false r = ((λ n. refl), (λ e. absurd (omega (arith, e))))
chain true true false true r = ((λ n. absurd (n refl)), (λ e. refl))

module _ (sh : Shape) (x : List ℕ) (p : List ℤ) (start f : ℕ) (v : Vector) where
  -- what is left once the face is looked at
  abbrev pub space_refusal_of : ℕ
  space_refusal_of =
      pick (every (spare sh x (corners_to sh x f sh.loops)))
      (pick (leb (room_for sh x p (sweep_ops sh x p f v)) start) 0
      9) 10

  -- 5, 6, 14 and 5 come first
  pub refusal_early : face_refusal_of sh x p f v ≢ 0 → sweep_refusal sh x p start f v ≡ face_refusal_of sh x p f v
  unfolding face_refusal_of sweep_refusal
  refusal_early = (chain (some f && leb f sh.faces) (some (face_solid sh x f)) (any_to sh.loops (lone_in sh x f))
      (all_to (2 * sh.edges) (moves sh x p f v)) space_refusal_of).0

  -- then 10 and 9
  pub refusal_later : face_refusal_of sh x p f v ≡ 0 → sweep_refusal sh x p start f v ≡ space_refusal_of
  unfolding face_refusal_of sweep_refusal
  refusal_later = (chain (some f && leb f sh.faces) (some (face_solid sh x f)) (any_to sh.loops (lone_in sh x f))
      (all_to (2 * sh.edges) (moves sh x p f v)) space_refusal_of).1
