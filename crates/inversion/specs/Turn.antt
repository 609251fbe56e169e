-- What is to be shown of each turn that does not lack a number, and that it is enough: turn by turn the table is
-- emptied, or a turn is met that lacks one, in no more turns than the table has edges and vertices; the operators are
-- accepted, and what they change of the counts is said (`Change`).
use Rattle.std.specs.Prelude.{◌≡◌, ◌≢◌, ◌⊎◌, Bool, true, false, List, [], ◌++◌, ℕ, zero, suc, ◌+◌, ◌*◌, ◌≤◌, ◌<◌, eqb}
use Rattle.std.specs.Prelude.{ℤ, length}
use Rattle.std.proofs.Math.Path.{refl}
use Rattle.std.proofs.Common.{sym, ap, ◌∙◌, inl, inr, ⊎_elim, arith, length-append}
use Rattle.std.proofs.lemmas.Bool.{false≢true}
use Rattle.laws.specs.Bools.{pick_ind, split, ask, eqb_same, eqb_other}
use Rattle.script.specs.declared.Operator.{Operator}
use Rattle.layout.specs.declared.shape.Shape.{Shape}
use Rattle.layout.specs.Items.{some, face_in}
use Rattle.euler.specs.Queries.{faces_in}
use Rattle.table.specs.Clear.{empty_links, empty_points}
use Rattle.sound_tables.specs.Good.{Good}
use Rattle.takedown.specs.Inversion.{Work, solid_at, free_face, free_loop, free_edge, edges_left, ring_half, spur_half}
use Rattle.takedown.specs.Inversion.{ring_of}
use Rattle.takedown.specs.Inversion.{turned, turn_of, lacks_b, lacks, lack_at, ended, invert_by}
use Rattle.inversion.specs.Path.{Path, there, first, acted, path_append, acted_append, path_good, joins_in}
use Rattle.inversion.specs.Path.{acted_table}
use Rattle.inversion.specs.Counts.{solids, faces, loops, edges, vertices, strays}
use Rattle.inversion.specs.Lacks.{Enough}

-- a half-edge in a ring with its mate in another loop, when the solid at hand has one face
abbrev pub RingAt : Shape → List ℕ → Type 0
RingAt sh x = (solid_at sh x ≢ 0) × (faces_in sh x (solid_at sh x) ≡ 1) × (ring_half sh x (solid_at sh x) ≢ 0)

-- one number of each kind is left: kemr takes the free loop, and the turn behind it gives one back
pub record Ready (sh : Shape) (x : List ℕ) : Type 0 where
  pub face : free_face sh x ≢ 0
  pub edge : free_edge sh x ≢ 0
  pub loop : (free_loop sh x ≢ 0) ⊎ RingAt sh x

-- the sum that pays for the operators: v + loops + stray loops (`Change` takes the solids off and adds 3 for a hole)
abbrev pub worth : Shape → List ℕ → ℕ
worth sh x = vertices sh x + loops sh x + strays sh x

-- how n operators, j of them mfkrh, change the counts, from the table x to the table y
pub record Change (sh : Shape) (x y : List ℕ) (n j : ℕ) : Type 0 where
  pub euler : vertices sh x + 2 * faces sh x + 2 * j + (edges sh y + loops sh y + 2 * solids sh y)
      ≡ edges sh x + loops sh x + 2 * solids sh x + (vertices sh y + 2 * faces sh y)
  -- paid, or, by kemr, two on credit that the next turn pays
  pub paid : (n + solids sh x + worth sh y ≤ worth sh x + solids sh y + 3 * j)
      ⊎ (RingAt sh y × (n + solids sh x + worth sh y ≤ worth sh x + solids sh y + 3 * j + 2))
  -- what was on credit is paid back, or, where no turn or kemr came last, still is
  pub back : RingAt sh x → (n + solids sh x + worth sh y + 2 ≤ worth sh x + solids sh y + 3 * j)
      ⊎ (RingAt sh y × (n + solids sh x + worth sh y ≤ worth sh x + solids sh y + 3 * j))

-- nothing done
change_none : (sh : Shape) (x : List ℕ) → Change sh x x 0 0
change_none sh x = record { euler = omega arith; paid = inl (omega arith); back = λ r. inr (r, omega arith) }

-- one change behind the other
change_then : {sh : Shape} {x y z : List ℕ} {n m j i : ℕ} → Change sh x y n j → Change sh y z m i
    → Change sh x z (n + m) (j + i)
change_then c d = record {
  euler = omega (arith, c.euler, d.euler);
  paid = ⊎_elim
      (λ k. ⊎_elim (λ q. inl (omega (arith, k, q))) (λ q. inr (q.0, omega (arith, k, q.1))) d.paid)
      (λ k. ⊎_elim (λ q. inl (omega (arith, k.1, q))) (λ q. inr (q.0, omega (arith, k.1, q.1))) (d.back k.0))
      c.paid;
  back = λ r. ⊎_elim
      (λ k. ⊎_elim (λ q. inl (omega (arith, k, q))) (λ q. inr (q.0, omega (arith, k, q.1))) d.paid)
      (λ k. ⊎_elim (λ q. inl (omega (arith, k.1, q))) (λ q. inr (q.0, omega (arith, k.1, q.1))) (d.back k.0))
      (c.back r);
}

-- a turn of a table: its operators, accepted, and what they leave
pub record TurnMade (sh : Shape) (x : List ℕ) (p : List ℤ) : Type 0 where
  pub os : List Operator
  pub y : List ℕ
  pub q : List ℤ
  pub path : Path sh y q os x p
  pub same : (w : Work) → w.state.links ≡ x → w.state.points ≡ p
      → turned sh (solid_at sh x) (face_in sh x (solid_at sh x)) w ≡ acted sh w os
  pub change : Change sh x y (length os) (joins_in sh x p os)
  pub less : edges sh y + vertices sh y < edges sh x + vertices sh x
  pub ready : Ready sh x → Ready sh y

-- while a solid is left and the turn does not lack a number, it is made (proved in AllTurns)
abbrev pub TurnsMade : Type 0
TurnsMade = (sh : Shape) (x : List ℕ) (p : List ℤ) → Good sh x p → Enough sh x → solid_at sh x ≢ 0 → TurnMade sh x p

-- nothing is in use
pub record Empty (sh : Shape) (x : List ℕ) (p : List ℤ) : Type 0 where
  pub links : x ≡ empty_links sh.solids sh.faces sh.loops sh.edges sh.vertices
  pub points : p ≡ empty_points sh.vertices
  pub no_solids : solids sh x ≡ 0
  pub no_faces : faces sh x ≡ 0
  pub no_loops : loops sh x ≡ 0
  pub no_edges : edges sh x ≡ 0
  pub no_vertices : vertices sh x ≡ 0

-- where no solid is left, nothing is (proved in EmptyLaws)
abbrev pub EmptyTable : Type 0
EmptyTable = (sh : Shape) (x : List ℕ) (p : List ℤ) → Good sh x p → solid_at sh x ≡ 0 → Empty sh x p

-- a solid has a vertex (proved in LoopCounts)
abbrev pub SolidVertex : Type 0
SolidVertex = (sh : Shape) (x : List ℕ) (p : List ℤ) → Good sh x p → solid_at sh x ≢ 0 → 1 ≤ vertices sh x

-- how the turns end: with nothing in use, or where a turn lacks a number
pub data Stop (sh : Shape) (y : List ℕ) (q : List ℤ) : Bool → Type 0 where
  emptied : Empty sh y q → Stop sh y q false
  lacking : solid_at sh y ≢ 0 → lack_at sh y ≡ true → Stop sh y q true

-- the rest of the work from the table x, p on
pub record Down (n : ℕ) (sh : Shape) (x : List ℕ) (p : List ℤ) : Type 0 where
  pub os : List Operator
  pub y : List ℕ
  pub q : List ℤ
  pub lack : Bool
  pub path : Path sh y q os x p
  pub same : (w : Work) → w.state.links ≡ x → w.state.points ≡ p → invert_by n sh w ≡ ended lack (acted sh w os)
  pub stop : Stop sh y q lack
  pub change : Change sh x y (length os) (joins_in sh x p os)
  -- where one number of each kind was left no turn lacked one
  pub spare : Ready sh x → lack ≡ false

-- the joins of one chain behind the other
pub joins_append : (sh : Shape) {y : List ℕ} {q : List ℤ} {os : List Operator} (ns : List Operator) {x : List ℕ}
    {p : List ℤ} → Path sh y q os x p
    → joins_in sh x p (os ++ ns) ≡ joins_in sh x p os + joins_in sh y q ns
joins_append sh ns (there e f) = rw (e, f) (omega arith)
joins_append sh ns (first o len acc r) = omega (arith, joins_append sh ns r)

-- where no solid is left that is the end
pub invert_over : (n : ℕ) (sh : Shape) (w : Work) → solid_at sh w.state.links ≡ 0 → invert_by n sh w ≡ ended false w
unfolding invert_by
invert_over zero sh w z = refl
invert_over (suc n) sh w z = rw (eqb_same z)

-- a turn, and then the others
pub invert_some : (n : ℕ) (sh : Shape) (w : Work) → solid_at sh w.state.links ≢ 0
    → lack_at sh w.state.links ≡ false → invert_by (suc n) sh w ≡ invert_by n sh (turn_of sh w)
unfolding invert_by
invert_some n sh w d e = rw (eqb_other d, e)

-- a turn that lacks a number is the end
pub invert_lack : (n : ℕ) (sh : Shape) (w : Work) → solid_at sh w.state.links ≢ 0
    → lack_at sh w.state.links ≡ true → invert_by (suc n) sh w ≡ ended true w
unfolding invert_by
invert_lack n sh w d e = rw (eqb_other d, e)

-- no turn lacks a number where one of each kind is left
pub ready_enough : {sh : Shape} {x : List ℕ} → Ready sh x → Enough sh x
unfolding lacks lacks_b
ready_enough {sh} {x} r =
    let s = solid_at sh x in
    pick_ind P (eqb (faces_in sh x s) 1) _ _
    (pick_ind P (edges_left sh x s) _ _ (⊎_elim by_loop by_ring r.loop)
    (pick_ind P (some (ring_of sh x (face_in sh x s))) _ _ (eqb_other r.edge) refl)) refl
  where
    P : Bool → Type 0
    P b = b ≡ false

    by_loop : free_loop sh x ≢ 0 → lacks_b sh x (solid_at sh x) ≡ false
    by_loop d = pick_ind P (some (ring_half sh x (solid_at sh x))) _ _ (eqb_other r.face)
        (pick_ind P (some (spur_half sh x (solid_at sh x))) _ _ refl (eqb_other d))

    by_ring : RingAt sh x → lacks_b sh x (solid_at sh x) ≡ false
    by_ring q = rw (eqb_other q.2, eqb_other r.face)

module _ (made : TurnsMade) (empty : EmptyTable) (vertex : SolidVertex) where
  -- where no solid is left nothing is to be done
  over : (n : ℕ) (sh : Shape) (x : List ℕ) (p : List ℤ) → Good sh x p → solid_at sh x ≡ 0 → Down n sh x p
  unfolding acted
  over n sh x p g z =
      record {
        os = [];
        y = x;
        q = p;
        lack = false;
        path = there refl refl;
        same = λ w a b. invert_over n sh w (ap (solid_at sh) a ∙ z);
        stop = emptied (empty sh x p g z);
        change = change_none sh x;
        spare = λ r. refl;
      }

  -- where the turn lacks a number nothing can be done
  stuck : (n : ℕ) (sh : Shape) (x : List ℕ) (p : List ℤ) → solid_at sh x ≢ 0 → lack_at sh x ≡ true → Down (suc n) sh x p
  unfolding acted
  stuck n sh x p d e =
      record {
        os = [];
        y = x;
        q = p;
        lack = true;
        path = there refl refl;
        same = λ w a b. invert_lack n sh w (λ z. d (ap (solid_at sh) (sym a) ∙ z)) (ap (lack_at sh) a ∙ e);
        stop = lacking d e;
        change = change_none sh x;
        spare = λ r. absurd (false≢true (sym (ready_enough r) ∙ e));
      }

  -- n turns are enough for e + v
  pub down : (n : ℕ) (sh : Shape) (x : List ℕ) (p : List ℤ) → Good sh x p → edges sh x + vertices sh x ≤ n
      → Down n sh x p
  down zero sh x p g h =
      split (solid_at sh x) 0 (λ z. over 0 sh x p g z) (λ d. absurd (omega (arith, h, vertex sh x p g d)))
  down (suc n) sh x p g h = split (solid_at sh x) 0 (λ z. over (suc n) sh x p g z) (λ d. ⊎_elim
      (λ e. stuck n sh x p d e)
      (λ e.
      let t = made sh x p g e d in
      step t d e (down n sh t.y t.q (path_good g t.path) (omega (arith, h, t.less))))
      (ask (lack_at sh x)))
    where
      step : (t : TurnMade sh x p) → solid_at sh x ≢ 0 → lack_at sh x ≡ false → Down n sh t.y t.q
          → Down (suc n) sh x p
      step t d e m =
          let j = joins_append sh m.os t.path in
          let l = length-append t.os m.os in
          record {
            os = t.os ++ m.os;
            y = m.y;
            q = m.q;
            lack = m.lack;
            path = path_append t.path m.path;
            same = λ w a b.
                let k : Path sh t.y t.q t.os w.state.links w.state.points = rw (a, b) t.path in
                let u = acted_table sh w k in
                invert_some n sh w (λ z. d (ap (solid_at sh) (sym a) ∙ z)) (ap (lack_at sh) a ∙ e)
                ∙ ap (λ v. invert_by n sh (turned sh (solid_at sh v) (face_in sh v (solid_at sh v)) w)) a
                ∙ ap (invert_by n sh) (t.same w a b)
                ∙ m.same (acted sh w t.os) u.0 u.1
                ∙ ap (ended m.lack) (sym (acted_append sh w t.os m.os));
            stop = m.stop;
            change = rw (j, l) (change_then t.change m.change);
            spare = λ r. m.spare (t.ready r);
          }
