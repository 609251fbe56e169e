-- mef and kef as a pair, vertex words read as marks (`Marked` of crate sound_tables): on a marked table each leaves a
-- marked one, and each gives back what the other did. For kef that is said of the operator here; for mef, whose
-- operands say where the edge goes, in `MefHolds`.
use Rattle.std.specs.Prelude.{◌≡◌, refl, true, List, ℕ, ℤ, length}
use Rattle.std.proofs.Common.{sym, ◌∙◌, subst, arith}
use Rattle.script.specs.declared.Operator.{Operator}
use Rattle.codec.specs.Operands.{pattern, rows}
use Rattle.layout.specs.declared.shape.Shape.{Shape}
use Rattle.layout.specs.Fields.{Capacity, Loop, Columns}
use Rattle.euler.specs.EdgeOperators.{kef_test}
use Rattle.euler.specs.Exec.{use_word, condition, refusal_of}
use Rattle.sound_tables.specs.Cells.{Shows, shows_ext}
use Rattle.sound_tables.specs.Sound.{HalfUsed, Sound}
use Rattle.sound_tables.specs.OneOperand.{one_operand}
use Rattle.sound_tables.specs.Good.{own, Capacities, Marked, marked_shows, marked_after}
use Rattle.sound_tables.specs.Undone.{Kept, Undone}
use Rattle.sound_cuts.specs.Relation.{Spot, Cut}
use Rattle.sound_cuts.specs.MefShown.{cut_list, cut_shows}
use Rattle.sound_cuts.specs.KefShown.{mend_list, mend_shows}
use Rattle.sound_cuts.specs.MefOperands.{kef_of}
use Rattle.sound_cuts.specs.MefAccepted.{mef_at, mef_links_lem, mef_inverse, mef_accepted, mef_points}
use Rattle.sound_cuts.specs.KefPlace.{spot_at, mend_columns, KefPlace, kef_place}
use Rattle.sound_cuts.specs.KefRelation.{kef_cut, kef_only, kef_first}
use Rattle.sound_cuts.specs.KefSound.{mend_sound}
use Rattle.sound_cuts.specs.KefAccepted.{kef_links_lem, kef_inverse_lem, kef_accepted, kef_points}

-- ---- mef

module _ {sh : Shape} {x : List ℕ} {p : List ℤ} (g : Marked sh x p) {d : Columns} {q : Spot} (k : Cut sh (own sh x) d q)
    (t : Sound sh p d) where
  -- the list after mef
  abbrev y : List ℕ
  y = cut_list k t (marked_shows g)

  -- shows the columns with the edge
  y_shows : Shows sh y d
  y_shows = cut_shows k t (marked_shows g) g.sound

  -- a marked table stays marked
  pub mef_kept : Kept sh x p (mef_at q)
  mef_kept =
      rw (mef_links_lem k t (marked_shows g) g.capacities g.sound, mef_points sh x p q)
      (marked_after g y_shows (k.others Capacity refl) refl t)

  -- kef gives everything back
  pub mef_undone : Undone sh x p (mef_at q)
  mef_undone =
      let el = mef_links_lem k t (marked_shows g) g.capacities g.sound in
      let ep = mef_points sh x p q in
      let ei = mef_inverse k t (marked_shows g) g.capacities g.sound p in
      record {
        accepted = rw (el, ei) (kef_accepted k g.sound t y_shows g.capacities);
        links = rw (el, ei) (kef_links_lem k g.sound t y_shows g.capacities
            ∙ shows_ext (mend_shows k g.sound t y_shows) (marked_shows g) (λ F n i j. refl));
        points = rw (el, ep, ei) (kef_points sh y p q.b);
        again = rw (el, ep, ei) (kef_inverse_lem k g.sound t y_shows g.capacities p);
      }

-- ---- kef

module _ {sh : Shape} {y : List ℕ} {p : List ℤ} (g : Marked sh y p) {c : Columns} {q : Spot} (k : Cut sh c (own sh y) q)
    (s : Sound sh p c) where
  -- the list after kef
  abbrev x : List ℕ
  x = mend_list k s g.sound (marked_shows g)

  -- shows the columns without the edge
  x_shows : Shows sh x c
  x_shows = mend_shows k s g.sound (marked_shows g)

  -- a marked table stays marked
  pub kef_kept : Kept sh y p (kef_of q.b)
  kef_kept = rw (kef_links_lem k s g.sound (marked_shows g) g.capacities, kef_points sh y p q.b)
      (marked_after g x_shows (λ n. sym (k.others Capacity refl n)) refl s)

  -- mef gives everything back
  pub kef_undone : Undone sh y p (kef_of q.b)
  kef_undone =
      let el = kef_links_lem k s g.sound (marked_shows g) g.capacities in
      let ep = kef_points sh y p q.b in
      let ei = kef_inverse_lem k s g.sound (marked_shows g) g.capacities p in
      record {
        accepted = rw (el, ei) (mef_accepted k g.sound x_shows g.capacities s);
        links = rw (el, ei) (mef_links_lem k g.sound x_shows g.capacities s
            ∙ shows_ext (cut_shows k g.sound x_shows s) (marked_shows g) (λ F n i j. refl));
        points = rw (el, ep, ei) (mef_points sh x p q);
        again = rw (el, ep, ei) (mef_inverse k g.sound x_shows g.capacities s p);
      }

-- ---- kef as an operator

-- what an accepted kef says
pub record KefFacts (sh : Shape) (x : List ℕ) (o : Operator) : Type 0 where
  pub k : ℕ
  pub is : o ≡ kef_of k
  pub used : HalfUsed sh (own sh x) k
  pub test : kef_test sh x k ≡ true

-- all from the refusal 0
pub kef_facts : (sh : Shape) (x : List ℕ) (o : Operator) → Capacities sh → length o.args ≡ 8 → o.code ≡ 6
    → refusal_of sh x o ≡ 0 → KefFacts sh x o
unfolding pattern rows use_word condition
kef_facts sh x o caps len e h =
    let a = one_operand sh x 6 9 refl refl refl refl (omega (arith, caps.edges)) refl o len e h in
    record { k = a.n; is = a.is; used = (a.range.0, a.range.1, a.used); test = rw a.small at a.holds }

-- the columns that kef leaves are sound
pub kef_sound : {sh : Shape} {p : List ℤ} {d : Columns} → (t : Sound sh p d) → d Loop 0 ≡ 0 → {b : ℕ} → KefPlace sh d b
    → Sound sh p (mend_columns sh d (spot_at d b))
kef_sound t z w = mend_sound (kef_cut t z w) (kef_only t z w) (kef_first t z w) t

-- both for kef
pub kef_holds : (sh : Shape) (x : List ℕ) (p : List ℤ) (o : Operator) → Marked sh x p → length o.args ≡ 8
    → o.code ≡ 6 → refusal_of sh x o ≡ 0 → Kept sh x p o × Undone sh x p o
kef_holds sh x p o g len e h =
    let f = kef_facts sh x o g.capacities len e h in
    let w = kef_place x g.sound f.k f.used f.test in
    let k = kef_cut g.sound refl w in
    let s = kef_sound g.sound refl w in
    subst (λ q. Kept sh x p q × Undone sh x p q) (sym f.is) (kef_kept g k s, kef_undone g k s)
