-- mef and kef, and the words of vertices: kef does the same to tables that differ in vertex words alone, and half-edges
-- come and go where the words are counted.
use Rattle.std.specs.Prelude.{◌≡◌, refl, false, List, ℕ, ◌≤◌, ℤ, length}
use Rattle.std.proofs.Common.{sym, ◌∙◌, subst, inl}
use Rattle.script.specs.declared.Operator.{Operator}
use Rattle.layout.specs.declared.shape.Shape.{Shape}
use Rattle.layout.specs.Fields.{Field, Start, VertexUsed, Columns, cap_of, same_field, by_fields}
use Rattle.euler.specs.Exec.{refusal_of, marks_after}
use Rattle.sound_tables.specs.Cells.{Shows}
use Rattle.sound_tables.specs.Sound.{SameElse, Sound}
use Rattle.sound_tables.specs.Good.{own, Capacities, Marked, marked_shows}
use Rattle.sound_tables.specs.Aside.{mixed, mixed_else, mixed_shows, mixed_sound}
use Rattle.sound_tables.specs.Balance.{Balanced, made_balanced, killed_balanced}
use Rattle.sound_cuts.specs.Relation.{Spot, ba, cut_fields, Cut, used_a, used_b}
use Rattle.sound_cuts.specs.MefShown.{cut_shows}
use Rattle.sound_cuts.specs.KefShown.{mend_shows}
use Rattle.sound_cuts.specs.MefOperands.{kef_of}
use Rattle.sound_cuts.specs.MefAccepted.{mef_at, mef_links_lem, mef_come}
use Rattle.sound_cuts.specs.KefPlace.{spot_at, mend_columns, KefPlace, kef_place}
use Rattle.sound_cuts.specs.KefRelation.{kef_cut}
use Rattle.sound_cuts.specs.KefAccepted.{kef_links_lem, kef_leave}
use Rattle.sound_cuts.specs.Exact.{mef_kept, kef_facts, kef_sound}
use Rattle.sound_cuts.specs.MefHolds.{mef_by}

-- ---- kef

-- what stands in the list after kef
after_kef : {sh : Shape} {x : List ℕ} {p : List ℤ} {c d : Columns} {q : Spot} → Cut sh c d q → Sound sh p c
    → Sound sh p d → Shows sh x d → Capacities sh → (F : Field) (n : ℕ) → n ≤ cap_of sh F
    → own sh (marks_after sh x (kef_of q.b)) F n ≡ c F n
after_kef k s t v caps F n i = rw (kef_links_lem k s t v caps) ((mend_shows k s t v).at F n i)

-- the edge of b goes
kef_goes : {sh : Shape} {x : List ℕ} {p : List ℤ} (g : Marked sh x p) {c : Columns} {q : Spot} → Cut sh c (own sh x) q
    → Sound sh p c → Balanced sh x (kef_of q.b)
kef_goes g {q = q} k s =
    let after = after_kef k s g.sound (marked_shows g) g.capacities in
    killed_balanced (λ v i. inl (after VertexUsed v i.1 ∙ sym (k.others VertexUsed refl v))) q.b
    (kef_leave k s g.sound (marked_shows g) g.capacities) refl g.sound (used_b k)
    (after Start q.b k.site.b_in.1 ∙ k.zero_b.s)
    (rw (ba k.site) (after Start q.a k.site.a_in.1 ∙ k.zero_a.s))
    (λ i j e f. after Start i j.1 ∙ sym (k.start_else i (λ z. f (z ∙ sym (ba k.site))) e))

-- half-edges leave where the words are counted
pub kef_balanced : (sh : Shape) (x : List ℕ) (p : List ℤ) (o : Operator) → Marked sh x p → length o.args ≡ 8
    → o.code ≡ 6 → refusal_of sh x o ≡ 0 → Balanced sh x o
kef_balanced sh x p o g len e h =
    let f = kef_facts sh x o g.capacities len e h in
    let w = kef_place x g.sound f.k f.used f.test in
    subst (Balanced sh x) (sym f.is) (kef_goes g (kef_cut g.sound refl w) (kef_sound g.sound refl w))

-- ---- mef

-- the edge of a comes
mef_comes : {sh : Shape} {x : List ℕ} {p : List ℤ} (g : Marked sh x p) {d : Columns} {q : Spot} → Cut sh (own sh x) d q
    → Sound sh p d → Balanced sh x (mef_at q)
mef_comes {sh} {x} g {d} {q} k t =
    let after : (F : Field) (n : ℕ) → n ≤ cap_of sh F → own sh (marks_after sh x (mef_at q)) F n ≡ d F n = λ F n i.
    rw (mef_links_lem k t (marked_shows g) g.capacities g.sound)
    ((cut_shows k t (marked_shows g) g.sound).at F n i) in
    let a = k.site.a_in in
    made_balanced (λ v i. inl (after VertexUsed v i.1 ∙ k.others VertexUsed refl v)) q.a refl
    (mef_come k t (marked_shows g) g.capacities g.sound (marks_after sh x (mef_at q))) (mef_kept g k t).sound
    (a.0, a.1, λ z. (used_a k).2 (sym (after Start q.a a.1) ∙ z)) k.site.a_free
    (rw k.site.ab k.site.b_free)
    (λ i j e f. after Start i j.1 ∙ k.start_else i e (λ z. f (z ∙ sym k.site.ab)))

-- half-edges come where the words are counted
pub mef_balanced : (sh : Shape) (x : List ℕ) (p : List ℤ) (o : Operator) → Marked sh x p → length o.args ≡ 8
    → o.code ≡ 5 → refusal_of sh x o ≡ 0 → Balanced sh x o
mef_balanced sh x p o g len e h = mef_by sh x p o g len e h (Balanced sh x) (λ d q k t. mef_comes g k t)

-- ---- tables that differ in vertex words alone

module _ {sh : Shape} {x y : List ℕ} {p q : List ℤ} (g : Marked sh x p) (h : Marked sh y q)
    (e : SameElse sh (own sh x) (own sh y)) where
  -- kef at b does the same to both
  aside_at : (b : ℕ) → KefPlace sh (own sh x) b
      → SameElse sh (own sh (marks_after sh x (kef_of b))) (own sh (marks_after sh y (kef_of b)))
  aside_at b w =
      let z = mixed sh x y in
      let z-sound = mixed_sound g h e in
      let w' : KefPlace sh z b = record { used = w.used; one = w.one; other = w.other } in
      let k = kef_cut g.sound refl w in
      let s = kef_sound g.sound refl w in
      let k' = kef_cut z-sound refl w' in
      let s' = kef_sound z-sound refl w' in
      let same = by_fields cut_fields (λ F. same_field VertexUsed F ≡ false → (n : ℕ)
      → mend_columns sh z (spot_at z b) F n ≡ mend_columns sh (own sh x) (spot_at (own sh x) b) F n) (
        λ t n. refl,
        (
          λ t n. refl,
          (
            λ t n. refl,
            (
              λ t n. refl,
              (
                λ t n. refl,
                (
                  λ t n. refl,
                  (
                    λ t n. refl,
                    (
                      λ t n. refl,
                      (λ t n. refl, tt),
                    ),
                  ),
                ),
              ),
            ),
          ),
        ),
      )
      (λ F a t n. sym (k'.others F a n) ∙ mixed_else sh x y F t n ∙ k.others F a n) in
      λ F t n i. after_kef k' s' z-sound (mixed_shows g h e) h.capacities F n i ∙ same F t n
      ∙ sym (after_kef k s g.sound (marked_shows g) g.capacities F n i)

-- kef leaves tables that differ in vertex words alone
pub kef_aside : (sh : Shape) (x y : List ℕ) (p q : List ℤ) (o : Operator) → Marked sh x p → Marked sh y q
    → SameElse sh (own sh x) (own sh y) → length o.args ≡ 8 → o.code ≡ 6 → refusal_of sh x o ≡ 0
    → SameElse sh (own sh (marks_after sh x o)) (own sh (marks_after sh y o))
kef_aside sh x y p q o g h e len code a =
    let f = kef_facts sh x o g.capacities len code a in
    subst (λ r. SameElse sh (own sh (marks_after sh x r)) (own sh (marks_after sh y r))) (sym f.is)
    (aside_at g h e f.k (kef_place x g.sound f.k f.used f.test))
