-- A WRONG VERTEX WORD, AND THE RULE THAT IT BREAKS. In a sound table the word of one vertex, in use or free, becomes
-- another number. Not 0: rule 5 is broken and no rule before it, since a free vertex that gets a word is isolated in no
-- loop and starts nothing. 0 for a vertex in use: rule 1 is broken where its point is not zero (a free record is all
-- zero), else rule 2 (what names it names a free vertex).
use Rattle.std.specs.Prelude.{◌≡◌, refl, ◌≢◌, Bool, ◌&&◌, List, ℕ, zero, suc, ◌≤◌, ℤ, pos, length}
use Rattle.std.proofs.Common.{sym, ◌∙◌, subst, inl, inr, arith}
use Rattle.std.proofs.Math.Path.{ap}
use Rattle.std.proofs.Math.Logic.{⊎_elim}
use Rattle.std.proofs.Math.Bool.{true, false}
use Rattle.laws.specs.Bools.{pick, pick_ind, split, ask, true_T, T_true, false_T, eqb_other}
use Rattle.laws.specs.Update.{upd, upd_same, upd_off}
use Rattle.layout.specs.declared.shape.Shape.{Shape}
use Rattle.layout.specs.Layout.{shape_of, set_vertex_used}
use Rattle.layout.specs.Points.{coordinate, is_zero}
use Rattle.layout.specs.Fields.{Face, Isolated, Start, VertexUsed}
use Rattle.check_items.specs.Rules.{rule1, rule2, rule3, rule4, rule5, broken_rule}
use Rattle.check_rules.specs.Says.{Says, says_and, says_le_z}
use Rattle.check_rules.specs.RulesSay.{IsZero, VertexRange, VertexEither, Rule2, says_rule1}
use Rattle.check_rules.specs.RulesSay.{says_rule2, says_rule3}
use Rattle.check_rules.specs.CyclesSay.{says_rule4, says_rule5}
use Rattle.table.specs.Sizes.{sizes_fit, table_fits}
use Rattle.table.specs.Check.{answer, check_of}
use Rattle.table.specs.Valid.{Valid, valid_parts}
use Rattle.sound_tables.specs.Sound.{In, VertexSound, alone, joined}
use Rattle.sound_tables.specs.Labels.{many_none}
use Rattle.sound_tables.specs.Balance.{many_same}
use Rattle.sound_tables.specs.Names.{isolated_unnamed}
use Rattle.sound_tables.specs.Good.{own, Good, marked}
use Rattle.sound_tables.specs.ToRules.{to_rule1, to_rule2, to_rule3, to_rule4}
use Rattle.sound_tables.specs.ValidGood.{valid_good}
use Rattle.sound_valence.specs.Words.{Reworded, stored}
use Rattle.sound_valence.specs.Alike.{shape_alike}
use Rattle.sound_valence.specs.Kept.{starts_same, free_starts}
use Rattle.sound_valence.specs.OtherWords.{rule1_else, rule2_else, rule3_else, rule4_else}

-- links of one shape and length have one size
size_same : (x y : List ℕ) (p : List ℤ) → shape_of x ≡ shape_of y → length y ≡ length x → table_fits x p ≡ true
    → table_fits y p ≡ true
size_same x y p s l f =
    subst (λ (t : Shape). sizes_fit (length y) (length p) t.solids t.faces t.loops t.edges t.vertices
    ≡ true) s (rw l f)

-- the links have the size of the table's, so the check names the broken rule
rule_named : (x : List ℕ) (p : List ℤ) → Valid x p → (y : List ℕ) {f : ℕ → ℕ} → Reworded (shape_of x) x y f
    → length y ≡ length x → (n : ℕ) → n ≢ 0 → broken_rule (shape_of x) y p ≡ n → check_of y p ≡ answer 2 n
unfolding check_of
rule_named x p c y R l n d b =
    let s = shape_alike (shape_of x) x y R.else refl in
    let fits = size_same x y p s l (valid_parts x p c).fits in
    let named : broken_rule (shape_of y) y p ≡ n = subst (λ t. broken_rule t y p ≡ n) s b in
    rw (fits, named, eqb_other d)

module _ {sh : Shape} {x : List ℕ} {p : List ℤ} (g : Good sh x p) (v w : ℕ) (i : In sh.vertices v) where
  -- the links with w for the word of v
  abbrev y : List ℕ
  y = set_vertex_used sh x v w

  -- no other word changes
  R : Reworded sh x y (upd (own sh x VertexUsed) v w)
  R = stored g.fit v w i

  -- the word
  at_v : own sh y VertexUsed v ≡ w
  at_v = R.word v i ∙ upd_same (own sh x VertexUsed) v w

  -- the words of the others
  off_v : (n : ℕ) → In sh.vertices n → n ≢ v → own sh y VertexUsed n ≡ own sh x VertexUsed n
  off_v n j d = R.word n j ∙ upd_off (own sh x VertexUsed) w d

  -- ---- another number, not 0

  module _ (some : w ≢ 0) (other : w ≢ own sh x VertexUsed v) where
    -- what was in use still is
    more : (n : ℕ) → n ≤ sh.vertices → own sh x VertexUsed n ≢ 0 → own sh y VertexUsed n ≢ 0
    more zero u h = h
    more (suc n) u h = split (suc n) v
        (λ e z. some (sym at_v ∙ ap (own sh y VertexUsed) (sym e) ∙ z))
        (λ d z. h (sym (off_v (suc n) (omega arith, u) d) ∙ z))

    -- points of vertices in use may be any
    points_more : (n : ℕ) → 1 ≤ n → n ≤ sh.vertices → VertexRange sh y p n
    points_more n l u = let r = (to_rule1 _ g.sound).vertex n l u in record {
      x_range = r.x_range;
      y_range = r.y_range;
      z_range = r.z_range;
      free_zero = ⊎_elim (λ h. inl (more n u h)) (λ z. inr z) r.free_zero;
    }

    -- v has not the word of its half-edges, or is isolated in no loop and starts nothing
    not_either : VertexEither sh y v → ⊥
    not_either r =
        let same = starts_same sh x y R.else v in
        split (own sh x VertexUsed v) 0
        (λ z. ⊎_elim
        (λ q.
        let a = many_same sh.loops (own sh x Isolated) (own sh y Isolated) v
        (λ l j. R.else Isolated refl l j.1) in
        let b = many_none sh.loops (own sh x Isolated) v (isolated_unnamed g.sound v i z) in
        omega (arith, q.0, a, b))
        (λ q. q.1 (same ∙ free_starts (marked g) v i z)) r.either)
        (λ d. other (omega (arith, r.word, at_v, same, g.valent v i d)))

    -- rules 1 to 4 hold, rule 5 does not
    five_broken : broken_rule sh y p ≡ 5
    unfolding broken_rule
    five_broken =
        let a = g.sound in
        let r1 = rule1_else _ R.else (to_rule1 _ a) points_more in
        let r2 = rule2_else _ R.else (to_rule1 _ a) more (to_rule2 _ a) in
        let r3 = rule3_else _ R.else (to_rule1 _ a) (to_rule3 _ a) in
        let r4 = rule4_else _ R.else (to_rule1 _ a) (to_rule4 _ a) in
        let five : rule5 sh y ≡ false = ⊎_elim
        (λ e. absurd (not_either (((says_rule5 sh y p r1 r2 r4).out (true_T e)).vertex v i.0 i.1
        (λ z. some (sym at_v ∙ z))))) (λ e. e) (ask (rule5 sh y)) in
        let one : rule1 sh y p ≡ true = T_true ((says_rule1 sh y p).back r1) in
        let two : rule2 sh y ≡ true = T_true ((says_rule2 sh y).back r2) in
        let three : rule3 sh y ≡ true = T_true ((says_rule3 sh y).back r3) in
        let four : rule4 sh y ≡ true = T_true ((says_rule4 sh y p r1 r2).back r4) in
        rw (one, two, three, four, five)

  -- ---- 0 for a vertex in use

  module _ (used : own sh x VertexUsed v ≢ 0) (none : w ≡ 0) where
    -- the point of v is zero
    abbrev zeros : Bool
    zeros = is_zero p v 0 && is_zero p v 1 && is_zero p v 2

    says_zero : (n : ℕ) → Says (is_zero p v n) (IsZero (coordinate p v n))
    says_zero n = says_and (says_le_z (pos 0) (coordinate p v n)) (says_le_z (coordinate p v n) (pos 0))

    says_zeros : Says zeros ((IsZero (coordinate p v 0) × IsZero (coordinate p v 1)) × IsZero (coordinate p v 2))
    says_zeros = says_and (says_and (says_zero 0) (says_zero 1)) (says_zero 2)

    -- then all points are in order
    points_freed : zeros ≡ true → (n : ℕ) → 1 ≤ n → n ≤ sh.vertices → VertexRange sh y p n
    points_freed t n l u = let r = (to_rule1 _ g.sound).vertex n l u in record {
      x_range = r.x_range;
      y_range = r.y_range;
      z_range = r.z_range;
      free_zero = split n v
          (λ e. inr (rw e (says_zeros.out (true_T t))))
          (λ d. ⊎_elim (λ h. inl (λ z. h (sym (off_v n (l, u) d) ∙ z))) (λ z. inr z) r.free_zero);
    }

    -- what names v names a free vertex
    not_named : Rule2 sh y → ⊥
    not_named r = by (g.sound.vertex v i used)
      where
        by : VertexSound sh (own sh x) v → ⊥
        by (alone l j e u n) =
            let f : own sh x Face l ≢ 0 = λ z. omega (arith, i.0, sym e ∙ (g.sound.loop_free l j z).1) in
            let s = R.else Isolated refl l j.1 ∙ e in
            (r.loop l j.0 j.1 (λ z. f (sym (R.else Face refl l j.1) ∙ z))).isolated
            (λ z. omega (arith, i.0, sym s ∙ z)) (ap (own sh y VertexUsed) s ∙ at_v ∙ none)
        by (joined n k j e) =
            let s = R.else Start refl k j.1 ∙ e in
            (r.half k j.0 j.1 (λ z. omega (arith, i.0, sym s ∙ z))).start
            (ap (own sh y VertexUsed) s ∙ at_v ∙ none)

    -- rule 1 by the point, else rule 2
    freed_broken : broken_rule sh y p ≡ pick zeros 2 1
    unfolding broken_rule
    freed_broken = ⊎_elim
        (λ t.
        let two-due : pick zeros 2 1 ≡ 2 = ap (λ b. pick {X = ℕ} b 2 1) t in
        let r1 = rule1_else _ R.else (to_rule1 _ g.sound) (points_freed t) in
        let one : rule1 sh y p ≡ true = T_true ((says_rule1 sh y p).back r1) in
        let two : rule2 sh y ≡ false = ⊎_elim (λ e. absurd (not_named ((says_rule2 sh y).out (true_T e))))
        (λ e. e) (ask (rule2 sh y)) in
        rw (one, two) (sym two-due))
        (λ t.
        let one-due : pick zeros 2 1 ≡ 1 = ap (λ b. pick {X = ℕ} b 2 1) t in
        let one : rule1 sh y p ≡ false = ⊎_elim
        (λ e. absurd (⊎_elim (λ h. h (at_v ∙ none)) (λ z. false_T t (says_zeros.back z))
        (((says_rule1 sh y p).out (true_T e)).vertex v i.0 i.1).free_zero)) (λ e. e) (ask (rule1 sh y p)) in
        rw one (sym one-due))
        (ask zeros)

-- ANOTHER NUMBER THAN 0 BREAKS RULE 5, in the record of a vertex in use and of a free one
pub wrong_word : (x : List ℕ) (p : List ℤ) → Valid x p → (v w : ℕ) → In (shape_of x).vertices v → w ≢ 0
    → w ≢ own (shape_of x) x VertexUsed v → check_of (set_vertex_used (shape_of x) x v w) p ≡ answer 2 5
wrong_word x p c v w i some other =
    let g = valid_good x p c in
    rule_named x p c (set_vertex_used (shape_of x) x v w) (R g v w i)
    (omega (arith, g.fit, (R g v w i).fit)) 5 (λ z. omega (arith, z)) (five_broken g v w i some other)

-- 0 FOR A VERTEX IN USE BREAKS RULE 1 where its point is not zero, else rule 2
pub freed_word : (x : List ℕ) (p : List ℤ) → Valid x p → (v : ℕ) → In (shape_of x).vertices v
    → own (shape_of x) x VertexUsed v ≢ 0
    → check_of (set_vertex_used (shape_of x) x v 0) p
    ≡ answer 2 (pick (is_zero p v 0 && is_zero p v 1 && is_zero p v 2) 2 1)
freed_word x p c v i used =
    let g = valid_good x p c in
    rule_named x p c (set_vertex_used (shape_of x) x v 0) (R g v 0 i)
    (omega (arith, g.fit, (R g v 0 i).fit)) _
    (pick_ind (λ n. n ≢ 0) (is_zero p v 0 && is_zero p v 1 && is_zero p v 2) _ _ (λ z. omega (arith, z))
    (λ z. omega (arith, z))) (freed_broken g v 0 i used refl)
