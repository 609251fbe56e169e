-- UNDOING GIVES THE VERTEX WORDS BACK. What leaves by the one operator comes by the one that undoes it, and the other
-- way round; that is seen from the numbers of starts alone, for all operators at once.
use Rattle.std.specs.Prelude.{◌≡◌, ◌⊎◌, List, ℕ, zero, suc, ◌+◌, ◌-◌, ◌≤◌, ◌<◌, ℤ, length}
use Rattle.std.proofs.Common.{sym, ◌∙◌, inl, inr, ⊎_elim, arith}
use Rattle.std.proofs.Math.Path.{ap, subst}
use Rattle.laws.specs.Bools.{split}
use Rattle.script.specs.declared.Operator.{Operator}
use Rattle.layout.specs.declared.shape.Shape.{Shape}
use Rattle.layout.specs.Fields.{VertexUsed}
use Rattle.check_items.specs.Rules.{starts_at}
use Rattle.euler.specs.declared.records.Two.{Two}
use Rattle.euler.specs.Valence.{none, leave_of, come_of, less_at, more_starts}
use Rattle.euler.specs.Inverses.{inverse_eight}
use Rattle.euler.specs.Exec.{refusal_of, marks_after, links_after, killed_vertex, points_after, inverse}
use Rattle.sound_tables.specs.Sound.{In}
use Rattle.sound_tables.specs.Good.{own, Good, worded}
use Rattle.sound_tables.specs.Balance.{times, UsedOrNone, Balanced}
use Rattle.sound_tables.specs.Undone.{Low, UndoneBy}
use Rattle.sound_valence.specs.Words.{Reworded, reworded_same, same_words, then_words, less_two, more_two}
use Rattle.sound_valence.specs.Alike.{Finds, accepted_too, points_too}
use Rattle.sound_valence.specs.Marks.{marks_hold, marks_balanced, marks_gone}
use Rattle.sound_valence.specs.Kept.{none_or_in, free_starts, none_times, finds, less, covers, low_x, g', F}
use Rattle.sound_valence.specs.Kept.{h', B', gm, after_marks, more, free_come, gy, sums, valence_kept}

-- numbers that go there and back, each one way
both : (s t : ℕ) {a b c d : ℕ} → s + a ≡ t + b → t + c ≡ s + d → (a ≡ 0) ⊎ (b ≡ 0) → (c ≡ 0) ⊎ (d ≡ 0)
    → (c ≡ b) × (d ≡ a)
both s t u v (inl e) (inl f) = (omega arith, omega arith)
both s t u v (inl e) (inr f) = (omega arith, omega arith)
both s t u v (inr e) (inl f) = (omega arith, omega arith)
both s t u v (inr e) (inr f) = (omega arith, omega arith)

module _ {sh : Shape} {x : List ℕ} {p : List ℤ} (o : Operator) (g : Good sh x p) (len : length o.args ≡ 8)
    (h : refusal_of sh x o ≡ 0) where
  -- as in `Kept`: the links with one less where half-edges leave, what the steps make of them, and the links afterwards
  abbrev x' : List ℕ
  x' = less_at sh x (leave_of sh x o)

  abbrev m : List ℕ
  m = marks_after sh (less_at sh x (leave_of sh x o)) o

  abbrev q : List ℤ
  q = points_after sh (less_at sh x (leave_of sh x o)) p o

  abbrev y : List ℕ
  y = links_after sh x o

  -- the lowered words
  R : Reworded sh x x' (λ w. own sh x VertexUsed w - times (leave_of sh x o) w)
  R = less o g len h

  -- and the raised ones
  S : Reworded sh m y (λ w. own sh m VertexUsed w + times (come_of sh m o) w)
  S = more o g len h

  -- the word of a vertex that is killed is 1 once half-edges have left
  low : Low sh x' o
  low = ⊎_elim (λ z. rw z (omega arith))
      (λ v.
      let w = killed_vertex sh x' o in
      let i = v.0 in
      let s = free_starts (gm o g len h) w i v.1 in
      let c = free_come o g len h w i.0 v.1 in
      split (own sh x VertexUsed w) 0 (λ f. omega (arith, R.word w i, f))
      (λ n. omega (arith, R.word w i, g.valent w i n, s, c, sums o g len h w i.0)))
      (marks_gone sh x' p o (g' o g len h) len (h' o g len h))

  -- what undoes it there
  abbrev I : Operator
  I = inverse sh x' p o

  U : UndoneBy marks_after sh x' p o
  U = (marks_hold sh x' p o (g' o g len h) len (h' o g len h)).1 low

  -- what that does to starts and marks
  Bi : Balanced sh m I
  Bi = marks_balanced sh m q I (gm o g len h) (inverse_eight sh x' p o) U.accepted

  -- where half-edges come by it, read in the table that it leaves
  abbrev CI : Two
  CI = come_of sh x' (inverse sh x' p o)

  -- what comes by the one leaves by the other
  turned : (w : ℕ) → 1 ≤ w → (times (leave_of sh m I) w ≡ times (come_of sh m o) w)
      × (times CI w ≡ times (leave_of sh x' o) w)
  turned w l =
      let a = (B' o g len h).starts w l in
      let b : starts_at sh x' w + times (leave_of sh m I) w ≡ starts_at sh m w + times CI w =
      subst (λ t. starts_at sh t w + times (leave_of sh m I) w ≡ starts_at sh m w + times (come_of sh t I) w) U.links
      (Bi.starts w l) in
      let c : (leave_of sh m I ≡ none) ⊎ (CI ≡ none) =
      subst (λ t. (leave_of sh m I ≡ none) ⊎ (come_of sh t I ≡ none)) U.links Bi.one_way in
      both (starts_at sh m w) (starts_at sh x' w) a b
      (⊎_elim (λ e. inl (none_times _ w e l)) (λ e. inr (none_times _ w e l)) (B' o g len h).one_way)
      (⊎_elim (λ e. inl (none_times _ w e l)) (λ e. inr (none_times _ w e l)) c)

  -- where none leaves by it, none has come
  one_y : leave_of sh m I ≡ none → y ≡ m
  one_y z = reworded_same S (same_words (gm o g len h).fit) (λ w i.
      let t = (turned w i.0).0 in
      let n = none_times (leave_of sh m I) w z i.0 in
      omega (arith, t, n))

  -- it finds in the table with words what it finds in the one with marks
  FI : Finds sh m y I
  FI = finds _ I (gm o g len h) S.else (inverse_eight sh x' p o) U.accepted one_y

  -- one less where half-edges have come: the marks again
  back_m : less_at sh y (leave_of sh y I) ≡ m
  back_m =
      let r = less_two S.fit (leave_of sh m I) (none_or_in sh m Bi.leave.0) (none_or_in sh m Bi.leave.1) in
      ap (less_at sh y) FI.leaves
      ∙ reworded_same (then_words S r) (same_words (gm o g len h).fit) (λ w i.
      let t = (turned w i.0).0 in omega (arith, t, S.word w i))

  -- a word that half-edges have left is not full
  low_x' : (w : ℕ) → w ≤ sh.vertices → own sh x' VertexUsed w < 65534
  low_x' zero u = omega arith
  low_x' (suc v) u =
      let i : In sh.vertices (suc v) = (omega arith, u) in
      omega (arith, R.word (suc v) i, low_x o g len h (suc v) i)

  -- one more where half-edges had left: the table again
  back_x : more_starts sh I x' ≡ x
  unfolding more_starts
  back_x =
      let c : UsedOrNone sh x' CI.one × UsedOrNone sh x' CI.other =
      subst (λ t. UsedOrNone sh t (come_of sh t I).one × UsedOrNone sh t (come_of sh t I).other) U.links
      Bi.come in
      let r = more_two R.fit CI (none_or_in sh x' c.0) (none_or_in sh x' c.1) low_x' in
      reworded_same (then_words R r) (same_words g.fit) (λ w i.
      let t = (turned w i.0).1 in
      let e : times (leave_of sh x' o) w ≡ times (leave_of sh x o) w = ap (λ t. times t w) (F o g len h).leaves in
      omega (arith, t, e, R.word w i, covers o g len h w i))

  -- the table is good, with the points that the steps left
  good_y : Good sh y q
  good_y = worded (gy o g len h) (valence_kept o g len h)

  -- and I is accepted there
  accepted_y : refusal_of sh y I ≡ 0
  accepted_y = accepted_too FI U.accepted

  -- the links
  links_back : links_after sh y I ≡ x
  links_back = after_marks I good_y (inverse_eight sh x' p o) accepted_y
      ∙ ap (λ t. more_starts sh I (marks_after sh t I)) back_m ∙ ap (more_starts sh I) U.links ∙ back_x

  -- EVERYTHING IS GIVEN BACK: links with their words, points, and the operator
  pub good_undone : UndoneBy links_after sh x p o
  good_undone =
      let e : I ≡ inverse sh x p o = (F o g len h).inverted p in
      let f : q ≡ points_after sh x p o = points_too (F o g len h) p in
      record {
        accepted = subst (λ i. refusal_of sh y i ≡ 0) e accepted_y;
        links = subst (λ i. links_after sh y i ≡ x) e links_back;
        points = (λ t. points_after sh y (sym f t) (sym e t)) ∙ points_too FI q ∙ U.points;
        again = (λ t. inverse sh y (sym f t) (sym e t)) ∙ FI.inverted q ∙ U.again;
      }
