-- Each side of a division settles the other: two tables that come from one are equal, and two that lead to one are.
use Rattle.std.specs.Prelude.{◌≡◌, ℕ, ◌*◌, ◌≤◌, eqb}
use Rattle.std.proofs.Common.{sym, ap, ◌∙◌}
use Rattle.laws.specs.Bools.{split}
use Rattle.laws.specs.Search.{least_ext}
use Rattle.layout.specs.declared.shape.Shape.{Shape}
use Rattle.layout.specs.Mate.{mate}
use Rattle.layout.specs.Fields.{Field, First, Isolated, Start, Loop, Next, Prev, VertexUsed, Columns, cap_of, by_fields}
use Rattle.sound_tables.specs.Sound.{In, HalfUsed}
use Rattle.sound_splits.specs.CycleMoves.{swap_for, swap_back}
use Rattle.sound_splits.specs.Relation.{Tidy, moved, Split, off_n, off_b, by_next, by_prev}

-- tidy columns with the same loops have the same firsts
first_same : {sh : Shape} {c d : Columns} → Tidy sh c → Tidy sh d
    → ((i : ℕ) → In (2 * sh.edges) i → c Loop i ≡ d Loop i) → (l : ℕ) → In sh.loops l → c First l ≡ d First l
first_same {sh} s t e l i = s.first l i ∙ least_ext (2 * sh.edges) _ _ (λ k a b. ap (λ m. eqb m l) (e k (a, b)))
    ∙ sym (t.first l i)

-- ---- d is settled by c, but for the word of v

module _ {sh : Shape} {c d e : Columns} {k n v : ℕ} (r : Split sh c d k n v) (s : Split sh c e k n v)
    (word : d VertexUsed v ≡ e VertexUsed v) where
  -- starts
  start_d : (i : ℕ) → d Start i ≡ e Start i
  start_d i = split i (mate k) (λ z. rw z (r.start_m ∙ sym s.start_m)) λ f. split i n
      (λ z. rw z (r.start_n ∙ sym s.start_n)) λ g. split i (mate n)
      (λ z. rw z (r.start_b ∙ sym s.start_b)) (λ h. r.start i f g h ∙ sym (s.start i f g h))

  -- loops
  loop_d : (i : ℕ) → d Loop i ≡ e Loop i
  loop_d i = split i n (λ z. rw z (r.loop_n ∙ sym s.loop_n)) λ g. split i (mate n)
      (λ z. rw z (r.loop_b ∙ sym s.loop_b)) (λ h. r.loop i g h ∙ sym (s.loop i g h))

  -- next
  next_d : (i : ℕ) → In (2 * sh.edges) i → d Next i ≡ e Next i
  next_d = by_next r (λ i. d Next i ≡ e Next i) (r.next_k ∙ sym s.next_k) (r.next_b ∙ sym s.next_b)
      (λ i u. r.next i u ∙ sym (s.next i u))
      (λ i j z. (r.tidy_d.half i j z).next ∙ sym (s.tidy_d.half i j (sym (start_d i) ∙ z)).next)

  -- previous
  prev_d : (i : ℕ) → In (2 * sh.edges) i → d Prev i ≡ e Prev i
  prev_d = by_prev r (λ i. d Prev i ≡ e Prev i) (r.prev_m ∙ sym s.prev_m) (r.prev_n ∙ sym s.prev_n)
      (λ i u. r.prev i u ∙ sym (s.prev i u))
      (λ i j z. (r.tidy_d.half i j z).prev ∙ sym (s.tidy_d.half i j (sym (start_d i) ∙ z)).prev)

  -- firsts
  first_d : (l : ℕ) → In sh.loops l → d First l ≡ e First l
  first_d = first_same r.tidy_d s.tidy_d (λ i h. loop_d i)

  -- isolated vertices
  isolated_d : (l : ℕ) → d Isolated l ≡ e Isolated l
  isolated_d l = r.isolated l ∙ sym (s.isolated l)

  -- the words of vertices
  used_d : (w : ℕ) → d VertexUsed w ≡ e VertexUsed w
  used_d w = split w v (λ z. rw z word) (λ z. r.used w z ∙ sym (s.used w z))

  -- what comes from one table is one
  pub unique_after : (F : Field) (i : ℕ) → 1 ≤ i → i ≤ cap_of sh F → d F i ≡ e F i
  unique_after F i a b = by_fields moved (λ F. (i : ℕ) → In (cap_of sh F) i → d F i ≡ e F i)
      (first_d, (λ i h. isolated_d i, (λ i h. used_d i, (λ i h. start_d i, (λ i h. loop_d i, (next_d, (prev_d, tt)))))))
      (λ F h i j. r.others F h i ∙ sym (s.others F h i)) F i (a, b)

-- ---- c is settled by d

module _ {sh : Shape} {c e d : Columns} {k n v : ℕ} (r : Split sh c d k n v) (s : Split sh e d k n v) where
  open r use {place as o}

  -- starts
  start_c : (i : ℕ) → c Start i ≡ e Start i
  start_c i = split i (mate k) (λ z. rw z (sym r.start_b ∙ s.start_b)) λ f. split i n
      (λ z. rw z (o.n_free ∙ sym s.place.n_free)) λ g. split i (mate n)
      (λ z. rw z (o.b_free ∙ sym s.place.b_free)) (λ h. sym (r.start i f g h) ∙ s.start i f g h)

  -- a half-edge is free in both, or in use in both
  either_c : (Q : ℕ → Type 0) → ((i : ℕ) → In (2 * sh.edges) i → c Start i ≡ 0 → e Start i ≡ 0 → Q i)
      → ((i : ℕ) → HalfUsed sh c i → HalfUsed sh e i → Q i) → (i : ℕ) → In (2 * sh.edges) i → Q i
  either_c Q qf qu i j = split (c Start i) 0 (λ z. qf i j z (sym (start_c i) ∙ z))
      (λ u. qu i (j.0, j.1, u) (j.0, j.1, λ z. u (start_c i ∙ z)))

  -- loops
  loop_c : (i : ℕ) → In (2 * sh.edges) i → c Loop i ≡ e Loop i
  loop_c = either_c (λ i. c Loop i ≡ e Loop i)
      (λ i j z y. (r.tidy_c.half i j z).loop ∙ sym (s.tidy_c.half i j y).loop)
      (λ i u w. let f = off_n o i u in let g = off_b o i u in sym (r.loop i f g) ∙ s.loop i f g)

  -- next
  next_c : (i : ℕ) → In (2 * sh.edges) i → c Next i ≡ e Next i
  next_c = either_c (λ i. c Next i ≡ e Next i)
      (λ i j z y. (r.tidy_c.half i j z).next ∙ sym (s.tidy_c.half i j y).next)
      (λ i u w. sym (swap_back (mate k) (mate n) (c Next i) (r.next_old i u)) ∙ ap (swap_for (mate n) (mate k))
      (sym (r.next i u) ∙ s.next i w) ∙ swap_back (mate k) (mate n) (e Next i) (s.next_old i w))

  -- previous
  prev_c : (i : ℕ) → In (2 * sh.edges) i → c Prev i ≡ e Prev i
  prev_c = either_c (λ i. c Prev i ≡ e Prev i)
      (λ i j z y. (r.tidy_c.half i j z).prev ∙ sym (s.tidy_c.half i j y).prev)
      (λ i u w. sym (swap_back k n (c Prev i) (r.prev_old i u)) ∙ ap (swap_for n k) (sym (r.prev i u) ∙ s.prev i w)
      ∙ swap_back k n (e Prev i) (s.prev_old i w))

  -- firsts
  first_c : (l : ℕ) → In sh.loops l → c First l ≡ e First l
  first_c = first_same r.tidy_c s.tidy_c loop_c

  -- isolated vertices
  isolated_c : (l : ℕ) → c Isolated l ≡ e Isolated l
  isolated_c l = sym (r.isolated l) ∙ s.isolated l

  -- the words of vertices
  used_c : (w : ℕ) → c VertexUsed w ≡ e VertexUsed w
  used_c w = split w v (λ z. rw z (o.v_free ∙ sym s.place.v_free)) (λ z. sym (r.used w z) ∙ s.used w z)

  -- what leads to one table is one
  pub unique_before : (F : Field) (i : ℕ) → 1 ≤ i → i ≤ cap_of sh F → c F i ≡ e F i
  unique_before F i a b = by_fields moved (λ F. (i : ℕ) → In (cap_of sh F) i → c F i ≡ e F i)
      (first_c, (λ i h. isolated_c i, (λ i h. used_c i, (λ i h. start_c i, (loop_c, (next_c, (prev_c, tt)))))))
      (λ F h i j. sym (r.others F h i) ∙ s.others F h i) F i (a, b)
