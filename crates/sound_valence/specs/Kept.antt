-- ALL OPERATORS KEEP THE VERTEX WORDS. An operator changes marks, then the words: one less where half-edges have left,
-- one more where they have come. The theorems of the pairs are of marks; here they are used with the lowered words
-- ahead of the steps, which leads to the same links.
use Rattle.std.specs.Prelude.{◌≡◌, ◌≢◌, List, ℕ, zero, suc, ◌+◌, ◌-◌, ◌*◌, ◌≤◌, ◌<◌, eqb, ℤ, length}
use Rattle.std.proofs.Math.Path.{refl, ap, subst}
use Rattle.std.proofs.Common.{sym, ◌∙◌, inl, inr, ⊎_elim, arith, lit≤}
use Rattle.laws.specs.Bools.{split, eqb_other}
use Rattle.laws.specs.Sums.{bit, count_le}
use Rattle.script.specs.declared.Operator.{Operator}
use Rattle.codec.specs.Operands.{pattern, rows}
use Rattle.layout.specs.declared.shape.Shape.{Shape}
use Rattle.layout.specs.Fields.{Isolated, Start, VertexUsed, Columns}
use Rattle.check_items.specs.Rules.{starts_at}
use Rattle.euler.specs.declared.records.Two.{Two}
use Rattle.euler.specs.Valence.{none, leave_of, come_of, less_at, less_starts, more_starts}
use Rattle.euler.specs.Surgery.{item_of}
use Rattle.euler.specs.Exec.{refusal_of, marks_after, links_after, points_after}
use Rattle.sound_tables.specs.Sound.{In, SameElse, SameUsed, VertexSound, alone, joined, Sound}
use Rattle.sound_tables.specs.Cells.{Shows}
use Rattle.sound_tables.specs.WriteLaws.{with_column}
use Rattle.sound_tables.specs.Aside.{shows_worded}
use Rattle.sound_tables.specs.Labels.{many_none}
use Rattle.sound_tables.specs.Names.{start_unnamed, isolated_unnamed}
use Rattle.sound_tables.specs.Accepted.{by_thirteen}
use Rattle.sound_tables.specs.Caps.{operand_cap}
use Rattle.sound_tables.specs.Good.{own, Marked, Valent, Good, marked, worded}
use Rattle.sound_tables.specs.Balance.{times, UsedOrNone, Mark, Balanced, times_none, many_same}
use Rattle.sound_spurs.specs.Balance.{kev_aside}
use Rattle.sound_cuts.specs.Balance.{kef_aside}
use Rattle.sound_bridges.specs.Balance.{kemr_aside}
use Rattle.sound_splits.specs.Balance.{jekv_aside}
use Rattle.sound_valence.specs.Words.{Reworded, reworded_same, NoneOrIn}
use Rattle.sound_valence.specs.Words.{less_two, more_two}
use Rattle.sound_valence.specs.Alike.{marked_alike, Finds, accepted_too, points_too, finds_same, first_half}
use Rattle.sound_valence.specs.Alike.{kev_finds, kef_finds}
use Rattle.sound_valence.specs.Alike.{kemr_finds, jekv_finds}
use Rattle.sound_valence.specs.Marks.{marks_hold, marks_balanced}

-- ---- small facts

-- a vertex in use is one of the table's
pub none_or_in : (sh : Shape) (x : List ℕ) {v : ℕ} → UsedOrNone sh x v → NoneOrIn sh v
none_or_in sh x (inl z) = inl z
none_or_in sh x (inr u) = inr u.0

-- one that is free is not one of those in use
free_other : (sh : Shape) (x : List ℕ) {v w : ℕ} → UsedOrNone sh x v → 1 ≤ w → own sh x VertexUsed w ≡ 0
    → bit (eqb v w) ≡ 0
free_other sh x {v} {w} (inl z) l f = ap (λ n. bit (eqb n w)) z ∙ times_none w l
free_other sh x {v} {w} (inr u) l f = ap bit (eqb_other {m = v} {n = w} (λ e. u.1 (ap (own sh x VertexUsed) e ∙ f)))

-- nor are two
pub free_others : (sh : Shape) (x : List ℕ) (t : Two) {w : ℕ} → UsedOrNone sh x t.one × UsedOrNone sh x t.other
    → 1 ≤ w → own sh x VertexUsed w ≡ 0 → times t w ≡ 0
free_others sh x t u l f = let a = free_other sh x u.0 l f in let b = free_other sh x u.1 l f in
    omega (arith, a, b)

-- there are none where both are none
pub none_times : (t : Two) (w : ℕ) → t ≡ none → 1 ≤ w → times t w ≡ 0
none_times t w e l = rw e (let z = times_none w l in omega (arith, z))

-- how many start somewhere is seen in the start column
pub starts_same : (sh : Shape) (x y : List ℕ) → SameElse sh (own sh x) (own sh y) → (w : ℕ)
    → starts_at sh y w ≡ starts_at sh x w
starts_same sh x y e w =
    many_same (2 * sh.edges) (own sh x Start) (own sh y Start) w (λ k i. e Start refl k i.1)

-- none starts at a free vertex
pub free_starts : {sh : Shape} {x : List ℕ} {p : List ℤ} → Marked sh x p → (w : ℕ) → In sh.vertices w
    → own sh x VertexUsed w ≡ 0 → starts_at sh x w ≡ 0
free_starts {sh} {x} g w i f = many_none (2 * sh.edges) (own sh x Start) w (start_unnamed g.sound w i f)

-- a vertex is in use just where something names it, so words apart the same are free
free_too : {sh : Shape} {p q : List ℤ} {c d : Columns} → Sound sh p c → Sound sh q d → SameElse sh c d
    → (v : ℕ) → In sh.vertices v → d VertexUsed v ≡ 0 → c VertexUsed v ≡ 0
free_too {sh} {c = c} {d} a b e v i z = split (c VertexUsed v) 0 (λ f. f) (λ u. absurd (named (a.vertex v i u)))
  where
    -- nothing names it in d
    named : VertexSound sh c v → ⊥
    named (alone l j q m s) = isolated_unnamed b v i z l j (e Isolated refl l j.1 ∙ q)
    named (joined m k j q) = start_unnamed b v i z k j (e Start refl k j.1 ∙ q)

-- ---- what an operator finds does not depend on words

module _ {sh : Shape} {x : List ℕ} (y : List ℕ) {p : List ℤ} (o : Operator) (g : Marked sh x p)
    (e : SameElse sh (own sh x) (own sh y)) (len : length o.args ≡ 8) (h : refusal_of sh x o ≡ 0) where
  -- the ring's number of kemr
  ring_cap : o.code ≡ 7 → item_of o 1 ≤ sh.loops
  unfolding pattern rows
  ring_cap c = operand_cap sh x o len h 7 1 sh.loops c refl (lit≤ tt) refl refl (omega (arith, g.capacities.loops))

  -- an operator that takes half-edges away; for the others the tables are to be one
  pub finds : (leave_of sh x o ≡ none → y ≡ x) → Finds sh x y o
  unfolding pattern rows
  finds one = by_thirteen sh x o h
      (λ c. same (rw c)) (λ c. same (rw c)) (λ c. same (rw c))
      (λ c. kev_finds _ o g e len h (first_half _ o g e len h 4 c refl refl) c) (λ c. same (rw c))
      (λ c. kef_finds _ o g e len h (first_half _ o g e len h 6 c refl refl) c)
      (λ c. kemr_finds _ o g e len h (first_half _ o g e len h 7 c refl refl) (ring_cap c) c)
      (λ c. same (rw c)) (λ c. same (rw c)) (λ c. same (rw c)) (λ c. same (rw c))
      (λ c. jekv_finds _ o g e len h (first_half _ o g e len h 12 c refl refl) c) (λ c. same (rw c))
    where
      -- where none leaves
      same : leave_of sh x o ≡ none → Finds sh x y o
      same z = finds_same (one z)

-- ---- an accepted operator on a good table

module _ {sh : Shape} {x : List ℕ} {p : List ℤ} (o : Operator) (g : Good sh x p) (len : length o.args ≡ 8)
    (h : refusal_of sh x o ≡ 0) where
  -- what it does to starts and marks
  pub B : Balanced sh x o
  B = marks_balanced sh x p o (marked g) len h

  -- the links with one less where half-edges leave, ahead of the operator's steps
  abbrev x' : List ℕ
  x' = less_at sh x (leave_of sh x o)

  -- their words
  pub less : Reworded sh x x' (λ w. own sh x VertexUsed w - times (leave_of sh x o) w)
  less = less_two g.fit (leave_of sh x o) (none_or_in sh x B.leave.0) (none_or_in sh x B.leave.1)

  -- at least as many start at a vertex as leave
  pub few : (w : ℕ) → In sh.vertices w → times (leave_of sh x o) w ≤ starts_at sh x w
  few w i = ⊎_elim
      (λ e. let z = none_times (leave_of sh x o) w e i.0 in omega (arith, z))
      (λ e. let z = none_times (come_of sh (marks_after sh x o) o) w e i.0 in omega (arith, B.starts w i.0, z))
      B.one_way

  -- so a word covers what leaves
  pub covers : (w : ℕ) → In sh.vertices w → times (leave_of sh x o) w ≤ own sh x VertexUsed w
  covers w i = split (own sh x VertexUsed w) 0
      (λ f. let z = free_others sh x (leave_of sh x o) B.leave i.0 f in omega (arith, z))
      (λ d. omega (arith, g.valent w i d, few w i))

  -- no word is full
  pub low_x : (w : ℕ) → In sh.vertices w → own sh x VertexUsed w < 65534
  low_x w i = split (own sh x VertexUsed w) 0 (λ f. omega (arith, f))
      (λ d. omega (
        arith,
        g.valent w i d,
        count_le (2 * sh.edges) (λ k. eqb (own sh x Start k) w),
        g.capacities.edges.1,
      ))

  -- the same vertices are in use
  used_less : SameUsed sh (own sh x) (own sh x')
  used_less zero u = (λ z. refl, λ z. refl)
  used_less (suc v) u =
      let i : In sh.vertices (suc v) = (omega arith, u) in (
        λ z. split (own sh x VertexUsed (suc v)) 0 (λ e. e)
            (λ d. absurd (omega (arith, less.word (suc v) i, z, g.valent (suc v) i d, few (suc v) i))),
        λ z. less.word (suc v) i ∙ omega (arith, z),
      )

  -- it is sound as well
  pub g' : Marked sh x' p
  g' = marked_alike (marked g) less.fit less.else used_less

  -- where none leaves it is the table
  one : leave_of sh x o ≡ none → x' ≡ x
  one z = rw z

  -- the operator finds there what it found before
  pub F : Finds sh x x' o
  F = finds _ o (marked g) less.else len h one

  -- and is accepted
  pub h' : refusal_of sh x' o ≡ 0
  h' = accepted_too F h

  -- what it does there to starts and marks
  pub B' : Balanced sh x' o
  B' = marks_balanced sh x' p o g' len h'

  -- what it leaves
  abbrev m : List ℕ
  m = marks_after sh x' o

  abbrev q : List ℤ
  q = points_after sh x' p o

  -- a sound table
  pub gm : Marked sh m q
  gm = (marks_hold sh x' p o g' len h').0

  -- a mark is not full
  low_m : (w : ℕ) → w ≤ sh.vertices → own sh m VertexUsed w < 65534
  low_m zero u = omega arith
  low_m (suc v) u =
      let w = suc v in
      let i : In sh.vertices (suc v) = (omega arith, u) in
      ⊎_elim (λ e. omega (arith, e, less.word w i, low_x w i))
      (⊎_elim (λ e. omega (arith, e.1)) (λ e. omega (arith, e))) (B'.mark w i)

  -- ---- one less ahead of the steps or behind them is the same

  -- what the steps leave of the table itself
  abbrev n : List ℕ
  n = marks_after sh x o

  -- a sound table
  gn : Marked sh n (points_after sh x p o)
  gn = (marks_hold sh x p o (marked g) len h).0

  -- but for words it is the same
  aside : SameElse sh (own sh n) (own sh m)
  aside = by_thirteen sh x o h
      (λ c. same (rw c)) (λ c. same (rw c)) (λ c. same (rw c))
      (λ c. kev_aside sh x x' p p o (marked g) g' less.else len c h) (λ c. same (rw c))
      (λ c. kef_aside sh x x' p p o (marked g) g' less.else len c h)
      (λ c. kemr_aside sh x x' p p o (marked g) g' less.else len c h)
      (λ c. same (rw c)) (λ c. same (rw c)) (λ c. same (rw c)) (λ c. same (rw c))
      (λ c. jekv_aside sh x x' p p o (marked g) g' less.else len c h) (λ c. same (rw c))
    where
      -- where none leaves
      same : leave_of sh x o ≡ none → SameElse sh (own sh n) (own sh m)
      same z F t k i = ap (λ u. own sh (marks_after sh u o) F k) (one z)

  -- and so the same vertices are in use
  free_n : (w : ℕ) → In sh.vertices w → own sh m VertexUsed w ≡ 0 → own sh n VertexUsed w ≡ 0
  free_n = free_too gn.sound gm.sound aside

  free_m : (w : ℕ) → In sh.vertices w → own sh n VertexUsed w ≡ 0 → own sh m VertexUsed w ≡ 0
  free_m = free_too gm.sound gn.sound (λ F t k i. sym (aside F t k i))

  -- the words too, once lowered
  word_n : (w : ℕ) → In sh.vertices w
      → own sh m VertexUsed w ≡ own sh n VertexUsed w - times (leave_of sh x o) w
  word_n w i = split (own sh n VertexUsed w) 0 (λ f. omega (arith, f, free_m w i f)) (λ d. used d (B.mark w i))
    where
      -- a vertex in use, whose mark stays
      stays : own sh n VertexUsed w ≢ 0 → own sh n VertexUsed w ≡ own sh x VertexUsed w
          → Mark (own sh x' VertexUsed w) (own sh m VertexUsed w)
          → own sh m VertexUsed w ≡ own sh n VertexUsed w - times (leave_of sh x o) w
      stays d e (inl f) = omega (arith, e, f, less.word w i)
      stays d e (inr (inl f)) = absurd (d (e ∙ (used_less w i.1).0 f.0))
      stays d e (inr (inr f)) = absurd (d (free_n w i f))

      -- one that is made
      made : own sh n VertexUsed w ≢ 0 → (own sh x VertexUsed w ≡ 0) × (own sh n VertexUsed w ≡ 1)
          → Mark (own sh x' VertexUsed w) (own sh m VertexUsed w)
          → own sh m VertexUsed w ≡ own sh n VertexUsed w - times (leave_of sh x o) w
      made d e (inl f) = absurd (d (free_n w i (f ∙ (used_less w i.1).1 e.0)))
      made d e (inr (inl f)) = let z = free_others sh x (leave_of sh x o) B.leave i.0 e.0 in
          omega (arith, e.1, f.1, z)
      made d e (inr (inr f)) = absurd (d (free_n w i f))

      -- whichever it is
      used : own sh n VertexUsed w ≢ 0 → Mark (own sh x VertexUsed w) (own sh n VertexUsed w)
          → own sh m VertexUsed w ≡ own sh n VertexUsed w - times (leave_of sh x o) w
      used d (inl e) = stays d e (B'.mark w i)
      used d (inr (inl e)) = made d e (B'.mark w i)
      used d (inr (inr e)) = absurd (d e)

  -- so the order does not matter
  pub after_marks : links_after sh x o ≡ more_starts sh o m
  unfolding links_after less_starts
  after_marks = ap (more_starts sh o) (reworded_same
      (less_two gn.fit (leave_of sh x o) (none_or_in sh x B.leave.0) (none_or_in sh x B.leave.1))
      (record { fit = gm.fit; else = aside; word = word_n }) (λ w i. refl))

  -- ---- once half-edges have come

  -- the links
  abbrev y : List ℕ
  y = links_after sh x o

  -- their words
  pub more : Reworded sh m y (λ w. own sh m VertexUsed w + times (come_of sh m o) w)
  unfolding more_starts
  more = subst (λ t. Reworded sh m t (λ w. own sh m VertexUsed w + times (come_of sh m o) w)) (sym after_marks)
      (more_two gm.fit (come_of sh m o) (none_or_in sh m B'.come.0) (none_or_in sh m B'.come.1) low_m)

  -- none comes to a free vertex
  pub free_come : (w : ℕ) → 1 ≤ w → own sh m VertexUsed w ≡ 0 → times (come_of sh m o) w ≡ 0
  free_come w l f = free_others sh m (come_of sh m o) B'.come l f

  -- the same vertices are in use
  used_more : SameUsed sh (own sh m) (own sh y)
  used_more zero u = (λ z. refl, λ z. refl)
  used_more (suc v) u =
      let i : In sh.vertices (suc v) = (omega arith, u) in (
        λ z. omega (arith, more.word (suc v) i, z),
        λ z. more.word (suc v) i ∙ omega (arith, z, free_come (suc v) i.0 z),
      )

  -- it is sound as well
  pub gy : Marked sh y q
  gy = marked_alike gm more.fit more.else used_more

  -- what comes and goes is balanced
  pub sums : (w : ℕ) → 1 ≤ w
      → starts_at sh m w + times (leave_of sh x o) w ≡ starts_at sh x w + times (come_of sh m o) w
  sums w l =
      let e : times (leave_of sh x' o) w ≡ times (leave_of sh x o) w = ap (λ t. times t w) F.leaves in
      omega (arith, e, B'.starts w l, starts_same sh x x' less.else w)

  -- THE WORDS ARE KEPT
  pub valence_kept : Valent sh y
  valence_kept w i d =
      let s = starts_same sh m y more.else w in
      ⊎_elim
      (λ e. split (own sh x VertexUsed w) 0
      (λ f. absurd (d (more.word w i ∙ (
      let z : own sh m VertexUsed w ≡ 0 = e ∙ less.word w i ∙ omega (arith, f) in
      omega (arith, z, free_come w i.0 z)
      ))))
      (λ n. omega (arith, s, e, more.word w i, less.word w i, g.valent w i n, few w i, sums w i.0)))
      (⊎_elim
      (λ e.
      let z = free_starts g' w i e.0 in
      let l = free_others sh x' (leave_of sh x' o) B'.leave i.0 e.0 in
      omega (arith, s, e.1, more.word w i, z, l, B'.starts w i.0))
      (λ e. absurd (d (more.word w i ∙ omega (arith, e, free_come w i.0 e)))))
      (B'.mark w i)

  -- but for words the links are what the steps leave
  pub links_else : SameElse sh (own sh (marks_after sh x o)) (own sh (links_after sh x o))
  links_else F t k i = more.else F t k i ∙ aside F t k i

  -- and the same vertices are in use
  pub links_used : (w : ℕ) → In sh.vertices w → (own sh (links_after sh x o) VertexUsed w ≡ 0
      → own sh (marks_after sh x o) VertexUsed w ≡ 0)
      × (own sh (marks_after sh x o) VertexUsed w ≡ 0 → own sh (links_after sh x o) VertexUsed w ≡ 0)
  links_used w i =
      (λ z. free_n w i ((used_more w i.1).0 z), λ z. (used_more w i.1).1 (free_m w i z))

  -- what shows the one shows the other, but for words
  pub links_shown : {d : Columns} → Shows sh (marks_after sh x o) d
      → Shows sh (links_after sh x o) (with_column d VertexUsed (own sh (links_after sh x o) VertexUsed))
  links_shown s = shows_worded s more.fit links_else

  -- the table stays good
  pub good_kept : Good sh (links_after sh x o) (points_after sh x p o)
  good_kept = subst (Good sh y) (points_too F p) (worded gy valence_kept)
