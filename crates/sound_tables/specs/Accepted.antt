-- What it says that an operator is accepted: its operands are in range, old items in use, new numbers free, and its
-- condition holds.
use Rattle.std.proofs.Math.Path.{◌≡◌}
use Rattle.std.specs.Prelude.{refl, ◌≢◌, Bool, true, false, ◌&&◌, List, [], ◌∷◌, ℕ, zero, suc, ◌+◌, ◌*◌, ◌≤◌, ◌<◌, T}
use Rattle.std.specs.Prelude.{eqb, leb, ℤ, pos, negsuc, length, get_or, replicate}
use Rattle.std.proofs.Common.{sym, ap, ◌∙◌, subst, add-zero, zero-add, eqb→eq, leb→le, le→leb, ext_get_or, le-leb}
use Rattle.std.proofs.lemmas.Bool.{false≢true}
use native.Mathlib.Omega.{arith}
use Rattle.laws.specs.Bools.{pick, split, true_T, eqb_same, eqb_other}
use Rattle.bounds.specs.Bounds.{most_halves}
use Rattle.codec.specs.declared.Limits.{Limits}
use Rattle.script.specs.declared.Operator.{Operator}
use Rattle.codec.specs.Operands.{unused, coordinate, pattern, leasts, largests, in_range, in_ranges, zig, wire, wires}
use Rattle.codec.specs.Operands.{last_code}
use Rattle.codec.specs.OperandLaws.{NoneOf, pattern_none}
use Rattle.codec.specs.Ranges.{range_between, between_range}
use Rattle.script.specs.Operator.{nat_of, operand_of, numbers_of}
use Rattle.layout.specs.declared.shape.Shape.{Shape}
use Rattle.layout.specs.Points.{range_test}
use Rattle.euler.specs.Surgery.{item_of}
use Rattle.euler.specs.Exec.{limits, admit_of, range_refusal, use_word, when_free, when_used, use_refusal, use_refusals}
use Rattle.euler.specs.Exec.{condition, refusal_of}
use Rattle.sound_tables.specs.Sound.{In}

-- ---- the refusals, one after the other

-- of two refusals, one behind the other, neither stands
pub first_zero : (a r : ℕ) → pick (eqb a 0) r a ≡ 0 → (a ≡ 0) × (r ≡ 0)
first_zero a r h = split a 0 (λ e. (e, rw (eqb_same e) at h)) (λ f. absurd (f (rw (eqb_other f) at h)))

-- a refusal behind a test that must fail
pick_no : (b : Bool) (n r : ℕ) → pick b (suc n) r ≡ 0 → (b ≡ false) × (r ≡ 0)
pick_no true n r h = absurd (omega arith)
pick_no false n r h = (refl, h)

-- and behind one that must pass
pick_yes : (b : Bool) (n r : ℕ) → pick b r (suc n) ≡ 0 → (b ≡ true) × (r ≡ 0)
pick_yes true n r h = (refl, h)
pick_yes false n r h = absurd (omega arith)

-- the five things that an acceptance says
pub record Accepted (sh : Shape) (x : List ℕ) (o : Operator) : Type 0 where
  pub code : eqb (pattern o.code).count 0 ≡ false
  pub count : eqb o.count (pattern o.code).count ≡ true
  pub range : in_ranges (largests (limits sh)) (pattern o.code).kinds (numbers_of o) ≡ true
  pub used : use_refusals sh x o (pattern o.code).kinds 0 ≡ 0
  pub holds : condition sh x o ≡ true

-- all from the refusal 0
pub accepted : (sh : Shape) (x : List ℕ) (o : Operator) → refusal_of sh x o ≡ 0 → Accepted sh x o
unfolding refusal_of admit_of range_refusal
accepted sh x o h =
    let r = first_zero (range_refusal sh o) _ h in
    let u = first_zero (use_refusals sh x o (pattern o.code).kinds 0) _ r.1 in
    let c = pick_yes (condition sh x o) 7 0 u.1 in
    let n = pick_no (eqb (pattern o.code).count 0) 3 _ r.0 in
    let m = pick_yes (eqb o.count (pattern o.code).count) 4 _ n.1 in
    let i = pick_yes (in_ranges (largests (limits sh)) (pattern o.code).kinds (numbers_of o)) 4 0 m.1 in
    record { code = n.0; count = m.0; range = i.0; used = u.0; holds = c.0 }

-- an accepted operator has one of the thirteen codes
pub no_other : (sh : Shape) (x : List ℕ) (o : Operator) → refusal_of sh x o ≡ 0 → NoneOf last_code o.code → ⊥
no_other sh x o h n =
    false≢true (sym (accepted sh x o h).code ∙ ap (λ q. eqb q.count 0) (sym (pattern_none o.code n)))

-- what holds of each of the thirteen codes holds of an accepted operator
pub by_thirteen : (sh : Shape) (x : List ℕ) (o : Operator) {Q : Type 0} → refusal_of sh x o ≡ 0
    → (o.code ≡ 1 → Q) → (o.code ≡ 2 → Q) → (o.code ≡ 3 → Q) → (o.code ≡ 4 → Q) → (o.code ≡ 5 → Q)
    → (o.code ≡ 6 → Q) → (o.code ≡ 7 → Q) → (o.code ≡ 8 → Q) → (o.code ≡ 9 → Q) → (o.code ≡ 10 → Q)
    → (o.code ≡ 11 → Q) → (o.code ≡ 12 → Q) → (o.code ≡ 13 → Q) → Q
by_thirteen sh x o h q1 q2 q3 q4 q5 q6 q7 q8 q9 q10 q11 q12 q13 =
    split o.code 1 q1 (λ d1.
    split o.code 2 q2 (λ d2.
    split o.code 3 q3 (λ d3.
    split o.code 4 q4 (λ d4.
    split o.code 5 q5 (λ d5.
    split o.code 6 q6 (λ d6.
    split o.code 7 q7 (λ d7.
    split o.code 8 q8 (λ d8.
    split o.code 9 q9 (λ d9.
    split o.code 10 q10 (λ d10.
    split o.code 11 q11 (λ d11.
    split o.code 12 q12 (λ d12.
    split o.code 13 q13 (λ d13.
    absurd (no_other sh x o h
    (((((((((((((tt, d1), d2), d3), d4), d5), d6), d7), d8), d9), d10), d11), d12), d13)))))))))))))))

-- and they are all it takes
pub accepted_back : (sh : Shape) (x : List ℕ) (o : Operator) → Accepted sh x o → refusal_of sh x o ≡ 0
unfolding refusal_of admit_of range_refusal
accepted_back sh x o a = rw (a.code, a.count, a.range, a.used, a.holds)

-- ---- operands by place

-- a number that a table can have is read as it stands
item_is : (o : Operator) (i : ℕ) → operand_of o i ≤ most_halves → item_of o i ≡ operand_of o i
item_is o i h = rw (le-leb (operand_of o i) most_halves h)

-- of two tests, one behind the other, both pass
both : (b c : Bool) → pick b c false ≡ true → (b ≡ true) × (c ≡ true)
both true c t = (refl, t)
both false c t = absurd (false≢true t)

-- each operand is in range
ranges_at : (lim : Limits) (ks : List ℕ) (zs : List ℤ) → length zs ≡ length ks
    → in_ranges (largests lim) ks (wires ks zs) ≡ true
    → (i : ℕ) → i < length ks
    → in_range (largests lim) (get_or ks i 0) (wire (get_or ks i 0) (get_or zs i (pos 0))) ≡ true
unfolding in_ranges
ranges_at lim [] zs e h i l = absurd (omega arith)
ranges_at lim (k ∷ ks) [] e h i l = absurd (omega arith)
ranges_at lim (k ∷ ks) (a ∷ zs) e h zero l = (both (in_range (largests lim) k (wire k a))
    (in_ranges (largests lim) ks (wires ks zs)) h).0
ranges_at lim (k ∷ ks) (a ∷ zs) e h (suc i) l = ranges_at lim ks zs (omega arith)
    (both (in_range (largests lim) k (wire k a)) (in_ranges (largests lim) ks (wires ks zs)) h).1 i (omega arith)

-- each operand names an item as it should
uses_at : (sh : Shape) (x : List ℕ) (o : Operator) (ks : List ℕ) (j : ℕ) → use_refusals sh x o ks j ≡ 0
    → (i : ℕ) → i < length ks → use_refusal sh x (get_or ks i 0) (item_of o (j + i)) ≡ 0
unfolding use_refusals
uses_at sh x o [] j h i l = absurd (omega arith)
uses_at sh x o (k ∷ ks) j h zero l = rw (add-zero j) (first_zero (use_refusal sh x k (item_of o j)) _ h).0
uses_at sh x o (k ∷ ks) j h (suc i) l =
    let e : j + suc i ≡ j + 1 + i = omega arith in
    rw e (uses_at sh x o ks (j + 1) (first_zero (use_refusal sh x k (item_of o j)) _ h).1 i (omega arith))

-- eight words of a list of eight
pub eight : (l : List ℤ) → length l ≡ 8
    → l ≡ get_or l 0 (pos 0) ∷ get_or l 1 (pos 0) ∷ get_or l 2 (pos 0) ∷ get_or l 3 (pos 0) ∷ get_or l 4 (pos 0)
    ∷ get_or l 5 (pos 0) ∷ get_or l 6 (pos 0) ∷ get_or l 7 (pos 0) ∷ []
eight l e = ext_get_or (pos 0) l _ e (λ i h. go i (omega (arith, h, e)))
  where
    -- place by place
    go : (i : ℕ) → i < 8
        → get_or l i (pos 0) ≡ get_or (get_or l 0 (pos 0) ∷ get_or l 1 (pos 0) ∷ get_or l 2 (pos 0) ∷ get_or l 3 (pos 0)
        ∷ get_or l 4 (pos 0) ∷ get_or l 5 (pos 0) ∷ get_or l 6 (pos 0) ∷ get_or l 7 (pos 0) ∷ []) i (pos 0)
    go zero h = refl
    go (suc zero) h = refl
    go (suc (suc zero)) h = refl
    go (suc (suc (suc zero))) h = refl
    go (suc (suc (suc (suc zero)))) h = refl
    go (suc (suc (suc (suc (suc zero))))) h = refl
    go (suc (suc (suc (suc (suc (suc zero)))))) h = refl
    go (suc (suc (suc (suc (suc (suc (suc zero))))))) h = refl
    go (suc (suc (suc (suc (suc (suc (suc (suc i)))))))) h = absurd (omega arith)

-- an unused operand is 0
pub no_operand : (lim : Limits) (a : ℤ) → in_range (largests lim) unused (wire unused a) ≡ true → a ≡ pos 0
unfolding wire
no_operand lim (pos n) h = let r = range_between (largests lim) unused n h in ap pos (omega (arith, r.1))
no_operand lim (negsuc n) h = let r = range_between (largests lim) unused 2097152 h in absurd (omega (arith, r.1))

-- an accepted operator of this code, operand by operand
pub record ByPlace (sh : Shape) (x : List ℕ) (o : Operator) (code : ℕ) : Type 0 where
  pub range : (i : ℕ) → i < 8 → in_range (largests (limits sh)) (get_or (pattern code).kinds i 0)
      (wire (get_or (pattern code).kinds i 0) (get_or o.args i (pos 0))) ≡ true
  pub used : (i : ℕ) → i < 8 → operand_of o i ≤ most_halves
      → use_refusal sh x (get_or (pattern code).kinds i 0) (operand_of o i) ≡ 0
  pub rest : (i : ℕ) → i < 8 → get_or (pattern code).kinds i 0 ≡ unused → get_or o.args i (pos 0) ≡ pos 0
  pub count : o.count ≡ (pattern code).count
  pub holds : condition sh x o ≡ true

-- from the refusal 0
pub by_place : (sh : Shape) (x : List ℕ) (o : Operator) (code : ℕ) → length o.args ≡ 8
    → length (pattern code).kinds ≡ 8 → o.code ≡ code → refusal_of sh x o ≡ 0 → ByPlace sh x o code
by_place sh x o code len all e h =
    let a = accepted sh x o h in
    let r : (i : ℕ) → i < 8 → in_range (largests (limits sh)) (get_or (pattern code).kinds i 0)
    (wire (get_or (pattern code).kinds i 0) (get_or o.args i (pos 0))) ≡ true = λ i l.
    ranges_at (limits sh) (pattern code).kinds o.args (len ∙ sym all)
    (subst (λ n. in_ranges (largests (limits sh)) (pattern n).kinds (wires (pattern n).kinds o.args) ≡ true) e
    a.range) i (omega (arith, l, all)) in
    record {
      range = r;
      rest = λ i l q. no_operand (limits sh) _
          (subst (λ k. in_range (largests (limits sh)) k (wire k (get_or o.args i (pos 0))) ≡ true) q (r i l));
      used = λ i l b. subst (λ n. use_refusal sh x (get_or (pattern code).kinds i 0) n ≡ 0) (item_is o i b)
          (subst (λ j. use_refusal sh x (get_or (pattern code).kinds i 0) (item_of o j) ≡ 0) (zero-add i)
          (uses_at sh x o (pattern code).kinds 0
          (subst (λ n. use_refusals sh x o (pattern n).kinds 0 ≡ 0) e a.used) i (omega (arith, l, all))));
      count = eqb→eq _ _ (true_T a.count) ∙ ap (λ n. (pattern n).count) e;
      holds = a.holds;
    }

-- and back, operand by operand
pub ranges_cons : (lim : Limits) (k : ℕ) (ks : List ℕ) (a : ℤ) (zs : List ℤ) → in_range (largests lim) k (wire k a)
    ≡ true → in_ranges (largests lim) ks (wires ks zs) ≡ true
    → in_ranges (largests lim) (k ∷ ks) (wires (k ∷ ks) (a ∷ zs)) ≡ true
unfolding in_ranges
ranges_cons lim k ks a zs h t = rw h t

-- the same for what the operands name
pub uses_cons : (sh : Shape) (x : List ℕ) (o : Operator) (k : ℕ) (ks : List ℕ) (j : ℕ)
    → use_refusal sh x k (item_of o j)
    ≡ 0 → use_refusals sh x o ks (j + 1) ≡ 0 → use_refusals sh x o (k ∷ ks) j ≡ 0
unfolding use_refusals
uses_cons sh x o k ks j h t = rw h t

-- of an operand that is the number of an item
pub item_cons : (sh : Shape) (x : List ℕ) (o : Operator) (k : ℕ) (ks : List ℕ) (j : ℕ) → operand_of o j ≤ most_halves
    → use_refusal sh x k (operand_of o j) ≡ 0 → use_refusals sh x o ks (j + 1) ≡ 0
    → use_refusals sh x o (k ∷ ks) j ≡ 0
item_cons sh x o k ks j b h t = uses_cons sh x o k ks j (subst (λ n. use_refusal sh x k n ≡ 0) (sym (item_is o j b)) h)
    t

-- ---- one operand

module _ (sh : Shape) (x : List ℕ) (kind n : ℕ) (s : n ≢ 0) where
  -- an old item is in use
  pub use_old : get_or when_free kind 0 ≡ 6 → use_refusal sh x kind n ≡ 0 → use_word sh x kind n ≢ 0
  unfolding use_refusal
  use_old a h z = let q : ◌≡◌ {A = ℕ} 6 0 = rw (eqb_other s, eqb_same z, a) at h in omega arith

  -- and that is enough
  pub old_use : get_or when_used kind 0 ≡ 0 → use_word sh x kind n ≢ 0 → use_refusal sh x kind n ≡ 0
  unfolding use_refusal
  old_use a w = rw (eqb_other s, eqb_other w, a)

  -- a new number is free
  pub use_new : get_or when_used kind 0 ≡ 7 → use_refusal sh x kind n ≡ 0 → use_word sh x kind n ≡ 0
  unfolding use_refusal
  use_new a h = split (use_word sh x kind n) 0 (λ e. e)
      (λ f. let q : ◌≡◌ {A = ℕ} 7 0 = rw (eqb_other s, eqb_other f, a) at h in absurd (omega arith))

  -- and that is enough
  pub new_use : get_or when_free kind 0 ≡ 0 → use_word sh x kind n ≡ 0 → use_refusal sh x kind n ≡ 0
  unfolding use_refusal
  new_use a e = rw (eqb_other s, eqb_same e, a)

-- an operand that names no item
pub use_none : (sh : Shape) (x : List ℕ) (kind n : ℕ) → get_or when_free kind 0 ≡ 0 → get_or when_used kind 0 ≡ 0
    → use_refusal sh x kind n ≡ 0
unfolding use_refusal
use_none sh x kind n a b = split n 0 (λ e. rw (eqb_same e))
    (λ f. split (use_word sh x kind n) 0 (λ e. rw (eqb_other f, eqb_same e, a)) (λ w. rw (eqb_other f, eqb_other w, b)))

-- the operand 0 names nothing
pub zero_use : (sh : Shape) (x : List ℕ) (kind : ℕ) → use_refusal sh x kind 0 ≡ 0
unfolding use_refusal
zero_use sh x kind = refl

-- the largest of a kind
abbrev pub limit_of : Limits → ℕ → ℕ
limit_of lim kind = get_or (largests lim) kind 0

-- a number in range, where 0 is not allowed
range_in : (lim : Limits) (kind n : ℕ) → get_or leasts kind 0 ≡ 1 → in_range (largests lim) kind n ≡ true
    → In (limit_of lim kind) n
range_in lim kind n z h = let r = range_between (largests lim) kind n h in (omega (arith, z, r.0), r.1)

-- and back, as it travels
pub in_range_lem : (lim : Limits) (kind n : ℕ) → eqb kind coordinate ≡ false → get_or leasts kind 0 ≡ 1
    → In (limit_of lim kind) n → in_range (largests lim) kind (wire kind (pos n)) ≡ true
unfolding wire
in_range_lem lim kind n c z i = rw c (between_range (largests lim) kind n (omega (arith, z, i.0)) i.1)

-- the same where 0 is allowed
pub in_range_or_none : (lim : Limits) (kind n : ℕ) → eqb kind coordinate ≡ false → get_or leasts kind 0 ≡ 0
    → n ≤ limit_of lim kind → in_range (largests lim) kind (wire kind (pos n)) ≡ true
unfolding wire
in_range_or_none lim kind n c z h = rw c (between_range (largests lim) kind n (omega (arith, z)) h)

-- an operand that is a number: it is not negative
pub record Number (cap : ℕ) (a : ℤ) : Type 0 where
  pub is : a ≡ pos (nat_of a)
  pub range : In cap (nat_of a)
  pub small : nat_of a ≤ most_halves

-- an operand in the range of its kind is one
pub number : (lim : Limits) (kind : ℕ) (a : ℤ) → eqb kind coordinate ≡ false → get_or leasts kind 0 ≡ 1
    → limit_of lim kind ≤ most_halves → in_range (largests lim) kind (wire kind a) ≡ true → Number (limit_of lim kind) a
unfolding wire
number lim kind (pos n) c z s h = let r = range_in lim kind n z (rw c at h) in
    record { is = refl; range = r; small = omega (arith, s, r.1) }
number lim kind (negsuc n) c z s h = let r = range_in lim kind 2097152 z (rw c at h) in absurd (omega (arith, s, r.1))

-- the same where 0 is allowed
pub number_or_none : (lim : Limits) (kind : ℕ) (a : ℤ) → eqb kind coordinate ≡ false → limit_of lim kind ≤ most_halves
    → in_range (largests lim) kind (wire kind a) ≡ true → (a ≡ pos (nat_of a)) × (nat_of a ≤ limit_of lim kind)
unfolding wire
number_or_none lim kind (pos n) c s h = (refl, (range_between (largests lim) kind n (rw c at h)).1)
number_or_none lim kind (negsuc n) c s h = let r = range_between (largests lim) kind 2097152 (rw c at h) in
    absurd (omega (arith, s, r.1))

-- a coordinate is in range
pub coordinate_range : (lim : Limits) (a : ℤ) → in_range (largests lim) coordinate (wire coordinate a) ≡ true
    → T (range_test a)
unfolding wire zig
coordinate_range lim (pos n) h = let r = range_between (largests lim) coordinate (2 * n) h in
    le→leb n 50000 (omega (arith, r.1))
coordinate_range lim (negsuc n) h = let r = range_between (largests lim) coordinate (2 * n + 1) h in
    tidy (leb n 49999) (le→leb n 49999 (omega (arith, r.1)))
  where
    -- a test and nothing more
    tidy : (b : Bool) → T b → T (b && true)
    tidy true t = tt
    tidy false t = t

-- and back
pub range_coordinate : (lim : Limits) (a : ℤ) → T (range_test a)
    → in_range (largests lim) coordinate (wire coordinate a)
    ≡ true
unfolding wire zig
range_coordinate lim (pos n) t = between_range (largests lim) coordinate (2 * n) (omega arith)
    (omega (arith, leb→le n 50000 t))
range_coordinate lim (negsuc n) t = between_range (largests lim) coordinate (2 * n + 1) (omega arith)
    (omega (arith, leb→le n 49999 (tidy (leb n 49999) t)))
  where
    -- a test and nothing more
    tidy : (b : Bool) → T (b && true) → T b
    tidy true t = tt
    tidy false t = t

-- three of them in a row
pub three_range : (lim : Limits) (ks : List ℕ) (zs : List ℤ) (a b c : ℤ) → T (range_test a) → T (range_test b)
    → T (range_test c) → in_ranges (largests lim) ks (wires ks zs) ≡ true
    → in_ranges (largests lim) (coordinate ∷ coordinate ∷ coordinate ∷ ks)
    (wires (coordinate ∷ coordinate ∷ coordinate ∷ ks) (a ∷ b ∷ c ∷ zs)) ≡ true
three_range lim ks zs a b c ha hb hc t = ranges_cons lim coordinate _ a (b ∷ c ∷ zs) (range_coordinate lim a ha)
    (ranges_cons lim coordinate _ b (c ∷ zs) (range_coordinate lim b hb)
    (ranges_cons lim coordinate ks c zs (range_coordinate lim c hc) t))

-- they name nothing
pub three_use : (sh : Shape) (x : List ℕ) (o : Operator) (ks : List ℕ) (j : ℕ) → use_refusals sh x o ks (j + 1 + 1 + 1)
    ≡ 0 → use_refusals sh x o (coordinate ∷ coordinate ∷ coordinate ∷ ks) j ≡ 0
three_use sh x o ks j t = uses_cons sh x o coordinate _ j (use_none sh x coordinate _ refl refl)
    (uses_cons sh x o coordinate _ (j + 1) (use_none sh x coordinate _ refl refl)
    (uses_cons sh x o coordinate ks (j + 1 + 1) (use_none sh x coordinate _ refl refl) t))

-- ---- operands that are not used

-- all are in range
pub unused_range : (lim : Limits) (n : ℕ) → in_ranges (largests lim) (replicate n unused)
    (wires (replicate n unused) (replicate n (pos 0))) ≡ true
unfolding in_ranges in_range wire
unused_range lim zero = refl
unused_range lim (suc n) = unused_range lim n

-- and name nothing
pub unused_use : (sh : Shape) (x : List ℕ) (o : Operator) (n j : ℕ) → use_refusals sh x o (replicate n unused) j ≡ 0
unfolding use_refusals
unused_use sh x o zero j = refl
unused_use sh x o (suc n) j = uses_cons sh x o unused (replicate n unused) j
    (use_none sh x unused (item_of o j) refl refl) (unused_use sh x o n (j + 1))
