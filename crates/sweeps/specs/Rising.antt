-- The mev half of a loop's sweep, over columns: corners k 0 .. k z of loop l, in the order of the loop, and risers
-- r 0 .. r z. After i mev, r j and its mate stand before k j for each j < i, and the corners from i on are as they
-- were.
use Rattle.std.specs.Prelude.{◌≡◌, refl, ◌≢◌, ℕ, zero, suc, ◌*◌, ◌≤◌, ◌<◌}
use Rattle.std.proofs.Common.{sym, ap, ◌∙◌, arith}
use Rattle.laws.specs.Bools.{split}
use Rattle.layout.specs.declared.shape.Shape.{Shape}
use Rattle.layout.specs.Mate.{mate}
use Rattle.layout.specs.Fields.{Start, Loop, Next, Prev, Columns}
use Rattle.sound_tables.specs.Sound.{In, HalfUsed}
use Rattle.sweeps.specs.Raised.{Raised}

-- half-edge i of loop l is followed by j
abbrev pub On : Shape → Columns → ℕ → ℕ → ℕ → Type 0
On sh c l i j = HalfUsed sh c i × (c Loop i ≡ l) × (c Next i ≡ j)

-- the corner before corner j, of z + 1
abbrev pub before : (ℕ → ℕ) → ℕ → ℕ → ℕ
before k z zero = k z
before k z (suc j) = k j

-- the corners are all different
abbrev pub Different : ℕ → (ℕ → ℕ) → Type 0
Different z k = (i j : ℕ) → i ≤ z → j ≤ z → k i ≡ k j → i ≡ j

-- after i mev
pub record Rising (sh : Shape) (c : Columns) (l z : ℕ) (k r : ℕ → ℕ) (i : ℕ) : Type 0 where
  pub used : (j : ℕ) → j ≤ z → HalfUsed sh c (k j)
  pub loop : (j : ℕ) → j ≤ z → c Loop (k j) ≡ l
  pub prev : (j : ℕ) → i ≤ j → j ≤ z → c Prev (k j) ≡ before k z j
  pub foot : (j : ℕ) → j < i → j ≤ z → c Next (before k z j) ≡ r j
  pub up : (j : ℕ) → j < i → j ≤ z → On sh c l (r j) (mate (r j))
  pub down : (j : ℕ) → j < i → j ≤ z → On sh c l (mate (r j)) (k j)

-- the one before is one of them
before_in : (P : ℕ → Type 0) (k : ℕ → ℕ) (z j : ℕ) → ((i : ℕ) → i ≤ z → P (k i)) → j ≤ z → P (before k z j)
before_in P k z zero h u = h z (omega arith)
before_in P k z (suc j) h u = h j (omega arith)

-- different corners have different ones before them
before_apart : (k : ℕ → ℕ) (z : ℕ) → Different z k → Different z (before k z)
before_apart k z f zero zero u v e = refl
before_apart k z f zero (suc j) u v e = absurd (omega (arith, f z j (omega arith) (omega arith) e))
before_apart k z f (suc i) zero u v e = absurd (omega (arith, f i z (omega arith) (omega arith) e))
before_apart k z f (suc i) (suc j) u v e = ap suc (f i j (omega arith) (omega arith) e)

module _ {sh : Shape} {c d : Columns} {l z i v : ℕ} {k r : ℕ → ℕ} (f : Different z k) (q : Rising sh c l z k r i)
    (iz : i ≤ z) (R : Raised sh c d l (k i) (r i) v) (kin : In (2 * sh.edges) (r i))
    (bin : In (2 * sh.edges) (mate (r i))) (kf : c Start (r i) ≡ 0) (bf : c Start (mate (r i)) ≡ 0) (v1 : v ≢ 0) where
  -- what is in use is not new
  off_k : (n : ℕ) → HalfUsed sh c n → n ≢ r i
  off_k n u e = u.2 (ap (c Start) e ∙ kf)

  -- nor its mate
  off_b : (n : ℕ) → HalfUsed sh c n → n ≢ mate (r i)
  off_b n u e = u.2 (ap (c Start) e ∙ bf)

  -- it stays in use
  used_on : (n : ℕ) → HalfUsed sh c n → HalfUsed sh d n
  used_on n u = (u.0, u.1, λ e. u.2 (sym (R.start_else n u.1 (off_k n u) (off_b n u)) ∙ e))

  -- in its loop
  loop_on : (n : ℕ) → HalfUsed sh c n → d Loop n ≡ c Loop n
  loop_on n u = R.loop_else n u.1 (off_k n u) (off_b n u)

  -- what does not stand before k i is followed as it was
  next_on : (n : ℕ) → HalfUsed sh c n → n ≢ before k z i → d Next n ≡ c Next n
  next_on n u e = R.next_else n u.1 (λ y. e (y ∙ q.prev i (omega arith) iz)) (off_k n u) (off_b n u)

  -- a half-edge that does not stand there stays on
  on_on : (n m : ℕ) → On sh c l n m → n ≢ before k z i → On sh d l n m
  on_on n m o e = (used_on n o.0, loop_on n o.0 ∙ o.1, next_on n o.0 e ∙ o.2)

  -- a riser does not stand before k i: its mate follows, which is in use
  before_used : (j : ℕ) → j ≤ z → HalfUsed sh c (before k z j)
  before_used j u = before_in (HalfUsed sh c) k z j q.used u

  -- ONE MEV MORE
  pub rising_more : ((j m : ℕ) → j ≤ z → m ≤ z → r j ≢ k m) → ((j m : ℕ) → j ≤ z → m ≤ z → mate (r j) ≢ k m)
      → Rising sh d l z k r (suc i)
  rising_more rk mk = record {
    used = λ j u. used_on (k j) (q.used j u);
    loop = λ j u. loop_on (k j) (q.used j u) ∙ q.loop j u;
    prev = λ j h u.
        let n : k j ≢ k i = λ e. omega (arith, f j i u iz e) in
        let w = q.used j u in
        R.prev_else (k j) w.1 n (off_k (k j) w) (off_b (k j) w) ∙ q.prev j (omega arith) u;
    foot = λ j h u. split j i
        (λ e. rw e (ap (d Next) (sym (q.prev i (omega arith) iz)) ∙ R.next_P))
        (λ e. next_on (before k z j) (before_used j u) (λ y. e (before_apart k z f j i u iz y)) ∙ q.foot j (omega
        arith) u);
    up = λ j h u. split j i
        (λ e. rw e ((kin.0, kin.1, λ y. (q.used i iz).2 (sym R.start_k ∙ y)), R.loop_k, R.next_k))
        (λ e. on_on (r j) (mate (r j)) (q.up j (omega arith) u)
        (λ y. before_in (λ n. r j ≢ n) k z i (λ m w. rk j m u w) iz y));
    down = λ j h u. split j i
        (λ e. rw e ((bin.0, bin.1, λ y. v1 (sym R.start_b ∙ y)), R.loop_b, R.next_b))
        (λ e. on_on (mate (r j)) (k j) (q.down j (omega arith) u)
        (λ y. before_in (λ n. mate (r j) ≢ n) k z i (λ m w. mk j m u w) iz y));
  }
