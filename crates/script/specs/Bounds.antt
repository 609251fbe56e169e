-- What the ranges come to: codes 1 to 13, coordinates -50,000 to 50,000, and each operand of an accepted operator in
-- its range.
use Rattle.std.specs.Prelude.{◌≡◌, refl, ℕ, zero, suc, ◌+◌, ◌*◌, ◌≤◌, ◌<◌, true, List, [], ◌∷◌, map, drop, ℤ, pos}
use Rattle.std.specs.Prelude.{negsuc, nat_abs, ltb, leb}
use Rattle.std.proofs.Common.{sym, ◌∙◌, ⊎_elim}
use native.Mathlib.Omega.{arith}
use Rattle.std.proofs.Math.ListN.{length, get_or}
use borrow.Author.Tests.{le-ltb, le-leb, lt-leb, ne_eqb, eq-eqb, ltb-true, leb-true}
use Rattle.laws.specs.Bools.{ask, allb, le?}
use Rattle.codec.specs.declared.Limits.{Limits}
use Rattle.codec.specs.declared.operands.Pattern.{Pattern}
use Rattle.codec.specs.Operands.{row, rows, pattern, coordinate, leasts, largests, in_range, in_ranges, zig, zag}
use Rattle.codec.specs.Operands.{last_code, unwire, unwires}
use Rattle.script.specs.Operator.{read_operator, operand_of}
use Rattle.codec.specs.SignedLaws.{zig_zag}
use Rattle.codec.specs.Ranges.{not_true, range_between, ranges_at, eight}
use Rattle.codec.specs.OperandTrip.{operands_length}
use Rattle.script.specs.Accepted.{accepted}

-- each number from 1 to the last code is a code
used_at : (ps : List Pattern) (d : Pattern) → allb (map (λ p. ltb 0 p.count) ps) ≡ true → (k : ℕ) → k < length ps
    → 0 < (get_or ps k d).count
used_at [] d a k h = absurd (omega arith)
used_at (p ∷ ps) d a zero h = ⊎_elim (λ t. ltb-true 0 p.count t) (λ t. not_true (rw t at a)) (ask (ltb 0 p.count))
used_at (p ∷ ps) d a (suc k) h = ⊎_elim (λ t. used_at ps d (rw t at a) k (omega arith)) (λ t. not_true (rw t at a))
    (ask (ltb 0 p.count))

pub is_code : (code : ℕ) → 1 ≤ code → code ≤ last_code → (pattern code).count ≡ 0 → ⊥
unfolding pattern rows
is_code zero h l e = omega arith
is_code (suc n) h l e = let b : 0 < (get_or (drop 1 rows) n (row [])).count =
    used_at (drop 1 rows) (row []) refl n (omega arith) in omega arith

-- a coordinate is in range when it is -50,000 to 50,000
pub coordinate_range : (lim : Limits) (z : ℤ) → in_range (largests lim) coordinate (zig z) ≡ leb (nat_abs z) 50000
unfolding in_range zig
coordinate_range lim (pos n) =
    rw (le-ltb (2 * n) 0 (omega arith))
    (⊎_elim (λ h. rw (le-leb n 50000 h, le-leb (2 * n) 100000 (omega arith)))
    (λ h. rw (lt-leb n 50000 h, lt-leb (2 * n) 100000 (omega arith))) (le? n 50000))
coordinate_range lim (negsuc n) =
    rw (le-ltb (2 * n + 1) 0 (omega arith))
    (⊎_elim
    (λ h. rw (le-leb (suc n) 50000 h, le-leb (2 * n + 1) 100000 (omega arith)))
    (λ h. rw (lt-leb (suc n) 50000 h, lt-leb (2 * n + 1) 100000 (omega arith)))
    (le? (suc n) 50000))

-- the operand at a place
unwires_at : (ks ns : List ℕ) → length ns ≡ length ks → (i : ℕ) → i < length ks → get_or (unwires ks ns) i (pos 0)
    ≡ unwire (get_or ks i 0) (get_or ns i 0)
unwires_at [] ns l i h = absurd (omega arith)
unwires_at (k ∷ ks) [] l i h = absurd (omega arith)
unwires_at (k ∷ ks) (n ∷ ns) l zero h = refl
unwires_at (k ∷ ks) (n ∷ ns) l (suc i) h = unwires_at ks ns (omega arith) i (omega arith)

module _ (lim : Limits) (s : List ℕ) (at : ℕ) (z : (read_operator lim s at).refusal ≡ 0) (i : ℕ) where
  abbrev kind : ℕ
  kind = get_or (pattern (read_operator lim s at).op.code).kinds i 0

  -- an operand of an accepted operator that is no coordinate, between the least and the largest of its kind
  pub read_operand_range : i < 8 → (kind ≡ coordinate → ⊥)
      → (get_or leasts kind 0 ≤ operand_of (read_operator lim s at).op i)
      × (operand_of (read_operator lim s at).op i ≤ get_or (largests lim) kind 0)
  unfolding unwire
  read_operand_range h c =
      let a = accepted lim s at z in
      let l = operands_length (pattern a.code).kinds s a.from a.numbers _ a.read in
      let k = eight a.code in
      let h' : i < length (pattern a.code).kinds = omega arith in
      let c' : get_or (pattern a.code).kinds i 0 ≡ coordinate → ⊥ = rw a.op_is at c in
      let r = ranges_at (largests lim) (pattern a.code).kinds a.numbers l a.ranges i h' in
      rw (
        a.op_is,
        unwires_at (pattern a.code).kinds a.numbers l i h',
        ne_eqb (get_or (pattern a.code).kinds i 0) coordinate c',
      )
      (range_between (largests lim) (get_or (pattern a.code).kinds i 0) (get_or a.numbers i 0) r)

  -- a coordinate
  pub read_coordinate_range : i < 8 → kind ≡ coordinate
      → nat_abs (get_or (read_operator lim s at).op.args i (pos 0)) ≤ 50000
  unfolding unwire
  read_coordinate_range h c =
      let a = accepted lim s at z in
      let l = operands_length (pattern a.code).kinds s a.from a.numbers _ a.read in
      let k = eight a.code in
      let h' : i < length (pattern a.code).kinds = omega arith in
      let c' : get_or (pattern a.code).kinds i 0 ≡ coordinate = rw a.op_is at c in
      let r = ranges_at (largests lim) (pattern a.code).kinds a.numbers l a.ranges i h' in
      rw (
        a.op_is,
        unwires_at (pattern a.code).kinds a.numbers l i h',
        eq-eqb (get_or (pattern a.code).kinds i 0) coordinate c',
      )
      (leb-true _ 50000 (sym (coordinate_range lim (zag (get_or a.numbers i 0)))
      ∙ rw (zig_zag (get_or a.numbers i 0)) (rw c' at r)))
