-- Every operand of an accepted operator is within its range: a number within the table's capacity, so that the item it
-- names is a record of the table, and a coordinate within −50,000 to 50,000.
use Rattle.std.specs.Prelude.{◌≡◌, refl, true, false, List, ℕ, zero, suc, ◌≤◌, ◌<◌, T, eqb, ℤ, pos, negsuc, length}
use Rattle.std.specs.Prelude.{get_or}
use Rattle.std.proofs.Common.{sym, subst, arith, eqb→eq, lit≤, le-leb}
use Rattle.std.proofs.lemmas.Bool.{false≢true}
use Rattle.laws.specs.Bools.{true_T}
use Rattle.bounds.specs.Bounds.{most_halves}
use Rattle.codec.specs.declared.Limits.{Limits}
use Rattle.script.specs.declared.Operator.{Operator}
use Rattle.codec.specs.Operands.{coordinate, pattern, leasts, largests, widest, in_range, wire}
use Rattle.script.specs.Operator.{nat_of, operand_of}
use Rattle.codec.specs.Ranges.{range_between, within_largest, eight}
use Rattle.layout.specs.declared.shape.Shape.{Shape}
use Rattle.layout.specs.Points.{range_test}
use Rattle.euler.specs.Surgery.{item_of}
use Rattle.euler.specs.Exec.{limits, refusal_of}
use Rattle.sound_tables.specs.Accepted.{by_place, limit_of, coordinate_range}
use Rattle.sound_tables.specs.Good.{Good}
use Rattle.promises.specs.Checked.{good_within}

-- the kind of operand i
abbrev pub kind_at : Operator → ℕ → ℕ
kind_at o i = get_or (pattern o.code).kinds i 0

-- the operand as it stands in the record
abbrev pub argument_at : Operator → ℕ → ℤ
argument_at o i = get_or o.args i (pos 0)

-- an operand that is no coordinate: not negative, between the least and the largest of its kind, and read as the item
-- that it names
pub record ItemInRange (sh : Shape) (o : Operator) (i : ℕ) : Type 0 where
  pub is : argument_at o i ≡ pos (operand_of o i)
  pub low : get_or leasts (kind_at o i) 0 ≤ operand_of o i
  pub high : operand_of o i ≤ limit_of (limits sh) (kind_at o i)
  pub item : item_of o i ≡ operand_of o i

-- an operand
pub record OperandInRange (sh : Shape) (o : Operator) (i : ℕ) : Type 0 where
  pub item : eqb (kind_at o i) coordinate ≡ false → ItemInRange sh o i
  pub point : eqb (kind_at o i) coordinate ≡ true → T (range_test (argument_at o i))

-- but for coordinates no range goes beyond 8,192
largest_small : (k : ℕ) → eqb k coordinate ≡ false → get_or (largests widest) k 0 ≤ most_halves
largest_small zero e = lit≤ tt
largest_small (suc zero) e = lit≤ tt
largest_small (suc (suc zero)) e = lit≤ tt
largest_small (suc (suc (suc zero))) e = lit≤ tt
largest_small (suc (suc (suc (suc zero)))) e = lit≤ tt
largest_small (suc (suc (suc (suc (suc zero))))) e = lit≤ tt
largest_small (suc (suc (suc (suc (suc (suc zero)))))) e = lit≤ tt
largest_small (suc (suc (suc (suc (suc (suc (suc zero))))))) e = lit≤ tt
largest_small (suc (suc (suc (suc (suc (suc (suc (suc zero)))))))) e = lit≤ tt
largest_small (suc (suc (suc (suc (suc (suc (suc (suc (suc zero))))))))) e = lit≤ tt
largest_small (suc (suc (suc (suc (suc (suc (suc (suc (suc (suc zero)))))))))) e = lit≤ tt
largest_small (suc (suc (suc (suc (suc (suc (suc (suc (suc (suc (suc zero))))))))))) e = lit≤ tt
largest_small (suc (suc (suc (suc (suc (suc (suc (suc (suc (suc (suc (suc zero)))))))))))) e = lit≤ tt
largest_small (suc (suc (suc (suc (suc (suc (suc (suc (suc (suc (suc (suc (suc zero))))))))))))) e = lit≤ tt
largest_small (suc (suc (suc (suc (suc (suc (suc (suc (suc (suc (suc (suc (suc (suc zero)))))))))))))) e =
    absurd (false≢true (sym e))
largest_small (suc (suc (suc (suc (suc (suc (suc (suc (suc (suc (suc (suc (suc (suc (suc k))))))))))))))) e = lit≤ tt

-- a number in range, as it stands in the record
plain_range : (lim : Limits) (kind : ℕ) (a : ℤ) → eqb kind coordinate ≡ false → limit_of lim kind ≤ most_halves
    → in_range (largests lim) kind (wire kind a) ≡ true
    → (a ≡ pos (nat_of a)) × (get_or leasts kind 0 ≤ nat_of a) × (nat_of a ≤ limit_of lim kind)
unfolding wire
plain_range lim kind (pos n) c s h = let r = range_between (largests lim) kind n (rw c at h) in (refl, r.0, r.1)
plain_range lim kind (negsuc n) c s h = let r = range_between (largests lim) kind 2097152 (rw c at h) in
    absurd (omega (arith, s, r.1))

pub operands_in_range : {sh : Shape} {x : List ℕ} {p : List ℤ} → Good sh x p → (o : Operator) → length o.args ≡ 8
    → refusal_of sh x o ≡ 0
    → (i : ℕ) → i < 8 → OperandInRange sh o i
operands_in_range {sh} {x} g o len h i l =
    let r = (by_place sh x o o.code len (eight o.code) refl h).range i l in
    record {
      item = λ c.
          let s = largest_small (kind_at o i) c in
          let w = within_largest (limits sh) (good_within g) (kind_at o i) in
          let n = plain_range (limits sh) (kind_at o i) (argument_at o i) c (omega (arith, s, w)) r in
          record {
            is = n.0;
            low = n.1;
            high = n.2;
            item =
                rw (le-leb (operand_of o i) most_halves (omega (arith, s, w, n.2)));
          };
      point = λ c.
          let e = eqb→eq (kind_at o i) coordinate (true_T c) in
          coordinate_range (limits sh) (argument_at o i)
          (subst (λ k. in_range (largests (limits sh)) k (wire k (argument_at o i)) ≡ true) e r);
    }
