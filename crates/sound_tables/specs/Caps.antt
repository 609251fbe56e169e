-- How large the numbers are that an accepted operator on a sound table works with: none is above the capacity of its
-- kind. (0, no item, is always allowed here: a store to it does nothing.)
use Rattle.std.specs.Prelude.{◌≡◌, Bool, false, List, ℕ, zero, suc, ◌*◌, ◌≤◌, ◌<◌, eqb, leb, ℤ, pos, length, get_or}
use Rattle.std.proofs.Common.{arith}
use Rattle.laws.specs.Bools.{split, pick_ind}
use Rattle.laws.specs.Search.{least, Least, none_is, one_is, least_from_is}
use Rattle.bounds.specs.Bounds.{most_halves}
use Rattle.script.specs.declared.Operator.{Operator}
use Rattle.codec.specs.Operands.{coordinate, pattern}
use Rattle.script.specs.Operator.{operand_of}
use Rattle.layout.specs.declared.shape.Shape.{Shape}
use Rattle.layout.specs.Layout.{face_solid, face_outer, loop_face, loop_of}
use Rattle.euler.specs.Surgery.{item_of}
use Rattle.euler.specs.Exec.{limits, refusal_of}
use Rattle.layout.specs.Fields.{Field, Solid, Outer, Face, Start, Loop, Next}
use Rattle.sound_tables.specs.Sound.{In, Sound}
use Rattle.sound_tables.specs.Good.{own}
use Rattle.sound_tables.specs.Accepted.{by_place, limit_of, number_or_none}

-- the least that is sought among 1..n is at most n
pub least_cap : (n : ℕ) (p : ℕ → Bool) → least n p ≤ n
least_cap n p = go (least_from_is n 1 p)
  where
    go : Least n 1 p (least n p) → least n p ≤ n
    go (none_is z h) = omega arith
    go (one_is l u t h) = omega arith

-- ---- what a sound table names

module _ {sh : Shape} (x : List ℕ) {p : List ℤ} (a : Sound sh p (own sh x)) where
  -- a word that is at most m in the records 1 to n: record 0 reads 0
  by_records : (F : Field) (n m : ℕ) → ((k : ℕ) → In n k → own sh x F k ≤ m) → (k : ℕ) → k ≤ n → own sh x F k ≤ m
  by_records F n m f zero h = omega arith
  by_records F n m f (suc k) h = f (suc k) (omega arith, h)

  -- the loop of a half-edge
  pub loop_cap : (k : ℕ) → k ≤ 2 * sh.edges → loop_of sh x k ≤ sh.loops
  loop_cap = by_records Loop (2 * sh.edges) sh.loops (λ k i. split (own sh x Start k) 0
      (λ z. omega (arith, (a.half_free k i z).loop)) (λ u. (a.half k i u).loop_in.1))

  -- the face of a loop
  pub face_cap : (l : ℕ) → l ≤ sh.loops → loop_face sh x l ≤ sh.faces
  face_cap = by_records Face sh.loops sh.faces (λ l i. split (own sh x Face l) 0
      (λ z. omega (arith, z)) (λ u. (a.loop l i u).face_in_lem.1))

  -- the solid of a face
  pub solid_cap : (f : ℕ) → f ≤ sh.faces → face_solid sh x f ≤ sh.solids
  solid_cap = by_records Solid sh.faces sh.solids (λ f i. split (own sh x Solid f) 0
      (λ z. omega (arith, z)) (λ u. (a.face f i u).solid_in.1))

  -- the outer loop of a face
  pub outer_cap : (f : ℕ) → f ≤ sh.faces → face_outer sh x f ≤ sh.loops
  outer_cap = by_records Outer sh.faces sh.loops (λ f i. split (own sh x Solid f) 0
      (λ z. omega (arith, a.face_free f i z)) (λ u. (a.face f i u).outer_in.1))

  -- what comes after a half-edge
  pub next_cap : (k : ℕ) → k ≤ 2 * sh.edges → own sh x Next k ≤ 2 * sh.edges
  next_cap = by_records Next (2 * sh.edges) (2 * sh.edges) (λ k i. split (own sh x Start k) 0
      (λ z. omega (arith, (a.half_free k i z).next)) (λ u. (a.rules.loops.perm.f_in k (i.0, i.1, u)).1))

-- ---- what an accepted operator names

-- an operand of a kind whose largest is cap; it is not a coordinate
pub operand_cap : (sh : Shape) (x : List ℕ) (o : Operator) → length o.args ≡ 8 → refusal_of sh x o ≡ 0
    → (code i cap : ℕ) → o.code ≡ code → length (pattern code).kinds ≡ 8 → i < 8
    → eqb (get_or (pattern code).kinds i 0) coordinate ≡ false
    → limit_of (limits sh) (get_or (pattern code).kinds i 0) ≡ cap → cap ≤ most_halves → item_of o i ≤ cap
operand_cap sh x o len h code i cap e eight u c q m =
    let r = (by_place sh x o code len eight e h).range i u in
    let n = (number_or_none (limits sh) _ (get_or o.args i (pos 0)) c (omega (arith, q)) r).1 in
    pick_ind (λ k. k ≤ cap) (leb (operand_of o i) most_halves) (operand_of o i) 0 (omega (arith, q)) (omega arith)
