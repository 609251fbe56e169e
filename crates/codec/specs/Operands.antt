-- The operands of each code: what kind of item each names, its range, and the number it travels as.
use Rattle.std.specs.Prelude.{ℕ, zero, suc, ◌+◌, ◌*◌, ◌/◌, ◌%◌, ◌<◌, Bool, true, false, List, [], ◌∷◌, length, get_or}
use Rattle.std.specs.Prelude.{ℤ, pos, negsuc, ltb, leb, eqb}
use Rattle.laws.specs.Bools.{pick}
use Rattle.bounds.specs.Bounds.{most_items}
use Rattle.codec.specs.declared.Limits.{Limits}
use Rattle.codec.specs.declared.operands.Pattern.{Pattern}

-- The kinds. Old: it must be in use (6); new: it must be free (7); `OrNone`: 0 names none.
-- no operand
abbrev pub unused : ℕ
unused = 0

-- s of kvsf
abbrev pub old_solid : ℕ
old_solid = 1

-- s of mvsf
abbrev pub new_solid : ℕ
new_solid = 2

-- s of mfkrh
abbrev pub new_solid_or_none : ℕ
new_solid_or_none = 3

-- f1, f2; f of rmov
abbrev pub old_face : ℕ
old_face = 4

-- f of mvsf, mef, mfkrh
abbrev pub new_face : ℕ
new_face = 5

-- l, and l2 of mekr
abbrev pub old_loop : ℕ
old_loop = 6

-- l of mvsf, l2 of mef and kemr
abbrev pub new_loop : ℕ
new_loop = 7

-- e
abbrev pub new_edge : ℕ
new_edge = 8

-- k
abbrev pub old_half : ℕ
old_half = 9

-- h, h1, h2 of a corner
abbrev pub old_half_or_none : ℕ
old_half_or_none = 10

-- v
abbrev pub new_vertex : ℕ
new_vertex = 11

-- w, at most 1
abbrev pub way : ℕ
way = 12

-- w of mef, at most 3
abbrev pub way_of_mef : ℕ
way_of_mef = 13

-- x, y, z
abbrev pub coordinate : ℕ
coordinate = 14

-- a list of at most n kinds, made n long by `unused`
abbrev pub padded : ℕ → List ℕ → List ℕ
padded zero ks = []
padded (suc n) [] = unused ∷ padded n []
padded (suc n) (k ∷ ks) = k ∷ padded n ks

-- how many operands, and the eight kinds
abbrev pub row : List ℕ → Pattern
row ks = record { count = length ks; kinds = padded 8 ks }

-- the last code (document 01: codes are 1 to 13)
abbrev pub last_code : ℕ
last_code = 13

-- the operands of the codes in order from 0, which is no code
unfoldable pub rows : List Pattern
rows =
    row []
    ∷ row (new_solid ∷ new_face ∷ new_loop ∷ new_vertex ∷ coordinate ∷ coordinate ∷ coordinate ∷ [])
    ∷ row (old_solid ∷ [])
    ∷ row (old_loop ∷ old_half_or_none ∷ new_edge ∷ new_vertex ∷ way ∷ coordinate ∷ coordinate ∷ coordinate ∷ [])
    ∷ row (old_half ∷ [])
    ∷ row (old_loop ∷ old_half_or_none ∷ old_half_or_none ∷ new_edge ∷ new_face ∷ new_loop ∷ way_of_mef ∷ [])
    ∷ row (old_half ∷ [])
    ∷ row (old_half ∷ new_loop ∷ [])
    ∷ row (old_loop ∷ old_half_or_none ∷ old_loop ∷ old_half_or_none ∷ new_edge ∷ way ∷ [])
    ∷ row (old_face ∷ old_face ∷ [])
    ∷ row (old_loop ∷ new_face ∷ new_solid_or_none ∷ [])
    ∷ row (old_half ∷ new_edge ∷ new_vertex ∷ way ∷ coordinate ∷ coordinate ∷ coordinate ∷ [])
    ∷ row (old_half ∷ [])
    ∷ row (old_loop ∷ old_face ∷ [])
    ∷ []

-- the operands of a code; none where it is no code
unfoldable pub pattern : ℕ → Pattern
unfolding rows
pattern code = get_or rows code (row [])

-- the first n kinds are of operands, those behind them are unused
unfoldable pub filled : ℕ → List ℕ → Bool
filled zero [] = true
filled zero (k ∷ ks) = pick (eqb k unused) (filled zero ks) false
filled (suc n) [] = false
filled (suc n) (k ∷ ks) = pick (eqb k unused) false (filled n ks)

-- the least number of each kind, the kinds in order: 0 where 0 is allowed
abbrev pub leasts : List ℕ
leasts = 0 ∷ 1 ∷ 1 ∷ 0 ∷ 1 ∷ 1 ∷ 1 ∷ 1 ∷ 1 ∷ 1 ∷ 0 ∷ 1 ∷ 0 ∷ 0 ∷ 0 ∷ []

-- the largest of each kind, the kinds in order; coordinates, -50,000 to 50,000, travel as 0 to 100,000
abbrev pub largests : Limits → List ℕ
largests lim =
    0 ∷ lim.solids ∷ lim.solids ∷ lim.solids ∷ lim.faces ∷ lim.faces ∷ lim.loops ∷ lim.loops ∷ lim.edges
    ∷ (2 * lim.edges) ∷ (2 * lim.edges) ∷ lim.vertices ∷ 1 ∷ 3 ∷ 100000 ∷ []

-- the limits of an operator that is read or written without a table
abbrev pub widest : Limits
widest = record {
  solids = most_items;
  faces = most_items;
  loops = most_items;
  edges = most_items;
  vertices = most_items;
}

-- is the number n, as it travels, in range (5); `most` has the largest of each kind
-- (of a number that is no kind, as of `unused`, only 0)
unfoldable pub in_range : List ℕ → ℕ → ℕ → Bool
in_range most kind n = pick (ltb n (get_or leasts kind 0)) false (leb n (get_or most kind 0))

unfoldable pub in_ranges : List ℕ → List ℕ → List ℕ → Bool
in_ranges most [] ns = true
in_ranges most (k ∷ ks) [] = true
in_ranges most (k ∷ ks) (n ∷ ns) = pick (in_range most k n) (in_ranges most ks ns) false

-- a coordinate c travels as 2c when c ≥ 0, as -2c - 1 when negative; negsuc n is -n - 1
unfoldable pub zig : ℤ → ℕ
zig (pos n) = 2 * n
zig (negsuc n) = 2 * n + 1

-- and back
unfoldable pub zag : ℕ → ℤ
zag n = pick (eqb (n % 2) 1) (negsuc (n / 2)) (pos (n / 2))

-- past every range: what stands for a negative number where there can be none
abbrev pub none : ℕ
none = 2097152

-- a number that is no coordinate travels as itself
abbrev pub plain : ℤ → ℕ
plain (pos n) = n
plain (negsuc n) = none

-- an operand of the record, as it travels
unfoldable pub wire : ℕ → ℤ → ℕ
wire kind a = pick (eqb kind coordinate) (zig a) (plain a)

-- a number that travelled, as the record has it
unfoldable pub unwire : ℕ → ℕ → ℤ
unwire kind n = pick (eqb kind coordinate) (zag n) (pos n)

-- a function of a kind and an operand, at each place
abbrev pub each {ℓ ℓ'} : {A : Type ℓ} {B : Type ℓ'} → (ℕ → A → B) → List ℕ → List A → List B
each f [] xs = []
each f (k ∷ ks) [] = []
each f (k ∷ ks) (x ∷ xs) = f k x ∷ each f ks xs

abbrev pub wires : List ℕ → List ℤ → List ℕ
wires = each wire

abbrev pub unwires : List ℕ → List ℕ → List ℤ
unwires = each unwire

-- each fits three groups
pub record Small (ns : List ℕ) : Type 0 where
  pub at : (i : ℕ) → get_or ns i 0 < 2097152
