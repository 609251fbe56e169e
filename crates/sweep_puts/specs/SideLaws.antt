-- What the sides' code rests on.
use Rattle.std.specs.Prelude.{◌≡◌, refl, List, [], ◌∷◌, ℕ, suc, ◌+◌, ◌*◌, ◌-◌, ◌≤◌, ◌<◌, eqb, get_or, length}
use Rattle.std.proofs.Common.{sym, ap, ◌∙◌, subst, arith}
use Rattle.laws.specs.Bools.{pick, eqb_same, eqb_other}
use Rattle.script.specs.declared.Operator.{Operator}
use Rattle.script.specs.Operator.{operator_bytes}
use Rattle.layout.specs.Mate.{mate}
use Rattle.euler.specs.EdgeOperators.{mef_inverse}
use Rattle.chains.specs.Numbers.{Names}
use Rattle.chains.specs.Series.{series}
use Rattle.sweeps.specs.Sweep.{mef_at, side_at, only_side, sides_of}
use Rattle.sweep_puts.specs.Laid.{Laid, Undone, laid_next, laid_far, laid_length, laid_all}
use Rattle.sweep_puts.specs.RiserLaws.{mef_undone, mef_undone_2}

-- the first n of a list are small
pub record Low (list : List ℕ) (n : ℕ) : Type 0 where
  pub high : (j : ℕ) → j < n → get_or list j 0 ≤ 4096

-- the numbers that stand in lists
abbrev pub names_in : List ℕ → List ℕ → List ℕ → Names
names_in edges faces loops = record {
  edge = λ j. get_or edges j 0;
  vertex = λ j. 0;
  face = λ j. get_or faces j 0;
  loop = λ j. get_or loops j 0;
}

-- where side j ends
abbrev pub end_in : List ℕ → ℕ → ℕ → ℕ → ℕ
end_in edges z b j =
    pick (eqb j z) (2 * get_or edges (2 * b + suc z + 0) 0 - 1) (mate (2 * get_or edges (2 * b + suc j) 0 - 1))

pub end_last : (edges : List ℕ) (z b j e h : ℕ) → j ≡ z → e ≡ get_or edges (2 * b + (z + 1)) 0 → h ≡ 2 * e - 1
    → h ≡ end_in edges z b j
end_last edges z b j e h i q r =
    let n : 2 * b + (z + 1) ≡ 2 * b + suc z + 0 = omega arith in
    r ∙ rw (eqb_same i, q, n) refl

pub end_next : (edges : List ℕ) (z b j e h : ℕ) → (j ≡ z → ⊥) → e ≡ get_or edges (2 * b + (j + 1)) 0
    → h ≡ mate (2 * e - 1) → h ≡ end_in edges z b j
end_next edges z b j e h i q r =
    let n : 2 * b + (j + 1) ≡ 2 * b + suc j = omega arith in
    r ∙ rw (eqb_other i, q, n) refl

-- a side out of its parts
pub side_made : (edges faces loops : List ℕ) (l z b j a d t e f m : ℕ) (op : Operator) (out : List ℕ) (at room : ℕ)
    (out' : List ℕ) (at' room' : ℕ) → a ≡ get_or edges (2 * b + j) 0 → d ≡ mate (2 * a - 1) → t ≡ end_in edges z b j
    → e ≡ get_or edges (2 * b + (z + 1) + j) 0 → f ≡ get_or faces (b + j) 0 → m ≡ get_or loops (b + j) 0
    → op ≡ mef_at l d t e f m 0 → Laid (op ∷ []) out at room out' at' room'
    → Laid (side_at (names_in edges faces loops) l z b j ∷ []) out at room out' at' room'
side_made edges faces loops l z b j a d t e f m op out at room out' at' room' ea ed et ee ef em q h =
    let n : 2 * b + (z + 1) + j ≡ 2 * b + suc z + j = omega arith in
    let w : op ≡ side_at (names_in edges faces loops) l z b j = q ∙ rw (ed, ea, et, ee, ef, em, n) refl in
    subst (λ o. Laid (o ∷ []) out at room out' at' room') w h

pub only_made : (edges faces loops : List ℕ) (l z b a d e f m : ℕ) (op : Operator) (out : List ℕ) (at room : ℕ)
    (out' : List ℕ) (at' room' : ℕ) → a ≡ get_or edges (2 * b) 0 → d ≡ mate (2 * a - 1)
    → e ≡ get_or edges (2 * b + (z + 1)) 0 → f ≡ get_or faces b 0 → m ≡ get_or loops b 0
    → op ≡ mef_at l d d e f m 2 → Laid (op ∷ []) out at room out' at' room'
    → Laid (only_side (names_in edges faces loops) l z b ∷ []) out at room out' at' room'
only_made edges faces loops l z b a d e f m op out at room out' at' room' ea ed ee ef em q h =
    let n : 2 * b + (z + 1) ≡ 2 * b + suc z + 0 = omega arith in
    let i : 2 * b ≡ 2 * b + 0 = omega arith in
    let k : b ≡ b + 0 = omega arith in
    let w : op ≡ only_side (names_in edges faces loops) l z b =
    q ∙ rw (
      ed,
      ea ∙ ap (λ y. get_or edges y 0) i,
      ee ∙ ap (λ y. get_or edges y 0) n,
      ef ∙ ap (λ y. get_or faces y 0) k,
      em ∙ ap (λ y. get_or loops y 0) k,
    ) refl in
    subst (λ o. Laid (o ∷ []) out at room out' at' room') w h

pub side_undone : (l d t e f m : ℕ) (op : Operator) (n : ℕ) → e ≤ 4096 → op ≡ mef_at l d t e f m 0
    → n ≡ length (operator_bytes (mef_inverse (mate (2 * e - 1)))) → n ≤ 27 → Undone op n
side_undone l d t e f m op n h q r b = subst (λ o. Undone o n) (sym q) (mef_undone l d t e f m n h r b)

pub only_undone : (l d t e f m : ℕ) (op : Operator) (n : ℕ) → e ≤ 4096 → op ≡ mef_at l d t e f m 2
    → n ≡ length (operator_bytes (mef_inverse (mate (2 * e - 1)))) → n ≤ 27 → Undone op n
only_undone l d t e f m op n h q r b = subst (λ o. Undone o n) (sym q) (mef_undone_2 l d t e f m n h r b)

-- the loop's invariant: j sides are written
abbrev pub Siding : Names → ℕ → ℕ → ℕ → List ℕ → ℕ → ℕ → List ℕ → ℕ → ℕ → ℕ → Type 0
Siding N l z b out₀ at room out place sum j =
    (j ≤ suc z) × (place ≤ at + 27 * j) × (sum ≤ room + 27 * j) × (length out ≡ length out₀)
    × Laid (series 0 j (side_at N l z b)) out₀ at room out place sum

pub sides_turn : (N : Names) (l z b : ℕ) (out₀ : List ℕ) (at room : ℕ) (out : List ℕ) (place sum j : ℕ) (out' : List ℕ)
    (place' sum' : ℕ) → j ≤ z → Siding N l z b out₀ at room out place sum j
    → Laid (side_at N l z b j ∷ []) out place sum out' place' sum'
    → Siding N l z b out₀ at room out' place' sum' (j + 1)
sides_turn N l z b out₀ at room out place sum j out' place' sum' h i d =
    let g = laid_next (side_at N l z b) j i.4 d refl refl in
    let f = laid_far (side_at N l z b) (j + 1) g in
    (omega (arith, h), f.0, f.1, laid_length g, g)

pub sides_end : (N : Names) (l z b : ℕ) (out₀ : List ℕ) (at room : ℕ) (out : List ℕ) (place sum j : ℕ)
    → Siding N l z b out₀ at room out place sum j → z < j → Laid (series 0 (suc z) (side_at N l z b)) out₀ at room out
    place sum
sides_end N l z b out₀ at room out place sum j i h = laid_all (side_at N l z b) j (suc z) i.4 i.0
    (omega (arith, h))

-- which of the two
pub sides_one : (N : Names) (l z b : ℕ) (out₀ : List ℕ) (at room : ℕ) (out : List ℕ) (place sum : ℕ) → z ≡ 0
    → Laid (only_side N l z b ∷ []) out₀ at room out place sum → Laid (sides_of N l z b) out₀ at room out place sum
sides_one N l z b out₀ at room out place sum e h = rw (eqb_same e) h

pub sides_more : (N : Names) (l z b : ℕ) (out₀ : List ℕ) (at room : ℕ) (out : List ℕ) (place sum : ℕ) → (z ≡ 0 → ⊥)
    → Laid (series 0 (suc z) (side_at N l z b)) out₀ at room out place sum
    → Laid (sides_of N l z b) out₀ at room out place sum
sides_more N l z b out₀ at room out place sum e h = rw (eqb_other e) h
