-- The twelve columns of a table's links, the capacities among them, as one family: what is said of a store to one
-- column is said once for all.
use Rattle.std.specs.Prelude.{◌≡◌, refl, Bool, true, false, ◌&&◌, ◌||◌, List, [], ◌∷◌, ℕ, zero, suc, ◌*◌, ◌<◌, eqb}
use Rattle.std.specs.Prelude.{length, get_or}
use Rattle.std.proofs.Common.{sym, ap, ◌∙◌, subst, ⊎_elim, arith, eqb→eq, lit≤}
use Rattle.laws.specs.Bools.{pick, true_T, and_T, ask}
use Rattle.laws.specs.Update.{upd}
use Rattle.laws.specs.Columns.{Kind, col, store, sweep}
use Rattle.layout.specs.declared.shape.Shape.{Shape}

-- the columns by their records: capacities; solid; face; loop; half-edge; vertex
pub data Field : Type 0 where
  Capacity SolidUsed Solid Outer Face First Isolated Start Loop Next Prev VertexUsed : Field

-- the six kinds of record, in their order in a table
abbrev pub capacity_kind : ℕ
capacity_kind = 0

abbrev pub solid_kind : ℕ
solid_kind = 1

abbrev pub face_kind : ℕ
face_kind = 2

abbrev pub loop_kind : ℕ
loop_kind = 3

abbrev pub half_kind : ℕ
half_kind = 4

abbrev pub vertex_kind : ℕ
vertex_kind = 5

-- THE TABLE OF FIELDS: of each kind of record its words, in order. How wide a record is, and so where every record of a
-- table stands, follows from it; `field_back` and `field_named` hold it to `group_of` and `word_of`, its other reading
abbrev pub records : List (List Field)
records =
    (Capacity ∷ [])
    ∷ (SolidUsed ∷ [])
    ∷ (Solid ∷ Outer ∷ [])
    ∷ (Face ∷ First ∷ Isolated ∷ [])
    ∷ (Start ∷ Loop ∷ Next ∷ Prev ∷ [])
    ∷ (VertexUsed ∷ [])
    ∷ []

-- which of the six kinds of record
abbrev pub group_of : Field → ℕ
group_of Capacity = capacity_kind
group_of SolidUsed = solid_kind
group_of Solid = face_kind
group_of Outer = face_kind
group_of Face = loop_kind
group_of First = loop_kind
group_of Isolated = loop_kind
group_of Start = half_kind
group_of Loop = half_kind
group_of Next = half_kind
group_of Prev = half_kind
group_of VertexUsed = vertex_kind

-- which word of the record
abbrev pub word_of : Field → ℕ
word_of Capacity = 0
word_of SolidUsed = 0
word_of Solid = 0
word_of Outer = 1
word_of Face = 0
word_of First = 1
word_of Isolated = 2
word_of Start = 0
word_of Loop = 1
word_of Next = 2
word_of Prev = 3
word_of VertexUsed = 0

-- how many words a record of kind g has
abbrev pub width_of : ℕ → ℕ
width_of g = length (get_or records g [])

-- how many capacities a table begins with: one of each kind of item
abbrev pub head : ℕ
head = 5

-- records of `width` words from `base` on; what a column reads does not depend on how many there are
abbrev pub kind : ℕ → ℕ → Kind
kind base width = record { base = base; width = width; count = 0 }

-- the kinds of record, one after the other
abbrev pub groups : Shape → List Kind
groups sh =
    record { base = 0; width = width_of capacity_kind; count = head }
    ∷ record { base = head; width = width_of solid_kind; count = sh.solids }
    ∷ record { base = sh.face0; width = width_of face_kind; count = sh.faces }
    ∷ record { base = sh.loop0; width = width_of loop_kind; count = sh.loops }
    ∷ record { base = sh.half0; width = width_of half_kind; count = 2 * sh.edges }
    ∷ record { base = sh.vertex0; width = width_of vertex_kind; count = sh.vertices }
    ∷ []

-- kind g; past the last there is none
abbrev pub group_at : Shape → ℕ → Kind
group_at sh g = get_or (groups sh) g (record { base = 0; width = 0; count = 0 })

-- word w of record n of kind g
abbrev pub cell : Shape → ℕ → ℕ → List ℕ → ℕ → ℕ
cell sh g w = col (group_at sh g) w

-- and v stored there
abbrev pub put_cell : Shape → ℕ → ℕ → List ℕ → ℕ → ℕ → List ℕ
put_cell sh g w = store (group_at sh g) w

-- how many records have the field
abbrev pub cap_of : Shape → Field → ℕ
cap_of sh F = (group_at sh (group_of F)).count

-- `column sh Next` is `next_of sh`, and so on for each getter and setter of `layout`
abbrev pub column : Shape → Field → List ℕ → ℕ → ℕ
column sh F = cell sh (group_of F) (word_of F)

abbrev pub put : Shape → Field → List ℕ → ℕ → ℕ → List ℕ
put sh F = put_cell sh (group_of F) (word_of F)

-- field F of the records 1 to n becomes g of the record's number and of what it was
abbrev pub sweep_field : Shape → Field → ℕ → (ℕ → ℕ → ℕ) → List ℕ → List ℕ
sweep_field sh F = sweep (group_at sh (group_of F)) (word_of F)

-- ---- the columns as functions

abbrev pub Columns : Type 0
Columns = Field → ℕ → ℕ

-- they are the same field
abbrev pub same_field : Field → Field → Bool
same_field F G = eqb (group_of F) (group_of G) && eqb (word_of F) (word_of G)

-- F of record k becomes v
abbrev pub change : Columns → Field → ℕ → ℕ → Columns
change c F k v G = pick (same_field F G) (upd (c G) k v) (c G)

-- ---- a field is known by its kind and its word

-- the fields by kind and word
abbrev pub field_at : ℕ → ℕ → Field
field_at g w = get_or (get_or records g []) w Capacity

-- the field at its own kind and word
pub field_back : (F : Field) → field_at (group_of F) (word_of F) ≡ F
field_back Capacity = refl
field_back SolidUsed = refl
field_back Solid = refl
field_back Outer = refl
field_back Face = refl
field_back First = refl
field_back Isolated = refl
field_back Start = refl
field_back Loop = refl
field_back Next = refl
field_back Prev = refl
field_back VertexUsed = refl

-- so kind and word tell fields apart
pub field_same : (F G : Field) → group_of F ≡ group_of G → word_of F ≡ word_of G → F ≡ G
field_same F G e f = sym (field_back F) ∙ ap (λ g. field_at g (word_of F)) e ∙ ap (field_at (group_of G)) f
    ∙ field_back G

-- a field lies in its record, and its kind is one of the six
pub field_in : (sh : Shape) (F : Field) → (word_of F < (group_at sh (group_of F)).width) × (group_of F < 6)
field_in sh Capacity = (lit≤ tt, lit≤ tt)
field_in sh SolidUsed = (lit≤ tt, lit≤ tt)
field_in sh Solid = (lit≤ tt, lit≤ tt)
field_in sh Outer = (lit≤ tt, lit≤ tt)
field_in sh Face = (lit≤ tt, lit≤ tt)
field_in sh First = (lit≤ tt, lit≤ tt)
field_in sh Isolated = (lit≤ tt, lit≤ tt)
field_in sh Start = (lit≤ tt, lit≤ tt)
field_in sh Loop = (lit≤ tt, lit≤ tt)
field_in sh Next = (lit≤ tt, lit≤ tt)
field_in sh Prev = (lit≤ tt, lit≤ tt)
field_in sh VertexUsed = (lit≤ tt, lit≤ tt)

-- every word of a record is a field
pub record Named (g w : ℕ) : Type 0 where
  pub field : Field
  pub group : group_of field ≡ g
  pub word : word_of field ≡ w

named : (F : Field) → Named (group_of F) (word_of F)
named F = record { field = F; group = refl; word = refl }

-- kind by kind
pub field_named : (sh : Shape) (g w : ℕ) → w < (group_at sh g).width → Named g w
field_named sh zero zero h = named Capacity
field_named sh zero (suc w) h = absurd (omega arith)
field_named sh (suc zero) zero h = named SolidUsed
field_named sh (suc zero) (suc w) h = absurd (omega arith)
field_named sh (suc (suc zero)) zero h = named Solid
field_named sh (suc (suc zero)) (suc zero) h = named Outer
field_named sh (suc (suc zero)) (suc (suc w)) h = absurd (omega arith)
field_named sh (suc (suc (suc zero))) zero h = named Face
field_named sh (suc (suc (suc zero))) (suc zero) h = named First
field_named sh (suc (suc (suc zero))) (suc (suc zero)) h = named Isolated
field_named sh (suc (suc (suc zero))) (suc (suc (suc w))) h = absurd (omega arith)
field_named sh (suc (suc (suc (suc zero)))) zero h = named Start
field_named sh (suc (suc (suc (suc zero)))) (suc zero) h = named Loop
field_named sh (suc (suc (suc (suc zero)))) (suc (suc zero)) h = named Next
field_named sh (suc (suc (suc (suc zero)))) (suc (suc (suc zero))) h = named Prev
field_named sh (suc (suc (suc (suc zero)))) (suc (suc (suc (suc w)))) h = absurd (omega arith)
field_named sh (suc (suc (suc (suc (suc zero))))) zero h = named VertexUsed
field_named sh (suc (suc (suc (suc (suc zero))))) (suc w) h = absurd (omega arith)
field_named sh (suc (suc (suc (suc (suc (suc g)))))) w h = absurd (omega arith)

-- ---- a statement about every field, said once: of some fields each by itself, of all others together

-- a field of the same kind and word is the same
pub same_field_lem : (F G : Field) → same_field F G ≡ true → F ≡ G
same_field_lem F G e =
    let t = and_T (eqb (group_of F) (group_of G)) (eqb (word_of F) (word_of G)) (true_T e) in
    field_same F G (eqb→eq (group_of F) (group_of G) t.0) (eqb→eq (word_of F) (word_of G) t.1)

-- F is one of the fields Fs
abbrev pub among : List Field → Field → Bool
among [] F = false
among (G ∷ Gs) F = same_field G F || among Gs F

-- P of each of the fields Fs
abbrev pub Each : (Field → Type 0) → List Field → Type 0
Each P [] = Unit {0}
Each P (F ∷ Fs) = P F × Each P Fs

-- P of every field: of Fs one by one, of the others at once. A new field is one of the others
pub by_fields : (Fs : List Field) (P : Field → Type 0) → Each P Fs → ((F : Field) → among Fs F ≡ false → P F)
    → (F : Field) → P F
by_fields Fs P each others F = go Fs each (others F)
  where
    go : (Gs : List Field) → Each P Gs → (among Gs F ≡ false → P F) → P F
    go [] each other = other refl
    go (G ∷ Gs) each other = ⊎_elim (λ e. subst P (same_field_lem G F e) each.0)
        (λ e. go Gs each.1 (λ q. other (ap (λ b. b || among Gs F) e ∙ q))) (ask (same_field G F))
