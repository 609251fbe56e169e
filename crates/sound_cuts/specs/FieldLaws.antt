-- Columns, field by field: some taken from elsewhere, and how to see that a column changed by writes is another one.
-- All for any field, so that a new word of a record changes nothing here or in what is built on it.
use Rattle.std.specs.Prelude.{◌≡◌, refl, ◌≢◌, Bool, true, false, ◌&&◌, List, [], ◌∷◌, ℕ}
use Rattle.std.proofs.Common.{sym, ◌∙◌, subst}
use Rattle.laws.specs.Bools.{pick, split, true_T, and_T, T_true}
use Rattle.laws.specs.Update.{upd, upd_at, upd_off}
use Rattle.layout.specs.Fields.{Field, Start, Loop, Next, Prev, Columns, change, same_field, among}
use Rattle.layout.specs.Writes.{Write, changes}
use Rattle.sound_tables.specs.WriteLaws.{among_off}

-- ---- some columns taken from elsewhere

-- the fields of a half-edge
abbrev pub half_fields : List Field
half_fields = Start ∷ Loop ∷ Next ∷ Prev ∷ []

-- the columns Fs of d, all others of c
abbrev pub patch : List Field → Columns → Columns → Columns
patch Fs d c F = pick (among Fs F) (d F) (c F)

-- the others are c's
pub patch_other : (Fs : List Field) (d c : Columns) (F : Field) → among Fs F ≡ false → (n : ℕ)
    → patch Fs d c F n ≡ c F n
patch_other Fs d c F e n = rw e

-- ---- fields outside a list

-- each of Gs is one of Fs
abbrev pub inside : List Field → List Field → Bool
inside Fs [] = true
inside Fs (G ∷ Gs) = among Fs G && inside Fs Gs

-- then what is outside Fs is outside Gs
pub outside : (Fs Gs : List Field) → inside Fs Gs ≡ true → (F : Field) → among Fs F ≡ false → among Gs F ≡ false
outside Fs [] h F e = refl
outside Fs (G ∷ Gs) h F e =
    let t = and_T (among Fs G) (inside Fs Gs) (true_T h) in
    rw (among_off Fs G F (T_true t.0) e) (outside Fs Gs (T_true t.1) F e)

-- ---- a column changed by writes is f, where f has what is written last and elsewhere what stood there

-- A, if i is none of the items written in F
abbrev pub Else : Field → List Write → ℕ → Type 0 → Type 0
Else F [] i A = A
Else F (w ∷ ws) i A = pick (same_field w.field F) (i ≢ w.item → Else F ws i A) (Else F ws i A)

-- f has the values written to F, unless they are written over
abbrev pub Holds : Field → List Write → (ℕ → ℕ) → Type 0
Holds F [] f = Unit {0}
Holds F (w ∷ ws) f = pick (same_field w.field F) (Else F ws w.item (f w.item ≡ w.value) × Holds F ws f)
    (Holds F ws f)

-- what follows from A
else_map : (F : Field) (ws : List Write) (i : ℕ) {A B : Type 0} → (A → B) → Else F ws i A → Else F ws i B
else_map F [] i f x = f x
else_map F (w ∷ ws) i f x = by (same_field w.field F) (else_map F ws i f) x
  where
    -- written or not
    by : {A B : Type 0} (b : Bool) → (A → B) → pick b (i ≢ w.item → A) A → pick b (i ≢ w.item → B) B
    by true g x = λ d. g (x d)
    by false g x = g x

-- column F after the writes
pub settled : (F : Field) (ws : List Write) (c : Columns) (f : ℕ → ℕ) (i : ℕ) → Holds F ws f → Else F ws i (c F i ≡ f i)
    → changes ws c F i ≡ f i
settled F [] c f i h e = e
settled F (w ∷ ws) c f i h e =
    let r = by (same_field w.field F) h e in
    settled F ws (change c w.field w.item w.value) f i r.0 r.1
  where
    -- written or not
    by : (b : Bool) → pick b (Else F ws w.item (f w.item ≡ w.value) × Holds F ws f) (Holds F ws f)
        → pick b (i ≢ w.item → Else F ws i (c F i ≡ f i)) (Else F ws i (c F i ≡ f i))
        → Holds F ws f × Else F ws i (pick b (upd (c F) w.item w.value) (c F) i ≡ f i)
    by true h e = (
      h.1,
      split i w.item
          (λ z. else_map F ws i (λ x. upd_at (c F) w.value z ∙ sym x)
          (subst (λ j. Else F ws j (f j ≡ w.value)) (sym z) h.0))
          (λ z. else_map F ws i (λ x. upd_off (c F) w.value z ∙ x) (e z)),
    )
    by false h e = (h, e)
