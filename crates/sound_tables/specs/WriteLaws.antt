-- Stores as data (`Writes` of crate layout): lists show columns, what is not written stays,
-- writes to other cells commute. Said once, for all operators and for any fields.
use Rattle.std.specs.Prelude.{◌≡◌, refl, ◌≢◌, ◌⊎◌, Bool, true, false, ◌&&◌, List, [], ◌∷◌, ℕ, ◌≤◌}
use Rattle.std.proofs.Common.{sym, ap, ◌∙◌, inl, inr, ⊎_elim}
use Rattle.std.proofs.lemmas.Bool.{false≢true}
use Rattle.laws.specs.Bools.{pick, ask, true_T, T_true, and_T}
use Rattle.laws.specs.Update.{upd, upd_off}
use Rattle.layout.specs.declared.shape.Shape.{Shape}
use Rattle.layout.specs.Fields.{Field, Columns, cap_of, change, same_field, same_field_lem, among}
use Rattle.layout.specs.Writes.{Write, writes, changes}
use Rattle.sound_tables.specs.Cells.{Shows, shows_put}

-- every item is one of its kind
abbrev pub Fits : Shape → List Write → Type 0
Fits sh [] = Unit {0}
Fits sh (w ∷ ws) = ((1 ≤ w.item) × (w.item ≤ cap_of sh w.field)) × Fits sh ws

-- lists show columns
pub shows_writes : {sh : Shape} (ws : List Write) {x : List ℕ} {c : Columns} → Shows sh x c → Fits sh ws
    → Shows sh (writes sh ws x) (changes ws c)
shows_writes [] s f = s
shows_writes (w ∷ ws) s f = shows_writes ws (shows_put s w.field w.item w.value f.0.0 f.0.1) f.1

-- no write to field F of item n
abbrev pub Apart : List Write → Field → ℕ → Type 0
Apart [] F n = Unit {0}
Apart (w ∷ ws) F n = ((same_field w.field F ≡ false) ⊎ (n ≢ w.item)) × Apart ws F n

-- a change elsewhere
change_off : (c : Columns) (G : Field) (k v : ℕ) (F : Field) (n : ℕ) → (same_field G F ≡ false) ⊎ (n ≢ k)
    → change c G k v F n ≡ c F n
change_off c G k v F n (inl e) = rw e
change_off c G k v F n (inr d) = go (same_field G F)
  where
    -- by whether the field is F
    go : (b : Bool) → pick b (upd (c F) k v) (c F) n ≡ c F n
    go true = upd_off (c F) v d
    go false = refl

-- the frame: what is not written stays
pub frame : (ws : List Write) (c : Columns) (F : Field) (n : ℕ) → Apart ws F n → changes ws c F n ≡ c F n
frame [] c F n a = refl
frame (w ∷ ws) c F n a =
    frame ws (change c w.field w.item w.value) F n a.1 ∙ change_off c w.field w.item w.value F n
    a.0

-- ---- whole fields that stay

-- of two fields one is among Fs, the other is not
pub among_off : (Fs : List Field) (G F : Field) → among Fs G ≡ true → among Fs F ≡ false → same_field G F ≡ false
among_off Fs G F a b = ⊎_elim
    (λ e. absurd (false≢true (sym b ∙ ap (among Fs) (sym (same_field_lem G F e)) ∙ a))) (λ e. e) (ask (same_field G F))

-- all writes are to the fields Fs
abbrev pub within : List Field → List Write → Bool
within Fs [] = true
within Fs (w ∷ ws) = among Fs w.field && within Fs ws

-- then the other fields stay
pub unwritten : (Fs : List Field) (ws : List Write) → within Fs ws ≡ true → (c : Columns) (F : Field)
    → among Fs F ≡ false → (n : ℕ) → changes ws c F n ≡ c F n
unwritten Fs [] o c F h n = refl
unwritten Fs (w ∷ ws) o c F h n =
    let t = and_T (among Fs w.field) (within Fs ws) (true_T o) in
    unwritten Fs ws (T_true t.1) _ F h n
    ∙ change_off c w.field w.item w.value F n (inl (among_off Fs w.field F (T_true t.0) h))

-- column f in place of that of field F
abbrev pub with_column : Columns → Field → (ℕ → ℕ) → Columns
with_column c F f G = pick (same_field F G) f (c G)

-- the other columns stay
pub column_off : (c : Columns) (G : Field) (f : ℕ → ℕ) (F : Field) → same_field G F ≡ false → (n : ℕ)
    → with_column c G f F n ≡ c F n
column_off c G f F e n = rw e

-- and so does a field that is none of Fs, where G is one
pub column_other : (Fs : List Field) (G : Field) → among Fs G ≡ true → (c : Columns) (f : ℕ → ℕ) (F : Field)
    → among Fs F ≡ false → (n : ℕ) → with_column c G f F n ≡ c F n
column_other Fs G a c f F h n = column_off c G f F (among_off Fs G F a h) n

-- ---- order

-- a change looks at its own entry alone
change_near : (c d : Columns) (G : Field) (k v : ℕ) (F : Field) (n : ℕ) → c F n ≡ d F n
    → change c G k v F n ≡ change d G k v F n
unfolding upd
change_near c d G k v F n e = go (same_field G F)
  where
    -- by whether the field is F
    go : (b : Bool) → pick b (upd (c F) k v) (c F) n ≡ pick b (upd (d F) k v) (d F) n
    go true = rw e
    go false = e

-- so does a list of them
pub near : (ws : List Write) (c d : Columns) (F : Field) (n : ℕ) → c F n ≡ d F n → changes ws c F n ≡ changes ws d F n
near [] c d F n e = e
near (w ∷ ws) c d F n e = near ws _ _ F n (change_near c d w.field w.item w.value F n e)

-- at each entry, one of the two lists writes nothing: then their order does not matter
pub commute : (ws vs : List Write) (c : Columns) → ((F : Field) (n : ℕ) → Apart ws F n ⊎ Apart vs F n)
    → (F : Field) (n : ℕ) → changes ws (changes vs c) F n ≡ changes vs (changes ws c) F n
commute ws vs c h F n = ⊎_elim
    (λ a. frame ws (changes vs c) F n a ∙ near vs c (changes ws c) F n (sym (frame ws c F n a)))
    (λ a. near ws (changes vs c) c F n (frame vs c F n a) ∙ sym (frame vs (changes ws c) F n a))
    (h F n)
