-- Stores that give columns back: where every store that no later one covers writes the word that the columns c had, and
-- what no store names is as in c, the columns afterwards are c.
use Rattle.std.specs.Prelude.{◌≡◌, ◌≢◌, ◌⊎◌, true, false, List, [], ◌∷◌, ℕ, zero, suc}
use Rattle.std.proofs.Common.{sym, ◌∙◌, subst, inl, inr, ⊎_elim}
use Rattle.std.proofs.lemmas.Bool.{false≢true}
use Rattle.laws.specs.Bools.{ask, split}
use Rattle.laws.specs.Update.{upd_at}
use Rattle.layout.specs.Fields.{Field, Columns, change, same_field, same_field_lem}
use Rattle.layout.specs.Writes.{Write, changes}
use Rattle.sound_tables.specs.WriteLaws.{Apart, frame}

-- write w is not to field F of item n
abbrev pub Miss : Write → Field → ℕ → Type 0
Miss w F n = (same_field w.field F ≡ false) ⊎ (n ≢ w.item)

-- nor is write i of a list
abbrev pub MissAt : List Write → ℕ → Field → ℕ → Type 0
MissAt [] i F n = Unit {0}
MissAt (w ∷ ws) zero F n = Miss w F n
MissAt (w ∷ ws) (suc i) F n = MissAt ws i F n

-- none of a list is: `h i` says so of write i
abbrev pub Misses : List Write → Field → ℕ → Type 0
Misses ws F n = (i : ℕ) → MissAt ws i F n

-- one write more
more : (w : Write) (ws : List Write) (F : Field) (n : ℕ) → Miss w F n → Misses ws F n → Misses (w ∷ ws) F n
more w ws F n m h zero = m
more w ws F n m h (suc i) = h i

-- a write to the same field is to another item
pub other_item : {n k : ℕ} → (true ≡ false) ⊎ (n ≢ k) → n ≢ k
other_item = ⊎_elim (λ z. absurd (false≢true (sym z))) (λ d. d)

-- every write that no later one covers is of the word of c
abbrev pub Restores : Columns → List Write → Type 0
Restores c [] = Unit {0}
Restores c (w ∷ ws) = (Misses ws w.field w.item → w.value ≡ c w.field w.item) × Restores c ws

-- the columns e, as in c where no write is to, become c
pub restored : (ws : List Write) (c e : Columns) → Restores c ws → (F : Field) (n : ℕ)
    → (Misses ws F n → e F n ≡ c F n) → changes ws e F n ≡ c F n
restored [] c e r F n h = h (λ i. tt)
restored (w ∷ ws) c e r F n h =
    restored ws c (change e w.field w.item w.value) r.1 F n (λ m. first m (ask (same_field w.field F)))
  where
    -- elsewhere nothing has changed
    away : Misses ws F n → Miss w F n → change e w.field w.item w.value F n ≡ c F n
    away m a = frame (w ∷ []) e F n (a, tt) ∙ h (more w ws F n a m)

    -- the word that w writes
    here : Misses ws F n → same_field w.field F ≡ true → n ≡ w.item → w.value ≡ c F n
    here m s q = subst (λ i. Misses ws F i → w.value ≡ c F i) (sym q)
        (subst (λ G. Misses ws G w.item → w.value ≡ c G w.item) (same_field_lem w.field F s) r.0) m

    -- after the first write, what the later ones do not cover is as in c
    first : Misses ws F n → (same_field w.field F ≡ true) ⊎ (same_field w.field F ≡ false)
        → change e w.field w.item w.value F n ≡ c F n
    first m (inl s) = split n w.item (λ q. rw s (upd_at (e F) w.value q ∙ here m s q)) (λ q. away m (inr q))
    first m (inr s) = away m (inl s)

-- ---- every word as it stood

-- the words that are written stand in c
abbrev pub Stand : Columns → List Write → Type 0
Stand c [] = Unit {0}
Stand c (w ∷ ws) = (c w.field w.item ≡ w.value) × Stand c ws

-- so each of them is the word of c
all_restored : (ws : List Write) (c : Columns) → Stand c ws → Restores c ws
all_restored [] c s = tt
all_restored (w ∷ ws) c s = (λ m. sym s.0, all_restored ws c s.1)

-- none of the writes, one by one
all_apart : (ws : List Write) (F : Field) (n : ℕ) → Misses ws F n → Apart ws F n
all_apart [] F n m = tt
all_apart (w ∷ ws) F n m = (m 0, all_apart ws F n (λ i. m (suc i)))

-- what stands in c, written into columns that differ from c in those cells at most, gives c
pub write_back : (ws : List Write) (c d : Columns) → Stand c ws
    → ((F : Field) (n : ℕ) → Apart ws F n → d F n ≡ c F n) → (F : Field) (n : ℕ) → changes ws d F n ≡ c F n
write_back ws c d s h F n = restored ws c d (all_restored ws c s) F n (λ m. h F n (all_apart ws F n m))
