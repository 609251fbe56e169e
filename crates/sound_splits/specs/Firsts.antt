-- What both directions of a division need to know of loops: which have a first half-edge, and that the first of a loop
-- away from it stays.
use Rattle.std.specs.Prelude.{◌≡◌, refl, ◌≢◌, true, false, List, [], ◌∷◌, ℕ, ◌*◌, ◌≤◌, eqb}
use Rattle.std.proofs.Common.{sym, ap, ◌∙◌, arith}
use Rattle.laws.specs.Bools.{split, eqb_other}
use Rattle.laws.specs.Search.{least_ext}
use Rattle.laws.specs.Update.{upd, upd_at, upd_off}
use Rattle.layout.specs.declared.shape.Shape.{Shape}
use Rattle.layout.specs.Mate.{mate}
use Rattle.layout.specs.Fields.{Field, First, Isolated, Loop, VertexUsed, Columns, among}
use Rattle.layout.specs.Writes.{Write, write, changes}
use Rattle.sound_tables.specs.Sound.{first_of}
use Rattle.sound_tables.specs.WriteLaws.{within, unwritten}
use Rattle.sound_splits.specs.Relation.{moved}

-- the last stores of both: the loops l and m have their firsts anew and no isolated vertex, vertex v its mark t
abbrev pub closing : Shape → Columns → ℕ → ℕ → ℕ → ℕ → List Write
closing sh H l m v t =
    write First l (first_of sh H l) ∷ write Isolated l 0 ∷ write First m (first_of sh H m) ∷ write Isolated m 0
    ∷ write VertexUsed v t ∷ []

-- the columns c once ws are stored, and these
abbrev pub closed : Shape → List Write → Columns → ℕ → ℕ → ℕ → ℕ → Columns
closed sh ws c l m v t = changes (closing sh (changes ws c) l m v t) (changes ws c)

-- columns of other fields stay
pub closed_others : (sh : Shape) (ws : List Write) (c : Columns) (l m v t : ℕ) → within moved ws ≡ true
    → (F : Field) → among moved F ≡ false → (i : ℕ) → closed sh ws c l m v t F i ≡ c F i
closed_others sh ws c l m v t h F e i =
    unwritten moved (closing sh (changes ws c) l m v t) refl (changes ws c) F e i ∙ unwritten moved ws h c F e i

-- two entries that are zero, cleared
pub clear_zero : (f : ℕ → ℕ) (a b : ℕ) → f a ≡ 0 → f b ≡ 0 → (i : ℕ) → upd (upd f a 0) b 0 i ≡ f i
clear_zero f a b x y i = split i b
    (λ e. upd_at _ 0 e ∙ sym (ap f e ∙ y))
    (λ e. upd_off _ 0 e ∙ split i a (λ g. upd_at f 0 g ∙ sym (ap f g ∙ x)) (λ g. upd_off f 0 g))

-- n and its mate name no loop in c and two loops in d; all others name the same, so other loops have the same first
-- half-edge
pub far_first : (sh : Shape) (c d : Columns) (n : ℕ) → c Loop n ≡ 0 → c Loop (mate n) ≡ 0
    → ((i : ℕ) → i ≢ n → i ≢ mate n → d Loop i ≡ c Loop i)
    → (l : ℕ) → 1 ≤ l → d Loop n ≢ l → d Loop (mate n) ≢ l → first_of sh c l ≡ first_of sh d l
far_first sh c d n zn zb e l h xn xb = least_ext (2 * sh.edges) _ _ (λ i _ _. split i n
    (λ f. rw f (eqb_other (none zn) ∙ sym (eqb_other xn))) λ f. split i (mate n)
    (λ g. rw g (eqb_other (none zb) ∙ sym (eqb_other xb)))
    (λ g. ap (λ m. eqb m l) (sym (e i f g))))
  where
    -- a loop has a number
    none : {m : ℕ} → m ≡ 0 → m ≢ l
    none z q = omega (arith, h, z, q)

-- two entries of first set to what they should be, the others as they are
pub first_set : (f g : ℕ → ℕ) (a b : ℕ) (l : ℕ) → (l ≢ a → l ≢ b → f l ≡ g l) → upd (upd f a (g a)) b (g b) l ≡ g l
first_set f g a b l h = split l b
    (λ e. upd_at _ (g b) e ∙ ap g (sym e))
    (λ e. upd_off _ (g b) e ∙ split l a (λ x. upd_at f (g a) x ∙ ap g (sym x)) (λ x. upd_off f (g a) x ∙ h x e))
