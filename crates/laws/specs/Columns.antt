-- A list holds records of several kinds. Word j of each record of a kind is a column: a function of the record's
-- number. A store changes one entry of one column and nothing else; two lists with the same columns are equal. All for
-- any base, width and count, and for words of any type: z is what is read where nothing stands.
use Rattle.std.specs.Prelude.{◌≡◌, ◌≢◌, ◌⊎◌, List, [], ◌∷◌, length, get_or, set}
use Rattle.std.proofs.Math.Path.{refl, ap}
use Rattle.std.proofs.Common.{sym, ◌∙◌, subst, inl, inr, ⊎_elim, mul-le-mul_left, div-add-mod', mod-lt, mul_comm}
use Rattle.std.proofs.Common.{div-lt_iff_lt-mul, arith, length-set, get_or-set_same, get_or-set_other, ext_get_or}
use Prim.Native.Nat.{ℕ, zero, suc, ◌+◌, ◌-◌, ◌*◌, ◌/◌, ◌%◌, ◌≤◌, ◌<◌}
use Rattle.laws.specs.Bools.{split, le?}
use Rattle.laws.specs.Update.{upd, upd_at, upd_off}

-- records of `width` words, `count` of them, the first at the word `base`; records are numbered from 1
pub record Kind : Type 0 where
  pub base : ℕ
  pub width : ℕ
  pub count : ℕ

-- word j of record n of those of `width` words from `base` on, in the list l; record 0 is no record and reads z
abbrev pub word_at : {A : Type 0} → A → ℕ → ℕ → ℕ → List A → ℕ → A
word_at z base width j l zero = z
word_at z base width j l (suc n) = get_or l (base + width * n + j) z

-- v into that word; a store to record 0 does nothing
abbrev pub put_at : {A : Type 0} → ℕ → ℕ → ℕ → List A → ℕ → A → List A
put_at base width j l zero v = l
put_at base width j l (suc n) v = set l (base + width * n + j) v

-- word j of record n of a kind; how many there are does not matter
abbrev pub col_of : {A : Type 0} → A → Kind → ℕ → List A → ℕ → A
col_of z κ = word_at z κ.base κ.width

-- of numbers
abbrev pub col : Kind → ℕ → List ℕ → ℕ → ℕ
col = col_of 0

-- v into word j of record n
abbrev pub store : {A : Type 0} → Kind → ℕ → List A → ℕ → A → List A
store κ = put_at κ.base κ.width

-- the word that is read, at the place that code counts with n - 1
pub col_at : {A : Type 0} (z : A) (base width j : ℕ) (l : List A) (n : ℕ) → (n ≡ 0 → ⊥)
    → get_or l (base + width * (n - 1) + j) z ≡ word_at z base width j l n
col_at z base width j l zero h = absurd (h refl)
col_at z base width j l (suc n) h = let e : suc n - 1 ≡ n = omega arith in rw e

-- and the word that is written
pub store_at : {A : Type 0} (base width j : ℕ) (l : List A) (n : ℕ) (v : A) → (n ≡ 0 → ⊥)
    → set l (base + width * (n - 1) + j) v ≡ put_at base width j l n v
store_at base width j l zero v h = absurd (h refl)
store_at base width j l (suc n) v h = let e : suc n - 1 ≡ n = omega arith in rw e

-- the kind's words lie within the list
abbrev pub Fits : {A : Type 0} → Kind → List A → Type 0
Fits κ l = κ.base + κ.width * κ.count ≤ length l

-- a word of a record lies within its kind
pub in_kind : (κ : Kind) (j n : ℕ) → j < κ.width → n < κ.count
    → κ.base + κ.width * n + j < κ.base + κ.width * κ.count
in_kind κ j n hj hn = omega (arith, mul-le-mul_left κ.width hn)

-- two different words of a kind stand at two different places
pub word_apart : (κ : Kind) (i j m n : ℕ) → i < κ.width → j < κ.width → (m ≢ n) ⊎ (i ≢ j)
    → κ.base + κ.width * m + i ≢ κ.base + κ.width * n + j
word_apart κ i j m n hi hj d e =
    ⊎_elim (λ h. below m n i j hi e h)
    (λ h. ⊎_elim (λ g. below n m j i hj (sym e) g) (λ g. same_row (omega arith)) (le? (suc n) m)) (le? (suc m) n)
  where
    below : (m n i j : ℕ) → i < κ.width → κ.base + κ.width * m + i ≡ κ.base + κ.width * n + j → m < n → ⊥
    below m n i j hi e h = omega (arith, mul-le-mul_left κ.width h)

    same_row : m ≡ n → ⊥
    same_row q = ⊎_elim (λ f. f q) (λ f. f (omega (arith, ap (λ k. κ.width * k) q))) d

-- ---- a store, for words of any type

module _ {A : Type 0} where
  -- it keeps the length
  pub store_length : (κ : Kind) (j : ℕ) (l : List A) (n : ℕ) (v : A) → length (store κ j l n v) ≡ length l
  store_length κ j l zero v = refl
  store_length κ j l (suc n) v = length-set l (κ.base + κ.width * n + j) v

  -- what is stored is read
  pub store_same : (z : A) (κ : Kind) (j : ℕ) (l : List A) → Fits κ l → j < κ.width
      → (n : ℕ) (v : A) → 1 ≤ n → n ≤ κ.count → col_of z κ j (store κ j l n v) n ≡ v
  store_same z κ j l fits hj zero v ln un = absurd (omega arith)
  store_same z κ j l fits hj (suc n) v ln un =
      get_or-set_same l (κ.base + κ.width * n + j) v z (omega (arith, in_kind κ j n hj (omega arith)))

  -- every other word of the kind is as it was
  pub store_else : (z : A) (κ : Kind) (i j : ℕ) (l : List A) → i < κ.width → j < κ.width
      → (n : ℕ) (v : A) (m : ℕ) → (m ≢ n) ⊎ (i ≢ j) → col_of z κ i (store κ j l n v) m ≡ col_of z κ i l m
  store_else z κ i j l hi hj zero v m d = refl
  store_else z κ i j l hi hj (suc n) v zero d = refl
  store_else z κ i j l hi hj (suc n) v (suc m) d =
      get_or-set_other l (κ.base + κ.width * n + j) (κ.base + κ.width * m + i) v z
      (word_apart κ i j m n hi hj (⊎_elim (λ h. inl (λ e. h (ap suc e))) (λ h. inr h) d))

  -- so another column of the kind is
  pub col_store_other : (z : A) (κ : Kind) (i j : ℕ) (l : List A) → i < κ.width → j < κ.width → i ≢ j
      → (n : ℕ) (v : A) (m : ℕ) → col_of z κ i (store κ j l n v) m ≡ col_of z κ i l m
  col_store_other z κ i j l hi hj f n v m = store_else z κ i j l hi hj n v m (inr f)

  -- and a column of another kind that ends before this one begins, or begins after it ends
  pub col_store_apart : (z : A) (κ μ : Kind) (i j : ℕ) (l : List A) → i < κ.width → j < μ.width
      → (κ.base + κ.width * κ.count ≤ μ.base) ⊎ (μ.base + μ.width * μ.count ≤ κ.base)
      → (n : ℕ) (v : A) (m : ℕ) → n ≤ μ.count → m ≤ κ.count → col_of z κ i (store μ j l n v) m ≡ col_of z κ i l m
  col_store_apart z κ μ i j l hi hj d zero v m un um = refl
  col_store_apart z κ μ i j l hi hj d (suc n) v zero un um = refl
  col_store_apart z κ μ i j l hi hj d (suc n) v (suc m) un um =
      get_or-set_other l (μ.base + μ.width * n + j) (κ.base + κ.width * m + i) v z
      (λ e. ⊎_elim (λ h. omega (arith, in_kind κ i m hi (omega arith)))
      (λ h. omega (arith, in_kind μ j n hj (omega arith))) d)

-- a column of numbers after a store to it is the column with one entry changed
pub col_store : (κ : Kind) (j : ℕ) (l : List ℕ) → Fits κ l → j < κ.width → (n v m : ℕ) → 1 ≤ n → n ≤ κ.count
    → col κ j (store κ j l n v) m ≡ upd (col κ j l) n v m
col_store κ j l fits hj n v m ln un = split m n
    (λ e. rw e (store_same 0 κ j l fits hj n v ln un ∙ sym (upd_at (col κ j l) v refl)))
    (λ f. store_else 0 κ j j l hj hj n v m (inl f) ∙ sym (upd_off (col κ j l) v f))

-- ---- a sweep: word j of each record up to n becomes g of its number and of what it was

-- records 1 to n, in this order
unfoldable pub sweep : Kind → ℕ → ℕ → (ℕ → ℕ → ℕ) → List ℕ → List ℕ
sweep κ j zero g l = l
sweep κ j (suc n) g l = store κ j (sweep κ j n g l) (suc n) (g (suc n) (col κ j (sweep κ j n g l) (suc n)))

-- a sweep keeps the length
pub sweep_length : (κ : Kind) (j n : ℕ) (g : ℕ → ℕ → ℕ) (l : List ℕ) → length (sweep κ j n g l) ≡ length l
unfolding sweep
sweep_length κ j zero g l = refl
sweep_length κ j (suc n) g l = store_length κ j (sweep κ j n g l) (suc n) _ ∙ sweep_length κ j n g l

-- and every other column of the kind
pub sweep_other : (κ : Kind) (i j n : ℕ) (g : ℕ → ℕ → ℕ) (l : List ℕ) → i < κ.width → j < κ.width → i ≢ j → (m : ℕ)
    → col κ i (sweep κ j n g l) m ≡ col κ i l m
unfolding sweep
sweep_other κ i j zero g l hi hj f m = refl
sweep_other κ i j (suc n) g l hi hj f m =
    col_store_other 0 κ i j (sweep κ j n g l) hi hj f (suc n) _ m ∙ sweep_other κ i j n g l hi hj f m

-- and every column of another kind
pub sweep_apart : (κ μ : Kind) (i j n : ℕ) (g : ℕ → ℕ → ℕ) (l : List ℕ) → i < κ.width → j < μ.width
    → (κ.base + κ.width * κ.count ≤ μ.base) ⊎ (μ.base + μ.width * μ.count ≤ κ.base)
    → n ≤ μ.count → (m : ℕ) → m ≤ κ.count → col κ i (sweep μ j n g l) m ≡ col κ i l m
unfolding sweep
sweep_apart κ μ i j zero g l hi hj d un m um = refl
sweep_apart κ μ i j (suc n) g l hi hj d un m um =
    col_store_apart 0 κ μ i j (sweep μ j n g l) hi hj d (suc n) _ m un um
    ∙ sweep_apart κ μ i j n g l hi hj d (omega arith) m um

module _ (κ : Kind) (j : ℕ) (g : ℕ → ℕ → ℕ) (l : List ℕ) (fits : Fits κ l) (hj : j < κ.width) where
  -- above n nothing has changed
  pub sweep_above : (n m : ℕ) → n ≤ κ.count → n < m → col κ j (sweep κ j n g l) m ≡ col κ j l m
  unfolding sweep
  sweep_above zero m un h = refl
  sweep_above (suc n) m un h =
      col_store κ j (sweep κ j n g l) (omega (arith, sweep_length κ j n g l)) hj (suc n) _ m (omega arith) un
      ∙ upd_off _ _ (omega arith) ∙ sweep_above n m (omega arith) (omega arith)

  -- up to n each is g of what it was
  pub sweep_at : (n m : ℕ) → n ≤ κ.count → 1 ≤ m → m ≤ n → col κ j (sweep κ j n g l) m ≡ g m (col κ j l m)
  unfolding sweep
  sweep_at zero m un lm um = absurd (omega arith)
  sweep_at (suc n) m un lm um =
      col_store κ j (sweep κ j n g l) (omega (arith, sweep_length κ j n g l)) hj (suc n) _ m (omega arith) un
      ∙ by (sweep_at n m (omega arith) lm)
    where
      by : (m ≤ n → col κ j (sweep κ j n g l) m ≡ g m (col κ j l m))
          → upd (col κ j (sweep κ j n g l)) (suc n) (g (suc n) (col κ j (sweep κ j n g l) (suc n))) m
          ≡ g m (col κ j l m)
      by ih = split m (suc n)
          (λ e. rw e (upd_at _ _ refl ∙ ap (g (suc n)) (sweep_above n (suc n) (omega arith) (omega arith))))
          (λ f. upd_off _ _ f ∙ ih (omega arith))

-- ---- two lists with the same columns are equal

-- every word of a kind is a word of one of its records
pub word_of : (κ : Kind) (k : ℕ) → 1 ≤ κ.width → κ.base ≤ k → k < κ.base + κ.width * κ.count
    → (n : ℕ) × (j : ℕ) × (n < κ.count) × (j < κ.width) × (κ.base + κ.width * n + j ≡ k)
word_of κ k hw l u =
    let q : ℕ = (k - κ.base) / κ.width in
    let r : ℕ = (k - κ.base) % κ.width in
    let e : q * κ.width + r ≡ k - κ.base = div-add-mod' (k - κ.base) κ.width in
    let fits : k - κ.base < κ.count * κ.width = omega (arith, mul_comm κ.count κ.width) in
    (q, r, (div-lt_iff_lt-mul hw).1 fits, mod-lt (k - κ.base) hw, omega (arith, mul_comm q κ.width))

-- kinds that stand one after another: each begins where the one before ends, and has a positive width
abbrev pub Chained : ℕ → List Kind → ℕ → Type 0
Chained from [] end = from ≡ end
Chained from (κ ∷ κs) end = (κ.base ≡ from) × (1 ≤ κ.width) × Chained (from + κ.width * κ.count) κs end

-- two lists have the same columns of a kind
abbrev pub Agree : {A : Type 0} → A → Kind → List A → List A → Type 0
Agree z κ l l' = (j n : ℕ) → j < κ.width → 1 ≤ n → n ≤ κ.count → col_of z κ j l n ≡ col_of z κ j l' n

-- two lists have the same columns of every kind
abbrev pub AllAgree : {A : Type 0} → A → List Kind → List A → List A → Type 0
AllAgree z [] l l' = Unit {0}
AllAgree z (κ ∷ κs) l l' = Agree z κ l l' × AllAgree z κs l l'

module _ {A : Type 0} (z : A) where
  -- lists with the same columns of a kind have the same words there
  pub kind_agree : (κ : Kind) (l l' : List A) → 1 ≤ κ.width → Agree z κ l l'
      → (k : ℕ) → κ.base ≤ k → k < κ.base + κ.width * κ.count → get_or l k z ≡ get_or l' k z
  kind_agree κ l l' hw h k lo hi =
      let p = word_of κ k hw lo hi in
      subst (λ i. get_or l i z ≡ get_or l' i z) p.4 (h p.1 (suc p.0) p.3 (omega arith) (omega (arith, p.2)))

  -- lists with the same columns of every kind have the same words from the first kind to the last
  pub chain_agree : (κs : List Kind) (from end : ℕ) (l l' : List A) → Chained from κs end → AllAgree z κs l l'
      → (k : ℕ) → from ≤ k → k < end → get_or l k z ≡ get_or l' k z
  chain_agree [] from end l l' c a k lo hi = absurd (omega arith)
  chain_agree (κ ∷ κs) from end l l' c a k lo hi =
      let rest = chain_agree κs (from + κ.width * κ.count) end l l' c.2 a.1 k in
      ⊎_elim (λ h. rest h hi) (λ h. kind_agree κ l l' c.1 a.0 k (omega arith) (omega arith))
      (le? (from + κ.width * κ.count) k)

  -- `head` words, then kinds up to the end: lists of one length with the same head and the same columns are equal
  pub columns_ext : (head : ℕ) (κs : List Kind) (l l' : List A) → length l ≡ length l' → Chained head κs (length l)
      → ((k : ℕ) → k < head → get_or l k z ≡ get_or l' k z) → AllAgree z κs l l' → l ≡ l'
  columns_ext head κs l l' e c front a = ext_get_or z l l' e
      (λ k h. ⊎_elim (λ g. chain_agree κs head (length l) l l' c a k g h) (λ g. front k g) (le? head k))
