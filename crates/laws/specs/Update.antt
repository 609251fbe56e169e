-- A function on numbers with one entry changed, or with one value replaced by another wherever it stands.
use Rattle.std.specs.Prelude.{◌≡◌, refl, ◌≢◌, ℕ, eqb}
use Rattle.std.proofs.Common.{sym, ap}
use Rattle.laws.specs.Bools.{pick, eqb_same, eqb_other}

-- f, but v at k
unfoldable pub upd : (ℕ → ℕ) → ℕ → ℕ → ℕ → ℕ
upd f k v i = pick (eqb i k) v (f i)

-- at k it is v
pub upd_at : (f : ℕ → ℕ) {k : ℕ} (v : ℕ) {i : ℕ} → i ≡ k → upd f k v i ≡ v
unfolding upd
upd_at f {k} v {i} e = rw (eqb_same e)

-- elsewhere it is f
pub upd_off : (f : ℕ → ℕ) {k : ℕ} (v : ℕ) {i : ℕ} → i ≢ k → upd f k v i ≡ f i
unfolding upd
upd_off f {k} v {i} h = rw (eqb_other h)

-- the first as a rule for simp: `simp (upd_same, upd_off)` reads any nest of changes whose places are told apart by
-- variables
pub upd_same : (f : ℕ → ℕ) (k v : ℕ) → upd f k v k ≡ v
upd_same f k v = upd_at f v refl

-- every entry v becomes w
unfoldable pub relabel : (ℕ → ℕ) → ℕ → ℕ → ℕ → ℕ
relabel f v w i = pick (eqb (f i) v) w (f i)

-- where v stood, w stands
pub relabel_at : (f : ℕ → ℕ) (v w : ℕ) {i : ℕ} → f i ≡ v → relabel f v w i ≡ w
unfolding relabel
relabel_at f v w e = rw (eqb_same e)

-- elsewhere nothing changes
pub relabel_off : (f : ℕ → ℕ) (v w : ℕ) {i : ℕ} → f i ≢ v → relabel f v w i ≡ f i
unfolding relabel
relabel_off f v w h = rw (eqb_other h)

-- equal entries stay equal
pub relabel_same : (f : ℕ → ℕ) (v w : ℕ) {i j : ℕ} → f i ≡ f j → relabel f v w i ≡ relabel f v w j
unfolding relabel
relabel_same f v w e = ap (λ k. pick (eqb k v) w k) e

-- four numbers that differ, and all twelve ways to say so as variables, where simp finds them
pub record Apart (k a p q : ℕ) : Type 0 where
  pub ka : k ≢ a
  pub kp : k ≢ p
  pub kq : k ≢ q
  pub ap : a ≢ p
  pub aq : a ≢ q
  pub pq : p ≢ q

-- hands them out
pub apart : {k a p q : ℕ} {A : Type 0} → Apart k a p q → (k ≢ a → a ≢ k → k ≢ p → p ≢ k → k ≢ q → q ≢ k → a ≢ p → p ≢ a
    → a ≢ q → q ≢ a → p ≢ q → q ≢ p → A) → A
apart d c = c d.ka (λ e. d.ka (sym e)) d.kp (λ e. d.kp (sym e)) d.kq (λ e. d.kq (sym e)) d.ap
    (λ e. d.ap (sym e)) d.aq (λ e. d.aq (sym e)) d.pq (λ e. d.pq (sym e))
