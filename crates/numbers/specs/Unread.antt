-- A number that is not read is cut off or too long, and such a number is not read (document 02, job 1).
use Rattle.std.specs.Prelude.{◌≡◌, refl, List, ℕ, zero, suc, ◌+◌, ◌≤◌, ◌<◌, length, get_or}
use Rattle.std.specs.Prelude.{None}
use Rattle.std.proofs.Common.{sym, ◌∙◌, ⊎_elim, add-zero, arith}
use Rattle.laws.specs.Bools.{le?}
use Rattle.numbers.specs.Number.{read_number}
use Rattle.numbers.specs.NumberLaws.{bad_0, got_1, bad_1, got_2, bad_2, got_3, bad_3}
use Rattle.numbers.specs.NumberTrip.{never}

-- the g groups from a place on have the high bit set, so that another is to follow
abbrev pub Open : List ℕ → ℕ → ℕ → Type 0
Open s at g = (i : ℕ) → i < g → 128 ≤ get_or s (at + i) 0

-- why a number is not read
pub data Unread (s : List ℕ) (at : ℕ) : Type 0 where
  -- the bytes end before a group without the high bit, among the first three
  cut_off : (g : ℕ) → g < 3 → Open s at g → length s ≤ at + g → Unread s at
  -- three groups with the high bit set
  too_long : at + 3 ≤ length s → Open s at 3 → Unread s at

module _ (s : List ℕ) (at : ℕ) where
  -- none
  open_none : Open s at 0
  open_none i h = absurd (omega arith)

  -- one more
  open_more : (g : ℕ) → Open s at g → 128 ≤ get_or s (at + g) 0 → Open s at (g + 1)
  open_more g o h i l = ⊎_elim (λ k. let e : i ≡ g = omega arith in rw e h) (λ k. o i k) (le? g i)

  -- the first of some
  open_first : {g : ℕ} → 0 < g → Open s at g → 128 ≤ get_or s at 0
  open_first h o = rw (add-zero at) at (o 0 h)

  -- behind two groups
  unread_3 : read_number s at ≡ None → at + 2 < length s → Open s at 2 → Unread s at
  unread_3 e l o =
      ⊎_elim
      (λ h. too_long (omega arith) (open_more 2 o h))
      (λ h. never (sym e ∙ sym (got_3 s at _ (open_first (omega arith) o) (o 1 (omega arith)) l h refl)))
      (le? 128 (get_or s (at + 2) 0))

  -- behind one
  unread_2 : read_number s at ≡ None → at + 1 < length s → Open s at 1 → Unread s at
  unread_2 e l o =
      ⊎_elim
      (λ h. ⊎_elim (λ k. cut_off 2 (omega arith) (open_more 1 o h) k) (λ k. unread_3 e k (open_more 1 o h))
      (le? (length s) (at + 2)))
      (λ h. never (sym e ∙ sym (got_2 s at _ (open_first (omega arith) o) l h refl)))
      (le? 128 (get_or s (at + 1) 0))

  -- at the first
  unread_1 : read_number s at ≡ None → at < length s → Unread s at
  unread_1 e l =
      ⊎_elim
      (λ h.
      let o : Open s at 1 = open_more 0 open_none (rw (add-zero at) h) in
      ⊎_elim (λ k. cut_off 1 (omega arith) o k) (λ k. unread_2 e k o) (le? (length s) (at + 1)))
      (λ h. never (sym e ∙ sym (got_1 s at _ l h refl)))
      (le? 128 (get_or s at 0))

  -- A NUMBER THAT IS NOT READ IS CUT OFF OR TOO LONG
  pub unread : read_number s at ≡ None → Unread s at
  unread e =
      ⊎_elim (λ h. cut_off 0 (omega arith) open_none (rw (add-zero at) h)) (λ h. unread_1 e h) (le? (length s) at)

  -- behind one group the bytes end
  ends_1 : 128 ≤ get_or s at 0 → length s ≤ at + 1 → read_number s at ≡ None
  ends_1 h l = ⊎_elim (λ k. sym (bad_0 s at k)) (λ k. sym (bad_1 s at k h l)) (le? (length s) at)

  -- AND SUCH A NUMBER IS NOT READ
  pub unread_bad : Unread s at → read_number s at ≡ None
  unread_bad (cut_off zero h o l) = sym (bad_0 s at (rw (add-zero at) at l))
  unread_bad (cut_off (suc zero) h o l) =
      ends_1 (open_first (omega arith) o) l
  unread_bad (cut_off (suc (suc zero)) h o l) =
      let a = open_first (omega arith) o in
      ⊎_elim (λ k. ends_1 a k) (λ k. sym (bad_2 s at a k (o 1 (omega arith)) l)) (le? (length s) (at + 1))
  unread_bad (cut_off (suc (suc (suc g))) h o l) = absurd (omega arith)
  unread_bad (too_long l o) =
      let a = open_first (omega arith) o in
      sym (bad_3 s at a (o 1 (omega arith)) (omega arith) (o 2 (omega arith)))
