-- A list by code, read at a code that is known, and at one that is no code.
use Rattle.std.specs.Prelude.{◌≡◌, List, ℕ, suc, ◌≤◌, length, get_or}
use Rattle.std.proofs.Common.{sym, ap, ◌∙◌, ⊎_elim}
use Rattle.std.proofs.Math.ListN.{get_or-eq_default}
use Rattle.codec.specs.Operands.{last_code}
use Rattle.codec.specs.OperandLaws.{NoneOf, none_of}

pub by_code {ℓ} : {A : Type ℓ} (xs : List A) (d : A) (code k : ℕ) (v r : A) → code ≡ k → get_or xs k d ≡ v → r ≡ v
    → r ≡ get_or xs code d
by_code xs d code k v r e f g = rw (e, f) g

-- past the list's end, and at 0, which is no code either
pub by_none {ℓ} : {A : Type ℓ} (xs : List A) (d : A) (code : ℕ) → length xs ≡ suc last_code
    → get_or xs 0 d ≡ d → NoneOf last_code code → d ≡ get_or xs code d
by_none xs d code l z n =
    ⊎_elim (λ e. sym z ∙ ap (λ k. get_or xs k d) (sym e)) (λ h. let k : length xs ≤ code = rw l h in
    sym (get_or-eq_default xs d k)) (none_of last_code code n)
