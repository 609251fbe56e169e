-- The pieces of a text between the bytes e: where what is put together has only bytes above e, it comes apart again.
use Rattle.std.specs.Prelude.{◌≡◌, refl, List, [], ◌∷◌, ◌++◌, ℕ, ◌≤◌, ◌<◌, eqb, length}
use Rattle.std.proofs.Common.{arith, eq-eqb, ne_eqb}
use Rattle.laws.specs.Bools.{pick_ind}
use Rattle.wavefront_read.specs.Reader.{onto_first, pieces}

-- each byte of a text is above e
pub data Above (e : ℕ) : List ℕ → Type 0 where
  empty : Above e []
  byte : (b : ℕ) {r : List ℕ} → e < b → Above e r → Above e (b ∷ r)

-- and so above what is lower
pub above_lower : {d e : ℕ} {w : List ℕ} → d ≤ e → Above e w → Above d w
above_lower h empty = empty
above_lower h (byte b l a) = byte b (omega arith) (above_lower h a)

-- two such texts together are one
pub above_append : {e : ℕ} {v w : List ℕ} → Above e v → Above e w → Above e (v ++ w)
above_append empty c = c
above_append (byte b l a) c = byte b l (above_append a c)

-- such a text is one piece
pub pieces_one : {e : ℕ} {w : List ℕ} → Above e w → pieces e w ≡ w ∷ []
unfolding pieces
pieces_one empty = refl
pieces_one {e} (byte b l a) = rw (ne_eqb b e (omega arith), pieces_one a)

-- and the first piece, where an e stands behind it
pub pieces_more : {e : ℕ} {w : List ℕ} (r : List ℕ) → Above e w → pieces e (w ++ e ∷ r) ≡ w ∷ pieces e r
unfolding pieces
pieces_more {e} r empty = rw (eq-eqb e e refl)
pieces_more {e} r (byte b l a) = rw (ne_eqb b e (omega arith), pieces_more r a)

-- there is always a piece
pub pieces_some : (e : ℕ) (r : List ℕ) → 0 < length (pieces e r)
unfolding pieces
pieces_some e [] = omega arith
pieces_some e (b ∷ r) =
    pick_ind (λ ps. 0 < length ps) (eqb b e) ([] ∷ pieces e r) (onto_first b (pieces e r)) (omega arith)
    (onto (pieces e r) (pieces_some e r))
  where
    onto : (ps : List (List ℕ)) → 0 < length ps → 0 < length (onto_first b ps)
    onto [] h = h
    onto (w ∷ ps) h = h
