-- A reader of OBJ text, for any bytes: the points of its v lines and the index cycles of its f lines, each in order.
-- It answers nothing where a line is neither of the two, or is not ended by a line feed, where a v line stands behind
-- an f line, or a minus sign before 0. It knows nothing of tables.
use Rattle.std.specs.Prelude.{ℕ, zero, suc, ◌+◌, ◌*◌, Bool, false, ◌&&◌, List, [], ◌∷◌, map, eqb, leb, ℤ, pos, negsuc}
use Rattle.std.specs.Prelude.{length}
use Rattle.std.proofs.Math.Option.{Option, none, some}
use Rattle.laws.specs.Bools.{pick, allb}
use Rattle.text.specs.Decimal.{value_of}

-- ---- lines and words

-- b at the front of the first piece
abbrev pub onto_first : ℕ → List (List ℕ) → List (List ℕ)
onto_first b [] = []
onto_first b (w ∷ ws) = (b ∷ w) ∷ ws

-- the pieces of a text between the bytes e; behind the last e there is one more, empty where the text ends with e
unfoldable pub pieces : ℕ → List ℕ → List (List ℕ)
pieces e [] = [] ∷ []
pieces e (b ∷ r) = pick (eqb b e) ([] ∷ pieces e r) (onto_first b (pieces e r))

-- ---- numbers

-- the bytes 48 to 57
abbrev pub is_digit : ℕ → Bool
is_digit b = leb 48 b && leb b 57

-- a word of digits, at least one
abbrev pub is_number : List ℕ → Bool
is_number [] = false
is_number (b ∷ r) = is_digit b && allb (map is_digit r)

-- is read as the number they say
unfoldable pub read_index : List ℕ → Option ℕ
read_index w = pick (is_number w) (some (value_of 0 w)) none

-- digits, a point (byte 46) and two digits: so many hundredths
abbrev pub read_hundredths : List (List ℕ) → Option ℕ
read_hundredths [] = none
read_hundredths (w ∷ []) = none
read_hundredths (w ∷ d ∷ []) =
    pick (is_number w && is_number d && eqb (length d) 2) (some (value_of 0 w * 100 + value_of 0 d)) none
read_hundredths (w ∷ d ∷ e ∷ r) = none

-- f of what was read
abbrev pub on_read : {A B : Type 0} → (A → B) → Option A → Option B
on_read f none = none
on_read f (some a) = some (f a)

-- f of two things that were read
abbrev pub on_both : {A B C : Type 0} → (A → B → C) → Option A → Option B → Option C
on_both f none b = none
on_both f (some a) none = none
on_both f (some a) (some b) = some (f a b)

-- so many hundredths below zero: 0 of them are not
abbrev pub below_zero : Option ℕ → Option ℤ
below_zero none = none
below_zero (some zero) = none
below_zero (some (suc n)) = some (negsuc n)

-- millimetres, as hundredths; byte 45 is the minus sign
unfoldable pub read_coordinate : List ℕ → Option ℤ
read_coordinate [] = none
read_coordinate (b ∷ r) =
    pick (eqb b 45) (below_zero (read_hundredths (pieces 46 r)))
    (on_read pos (read_hundredths (pieces 46 (b ∷ r))))

-- ---- lines

-- all words of a list, by one reader
unfoldable pub read_all : {A : Type 0} → (List ℕ → Option A) → List (List ℕ) → Option (List A)
read_all read [] = some []
read_all read (w ∷ ws) = on_both ◌∷◌ (read w) (read_all read ws)

-- what is found: points in hundredths of a millimetre, and cycles of indices
pub record Mesh : Type 0 where
  pub points : List (List ℤ)
  pub cycles : List (List ℕ)

-- by its two lists
abbrev pub mesh : List (List ℤ) → List (List ℕ) → Mesh
mesh ps cs = record { points = ps; cycles = cs }

-- a point, or a cycle, in front of what the lines behind it say
abbrev pub add_point : List ℤ → Mesh → Mesh
add_point q r = mesh (q ∷ r.points) r.cycles

abbrev pub add_cycle : List ℕ → Mesh → Mesh
add_cycle c r = mesh r.points (c ∷ r.cycles)

-- what was found, if there are no points in it
abbrev pub no_points : Option Mesh → Option Mesh
no_points none = none
no_points (some r) = pick (eqb (length r.points) 0) (some r) none

-- the word of the one byte b
abbrev pub is_word : ℕ → List ℕ → Bool
is_word b [] = false
is_word b (c ∷ []) = eqb c b
is_word b (c ∷ d ∷ r) = false

-- the words of a line: "v" (byte 118) and three coordinates, or "f" (byte 102) and indices; `rest` is what the lines
-- behind it say, and behind an f line there is no v line
unfoldable pub read_line : List (List ℕ) → Option Mesh → Option Mesh
read_line [] rest = none
read_line (w ∷ ws) rest =
    pick (is_word 118 w && eqb (length ws) 3) (on_both add_point (read_all read_coordinate ws) rest)
    (pick (is_word 102 w) (on_both add_cycle (read_all read_index ws) (no_points rest)) none)

-- lines, behind the last of which nothing stands; words are parted by a space (byte 32)
unfoldable pub read_lines : List (List ℕ) → Option Mesh
read_lines [] = none
read_lines (l ∷ []) = pick (eqb (length l) 0) (some (mesh [] [])) none
read_lines (l ∷ m ∷ ls) = read_line (pieces 32 l) (read_lines (m ∷ ls))

-- a text: each line ends with a line feed (byte 10)
abbrev pub read_obj : List ℕ → Option Mesh
read_obj text = read_lines (pieces 10 text)
