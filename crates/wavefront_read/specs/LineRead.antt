-- A line is read back: its first byte, and its words each behind a space.
use Rattle.std.specs.Prelude.{◌≡◌, refl, ℕ, ◌<◌, length}
use mathlib.Core.List.{List, [], ◌∷◌, ◌++◌, map, append_assoc, append-nil}
use Rattle.std.proofs.Math.Option.{Option, some}
use Rattle.std.proofs.Common.{arith}
use Rattle.text.specs.Put.{newline}
use Rattle.wavefront.specs.Obj.{spaced, concat_map}
use Rattle.wavefront_read.specs.Reader.{pieces, read_all, read_line, read_lines, read_obj}
use Rattle.wavefront_read.specs.Pieces.{Above, empty, byte, above_lower, above_append, pieces_one, pieces_more}
use Rattle.wavefront_read.specs.Pieces.{pieces_some}

-- words that are read each are read together
pub all_read : {A : Type 0} (read : List ℕ → Option A) (word : ℕ → List ℕ) (value : ℕ → A)
    → ((n : ℕ) → read (word n) ≡ some (value n)) → (ns : List ℕ) → read_all read (map word ns) ≡ some (map value ns)
unfolding read_all
all_read read word value h [] = refl
all_read read word value h (n ∷ ns) = rw (h n, all_read read word value h ns)

-- the first of several lines
lines_more : (l : List ℕ) (ls : List (List ℕ)) → 0 < length ls
    → read_lines (l ∷ ls) ≡ read_line (pieces 32 l) (read_lines ls)
unfolding read_lines
lines_more l [] h = absurd (omega arith)
lines_more l (m ∷ ls) h = refl

-- the words of some numbers, each behind a space
abbrev pub spaced_words : (ℕ → List ℕ) → List ℕ → List ℕ
spaced_words word ns = concat_map (λ n. spaced (word n)) ns

module _ (word : ℕ → List ℕ) (above : (n : ℕ) → Above 32 (word n)) where
  -- they are the pieces behind the first
  words_pieces : {w : List ℕ} → Above 32 w → (ns : List ℕ) → pieces 32 (w ++ spaced_words word ns) ≡ w ∷ map word ns
  unfolding concat_map
  words_pieces {w} a [] = rw (append-nil w) (pieces_one a)
  words_pieces {w} a (n ∷ ns) = rw
      (pieces_more (word n ++ spaced_words word ns) a, words_pieces {w = word n} (above n) ns)

  -- there is no line feed in them
  words_above : (ns : List ℕ) → Above 10 (spaced_words word ns)
  unfolding concat_map
  words_above [] = empty
  words_above (n ∷ ns) = byte 32 (omega arith) (above_append (above_lower (omega arith) (above n)) (words_above ns))

  -- A LINE IS READ BACK, and what is behind it
  pub line_read : (b : ℕ) → 32 < b → (ns r : List ℕ)
      → read_obj ((b ∷ []) ++ spaced_words word ns ++ newline ++ r) ≡ read_line ((b ∷ []) ∷ map word ns) (read_obj r)
  line_read b h ns r =
      rw (
        append_assoc (spaced_words word ns) newline r,
        pieces_more r (byte b (omega arith) (words_above ns)),
        lines_more (b ∷ spaced_words word ns) (pieces 10 r) (pieces_some 10 r),
        words_pieces (byte b h empty) ns,
      )
