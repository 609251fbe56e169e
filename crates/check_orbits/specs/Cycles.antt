-- The steps from half-edge to half-edge, and the linear test that the half-edges of each label form one cycle.
use Rattle.std.specs.Prelude.{◌≡◌, ℕ, ◌*◌, ◌<◌, Bool, List, get_or, replicate}
use Rattle.laws.specs.Bools.{pick}
use Rattle.laws.specs.Marks.{mark_to, all_marked}
use Rattle.bounds.specs.Bounds.{half_places}
use Rattle.layout.specs.declared.shape.Shape.{Shape}
use Rattle.layout.specs.Layout.{next_of}
use Rattle.layout.specs.Mate.{mate}
use Rattle.layout.specs.Items.{half_used}

-- a list as a function; past its end it is 0
abbrev pub entry_of : List ℕ → ℕ → ℕ
entry_of a i = get_or a i 0

-- the half-edge after k: around its start, next of the mate; in its loop, next
abbrev pub step_of : Shape → List ℕ → Bool → ℕ → ℕ
step_of sh x around k = pick around (next_of sh x (mate k)) (next_of sh x k)

-- a step may be taken from each number that a word holds, and leads to one
pub record Steps (may : ℕ → Type 0) (leads : ℕ → ℕ → Type 0) : Type 0 where
  pub pre : (k : ℕ) → k < 65536 → may k
  pub low : (k r : ℕ) → k < 65536 → leads k r → r < 65536

-- the steps are those of f
abbrev pub Follows : (ℕ → ℕ → Type 0) → (ℕ → ℕ) → Type 0
Follows leads f = (k r : ℕ) → k < 65536 → leads k r → r ≡ f k

-- walks along f from the representatives of the labels 1 to m mark every half-edge in use
abbrev pub one_cycle_by : Shape → List ℕ → (ℕ → ℕ) → List ℕ → ℕ → Bool
one_cycle_by sh x f reps m =
    all_marked (2 * sh.edges) (half_used sh x) (mark_to f (2 * sh.edges) (entry_of reps) m (replicate half_places 0))

-- the same around the starts, or in the loops
unfoldable pub one_cycle_each : Shape → List ℕ → Bool → List ℕ → ℕ → Bool
one_cycle_each sh x around reps m = one_cycle_by sh x (step_of sh x around) reps m
