-- A run given another loop where it sits, at each half-edge that is passed. Of any list that shows its columns, sound
-- or not, so of a table amid an operator too.
use Rattle.std.specs.Prelude.{◌≡◌, ◌≢◌, false, List, ℕ, ◌*◌, ◌<◌}
use Rattle.std.proofs.Common.{◌∙◌}
use Rattle.laws.specs.Permutations.{iter}
use Rattle.layout.specs.declared.shape.Shape.{Shape}
use Rattle.layout.specs.Layout.{loop_of}
use Rattle.layout.specs.Fields.{Field, Loop, Next, Columns, cap_of, column, same_field}
use Rattle.euler.specs.Surgery.{passed}
use Rattle.sound_tables.specs.Cells.{Shows}
use Rattle.sound_tables.specs.Sound.{In}
use Rattle.sound_tables.specs.Walking.{shows_passed, run_met, run_off, run_other}

-- the links y, whose columns were c, once the first n half-edges from k on have been given loop l
pub record RunPassed (sh : Shape) (c : Columns) (k l n : ℕ) (y : List ℕ) : Type 0 where
  -- those behind name l
  pub behind : (t : ℕ) → t < n → loop_of sh y (iter (c Next) t k) ≡ l
  -- every other half-edge the loop that it had
  pub others : (i : ℕ) → In (2 * sh.edges) i → ((t : ℕ) → t < n → iter (c Next) t k ≢ i) → loop_of sh y i ≡ c Loop i
  -- and no word of another field has changed
  pub kept : (F : Field) → same_field Loop F ≡ false → (i : ℕ) → In (cap_of sh F) i → column sh F y i ≡ c F i

-- so it is
pub run_passed : (sh : Shape) (n : ℕ) (x : List ℕ) (c : Columns) (k l : ℕ) → Shows sh x c
    → ((t : ℕ) → t < n → In (2 * sh.edges) (iter (c Next) t k)) → RunPassed sh c k l n (passed sh n x k l)
run_passed sh n x c k l s i =
    let z = shows_passed sh n x c k l s i in
    record {
      behind = λ t h. z.at Loop (iter (c Next) t k) (i t h).1 ∙ run_met c n k l t h;
      others = λ j r h. z.at Loop j r.1 ∙ run_off c n k l j h;
      kept = λ F h j r. z.at F j r.1 ∙ run_other c n k l F h j;
    }
