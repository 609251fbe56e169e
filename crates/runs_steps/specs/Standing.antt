-- What a run, an undo and a redo stand on from one operator to the next: the table is good, and the numbers of loops
-- beside it are right. Each begins with the check and the count, and each operator that is carried out keeps them.
use Rattle.std.specs.Prelude.{◌≡◌, List, ℕ, ℤ, length}
use Rattle.std.proofs.Common.{sym, ◌∙◌}
use Rattle.bounds.specs.Bounds.{item_places}
use Rattle.script.specs.declared.Operator.{Operator}
use Rattle.layout.specs.declared.shape.Shape.{Shape}
use Rattle.layout.specs.Small.{Small}
use Rattle.euler.specs.Exec.{links_after, points_after}
use Rattle.euler_counts.specs.Counts.{Counted, counts_after}
use Rattle.sound_counts.specs.Kept.{counted_after, counted_length}
use Rattle.sound_tables.specs.Good.{Good}
use Rattle.sound_operators.specs.Theorems.{all_hold}
use Rattle.runs.specs.Run.{read_at, refusal_at}
use Rattle.promises.specs.Reading.{taken}

-- a good table with the right numbers, one for each face that a table can have
pub record Standing (sh : Shape) (x : List ℕ) (p : List ℤ) (c : List ℕ) : Type 0 where
  pub good : Good sh x p
  pub size : length c ≡ item_places
  pub counted : Counted sh x c

-- its capacities are small
pub standing_small : {sh : Shape} {x : List ℕ} {p : List ℤ} {c : List ℕ} → Standing sh x p c → Small sh
standing_small s =
    let a = s.good.capacities in
    record {
      solids = a.solids.1;
      faces = a.faces.1;
      loops = a.loops.1;
      edges = a.edges.1;
      vertices =
          a.vertices.1;
    }

-- an operator that is read and admitted keeps all this
pub standing_after : {sh : Shape} {x : List ℕ} {p : List ℤ} {c : List ℕ} → Standing sh x p c → (s : List ℕ) (at : ℕ)
    → refusal_at sh x s at ≡ 0
    → let o = (read_at sh s at).op in Standing sh (links_after sh x o) (points_after sh x p o) (counts_after sh x c o)
standing_after {sh} {x} {p} {c} a s at z =
    let t = taken sh x s at z in
    let o = (read_at sh s at).op in
    record {
      good = (all_hold sh x p o a.good t.eight t.admitted).0;
      size = counted_length sh x c o ∙ a.size;
      counted = counted_after sh x p c o a.good t.eight t.admitted a.size a.counted;
    }

-- the same of what the code holds afterwards
pub standing_kept : {sh : Shape} {x : List ℕ} {p : List ℤ} {c : List ℕ} → Standing sh x p c → (s : List ℕ) (at r : ℕ)
    → r ≡ refusal_at sh x s at → r ≡ 0 → (o : Operator) → o ≡ (read_at sh s at).op
    → (y : List ℕ) → y ≡ links_after sh x o → (q : List ℤ) → q ≡ points_after sh x p o
    → (d : List ℕ) → d ≡ counts_after sh x c o → Standing sh y q d
standing_kept a s at r er z o eo y ey q eq d ed = rw (ey, eq, ed, eo) (standing_after a s at (sym er ∙ z))
