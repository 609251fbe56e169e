-- An operator as a list of steps, carried out from the first to the last. What is said of a step is said once for all
-- operators.
use Rattle.std.specs.Prelude.{ℕ, List, [], ◌∷◌}
use Rattle.layout.specs.declared.shape.Shape.{Shape}
use Rattle.layout.specs.Layout.{prev_of}
use Rattle.layout.specs.Fields.{Field, cap_of, sweep_field}
use Rattle.layout.specs.Writes.{Write, write, writes}
use Rattle.euler.specs.declared.records.Half.{Half}
use Rattle.euler.specs.Surgery.{tie, edge_in, edge_out, insert_after, relabel_run, renew}

-- What the operators do to the links. What a step reads of the links itself, as neighbours that it does not name, it
-- reads as the steps before have left it.
pub data Step : Type 0 where
  -- stores, one after the other
  Store : List Write → Step
  -- half-edge k goes in with the words `there`, its mate with the words `back`, each between its neighbours
  EdgeIn : (k : ℕ) (there back : Half) → Step
  -- the edge of k comes out: p is followed by n, and p' by n'
  EdgeOut : (k p n p' n' : ℕ) → Step
  -- half-edge n from vertex v in loop l, right after k
  InsertAfter : (k n v l : ℕ) → Step
  -- half-edge n from vertex v in loop l, right before k
  InsertBefore : (k n v l : ℕ) → Step
  -- what comes before k is followed by n
  TieBefore : (k n : ℕ) → Step
  -- the half-edges from k up to before stop get loop l
  Relabel : (k stop l : ℕ) → Step
  -- loop l has the cycle of k, and its first is looked for from `low` on; where k is 0, l is isolated at vertex u
  Renew : (l low k u : ℕ) → Step
  -- field F of every item becomes g of the item and its old word
  Sweep : (F : Field) (g : ℕ → ℕ → ℕ) → Step

-- the four words of a half-edge: its start v, its loop l, next n, previous p
abbrev pub half : ℕ → ℕ → ℕ → ℕ → Half
half v l n p = record { start = v; owner = l; next = n; prev = p }

-- a single store: field F of item n becomes v
abbrev pub assign : Field → ℕ → ℕ → Step
assign F n v = Store (write F n v ∷ [])

-- the links after one step
abbrev pub does : Shape → Step → List ℕ → List ℕ
does sh (Store ws) y = writes sh ws y
does sh (EdgeIn k a b) y =
    edge_in sh y k a.start a.owner a.next a.prev b.start b.owner b.next b.prev
does sh (EdgeOut k p n p' n') y = edge_out sh y k p n p' n'
does sh (InsertAfter k n v l) y = insert_after sh y k n v l
does sh (InsertBefore k n v l) y = insert_after sh y (prev_of sh y k) n v l
does sh (TieBefore k n) y = tie sh y (prev_of sh y k) n
does sh (Relabel k stop l) y = relabel_run sh y k stop l
does sh (Renew l low k u) y = renew sh y l low k u
does sh (Sweep F g) y = sweep_field sh F (cap_of sh F) g y

-- the links after all of them, in order
abbrev pub after : Shape → List Step → List ℕ → List ℕ
after sh [] y = y
after sh (s ∷ ss) y = after sh ss (does sh s y)
