-- New numbers: the i-th of a kind is the i-th that is free at the call, where nothing is killed; an edge more.
use Rattle.std.specs.Prelude.{◌≡◌, ◌≢◌, Bool, not, List, ℕ, suc, ◌-◌, ◌*◌, ◌%◌, ◌≤◌, ◌<◌, eqb}
use Rattle.std.proofs.Common.{sym, ap, ◌∙◌, arith, eqb→eq}
use Rattle.laws.specs.Bools.{split, eqb_same, eqb_other, true_T}
use Rattle.layout.specs.declared.shape.Shape.{Shape}
use Rattle.layout.specs.Layout.{face_solid, loop_face, start_of, vertex_used}
use Rattle.layout.specs.Mate.{mate}
use Rattle.layout.specs.MateLaws.{mate_odd}
use Rattle.layout.specs.Items.{some}
use Rattle.layout.specs.Fields.{Start, Columns}
use Rattle.sound_tables.specs.Sound.{In}
use Rattle.inversion.specs.Same.{words, words_fewer}
use Rattle.chains.specs.Ranks.{count_from, nth, nth_in}

-- ---- new numbers, by rank

pub record Names : Type 0 where
  pub edge : ℕ → ℕ
  pub vertex : ℕ → ℕ
  pub face : ℕ → ℕ
  pub loop : ℕ → ℕ

-- number n is free; an edge by its second half
abbrev pub edge_free : Shape → List ℕ → ℕ → Bool
edge_free sh x n = eqb (start_of sh x (2 * n)) 0

abbrev pub vertex_free : Shape → List ℕ → ℕ → Bool
vertex_free sh x n = eqb (vertex_used sh x n) 0

abbrev pub face_free : Shape → List ℕ → ℕ → Bool
face_free sh x n = eqb (face_solid sh x n) 0

abbrev pub loop_free : Shape → List ℕ → ℕ → Bool
loop_free sh x n = eqb (loop_face sh x n) 0

-- those that are free at the call
abbrev pub free_names : Shape → List ℕ → Names
free_names sh x = record {
  edge = nth sh.edges (edge_free sh x);
  vertex = nth sh.vertices (vertex_free sh x);
  face = nth sh.faces (face_free sh x);
  loop = nth sh.loops (loop_free sh x);
}

-- the halves of an edge
pub odd_mate : (e : ℕ) → 1 ≤ e → mate (2 * e - 1) ≡ 2 * e
odd_mate e h = let o : (2 * e - 1) % 2 ≡ 1 = omega (arith, h) in mate_odd (2 * e - 1) o ∙ omega (arith, h)

-- both are 0 or both are not
pub same_some : (a b : ℕ) → (a ≡ 0 → b ≡ 0) → (b ≡ 0 → a ≡ 0) → some a ≡ some b
same_some a b f g = split a 0 (λ e. ap not (eqb_same e ∙ sym (eqb_same (f e))))
    (λ e. ap not (eqb_other e ∙ sym (eqb_other (λ z. e (g z)))))

-- an edge more: its second half had no start
pub edge_more : (sh : Shape) (c d : Columns) (k : ℕ) → In sh.edges k → c Start (2 * k) ≡ 0 → d Start (2 * k) ≢ 0
    → ((i : ℕ) → i ≤ 2 * sh.edges → i ≢ 2 * k - 1 → i ≢ 2 * k → d Start i ≡ c Start i)
    → suc (words sh.edges (λ i. c Start (2 * i))) ≡ words sh.edges (λ i. d Start (2 * i))
edge_more sh c d k i z n h = words_fewer sh.edges (λ i. c Start (2 * i)) (λ i. d Start (2 * i)) k i z n
    (λ j w e. sym (h (2 * j) (omega (arith, w.1)) (λ q. omega (arith, q, i.0)) (λ q. e (omega (arith, q)))))

-- where the j-th of a kind stands
pub nth_stands : (m : ℕ) (q : ℕ → Bool) (j : ℕ) → j < count_from m 1 q → In m (nth m q j)
nth_stands m q j h = let s = nth_in m 1 q j h in (s.low, omega (arith, s.high))

-- it is free
pub nth_free : (m : ℕ) (w : ℕ → ℕ) (j : ℕ) → j < count_from m 1 (λ i. eqb (w i) 0)
    → w (nth m (λ i. eqb (w i) 0) j) ≡ 0
nth_free m w j h = eqb→eq _ 0 (true_T (nth_in m 1 (λ i. eqb (w i) 0) j h).passes)
