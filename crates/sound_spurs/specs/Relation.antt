-- A spur in a sound table: a half-edge k in use whose next is its mate b. mev makes one, kev takes it away.
-- b alone starts at its vertex; k and what follows b start at one vertex, in one loop. Where k follows b, the two are
-- the whole loop, and k alone starts at its vertex.
use Rattle.std.specs.Prelude.{◌≡◌, ◌≢◌, ◌⊎◌, List, ℕ, ◌*◌, ℤ}
use Rattle.std.proofs.Common.{sym, ap, ◌∙◌, inl, inr, arith}
use Rattle.laws.specs.Bools.{split}
use Rattle.laws.specs.Update.{upd_same}
use Rattle.laws.specs.Permutations.{inj}
use Rattle.laws.specs.Cycles.{alone}
use Rattle.laws.specs.Moves.{out_cycles}
use Rattle.layout.specs.declared.shape.Shape.{Shape}
use Rattle.layout.specs.Mate.{mate}
use Rattle.layout.specs.MateLaws.{mate_mate}
use Rattle.layout.specs.Fields.{Face, Start, Loop, Next, Prev, VertexUsed, Columns}
use Rattle.sound_tables.specs.Mates.{mate_other}
use Rattle.sound_tables.specs.EdgeIn.{prev_in, next_prev}
use Rattle.sound_tables.specs.Sound.{In, HalfUsed, Sound}
use Rattle.sound_tables.specs.Good.{own, Marked}

-- a half-edge of a sound table that its mate follows
pub record Spur (sh : Shape) (p : List ℤ) (c : Columns) (k : ℕ) : Type 0 where
  pub sound : Sound sh p c
  pub used : HalfUsed sh c k
  pub next : c Next k ≡ mate k

-- the spur at k of a marked table
abbrev pub spur_of : {sh : Shape} {x : List ℕ} {p : List ℤ} → Marked sh x p → {k : ℕ} → HalfUsed sh (own sh x) k
    → own sh x Next k ≡ mate k → Spur sh p (own sh x) k
spur_of g u n = record { sound = g.sound; used = u; next = n }

module _ {sh : Shape} {p : List ℤ} {c : Columns} {k : ℕ} (s : Spur sh p c k) where
  open s use {sound as a, used as uk, next as nk}

  -- the mate is in use
  pub used_b : HalfUsed sh c (mate k)
  used_b = a.rules.mate_in k uk

  -- what is before k is in use
  pub used_P : HalfUsed sh c (c Prev k)
  used_P = prev_in a.rules k uk

  -- what is after the mate is in use
  pub used_N : HalfUsed sh c (c Next (mate k))
  used_N = a.rules.loops.perm.f_in (mate k) used_b

  -- k as a number
  pub in_k : In (2 * sh.edges) k
  in_k = (uk.0, uk.1)

  -- the mate as a number
  pub in_b : In (2 * sh.edges) (mate k)
  in_b = (used_b.0, used_b.1)

  -- what is before k as a number
  pub in_P : In (2 * sh.edges) (c Prev k)
  in_P = (used_P.0, used_P.1)

  -- what is after the mate as a number
  pub in_N : In (2 * sh.edges) (c Next (mate k))
  in_N = (used_N.0, used_N.1)

  -- the two halves differ
  pub kb : k ≢ mate k
  kb = mate_other k uk.0

  -- the same the other way round
  bk : mate k ≢ k
  bk e = kb (sym e)

  -- k is next of what is before it
  pub next_P : c Next (c Prev k) ≡ k
  next_P = next_prev a.rules k uk

  -- k is before the mate
  pub prev_b : c Prev (mate k) ≡ k
  prev_b = ap (c Prev) (sym nk) ∙ a.rules.undone k uk

  -- the mate is before what is after it
  pub prev_N : c Prev (c Next (mate k)) ≡ mate k
  prev_N = a.rules.undone (mate k) used_b

  -- what is after the mate is not the mate
  pub Nb : c Next (mate k) ≢ mate k
  Nb e = kb (inj a.rules.loops.perm uk used_b (nk ∙ sym e))

  -- where k follows the mate, the mate is before k
  pub whole_P : c Next (mate k) ≡ k → c Prev k ≡ mate k
  whole_P e = ap (c Prev) (sym e) ∙ prev_N

  -- the mate is in k's loop
  pub spur_loop_b : c Loop (mate k) ≡ c Loop k
  spur_loop_b = ap (c Loop) (sym nk) ∙ a.rules.loops.keeps k uk

  -- so is what follows it
  pub spur_loop_N : c Loop (c Next (mate k)) ≡ c Loop k
  spur_loop_N = a.rules.loops.keeps (mate k) used_b ∙ spur_loop_b

  -- the loop's number
  pub spur_loop_in : In sh.loops (c Loop k)
  spur_loop_in = (a.half k in_k uk.2).loop_in

  -- the loop is in use
  pub spur_loop_used : c Face (c Loop k) ≢ 0
  spur_loop_used = (a.half k in_k uk.2).loop_used

  -- what follows the mate starts where k does
  pub spur_start_N : c Start (c Next (mate k)) ≡ c Start k
  spur_start_N = a.rules.verts.keeps k uk

  -- k's vertex as a number
  pub near_in : In sh.vertices (c Start k)
  near_in = (a.half k in_k uk.2).start_in

  -- k's vertex is in use
  pub near_used : c VertexUsed (c Start k) ≢ 0
  near_used = (a.half k in_k uk.2).start_used

  -- the mate's vertex as a number
  pub far_in : In sh.vertices (c Start (mate k))
  far_in = (a.half (mate k) in_b used_b.2).start_in

  -- the mate's vertex is in use
  pub far_used : c VertexUsed (c Start (mate k)) ≢ 0
  far_used = (a.half (mate k) in_b used_b.2).start_used

  -- the mate alone starts at its vertex
  pub only_b : (i : ℕ) → HalfUsed sh c i → c Start i ≡ c Start (mate k) → i ≡ mate k
  only_b = alone a.rules.verts used_b (ap (c Next) (mate_mate k) ∙ nk)

  -- so the two ends differ
  pub ends : c Start k ≢ c Start (mate k)
  ends e = kb (only_b k uk e)

  -- what names a loop is in use
  pub named_used : (i : ℕ) → In (2 * sh.edges) i → c Loop i ≡ c Loop k → HalfUsed sh c i
  named_used i j e = (j.0, j.1, λ z. omega (arith, spur_loop_in.0, sym e ∙ (a.half_free i j z).loop))

  -- where k follows the mate, k alone starts at its vertex
  pub whole_start : c Next (mate k) ≡ k → (i : ℕ) → HalfUsed sh c i → c Start i ≡ c Start k → i ≡ k
  whole_start e = alone a.rules.verts uk e

  -- and the loop has no other half-edges
  pub whole_loop : c Next (mate k) ≡ k → (i : ℕ) → HalfUsed sh c i → c Loop i ≡ c Loop k
      → (i ≡ k) ⊎ (i ≡ mate k)
  whole_loop e i w q = split i (mate k) (λ z. inr z) (λ z.
      inl (alone (out_cycles a.rules.loops (mate k) k uk nk bk) (uk, kb) (upd_same _ k _ ∙ e) i (w, z) q))
