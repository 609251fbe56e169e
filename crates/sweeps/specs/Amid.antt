-- The sweep of one loop between two of its operators: what it starts from, what its numbers are, and what mev and mef
-- leave of that.
use Rattle.std.specs.Prelude.{◌≡◌, ◌≢◌, List, ℕ, suc, ◌+◌, ◌-◌, ◌*◌, ◌≤◌, ◌<◌, T, ℤ}
use Rattle.std.proofs.Common.{sym, ap, ◌∙◌, subst, arith}
use Rattle.laws.specs.Bools.{split, eqb_same, eqb_other}
use Rattle.layout.specs.declared.shape.Shape.{Shape}
use Rattle.layout.specs.Mate.{mate}
use Rattle.layout.specs.MateLaws.{mate_mate}
use Rattle.layout.specs.Points.{point_width, range_test}
use Rattle.layout.specs.Fields.{Face, Start, Loop, Prev, Columns}
use Rattle.sound_tables.specs.Sound.{In, HalfUsed, Sound}
use Rattle.sound_tables.specs.Names.{free_halves}
use Rattle.sound_tables.specs.PointLists.{three}
use Rattle.chains.specs.Numbers.{Names, odd_mate}
use Rattle.sweeps.specs.Sweep.{down_at}
use Rattle.sweeps.specs.Raised.{Raised}
use Rattle.sweeps.specs.Closed.{Parted}
use Rattle.sweeps.specs.Rising.{before, Different}
use Rattle.sweeps.specs.Frames.{Keeps, keeps_less, keeps_then, loop_keeps, Grew, grew_raised, grew_parted}
use Rattle.sweeps.specs.Numbers.{Supply, Fresh, fresh_raised, fresh_parted, Taking, taking_raised, taking_parted}
use Rattle.sweeps.specs.Lifted.{up_at, after_at, top_at, end_at}

-- ---- what it starts from

-- the corners k 0 .. k z of loop l, in the order of the loop
pub record Lap (sh : Shape) (c : Columns) (l z : ℕ) (k : ℕ → ℕ) : Type 0 where
  pub used : (j : ℕ) → j ≤ z → HalfUsed sh c (k j)
  pub loop : (j : ℕ) → j ≤ z → c Loop (k j) ≡ l
  pub prev : (j : ℕ) → j ≤ z → c Prev (k j) ≡ before k z j
  pub apart : Different z k

-- loop l of the columns c₀ at the call can be swept: its corners k, their points moved to X, Y, Z, numbers N enough; B
-- corners are swept before it
pub record Setting (sh : Shape) (c₀ : Columns) (N : Names) (ne nn l z B : ℕ) (k : ℕ → ℕ) (X Y Z : ℕ → ℤ) : Type 0 where
  pub points : List ℤ
  pub sound : Sound sh points c₀
  pub supply : Supply sh c₀ N ne nn
  pub fresh : Fresh c₀ N ne nn 0 0 0
  pub lap : Lap sh c₀ l z k
  pub l_in : In sh.loops l
  pub l_used : c₀ Face l ≢ 0
  pub range : (j : ℕ) → j ≤ z → (i : ℕ) → i < point_width → T (range_test (three (X j) (Y j) (Z j) i))
  pub edges : 2 * B + suc z + suc z ≤ ne
  pub others : B + suc z ≤ nn

-- ---- between two operators

-- the loop is in use; from the loop's start, c₁ and p₁, other loops are kept; the numbers before these places are taken
-- and those from them on are free
pub record Amid (sh : Shape) (c₀ c₁ : Columns) (p₁ : List ℤ) (c : Columns) (p : List ℤ) (l : ℕ) (N : Names)
    (ne n e v f : ℕ) : Type 0 where
  pub used : c Face l ≢ 0
  pub keeps : Keeps sh c₁ p₁ c p (λ m. m ≢ l)
  pub fresh : Fresh c N ne n e v f
  pub taking : Taking sh c₀ c N e v f
  pub grew : Grew sh c₀ c e v f

-- at the same places
pub amid_at : {sh : Shape} {c₀ c₁ c : Columns} {p₁ p : List ℤ} {l : ℕ} {N : Names} {ne n e v f e' v' f' : ℕ} → e ≡ e'
    → v ≡ v' → f ≡ f' → Amid sh c₀ c₁ p₁ c p l N ne n e v f → Amid sh c₀ c₁ p₁ c p l N ne n e' v' f'
amid_at {sh} {c₀} {c₁} {c} {p₁} {p} {l} {N} {ne} {n} {e} {v} {f} {e'} {v'} {f'} a b g q =
    subst (λ m. Amid sh c₀ c₁ p₁ c p l N ne n m v' f') a
    (subst (λ m. Amid sh c₀ c₁ p₁ c p l N ne n e m f') b
    (subst (λ m. Amid sh c₀ c₁ p₁ c p l N ne n e v m) g q))

module _ {sh : Shape} {c₀ c₁ c d : Columns} {p₁ p q : List ℤ} {l : ℕ} {N : Names} {ne n e v f : ℕ}
    (s : Supply sh c₀ N ne n) (a : Amid sh c₀ c₁ p₁ c p l N ne n e v f) (li : In sh.loops l)
    (K : Keeps sh c p d q (λ m. m ≢ l)) (ej : e < ne) where
  -- other loops are kept still
  kept : Keeps sh c₁ p₁ d q (λ m. m ≢ l)
  kept = keeps_less (keeps_then a.keeps K) (λ m o. (o, o))

  -- mev with the next edge and vertex
  pub amid_raised : {h : ℕ} → v < n → Raised sh c d l h (2 * N.edge e - 1) (N.vertex v)
      → Amid sh c₀ c₁ p₁ d q l N ne n (e + 1) (v + 1) f
  amid_raised vj R = record {
    used = loop_keeps K l li a.used;
    keeps = kept;
    fresh = fresh_raised s a.fresh ej vj R;
    taking = taking_raised a.taking (s.edge_in_range e ej).0 (s.vertex_in v vj).0 R;
    grew = grew_raised a.grew (N.edge e) (s.edge_in_range e ej) (a.fresh.edges e (omega arith) ej) (s.vertex_in v vj)
        (a.fresh.vertices v (omega arith) vj) R;
  }

  -- mef with the next edge, face and loop
  pub amid_parted : f < n → Parted sh c d l (2 * N.edge e - 1) (mate (2 * N.edge e - 1)) (N.face f) (N.loop f)
      → Amid sh c₀ c₁ p₁ d q l N ne n (e + 1) v (f + 1)
  amid_parted fj A = record {
    used = loop_keeps K l li a.used;
    keeps = kept;
    fresh = fresh_parted s a.fresh ej fj A;
    taking = taking_parted a.taking (s.edge_in_range e ej).0 (s.face_in_lem f fj).0 A;
    grew = grew_parted a.grew (N.edge e) (s.edge_in_range e ej) (a.fresh.edges e (omega arith) ej) (s.face_in_lem f fj)
        (a.fresh.faces f (omega arith) fj) (s.loop_in f fj) (a.fresh.loops f (omega arith) fj) A;
  }

-- ---- its half-edges are different

module _ {sh : Shape} {c₀ : Columns} {N : Names} {ne nn l z B : ℕ} {k : ℕ → ℕ} {X Y Z : ℕ → ℤ}
    (Q : Setting sh c₀ N ne nn l z B k X Y Z) where
  -- the up half of riser j
  abbrev r : ℕ → ℕ
  r j = up_at N B j

  -- the down half
  abbrev H : ℕ → ℕ
  H j = down_at N B j

  -- the riser after corner j
  abbrev S : ℕ → ℕ
  S j = after_at N z B j

  -- the half of side j's edge that stays in the loop
  abbrev a : ℕ → ℕ
  a j = top_at N z B j

  -- where side j ends
  abbrev E : ℕ → ℕ
  E j = end_at N z B j

  -- ranks are low enough: of a riser's edge
  pub riser_rank : (j : ℕ) → j ≤ z → 2 * B + j < ne
  riser_rank j u = omega (arith, Q.edges)

  -- of a side's edge
  pub side_rank : (j : ℕ) → j ≤ z → 2 * B + suc z + j < ne
  side_rank j u = omega (arith, Q.edges)

  -- of a vertex, a face, a loop
  pub corner_rank : (j : ℕ) → j ≤ z → B + j < nn
  corner_rank j u = omega (arith, Q.others)

  -- an edge's halves are free at first
  free₀ : (e : ℕ) → e < ne → In (2 * sh.edges) (2 * N.edge e - 1) × (c₀ Start (2 * N.edge e - 1) ≡ 0)
      × (c₀ Start (mate (2 * N.edge e - 1)) ≡ 0)
  free₀ e u = free_halves Q.sound (N.edge e) 0 (Q.supply.edge_in_range e u) (Q.fresh.edges e (omega arith) u)

  -- so an up half is no corner
  pub up_no_corner : (j m : ℕ) → j ≤ z → m ≤ z → r j ≢ k m
  up_no_corner j m u w e = (Q.lap.used m w).2 (ap (c₀ Start) (sym e) ∙ (free₀ (2 * B + j) (riser_rank j u)).1)

  -- nor a down half
  pub down_no_corner : (j m : ℕ) → j ≤ z → m ≤ z → H j ≢ k m
  down_no_corner j m u w e = (Q.lap.used m w).2 (ap (c₀ Start) (sym e) ∙ (free₀ (2 * B + j) (riser_rank j u)).2)

  -- nor a side's
  pub top_no_corner : (j m : ℕ) → j ≤ z → m ≤ z → a j ≢ k m
  top_no_corner j m u w e = (Q.lap.used m w).2 (ap (c₀ Start) (sym e) ∙ (free₀ (2 * B + suc z + j) (side_rank j u)).1)

  -- a new loop is not this one
  pub new_loop : (j : ℕ) → j ≤ z → N.loop (B + j) ≢ l
  new_loop j u e = Q.l_used (ap (c₀ Face) (sym e) ∙ Q.fresh.loops (B + j) (omega arith) (corner_rank j u))

  -- first halves of different ranks differ
  odd_apart : (i j : ℕ) → i < ne → j < ne → 2 * N.edge i - 1 ≡ 2 * N.edge j - 1 → i ≡ j
  odd_apart i j u w e =
      Q.supply.edge_apart i j u w (omega (arith, e, (Q.supply.edge_in_range i u).0, (Q.supply.edge_in_range j w).0))

  -- a second half is no first half
  odd_even : (i j : ℕ) → i < ne → j < ne → 2 * N.edge i - 1 ≢ mate (2 * N.edge j - 1)
  odd_even i j u w e =
      omega (arith, e ∙ odd_mate (N.edge j) (Q.supply.edge_in_range j w).0, (Q.supply.edge_in_range i u).0)

  -- the up halves differ
  pub ups_differ : (i j : ℕ) → i ≤ z → j ≤ z → r i ≡ r j → i ≡ j
  ups_differ i j u w e = omega (arith, odd_apart (2 * B + i) (2 * B + j) (riser_rank i u) (riser_rank j w) e)

  -- the down halves too
  pub downs_differ : (i j : ℕ) → i ≤ z → j ≤ z → H i ≡ H j → i ≡ j
  downs_differ i j u w e = ups_differ i j u w (sym (mate_mate (r i)) ∙ ap mate e ∙ mate_mate (r j))

  -- an up half is no down half
  pub up_no_down : (i j : ℕ) → i ≤ z → j ≤ z → r i ≢ H j
  up_no_down i j u w = odd_even (2 * B + i) (2 * B + j) (riser_rank i u) (riser_rank j w)

  -- nor is a side's
  pub top_no_down : (i j : ℕ) → i ≤ z → j ≤ z → a i ≢ H j
  top_no_down i j u w = odd_even (2 * B + suc z + i) (2 * B + j) (side_rank i u) (riser_rank j w)

  -- a side's is no up half
  top_no_up : (i j : ℕ) → i ≤ z → j ≤ z → a i ≢ r j
  top_no_up i j u w e = omega (arith, w, odd_apart (2 * B + suc z + i) (2 * B + j) (side_rank i u) (riser_rank j w) e)

  -- S j is a riser
  pub after_is_up : (P : ℕ → Type 0) (j : ℕ) → j ≤ z → ((m : ℕ) → m ≤ z → P (r m)) → P (S j)
  after_is_up P j u h = split j z (λ e. rw (eqb_same e) (h 0 (omega arith))) (λ e. rw (eqb_other e) (h (suc j) (omega
      arith)))

  -- so a side's is no S j
  pub top_no_after : (i j : ℕ) → i ≤ z → j ≤ z → a i ≢ S j
  top_no_after i j u w = after_is_up (λ n. a i ≢ n) j w (λ m h. top_no_up i m u h)

  -- risers after different corners differ
  pub afters_differ : (i j : ℕ) → i ≤ z → j ≤ z → S i ≡ S j → i ≡ j
  afters_differ i j u w = split i z
      (λ e. split j z (λ f y. e ∙ sym f) (λ f. rw (eqb_same e, eqb_other f) (λ y. absurd (omega (
        arith,
        ups_differ 0 (suc j)
            (omega arith) (omega arith) y,
      )))))
      (λ e. split j z (λ f. rw (eqb_other e, eqb_same f) (λ y. absurd (omega (
        arith,
        ups_differ (suc i) 0 (omega arith) (omega
            arith) y,
      ))))
      (λ f. rw (eqb_other e, eqb_other f)
      (λ y. omega (arith, ups_differ (suc i) (suc j) (omega arith) (omega arith) y))))

  -- where a side ends is no down half of an earlier one
  pub end_no_down : (i j : ℕ) → i ≤ z → j ≤ i → E i ≢ H j
  end_no_down i j u w = split i z
      (λ e. rw (eqb_same e) (top_no_down 0 j (omega arith) (omega arith)))
      (λ e. rw (eqb_other e) (λ y. omega (arith, w, downs_differ (suc i) j (omega arith) (omega arith) y)))
