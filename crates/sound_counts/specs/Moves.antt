-- An accepted operator changes the face of one loop at most, the one that `moved_loop` names: operator by operator, and
-- then for all.
use Rattle.std.specs.Prelude.{◌≡◌, ◌≢◌, ◌⊎◌, false, List, ℕ, ◌*◌, ◌≤◌, ◌<◌, eqb, ℤ, length, get_or}
use Rattle.std.proofs.Math.Path.{refl, subst}
use Rattle.std.proofs.Common.{sym, inl, inr, arith, lit≤}
use Rattle.laws.specs.Bools.{pick_ind, split}
use Rattle.bounds.specs.Bounds.{most_halves}
use Rattle.script.specs.declared.Operator.{Operator}
use Rattle.codec.specs.Operands.{coordinate, pattern, rows}
use Rattle.layout.specs.declared.shape.Shape.{Shape}
use Rattle.layout.specs.Layout.{face_solid, face_outer, loop_face, start_of, loop_of, next_of, prev_of, side}
use Rattle.layout.specs.Fields.{Outer, Start, VertexUsed}
use Rattle.layout.specs.Mate.{mate}
use Rattle.layout.specs.Items.{face_in}
use Rattle.euler.specs.Surgery.{item_of, tie, insert_after}
use Rattle.euler.specs.EdgeOperators.{mev_links, kev_links, mef_links, kef_links, kemr_links, mekr_links}
use Rattle.euler.specs.FaceOperators.{mvsf_links, kvsf_links, kfmrh_links, mfkrh_links, rmov_links, ring_face}
use Rattle.euler.specs.EdgeOperators.{semv_links, jekv_links}
use Rattle.euler.specs.Steps.{does, after}
use Rattle.euler.specs.Valence.{leave_of, come_of, less_at, less_starts, more_starts}
use Rattle.euler.specs.Exec.{limits, links_by, marks_after, links_after, refusal_of}
use Rattle.sound_tables.specs.Sound.{In}
use Rattle.sound_tables.specs.Accepted.{by_thirteen, limit_of}
use Rattle.sound_tables.specs.Good.{Good}
use Rattle.euler_counts.specs.Counts.{moved_loops, moved_loop}
use Rattle.sound_counts.specs.Stays.{InOrder, in_order, Stays, store_stays, free_stays, solid_stays}
use Rattle.sound_counts.specs.Stays.{other_stays, put_half_stays, put_face_stays, put_loop_stays, tie_stays}
use Rattle.sound_counts.specs.Stays.{between_stays, edge_in_stays, edge_out_stays, relabel_stays, renew_stays}
use Rattle.sound_counts.specs.Stays.{sweep_stays, clear_half_stays, less_stays, more_stays}
use Rattle.sound_tables.specs.Caps.{least_cap, loop_cap, face_cap, solid_cap, outer_cap, operand_cap}

-- from x to y no loop but m changes its face, and m is at most the number of loops
pub record Moves (sh : Shape) (x y : List ℕ) (m : ℕ) : Type 0 where
  pub cap : m ≤ sh.loops
  pub others : (l : ℕ) → In sh.loops l → l ≢ m → Stays sh l x y

-- ---- operator by operator

module _ {sh : Shape} (b : InOrder sh) {l : ℕ} (i : In sh.loops l) (x : List ℕ) where
  -- nothing has happened yet
  start : Stays sh l x x
  start = record { same = refl }

  -- behind each of them: the vertex words
  words_stay : {y : List ℕ} (o : Operator) → Stays sh l x y → Stays sh l x (more_starts sh o (less_starts sh x o y))
  unfolding less_starts more_starts
  words_stay {y} o s =
      let t = leave_of sh x o in
      let c = come_of sh (less_at sh y t) o in
      more_stays b i c.other (more_stays b i c.one (less_stays b i t.other (less_stays b i t.one s)))

  -- 1: its loop m is new
  mvsf_stays : (s f m v : ℕ) → s ≤ sh.solids → f ≤ sh.faces → l ≢ m → Stays sh l x (mvsf_links sh x s f m v)
  unfolding mvsf_links
  mvsf_stays s f m v hs hf d =
      free_stays b i VertexUsed v 1 refl
      (put_loop_stays b i m f 0 v d (put_face_stays b i f s m hf (solid_stays b i s 1 hs start)))

  -- 2: its loop m is killed
  kvsf_stays : (s f m v : ℕ) → s ≤ sh.solids → f ≤ sh.faces → l ≢ m → Stays sh l x (kvsf_links sh x s f m v)
  unfolding kvsf_links
  kvsf_stays s f m v hs hf d =
      free_stays b i VertexUsed v 0 refl
      (put_loop_stays b i m 0 0 0 d (put_face_stays b i f 0 0 hf (solid_stays b i s 0 hs start)))

  -- 3: no loop changes its face
  mev_stays : (m h k v : ℕ) → Stays sh l x (mev_links sh x m h k v)
  unfolding mev_links
  mev_stays m h k v =
      free_stays b i VertexUsed v 1 refl (renew_stays b i m _ k 0 (edge_in_stays b i k _ _ _ _ _ _ _ _ start))

  -- 4: no loop changes its face
  kev_stays : (k : ℕ) → Stays sh l x (kev_links sh x k)
  unfolding kev_links
  kev_stays k =
      free_stays b i VertexUsed (start_of sh x (mate k)) 0 refl
      (renew_stays b i _ _ _ _ (edge_out_stays b i k _ _ _ _ start))

  -- 5: the new loop m2 gets the new face f
  mef_stays : (m h1 h2 a f m2 w : ℕ) → f ≤ sh.faces → l ≢ m2 → Stays sh l x (mef_links sh x m h1 h2 a f m2 w)
  unfolding mef_links
  mef_stays m h1 h2 a f m2 w hf d =
      renew_stays b i m2 _ (mate a) 0
      (renew_stays b i m _ a 0
      (put_face_stays b i f _ m2 hf
      (put_loop_stays b i m2 f 0 0 d (relabel_stays b i _ _ _ m2 (edge_in_stays b i a _ _ _ _ _ _ _ _ start)))))

  -- 6: the loop of k is killed
  kef_stays : (k : ℕ) → side sh x k ≤ sh.faces → l ≢ loop_of sh x k → Stays sh l x (kef_links sh x k)
  unfolding kef_links
  kef_stays k hf d =
      renew_stays b i _ _ _ _
      (put_loop_stays b i _ 0 0 0 d
      (put_face_stays b i _ 0 0 hf (edge_out_stays b i k _ _ _ _ (relabel_stays b i _ _ _ _ start))))

  -- 7: the new loop m gets the face of k
  kemr_stays : (k m : ℕ) → l ≢ m → Stays sh l x (kemr_links sh x k m)
  unfolding kemr_links
  kemr_stays k m d =
      renew_stays b i _ _ _ _
      (renew_stays b i m _ _ _
      (put_loop_stays b i m _ 0 0 d (edge_out_stays b i k _ _ _ _ (relabel_stays b i _ _ _ m start))))

  -- 8: the loop m2 is killed
  mekr_stays : (m h1 m2 h2 k : ℕ) → l ≢ m2 → Stays sh l x (mekr_links sh x m h1 m2 h2 k)
  unfolding mekr_links
  mekr_stays m h1 m2 h2 k d =
      renew_stays b i m _ k 0
      (put_loop_stays b i m2 0 0 0 d (relabel_stays b i _ _ _ m (edge_in_stays b i k _ _ _ _ _ _ _ _ start)))

  -- 9: the loop of f2 goes to f1
  kfmrh_stays : (f1 f2 : ℕ) → f2 ≤ sh.faces → face_solid sh x f1 ≤ sh.solids → face_solid sh x f2 ≤ sh.solids
      → l ≢ face_outer sh x f2 → Stays sh l x (kfmrh_links sh x f1 f2)
  unfolding kfmrh_links
  kfmrh_stays f1 f2 hf h1 h2 d =
      solid_stays b i _ 1 h1
      (solid_stays b i _ 0 h2
      (sweep_stays b i _ _ (omega arith) (put_face_stays b i f2 0 0 hf (other_stays b i _ f1 d start))))

  -- 10: the ring m goes to the new face f
  mfkrh_stays : (m f s : ℕ) → f ≤ sh.faces → s ≤ sh.solids → l ≢ m → Stays sh l x (mfkrh_links sh x m f s)
  unfolding mfkrh_links
  mfkrh_stays m f s hf hs d =
      let r = other_stays b i m f d (put_face_stays b i f (face_solid sh x (loop_face sh x m)) m hf start) in
      pick_ind (λ ss. Stays sh l x (after sh ss (ring_face sh x m f))) (eqb s 0) _ _ r
      (sweep_stays b i _ _ (omega arith) (solid_stays b i s 1 hs r))

  -- after k goes the half-edge n
  after_stays : {y : List ℕ} (k n v m : ℕ) → Stays sh l x y → Stays sh l x (insert_after sh y k n v m)
  after_stays {y} k n v m s =
      between_stays b i k n (next_of sh y k) (put_half_stays b i n v m (next_of sh y k) k s)

  -- 11: no loop changes its face
  semv_stays : (k n v : ℕ) → Stays sh l x (semv_links sh x k n v)
  unfolding semv_links
  semv_stays k n v =
      let y = insert_after sh x k n v (loop_of sh x k) in
      free_stays b i VertexUsed v 1 refl
      (renew_stays b i _ _ (mate k) 0
      (renew_stays b i _ _ k 0
      (free_stays b i Start (mate k) v refl
      (after_stays (prev_of sh y (mate k)) (mate n) (start_of sh x (mate k)) (loop_of sh x (mate k))
      (after_stays k n v (loop_of sh x k) start)))))

  -- 12: no loop changes its face
  jekv_stays : (k n : ℕ) → Stays sh l x (jekv_links sh x k n)
  unfolding jekv_links
  jekv_stays k n =
      let y = tie sh x k (next_of sh x n) in
      free_stays b i VertexUsed (start_of sh x n) 0 refl
      (renew_stays b i _ _ (mate k) 0
      (renew_stays b i _ _ k 0
      (clear_half_stays b i (mate n)
      (clear_half_stays b i n
      (free_stays b i Start (mate k) (start_of sh x (mate n)) refl
      (tie_stays b i (prev_of sh y (mate n)) (mate k) (tie_stays b i k (next_of sh x n) start)))))))

  -- 13: the ring m goes to f, or stays and becomes outer
  rmov_stays : (m f : ℕ) → f ≤ sh.faces → l ≢ m → Stays sh l x (rmov_links sh x m f)
  unfolding rmov_links
  rmov_stays m f hf d =
      pick_ind (λ s. Stays sh l x (does sh s x)) (eqb f (loop_face sh x m)) _ _
      (store_stays b i Outer f m (inl hf) (inl refl) start) (other_stays b i m f d start)

-- ---- an accepted operator

module _ (sh : Shape) (x : List ℕ) (p : List ℤ) (o : Operator) (g : Good sh x p) (len : length o.args ≡ 8)
    (h : refusal_of sh x o ≡ 0) where
  -- the order of the records
  order : InOrder sh
  order = in_order sh (length x) g.fit

  -- what the operator does, read off the lists at its code
  by_code : (n : ℕ) → o.code ≡ n
      → Moves sh x (get_or (links_by sh x (item_of o)) n x) (get_or (moved_loops sh x (item_of o)) n 0)
      → Moves sh x (links_after sh x o) (moved_loop sh x o)
  unfolding links_after marks_after moved_loop
  by_code n e r =
      let s = subst (λ k. Moves sh x (get_or (links_by sh x (item_of o)) k x)
      (get_or (moved_loops sh x (item_of o)) k 0))
      (sym e) r in
      record {
        cap = s.cap;
        others = λ l i d. words_stay order i x o (s.others l i d);
      }

  -- an operator that moves no loop
  still : {y : List ℕ} → ((l : ℕ) → In sh.loops l → Stays sh l x y) → Moves sh x y 0
  still s = record { cap = omega arith; others = λ l i d. s l i }

  -- operand i of code n is at most cap
  operand : (n i cap : ℕ) → o.code ≡ n → length (pattern n).kinds ≡ 8 → i < 8
      → eqb (get_or (pattern n).kinds i 0) coordinate ≡ false
      → limit_of (limits sh) (get_or (pattern n).kinds i 0) ≡ cap
      → cap ≤ most_halves → item_of o i ≤ cap
  operand = operand_cap sh x o len h

  -- the capacities are numbers that an operand can name
  solids_small : sh.solids ≤ most_halves
  solids_small = omega (arith, g.capacities.solids)

  -- of faces
  faces_small : sh.faces ≤ most_halves
  faces_small = omega (arith, g.capacities.faces)

  -- of loops
  loops_small : sh.loops ≤ most_halves
  loops_small = omega (arith, g.capacities.loops)

  -- of half-edges
  halves_small : 2 * sh.edges ≤ most_halves
  halves_small = omega (arith, g.capacities.edges)

  -- 1: face and solid are operands
  moves_mvsf : o.code ≡ 1 → Moves sh x (links_after sh x o) (moved_loop sh x o)
  unfolding pattern rows
  moves_mvsf e = by_code 1 e (record {
    cap = operand 1 2 sh.loops e refl (lit≤ tt) refl refl loops_small;
    others = λ l i d. mvsf_stays order i x _ _ _ _
        (operand 1 0 sh.solids e refl (lit≤ tt) refl refl solids_small)
        (operand 1 1 sh.faces e refl (lit≤ tt) refl refl faces_small) d;
  })

  -- 2: its face is the least of the solid
  moves_kvsf : o.code ≡ 2 → Moves sh x (links_after sh x o) (moved_loop sh x o)
  unfolding pattern rows
  moves_kvsf e =
      let f : face_in sh x (item_of o 0) ≤ sh.faces = least_cap sh.faces _ in
      by_code 2 e (record {
        cap = outer_cap _ g.sound (face_in sh x (item_of o 0)) f;
        others = λ l i d. kvsf_stays order i x _ _ _ _
            (operand 2 0 sh.solids e refl (lit≤ tt) refl refl solids_small) f d;
      })

  -- 3: none is moved
  moves_mev : o.code ≡ 3 → Moves sh x (links_after sh x o) (moved_loop sh x o)
  moves_mev e = by_code 3 e (still (λ l i. mev_stays order i x _ _ _ _))

  -- 4: none is moved
  moves_kev : o.code ≡ 4 → Moves sh x (links_after sh x o) (moved_loop sh x o)
  moves_kev e = by_code 4 e (still (λ l i. kev_stays order i x _))

  -- 5: the face is an operand
  moves_mef : o.code ≡ 5 → Moves sh x (links_after sh x o) (moved_loop sh x o)
  unfolding pattern rows
  moves_mef e = by_code 5 e (record {
    cap = operand 5 5 sh.loops e refl (lit≤ tt) refl refl loops_small;
    others = λ l i d. mef_stays order i x _ _ _ _ _ _ _
        (operand 5 4 sh.faces e refl (lit≤ tt) refl refl faces_small) d;
  })

  -- 6: the face and the loop are those of k
  moves_kef : o.code ≡ 6 → Moves sh x (links_after sh x o) (moved_loop sh x o)
  unfolding pattern rows
  moves_kef e =
      let c = loop_cap _ g.sound (item_of o 0) (operand 6 0 (2 * sh.edges) e refl (lit≤ tt) refl refl halves_small) in
      by_code 6 e (record { cap = c; others = λ l i d. kef_stays order i x _ (face_cap _ g.sound _ c) d })

  -- 7: the loop is an operand
  moves_kemr : o.code ≡ 7 → Moves sh x (links_after sh x o) (moved_loop sh x o)
  unfolding pattern rows
  moves_kemr e = by_code 7 e (record {
    cap = operand 7 1 sh.loops e refl (lit≤ tt) refl refl loops_small;
    others = λ l i d. kemr_stays order i x _ _ d;
  })

  -- 8: the loop is an operand
  moves_mekr : o.code ≡ 8 → Moves sh x (links_after sh x o) (moved_loop sh x o)
  unfolding pattern rows
  moves_mekr e = by_code 8 e (record {
    cap = operand 8 2 sh.loops e refl (lit≤ tt) refl refl loops_small;
    others = λ l i d. mekr_stays order i x _ _ _ _ _ d;
  })

  -- 9: the solids are those of the faces
  moves_kfmrh : o.code ≡ 9 → Moves sh x (links_after sh x o) (moved_loop sh x o)
  unfolding pattern rows
  moves_kfmrh e =
      let f1 = operand 9 0 sh.faces e refl (lit≤ tt) refl refl faces_small in
      let f2 = operand 9 1 sh.faces e refl (lit≤ tt) refl refl faces_small in
      by_code 9 e (record {
        cap = outer_cap _ g.sound (item_of o 1) f2;
        others = λ l i d. kfmrh_stays order i x _ _ f2 (solid_cap _ g.sound (item_of o 0) f1)
            (solid_cap _ g.sound (item_of o 1) f2) d;
      })

  -- 10: face and solid are operands
  moves_mfkrh : o.code ≡ 10 → Moves sh x (links_after sh x o) (moved_loop sh x o)
  unfolding pattern rows
  moves_mfkrh e = by_code 10 e (record {
    cap = operand 10 0 sh.loops e refl (lit≤ tt) refl refl loops_small;
    others = λ l i d. mfkrh_stays order i x _ _ _
        (operand 10 1 sh.faces e refl (lit≤ tt) refl refl faces_small)
        (operand 10 2 sh.solids e refl (lit≤ tt) refl refl solids_small) d;
  })

  -- 11: none is moved
  moves_semv : o.code ≡ 11 → Moves sh x (links_after sh x o) (moved_loop sh x o)
  moves_semv e = by_code 11 e (still (λ l i. semv_stays order i x _ _ _))

  -- 12: none is moved
  moves_jekv : o.code ≡ 12 → Moves sh x (links_after sh x o) (moved_loop sh x o)
  moves_jekv e = by_code 12 e (still (λ l i. jekv_stays order i x _ _))

  -- 13: loop and face are operands
  moves_rmov : o.code ≡ 13 → Moves sh x (links_after sh x o) (moved_loop sh x o)
  unfolding pattern rows
  moves_rmov e = by_code 13 e (record {
    cap = operand 13 0 sh.loops e refl (lit≤ tt) refl refl loops_small;
    others = λ l i d. rmov_stays order i x _ _ (operand 13 1 sh.faces e refl (lit≤ tt) refl refl faces_small) d;
  })

  -- whichever it is, it moves the loop that is named and no other
  pub moves : Moves sh x (links_after sh x o) (moved_loop sh x o)
  moves =
      by_thirteen sh x o h moves_mvsf moves_kvsf moves_mev moves_kev moves_mef moves_kef moves_kemr moves_mekr
      moves_kfmrh moves_mfkrh moves_semv moves_jekv moves_rmov

  -- an accepted operator changes the face of no loop but the one that `moved_loop` names
  pub others_stay : (l : ℕ) → In sh.loops l → l ≢ moved_loop sh x o
      → loop_face sh (links_after sh x o) l ≡ loop_face sh x l
  others_stay l i d = (moves.others l i d).same

  -- which is none, or a loop that the table can have
  pub moved_in : (moved_loop sh x o ≡ 0) ⊎ In sh.loops (moved_loop sh x o)
  moved_in = split (moved_loop sh x o) 0 (λ z. inl z) (λ d. inr (omega arith, moves.cap))
