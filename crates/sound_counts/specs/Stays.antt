-- What the parts of the operators leave as it was: the face of a loop. Every part is a row of stores, and a store
-- changes that word only where it writes the face of this very loop.
use Rattle.std.specs.Prelude.{◌≡◌, ◌≢◌, ◌⊎◌, Bool, true, false, not, ◌&&◌, List, [], ◌∷◌, eqb, leb, ltb}
use Rattle.std.proofs.Math.Path.{refl}
use Rattle.std.proofs.Common.{sym, ap, ◌∙◌, subst, inl, inr, ⊎_elim, arith, leb→le, lit≤, get_or-set_other}
use Rattle.std.proofs.lemmas.Bool.{false≢true, not-true}
use Prim.Native.Nat.{ℕ, zero, suc, ◌+◌, ◌-◌, ◌*◌, ◌≤◌, ◌<◌}
use Rattle.laws.specs.Bools.{pick, pick_ind, true_T, T_true, and_T, le?, eqb_same}
use Rattle.laws.specs.Columns.{sweep, Chained, in_kind, word_apart}
use Rattle.layout.specs.declared.shape.Shape.{Shape}
use Rattle.layout.specs.Fields.{Field, SolidUsed, Solid, Outer, Face, First, Isolated, Loop, loop_kind, group_of}
use Rattle.layout.specs.Fields.{word_of}
use Rattle.layout.specs.Fields.{VertexUsed, half_kind, groups, group_at, cap_of, put, sweep_field, same_field, field_in}
use Rattle.layout.specs.Layout.{loop_face, next_of, vertex_used, set_solid_used, set_loop_face, set_loop}
use Rattle.layout.specs.Writes.{Write, writes, cleared}
use Rattle.euler.specs.Surgery.{half_record, tied, seated, edge_writes, no_edge_writes, tie, between, put_half}
use Rattle.euler.specs.Surgery.{put_face}
use Rattle.euler.specs.Surgery.{put_loop, edge_in, edge_out, relabel, renew}
use Rattle.euler.specs.Valence.{one_less, one_more}
use Rattle.sound_tables.specs.Cells.{end, chain_apart}
use Rattle.sound_tables.specs.Sound.{In}

-- the kinds of record stand one behind the other
pub record InOrder (sh : Shape) : Type 0 where
  pub last : ℕ
  pub chain : Chained 0 (groups sh) last

-- so they do where they fill a table
pub in_order : (sh : Shape) (n : ℕ) → Chained 0 (groups sh) n → InOrder sh
in_order sh n c = record { last = n; chain = c }

-- loop l has the face in y that it has in x
pub record Stays (sh : Shape) (l : ℕ) (x y : List ℕ) : Type 0 where
  pub same : loop_face sh y l ≡ loop_face sh x l

-- record k is one of F's kind; or the kind is not before the loops, and then the number does not matter
abbrev Held : Shape → Field → ℕ → Type 0
Held sh F k = (k ≤ cap_of sh F) ⊎ (loop_kind ≤ group_of F)

-- F of record k is not the face of loop l: it is another field, or another record
abbrev Other : Field → ℕ → ℕ → Type 0
Other F l k = (same_field F Face ≡ false) ⊎ (l ≢ k)

-- no store to this field meets the face of a loop: it is another one, of loops or of what stands behind them
abbrev free : Field → Bool
free F = leb loop_kind (group_of F) && not (same_field F Face)

abbrev all_free : List Write → Bool
all_free [] = true
all_free (w ∷ ws) = free w.field && all_free ws

-- word w of record n of kind g, records counted from 0
abbrev place : Shape → ℕ → ℕ → ℕ → ℕ
place sh g w n = (group_at sh g).base + (group_at sh g).width * n + w

-- such a store is to another word than the face of loop m
apart : {sh : Shape} (b : InOrder sh) (F : Field) (n m : ℕ) → Held sh F (suc n) → m < sh.loops
    → Other F (suc m) (suc n)
    → place sh (group_of F) (word_of F) n ≢ place sh loop_kind (word_of Face) m
apart {sh} b F n m h u d e =
    ⊎_elim (λ g. ⊎_elim (λ g'. inside (omega arith)) behind (le? (group_of F) loop_kind)) before
    (le? loop_kind (group_of F))
  where
    -- the place of the loop's face lies among the loops
    among : place sh loop_kind (word_of Face) m < end (group_at sh loop_kind)
    among = in_kind (group_at sh loop_kind) (word_of Face) m (field_in sh Face).0 u

    -- a kind before the loops has ended there
    before : group_of F < loop_kind → ⊥
    before g = ⊎_elim
        (λ k. omega (
          arith,
          e,
          in_kind (group_at sh (group_of F)) (word_of F) n (field_in sh F).0 k,
          chain_apart (groups sh) 0 b.last (group_of F) loop_kind b.chain (lit≤ tt) g,
        ))
        (λ k. omega (arith, g, k)) h

    -- a kind behind them begins later
    behind : loop_kind < group_of F → ⊥
    behind g =
        omega (
          arith,
          e,
          among,
          chain_apart (groups sh) 0 b.last loop_kind (group_of F) b.chain (field_in sh F).1 g,
        )

    -- among the loops it is another record or another word
    inside : group_of F ≡ loop_kind → ⊥
    inside g = word_apart (group_at sh loop_kind) (word_of F) (word_of Face) n m
        (subst (λ q. word_of F < (group_at sh q).width) g (field_in sh F).0) (field_in sh Face).0
        (⊎_elim (λ f. inr (λ w. false≢true (sym f ∙ rw (eqb_same g, eqb_same w))))
        (λ f. inl (λ q. f (ap suc (sym q)))) d)
        (subst (λ q. place sh q (word_of F) n ≡ place sh loop_kind (word_of Face) m) g e)

module _ {sh : Shape} (b : InOrder sh) {l : ℕ} (i : In sh.loops l) {x : List ℕ} where
  -- ---- one store

  -- THE FACE STAYS: a store to field F of record k leaves loop l its face, unless it is that very word
  pub store_stays : {y : List ℕ} (F : Field) (k v : ℕ) → Held sh F k → Other F l k → Stays sh l x y
      → Stays sh l x (put sh F y k v)
  store_stays {y} F k v h d s = record { same = go k l h i.1 d ∙ s.same }
    where
      go : (k l : ℕ) → Held sh F k → l ≤ sh.loops → Other F l k → loop_face sh (put sh F y k v) l ≡ loop_face sh y l
      go zero l h u d = refl
      go (suc n) zero h u d = refl
      go (suc n) (suc m) h u d = get_or-set_other y _ _ v 0 (λ e. apart b F n m h u d (sym e))

  -- to a field that is free of it, whatever the record's number
  pub free_stays : {y : List ℕ} (F : Field) (k v : ℕ) → free F ≡ true → Stays sh l x y → Stays sh l x (put sh F y k v)
  free_stays F k v t =
      let r = and_T (leb loop_kind (group_of F)) (not (same_field F Face)) (true_T t) in
      store_stays F k v (inr (leb→le loop_kind (group_of F) r.0)) (inl (not-true (same_field F Face) (T_true r.1)))

  -- to a solid
  pub solid_stays : {y : List ℕ} (k v : ℕ) → k ≤ sh.solids → Stays sh l x y → Stays sh l x (set_solid_used sh y k v)
  solid_stays k v h = store_stays SolidUsed k v (inl h) (inl refl)

  -- to the face of another loop
  pub other_stays : {y : List ℕ} (k v : ℕ) → l ≢ k → Stays sh l x y → Stays sh l x (set_loop_face sh y k v)
  other_stays k v d = store_stays Face k v (inr (lit≤ tt)) (inr d)

  -- to a vertex word: one less
  pub less_stays : {y : List ℕ} (v : ℕ) → Stays sh l x y → Stays sh l x (one_less sh y v)
  less_stays {y} v = free_stays VertexUsed v (vertex_used sh y v - 1) refl

  -- and one more
  pub more_stays : {y : List ℕ} (v : ℕ) → Stays sh l x y → Stays sh l x (one_more sh y v)
  more_stays {y} v s = pick_ind (Stays sh l x) (ltb (vertex_used sh y v) 65535) _ y
      (free_stays VertexUsed v (vertex_used sh y v + 1) refl s) s

  -- ---- whole records, an edge in, an edge out

  -- rows of such stores
  pub writes_stay : {y : List ℕ} (ws : List Write) → all_free ws ≡ true → Stays sh l x y
      → Stays sh l x (writes sh ws y)
  writes_stay [] t s = s
  writes_stay {y = y} (w ∷ ws) t s =
      let r = and_T (free w.field) (all_free ws) (true_T t) in
      writes_stay {y = put sh w.field y w.item w.value} ws (T_true r.1)
      (free_stays w.field w.item w.value (T_true r.0) s)

  -- of a face
  pub put_face_stays : {y : List ℕ} (f t m : ℕ) → f ≤ sh.faces → Stays sh l x y → Stays sh l x (put_face sh y f t m)
  put_face_stays f t m h s = store_stays Outer f m (inl h) (inl refl) (store_stays Solid f t (inl h) (inl refl) s)

  -- of another loop
  pub put_loop_stays : {y : List ℕ} (m f k v : ℕ) → l ≢ m → Stays sh l x y → Stays sh l x (put_loop sh y m f k v)
  put_loop_stays m f k v d s = free_stays Isolated m v refl (free_stays First m k refl (other_stays m f d s))

  -- of a half-edge
  pub put_half_stays : {y : List ℕ} (k v m n p : ℕ) → Stays sh l x y → Stays sh l x (put_half sh y k v m n p)
  put_half_stays k v m n p = writes_stay (half_record k v m n p) refl

  -- a half-edge is cleared
  pub clear_half_stays : {y : List ℕ} (k : ℕ) → Stays sh l x y → Stays sh l x (writes sh (cleared half_kind k) y)
  clear_half_stays k = writes_stay (cleared half_kind k) refl

  -- one follows the other
  pub tie_stays : {y : List ℕ} (a c : ℕ) → Stays sh l x y → Stays sh l x (tie sh y a c)
  tie_stays a c = writes_stay (tied a c) refl

  -- one stands between two
  pub between_stays : {y : List ℕ} (p k n : ℕ) → Stays sh l x y → Stays sh l x (between sh y p k n)
  between_stays p k n = writes_stay (seated p k n) refl

  -- an edge goes in
  pub edge_in_stays : {y : List ℕ} (k u m n p u' m' n' p' : ℕ) → Stays sh l x y
      → Stays sh l x (edge_in sh y k u m n p u' m' n' p')
  unfolding edge_in
  edge_in_stays k u m n p u' m' n' p' = writes_stay (edge_writes k u m n p u' m' n' p') refl

  -- an edge comes out
  pub edge_out_stays : {y : List ℕ} (k p n p' n' : ℕ) → Stays sh l x y → Stays sh l x (edge_out sh y k p n p' n')
  unfolding edge_out
  edge_out_stays k p n p' n' = writes_stay (no_edge_writes k p n p' n') refl

  -- ---- walks

  -- a run is given another loop
  pub relabel_stays : (n : ℕ) {y : List ℕ} (k stop m : ℕ) → Stays sh l x y → Stays sh l x (relabel sh n y k stop m)
  unfolding relabel
  relabel_stays zero k stop m s = s
  relabel_stays (suc n) {y} k stop m s =
      pick_ind (Stays sh l x) (eqb k stop) y _ s
      (relabel_stays n (next_of sh (set_loop sh y k m) k) stop m (free_stays Loop k m refl s))

  -- any loop gets its first anew
  pub renew_stays : {y : List ℕ} (m low k u : ℕ) → Stays sh l x y → Stays sh l x (renew sh y m low k u)
  unfolding renew
  renew_stays m low k u s = free_stays Isolated m (pick (eqb k 0) u 0) refl (free_stays First m _ refl s)

  -- faces get other solids
  pub sweep_stays : (n : ℕ) (g : ℕ → ℕ → ℕ) {y : List ℕ} → n ≤ sh.faces → Stays sh l x y
      → Stays sh l x (sweep_field sh Solid n g y)
  unfolding sweep
  sweep_stays zero g h s = s
  sweep_stays (suc n) g h s = store_stays Solid (suc n) _ (inl h) (inl refl) (sweep_stays n g (omega arith) s)
