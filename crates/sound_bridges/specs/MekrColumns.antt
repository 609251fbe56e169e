-- What mekr leaves, as a list and as columns; these columns differ from those before by the bridge. Of the walk that
-- gives the ring's half-edges their new loop the outcome is said (`joined_loops`); `MekrShown` ties it to the walk.
use Rattle.std.specs.Prelude.{◌≡◌, refl, ◌≢◌, false, List, [], ◌∷◌, ◌++◌, ℕ}
use Rattle.std.proofs.Common.{sym, ap, ◌∙◌, ⊎_elim, arith}
use Rattle.laws.specs.Update.{upd, upd_same, upd_at, upd_off, relabel, relabel_at, relabel_off}
use Rattle.layout.specs.declared.shape.Shape.{Shape}
use Rattle.layout.specs.Mate.{mate}
use Rattle.layout.specs.Fields.{Field, Face, First, Isolated, Start, Loop, Columns, loop_kind, among}
use Rattle.layout.specs.Writes.{Write, write, cleared, writes, changes}
use Rattle.euler.specs.Surgery.{edge_writes, edge_in, relabel_run, lower, renew}
use Rattle.sound_tables.specs.Mates.{mate_other}
use Rattle.sound_tables.specs.Sound.{HalfUsed, first_of}
use Rattle.sound_tables.specs.Shown.{with_first}
use Rattle.sound_tables.specs.WriteLaws.{among_off, unwritten, with_column, column_off}
use Rattle.sound_tables.specs.Good.{own}
use Rattle.sound_bridges.specs.Relation.{corner_away, Bridge, derived, touched, Ends, Bridged}

-- ---- the list

-- the edge is in
abbrev pub edge_list : Shape → List ℕ → Bridge → List ℕ
edge_list sh x B = edge_in sh x B.k B.u1 B.l B.N2 B.P1 B.u2 B.l B.N1 B.P2

-- the ring names l, the loop l2 is free, and l has its first
abbrev pub mekr_list : Shape → List ℕ → Bridge → List ℕ
mekr_list sh x B =
    renew sh (writes sh (cleared loop_kind B.l2) (relabel_run sh (edge_list sh x B) B.N2 (mate B.k) B.l))
    B.l (lower (own sh x First B.l) (lower (own sh x First B.l2) (lower B.k (mate B.k)))) B.k 0

-- ---- the columns

-- the edge's words
abbrev pub bridge_writes : Bridge → List Write
bridge_writes B = edge_writes B.k B.u1 B.l B.N2 B.P1 B.u2 B.l B.N1 B.P2

-- the loops once l2 has joined l, and the edge with them
abbrev pub joined_loops : Columns → Bridge → ℕ → ℕ
joined_loops c B = upd (upd (relabel (c Loop) B.l2 B.l) B.k B.l) (mate B.k) B.l

-- all but the first of l
abbrev pub bridge_columns : Columns → Bridge → Columns
bridge_columns c B = changes (cleared loop_kind B.l2)
    (with_column (changes (bridge_writes B) c) Loop (joined_loops c B))

-- the columns afterwards
abbrev pub mekr_columns : Shape → Columns → Bridge → Columns
mekr_columns sh c B = with_first (bridge_columns c B) B.l (first_of sh (bridge_columns c B) B.l) 0

module _ {sh : Shape} {c : Columns} {B : Bridge} (o : Ends sh c B) where
  open derived sh B use {a}
  open B use {k, l, l2, u1, P1, N1, u2, P2, N2}
  open o use {half_in, ring_in, two, at_1, at_2, zero_k, zero_a, keeps}

  -- the columns afterwards
  abbrev d : Columns
  d = mekr_columns sh c B

  -- the two halves differ
  ka : k ≢ a
  ka = mate_other k half_in.0

  -- the same the other way round
  ak : a ≢ k
  ak e = ka (sym e)

  -- a half-edge of c is not of the edge
  off_k : {i : ℕ} → HalfUsed sh c i → i ≢ k
  off_k w e = w.2 (ap (c Start) e ∙ zero_k.s)

  -- nor of its mate
  off_a : {i : ℕ} → HalfUsed sh c i → i ≢ a
  off_a w e = w.2 (ap (c Start) e ∙ zero_a.s)

  -- which neighbours can be which half
  P1k : P1 ≢ k
  P1k e = ⊎_elim (λ r. ak (sym r.before ∙ e)) (λ r. off_k r.before e) at_1

  -- what comes before the corner of l2 is not the mate
  P2a : P2 ≢ a
  P2a e = ⊎_elim (λ r. ka (sym r.before ∙ e)) (λ r. off_a r.before e) at_2

  -- what comes after the corner of l is not the mate
  N1a : N1 ≢ a
  N1a e = ⊎_elim (λ r. ka (sym r.after ∙ e)) (λ r. off_a r.after e) at_1

  -- what comes after the corner of l2 is not k
  N2k : N2 ≢ k
  N2k e = ⊎_elim (λ r. ak (sym r.after ∙ e)) (λ r. off_k r.after e) at_2

  -- different half-edges come before the two corners
  P12 : P1 ≢ P2
  P12 e = ⊎_elim (λ r. P1k (e ∙ r.before)) (λ r. corner_away at_1 keeps P2a
      (λ q. two (sym q ∙ sym (keeps P2 r.before) ∙ ap (c Loop) r.next ∙ r.loop)) (sym e)) at_2

  -- and different ones after them
  N21 : N2 ≢ N1
  N21 e = ⊎_elim (λ r. N2k (e ∙ r.after)) (λ r. ⊎_elim (λ q. N1a (sym e ∙ q.after))
      (λ q. two (sym r.loop ∙ ap (c Loop) (sym e) ∙ q.loop)) at_2) at_1

  -- one that names the ring is not of the edge
  ring_k : {i : ℕ} → c Loop i ≡ l2 → i ≢ k
  ring_k z e = omega (arith, ring_in.0, sym z ∙ ap (c Loop) e ∙ zero_k.l)

  -- nor the mate
  ring_a : {i : ℕ} → c Loop i ≡ l2 → i ≢ a
  ring_a z e = omega (arith, ring_in.0, sym z ∙ ap (c Loop) e ∙ zero_a.l)

  -- the loops differ
  l2l : l2 ≢ l
  l2l e = two (sym e)

  -- the fields that a bridge does not touch
  up_others : (F : Field) → among touched F ≡ false → (i : ℕ) → d F i ≡ c F i
  up_others F e i =
      let ws = cleared loop_kind l2 ++ (write First l (first_of sh (bridge_columns c B) l) ∷ write Isolated l 0 ∷ []) in
      unwritten touched ws refl (with_column (changes (bridge_writes B) c) Loop (joined_loops c B)) F e i
      ∙ column_off (changes (bridge_writes B) c) Loop (joined_loops c B) F (among_off touched Loop F refl e) i
      ∙ unwritten touched (bridge_writes B) refl c F e i

  -- before and after mekr
  pub up_bridged : Bridged sh c (mekr_columns sh c B) B
  up_bridged = record {
    ends = o;
    start_k = upd_off _ u2 ka ∙ upd_same (c Start) k u1;
    start_a = upd_same _ a u2;
    start_o = λ i e f. upd_off _ u2 f ∙ upd_off (c Start) u1 e;
    loop_k = upd_off _ l ka ∙ upd_same _ k l;
    loop_a = upd_same _ a l;
    loop_2 = λ i j z. upd_off _ l (ring_a z) ∙ upd_off _ l (ring_k z) ∙ relabel_at (c Loop) l2 l z;
    loop_o = λ i e f z. upd_off _ l f ∙ upd_off _ l e ∙ relabel_off (c Loop) l2 l z;
    next_k = ⊎_elim (λ r. upd_at _ a (sym r.before) ∙ sym r.after)
        (λ r. upd_off _ a (λ e. off_k r.before (sym e)) ∙ upd_off _ k (λ e. P1k (sym e)) ∙ upd_off _ N1 ka
        ∙ upd_same _ k N2) at_2;
    next_a = upd_off _ a (λ e. P2a (sym e)) ∙ ⊎_elim (λ r. upd_at _ k (sym r.before) ∙ sym r.after)
        (λ r. upd_off _ k (λ e. off_a r.before (sym e)) ∙ upd_same _ a N1) at_1;
    next_1 = upd_off _ a P12 ∙ upd_same _ P1 k;
    next_2 = upd_same _ P2 a;
    next_o = λ i e f g h. upd_off _ a h ∙ upd_off _ k g ∙ upd_off _ N1 f ∙ upd_off _ N2 e;
    prev_k = ⊎_elim (λ r. upd_at _ a (sym r.after) ∙ sym r.before)
        (λ r. upd_off _ a (λ e. off_k r.after (sym e)) ∙ upd_off _ k (λ e. N2k (sym e)) ∙ upd_off _ P2 ka
        ∙ upd_same _ k P1) at_1;
    prev_a = upd_off _ a (λ e. N1a (sym e)) ∙ ⊎_elim (λ r. upd_at _ k (sym r.after) ∙ sym r.before)
        (λ r. upd_off _ k (λ e. off_a r.after (sym e)) ∙ upd_same _ a P2) at_2;
    prev_1 = upd_same _ N1 a;
    prev_2 = upd_off _ a N21 ∙ upd_same _ N2 k;
    prev_o = λ i e f g h. upd_off _ a g ∙ upd_off _ k h ∙ upd_off _ P2 f ∙ upd_off _ P1 e;
    face_2 = upd_same _ l2 0;
    face_o = λ m e. upd_off (c Face) 0 e;
    first_o = λ m e f. upd_off _ _ e ∙ upd_off _ 0 f;
    isolated_1 = upd_same _ l 0;
    isolated_2 = upd_off _ 0 l2l ∙ upd_same _ l2 0;
    isolated_o = λ m e f. upd_off _ 0 e ∙ upd_off _ 0 f;
    others = up_others;
  }

  -- the firsts of the two
  pub up_first : d First l ≡ first_of sh d l
  up_first = upd_same _ l _

  -- the ring has none
  pub up_first_2 : d First l2 ≡ 0
  up_first_2 = upd_off _ _ l2l ∙ upd_same _ l2 0
