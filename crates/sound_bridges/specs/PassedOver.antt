-- A dummy that is passed over: what went to it goes on to where it goes. Where it is there and not alone it goes out;
-- where it is alone, or not there, nothing changes. Two at once serve the two corners of an edge. At the end: the rules
-- of a table with its dummies, from columns that agree with it but in previous.
use Rattle.std.specs.Prelude.{◌≡◌, refl, ◌≢◌, ◌⊎◌, ℕ, ◌+◌, ◌*◌, ◌≤◌, eqb}
use Rattle.std.proofs.Common.{sym, ap, ◌∙◌, subst, inl, inr, ⊎_elim}
use Rattle.laws.specs.Bools.{pick, split, eqb_same, eqb_other}
use Rattle.laws.specs.Update.{upd_same, upd_off}
use Rattle.laws.specs.Permutations.{inj}
use Rattle.layout.specs.declared.shape.Shape.{Shape}
use Rattle.layout.specs.Fields.{Next, Prev, Columns}
use Rattle.sound_tables.specs.Mates.{mate⁺}
use Rattle.sound_tables.specs.EdgeIn.{Halves, Rules, prev_in, next_prev}
use Rattle.sound_tables.specs.Dummies.{drop_rules, agree_rules}
use Rattle.sound_tables.specs.Sound.{HalfUsed}
use Rattle.sound_tables.specs.WithDummies.{up_to_low, up_to_high, extended, Member}

-- what went to D goes on to where D goes
unfoldable pub skip : ℕ → (ℕ → ℕ) → ℕ → ℕ
skip D f i = pick (eqb (f i) D) (f D) (f i)

-- one that goes to D
skip_at : (D : ℕ) (f : ℕ → ℕ) {i : ℕ} → f i ≡ D → skip D f i ≡ f D
unfolding skip
skip_at D f e = rw (eqb_same e)

-- one that does not
skip_off : (D : ℕ) (f : ℕ → ℕ) {i : ℕ} → f i ≢ D → skip D f i ≡ f i
unfolding skip
skip_off D f n = rw (eqb_other n)

-- D passed over, forwards and backwards
abbrev pub skipped : Halves → ℕ → Halves
skipped h D = record { start = h.start; loop = h.loop; next = skip D h.next; prev = skip D h.prev }

-- of U, and D only where it is alone
abbrev pub Tidy : (ℕ → ℕ) → ℕ → (ℕ → Type 0) → ℕ → Type 0
Tidy f D U i = U i × (i ≡ D → f D ≡ D)

module _ {n : ℕ} {mate : ℕ → ℕ} {U : ℕ → Type 0} {h : Halves} (r : Rules n mate U h) (mm : (i : ℕ) → mate (mate i) ≡ i)
    (D : ℕ) (own : mate D ≡ D) where
  -- it is not there
  tidy_none : ¬ U D → Rules n mate (Tidy h.next D U) (skipped h D)
  tidy_none g = agree_rules r (λ i u. (u, λ e. absurd (g (subst U e u)))) (λ i u. u.0) (λ i u. refl) (λ i u. refl)
      (λ i u. skip_off D h.next (λ e. g (subst U e (r.loops.perm.f_in i u))))
      (λ i u. skip_off D h.prev (λ e. g (subst U e (prev_in r i u))))

  -- it is alone
  tidy_alone : U D → h.next D ≡ D → Rules n mate (Tidy h.next D U) (skipped h D)
  tidy_alone u e =
      let pd : h.prev D ≡ D = ap h.prev (sym e) ∙ r.undone D u in
      agree_rules r (λ i v. (v, λ q. e)) (λ i v. v.0) (λ i v. refl) (λ i v. refl)
      (λ i v. split (h.next i) D (λ q. skip_at D h.next q ∙ e ∙ sym q) (λ q. skip_off D h.next q))
      (λ i v. split (h.prev i) D (λ q. skip_at D h.prev q ∙ pd ∙ sym q) (λ q. skip_off D h.prev q))

  -- it goes out
  tidy_out : U D → h.next D ≢ D → Rules n mate (Tidy h.next D U) (skipped h D)
  tidy_out u n =
      let y = h.prev D in
      let yd : h.next (h.prev D) ≡ D = next_prev r D u in
      let dy : D ≢ h.prev D = λ e. n (ap h.next e ∙ yd) in
      agree_rules (drop_rules r mm D (h.prev D) own (prev_in r D u) yd dy) (λ i v. (v.0, λ e. absurd (v.1 e)))
      (λ i v. (v.0, λ e. n (v.1 e))) (λ i v. refl) (λ i v. refl)
      (λ i v. split i (h.prev D)
      (λ e. skip_at D h.next (ap h.next e ∙ yd) ∙ sym (rw e (upd_same _ (h.prev D) _)))
      (λ e. skip_off D h.next (λ q. e (inj r.loops.perm v.0 (prev_in r D u) (q ∙ sym yd)))
      ∙ sym (upd_off _ _ e)))
      (λ i v. split i (h.next D)
      (λ e. skip_at D h.prev (ap h.prev e ∙ r.undone D u) ∙ sym (rw e (upd_same _ (h.next D) _)))
      (λ e. skip_off D h.prev (λ q. e (sym (next_prev r i v.0) ∙ ap h.next q)) ∙ sym (upd_off _ _ e)))

  -- the rules once it is passed over
  tidy_rules : U D ⊎ (¬ U D) → Rules n mate (Tidy h.next D U) (skipped h D)
  tidy_rules = ⊎_elim (λ u. split (h.next D) D (λ e. tidy_alone u e) (λ e. tidy_out u e)) tidy_none

-- ---- two dummies

-- D, then D'
abbrev pub pass : ℕ → ℕ → (ℕ → ℕ) → ℕ → ℕ
pass D D' f = skip D' (skip D f)

-- one that goes to neither
pub pass_off : (D D' : ℕ) (f : ℕ → ℕ) {i : ℕ} → f i ≢ D → f i ≢ D' → pass D D' f i ≡ f i
pass_off D D' f n m = skip_off D' (skip D f) (λ e. m (sym (skip_off D f n) ∙ e)) ∙ skip_off D f n

-- one that goes to the first
pub pass_one : (D D' : ℕ) (f : ℕ → ℕ) {i : ℕ} → f i ≡ D → f D ≢ D' → pass D D' f i ≡ f D
pass_one D D' f e m = skip_off D' (skip D f) (λ q. m (sym (skip_at D f e) ∙ q)) ∙ skip_at D f e

-- one that goes to the second
pub pass_two : (D D' : ℕ) (f : ℕ → ℕ) {i : ℕ} → D' ≢ D → f i ≡ D' → f D' ≢ D → pass D D' f i ≡ f D'
pass_two D D' f n e m = skip_at D' (skip D f) (skip_off D f (λ q. n (sym e ∙ q)) ∙ e) ∙ skip_off D f m

-- both passed over
abbrev pub passed : Halves → ℕ → ℕ → Halves
passed h D D' = skipped (skipped h D) D'

-- of U, and the two only where they are alone
abbrev pub Left : (ℕ → ℕ) → ℕ → ℕ → (ℕ → Type 0) → ℕ → Type 0
Left f D D' U i = U i × (i ≡ D → f D ≡ D) × (i ≡ D' → f D' ≡ D')

-- the rules once both are passed over
pub pass_rules : {n : ℕ} {mate : ℕ → ℕ} {U : ℕ → Type 0} {h : Halves} → Rules n mate U h → ((i : ℕ) → mate (mate i) ≡ i)
    → (D D' : ℕ) → mate D ≡ D → mate D' ≡ D'
    → U D ⊎ (¬ U D) → U D' ⊎ (¬ U D') → D' ≢ D → h.next D' ≢ D → Rules n mate (Left h.next D D' U) (passed h D D')
pass_rules {U = U} {h} r mm D D' o o' u u' n m =
    let e : skip D h.next D' ≡ h.next D' = skip_off D h.next m in
    agree_rules (tidy_rules (tidy_rules r mm D o u) mm D' o'
    (⊎_elim (λ w. inl (w, λ q. absurd (n q))) (λ w. inr (λ q. w q.0)) u'))
    (λ i w. (w.0.0, w.0.1, λ q. sym e ∙ w.1 q)) (λ i w. ((w.0, w.1), λ q. e ∙ w.2 q)) (λ i w. refl)
    (λ i w. refl) (λ i w. refl) (λ i w. refl)

-- ---- a table with its dummies

-- the rules for the half-edges and the dummies of a table
abbrev pub Rules⁺ : Shape → (ℕ → Type 0) → Halves → Type 0
Rules⁺ sh = Rules (2 * sh.edges + sh.loops) (mate⁺ sh.edges)

-- next stays among the half-edges, and previous undoes it
abbrev pub Undoes : Shape → Columns → ℕ → Type 0
Undoes sh c i = (c Next i ≤ 2 * sh.edges) × (c Prev (c Next i) ≡ i)

-- by where i goes
pub undoes : (sh : Shape) (c : Columns) {i j : ℕ} → c Next i ≡ j → j ≤ 2 * sh.edges → c Prev j ≡ i → Undoes sh c i
undoes sh c e h q = (rw e h, ap (c Prev) e ∙ q)

-- the rules of the table, from columns that agree with its own in start, loop and next
pub table_rules : (sh : Shape) (c : Columns) {U : ℕ → Type 0} {h : Halves} → Rules⁺ sh U h
    → ((i : ℕ) → U i → Member sh c i) → ((i : ℕ) → Member sh c i → U i)
    → ((i : ℕ) → U i → (extended sh c).start i ≡ h.start i) → ((i : ℕ) → U i → (extended sh c).loop i ≡ h.loop i)
    → ((i : ℕ) → U i → (extended sh c).next i ≡ h.next i) → ((i : ℕ) → HalfUsed sh c i → Undoes sh c i)
    → Rules⁺ sh (Member sh c) (extended sh c)
table_rules sh c {h = h} r to from es el en un =
    let n = 2 * sh.edges in
    let H = extended sh c in
    let q : Rules⁺ sh (Member sh c) (record { start = H.start; loop = H.loop; next = H.next; prev = h.prev }) =
    agree_rules r to from es el en (λ i u. refl) in
    record {
      mate_in = q.mate_in;
      loops = q.loops;
      verts = q.verts;
      undone = λ i. ⊎_elim
          (λ w. ap H.prev (up_to_low n (c Next) _ i w.1) ∙ up_to_low n (c Prev) _ (c Next i) (un i w).0
          ∙ (un i w).1)
          (λ w. ap H.prev (up_to_high n (c Next) (λ j. j) i w.0) ∙ up_to_high n (c Prev) (λ j. j) i w.0);
    }
