-- A dummy: a half-edge that is its own mate and stands for a corner, above all for the only one of an isolated loop. It
-- goes in and out anywhere, and is born; mev follows from these and from an edge going in.
use Rattle.std.specs.Prelude.{◌≡◌, refl, ◌≢◌, ℕ, ◌≤◌}
use Rattle.std.proofs.Common.{sym, ap, ◌∙◌, subst, inl, inr, ⊎_elim}
use Rattle.laws.specs.Update.{Apart, apart, upd, upd_off, upd_same, relabel_off}
use Rattle.laws.specs.Bools.{split}
use Rattle.laws.specs.Permutations.{Perm, inj}
use Rattle.laws.specs.Cycles.{agree}
use Rattle.laws.specs.Moves.{Or, But, ins, out, ins_cycles, out_cycles}
use Rattle.sound_tables.specs.LoneCycles.{birth_cycles}
use Rattle.sound_tables.specs.EdgeIn.{Halves, Rules, joined, merged, merged_loops, joined_rules, start_mate}

-- d goes in after y
abbrev pub added : Halves → ℕ → ℕ → Halves
added h d y = record {
  start = upd h.start d (h.start (h.next y));
  loop = upd h.loop d (h.loop y);
  next = ins h.next d y;
  prev = upd (upd h.prev d y) (h.next y) d;
}

-- d, which comes after y, goes out
abbrev pub dropped : Halves → ℕ → ℕ → Halves
dropped h d y =
    record { start = h.start; loop = h.loop; next = out h.next d y; prev = upd h.prev (h.next d) y }

module _ {n : ℕ} {mate : ℕ → ℕ} {U : ℕ → Type 0} {h : Halves} (r : Rules n mate U h) (mm : (i : ℕ) → mate (mate i) ≡ i)
    (d y : ℕ) (own : mate d ≡ d) (uy : U y) where
  -- next is a permutation
  P : Perm n U h.next
  P = r.loops.perm

  -- the rules once a dummy has gone in
  pub add_rules : ¬ U d → 1 ≤ d → d ≤ n → Rules n mate (Or d U) (added h d y)
  add_rules fd d1 dn =
      let off : (i : ℕ) → U i → i ≢ d = λ i u e. fd (subst U e u) in
      let f1 : y ≢ d = off y uy in
      let f2 : d ≢ y = λ e. f1 (sym e) in
      let f3 : d ≢ mate y = λ e. f2 (sym own ∙ ap mate e ∙ mm y) in
      let f4 : d ≢ h.next y = λ e. off _ (P.f_in y uy) (sym e) in
      record {
        mate_in = λ i. ⊎_elim (λ e. inl (ap mate e ∙ own)) (λ u. inr (r.mate_in i u));
        loops = ins_cycles r.loops d y fd d1 dn uy;
        verts = agree (ins_cycles r.verts d (mate y) fd d1 dn (r.mate_in y uy)) (λ i u. u) (λ i u. u)
            (λ i u. split i d (λ e. rw e (rw own (simp (upd_same, upd_off, mm)))) λ f. split i (mate y)
            (λ e. rw e (simp (mm, upd_same))) λ g.
            let g1 : mate i ≢ y = λ e. g (sym (mm i) ∙ ap mate e) in
            let g2 : mate i ≢ d = λ e. f (sym (mm i) ∙ ap mate e ∙ own) in
            simp upd_off)
            (λ i u. rw (start_mate r mm y uy));
        undone = λ i. ⊎_elim (λ e. rw e (simp (upd_same, upd_off)))
            (λ u. split i y (λ e. rw e (simp (upd_same, upd_off))) λ g.
            let g1 : i ≢ d = off i u in
            let g2 : h.next i ≢ d = off _ (P.f_in i u) in
            let g3 : h.next i ≢ h.next y = λ e. g (inj P u uy e) in
            simp (upd_off, r.undone i u));
      }

  -- and once it has gone out
  pub drop_rules : h.next y ≡ d → d ≢ y → Rules n mate (But d U) (dropped h d y)
  drop_rules yd d≢y =
      let ud : U d = subst U yd (P.f_in y uy) in
      let f1 : d ≢ mate y = λ e. d≢y (sym own ∙ ap mate e ∙ mm y) in
      let f2 : y ≢ d = λ e. d≢y (sym e) in
      record {
        mate_in = λ i u. (r.mate_in i u.0, λ e. u.1 (sym (mm i) ∙ ap mate e ∙ own));
        loops = out_cycles r.loops d y uy yd d≢y;
        verts = agree (out_cycles r.verts d (mate y) (r.mate_in y uy) (ap h.next (mm y) ∙ yd) f1) (λ i u. u)
            (λ i u. u) (λ i u. split i (mate y) (λ e. rw e (simp (mm, upd_same) (ap h.next (sym own)))) λ g.
            let g1 : mate i ≢ y = λ e. g (sym (mm i) ∙ ap mate e) in
            simp upd_off)
            (λ i u. refl);
        undone = λ i u. split i y (λ e. rw e (simp upd_same)) λ g.
            let g1 : h.next i ≢ h.next d = λ e. u.1 (inj P u.0 ud e) in
            simp (upd_off, r.undone i u.0);
      }

-- the same said of other columns that agree
pub agree_rules : {n : ℕ} {mate : ℕ → ℕ} {U U' : ℕ → Type 0} {h h' : Halves} → Rules n mate U h
    → ((i : ℕ) → U i → U' i) → ((i : ℕ) → U' i → U i)
    → ((i : ℕ) → U i → h'.start i ≡ h.start i) → ((i : ℕ) → U i → h'.loop i ≡ h.loop i)
    → ((i : ℕ) → U i → h'.next i ≡ h.next i) → ((i : ℕ) → U i → h'.prev i ≡ h.prev i)
    → Rules n mate U' h'
agree_rules {h = h} r to from es el en ep = record {
  mate_in = λ i u. to _ (r.mate_in i (from i u));
  loops = agree r.loops to from en el;
  verts = agree r.verts to from (λ i u. en _ (r.mate_in i u)) es;
  undone = λ i u. rw (en i (from i u), ep (h.next i) (r.loops.perm.f_in i (from i u))) (r.undone i (from i u));
}

-- a dummy is born: a new lone loop o with a new vertex v
abbrev pub born : Halves → ℕ → ℕ → ℕ → Halves
born h d o v =
    record { start = upd h.start d v; loop = upd h.loop d o; next = upd h.next d d; prev = upd h.prev d d }

-- the rules with a dummy in a loop and at a vertex of its own
pub birth_rules : {n : ℕ} {mate : ℕ → ℕ} {U : ℕ → Type 0} {h : Halves} → Rules n mate U h
    → ((i : ℕ) → mate (mate i) ≡ i) → (d o v : ℕ) → mate d ≡ d → ¬ U d → 1 ≤ d → d ≤ n
    → ((i : ℕ) → U i → h.loop i ≢ o) → ((i : ℕ) → U i → h.start i ≢ v) → Rules n mate (Or d U) (born h d o v)
birth_rules {n} {mate} {U} {h} r mm d o v own fd d1 dn fo fv =
    let off : (i : ℕ) → U i → i ≢ d = λ i u e. fd (subst U e u) in
    record {
      mate_in = λ i. ⊎_elim (λ e. inl (ap mate e ∙ own)) (λ u. inr (r.mate_in i u));
      loops = birth_cycles r.loops d o fd d1 dn fo;
      verts = agree (birth_cycles r.verts d v fd d1 dn fv) (λ i u. u) (λ i u. u)
          (λ i u. split i d (λ e. rw e (rw own (simp upd_same)))
          (λ e. let g : mate i ≢ d = λ q. e (sym (mm i) ∙ ap mate q ∙ own) in simp upd_off)) (λ i u. refl);
      undone = λ i. ⊎_elim (λ e. rw e (simp upd_same))
          (λ u. let g1 = off i u in let g2 = off _ (r.loops.perm.f_in i u) in simp (upd_off, r.undone i u));
    }

-- ---- mev before next of p, from the pieces: a dummy is born at v, joined to the corner by k and a, and goes

-- the columns after mev
abbrev pub spurred : Halves → ℕ → ℕ → ℕ → ℕ → Halves
spurred h k a p v = record {
  start = upd (upd h.start k (h.start (h.next p))) a v;
  loop = upd (upd h.loop k (h.loop p)) a (h.loop p);
  next = upd (upd (upd h.next p k) k a) a (h.next p);
  prev = upd (upd (upd h.prev (h.next p) a) a k) k p;
}

module _ {n : ℕ} {mate : ℕ → ℕ} {U : ℕ → Type 0} {h : Halves} (r : Rules n mate U h) (mm : (i : ℕ) → mate (mate i) ≡ i)
    (k a p d o v : ℕ) (k-a : mate k ≡ a) (own : mate d ≡ d) (ka : k ≢ a) (fk : ¬ U k) (fa : ¬ U a) (fd : ¬ U d)
    (kd : k ≢ d) (ad : a ≢ d) (k1 : 1 ≤ k) (kn : k ≤ n) (a1 : 1 ≤ a) (an : a ≤ n) (d1 : 1 ≤ d) (dn : d ≤ n) (up : U p)
    (fo : (i : ℕ) → U i → h.loop i ≢ o) (fv : (i : ℕ) → U i → h.start i ≢ v) where
  -- one of U is not one outside
  off : {x i : ℕ} → ¬ U x → U i → i ≢ x
  off g u e = g (subst U e u)

  -- the dummy d is born at v
  step1 : Rules n mate (Or d U) (born h d o v)
  step1 = birth_rules r mm d o v own fd d1 dn fo fv

  -- four places that differ
  places : Apart k a p d
  places = record {
    ka = ka;
    kp = λ e. fk (subst U (sym e) up);
    kq = kd;
    ap = λ e. fa (subst U (sym e) up);
    aq =
        ad;
    pq = λ e. fd (subst U e up);
  }

  -- k and a join it to the corner
  step2 : Rules n mate (Or a (Or k (Or d U))) (joined (born h d o v) k a p d (merged (born h d o v) k a p d))
  step2 = apart places λ c1 c2 c3 c4 c5 c6 c7 c8 c9 c10 c11 c12.
      joined_rules step1 mm k a p d k-a ka (⊎_elim kd fk) (⊎_elim ad fa) k1 kn a1 an (inr up) (inl refl) c11 _
      (merged_loops step1 mm k a p d k-a ka (⊎_elim kd fk) (⊎_elim ad fa) k1 kn a1 an (inr up) (inl refl) c11
      (simp (upd_same, upd_off) (fo p up)))

  -- and it goes
  step3 : Rules n mate (But d (Or a (Or k (Or d U))))
      (dropped (joined (born h d o v) k a p d (merged (born h d o v) k a p d)) d k)
  step3 = apart places λ c1 c2 c3 c4 c5 c6 c7 c8 c9 c10 c11 c12.
      drop_rules step2 mm d k own (inr (inl refl)) (simp (upd_same, upd_off)) c6

  -- a statement about each half-edge that is left: k, a, an old one
  each : (Q : ℕ → Type 0) → Q k → Q a → ((i : ℕ) → U i → i ≢ k → i ≢ a → i ≢ d → Q i) → (i : ℕ)
      → But d (Or a (Or k (Or d U))) i → Q i
  each Q qk qa qo i u = ⊎_elim (λ e. subst Q (sym e) qa)
      (⊎_elim (λ e. subst Q (sym e) qk)
      (⊎_elim (λ e. absurd (u.1 e)) (λ w. qo i w (λ e. fk (subst U e w)) (λ e. fa (subst U e w)) u.1))) u.0

  -- and their rules
  pub spur_rules : Rules n mate (Or a (Or k U)) (spurred h k a p v)
  spur_rules = apart places λ c1 c2 c3 c4 c5 c6 c7 c8 c9 c10 c11 c12.
      let np = r.loops.perm.f_in p up in let n1 = off fk np in let n2 = off fa np in let n3 = off fd np in
      agree_rules step3
      (λ i u. ⊎_elim (λ e. inl e) (⊎_elim (λ e. inr (inl e)) (⊎_elim (λ e. absurd (u.1 e)) (λ w. inr (inr w)))) u.0)
      (λ i. ⊎_elim (λ e. (inl e, λ q. ad (sym e ∙ q)))
      (⊎_elim (λ e. (inr (inl e), λ q. kd (sym e ∙ q))) (λ w. (inr (inr (inr w)), λ q. fd (subst U q w)))))
      (each _ (simp (upd_same, upd_off)) (simp (upd_same, upd_off)) (λ i w e1 e2 e3. simp upd_off))
      (each _ (simp (upd_same, upd_off)) (simp (upd_same, upd_off))
      (λ i w e1 e2 e3. simp (upd_same, upd_off)
      (sym (relabel_off _ o _ (rw (upd_off h.loop o e3) (fo i w)) ∙ upd_off _ o e3))))
      (each _ (simp (upd_same, upd_off)) (simp (upd_same, upd_off))
      (λ i w e1 e2 e3. split i p (λ e. rw e (simp (upd_same, upd_off))) λ f. simp upd_off))
      (each _ (simp (upd_same, upd_off)) (simp (upd_same, upd_off))
      (λ i w e1 e2 e3. split i (h.next p) (λ e. rw e (simp (upd_same, upd_off))) λ f. simp (upd_same, upd_off)))
