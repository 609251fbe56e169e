-- An uncrossed half-edge k stays uncrossed while other edges go, by whatever operator: said by a set, that of the
-- half-edges between k and its mate. It holds with each half-edge its mate, and the half-edges of it and k are followed
-- by those of it and the mate of k, and no others are.
use Rattle.std.specs.Prelude.{◌≡◌, refl, ◌≢◌, ◌⊎◌, Bool, true, ◌||◌, List, ℕ, zero, suc, ◌+◌, ◌-◌, ◌*◌, ◌≤◌, ◌<◌, ℤ}
use Rattle.std.proofs.Common.{sym, ap, ◌∙◌, subst, inl, inr, arith, eqb→eq}
use Rattle.std.proofs.Math.Logic.{⊎_elim}
use Rattle.std.proofs.Math.Bool.{false}
use Rattle.std.proofs.lemmas.Bool.{false≢true}
use Rattle.std.proofs.Math.Dec.{eqb}
use Rattle.laws.specs.Bools.{split, ask, le?, true_T, eqb_same, eqb_other}
use Rattle.laws.specs.Permutations.{iter, iter_add, iter_last, inj, iter_in}
use Rattle.laws.specs.Cycles.{Cycles, forwards}
use Rattle.layout.specs.declared.shape.Shape.{Shape}
use Rattle.layout.specs.Mate.{mate}
use Rattle.layout.specs.MateLaws.{mate_mate}
use Rattle.layout.specs.Fields.{Columns, Loop, Next}
use Rattle.sound_tables.specs.Sound.{HalfUsed}
use Rattle.sound_tables.specs.Walking.{Steps, iter_keeps, way_round, on_the_way}
use Rattle.sound_tables.specs.Good.{Good, own}
use Rattle.evidence_fuel.specs.Walks.{near}
use Rattle.takedown.specs.Inversion.{between, crossed}
use Rattle.takedown.specs.Crossed.{Crossing, crossed_at, at_crossed}
use Rattle.inversion.specs.Runs.{run_at, at_run}

-- S is a set between k and its mate
pub record Parts (sh : Shape) (c : Columns) (k : ℕ) (S : ℕ → Bool) : Type 0 where
  pub along : (i : ℕ) → HalfUsed sh c i → (S i || eqb i k) ≡ (S (c Next i) || eqb (c Next i) (mate k))
  pub mates : (i : ℕ) → HalfUsed sh c i → S (mate i) ≡ S i
  pub not_k : S k ≡ false
  pub not_a : S (mate k) ≡ false

-- there is one
pub record Parted (sh : Shape) (c : Columns) (k : ℕ) : Type 0 where
  pub set : ℕ → Bool
  pub parts : Parts sh c k set

-- ---- Bools

left_is : (a b : Bool) → b ≡ false → (a || b) ≡ a
left_is true b e = refl
left_is false b e = e

left_true : (a b : Bool) → a ≡ true → (a || b) ≡ true
left_true a b e = rw e

right_true : (a b : Bool) → b ≡ true → (a || b) ≡ true
right_true true b e = refl
right_true false b e = e

or_true : (a b : Bool) → (a || b) ≡ true → (a ≡ true) ⊎ (b ≡ true)
or_true true b h = inl refl
or_true false b h = inr h

or_false : (a b : Bool) → (a || b) ≡ false → a ≡ false
or_false true b h = absurd (false≢true (sym h))
or_false false b h = refl

-- two tests that pass together
same_test : (a b : Bool) → (a ≡ true → b ≡ true) → (b ≡ true → a ≡ true) → a ≡ b
same_test true b f g = sym (f refl)
same_test false true f g = g refl
same_test false false f g = refl

-- ---- an edge goes out

-- half-edge h and its mate go; what was followed by one of them is followed by what followed one of them
pub record EdgeGone (sh : Shape) (c d : Columns) (h : ℕ) : Type 0 where
  pub half : HalfUsed sh c h
  pub used : (i : ℕ) → HalfUsed sh d i → HalfUsed sh c i × (i ≢ h) × (i ≢ mate h)
  pub next : (i : ℕ) → HalfUsed sh d i → (d Next i ≡ c Next i)
      ⊎ (((c Next i ≡ h) ⊎ (c Next i ≡ mate h)) × ((d Next i ≡ c Next h) ⊎ (d Next i ≡ c Next (mate h))))

module _ {sh : Shape} {c d : Columns} {h : ℕ} (e : EdgeGone sh c d h) (mate_in : (i : ℕ) → HalfUsed sh c i
    → HalfUsed sh c (mate i)) where
  -- the set stays, of any other half-edge
  pub parts_kept : (k : ℕ) → HalfUsed sh d k → {S : ℕ → Bool} → Parts sh c k S → Parts sh d k S
  parts_kept k u {S} r = record {
    along = λ i w. at i w (e.next i w);
    mates = λ i w. r.mates i (e.used i w).0;
    not_k = r.not_k;
    not_a = r.not_a;
  }
    where
      kh : k ≢ h
      kh = (e.used k u).1

      ka : k ≢ mate h
      ka = (e.used k u).2

      -- h is not the mate of k, nor is its mate
      hm : h ≢ mate k
      hm q = ka (sym (mate_mate k) ∙ ap mate (sym q))

      am : mate h ≢ mate k
      am q = kh (sym (mate_mate k) ∙ ap mate (sym q) ∙ mate_mate h)

      um : HalfUsed sh c (mate h)
      um = mate_in h e.half

      -- what follows h or its mate is in the set or the mate of k just where h is in it
      after_h : (S (c Next h) || eqb (c Next h) (mate k)) ≡ S h
      after_h = sym (r.along h e.half) ∙ left_is (S h) (eqb h k) (eqb_other (λ q. kh (sym q)))

      after_a : (S (c Next (mate h)) || eqb (c Next (mate h)) (mate k)) ≡ S h
      after_a = sym (r.along (mate h) um) ∙ left_is (S (mate h)) (eqb (mate h) k) (eqb_other (λ q. ka (sym q)))
          ∙ r.mates h e.half

      out : (i : ℕ) → (d Next i ≡ c Next h) ⊎ (d Next i ≡ c Next (mate h)) → (S (d Next i) || eqb (d Next i) (mate k))
          ≡ S h
      out i (inl q) = ap (λ j. S j || eqb j (mate k)) q ∙ after_h
      out i (inr q) = ap (λ j. S j || eqb j (mate k)) q ∙ after_a

      into : (i : ℕ) → (c Next i ≡ h) ⊎ (c Next i ≡ mate h) → (S (c Next i) || eqb (c Next i) (mate k)) ≡ S h
      into i (inl q) = ap (λ j. S j || eqb j (mate k)) q ∙ left_is (S h) (eqb h (mate k)) (eqb_other hm)
      into i (inr q) = ap (λ j. S j || eqb j (mate k)) q ∙ left_is (S (mate h)) (eqb (mate h) (mate k)) (eqb_other am)
          ∙ r.mates h e.half

      at : (i : ℕ) → (w : HalfUsed sh d i) → (d Next i ≡ c Next i)
          ⊎ (((c Next i ≡ h) ⊎ (c Next i ≡ mate h)) × ((d Next i ≡ c Next h) ⊎ (d Next i ≡ c Next (mate h))))
          → (S i || eqb i k) ≡ (S (d Next i) || eqb (d Next i) (mate k))
      at i w (inl q) = r.along i (e.used i w).0 ∙ ap (λ j. S j || eqb j (mate k)) (sym q)
      at i w (inr q) = r.along i (e.used i w).0 ∙ into i q.0 ∙ sym (out i q.1)

  pub parted_kept : (k : ℕ) → HalfUsed sh d k → Parted sh c k → Parted sh d k
  parted_kept k u r = record { set = r.set; parts = parts_kept k u r.parts }

-- ---- the set and the test, where k's mate lies in its loop

module _ {sh : Shape} {x : List ℕ} {p : List ℤ} (g : Good sh x p) {k : ℕ} (u : HalfUsed sh (own sh x) k)
    (one : own sh x Loop (mate k) ≡ own sh x Loop k) where
  cycles : Cycles (2 * sh.edges) (HalfUsed sh (own sh x)) (own sh x Next) (own sh x Loop)
  cycles = g.sound.rules.loops

  ua : HalfUsed sh (own sh x) (mate k)
  ua = g.sound.rules.mate_in k u

  uf : HalfUsed sh (own sh x) (own sh x Next k)
  uf = cycles.perm.f_in k u

  -- the run from k to its mate
  steps : (d : ℕ) × (d < 2 * sh.edges) × Steps (own sh x Next) (own sh x Next k) (mate k) d
  steps =
      let m = (forwards cycles.perm (cycles.one (own sh x Next k) (mate k) uf ua (cycles.keeps k u ∙ sym one))).0 in
      near sh x (HalfUsed sh (own sh x)) cycles.perm (own sh x Next k) (mate k) m.0 uf m.1

  -- what lies between is met on it, and the other way round
  met : (j : ℕ) → between sh x k j ≡ true → (t : ℕ) × (t < steps.0) × (iter (own sh x Next) t (own sh x Next k) ≡ j)
  met j h = run_at sh (2 * sh.edges) steps.0 x (own sh x Next k) (mate k) j (omega (arith, steps.1)) steps.2 h

  is_met : (j t : ℕ) → t < steps.0 → iter (own sh x Next) t (own sh x Next k) ≡ j → between sh x k j ≡ true
  is_met j t h e = at_run sh (2 * sh.edges) steps.0 x (own sh x Next k) (mate k) j (omega (arith, steps.1))
      steps.2 t h e

  -- k is not met on the way: the walk would begin again
  no_k : (t : ℕ) → t < steps.0 → iter (own sh x Next) t (own sh x Next k) ≢ k
  no_k t l e =
      let s : suc t + (steps.0 - suc t) ≡ steps.0 = omega arith in
      steps.2.first (steps.0 - suc t) (omega arith)
      (ap (iter (own sh x Next) (steps.0 - suc t)) (sym (iter_last (own sh x Next) t (own sh x Next k)
      ∙ ap (own sh x Next) e)) ∙ sym (iter_add (own sh x Next) (suc t) (steps.0 - suc t) (own sh x Next k))
      ∙ ap (λ m. iter (own sh x Next) m (own sh x Next k)) s ∙ steps.2.at)

  -- an uncrossed half-edge parts the others
  pub uncrossed_parts : crossed sh x k ≡ false → Parted sh (own sh x) k
  unfolding iter
  uncrossed_parts z =
      record {
        set = between sh x k;
        parts =
            record {
              along = λ i w. same_test (between sh x k i || eqb i k) (between sh x k (own sh x Next i)
                  || eqb (own sh x Next i) (mate k)) (ahead i w) (behind i w);
              mates = mates;
              not_k = not_k;
              not_a = not_a;
            };
      }
    where
      not_k : between sh x k k ≡ false
      not_k = ⊎_elim (λ h. let m = met k h in absurd (no_k m.0 m.1 m.2)) (λ h. h) (ask (between sh x k k))

      not_a : between sh x k (mate k) ≡ false
      not_a = ⊎_elim (λ h. let m = met (mate k) h in absurd (steps.2.first m.0 m.1 m.2)) (λ h. h)
          (ask (between sh x k (mate k)))

      with_mate : (i : ℕ) → HalfUsed sh (own sh x) i → between sh x k i ≡ true → between sh x k (mate i) ≡ true
      with_mate i w h =
          ⊎_elim (λ q. q)
          (λ q. absurd
          (false≢true (sym z ∙ at_crossed sh x k (record { j = i; range = (w.0, w.1); inside = h; outside = q }))))
          (ask (between sh x k (mate i)))

      mates : (i : ℕ) → HalfUsed sh (own sh x) i → between sh x k (mate i) ≡ between sh x k i
      mates i w = same_test (between sh x k (mate i)) (between sh x k i) (λ h. sym (ap (between sh x k) (mate_mate i))
          ∙ with_mate (mate i) (g.sound.rules.mate_in i w) h) (with_mate i w)

      -- one step from what is met, or from k
      step : (t : ℕ) → t ≤ steps.0 → {j : ℕ} → iter (own sh x Next) t (own sh x Next k) ≡ j
          → (between sh x k j || eqb j (mate k)) ≡ true
      step t l {j} e = split t steps.0
          (λ q. right_true (between sh x k j) (eqb j (mate k))
          (eqb_same (sym e ∙ ap (λ m. iter (own sh x Next) m (own sh x Next k)) q ∙ steps.2.at)))
          (λ q. left_true (between sh x k j) (eqb j (mate k)) (is_met j t (omega arith) e))

      ahead : (i : ℕ) → HalfUsed sh (own sh x) i → (between sh x k i || eqb i k) ≡ true
          → (between sh x k (own sh x Next i) || eqb (own sh x Next i) (mate k)) ≡ true
      ahead i w h = ⊎_elim
          (λ q. let m = met i q in step (suc m.0) m.1 (iter_last (own sh x Next) m.0 (own sh x Next k)
          ∙ ap (own sh x Next) m.2))
          (λ q. step 0 (omega arith) (ap (own sh x Next) (sym (eqb→eq i k (true_T q)))))
          (or_true (between sh x k i) (eqb i k) h)

      -- and one step back
      back : (i t : ℕ) → HalfUsed sh (own sh x) i → t ≤ steps.0 → iter (own sh x Next) t (own sh x Next k)
          ≡ own sh x Next i → (between sh x k i || eqb i k) ≡ true
      back i zero w l e = right_true (between sh x k i) (eqb i k) (eqb_same (inj cycles.perm w u (sym e)))
      back i (suc t) w l e = left_true (between sh x k i) (eqb i k) (is_met i t (omega arith)
          (inj cycles.perm (iter_in cycles.perm t (own sh x Next k) uf) w
          (sym (iter_last (own sh x Next) t (own sh x Next k)) ∙ e)))

      behind : (i : ℕ) → HalfUsed sh (own sh x) i → (between sh x k (own sh x Next i) || eqb (own sh x Next i) (mate k))
          ≡ true → (between sh x k i || eqb i k) ≡ true
      behind i w h = ⊎_elim
          (λ q. let m = met (own sh x Next i) q in back i m.0 w (omega (arith, m.1)) m.2)
          (λ q. back i steps.0 w (omega arith) (steps.2.at ∙ sym (eqb→eq _ _ (true_T q))))
          (or_true (between sh x k (own sh x Next i)) (eqb (own sh x Next i) (mate k)) h)

  -- and one that parts them is uncrossed, where the edges of its loop lie in it
  pub parts_uncrossed : ((i : ℕ) → HalfUsed sh (own sh x) i → own sh x Loop i ≡ own sh x Loop k
      → own sh x Loop (mate i) ≡ own sh x Loop i) → Parted sh (own sh x) k → crossed sh x k ≡ false
  unfolding iter
  parts_uncrossed all r = ⊎_elim (λ h. absurd (clash (crossed_at sh x k h))) (λ h. h) (ask (crossed sh x k))
    where
      P : Parts sh (own sh x) k r.set
      P = r.parts

      -- what is met up to the mate is in the set
      inside : (t : ℕ) → t < steps.0 → r.set (iter (own sh x Next) t (own sh x Next k)) ≡ true
      inside zero l =
          let q = sym (P.along k u) ∙ right_true (r.set k) (eqb k k) (eqb_same {m = k} refl) in
          ⊎_elim (λ h. h) (λ h. absurd (steps.2.first 0 l (eqb→eq _ _ (true_T h))))
          (or_true (r.set (own sh x Next k)) (eqb (own sh x Next k) (mate k)) q)
      inside (suc t) l =
          let i = iter (own sh x Next) t (own sh x Next k) in
          let e = iter_last (own sh x Next) t (own sh x Next k) in
          let q = sym (P.along i (iter_in cycles.perm t (own sh x Next k) uf))
          ∙ left_true (r.set i) (eqb i k) (inside t (omega arith)) in
          ⊎_elim (λ h. ap r.set e ∙ h) (λ h. absurd (steps.2.first (suc t) l (e ∙ eqb→eq _ _ (true_T h))))
          (or_true (r.set (own sh x Next i)) (eqb (own sh x Next i) (mate k)) q)

      -- what is met behind it is not
      outside : (d : ℕ) → Steps (own sh x Next) (own sh x Next k) k d → (m : ℕ) → steps.0 + m ≤ d
          → r.set (iter (own sh x Next) (steps.0 + m) (own sh x Next k)) ≡ false
      outside d w zero l = ap r.set (ap (λ n. iter (own sh x Next) n (own sh x Next k)) same ∙ steps.2.at)
          ∙ P.not_a
        where
          same : steps.0 + 0 ≡ steps.0
          same = omega arith
      outside d w (suc m) l =
          let i = iter (own sh x Next) (steps.0 + m) (own sh x Next k) in
          let n : steps.0 + suc m ≡ suc (steps.0 + m) = omega arith in
          let e = ap (λ n. iter (own sh x Next) n (own sh x Next k)) n
          ∙ iter_last (own sh x Next) (steps.0 + m) (own sh x Next k) in
          let q = sym (P.along i (iter_in cycles.perm (steps.0 + m) (own sh x Next k) uf))
          ∙ left_is (r.set i) (eqb i k) (eqb_other (w.first (steps.0 + m) (omega arith)))
          ∙ outside d w m (omega arith) in
          ap r.set e ∙ or_false (r.set (own sh x Next i)) (eqb (own sh x Next i) (mate k)) q

      clash : Crossing sh x k → ⊥
      clash c =
          let m = met c.j c.inside in
          let sj = ap r.set (sym m.2) ∙ inside m.0 m.1 in
          let uj : HalfUsed sh (own sh x) c.j =
          subst (HalfUsed sh (own sh x)) m.2 (iter_in cycles.perm m.0 (own sh x Next k) uf) in
          let lj : own sh x Loop c.j ≡ own sh x Loop k = ap (own sh x Loop) (sym m.2)
          ∙ iter_keeps cycles m.0 (own sh x Next k) uf ∙ cycles.keeps k u in
          let sm = P.mates c.j uj ∙ sj in
          let w = way_round cycles k u in
          ⊎_elim
          (λ e. false≢true (sym P.not_k ∙ ap r.set (sym e) ∙ sm))
          (λ q. ⊎_elim
          (λ h. false≢true (sym c.outside ∙ is_met (mate c.j) q.0 h q.2))
          (λ h.
          let n : steps.0 + (q.0 - steps.0) ≡ q.0 = omega (arith, h) in
          false≢true (sym (outside w.0 w.2 (q.0 - steps.0) (omega (arith, q.1, h)))
          ∙ ap (λ n. r.set (iter (own sh x Next) n (own sh x Next k))) n ∙ ap r.set q.2 ∙ sm))
          (le? (suc q.0) steps.0))
          (on_the_way cycles k u w.2 (mate c.j) (g.sound.rules.mate_in c.j uj) (all c.j uj lj ∙ lj))
