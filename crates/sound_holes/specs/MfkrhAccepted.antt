-- mfkrh as an operator: what it says that one is accepted, what it does to the list, and its inverse.
use Rattle.std.specs.Prelude.{◌≡◌, ◌≢◌, ◌⊎◌, Bool, true, false, not, ◌&&◌, ◌||◌, List, [], ◌∷◌, ℕ, ◌≤◌, eqb, ℤ, length}
use Rattle.std.specs.Prelude.{get_or}
use Rattle.std.proofs.Math.Path.{refl}
use Rattle.std.proofs.Common.{sym, ap, ◌∙◌, subst, inl, inr, eqb→eq, lit≤, T_not}
use Rattle.std.proofs.Math.Logic.{⊎_elim}
use native.Mathlib.Omega.{arith}
use Rattle.std.proofs.Math.IntN.{pos}
use Rattle.std.proofs.Math.ListN.{replicate}
use borrow.Author.Tests.{le-leb}
use Rattle.laws.specs.Bools.{pick, true_T, T_true, T_false, and_T, or_T, eqb_same, eqb_other}
use Rattle.bounds.specs.Bounds.{most_halves}
use Rattle.script.specs.declared.Operator.{Operator}
use Rattle.codec.specs.Operands.{pattern, rows}
use Rattle.script.specs.Operator.{operand_of}
use Rattle.layout.specs.declared.shape.Shape.{Shape}
use Rattle.euler.specs.FaceOperators.{linked_after, mfkrh_test, mfkrh_links}
use Rattle.euler.specs.Exec.{limits, use_word, use_refusal, condition, refusal_of, marks_after, points_after, inverse}
use Rattle.layout.specs.Fields.{SolidUsed, Solid, Outer, Face, Columns}
use Rattle.sound_tables.specs.Cells.{Shows}
use Rattle.sound_tables.specs.Sound.{In, Sound}
use Rattle.sound_tables.specs.Accepted.{by_place, eight, accepted_back, ranges_cons, item_cons, use_old, old_use}
use Rattle.sound_tables.specs.Accepted.{use_new, new_use, in_range_lem, Number, number, number_or_none, unused_range}
use Rattle.sound_tables.specs.Accepted.{unused_use, in_range_or_none, zero_use}
use Rattle.sound_tables.specs.Good.{own, Capacities}
use Rattle.sound_holes.specs.Chains.{after_chain, chain_after, after_none}
use Rattle.sound_holes.specs.MfkrhSound.{cut, RingFace, Moved, old_solid, moved_none, moved_linked}
use Rattle.sound_holes.specs.Shown.{face_links, moved_links, shows_face, shows_moved}
use Rattle.sound_holes.specs.KfmrhAccepted.{kfmrh_of, mfkrh_of, solid_operand}

-- ---- the outcome

-- the new face f lies in s: the solid s₀ of the ring's old face f₀, to which it is linked, or a free one, and it is not
abbrev pub Outcome : Shape → List ℕ → ℕ → ℕ → ℕ → ℕ → ℕ → Type 0
Outcome sh x l f f₀ s₀ s =
    ((s₀ ≡ s) × (linked_after sh x l f f f₀ ≡ true))
    ⊎ ((s₀ ≢ s) × In sh.solids s × (own sh x SolidUsed s ≡ 0) × (linked_after sh x l f f f₀ ≡ false))

-- the faces that move: none, or all that are linked to f
abbrev pub moved_to : Shape → List ℕ → ℕ → ℕ → ℕ → ℕ → ℕ → Bool
moved_to sh x l f s₀ s = pick (eqb s₀ s) (λ g. false) (linked_after sh x l f f)

-- what an accepted mfkrh says
pub record MfkrhFacts (sh : Shape) (x : List ℕ) (o : Operator) : Type 0 where
  pub l : ℕ
  pub f : ℕ
  pub f₀ : ℕ
  pub s₀ : ℕ
  pub s : ℕ
  pub is : o ≡ mfkrh_of l f (solid_operand s₀ s)
  pub ring : RingFace sh (own sh x) l f f₀ s₀
  pub outcome : Outcome sh x l f f₀ s₀ s

-- the test, taken apart
tested : (sh : Shape) (x : List ℕ) (l f t : ℕ) → mfkrh_test sh x l f t ≡ true
    → (own sh x Outer (own sh x Face l) ≢ l)
    × (((linked_after sh x l f f (own sh x Face l) ≡ true) × (t ≡ 0))
    ⊎ ((linked_after sh x l f f (own sh x Face l) ≡ false) × (t ≢ 0)))
unfolding mfkrh_test
tested sh x l f t h =
    let c = own sh x in
    let lk = linked_after sh x l f f (c Face l) in
    let a = and_T (not (eqb (c Outer (c Face l)) l)) ((lk && eqb t 0) || (not lk && not (eqb t 0))) (true_T h) in (
      λ e. T_not (eqb (c Outer (c Face l)) l) a.0 (true_T (eqb_same e)),
      ⊎_elim (λ q. let b = and_T lk (eqb t 0) q in inl (T_true b.0, eqb→eq t 0 b.1))
          (λ q. let b = and_T (not lk) (not (eqb t 0)) q in
          inr (T_false (T_not lk b.0), λ z. T_not (eqb t 0) b.1 (true_T (eqb_same z))))
          (or_T (lk && eqb t 0) (not lk && not (eqb t 0)) a.1),
    )

-- all from the refusal 0
pub mfkrh_facts : (sh : Shape) (x : List ℕ) (p : List ℤ) (o : Operator) → Sound sh p (own sh x) → Capacities sh
    → length o.args ≡ 8 → o.code ≡ 10 → refusal_of sh x o ≡ 0 → MfkrhFacts sh x o
unfolding pattern rows use_word condition
mfkrh_facts sh x p o snd caps len e h =
    let c = own sh x in
    let a = by_place sh x o 10 len refl e h in
    let r = a.range in
    let u = a.used in
    let n0 : Number sh.loops (get_or o.args 0 (pos 0)) = number (limits sh) 6 _ refl refl
    (omega (arith, caps.loops)) (r 0 (lit≤ tt)) in
    let n1 : Number sh.faces (get_or o.args 1 (pos 0)) = number (limits sh) 5 _ refl refl
    (omega (arith, caps.faces)) (r 1 (lit≤ tt)) in
    let n2 : (get_or o.args 2 (pos 0) ≡ pos (operand_of o 2)) × (operand_of o 2 ≤ sh.solids) =
    number_or_none (limits sh) 3 _ refl (omega (arith, caps.solids)) (r 2 (lit≤ tt)) in
    let small : operand_of o 2 ≤ most_halves = omega (arith, n2.1, caps.solids) in
    let is : o ≡ mfkrh_of (operand_of o 0) (operand_of o 1) (operand_of o 2) = λ t. record {
      code = e t;
      count = a.count t;
      args = (eight o.args len ∙ (λ i. n0.is i ∷ n1.is i ∷ n2.0 i ∷ a.rest 3 (lit≤ tt) refl i
          ∷ a.rest 4 (lit≤ tt) refl i ∷ a.rest 5 (lit≤ tt) refl i ∷ a.rest 6 (lit≤ tt) refl i
          ∷ a.rest 7 (lit≤ tt) refl i ∷ [])) t;
    } in
    let test : mfkrh_test sh x (operand_of o 0) (operand_of o 1) (operand_of o 2) ≡ true =
    rw (
      le-leb (operand_of o 0) most_halves n0.small,
      le-leb (operand_of o 1) most_halves n1.small,
      le-leb (operand_of o 2) most_halves small,
    ) at (subst (λ q. condition sh x q ≡ true) is a.holds) in
    let t = tested sh x (operand_of o 0) (operand_of o 1) (operand_of o 2) test in
    let ring : RingFace sh c (operand_of o 0) (operand_of o 1) (c Face (operand_of o 0))
    (c Solid (c Face (operand_of o 0))) = record {
      loop_in = n0.range;
      loop_used = use_old sh x 6 (operand_of o 0) (omega (arith, n0.range)) refl (u 0 (lit≤ tt) n0.small);
      loop_face = refl;
      face_solid_lem = refl;
      ring = t.0;
      face_in_lem = n1.range;
      face_free = use_new sh x 5 (operand_of o 1) (omega (arith, n1.range)) refl (u 1 (lit≤ tt) n1.small);
    } in
    ⊎_elim
    (λ q. record {
      l = operand_of o 0;
      f = operand_of o 1;
      f₀ = c Face (operand_of o 0);
      s₀ = c Solid (c Face (operand_of o 0));
      s = c Solid (c Face (operand_of o 0));
      is = is ∙ ap (mfkrh_of (operand_of o 0) (operand_of o 1))
          (q.1 ∙ sym (rw (eqb_same {m = c Solid (c Face (operand_of o 0))} refl)));
      ring = ring;
      outcome = inl (refl, q.0);
    })
    (λ q.
    let free : c SolidUsed (operand_of o 2) ≡ 0 = use_new sh x 3 (operand_of o 2) q.1 refl (u 2 (lit≤ tt) small) in
    let n : c Solid (c Face (operand_of o 0)) ≢ operand_of o 2 =
    λ y. omega (arith, (old_solid snd ring).1, ap (c SolidUsed) y, free) in
    record {
      l = operand_of o 0;
      f = operand_of o 1;
      f₀ = c Face (operand_of o 0);
      s₀ = c Solid (c Face (operand_of o 0));
      s = operand_of o 2;
      is = is ∙ ap (mfkrh_of (operand_of o 0) (operand_of o 1)) (sym (rw (eqb_other n)));
      ring = ring;
      outcome = inr (n, (omega (arith, q.1), n2.1), free, q.0);
    }) t.1

-- what moves is as the outcome says
pub outcome_moved : {sh : Shape} (x : List ℕ) {p : List ℤ} {l f f₀ s₀ s : ℕ} → Sound sh p (own sh x)
    → RingFace sh (own sh x) l f f₀ s₀ → Outcome sh x l f f₀ s₀ s
    → Moved sh (own sh x) l f f₀ s₀ s (moved_to sh x l f s₀ s)
outcome_moved {sh} x {p} {l} {f} {f₀} {s₀} {s} a r (inl q) =
    subst (λ s. Moved sh (own sh x) l f f₀ s₀ s (moved_to sh x l f s₀ s)) q.0
    (rw (eqb_same {m = s₀} refl) (moved_none a r (after_chain _ a l f r.face_in_lem f f₀ q.1)))
outcome_moved {sh} x {p} {l} {f} {f₀} {s₀} {s} a r (inr q) =
    rw (eqb_other q.0) (moved_linked a r (linked_after sh x l f f) (after_chain _ a l f r.face_in_lem f)
    (λ g. chain_after _ a l f r.face_in_lem f g r.face_in_lem) q.3 s q.1 q.2)

-- ---- mfkrh on a ring and a free face

module _ {sh : Shape} (x : List ℕ) {p : List ℤ} (a : Sound sh p (own sh x)) (caps : Capacities sh) {l f f₀ s₀ s : ℕ}
    (r : RingFace sh (own sh x) l f f₀ s₀) (u : Outcome sh x l f f₀ s₀ s) where
  -- l is read as it stands
  ln : l ≤ most_halves
  ln = omega (arith, r.loop_in.1, caps.loops)

  -- f too
  fn : f ≤ most_halves
  fn = omega (arith, r.face_in_lem.1, caps.faces)

  -- the third operand is 0, or a free solid
  third : (solid_operand s₀ s ≤ sh.solids) × (use_refusal sh x 3 (solid_operand s₀ s) ≡ 0)
  unfolding use_word
  third = ⊎_elim
      (λ q. rw (eqb_same q.0) (omega arith, zero_use sh x 3))
      (λ q. rw (eqb_other q.0) (q.1.1, new_use sh x 3 s (λ z. omega (arith, q.1.0, z)) refl q.2)) u

  -- so it is read as it stands
  sn : solid_operand s₀ s ≤ most_halves
  sn = omega (arith, third.0, caps.solids)

  -- its test passes
  ring_tested : mfkrh_test sh x l f (solid_operand s₀ s) ≡ true
  unfolding mfkrh_test
  ring_tested = ⊎_elim
      (λ q. rw (r.loop_face, eqb_other r.ring, eqb_same q.0, q.1))
      (λ q. let d : s ≢ 0 = λ z. omega (arith, q.1.0, z) in
      rw (r.loop_face, eqb_other r.ring, eqb_other q.0, q.3, eqb_other d)) u

  -- it is accepted
  pub mfkrh_accepted : refusal_of sh x (mfkrh_of l f (solid_operand s₀ s)) ≡ 0
  unfolding pattern rows use_word condition
  mfkrh_accepted =
      let o = mfkrh_of l f (solid_operand s₀ s) in
      let t = third in
      accepted_back sh x o (record {
        code = refl;
        count = refl;
        range = ranges_cons (limits sh) 6 _ (pos l) (pos f ∷ pos (solid_operand s₀ s) ∷ replicate 5 (pos 0))
            (in_range_lem (limits sh) 6 l refl refl r.loop_in)
            (ranges_cons (limits sh) 5 _ (pos f) (pos (solid_operand s₀ s) ∷ replicate 5 (pos 0))
            (in_range_lem (limits sh) 5 f refl refl r.face_in_lem)
            (ranges_cons (limits sh) 3 _ (pos (solid_operand s₀ s)) (replicate 5 (pos 0))
            (in_range_or_none (limits sh) 3 (solid_operand s₀ s) refl refl t.0) (unused_range (limits sh) 5)));
        used = item_cons sh x o 6 _ 0 ln (old_use sh x 6 l (λ z. omega (arith, r.loop_in.0, z)) refl r.loop_used)
            (item_cons sh x o 5 _ 1 fn (new_use sh x 5 f (λ z. omega (arith, r.face_in_lem.0, z)) refl r.face_free)
            (item_cons sh x o 3 _ 2 sn t.1 (unused_use sh x o 5 3)));
        holds = rw (le-leb l most_halves ln, le-leb f most_halves fn, le-leb (solid_operand s₀ s) most_halves sn)
            ring_tested;
      })

  -- it is undone by kfmrh
  pub mfkrh_inverse_lem : (q : List ℤ) → inverse sh x q (mfkrh_of l f (solid_operand s₀ s)) ≡ kfmrh_of f₀ f
  unfolding inverse
  mfkrh_inverse_lem q = rw (le-leb l most_halves ln, le-leb f most_halves fn, r.loop_face)

  -- what it does where nothing moves
  face_links_lem : s₀ ≡ s → marks_after sh x (mfkrh_of l f (solid_operand s₀ s)) ≡ face_links sh x l f s₀
  unfolding marks_after mfkrh_links
  face_links_lem e = rw (le-leb l most_halves ln, le-leb f most_halves fn, eqb_same e, r.loop_face, r.face_solid_lem)

  -- and where faces move
  moved_links_lem : s₀ ≢ s → In sh.solids s → marks_after sh x (mfkrh_of l f (solid_operand s₀ s))
      ≡ moved_links sh x l f s₀ s (linked_after sh x l f f)
  unfolding marks_after mfkrh_links
  moved_links_lem n i =
      let h : s ≤ most_halves = omega (arith, i.1, caps.solids) in
      let d : s ≢ 0 = λ z. omega (arith, i.0, z) in
      rw (
        le-leb l most_halves ln,
        le-leb f most_halves fn,
        eqb_other n,
        le-leb s most_halves h,
        eqb_other d,
        r.loop_face,
        r.face_solid_lem,
      )

  -- the columns that it shows, where c is what the table shows
  pub mfkrh_shows : {c : Columns} → Shows sh x c → c SolidUsed s₀ ≡ 1
      → Shows sh (marks_after sh x (mfkrh_of l f (solid_operand s₀ s))) (cut c l f s₀ s (moved_to sh x l f s₀ s))
  mfkrh_shows {c} t m = ⊎_elim
      (λ q. rw (face_links_lem q.0, eqb_same q.0)
      (subst (λ n. Shows sh (face_links sh x l f s₀) (cut c l f s₀ n (λ g. false))) q.0
      (shows_face t l f s₀ r.loop_in r.face_in_lem m)))
      (λ q. rw (moved_links_lem q.0 q.1, eqb_other q.0)
      (shows_moved t l f s₀ r.loop_in r.face_in_lem s q.1 (linked_after sh x l f f)
      (after_none _ a l f r.face_in_lem f))) u

-- points stay
pub mfkrh_points : (sh : Shape) (x : List ℕ) (l f s : ℕ) (p : List ℤ) → points_after sh x p (mfkrh_of l f s) ≡ p
unfolding points_after
mfkrh_points sh x l f s p = refl
