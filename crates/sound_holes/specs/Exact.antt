-- The pair kfmrh and mfkrh, vertex words read as marks (`Marked`): a marked table stays marked, and each undoes the
-- other to the word.
use Rattle.std.specs.Prelude.{◌≡◌, refl, true, false, List, ℕ, ◌≤◌, ℤ, length}
use Rattle.std.proofs.Common.{sym, ap, ◌∙◌, subst, inl, inr, ⊎_elim, arith}
use Rattle.std.proofs.lemmas.Bool.{false≢true}
use Rattle.laws.specs.Bools.{split, ask, eqb_same, eqb_other}
use Rattle.laws.specs.Update.{upd_at, upd_off, upd_same}
use Rattle.laws.specs.Linked.{link, map_linked, linked_same}
use Rattle.bounds.specs.Bounds.{most_halves}
use Rattle.script.specs.declared.Operator.{Operator}
use Rattle.codec.specs.Operands.{pattern, rows}
use Rattle.layout.specs.declared.shape.Shape.{Shape}
use Rattle.layout.specs.Mate.{mate}
use Rattle.euler.specs.FaceOperators.{linked_after}
use Rattle.euler.specs.Exec.{refusal_of, marks_after}
use Rattle.layout.specs.Fields.{SolidUsed, Solid, Face, Start, Loop}
use Rattle.sound_tables.specs.Cells.{Shows, shows_ext}
use Rattle.sound_tables.specs.Sound.{In, HalfUsed, side}
use Rattle.sound_tables.specs.Good.{own, Marked, marked_shows, marked_after}
use Rattle.sound_tables.specs.Balance.{Balanced, shown_still}
use Rattle.sound_tables.specs.Undone.{Kept, Undone, exact}
use Rattle.sound_tables.specs.TwoOperands.{TwoOperands, two_operands}
use Rattle.sound_holes.specs.Chains.{side_in, Chain, after_chain, chain_after}
use Rattle.sound_holes.specs.MfkrhSound.{cut, RingFace, Moved, old_solid, cut_sound}
use Rattle.sound_holes.specs.KfmrhSound.{joined, TwoFaces, second_face, first_marked, second_marked, ring_in}
use Rattle.sound_holes.specs.KfmrhSound.{ring_face, joined_sound}
use Rattle.sound_holes.specs.Undone.{cut_two, cut_joined, joined_ring, joined_cut}
use Rattle.sound_holes.specs.Shown.{joined_links, shows_joined}
use Rattle.sound_holes.specs.KfmrhAccepted.{kfmrh_of, mfkrh_of, solid_operand, kfmrh_two, kfmrh_accepted}
use Rattle.sound_holes.specs.KfmrhAccepted.{kfmrh_links_lem, kfmrh_inverse_lem, kfmrh_points}
use Rattle.sound_holes.specs.MfkrhAccepted.{Outcome, moved_to, mfkrh_facts, outcome_moved, mfkrh_accepted}
use Rattle.sound_holes.specs.MfkrhAccepted.{mfkrh_inverse_lem, mfkrh_shows, mfkrh_points}

-- ---- mfkrh

module _ {sh : Shape} {x : List ℕ} {p : List ℤ} (g : Marked sh x p) {l f f₀ s₀ s : ℕ}
    (r : RingFace sh (own sh x) l f f₀ s₀) (u : Outcome sh x l f f₀ s₀ s) where
  -- the operator
  abbrev op : Operator
  op = mfkrh_of l f (solid_operand s₀ s)

  -- the list afterwards
  abbrev y : List ℕ
  y = marks_after sh x op

  -- which faces move
  what_moves : Moved sh (own sh x) l f f₀ s₀ s (moved_to sh x l f s₀ s)
  what_moves = outcome_moved _ g.sound r u

  -- the list shows the columns of `cut`
  y_shows : Shows sh y (cut (own sh x) l f s₀ s (moved_to sh x l f s₀ s))
  y_shows = mfkrh_shows _ g.sound g.capacities r u (marked_shows g) (old_solid g.sound r).1

  -- and is marked
  y_good : Marked sh y p
  y_good = marked_after g y_shows (λ n. refl) refl (cut_sound g.sound r what_moves)

  -- the two faces that kfmrh joins again
  y_two : TwoFaces sh (own sh y) f₀ f l s₀ s
  y_two = cut_two g.sound r what_moves (λ F n h. y_shows.at F n h)

  -- joined again, the list is the first one
  cut_back : marks_after sh y (kfmrh_of f₀ f) ≡ x
  cut_back =
      kfmrh_links_lem _ y_good.sound g.capacities y_two
      ∙ shows_ext (shows_joined y_shows f₀ f l s₀ s r.face_in_lem r.loop_in (old_solid g.sound r).0
      what_moves.solid_in) (marked_shows g) (cut_joined g.sound r what_moves)

  -- a marked table stays marked, and kfmrh gives everything back
  pub mfkrh_exact : Kept sh x p op × Undone sh x p op
  mfkrh_exact =
      let caps = g.capacities in
      exact refl (mfkrh_points sh x l f (solid_operand s₀ s) p) (mfkrh_inverse_lem _ g.sound caps r u p) y_good
      (kfmrh_accepted _ y_good.sound caps y_two) cut_back (kfmrh_points sh y f₀ f p)
      (kfmrh_inverse_lem _ y_good.sound caps y_two p)

  -- neither half-edges nor vertices change
  mfkrh_still : Balanced sh x op
  mfkrh_still = shown_still y_shows refl refl (λ i. refl) (λ w i. inl refl)

-- ---- kfmrh

module _ {sh : Shape} {x : List ℕ} {p : List ℤ} (g : Marked sh x p) {f1 f2 l s1 s2 : ℕ}
    (r : TwoFaces sh (own sh x) f1 f2 l s1 s2) where
  -- the list afterwards
  abbrev yk : List ℕ
  yk = joined_links sh x f1 f2 l s1 s2

  -- it shows the columns of `joined`
  yk_shows : Shows sh yk (joined (own sh x) f1 f2 l s1 s2)
  yk_shows = shows_joined (marked_shows g) f1 f2 l s1 s2 r.second_in (ring_in g.sound r)
      (first_marked g.sound r).0 (second_marked g.sound r).0

  -- and is marked
  yk_good : Marked sh yk p
  yk_good = marked_after g yk_shows (λ n. refl) refl (joined_sound g.sound r)

  -- the ring that mfkrh makes a face again
  yk_ring : RingFace sh (own sh yk) l f2 f1 s1
  yk_ring = joined_ring g.sound r (λ F n h. yk_shows.at F n h)

  -- the half-edges in use are the same
  half_to : (k : ℕ) → HalfUsed sh (own sh yk) k → HalfUsed sh (own sh x) k
  half_to k u = (u.0, u.1, λ z. u.2 (yk_shows.at Start k u.1 ∙ z))

  -- and back
  half_from : (k : ℕ) → HalfUsed sh (own sh x) k → HalfUsed sh (own sh yk) k
  half_from k u = (u.0, u.1, λ z. u.2 (sym (yk_shows.at Start k u.1) ∙ z))

  -- with the loop in f2 again each has its old side
  side_again : (k : ℕ) → HalfUsed sh (own sh x) k → side_in (own sh yk) l f2 k ≡ side (own sh x) k
  side_again k u =
      let e : own sh yk Loop k ≡ own sh x Loop k = yk_shows.at Loop k u.1 in
      let i = (g.sound.half k (u.0, u.1) u.2).loop_in in
      split (own sh x Loop k) l
      (λ q. upd_at (own sh yk Face) f2 (e ∙ q) ∙ sym (ap (own sh x Face) q ∙ ring_face g.sound r))
      (λ n. upd_off (own sh yk Face) f2 (λ q. n (sym e ∙ q)) ∙ ap (own sh yk Face) e
      ∙ yk_shows.at Face (own sh x Loop k) i.1 ∙ upd_off (own sh x Face) f1 n)

  -- so the chains are the old ones
  chain_to : {h i : ℕ} → Chain sh (own sh yk) (side_in (own sh yk) l f2) h i → Chain sh (own sh x) (side (own sh x)) h i
  chain_to = map_linked (λ i. i) (λ h i t.
      let u = half_to t.0 t.1 in
      link (
        t.0,
        u,
        sym (side_again t.0 u) ∙ t.2,
        sym (side_again (mate t.0) (g.sound.rules.mate_in t.0 u)) ∙ t.3,
      ))

  -- and back
  chain_from : {h i : ℕ} → Chain sh (own sh x) (side (own sh x)) h i
      → Chain sh (own sh yk) (side_in (own sh yk) l f2) h i
  chain_from =
      map_linked (λ i. i)
      (λ h i t.
      link (
        t.0,
        half_from t.0 t.1,
        side_again t.0 t.1 ∙ t.2,
        side_again (mate t.0) (g.sound.rules.mate_in t.0 t.1) ∙ t.3,
      ))

  -- a face that is linked to f2 then lay in its solid
  linked_second : (h : ℕ) → linked_after sh yk l f2 f2 h ≡ true → own sh x Solid h ≡ s2
  linked_second h t =
      sym (linked_same (own sh x Solid) (λ i j q. ap (own sh x Solid) (sym q.2)
      ∙ sym (g.sound.solids.edge q.0 q.1) ∙ ap (own sh x Solid) q.3)
      (chain_to (after_chain _ yk_good.sound l f2 r.second_in f2 h t))) ∙ r.second_solid

  -- and each that lay there is linked to it
  second_linked : (h : ℕ) → In sh.faces h → own sh x Solid h ≡ s2 → linked_after sh yk l f2 f2 h ≡ true
  second_linked h i e = chain_after _ yk_good.sound l f2 r.second_in f2 h r.second_in
      (chain_from (g.sound.solids.one f2 h (second_face g.sound r) (i.0, i.1, λ z. r.second_used (sym e ∙ z))
      (r.second_solid ∙ sym e)))

  -- mfkrh then makes a solid just if there were two
  yk_outcome : Outcome sh yk l f2 f1 s1 s2
  yk_outcome = split s1 s2
      (λ e. inl (e, second_linked f1 r.first_in (r.first_solid ∙ e)))
      (λ n. inr (
        n,
        (second_marked g.sound r).0,
        yk_shows.at SolidUsed s2 (second_marked g.sound r).0.1 ∙ upd_off _ 1 (λ e. n (sym e)) ∙ upd_same _ s2 0,
        ⊎_elim (λ t. absurd (n (sym r.first_solid ∙ linked_second f1 t))) (λ t. t)
            (ask (linked_after sh yk l f2 f2 f1)),
      ))

  -- what moves lay in the second solid
  moved_second : (n : ℕ) → In sh.faces n → moved_to sh yk l f2 s1 s2 n ≡ true → own sh x Solid n ≡ s2
  moved_second n i = split s1 s2 (λ e. rw (eqb_same e) (λ t. absurd (false≢true t)))
      (λ d. rw (eqb_other d) (linked_second n))

  -- what lay there and does not move tells that there was one solid
  unmoved : (n : ℕ) → In sh.faces n → moved_to sh yk l f2 s1 s2 n ≡ false → own sh x Solid n ≡ s2 → s1 ≡ s2
  unmoved n i = split s1 s2 (λ e t q. e)
      (λ d. rw (eqb_other d) (λ t q. absurd (false≢true (sym t ∙ second_linked n i q))))

  -- cut again, the list is the first one
  joined_back : marks_after sh yk (mfkrh_of l f2 (solid_operand s1 s2)) ≡ x
  joined_back = shows_ext (mfkrh_shows _ yk_good.sound g.capacities yk_ring yk_outcome yk_shows (upd_same _ s1 1))
      (marked_shows g) (joined_cut g.sound r (moved_to sh yk l f2 s1 s2) moved_second unmoved)

  -- a marked table stays marked, and mfkrh gives everything back
  pub kfmrh_exact : Kept sh x p (kfmrh_of f1 f2) × Undone sh x p (kfmrh_of f1 f2)
  kfmrh_exact =
      let caps = g.capacities in
      exact (kfmrh_links_lem _ g.sound caps r) (kfmrh_points sh x f1 f2 p) (kfmrh_inverse_lem _ g.sound caps r p)
      yk_good
      (mfkrh_accepted _ yk_good.sound caps yk_ring yk_outcome) joined_back
      (mfkrh_points sh yk l f2 (solid_operand s1 s2) p) (mfkrh_inverse_lem _ yk_good.sound caps yk_ring yk_outcome p)

  -- neither half-edges nor vertices change
  kfmrh_still : Balanced sh x (kfmrh_of f1 f2)
  kfmrh_still = shown_still
      (subst (λ t. Shows sh t (joined (own sh x) f1 f2 l s1 s2)) (sym (kfmrh_links_lem _ g.sound g.capacities r))
      yk_shows) refl refl (λ i. refl) (λ w i. inl refl)

-- ---- as operators

-- the two faces of an accepted kfmrh
kfmrh_faces : (sh : Shape) (x : List ℕ) (p : List ℤ) (o : Operator) → Marked sh x p → length o.args ≡ 8
    → o.code ≡ 9 → refusal_of sh x o ≡ 0 → TwoOperands sh x o 9 4 4
unfolding pattern rows
kfmrh_faces sh x p o g len e h =
    let most : sh.faces ≤ most_halves = omega (arith, g.capacities.faces) in
    two_operands sh x 9 4 4 refl refl refl refl most refl refl most refl o len e h

-- both for kfmrh
pub kfmrh_holds : (sh : Shape) (x : List ℕ) (p : List ℤ) (o : Operator) → Marked sh x p → length o.args ≡ 8
    → o.code ≡ 9 → refusal_of sh x o ≡ 0 → Kept sh x p o × Undone sh x p o
kfmrh_holds sh x p o g len e h =
    let k = kfmrh_faces sh x p o g len e h in
    subst (λ q. Kept sh x p q × Undone sh x p q) (sym k.is) (kfmrh_exact g (kfmrh_two x g.sound k))

-- both for mfkrh
pub mfkrh_holds : (sh : Shape) (x : List ℕ) (p : List ℤ) (o : Operator) → Marked sh x p → length o.args ≡ 8
    → o.code ≡ 10 → refusal_of sh x o ≡ 0 → Kept sh x p o × Undone sh x p o
mfkrh_holds sh x p o g len e h =
    let k = mfkrh_facts sh x p o g.sound g.capacities len e h in
    subst (λ q. Kept sh x p q × Undone sh x p q) (sym k.is) (mfkrh_exact g k.ring k.outcome)

-- what they do to starts and marks: nothing
pub kfmrh_balanced : (sh : Shape) (x : List ℕ) (p : List ℤ) (o : Operator) → Marked sh x p → length o.args ≡ 8
    → o.code ≡ 9 → refusal_of sh x o ≡ 0 → Balanced sh x o
kfmrh_balanced sh x p o g len e h =
    let k = kfmrh_faces sh x p o g len e h in
    subst (Balanced sh x) (sym k.is) (kfmrh_still g (kfmrh_two x g.sound k))

pub mfkrh_balanced : (sh : Shape) (x : List ℕ) (p : List ℤ) (o : Operator) → Marked sh x p → length o.args ≡ 8
    → o.code ≡ 10 → refusal_of sh x o ≡ 0 → Balanced sh x o
mfkrh_balanced sh x p o g len e h =
    let k = mfkrh_facts sh x p o g.sound g.capacities len e h in
    subst (Balanced sh x) (sym k.is) (mfkrh_still g k.ring k.outcome)
