-- kemr, first step: in the form with dummies a dummy goes in after each half of the edge, so that neither run between
-- them is empty. Said here: where each goes then, which loop it names, and that the rules hold.
use Rattle.std.specs.Prelude.{◌≡◌, refl, ◌≢◌, List, ℕ, ◌+◌, ◌-◌, ◌*◌, ◌≤◌, ℤ}
use Rattle.std.proofs.Common.{sym, ◌∙◌, subst, inl, inr, ⊎_elim, arith}
use Rattle.laws.specs.Update.{upd_same, upd_off}
use Rattle.laws.specs.Moves.{Or}
use Rattle.layout.specs.declared.shape.Shape.{Shape}
use Rattle.layout.specs.Mate.{mate}
use Rattle.layout.specs.Fields.{Loop, Next, Columns}
use Rattle.sound_tables.specs.Mates.{mate⁺, mate⁺_high, mate⁺_mate⁺}
use Rattle.sound_tables.specs.EdgeIn.{Halves}
use Rattle.sound_tables.specs.Dummies.{added, add_rules}
use Rattle.sound_tables.specs.Sound.{HalfUsed, Sound}
use Rattle.sound_tables.specs.WithDummies.{up_to_low, extended, Dummy, Member, sound_corners}
use Rattle.sound_bridges.specs.PassedOver.{Rules⁺}
use Rattle.sound_bridges.specs.Relation.{after_in, Bridge, derived, Bridged, ka, low_1, low_2, D21}
use Rattle.sound_bridges.specs.Relation.{D12, new_k, new_a, half_was, dummy_other}

-- the columns with the loop's dummy after the mate
abbrev pub one_in : Shape → Columns → Bridge → Halves
one_in sh d B = added (extended sh d) (2 * sh.edges + B.l) (mate B.k)

-- and with the ring's after k
abbrev pub both_in : Shape → Columns → Bridge → Halves
both_in sh d B = added (one_in sh d B) (2 * sh.edges + B.l2) B.k

-- the members and the two dummies
abbrev pub Wide : Shape → Columns → Bridge → ℕ → Type 0
Wide sh d B = Or (2 * sh.edges + B.l2) (Or (2 * sh.edges + B.l) (Member sh d))

module _ {sh : Shape} {c d : Columns} {B : Bridge} (b : Bridged sh c d B) where
  open derived sh B use {n, a, D1, D2}
  open B use {k, l, l2, N1, N2}
  open b.ends use {half_in, mate_in, loop_in, ring_in, at_1, at_2}

  -- the columns with dummies before
  abbrev H : Halves
  H = extended sh d

  -- with both
  abbrev G : Halves
  G = both_in sh d B

  -- ---- which numbers differ

  -- the first dummy is no half-edge
  pub high_1 : {i : ℕ} → i ≤ n → D1 ≢ i
  high_1 h e = low_1 b h (sym e)

  -- nor is the second
  pub high_2 : {i : ℕ} → i ≤ n → D2 ≢ i
  high_2 h e = low_2 b h (sym e)

  -- what follows the mate is a half-edge
  pub N1_low : N1 ≤ n
  N1_low = (after_in at_1 half_in).1

  -- and what follows k
  pub N2_low : N2 ≤ n
  N2_low = (after_in at_2 mate_in).1

  -- a dummy is its own mate
  pub own_1 : mate⁺ sh.edges D1 ≡ D1
  own_1 = mate⁺_high sh.edges D1 (omega (arith, loop_in.0))

  -- so is the second
  pub own_2 : mate⁺ sh.edges D2 ≡ D2
  own_2 = mate⁺_high sh.edges D2 (omega (arith, ring_in.0))

  -- ---- where they go

  -- the mate, before
  pub went_a : H.next a ≡ N1
  went_a = up_to_low n (d Next) _ a mate_in.1 ∙ b.next_a

  -- k, with the first dummy in
  pub went_k : (one_in sh d B).next k ≡ N2
  went_k = upd_off _ _ (ka b) ∙ upd_off _ _ (low_1 b half_in.1) ∙ up_to_low n (d Next) _ k half_in.1 ∙ b.next_k

  -- k goes to the second dummy
  pub goes_k : G.next k ≡ D2
  goes_k = upd_same _ k D2

  -- its mate to the first
  pub goes_a : G.next a ≡ D1
  goes_a = upd_off _ _ (λ e. ka b (sym e)) ∙ upd_off _ _ (low_2 b mate_in.1) ∙ upd_same _ a D1

  -- which goes on to where the mate went
  pub goes_D1 : G.next D1 ≡ N1
  goes_D1 = upd_off _ _ (high_1 half_in.1) ∙ upd_off _ _ (D12 b) ∙ upd_off _ _ (high_1 mate_in.1)
      ∙ upd_same _ D1 _ ∙ went_a

  -- and the second to where k went
  pub goes_D2 : G.next D2 ≡ N2
  goes_D2 = upd_off _ _ (high_2 half_in.1) ∙ upd_same _ D2 _ ∙ went_k

  -- all others go where they went
  pub goes_o : (i : ℕ) → i ≢ k → i ≢ a → i ≢ D1 → i ≢ D2 → G.next i ≡ H.next i
  goes_o i e f g h = upd_off _ _ e ∙ upd_off _ _ h ∙ upd_off _ _ f ∙ upd_off _ _ g

  -- ---- which loops they name

  -- k
  pub names_k : G.loop k ≡ l
  names_k = upd_off _ _ (low_2 b half_in.1) ∙ upd_off _ _ (low_1 b half_in.1)
      ∙ up_to_low n (d Loop) _ k half_in.1 ∙ b.loop_k

  -- its mate
  pub names_a : G.loop a ≡ l
  names_a = upd_off _ _ (low_2 b mate_in.1) ∙ upd_off _ _ (low_1 b mate_in.1)
      ∙ up_to_low n (d Loop) _ a mate_in.1 ∙ b.loop_a

  -- the first dummy
  pub names_D1 : G.loop D1 ≡ l
  names_D1 = upd_off _ _ (D12 b) ∙ upd_same _ D1 _ ∙ up_to_low n (d Loop) _ a mate_in.1 ∙ b.loop_a

  -- the second
  pub names_D2 : G.loop D2 ≡ l
  names_D2 = upd_same _ D2 _ ∙ upd_off _ _ (low_1 b half_in.1) ∙ up_to_low n (d Loop) _ k half_in.1 ∙ b.loop_k

  -- and all others
  pub names_o : (i : ℕ) → i ≢ D1 → i ≢ D2 → G.loop i ≡ H.loop i
  names_o i f g = upd_off _ _ g ∙ upd_off _ _ f

  -- ---- the rules

  -- the first dummy is not there yet
  gone_1 : ¬ Member sh d D1
  gone_1 = ⊎_elim (λ w. low_1 b w.1 refl) (λ w. (dummy_other b D1 w).0 (omega arith))

  -- nor the second
  gone_2 : ¬ Or D1 (Member sh d) D2
  gone_2 = ⊎_elim (D21 b) (⊎_elim (λ w. low_2 b w.1 refl) (λ w. (dummy_other b D2 w).1 (omega arith)))

  -- the rules with both
  pub wide_rules : {pt : List ℤ} → Sound sh pt d → Rules⁺ sh (Wide sh d B) (both_in sh d B)
  wide_rules A =
      let mm = mate⁺_mate⁺ sh.edges in
      let one = add_rules (sound_corners A).rules mm D1 a own_1 (inl (new_a b)) gone_1 (omega (arith, loop_in.0))
      (omega (arith, loop_in.1)) in
      add_rules one mm D2 k own_2 (inr (inl (new_k b))) gone_2 (omega (arith, ring_in.0)) (omega (arith, ring_in.1))

  -- a statement about each: about k, its mate, the two dummies, a half-edge of c, a dummy of another loop
  pub each : (Q : ℕ → Type 0) → Q k → Q a → Q D1 → Q D2 → ((i : ℕ) → HalfUsed sh c i → Q i)
      → ((i : ℕ) → Dummy sh d i → i - n ≢ l → i - n ≢ l2 → Q i) → (i : ℕ) → Wide sh d B i → Q i
  each Q qk qa q1 q2 qh qd i = ⊎_elim (λ e. subst Q (sym e) q2) (⊎_elim (λ e. subst Q (sym e) q1)
      (⊎_elim (λ w. half_was b {Q = Q} qk qa qh i w) (λ w. let e = dummy_other b i w in qd i w e.0 e.1)))
