-- kfmrh as an operator: what it says that one is accepted, what it does to the list, and its inverse.
use Rattle.std.specs.Prelude.{◌≡◌, ◌≢◌, true, not, List, [], ◌∷◌, ℕ, ◌≤◌, ℤ, pos}
use Rattle.std.proofs.Math.Path.{refl}
use Rattle.std.proofs.Common.{sym, ◌∙◌, arith, eqb→eq, T_not}
use Rattle.std.proofs.Math.Dec.{eqb, not_T}
use borrow.Author.Tests.{le-leb}
use Rattle.laws.specs.Bools.{pick, true_T, T_true, eqb_same}
use Rattle.laws.specs.Every.{every_T, T_every}
use Rattle.laws.specs.Sums.{count_to}
use Rattle.bounds.specs.Bounds.{most_halves}
use Rattle.script.specs.declared.Operator.{Operator}
use Rattle.codec.specs.Operands.{pattern, rows}
use Rattle.layout.specs.declared.shape.Shape.{Shape}
use Rattle.euler.specs.FaceOperators.{kfmrh_test, kfmrh_links}
use Rattle.euler.specs.Exec.{use_word, condition, refusal_of, marks_after, points_after, inverse}
use Rattle.layout.specs.Fields.{Solid, Outer, Face}
use Rattle.sound_tables.specs.Sound.{Sound}
use Rattle.sound_tables.specs.Labels.{many_one, one_many}
use Rattle.sound_tables.specs.Accepted.{use_old, old_use}
use Rattle.sound_tables.specs.TwoOperands.{two_of, TwoOperands, two_accepted}
use Rattle.sound_tables.specs.Good.{own, Capacities}
use Rattle.sound_holes.specs.KfmrhSound.{TwoFaces, ring_in, ring_face}
use Rattle.sound_holes.specs.Shown.{joined_links}

-- kfmrh f1 f2
abbrev pub kfmrh_of : ℕ → ℕ → Operator
kfmrh_of f1 f2 = two_of 9 f1 f2

-- mfkrh l f s
abbrev pub mfkrh_of : ℕ → ℕ → ℕ → Operator
mfkrh_of l f s =
    record { code = 10; count = 3; args = pos l ∷ pos f ∷ pos s ∷ pos 0 ∷ pos 0 ∷ pos 0 ∷ pos 0 ∷ pos 0 ∷ [] }

-- the third operand of the mfkrh whose new face leaves solid s₀ for s: 0 where these are one
abbrev pub solid_operand : ℕ → ℕ → ℕ
solid_operand s₀ s = pick (eqb s₀ s) 0 s

-- the two faces that an accepted kfmrh names
pub kfmrh_two : {sh : Shape} {p : List ℤ} (x : List ℕ) {o : Operator} → Sound sh p (own sh x)
    → (k : TwoOperands sh x o 9 4 4)
    → TwoFaces sh (own sh x) k.m k.n (own sh x Outer k.n) (own sh x Solid k.m) (own sh x Solid k.n)
unfolding kfmrh_test use_word condition
kfmrh_two {sh} x a k =
    let c = own sh x in
    let test : kfmrh_test sh x k.m k.n ≡ true = rw (k.m_small, k.n_small) at k.holds in
    let t = every_T (not (eqb k.m k.n) ∷ eqb (count_to sh.loops (λ m. eqb (c Face m) k.n)) 1 ∷ [])
    (true_T test) in
    let used : c Solid k.n ≢ 0 = use_old sh x 4 k.n (omega (arith, k.n_in.0)) refl k.n_use in
    let b = a.face k.n k.n_in used in
    record {
      first_in = k.m_in;
      first_solid = refl;
      first_used = k.m_used;
      second_in = k.n_in;
      second_solid = refl;
      second_used = used;
      other = λ e. T_not (eqb k.m k.n) t.0 (true_T (eqb_same e));
      outer = refl;
      only = λ m i e. one_many sh.loops (c Face) k.n (eqb→eq _ _ t.1.0) (c Outer k.n) m b.outer_in
          b.outer_face i e;
    }

module _ {sh : Shape} (x : List ℕ) {p : List ℤ} (a : Sound sh p (own sh x)) (caps : Capacities sh) {f1 f2 l s1 s2 : ℕ}
    (r : TwoFaces sh (own sh x) f1 f2 l s1 s2) where
  -- f1 is read as it stands
  n1 : f1 ≤ most_halves
  n1 = omega (arith, r.first_in.1, caps.faces)

  -- f2 too
  n2 : f2 ≤ most_halves
  n2 = omega (arith, r.second_in.1, caps.faces)

  -- its test passes
  two_tested : kfmrh_test sh x f1 f2 ≡ true
  unfolding kfmrh_test
  two_tested = T_true (T_every (not (eqb f1 f2) ∷ eqb (count_to sh.loops (λ m. eqb (own sh x Face m) f2)) 1 ∷ []) (
    not_T (eqb f1 f2) (λ t. r.other (eqb→eq _ _ t)),
    (true_T (eqb_same (many_one sh.loops (own sh x Face) f2 l (ring_in a r) (ring_face a r) r.only)), tt),
  ))

  -- it is accepted
  pub kfmrh_accepted : refusal_of sh x (kfmrh_of f1 f2) ≡ 0
  unfolding pattern rows use_word condition
  kfmrh_accepted = two_accepted sh x 9 4 4 refl refl refl refl (omega (arith, caps.faces)) refl refl
      (omega (arith, caps.faces)) refl f1 f2 r.first_in r.second_in
      (λ z. r.first_used (sym r.first_solid ∙ z))
      (old_use sh x 4 f2 (omega (arith, r.second_in.0)) refl (λ z. r.second_used (sym r.second_solid ∙ z)))
      (rw (le-leb f1 most_halves n1, le-leb f2 most_halves n2) two_tested)

  -- what it does
  pub kfmrh_links_lem : marks_after sh x (kfmrh_of f1 f2) ≡ joined_links sh x f1 f2 l s1 s2
  unfolding marks_after kfmrh_links
  kfmrh_links_lem = rw (le-leb f1 most_halves n1, le-leb f2 most_halves n2, r.outer, r.first_solid, r.second_solid)

  -- it is undone by mfkrh
  pub kfmrh_inverse_lem : (q : List ℤ) → inverse sh x q (kfmrh_of f1 f2) ≡ mfkrh_of l f2 (solid_operand s1 s2)
  unfolding inverse
  kfmrh_inverse_lem q = rw (le-leb f1 most_halves n1, le-leb f2 most_halves n2, r.outer, r.first_solid, r.second_solid)

-- points stay
pub kfmrh_points : (sh : Shape) (x : List ℕ) (f1 f2 : ℕ) (p : List ℤ) → points_after sh x p (kfmrh_of f1 f2) ≡ p
unfolding points_after
kfmrh_points sh x f1 f2 p = refl
