-- A walk along a run, half-edge by half-edge, on any list: `passed n` is what stands when n have been passed, and the
-- whole walk is `passed` of as many as it meets before its end.
use Rattle.std.specs.Prelude.{◌≡◌, refl, ◌≢◌, ◌⊎◌, List, ℕ, zero, suc, ◌≤◌, ◌<◌, length}
use Rattle.std.proofs.Math.Path.{sym, ap}
use Rattle.std.proofs.Common.{◌∙◌, inl, inr, arith, lit≤}
use Rattle.std.proofs.Math.Logic.{⊎_elim}
use Rattle.laws.specs.Bools.{le?, eqb_same, eqb_other}
use Rattle.laws.specs.Columns.{store_length, col_store_other}
use Rattle.laws.specs.Permutations.{iter, iter_last}
use Rattle.layout.specs.declared.shape.Shape.{Shape}
use Rattle.layout.specs.Fields.{half_kind, word_of, group_at, Loop, Next}
use Rattle.layout.specs.Layout.{next_of, set_loop}
use Rattle.euler.specs.Surgery.{relabel, passed}

-- a half-edge that is given another loop is followed by the same one
next_kept : (sh : Shape) (x : List ℕ) (k l : ℕ) → next_of sh (set_loop sh x k l) ≡ next_of sh x
next_kept sh x k l = λ t n.
    col_store_other 0 (group_at sh half_kind) (word_of Next) (word_of Loop) x (lit≤ tt) (lit≤ tt)
    (omega arith) k l n t

-- the first that is passed is k
pub passed_first : (sh : Shape) (n : ℕ) (x : List ℕ) (k l : ℕ)
    → passed sh (suc n) x k l ≡ passed sh n (set_loop sh x k l) (next_of sh x k) l
unfolding passed iter
passed_first sh zero x k l = refl
passed_first sh (suc n) x k l =
    ap (λ y. set_loop sh y (iter (next_of sh x) n (next_of sh x k)) l) (passed_first sh n x k l)
    ∙ ap (λ f. set_loop sh (passed sh n (set_loop sh x k l) (next_of sh x k) l) (iter f n (next_of sh x k)) l)
    (sym (next_kept sh x k l))

-- passing changes no next
pub next_passed : (sh : Shape) (n : ℕ) (x : List ℕ) (k l : ℕ) → next_of sh (passed sh n x k l) ≡ next_of sh x
unfolding passed
next_passed sh zero x k l = refl
next_passed sh (suc n) x k l = next_kept sh (passed sh n x k l) (iter (next_of sh x) n k) l ∙ next_passed sh n x k l

-- nor how many words there are
pub length_passed : (sh : Shape) (n : ℕ) (x : List ℕ) (k l : ℕ) → length (passed sh n x k l) ≡ length x
unfolding passed
length_passed sh zero x k l = refl
length_passed sh (suc n) x k l =
    store_length (group_at sh half_kind) (word_of Loop) (passed sh n x k l) (iter (next_of sh x) n k) l
    ∙ length_passed sh n x k l

-- the walk: n half-edges at most from k on, of which it passes d, up to stop if that is met
pub relabel_passed : (sh : Shape) (n d : ℕ) (x : List ℕ) (k stop l : ℕ) → d ≤ n
    → ((t : ℕ) → t < d → iter (next_of sh x) t k ≢ stop) → (d ≡ n) ⊎ (iter (next_of sh x) d k ≡ stop)
    → relabel sh n x k stop l ≡ passed sh d x k l
unfolding relabel passed iter
relabel_passed sh zero zero x k stop l h w e = refl
relabel_passed sh (suc n) zero x k stop l h w (inl e) = absurd (omega arith)
relabel_passed sh (suc n) zero x k stop l h w (inr e) = rw (eqb_same e) refl
relabel_passed sh zero (suc d) x k stop l h w e = absurd (omega arith)
relabel_passed sh (suc n) (suc d) x k stop l h w e =
    let q = next_kept sh x k l in
    rw (eqb_other (w 0 (omega arith)))
    (relabel_passed sh n d (set_loop sh x k l) (next_of sh (set_loop sh x k l) k) stop l (omega arith)
    (λ t b. rw q (w (suc t) (omega arith))) (⊎_elim (λ z. inl (omega arith)) (λ z. inr (rw q z)) e)
    ∙ rw q (sym (passed_first sh d x k l)))

-- where the walk stands when n half-edges have been passed: the links were x and are y, and k is the next one
pub record Walked (sh : Shape) (x : List ℕ) (from stop l n : ℕ) (y : List ℕ) (k : ℕ) : Type 0 where
  -- those passed name l, and nothing else differs from x
  pub links : y ≡ passed sh n x from l
  -- k is as far along next
  pub place : k ≡ iter (next_of sh x) n from
  -- stop has not been met
  pub unmet : (t : ℕ) → t < n → iter (next_of sh x) t from ≢ stop

-- it begins with none
pub walked_none : (sh : Shape) (x : List ℕ) (from stop l n : ℕ) → n ≡ 0 → Walked sh x from stop l n x from
unfolding passed iter
walked_none sh x from stop l n e = rw e (record { links = refl; place = refl; unmet = λ t h. absurd (omega arith) })

module _ (sh : Shape) (x : List ℕ) (from stop l n : ℕ) (y : List ℕ) (k : ℕ) (w : Walked sh x from stop l n y k) where
  -- it passes the next one
  pub walked_on : k ≢ stop → (m : ℕ) → m ≡ suc n → (z : List ℕ) (j : ℕ) → z ≡ set_loop sh y k l → j ≡ next_of sh y k
      → Walked sh x from stop l m z j
  unfolding passed
  walked_on e m h z j p q = rw h (record {
    links = p ∙ ap (λ i. set_loop sh y i l) w.place ∙ ap (λ v. set_loop sh v (iter (next_of sh x) n from) l) w.links;
    place = q ∙ ap (λ v. next_of sh v k) w.links ∙ ap (λ f. f k) (next_passed sh n x from l)
        ∙ ap (next_of sh x) w.place ∙ sym (iter_last (next_of sh x) n from);
    unmet = λ t b. ⊎_elim (w.unmet t)
        (λ a z. e (w.place ∙ ap (λ i. iter (next_of sh x) i from) (omega (arith, a, b)) ∙ z)) (le? (suc t) n);
  })

  -- it has met its end
  pub walked_stop : (fuel : ℕ) → n ≤ fuel → k ≡ stop → y ≡ relabel sh fuel x from stop l
  walked_stop fuel h e =
      w.links ∙ sym (relabel_passed sh fuel n x from stop l h w.unmet (inr (sym w.place ∙ e)))

  -- or as many have been passed as may be
  pub walked_out : (fuel : ℕ) → n ≡ fuel → y ≡ relabel sh fuel x from stop l
  walked_out fuel h = w.links ∙ sym (relabel_passed sh fuel n x from stop l (omega arith) w.unmet (inl h))
