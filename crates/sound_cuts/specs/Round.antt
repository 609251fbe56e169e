-- The walk that mef and kef both make, from next of a half-edge b up to b, seen through the columns: it gives another
-- loop to all of b's cycle but b.
use Rattle.std.specs.Prelude.{◌≡◌, ◌≢◌, ◌⊎◌, false, List, ℕ, ◌*◌, ◌≤◌, ℤ}
use Rattle.std.proofs.Common.{sym, ap, ◌∙◌, ⊎_elim, arith}
use Rattle.laws.specs.Bools.{split}
use Rattle.laws.specs.Linked.{linked_same}
use Rattle.laws.specs.Permutations.{iter_in}
use Rattle.laws.specs.Cycles.{Cycles}
use Rattle.laws.specs.Walks.{chain}
use Rattle.layout.specs.declared.shape.Shape.{Shape}
use Rattle.euler.specs.Surgery.{relabel_run}
use Rattle.layout.specs.Fields.{Field, Loop, Next, Columns, same_field}
use Rattle.sound_tables.specs.Cells.{Shows}
use Rattle.sound_tables.specs.Sound.{HalfUsed, Sound}
use Rattle.sound_tables.specs.Names.{named_used}
use Rattle.sound_tables.specs.Walking.{run_columns, shows_relabel, run_met, run_off, run_other, way_round, on_the_way}
use Rattle.sound_cuts.specs.Relation.{Spot, Cut}

-- a half-edge that names the new loop m is in use
pub names_new : {sh : Shape} {p : List ℤ} {c d : Columns} {q : Spot} → Cut sh c d q → Sound sh p d → (i : ℕ)
    → i ≤ 2 * sh.edges → d Loop i ≡ q.m → HalfUsed sh d i
names_new {sh} {d = d} k t i h e = split i 0 (λ z. absurd (k.loop_zero (ap (d Loop) (sym z) ∙ e))) (λ z.
    named_used t k.site.m_in.0 i (omega arith, h) e)

module _ {sh : Shape} {x : List ℕ} {e : Columns} {U : ℕ → Type 0} {lab : ℕ → ℕ} (s : Shows sh x e)
    (y : Cycles (2 * sh.edges) U (e Next) lab) (b : ℕ) (w : U b) (l : ℕ) where
  -- the columns after the walk
  abbrev pub round_columns : Columns
  round_columns = run_columns e (e Next b) (way_round y b w).0 l

  -- the list shows them
  pub shows_round : Shows sh (relabel_run sh x (e Next b) b l) round_columns
  shows_round =
      let r = way_round y b w in
      shows_relabel sh (2 * sh.edges) r.0 x e (e Next b) b l s (omega (arith, r.1)) r.2
      (λ t h. let i = iter_in y.perm t (e Next b) (y.perm.f_in b w) in (y.perm.low _ i, y.perm.high _ i))

  -- the other columns stay
  pub round_other : (F : Field) → same_field Loop F ≡ false → (n : ℕ) → round_columns F n ≡ e F n
  round_other F h n = run_other e (way_round y b w).0 (e Next b) l F h n

  -- those of b's cycle have l
  pub round_in : (i : ℕ) → U i → lab i ≡ lab b → i ≢ b → round_columns Loop i ≡ l
  round_in i u h f = ⊎_elim (λ z. absurd (f z))
      (λ z. ap (round_columns Loop) (sym z.2) ∙ run_met e (way_round y b w).0 (e Next b) l z.0 z.1)
      (on_the_way y b w (way_round y b w).2 i u h)

  -- b and the others what they had
  pub round_off : (i : ℕ) → (i ≡ b) ⊎ (lab i ≢ lab b) → round_columns Loop i ≡ e Loop i
  round_off i h = run_off e (way_round y b w).0 (e Next b) l i (λ t z g. ⊎_elim
      (λ f. (way_round y b w).2.first t z (g ∙ f))
      (λ f. f (ap lab (sym g) ∙ sym (linked_same lab (λ a c p. sym (y.keeps a p.0) ∙ ap lab p.1)
      (chain y.perm.f_in t (e Next b) (y.perm.f_in b w))) ∙ y.keeps b w)) h)
