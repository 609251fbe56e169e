-- The lists that kfmrh and mfkrh leave, seen through their columns.
use Rattle.std.specs.Prelude.{◌≡◌, refl, ◌≢◌, Bool, false, List, [], ◌∷◌, ℕ, zero, suc, ◌≤◌}
use Rattle.std.proofs.Common.{sym, ap, ◌∙◌, arith}
use Rattle.laws.specs.Bools.{pick, split, eqb_other}
use Rattle.laws.specs.Update.{upd_at, upd_off, relabel}
use Rattle.layout.specs.declared.shape.Shape.{Shape}
use Rattle.layout.specs.Layout.{set_solid_used}
use Rattle.euler.specs.FaceOperators.{move_faces}
use Rattle.layout.specs.Fields.{SolidUsed, Solid, Columns, sweep_field, by_fields}
use Rattle.layout.specs.Writes.{write, writes, changes}
use Rattle.sound_tables.specs.Cells.{Shows, shows_agree}
use Rattle.sound_tables.specs.WriteLaws.{shows_writes, among_off, unwritten, with_column, column_other}
use Rattle.sound_tables.specs.Shown.{sweep_columns, shows_sweep, sweep_at, sweep_other}
use Rattle.sound_tables.specs.Sound.{In}
use Rattle.sound_holes.specs.MfkrhSound.{face_writes, cut_solid, cut}
use Rattle.sound_holes.specs.KfmrhSound.{ring_writes, mark_writes, joined}

-- a sweep over all faces: the solid of each is g of the face and of what it was
swept : {sh : Shape} {x y : List ℕ} {c : Columns} (g : ℕ → ℕ → ℕ) → g 0 0 ≡ 0 → Shows sh x c
    → Shows sh y (sweep_columns c sh.faces g) → Shows sh y (with_column c Solid (λ n. g n (c Solid n)))
swept {sh} {c = c} g z s t = shows_agree t (by_fields (Solid ∷ []) _ (solid, tt) (λ F h n u.
    sweep_other c sh.faces g F (among_off (Solid ∷ []) Solid F refl h) n
    ∙ sym (column_other (Solid ∷ []) Solid refl c _ F h n)))
  where
    -- there is no face 0
    solid : (n : ℕ) → n ≤ sh.faces → sweep_columns c sh.faces g Solid n ≡ g n (c Solid n)
    solid zero h = sym (t.at Solid 0 (omega arith)) ∙ sym z ∙ ap (g 0) (s.at Solid 0 (omega arith))
    solid (suc n) h = sweep_at c sh.faces g (suc n) (omega arith, h)

-- ---- kfmrh

-- the list afterwards
abbrev pub joined_links : Shape → List ℕ → ℕ → ℕ → ℕ → ℕ → ℕ → List ℕ
joined_links sh x f1 f2 l s1 s2 = writes sh (mark_writes s1 s2)
    (move_faces sh (writes sh (ring_writes f1 f2 l) x) s2 s1)

-- it shows the columns of `joined`
pub shows_joined : {sh : Shape} {x : List ℕ} {c : Columns} → Shows sh x c → (f1 f2 l s1 s2 : ℕ)
    → In sh.faces f2 → In sh.loops l → In sh.solids s1 → In sh.solids s2
    → Shows sh (joined_links sh x f1 f2 l s1 s2) (joined c f1 f2 l s1 s2)
unfolding relabel
shows_joined {sh} s f1 f2 l s1 s2 i2 il j1 j2 =
    let t = shows_writes (ring_writes f1 f2 l) s (il, (i2, (i2, tt))) in
    let d : 0 ≢ s2 = λ e. omega (arith, j2.0, e) in
    shows_writes (mark_writes s1 s2) (swept _ (rw (eqb_other d)) t (shows_sweep t sh.faces _ (omega arith)))
    (j2, (j1, tt))

-- ---- mfkrh

-- the list with l as the outer loop of f, in solid s₀
abbrev pub face_links : Shape → List ℕ → ℕ → ℕ → ℕ → List ℕ
face_links sh x l f s₀ = writes sh (face_writes l f s₀) x

-- and with the moved faces in solid s
abbrev pub moved_links : Shape → List ℕ → ℕ → ℕ → ℕ → ℕ → (ℕ → Bool) → List ℕ
moved_links sh x l f s₀ s moved =
    sweep_field sh Solid sh.faces (λ g old. pick (moved g) s old) (set_solid_used sh (face_links sh x l f s₀) s 1)

module _ {sh : Shape} {x : List ℕ} {c : Columns} (t : Shows sh x c) (l f s₀ : ℕ) (il : In sh.loops l)
    (jf : In sh.faces f) where
  -- where nothing moves it shows the columns of `cut`: the mark of s₀ is set already
  pub shows_face : c SolidUsed s₀ ≡ 1 → Shows sh (face_links sh x l f s₀) (cut c l f s₀ s₀ (λ g. false))
  shows_face m = shows_agree (shows_writes (face_writes l f s₀) t (jf, (jf, (il, tt))))
      (by_fields (SolidUsed ∷ Solid ∷ []) _ (mark, ((λ n h. refl), tt)) (λ F h n u.
      let e = changes (face_writes l f s₀) c in
      let w = write SolidUsed s₀ 1 ∷ [] in
      sym (column_other (SolidUsed ∷ Solid ∷ []) Solid refl (changes w e) (cut_solid c f s₀ s₀ (λ g. false)) F h n
      ∙ unwritten (SolidUsed ∷ Solid ∷ []) w refl e F h n)))
    where
      -- the mark, written again
      mark : (n : ℕ) → n ≤ sh.solids → c SolidUsed n ≡ cut c l f s₀ s₀ (λ g. false) SolidUsed n
      mark n h = split n s₀ (λ e. ap (c SolidUsed) e ∙ m ∙ sym (upd_at (c SolidUsed) 1 e))
          (λ d. sym (upd_off (c SolidUsed) 1 d))

  -- where faces move, the sweep shows them
  pub shows_moved : (s : ℕ) → In sh.solids s → (moved : ℕ → Bool) → moved 0 ≡ false
      → Shows sh (moved_links sh x l f s₀ s moved) (cut c l f s₀ s moved)
  shows_moved s js moved none =
      let q = shows_writes (write SolidUsed s 1 ∷ []) (shows_writes (face_writes l f s₀) t (jf, (jf, (il, tt))))
      (js, tt) in
      swept (λ g old. pick (moved g) s old) (rw none) q (shows_sweep q sh.faces _ (omega arith))
