-- The ways out of the loops that pass faces to another solid, and those of kfmrh and mfkrh, one law each.
use Rattle.std.specs.Prelude.{◌≡◌, ◌≢◌, Bool, true, false, ◌||◌, List, ℕ, zero, suc, ◌+◌, ◌*◌, eqb}
use Rattle.std.proofs.Math.Path.{refl, ap, fun_ext}
use Rattle.std.proofs.Common.{sym, ◌∙◌}
use Rattle.std.proofs.Math.Numerals.{add-one}
use Rattle.std.proofs.lemmas.List.{set-get_or}
use Rattle.laws.specs.Bools.{pick, split, eqb_same, eqb_other}
use Rattle.laws.specs.Columns.{Kind, sweep}
use Rattle.laws.specs.UnionFind.{SameRoots}
use Rattle.layout.specs.declared.shape.Shape.{Shape}
use Rattle.layout.specs.Layout.{face_solid, face_outer, loop_face, set_solid_used, set_face_solid}
use Rattle.layout.specs.Items.{some, is_ring}
use Rattle.check_shells.specs.Shells.{side_as, one_root, faces_linked_as, Shells}
use Rattle.check_shells.specs.ShellsLaws.{one_root_short}
use Rattle.euler.specs.FaceOperators.{move_faces, kfmrh_links, linked_after, ring_face, mfkrh_test}
use Rattle.euler.specs.FaceOperators.{mfkrh_links}
use Rattle.euler_holes.specs.Moves.{sweep_faces, by_root, move_shell, join_solids, give_loop}

-- ---- face after face

module _ (sh : Shape) (g : ℕ → ℕ → ℕ) (x : List ℕ) where
  -- before the first
  pub sweep_none : x ≡ sweep_faces sh 0 g x
  unfolding sweep
  sweep_none = refl

  -- one face more
  pub sweep_more : (k : ℕ) (y z : List ℕ) (v w : ℕ) → y ≡ sweep_faces sh k g x → v ≡ face_solid sh y (k + 1)
      → w ≡ g (k + 1) v
      → z ≡ set_face_solid sh y (k + 1) w → z ≡ sweep_faces sh (k + 1) g x
  unfolding sweep
  sweep_more k y z v w ey ev ew ez = rw (ez, ew, ev, ey, add-one k)

-- storing what is there already changes nothing, whether there is such a record or not
sweep_same : (κ : Kind) (j n : ℕ) (g : ℕ → ℕ → ℕ) (x : List ℕ) → ((k v : ℕ) → g k v ≡ v) → sweep κ j n g x ≡ x
unfolding sweep
sweep_same κ j zero g x h = refl
sweep_same κ j (suc n) g x h =
    rw (sweep_same κ j n g x h, h (suc n) _) (set-get_or x (κ.base + κ.width * n + j) 0)

-- faces that pass to their own solid stay
pub move_none : (sh : Shape) (x : List ℕ) (s t : ℕ) → s ≡ t → x ≡ move_faces sh x s t
move_none sh x s t e = sym (sweep_same _ _ sh.faces _ x (λ k v. own v))
  where
    own : (v : ℕ) → pick (eqb v s) t v ≡ v
    own v = split v s (λ q. rw (eqb_same q) (sym (q ∙ e))) (λ q. rw (eqb_other q))

-- what the parents answer after their paths were shortened is what they answered first
pub by_root_lem : (sh : Shape) {p q : List ℕ} → SameRoots p q → (f s g old w : ℕ) (b : Bool)
    → b ≡ one_root sh.faces q f g
    → w ≡ pick b s old
    → w ≡ by_root sh p f s g old
by_root_lem sh r f s g old w b e h = rw (h, e, one_root_short sh.faces r f g)

-- ---- kfmrh

pub kfmrh_steps : (sh : Shape) (x : List ℕ) (f1 f2 l s t : ℕ) (x1 x2 : List ℕ)
    → l ≡ face_outer sh x f2 → s ≡ face_solid sh x f2 → t ≡ face_solid sh x f1
    → x1 ≡ give_loop sh x l f1 f2 → x2 ≡ join_solids sh x1 s t → x2 ≡ kfmrh_links sh x f1 f2
unfolding kfmrh_links
kfmrh_steps sh x f1 f2 l s t x1 x2 el es et e1 e2 = rw (e2, e1, el, es, et)

-- ---- mfkrh

or_none : (b : Bool) → (b || false) ≡ b
or_none true = refl
or_none false = refl

module _ (sh : Shape) (x : List ℕ) (l f s : ℕ) where
  module _ (ring : Bool) (er : ring ≡ is_ring sh x l) where
    -- l is an outer loop
    pub mfkrh_outer : ring ≡ false → false ≡ mfkrh_test sh x l f s
    unfolding mfkrh_test
    mfkrh_outer r = rw (← er, r)

    module _ (r : ring ≡ true) (o : ℕ) (eo : o ≡ loop_face sh x l)
        (linked : Bool) (ek : linked ≡ faces_linked_as sh x l f f o) where
      after : linked ≡ linked_after sh x l f f (loop_face sh x l)
      unfolding linked_after
      after = rw (← eo) ek

      -- the faces stay linked: no solid is to be named
      pub mfkrh_within : linked ≡ true → eqb s 0 ≡ mfkrh_test sh x l f s
      unfolding mfkrh_test
      mfkrh_within k = rw (← er, ← after, r, k) (sym (or_none (eqb s 0)))

      -- a new solid is due: one is to be named
      pub mfkrh_parts : linked ≡ false → some s ≡ mfkrh_test sh x l f s
      unfolding mfkrh_test
      mfkrh_parts k = rw (← er, ← after, r, k) refl

  -- f stays in the solid
  pub mfkrh_stays : s ≡ 0 → (y : List ℕ) → y ≡ ring_face sh x l f → y ≡ mfkrh_links sh x l f s
  unfolding mfkrh_links
  mfkrh_stays z y e = rw (eqb_same z) e

  -- the parents of the shells tell the faces that pass to s
  shell_is : (p y : List ℕ) → Shells sh x (side_as sh x l f) p
      → move_shell sh y p f s ≡ sweep_faces sh sh.faces (λ g old. pick (linked_after sh x l f f g) s old) y
  unfolding move_shell linked_after
  shell_is p y c =
      ap (λ h. sweep_faces sh sh.faces h y) (fun_ext (λ g. fun_ext (λ old. ap (λ b. pick b s old) (c.one f g))))

  -- f and all faces linked to it leave
  pub mfkrh_leaves : s ≢ 0 → (p : List ℕ) → Shells sh x (side_as sh x l f) p → (x1 x2 x3 : List ℕ)
      → x1 ≡ ring_face sh x l f → x2 ≡ set_solid_used sh x1 s 1 → x3 ≡ move_shell sh x2 p f s
      → x3 ≡ mfkrh_links sh x l f s
  unfolding mfkrh_links
  mfkrh_leaves h p c x1 x2 x3 e1 e2 e3 = rw (eqb_other h, ← e1, ← e2) (e3 ∙ shell_is p x2 c)
