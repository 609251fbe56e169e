-- What the lower ends of Swift keep, and that B's turns keep it.
use Rattle.std.specs.Prelude.{◌≡◌, refl, ◌≢◌, ◌⊎◌, Bool, false, ◌&&◌, List, ℕ, suc, ◌+◌, ◌-◌, ◌*◌, ◌≤◌, ◌<◌, eqb, ltb}
use Rattle.std.specs.Prelude.{ℤ}
use Rattle.std.proofs.Math.Path.{sym, ap}
use Rattle.std.proofs.Common.{◌∙◌, subst, inr, arith, eqb→eq, lt→ltb, ltb→lt}
use Rattle.std.proofs.Math.Logic.{inl, ⊎_elim}
use Rattle.std.proofs.Math.Bool.{true}
use Rattle.std.proofs.lemmas.Bool.{false≢true}
use Rattle.laws.specs.Bools.{pick, split, ask, le?, T_true, T_false, true_T, eqb_same, eqb_other}
use Rattle.laws.specs.Search.{least, least_from, Least, none_is, one_is, least_from_is, least_none, least_unique}
use Rattle.layout.specs.declared.shape.Shape.{Shape}
use Rattle.layout.specs.Layout.{solid_used}
use Rattle.layout.specs.Mate.{mate}
use Rattle.euler.specs.Queries.{faces_in}
use Rattle.layout.specs.Fields.{SolidUsed, Solid, Loop, Next, Prev}
use Rattle.layout.specs.Items.{some, face_in}
use Rattle.sound_tables.specs.Sound.{In, HalfUsed, side}
use Rattle.sound_tables.specs.Good.{Good, own}
use Rattle.takedown.specs.Inversion.{solid_at, outside, of_solid, in_ring, is_spur, spur_half, is_ring_of}
use Rattle.inversion.specs.Same.{face_in_same, faces_in_same, solid_at_same}
use Rattle.inversion.specs.OfSolid.{both, joint, of_solid_lem}
use Rattle.inversion.specs.Uncrossed.{Parted, parted_kept}
use Rattle.inversion.specs.Gone.{Goes}
use Rattle.takedown.specs.declared.ends.Ends.{Ends}
use Rattle.takedown.specs.Swift.{stray_ring, seek, lesser, greater, ends_at, enter, solid_from, tipped, least_tip}
use Rattle.takedown.specs.Swift.{spur_from}

-- ---- searches from a lower end

-- where nothing below passes, the search from there finds the least
pub seek_least : (n low : ℕ) (p : ℕ → Bool) → 1 ≤ low → ((k : ℕ) → In n k → k < low → p k ≡ false)
    → seek n low p ≡ least n p
seek_least n low p l h = sym (go (least_from_is (n + 1 - low) low p))
  where
    go : Least (n + 1 - low) low p (least_from (n + 1 - low) low p) → least n p ≡ least_from (n + 1 - low) low p
    go (none_is z f) =
        least_none n p (λ j a b. ⊎_elim (λ q. h j (a, b) (omega arith)) (λ q. f j (omega arith) (omega arith))
        (le? (suc j) low)) ∙ sym z
    go (one_is a b t f) = least_unique n p _ (omega (arith, a, l)) (omega (arith, a, b)) t
        (λ j c d. ⊎_elim (λ q. h j (c, omega (arith, d, a, b)) (omega arith)) (λ q. f j (omega arith) d)
        (le? (suc j) low))

pub lesser_left : (a b : ℕ) → lesser a b ≤ a
unfolding lesser
lesser_left a b = ⊎_elim (λ h. rw (T_true {b = ltb a b} (lt→ltb a b h)) (omega arith))
    (λ h. rw (T_false {b = ltb a b} (λ t. omega (arith, h, ltb→lt a b t))) (omega arith)) (le? (suc a) b)

pub lesser_right : (a b : ℕ) → lesser a b ≤ b
unfolding lesser
lesser_right a b = ⊎_elim (λ h. rw (T_true {b = ltb a b} (lt→ltb a b h)) (omega arith))
    (λ h. rw (T_false {b = ltb a b} (λ t. omega (arith, h, ltb→lt a b t))) (omega arith)) (le? (suc a) b)

pub lesser_low : (a b : ℕ) → 1 ≤ a → 1 ≤ b → 1 ≤ lesser a b
unfolding lesser
lesser_low a b h k = ⊎_elim (λ q. rw (T_true {b = ltb a b} (lt→ltb a b q)) h)
    (λ q. rw (T_false {b = ltb a b} (λ t. omega (arith, q, ltb→lt a b t))) k) (le? (suc a) b)

-- it is one of the two
pub lesser_one : (a b : ℕ) → (lesser a b ≡ a) ⊎ (lesser a b ≡ b)
unfolding lesser
lesser_one a b = ⊎_elim (λ h. inl (rw (T_true {b = ltb a b} (lt→ltb a b h))))
    (λ h. inr (rw (T_false {b = ltb a b} (λ t. omega (arith, h, ltb→lt a b t))))) (le? (suc a) b)

-- the greater is one of the two
pub greater_one : (a b : ℕ) → (greater a b ≡ a) ⊎ ((a < b) × (greater a b ≡ b))
unfolding greater
greater_one a b = ⊎_elim (λ h. inr (h, rw (T_true {b = ltb a b} (lt→ltb a b h))))
    (λ h. inl (rw (T_false {b = ltb a b} (λ t. omega (arith, h, ltb→lt a b t))))) (le? (suc a) b)

-- ---- what is kept

-- of solid s each edge lies in one loop, or leads from a to b
abbrev pub Spans : Shape → List ℕ → ℕ → ℕ → ℕ → Type 0
Spans sh x s a b = (i : ℕ) → HalfUsed sh (own sh x) i → own sh x Solid (side (own sh x) i) ≡ s
    → (own sh x Loop (mate i) ≡ own sh x Loop i) ⊎ (((own sh x Loop i ≡ a) × (own sh x Loop (mate i) ≡ b))
    ⊎ ((own sh x Loop i ≡ b) × (own sh x Loop (mate i) ≡ a)))

-- of solid s with root r: nothing below the ends passes, and what is below the end of the crossing search parts the
-- others
pub record Keeps (sh : Shape) (x : List ℕ) (s r : ℕ) (e : Ends) : Type 0 where
  pub border_low : 1 ≤ e.border
  pub loop_low : 1 ≤ e.stray
  pub half_low : 1 ≤ e.half
  pub ring_low : 1 ≤ e.ring
  pub spur_low : 1 ≤ e.spur
  pub cross_low : 1 ≤ e.cross
  pub lone_low : 1 ≤ e.lone
  pub tips_in : In (2 * sh.edges) e.tip × In (2 * sh.edges) e.tip2 × In (2 * sh.edges) e.tip3
      × In (2 * sh.edges) e.tip4
  pub border : (k : ℕ) → In (2 * sh.edges) k → k < e.border → outside sh x r k ≡ false
  pub loop : (l : ℕ) → In sh.loops l → l < e.stray → stray_ring sh x s r l ≡ false
  pub half : (k : ℕ) → In (2 * sh.edges) k → k < e.half → of_solid sh x s k ≡ false
  pub ring : (k : ℕ) → In (2 * sh.edges) k → k < e.ring → in_ring sh x s k ≡ false
  pub pair : e.pair ≡ 1 → ((a : ℕ) × (b : ℕ) × Spans sh x s a b) × (e.tip3 ≡ e.tip) × (e.tip4 ≡ e.tip2)
  pub spur : (k : ℕ) → In (2 * sh.edges) k → k < e.spur → k ≢ e.tip → k ≢ e.tip2 → k ≢ e.tip3 → k ≢ e.tip4
      → is_spur sh x s k ≡ false
  pub cross : (k : ℕ) → In (2 * sh.edges) k → k < e.cross → of_solid sh x s k ≡ true → Parted sh (own sh x) k
  pub lone : (l : ℕ) → In sh.loops l → l < e.lone → is_ring_of sh x r l ≡ false

-- the solid at hand, its root, its faces, and the ends
pub record Kept (sh : Shape) (x : List ℕ) (e : Ends) : Type 0 where
  pub solid : e.solid ≡ solid_at sh x
  pub root : e.root ≡ face_in sh x (solid_at sh x)
  pub faces : e.faces ≡ faces_in sh x (solid_at sh x)
  pub keeps : Keeps sh x (solid_at sh x) (face_in sh x (solid_at sh x)) e

-- nothing is below 1
pub keeps_none : (sh : Shape) (x : List ℕ) (s r a b c border loop : ℕ) → 1 ≤ sh.edges → 1 ≤ border
    → ((k : ℕ) → In (2 * sh.edges) k → k < border → outside sh x r k ≡ false)
    → 1 ≤ loop → ((l : ℕ) → In sh.loops l → l < loop → stray_ring sh x s r l ≡ false)
    → Keeps sh x s r (ends_at a b c border loop)
keeps_none sh x s r a b c border loop h l f m t = record {
  border_low = l;
  loop_low = m;
  loop = t;
  pair = λ z. absurd (omega (arith, z));
  half_low = omega arith;
  ring_low = omega arith;
  spur_low = omega arith;
  cross_low = omega arith;
  tips_in = (
    (omega arith, omega arith),
    (omega arith, omega arith),
    (omega arith, omega arith),
    (omega arith, omega arith),
  );
  border = f;
  half = λ k i q. absurd (omega (arith, i.0, q));
  ring = λ k i q. absurd (omega (arith, i.0, q));
  spur = λ k i q. absurd (omega (arith, i.0, q));
  cross = λ k i q. absurd (omega (arith, i.0, q));
  lone_low = omega arith;
  lone = λ l i q. absurd (omega (arith, i.0, q));
}

-- a solid is entered
pub kept_enter : (sh : Shape) (x : List ℕ) (low : ℕ) → 1 ≤ sh.edges → 1 ≤ low
    → ((s : ℕ) → In sh.solids s → s < low → own sh x SolidUsed s ≡ 0) → Kept sh x (enter sh x low)
unfolding enter
kept_enter sh x low h l f =
    let e : solid_from sh x low ≡ solid_at sh x =
    seek_least sh.solids low (λ s. some (solid_used sh x s)) l (λ k i q. rw (eqb_same (f k i q))) in
    record {
      solid = e;
      root = ap (face_in sh x) e;
      faces = ap (faces_in sh x) e;
      keeps = keeps_none sh x _ _ _ _ _ 1 1 h (omega arith) (λ k i q. absurd (omega (arith, i.0, q))) (omega arith)
          (λ l i q. absurd (omega (arith, i.0, q)));
    }

-- ---- the spur search

module _ (sh : Shape) (x : List ℕ) (s r : ℕ) (e : Ends) (es : e.solid ≡ s) (K : Keeps sh x s r e) where
  -- the number behind the last, or a spur below the end
  abbrev PastOr : ℕ → Type 0
  PastOr b = (b ≡ 2 * sh.edges + 1) ⊎ (In (2 * sh.edges) b × (b < e.spur) × (is_spur sh x s b ≡ true))

  ask_tip : (t b : ℕ) → (((t < e.spur) × (is_spur sh x s t ≡ true)) × (tipped sh x e t b ≡ lesser t b))
      ⊎ (((t < e.spur) × (is_spur sh x s t ≡ true) → ⊥) × (tipped sh x e t b ≡ b))
  unfolding tipped
  ask_tip t b = ⊎_elim yes none (ask (ltb t e.spur && is_spur sh x e.solid t))
    where
      yes : (ltb t e.spur && is_spur sh x e.solid t) ≡ true
          → (((t < e.spur) × (is_spur sh x s t ≡ true)) × (tipped sh x e t b ≡ lesser t b))
          ⊎ (((t < e.spur) × (is_spur sh x s t ≡ true) → ⊥) × (tipped sh x e t b ≡ b))
      yes q = let c = both (ltb t e.spur) (is_spur sh x e.solid t) q in
          inl (
            (ltb→lt t e.spur (true_T c.0), ap (λ m. is_spur sh x m t) (sym es) ∙ c.1),
            ap (λ z. pick z (lesser t b) b) q,
          )

      none : (ltb t e.spur && is_spur sh x e.solid t) ≡ false
          → (((t < e.spur) × (is_spur sh x s t ≡ true)) × (tipped sh x e t b ≡ lesser t b))
          ⊎ (((t < e.spur) × (is_spur sh x s t ≡ true) → ⊥) × (tipped sh x e t b ≡ b))
      none q =
          inr (
            λ c. false≢true (sym q
                ∙ joint (ltb t e.spur) (is_spur sh x e.solid t) (T_true (lt→ltb t e.spur c.0))
                (ap (λ m. is_spur sh x m t) es ∙ c.1)),
            ap (λ z. pick z (lesser t b) b) q,
          )

  tip_range : (t b : ℕ) → In (2 * sh.edges) t → PastOr b → PastOr (tipped sh x e t b)
  tip_range t b i c = ⊎_elim
      (λ q. ⊎_elim
      (λ z. inr (subst (λ n. In (2 * sh.edges) n × (n < e.spur) × (is_spur sh x s n ≡ true)) (sym (q.1 ∙ z))
      (i, q.0.0, q.0.1))) (λ z. subst PastOr (sym (q.1 ∙ z)) c) (lesser_one t b))
      (λ q. subst PastOr (sym q.1) c) (ask_tip t b)

  tip_left : (t b : ℕ) → t < e.spur → is_spur sh x s t ≡ true → tipped sh x e t b ≤ t
  tip_left t b h q = ⊎_elim (λ c. omega (arith, c.1, lesser_left t b)) (λ c. absurd (c.0 (h, q))) (ask_tip t b)

  tip_right : (t b : ℕ) → tipped sh x e t b ≤ b
  tip_right t b = ⊎_elim (λ c. omega (arith, c.1, lesser_right t b)) (λ c. omega (arith, c.1)) (ask_tip t b)

  -- the four in turn
  abbrev b₄ : ℕ
  b₄ = tipped sh x e e.tip4 (2 * sh.edges + 1)

  abbrev b₃ : ℕ
  b₃ = tipped sh x e e.tip3 b₄

  abbrev b₂ : ℕ
  b₂ = tipped sh x e e.tip2 b₃

  found_range : PastOr (least_tip sh x e)
  found_range =
      tip_range e.tip b₂ K.tips_in.0
      (tip_range e.tip2 b₃ K.tips_in.1
      (tip_range e.tip3 b₄ K.tips_in.2 (tip_range e.tip4 (2 * sh.edges + 1) K.tips_in.3 (inl refl))))

  -- a spur below the end is a tip, and not below what is found
  found_least : (j : ℕ) → In (2 * sh.edges) j → j < e.spur → is_spur sh x s j ≡ true → least_tip sh x e ≤ j
  found_least j i h q =
      let r₁ = tip_right e.tip b₂ in
      let r₂ = tip_right e.tip2 b₃ in
      let r₃ = tip_right e.tip3 b₄ in
      let at : (t b : ℕ) → j ≡ t → tipped sh x e t b ≤ j =
      λ t b z. omega (arith, z, tip_left t b (omega (arith, h, z)) (ap (is_spur sh x s) (sym z) ∙ q)) in
      split j e.tip (λ z. at e.tip b₂ z) (λ d₁.
      split j e.tip2 (λ z. omega (arith, r₁, at e.tip2 b₃ z)) (λ d₂.
      split j e.tip3 (λ z. omega (arith, r₁, r₂, at e.tip3 b₄ z)) (λ d₃.
      split j e.tip4 (λ z. omega (arith, r₁, r₂, r₃, at e.tip4 (2 * sh.edges + 1) z)) (λ d₄.
      absurd (false≢true (sym (K.spur j i h d₁ d₂ d₃ d₄) ∙ q))))))

  not_spur : (j : ℕ) → In (2 * sh.edges) j → j < e.spur → j < least_tip sh x e → is_spur sh x s j ≡ false
  not_spur j i h l = ⊎_elim (λ q. absurd (omega (arith, l, found_least j i h q))) (λ q. q) (ask (is_spur sh x s j))

  -- the tips are asked first
  pub spur_from_lem : spur_from sh x e ≡ spur_half sh x s
  unfolding spur_from
  spur_from_lem = ⊎_elim
      (λ z. past z (ap (λ t. seek (2 * sh.edges) e.spur (is_spur sh x t)) es
      ∙ seek_least (2 * sh.edges) e.spur (is_spur sh x s) K.spur_low (λ j i h. not_spur j i h
      (omega (arith, i.1, z)))))
      (λ c. met (λ z. omega (arith, c.0.1, z))
      ∙ sym (least_unique (2 * sh.edges) (is_spur sh x s) (least_tip sh x e) c.0.0 c.0.1 c.2
      (λ j a b. not_spur j (a, omega (arith, b, c.0.1)) (omega (arith, b, c.1)) b)))
      found_range
    where
      past : least_tip sh x e ≡ 2 * sh.edges + 1 → {n : ℕ} → seek (2 * sh.edges) e.spur (is_spur sh x e.solid) ≡ n
          → spur_from sh x e ≡ n
      past z q = rw (eqb_same z) q

      met : least_tip sh x e ≢ 2 * sh.edges + 1 → spur_from sh x e ≡ least_tip sh x e
      met d = rw (eqb_other d)

-- ---- an edge goes

module _ {sh : Shape} {x y : List ℕ} {p q : List ℤ} (g : Good sh x p) (gy : Good sh y q) {s : ℕ} (sn : s ≢ 0) {h : ℕ}
    (G : Goes sh x y h) where
  -- what is of the solid was so
  of_kept : (i : ℕ) → In (2 * sh.edges) i → of_solid sh y s i ≡ true → HalfUsed sh (own sh y) i
      × (of_solid sh x s i ≡ true)
  of_kept i j t = let u = of_solid_lem gy sn i j t in (u.0, eqb_same (sym (G.of i u.0) ∙ u.1))

  pub half_kept : (i : ℕ) → In (2 * sh.edges) i → of_solid sh x s i ≡ false → of_solid sh y s i ≡ false
  half_kept i j f = ⊎_elim (λ t. absurd (false≢true (sym f ∙ (of_kept i j t).1))) (λ t. t) (ask (of_solid sh y s i))

  -- a new spur came before one of the halves
  pub spur_kept : (i : ℕ) → In (2 * sh.edges) i → is_spur sh x s i ≡ false → is_spur sh y s i ≡ true
      → (i ≡ own sh x Prev h) ⊎ (i ≡ own sh x Prev (mate h))
  spur_kept i j f t =
      let b = both (of_solid sh y s i) (eqb (own sh y Next i) (mate i)) t in
      let u = of_kept i j b.0 in
      let c = G.edge.used i u.0 in
      let n : own sh y Next i ≡ mate i = eqb→eq _ _ (true_T b.1) in
      ⊎_elim
      (λ e. absurd
      (false≢true (sym f
      ∙ joint (of_solid sh x s i) (eqb (own sh x Next i) (mate i)) u.1 (eqb_same (sym e ∙ n)))))
      (λ e. ⊎_elim (λ z. inl (sym (g.sound.rules.undone i c.0) ∙ ap (own sh x Prev) z))
      (λ z. inr (sym (g.sound.rules.undone i c.0) ∙ ap (own sh x Prev) z)) e.0)
      (G.edge.next i u.0)

  -- what parts the others goes on to do so
  pub cross_kept : (i : ℕ) → In (2 * sh.edges) i → (of_solid sh x s i ≡ true → Parted sh (own sh x) i)
      → of_solid sh y s i ≡ true → Parted sh (own sh y) i
  cross_kept i j f t = let u = of_kept i j t in parted_kept G.edge g.sound.rules.mate_in i u.0 (f u.1)

  -- the solid at hand stays, with its root and faces
  pub solid_kept : solid_at sh y ≡ solid_at sh x
  solid_kept = solid_at_same sh x y G.mark

  pub root_kept : (t : ℕ) → face_in sh y t ≡ face_in sh x t
  root_kept = face_in_same sh x y G.solid

  pub faces_kept : (t : ℕ) → faces_in sh y t ≡ faces_in sh x t
  faces_kept = faces_in_same sh x y G.solid
