-- What the code of the whole call leaves: the text by the ranks of an array is the text of the solid; and the ways out.
use Rattle.std.specs.Prelude.{◌≡◌, ◌≢◌, ◌⊎◌, Bool, false, List, [], ◌∷◌, ◌++◌, ℕ, zero, suc, ◌+◌, ◌*◌, ◌≤◌, ◌<◌, leb}
use Rattle.std.specs.Prelude.{ℤ, length, Option, None, Some, Result, Ok, Err}
use Rattle.std.proofs.Math.Path.{refl, ap}
use Rattle.std.proofs.Common.{sym, ◌∙◌, inl, inr, arith, eqb→eq}
use Rattle.std.proofs.Math.Bool.{true}
use Rattle.std.proofs.Math.ListN.{get_or}
use Rattle.std.proofs.lemmas.List.Edits.{sets}
use borrow.Author.Tests.{eq-eqb, ne_eqb, le-leb, lt-leb}
use Rattle.laws.specs.Bools.{pick, T_true, true_T, eqb_other, le?}
use Rattle.layout.specs.declared.shape.Shape.{Shape}
use Rattle.layout.specs.Layout.{shape_of, start_of}
use Rattle.layout.specs.Items.{some}
use Rattle.layout.specs.Small.{Small}
use Rattle.refusals.specs.declared.Refusal.{Refusal}
use Rattle.refusals.specs.Numbers.{number_of}
use Rattle.refusals.specs.UnlessLaws.{refused_some}
use Rattle.table.specs.declared.check.CheckAnswer.{CheckAnswer}
use Rattle.table.specs.Check.{check_of}
use Rattle.sound_tables.specs.Sound.{In}
use Rattle.sound_tables.specs.Good.{Good}
use Rattle.promises.specs.Checked.{checked_good}
use Rattle.text.specs.Put.{Put}
use Rattle.wavefront.specs.Obj.{passing_to, own_vertex, own_face, own_vertices, own_faces}
use Rattle.wavefront.specs.Obj.{rank, concat_map, vertex_line, backwards}
use Rattle.wavefront.specs.Obj.{corner_word, face_line, obj_text, solid_refusal, Texted, texted, fitted, unless_refused}
use Rattle.wavefront.specs.Obj.{obj_of}
use Rattle.wavefront_read.specs.Laps.{Among}
use Rattle.wavefront_read.specs.Passing.{passing_only}
use Rattle.wavefront_read.specs.TurnedRound.{Showable, showable}
use Rattle.wavefront_read.specs.Ranks.{rank_names, corner_own}
use Rattle.wavefront_read.specs.Length.{obj_length}
use Rattle.wavefront_text.specs.LineLaws.{AllInRange}
use Rattle.wavefront_entry.specs.RankLaws.{Ranked}

-- the text, the vertices of the solid and their ranks by a list that has a rank for each of them and 0 for all others
abbrev pub text_by : Shape → List ℕ → List ℤ → ℕ → List ℕ → List ℕ
text_by sh x p s ranks =
    concat_map (vertex_line p) (passing_to sh.vertices (λ v. some (get_or ranks v 0)))
    ++ concat_map (face_line sh x (λ v. get_or ranks v 0)) (own_faces sh x s)

-- ---- the same text

-- tests that agree on 1..n pass the same numbers
passing_to_same : (n : ℕ) (t u : ℕ → Bool) → ((k : ℕ) → In n k → t k ≡ u k) → passing_to n t ≡ passing_to n u
unfolding passing_to
passing_to_same zero t u h = refl
passing_to_same (suc n) t u h =
    rw (h (suc n) (omega arith, omega arith), passing_to_same n t u (λ k i. h k (i.0, omega (arith, i.1)))) refl

-- texts that agree on a list
concat_map_same : (g h : ℕ → List ℕ) (l : List ℕ) → ((k : ℕ) → Among k l → g k ≡ h k) → concat_map g l ≡ concat_map h l
unfolding concat_map
concat_map_same g h [] e = refl
concat_map_same g h (k ∷ l) e = rw (e k (inl refl), concat_map_same g h l (λ j i. e j (inr i))) refl

module _ {sh : Shape} {x : List ℕ} {p : List ℤ} (good : Good sh x p) {s : ℕ} (q : Showable sh x s) (ranks : List ℕ)
    (r : Ranked sh x s ranks) where
  -- the vertices with a rank are those of the solid
  has_rank : (v : ℕ) → In sh.vertices v → some (get_or ranks v 0) ≡ own_vertex sh x s v
  has_rank v i = rw (r.all v i.0 i.1) (by (own_vertex sh x s v) refl)
    where
      by : (b : Bool) → own_vertex sh x s v ≡ b → some (pick b (rank sh x s v) 0) ≡ b
      by true e =
          let n = rank_names sh x s v (i, true_T e) in
          rw (eqb_other {m = rank sh x s v} {n = 0} (λ z. omega (arith, n.1))) refl
      by false e = refl

  -- the corners of a face of the solid have their ranks
  corner_same : (f : ℕ) → Among f (own_faces sh x s) → (k : ℕ) → Among k (backwards sh x f)
      → corner_word sh x (λ v. get_or ranks v 0) k ≡ corner_word sh x (rank sh x s) k
  unfolding corner_word
  corner_same f m k h =
      let i = passing_only sh.faces (own_face sh x s) f m in
      let o = corner_own good.sound q f i.0 (eqb→eq _ s i.1) k h in
      let v = start_of sh x k in
      let t : own_vertex sh x s v ≡ true = T_true o.1 in
      let e : get_or ranks v 0 ≡ rank sh x s v =
      r.all v o.0.0 o.0.1 ∙ ap (λ (b : Bool). pick b (rank sh x s v) 0) t in
      rw e refl

  -- so both texts are one
  pub text_same : text_by sh x p s ranks ≡ obj_text sh x p s
  unfolding obj_text face_line
  text_same =
      rw (passing_to_same sh.vertices (λ v. some (get_or ranks v 0)) (own_vertex sh x s) has_rank)
      (ap (λ t. concat_map (vertex_line p) (own_vertices sh x s) ++ t)
      (concat_map_same (face_line sh x (λ v. get_or ranks v 0)) (face_line sh x (rank sh x s)) (own_faces sh x s)
      (λ f m.
      rw (concat_map_same (corner_word sh x (λ v. get_or ranks v 0)) (corner_word sh x (rank sh x s)) (backwards sh x f)
      (corner_same f m)) refl)))

-- ---- the ways out of writing

-- a text that does not fit
fitted_not : (t out : List ℕ) (n : ℕ) → n ≡ length t → length out < length t → texted 13 0 n out ≡ fitted t out
unfolding fitted
fitted_not t out n e l = rw (lt-leb (length t) (length out) l) (ap (λ k. texted 13 0 k out) e)

-- one that does
fitted_in : (t out out1 : List ℕ) (n : ℕ) → n ≡ 0 + length t → length t ≤ length out → out1 ≡ sets out 0 t
    → texted 0 0 n out1 ≡ fitted t out
unfolding fitted
fitted_in t out out1 n e l f =
    let d : length t ≡ n = omega arith in
    rw (le-leb (length t) (length out) l, f) (ap (λ k. texted 0 0 k (sets out 0 t)) (sym d))

-- the table is good and its solid s is not refused
pub record Drawable (sh : Shape) (x : List ℕ) (p : List ℤ) (s : ℕ) : Type 0 where
  pub good : Good sh x p
  pub shown : Showable sh x s

-- how long a text is, where it is longer than there is room
abbrev pub excess : List ℕ → ℕ → Option ℕ
excess t room = pick (leb (length t) room) None (Some (length t))

-- a number to tell lengths by
abbrev code : Option ℕ → ℕ
code None = 0
code (Some n) = suc n

-- a text that fits has none
pub no_excess : (t : List ℕ) (room : ℕ) → length t ≤ room → None ≡ excess t room
no_excess t room l = rw (le-leb (length t) room l) refl

-- and a text that has none fits
excess_none : (t : List ℕ) (room : ℕ) → excess t room ≡ None → length t ≤ room
excess_none t room z = go (le? (length t) room)
  where
    go : (length t ≤ room) ⊎ (room < length t) → length t ≤ room
    go (inl l) = l
    go (inr l) = let e : code (Some (length t))
        ≡ 0 = ap code (rw (lt-leb (length t) room l) at z) in absurd (omega (arith, e))

-- one that does not is all of it
pub all_excess : (t : List ℕ) (room n : ℕ) → n ≡ length t → room < n → Some n ≡ excess t room
all_excess t room n e l = rw (lt-leb (length t) room (omega arith), e) refl

module _ {sh : Shape} {x : List ℕ} {p : List ℤ} {s : ℕ} (a : Drawable sh x p s) where
  -- points are in range
  pub drawable_ranges : AllInRange p sh.vertices
  drawable_ranges v l u = (a.good.sound.point v (l, u)).range

  -- capacities are small
  pub drawable_small : Small sh
  drawable_small = let c = a.good.capacities in record {
    solids = c.solids.1;
    faces = c.faces.1;
    loops = c.loops.1;
    edges = c.edges.1;
    vertices = c.vertices.1;
  }

  -- room for the longest text is room for this one
  pub room_enough : (n room : ℕ) → n ≡ 26 * sh.vertices + 2 * sh.faces + 5 * (2 * sh.edges) → n ≤ room
      → None ≡ excess (obj_text sh x p s) room
  room_enough n room e l = no_excess (obj_text sh x p s) room (omega (arith, obj_length a.good a.shown))

  module _ (ranks : List ℕ) (r : Ranked sh x s ranks) where
    -- what is put by the ranks is the solid's text
    put_same : (y z : List ℕ) (n : ℕ) → Put y 0 (text_by sh x p s ranks) n z → Put y 0 (obj_text sh x p s) n z
    put_same y z n h = rw (text_same a.good a.shown ranks r) at h

    -- measured, and short enough; or too long
    pub measured_short : (y z : List ℕ) (n room : ℕ) → Put y 0 (text_by sh x p s ranks) n z → n ≤ room
        → None ≡ excess (obj_text sh x p s) room
    measured_short y z n room h l = no_excess (obj_text sh x p s) room (omega (arith, (put_same y z n h).0))

    pub measured_long : (y z : List ℕ) (n room : ℕ) → Put y 0 (text_by sh x p s ranks) n z → room < n
        → Some n ≡ excess (obj_text sh x p s) room
    measured_long y z n room h l = all_excess (obj_text sh x p s) room n (omega (arith, (put_same y z n h).0)) l

    -- written
    pub written_in : (out out1 : List ℕ) (n : ℕ) (m : Option ℕ) → m ≡ excess (obj_text sh x p s) (length out) → m ≡ None
        → Put out 0 (text_by sh x p s ranks) n out1 → texted 0 0 n out1 ≡ fitted (obj_text sh x p s) out
    written_in out out1 n m e z h = let b = put_same out out1 n h in
        fitted_in (obj_text sh x p s) out out1 n b.0 (excess_none (obj_text sh x p s) (length out) (sym e ∙ z)) b.1

-- refused with 13
pub refused_13 : (t out : List ℕ) (m : ℕ) → Some m ≡ excess t (length out) → texted 13 0 m out ≡ fitted t out
refused_13 t out m e = go (le? (length t) (length out))
  where
    go : (length t ≤ length out) ⊎ (length out < length t) → texted 13 0 m out ≡ fitted t out
    go (inl l) = let h : code (Some m) ≡ 0 = ap code (e ∙ sym (no_excess t (length out) l)) in absurd (omega (arith, h))
    go (inr l) =
        let h : code (Some m) ≡ code (Some (length t)) = ap code (e ∙ sym (all_excess t (length out) (length t) refl l))
        in fitted_not t out m (omega (arith, h)) l

-- ---- the ways out of the call

-- the answer and the buffer by what was drawn: how long it is, or the refusal and how long it would be
abbrev pub drawn : Result ℕ (Refusal × ℕ) → List ℕ → Texted
drawn (Ok n) out = texted 0 0 n out
drawn (Err e) out = texted (number_of e.0) 0 e.1 out

module _ (sh : Shape) (x : List ℕ) (p : List ℤ) (s : ℕ) (good : Good sh x p) where
  -- what is refused of the solid
  pub solid_refused : (r : Refusal) → number_of r ≡ solid_refusal sh x s → (out : List ℕ)
      → texted (number_of r) 0 0 out ≡ unless_refused (solid_refusal sh x s) 0 (obj_text sh x p s) out
  solid_refused r q out = rw (← q, ne_eqb (number_of r) 0 (refused_some r)) refl

  module _ (q : 0 ≡ solid_refusal sh x s) where
    -- what is not is ready
    pub drawable : Drawable sh x p s
    drawable = record { good = good; shown = showable sh x s (sym q) }

    -- and written
    pub answered : (out : List ℕ) (t : Texted) → t ≡ fitted (obj_text sh x p s) out
        → t ≡ unless_refused (solid_refusal sh x s) 0 (obj_text sh x p s) out
    answered out t f = rw (← q) f

module _ (x : List ℕ) (p : List ℤ) (s : ℕ) (a : CheckAnswer) (h : a ≡ check_of x p) where
  -- what the check refuses
  pub check_refused : (out : List ℕ) → a.refusal ≢ 0 → texted a.refusal a.rule 0 out ≡ obj_of x p s out
  unfolding obj_of
  check_refused out d = rw (← h, ne_eqb a.refusal 0 d) refl

  module _ (z : a.refusal ≡ 0) (sh : Shape) (e : sh ≡ shape_of x) where
    -- a table that it does not refuse is good
    pub checked : Good sh x p
    checked = rw e (checked_good x p (ap (λ c. c.refusal) (sym h) ∙ z))

    -- and its solid is drawn
    pub call_drawn : (out : List ℕ) (t : Texted)
        → t ≡ unless_refused (solid_refusal sh x s) 0 (obj_text sh x p s) out → t ≡ obj_of x p s out
    unfolding obj_of
    call_drawn out t f = rw (← h, eq-eqb a.refusal 0 z, ← e) f
