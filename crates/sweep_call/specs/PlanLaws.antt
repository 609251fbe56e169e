-- The script of a sweep as the code has it, and the ways out of what writes it.
use Rattle.std.specs.Prelude.{◌≡◌, refl, ◌≢◌, Bool, true, false, List, [], ◌∷◌, ℕ, ◌*◌, ◌≤◌, ◌<◌, leb, ℤ, length, take}
use Rattle.std.specs.Prelude.{Result, Ok, Err}
use Rattle.std.proofs.Common.{sym, ap, ◌∙◌, subst, arith, leb→le, le-leb}
use Rattle.std.proofs.lemmas.List.Edits.{sets, sets-eq}
use Rattle.std.proofs.Math.Seq.{length-sets, take-append_seam}
use Rattle.bounds.specs.Bounds.{most_items, item_places}
use Rattle.laws.specs.Bools.{pick, true_T, T_false}
use Rattle.laws.specs.Every.{every, every_T}
use Rattle.script.specs.Operator.{write_script}
use Rattle.refusals.specs.declared.Refusal.{Refusal}
use Rattle.refusals.specs.Numbers.{refusal_in}
use Rattle.layout.specs.declared.shape.Shape.{Shape}
use Rattle.layout.specs.Small.{Small}
use Rattle.sound_tables.specs.Good.{Good}
use Rattle.chains.specs.Ranks.{count_from}
use Rattle.chains.specs.Ranked.{Filled}
use Rattle.chains.specs.Numbers.{edge_free, vertex_free, face_free, loop_free}
use Rattle.chains.specs.Runs.{room_for}
use Rattle.sweeps.specs.declared.Vector.{Vector}
use Rattle.sweeps.specs.Sweep.{corners_to, spare, sweep_ops, sweep_refusal}
use Rattle.sweeps.specs.Accepted.{Sweepable, sweepable}
use Rattle.sweeps.specs.Run.{sweep_length}
use Rattle.sweep_puts.specs.FaceLaws.{Named, Liftable}
use Rattle.sweep_puts.specs.Laid.{Laid}
use Rattle.sweep_call.specs.declared.plan.Script.{Script}
use Rattle.sweep_call.specs.CallLaws.{face_refusal_of, space_refusal_of, refusal_early, refusal_later, named_of}
use Rattle.sweep_call.specs.CallLaws.{liftable_of}

-- ---- what is asked for, and what is promised

-- a script of the most operators
abbrev pub script_bytes : ℕ
script_bytes = 27 * most_items

-- a face that can be lifted, if there are numbers
pub record Ready (sh : Shape) (x : List ℕ) (p : List ℤ) (f : ℕ) (v : Vector) : Type 0 where
  pub good : Good sh x p
  pub early : face_refusal_of sh x p f v ≡ 0

-- the script stands at the front of the buffer, and the bytes of the inverses are counted
pub record Scripted (sh : Shape) (x : List ℕ) (p : List ℤ) (f : ℕ) (v : Vector) (out : List ℕ) (r : Script) : Type 0
  where
    pub fits : r.length ≤ length out
    pub is : take r.length out ≡ write_script (sweep_ops sh x p f v)
    pub room : r.room ≡ room_for sh x p (sweep_ops sh x p f v)

-- 10, or the script
pub record Written (sh : Shape) (x : List ℕ) (p : List ℤ) (f : ℕ) (v : Vector) (out : List ℕ)
    (r : Result Script Refusal)
    : Type 0 where
  pub refusal : refusal_in r ≡ pick (every (spare sh x (corners_to sh x f sh.loops))) 0 10
  pub script : (s : Script) → r ≡ Ok s → Scripted sh x p f v out s

-- the refusal, or the script
pub record Planned (sh : Shape) (x : List ℕ) (p : List ℤ) (start f : ℕ) (v : Vector) (out : List ℕ)
    (r : Result Script Refusal) : Type 0 where
  pub refusal : refusal_in r ≡ sweep_refusal sh x p start f v
  pub script : (s : Script) → r ≡ Ok s → Scripted sh x p f v out s

-- what is refused is no script
no_script : {P : Type 0} (r : Result Script Refusal) (s : Script) → refusal_in r ≢ 0 → r ≡ Ok s → P
no_script r s n e = absurd (n (ap refusal_in e))

-- and a script is none but that which was written
the_script : {s t : Script} (P : Script → Type 0) → ◌≡◌ {A = Result Script Refusal} (Ok s) (Ok t) → P s → P t
the_script {s} P e h = subst P (ap held_by e) h
  where
    held_by : Result Script Refusal → Script
    held_by (Ok t) = t
    held_by (Err d) = s

-- ---- the numbers suffice, or not

-- the test of the code
abbrev pub enough_for : ℕ → ℕ → ℕ → ℕ → ℕ → Bool
enough_for n nv ne nf nl = every (leb n nv ∷ leb (2 * n) ne ∷ leb n nf ∷ leb n nl ∷ [])

same_test : (n m a a' b b' c c' d d' : ℕ) → n ≡ m → a ≡ a' → b ≡ b' → c ≡ c' → d ≡ d'
    → enough_for m a' b' c' d' ≡ enough_for n a b c d
same_test n m a a' b b' c c' d d' e f g h i = rw (e, f, g, h, i) refl

-- is that of the definition
pub spare_by : (sh : Shape) (x : List ℕ) (f n nv ne nf nl : ℕ) (b : Bool)
    → nv ≡ count_from sh.vertices 1 (vertex_free sh x) → ne ≡ count_from sh.edges 1 (edge_free sh x)
    → nf ≡ count_from sh.faces 1 (face_free sh x) → nl ≡ count_from sh.loops 1 (loop_free sh x)
    → n ≡ corners_to sh x f sh.loops → b ≡ enough_for n nv ne nf nl
    → every (spare sh x (corners_to sh x f sh.loops)) ≡ b
spare_by sh x f n nv ne nf nl b v e a l c t = same_test n (corners_to sh x f sh.loops) nv _ ne _ nf _ nl _ c v e a
    l ∙ sym t

-- the bounds that the code knows then
pub enough_says : (n nv ne nf nl : ℕ) (b : Bool) → b ≡ enough_for n nv ne nf nl → b ≡ true
    → (n ≤ nv) × (2 * n ≤ ne) × (n ≤ nf) × (n ≤ nl)
enough_says n nv ne nf nl b e t =
    let h = every_T (leb n nv ∷ leb (2 * n) ne ∷ leb n nf ∷ leb n nl ∷ []) (true_T (sym e ∙ t)) in
    (leb→le _ _ h.0, leb→le _ _ h.1.0, leb→le _ _ h.1.1.0, leb→le _ _ h.1.1.1.0)

-- a good table is small
pub good_small : {sh : Shape} {x : List ℕ} {p : List ℤ} → Good sh x p → Small sh
good_small g = record {
  solids = g.capacities.solids.1;
  faces = g.capacities.faces.1;
  loops = g.capacities.loops.1;
  edges = g.capacities.edges.1;
  vertices = g.capacities.vertices.1;
}

-- what the writing of a face asks for
pub record Set (sh : Shape) (x : List ℕ) (p : List ℤ) (f : ℕ) (v : Vector) (edges vertices faces loops : List ℕ)
    : Type 0 where
  pub spared : every (spare sh x (corners_to sh x f sh.loops)) ≡ true
  pub few : corners_to sh x f sh.loops ≤ 2048
  pub named : Named sh x edges vertices faces loops (corners_to sh x f sh.loops)
  pub lifts : Liftable sh x p f v

module _ {sh : Shape} {x : List ℕ} {p : List ℤ} {f : ℕ} {v : Vector} (d : Ready sh x p f v) where
  -- with as much room as it takes, the face can be swept
  able : every (spare sh x (corners_to sh x f sh.loops)) ≡ true
      → Sweepable sh x p (room_for sh x p (sweep_ops sh x p f v)) f v
  able s = sweepable sh x p (room_for sh x p (sweep_ops sh x p f v)) f v (refusal_later sh x p _ f v d.early
      ∙ rw (s, le-leb (room_for sh x p (sweep_ops sh x p f v)) (room_for sh x p (sweep_ops sh x p f v)) (omega arith))
      refl)

  -- the arrays hold the free numbers, and there are enough
  pub all_set : (edges vertices faces loops : List ℕ) (n nv ne nf nl : ℕ) (b : Bool)
      → Filled (edge_free sh x) sh.edges item_places edges ne
      → Filled (vertex_free sh x) sh.vertices item_places vertices nv
      → Filled (face_free sh x) sh.faces item_places faces nf → Filled (loop_free sh x) sh.loops item_places loops nl
      → n ≡ corners_to sh x f sh.loops → b ≡ enough_for n nv ne nf nl → b ≡ true
      → Set sh x p f v edges vertices faces loops
  all_set edges vertices faces loops n nv ne nf nl b fe fv ff fl c t y =
      let w = enough_says n nv ne nf nl b t y in
      let s = spare_by sh x f n nv ne nf nl b fv.many fe.many ff.many fl.many c t ∙ y in
      record {
        spared = s;
        few = omega (arith, c, w.1, fe.few, d.good.capacities.edges.1);
        named = named_of sh x edges vertices faces loops item_places ne nv nf nl _ (good_small d.good) fe fv ff fl
            (omega (arith, c, w.1)) (omega (arith, c, w.0)) (omega (arith, c, w.2)) (omega (arith, c, w.3));
        lifts = liftable_of d.good (able s);
      }

  -- what the writing leaves
  pub written_all_lem : (edges vertices faces loops : List ℕ)
      → Set sh x p f v edges vertices faces loops → (out₀ out : List ℕ) (at room : ℕ) → length out₀ ≡ script_bytes
      → Laid (sweep_ops sh x p f v) out₀ 0 0 out at room
      → Written sh x p f v out (Ok (record { length = at; room = room }))
  written_all_lem edges vertices faces loops k out₀ out at room long h =
      let n = sweep_length d.good (able k.spared) in
      let l = length-sets out₀ 0 (write_script (sweep_ops sh x p f v)) in
      let a : at ≡ length (write_script (sweep_ops sh x p f v)) = omega (arith, h.behind) in
      let b : length (write_script (sweep_ops sh x p f v)) ≤ length out₀ = omega (arith, a, h.most, n, k.few, long) in
      record {
        refusal = rw k.spared refl;
        script = λ s e. the_script (Scripted sh x p f v out) e (record {
          fits = omega (arith, a, b, ap length h.is, l);
          is = rw (a, h.is) (front (write_script (sweep_ops sh x p f v)) out₀ b);
          room = omega (arith, h.rooms sh x p);
        });
      }
    where
      front : (vs l : List ℕ) → length vs ≤ length l → take (length vs) (sets l 0 vs) ≡ vs
      front vs l h = ap (take (length vs)) (sets-eq vs l 0 (omega (arith, h))) ∙ take-append_seam vs _

-- none is written
pub written_none : (sh : Shape) (x : List ℕ) (p : List ℤ) (f : ℕ) (v : Vector) (out : List ℕ)
    (r : Result Script Refusal)
    (n nv ne nf nl : ℕ) (b : Bool) → nv ≡ count_from sh.vertices 1 (vertex_free sh x)
    → ne ≡ count_from sh.edges 1 (edge_free sh x) → nf ≡ count_from sh.faces 1 (face_free sh x)
    → nl ≡ count_from sh.loops 1 (loop_free sh x) → n ≡ corners_to sh x f sh.loops → b ≡ enough_for n nv ne nf nl
    → b ≡ false → refusal_in r ≡ 10 → Written sh x p f v out r
written_none sh x p f v out r n nv ne nf nl b ev ee ef el en t z e =
    let s = spare_by sh x f n nv ne nf nl b ev ee ef el en t ∙ z in
    record { refusal = rw s e; script = λ y. no_script r y (λ a. omega (arith, a, e)) }

-- ---- the plan

module _ (sh : Shape) (x : List ℕ) (p : List ℤ) (start f : ℕ) (v : Vector) (out : List ℕ) (r : Result Script Refusal)
    (n : ℕ) (e : n ≡ face_refusal_of sh x p f v) where
  -- 5, 6, 14 or 5
  pub plan_early : n ≢ 0 → refusal_in r ≡ n → Planned sh x p start f v out r
  plan_early z q = record {
    refusal = q ∙ e ∙ sym (refusal_early sh x p start f v (λ a. z (e ∙ a)));
    script = λ y. no_script r y (λ a. z (sym q ∙ a));
  }

  module _ (z : n ≡ 0) (w : Result Script Refusal) (i : Written sh x p f v out w) where
    -- the bytes of the inverses
    abbrev room : ℕ
    room = room_for sh x p (sweep_ops sh x p f v)

    later : sweep_refusal sh x p start f v ≡ space_refusal_of sh x p start f v
    later = refusal_later sh x p start f v (sym e ∙ z)

    -- 10
    pub plan_few : refusal_in w ≢ 0 → refusal_in r ≡ refusal_in w → Planned sh x p start f v out r
    plan_few h q = record {
      refusal = q ∙ sym (later
          ∙ go (every (spare sh x (corners_to sh x f sh.loops))) (pick (leb room start) 0 9) i.refusal h);
      script = λ y. no_script r y (λ a. h (sym q ∙ a));
    }
      where
        go : (b : Bool) (m : ℕ) → refusal_in w ≡ pick b 0 10 → refusal_in w ≢ 0 → pick b m 10 ≡ refusal_in w
        go true m a h = absurd (h a)
        go false m a h = sym a

    module _ (s : Script) (h : w ≡ Ok s) where
      spare_is : every (spare sh x (corners_to sh x f sh.loops)) ≡ true
      spare_is = go _ (sym (ap refusal_in h) ∙ i.refusal)
        where
          go : (b : Bool) → ◌≡◌ {A = ℕ} 0 (pick b 0 10) → b ≡ true
          go true a = refl
          go false a = absurd (omega (arith, a))

      -- 9
      pub plan_short : start < s.room → refusal_in r ≡ 9 → Planned sh x p start f v out r
      plan_short k q = record {
        refusal = q ∙ sym (later ∙ rw (
          spare_is,
          T_false {b = leb room start}
              (λ t. omega (arith, k, (i.script s h).room, leb→le room start t)),
        ) refl);
        script = λ y. no_script r y (λ a. omega (arith, a, q));
      }

      -- all
      pub plan_all : s.room ≤ start → r ≡ Ok s → Planned sh x p start f v out r
      plan_all k q = record {
        refusal = ap refusal_in q
            ∙ sym (later ∙ rw (spare_is, le-leb room start (omega (arith, k, (i.script s h).room))) refl);
        script = λ t a. i.script t (h ∙ sym q ∙ a);
      }
