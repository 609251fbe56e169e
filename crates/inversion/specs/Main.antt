-- The course of the take-down of a state that is let in and has room: a chain of accepted operators, with 19 bytes for
-- each, down to nothing or to a turn that lacks a number (`course`). The promises from it are in Theorem; what it has
-- come to where nothing is left is `whole`, and that it is exact then, InversionExact, both in proofs/.
use Rattle.std.specs.Prelude.{◌≡◌, refl, ◌≢◌, Bool, true, false, List, ℕ, ◌+◌, ◌*◌, ◌≤◌, ℤ, length}
use Rattle.std.proofs.Common.{sym, ap, ◌∙◌, ⊎_elim, zero-add, arith}
use Rattle.std.proofs.Common.{ltb-false}
use Rattle.std.proofs.lemmas.Bool.{false≢true}
use Rattle.laws.specs.Bools.{split, ask, eqb_other}
use Rattle.laws.specs.Sums.{count_le}
use Rattle.layout.specs.declared.shape.Shape.{Shape}
use Rattle.layout.specs.Layout.{shape_of}
use Rattle.table.specs.Count.{item_used, tally_of, holes_of}
use Rattle.table.specs.Count.{Edge, Vertex}
use Rattle.script.specs.declared.Operator.{Operator}
use Rattle.sound_tables.specs.Good.{Good, own}
use Rattle.runs.specs.Run.{State, entry}
use Rattle.runs.specs.Clauses.{entry_passed}
use Rattle.promises.specs.Checked.{checked_good}
use Rattle.promises.specs.WayBack.{Back, back_none}
use Rattle.takedown.specs.Inversion.{Inverted, Ended, ended, turns, bound, short_log, inverted, inverted_by}
use Rattle.takedown.specs.Inversion.{begin}
use Rattle.takedown.specs.Inversion.{taken_back, all_turns, invert_of}
use Rattle.inversion.specs.Path.{Path, acted, path_good, path_back, path_low, joins_in}
use Rattle.inversion.specs.Counts.{solids, faces, loops, edges, vertices, rings}
use Rattle.inversion.specs.Same.{solids_is, faces_is, loops_is, edges_is, vertices_is}
use Rattle.inversion.specs.Turn.{Ready, Empty, Stop, emptied, lacking, down}
use Rattle.inversion.specs.AllTurns.{turns_made}
use Rattle.inversion.specs.EmptyLaws.{empty_table}
use Rattle.inversion.specs.LoopCounts.{rings_loops, stray_few}
use Rattle.inversion.specs.HolesAll.{sound_holes}
use Rattle.inversion.specs.Credit.{solid_vertex, covered}
use Rattle.inversion.specs.Promise.{Euler}

-- ---- the entry

-- the formula's half is whole
pub half_is : (s f e v r h : ℕ) → v + f + 2 * h ≡ e + r + 2 * s → holes_of s f e v r ≡ h
half_is s f e v r h q = omega arith

-- ---- the course

-- every good table has a number of holes
pub good_holes : {sh : Shape} {x : List ℕ} {p : List ℤ} → Good sh x p
    → (h : ℕ) × (vertices sh x + 2 * faces sh x + 2 * h ≡ edges sh x + loops sh x + 2 * solids sh x)
good_holes {sh} {x} {p} g =
    let h = sound_holes sh p (own sh x) g.sound refl in
    (h.holes, rw (vertices_is sh x, faces_is sh x, edges_is sh x, loops_is sh x, solids_is sh x) h.formula)

-- so the bound is a number
pub euler_at : (t : State) → (entry t).refusal ≡ 0 → (h : ℕ) × Euler (shape_of t.links) t.links h
euler_at t z =
    let g = checked_good t.links t.points (entry_passed t z).1 in
    let h = good_holes g in
    (h.0, omega (arith, h.1, rings_loops (shape_of t.links) t.links t.points g))

-- the operators of all turns, and where they stop
pub record Course (t : State) (h : ℕ) : Type 0 where
  pub os : List Operator
  pub y : List ℕ
  pub q : List ℤ
  pub lack : Bool
  pub good : Good (shape_of t.links) t.links t.points
  pub start_in : t.start ≤ length t.log
  pub path : Path (shape_of t.links) y q os t.links t.points
  pub made : all_turns t
      ≡ ended lack (acted (shape_of t.links) (begin t) os)
  pub stop : Stop (shape_of t.links) y q lack
  pub joins : Empty (shape_of t.links) y q → joins_in (shape_of t.links) t.links t.points os ≡ h
  pub short : length os + 2 * solids (shape_of t.links) t.links ≤ vertices (shape_of t.links) t.links
      + 2 * faces (shape_of t.links) t.links + 2 * rings (shape_of t.links) t.links + 3 * h
  pub room : 19 * length os ≤ t.start
  pub spare : Ready (shape_of t.links) t.links → lack ≡ false

-- 19 bytes for each of the bound
bytes_free : (t : State) (h : ℕ) → Euler (shape_of t.links) t.links h → short_log (shape_of t.links) t ≡ false
    → 19 * (vertices (shape_of t.links) t.links + 2 * faces (shape_of t.links) t.links
    + 2 * rings (shape_of t.links) t.links + 3 * h) ≤ t.start + 38 * solids (shape_of t.links) t.links
unfolding tally_of
bytes_free t h e f = omega (arith, ltb-false t.start _ f, half_is _ _ _ _ _ h e)

-- enough turns
pub fuel : (sh : Shape) (x : List ℕ) → edges sh x + vertices sh x ≤ turns sh
fuel sh x = omega (arith, count_le sh.edges (item_used Edge sh x), count_le sh.vertices (item_used Vertex sh x))

-- a state that is let in and has room takes its course
pub course : (t : State) (h : ℕ) → Euler (shape_of t.links) t.links h → (entry t).refusal ≡ 0
    → short_log (shape_of t.links) t ≡ false → Course t h
course t h e z f =
    let x = t.links in
    let sh = shape_of x in
    let i = entry_passed t z in
    let g = checked_good x t.points i.1 in
    let d = down turns_made empty_table solid_vertex (turns sh) sh x t.points g (fuel sh x) in
    let gy = path_good g d.path in
    let rl = rings_loops sh x t.points g in
    let sf = stray_few sh x t.points g in
    let k = good_holes gy in
    let j : joins_in sh x t.points d.os + k.0 ≡ h = omega (arith, rl, d.change.euler, e, k.1) in
    let short : length d.os + 2 * solids sh x ≤ vertices sh x + 2 * faces sh x + 2 * rings sh x + 3 * h =
    omega (arith, rl, sf, covered gy d.change, j) in
    record {
      os = d.os;
      y = d.y;
      q = d.q;
      lack = d.lack;
      good = g;
      start_in = i.0;
      path = d.path;
      made = d.same (begin t) refl refl;
      stop = d.stop;
      joins = λ m. omega (
        arith,
        j,
        k.1,
        m.no_solids,
        m.no_faces,
        m.no_loops,
        m.no_edges,
        m.no_vertices,
      );
      short = short;
      room = omega (arith, short, bytes_free t h e f);
      spare = d.spare;
    }

-- its operators are no more than the bound
pub course_few : (t : State) (h : ℕ) → Euler (shape_of t.links) t.links h → (c : Course t h)
    → length c.os ≤ bound (tally_of (shape_of t.links) t.links)
unfolding tally_of
course_few t h e c = omega (arith, c.short, half_is _ _ _ _ _ h e)

-- its start is at most 19 bytes lower for each of them
pub course_low : (t : State) (h : ℕ) (c : Course t h)
    → t.start ≤ (acted (shape_of t.links) (begin t) c.os).state.start + 19 * length c.os
course_low t h c =
    path_low (shape_of t.links) t (begin t) (back_none t c.good c.start_in) c.path c.room

-- undoing leads back over it
pub course_back : (t : State) (h : ℕ) (c : Course t h)
    → Back (shape_of t.links) (length c.os) t (acted (shape_of t.links) (begin t) c.os).state
course_back t h c =
    rw (zero-add (length c.os)) at (path_back (shape_of t.links) t (begin t) (back_none t c.good c.start_in)
    c.path c.room)

-- ---- what is answered

-- the refusal of what is left
pub refusal_of : {r u : Inverted} → r ≡ u → r.answer.refusal ≡ u.answer.refusal
refusal_of e = ap (λ (v : Inverted). v.answer.refusal) e

-- what the turns left, where they were begun
pub invert_by_lem : (t : State) (e : Ended) → (entry t).refusal ≡ 0 → short_log (shape_of t.links) t ≡ false
    → all_turns t ≡ e → invert_of t ≡ inverted_by t e
unfolding invert_of
invert_by_lem t e z f q = rw (z, f, q)

-- what is answered before the turns
pub short_answered : (t : State) → (entry t).refusal ≡ 0 → short_log (shape_of t.links) t ≡ true
    → invert_of t ≡ inverted 9 0 (begin t)
unfolding invert_of
short_answered t z s = rw (z, s)

pub out_answered : (t : State) → (entry t).refusal ≢ 0
    → invert_of t ≡ inverted (entry t).refusal (entry t).rule (begin t)
unfolding invert_of
out_answered t d = rw (eqb_other d)

-- what is answered where the turns stop for want of a number
pub lack_answered : (t : State) → (entry t).refusal ≡ 0 → short_log (shape_of t.links) t ≡ false
    → (all_turns t).lack ≡ true
    → invert_of t ≡ taken_back t (all_turns t).work
lack_answered t z f l = invert_by_lem t _ z f refl ∙ rw l

-- and where they do not
pub done_answered : (t : State) → (entry t).refusal ≡ 0 → short_log (shape_of t.links) t ≡ false
    → (all_turns t).lack ≡ false
    → invert_of t ≡ inverted 0 0 (all_turns t).work
done_answered t z f l = invert_by_lem t _ z f refl ∙ rw l

-- the ways out: refused by the way in, for room, for want of a number, and down to nothing
pub data Way (t : State) : Type 0 where
  out : (entry t).refusal ≢ 0 → Way t
  short : (entry t).refusal ≡ 0 → short_log (shape_of t.links) t ≡ true → Way t
  lack : (entry t).refusal ≡ 0 → short_log (shape_of t.links) t ≡ false → (all_turns t).lack ≡ true → Way t
  done : (entry t).refusal ≡ 0 → short_log (shape_of t.links) t ≡ false → (all_turns t).lack ≡ false → Way t

pub way : (t : State) → Way t
way t = split (entry t).refusal 0
    (λ z. ⊎_elim (λ s. short z s) (λ s. ⊎_elim (λ l. lack z s l) (λ l. done z s l) (ask (all_turns t).lack))
    (ask (short_log (shape_of t.links) t)))
    (λ d. out d)

-- 0 is answered where all turns were made
pub invert_passed : (t : State) → (invert_of t).answer.refusal ≡ 0 → ((entry t).refusal ≡ 0)
    × (short_log (shape_of t.links) t ≡ false) × ((all_turns t).lack ≡ false)
invert_passed t e = by (way t)
  where
    by : Way t → ((entry t).refusal ≡ 0) × (short_log (shape_of t.links) t ≡ false) × ((all_turns t).lack ≡ false)
    by (out d) = absurd (d (sym (refusal_of (out_answered t d)) ∙ e))
    by (short z s) = absurd (omega (arith, sym (refusal_of (short_answered t z s)) ∙ e))
    by (lack z s l) = absurd (omega (arith, sym (refusal_of (lack_answered t z s l)) ∙ e))
    by (done z s l) = (z, s, l)

-- nothing is in use at the end
pub emptied_is : {sh : Shape} {y : List ℕ} {q : List ℤ} {b : Bool} → Stop sh y q b → b ≡ false → Empty sh y q
emptied_is (emptied e) z = e
emptied_is (lacking d e) z = absurd (false≢true (sym z))
