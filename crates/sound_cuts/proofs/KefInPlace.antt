-- Kef relabels the run where it sits, of every marked table and every kef that it accepts: what `KefAmid` says is so.
use Rattle.std.specs.Prelude.{◌≡◌, refl, ◌≢◌, ◌⊎◌, true, List, [], ◌∷◌, ℕ, suc, ◌*◌, ◌≤◌, ◌<◌, leb, ℤ, pos}
use Rattle.std.specs.Prelude.{length, get_or}
use Rattle.std.proofs.Common.{sym, ap, ◌∙◌, subst, inr, ⊎_elim, arith, le-leb}
use Rattle.laws.specs.Bools.{split, le?}
use Rattle.laws.specs.Columns.{Chained}
use Rattle.laws.specs.Permutations.{iter_in}
use Rattle.laws.specs.Cycles.{Cycles}
use Rattle.bounds.specs.Bounds.{most_halves}
use Rattle.script.specs.Operator.{nat_of}
use Rattle.layout.specs.declared.shape.Shape.{Shape}
use Rattle.layout.specs.Layout.{loop_of, next_of}
use Rattle.layout.specs.Mate.{mate}
use Rattle.layout.specs.Fields.{Face, Loop, groups, cap_of, column, by_fields}
use Rattle.euler.specs.Surgery.{relabel_run}
use Rattle.euler.specs.Passed.{length_passed, relabel_passed}
use Rattle.euler.specs.EdgeOperators.{kef_links}
use Rattle.euler.specs.Exec.{refusal_of, marks_after}
use Rattle.sound_tables.specs.Cells.{Shows, shows_own, shows_ext}
use Rattle.sound_tables.specs.Sound.{In, HalfUsed}
use Rattle.sound_tables.specs.Names.{named_used}
use Rattle.sound_tables.specs.WriteLaws.{among_off}
use Rattle.sound_tables.specs.Good.{Marked, own, marked_shows}
use Rattle.sound_tables.specs.Walking.{Steps, steps_apart, iter_keeps, way_round, on_the_way}
use Rattle.sound_tables.specs.Passing.{RunPassed, run_passed}
use Rattle.sound_cuts.specs.MefOperands.{kef_of}
use Rattle.sound_cuts.specs.KefPlace.{KefPlace, kef_place}
use Rattle.sound_cuts.specs.KefAccepted.{kef_points}
use Rattle.sound_cuts.specs.Exact.{kef_facts}
use Rattle.sound_cuts.specs.KefAmid.{rest_at, amid_kef, KefAmid, KefInPlace}

module _ {sh : Shape} {x : List ℕ} {p : List ℤ} (g : Marked sh x p) (k : ℕ) (w : KefPlace sh (own sh x) k) where
  -- the loops are the cycles of next
  loops : Cycles (2 * sh.edges) (HalfUsed sh (own sh x)) (next_of sh x) (loop_of sh x)
  loops = g.sound.rules.loops

  -- the killed one is a loop
  killed_in : In sh.loops (loop_of sh x k)
  killed_in = (g.sound.half k (w.used.0, w.used.1) w.used.2).loop_in

  -- and not the other one
  apart : loop_of sh x (mate k) ≢ loop_of sh x k
  apart e = w.other (ap (own sh x Face) e)

  -- how far it is round
  round : (d : ℕ) × (d < 2 * sh.edges) × Steps (next_of sh x) (next_of sh x k) k d
  round = way_round loops k w.used

  -- the run's half-edges are in use
  rest_used : (t : ℕ) → HalfUsed sh (own sh x) (rest_at sh x k t)
  rest_used t = iter_in loops.perm t (next_of sh x k) (loops.perm.f_in k w.used)

  -- and name the killed loop
  rest_loop : (t : ℕ) → loop_of sh x (rest_at sh x k t) ≡ loop_of sh x k
  rest_loop t = iter_keeps loops t (next_of sh x k) (loops.perm.f_in k w.used) ∙ loops.keeps k w.used

  -- what names it is k or of the run
  whole : (i : ℕ) → In (2 * sh.edges) i → loop_of sh x i ≡ loop_of sh x k
      → (i ≡ k) ⊎ ((t : ℕ) × (t < round.0) × (rest_at sh x k t ≡ i))
  whole i r e = on_the_way loops k w.used round.2 i (named_used g.sound killed_in.0 i r e) e

  -- the mate is in use too
  mate_used : HalfUsed sh (own sh x) (mate k)
  mate_used = g.sound.rules.mate_in k w.used

  -- at each half-edge passed
  kef_at : (n : ℕ) → n ≤ round.0 → KefAmid sh x k round.0 n (amid_kef sh x k n)
  kef_at n h =
      let y = amid_kef sh x k n in
      let q : RunPassed sh (own sh x) (next_of sh x k) (loop_of sh x (mate k)) n y = run_passed sh n x (own sh x)
      (next_of sh x k) (loop_of sh x (mate k)) (marked_shows g) (λ t b. ((rest_used t).0, (rest_used t).1)) in
      record {
        behind = λ t b. q.behind t (omega arith);
        ahead = λ t a b. q.others (rest_at sh x k t) ((rest_used t).0, (rest_used t).1)
            (λ u c. steps_apart (next_of sh x) (next_of sh x k) k round.0 round.2 u t (omega arith) b)
            ∙ rest_loop t;
        edge = (
          q.others k (w.used.0, w.used.1) (λ t b. round.2.first t (omega arith)),
          q.others (mate k) (mate_used.0, mate_used.1) (λ t b e. apart (ap (loop_of sh x) (sym e) ∙ rest_loop t)),
        );
        outside = λ i r a. q.others i r (λ t b. a t (omega arith));
        others = q.kept;
        long = length_passed sh n x (next_of sh x k) (loop_of sh x (mate k));
      }

  -- two lists that the sentence fits name the same loops
  same_loop : (n : ℕ) (y z : List ℕ) → KefAmid sh x k round.0 n y → KefAmid sh x k round.0 n z → (i : ℕ)
      → In (2 * sh.edges) i → loop_of sh y i ≡ loop_of sh z i
  same_loop n y z a b i j = split (loop_of sh x i) (loop_of sh x k)
      (λ e. ⊎_elim (λ q. rw q (a.edge.0 ∙ sym b.edge.0)) (λ q. subst (λ m. loop_of sh y m ≡ loop_of sh z m) q.2
      (⊎_elim (λ h. a.behind q.0 h ∙ sym (b.behind q.0 h))
      (λ h. a.ahead q.0 (omega arith) q.1 ∙ sym (b.ahead q.0 (omega arith) q.1)) (le? (suc q.0) n)))
      (whole i j e))
      (λ e.
      let o : (t : ℕ) → t < round.0 → rest_at sh x k t ≢ i = λ t c q. e (ap (loop_of sh x) (sym q) ∙ rest_loop t) in
      a.outside i j o ∙ sym (b.outside i j o))

  -- and have the same words in every other field, which is all
  same_links : (n : ℕ) (y z : List ℕ) → KefAmid sh x k round.0 n y → KefAmid sh x k round.0 n z → y ≡ z
  same_links n y z a b =
      let fits : (v : List ℕ) → length v ≡ length x → Shows sh v (own sh v) = λ v e.
      shows_own sh v (subst (Chained 0 (groups sh)) (sym e) g.fit) in
      shows_ext (fits y a.long) (fits z b.long)
      (by_fields (Loop ∷ []) (λ F. (i : ℕ) → 1 ≤ i → i ≤ cap_of sh F → column sh F y i ≡ column sh F z i)
      ((λ i l u. same_loop n y z a b i (l, u)), tt)
      (λ F e i l u. let f = among_off (Loop ∷ []) Loop F refl e in
      a.others F f i (l, u) ∙ sym (b.others F f i (l, u))))

  -- the walk is kef's first step
  walk_whole : relabel_run sh x (next_of sh x k) k (loop_of sh x (mate k)) ≡ amid_kef sh x k round.0
  walk_whole = relabel_passed sh (2 * sh.edges) round.0 x (next_of sh x k) k (loop_of sh x (mate k))
      (omega (arith, round.1)) round.2.first (inr round.2.at)

  -- k is read as it stands
  small : leb k most_halves ≡ true
  small = le-leb k most_halves (omega (arith, w.used.1, g.capacities.edges))

  -- all of it
  in_place : KefInPlace sh x k
  unfolding marks_after kef_links
  in_place = record {
    differ = apart;
    d = round.0;
    run = round.2;
    rest = whole;
    amid = λ n b. kef_at n (omega arith);
    settled = same_links;
    goes_on = rw (small, walk_whole) refl;
    points = λ q. kef_points sh x q k;
  }

-- for every marked table and every kef that it accepts
pub kef_in_place : {sh : Shape} {x : List ℕ} {p : List ℤ} → Marked sh x p → (k : ℕ) → refusal_of sh x (kef_of k) ≡ 0
    → KefInPlace sh x k
kef_in_place {sh} {x} g k h =
    let f = kef_facts sh x (kef_of k) g.capacities refl refl h in
    let e : f.k ≡ k = sym (ap (λ o. nat_of (get_or o.args 0 (pos 0))) f.is) in
    subst (KefInPlace sh x) e (in_place g f.k (kef_place x g.sound f.k f.used f.test))
