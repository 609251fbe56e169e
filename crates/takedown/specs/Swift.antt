-- The take-down as the code does it: the same turns, but what a turn finds out is carried on, so that most searches do
-- not begin anew at 1. Carried (`Ends`) are the solid at hand, its root, the number of its faces, lower ends, which are
-- numbers below which a search finds nothing, a flag for the ring turn after kemr, and four places below the lower end
-- of spurs where one may be all the same. Nobody has to believe this file: `swift-same` of crate inversion proves
-- `swift_of` to be `invertOf`, whatever the words.
use Rattle.std.specs.Prelude.{ℕ, zero, suc, ◌+◌, ◌-◌, ◌*◌, Bool, true, false, not, ◌&&◌, List, eqb, ltb}
use Rattle.laws.specs.Bools.{pick}
use Rattle.laws.specs.Search.{least_from}
use Rattle.layout.specs.declared.shape.Shape.{Shape}
use Rattle.layout.specs.Layout.{shape_of, solid_used, face_solid, face_outer, loop_face, loop_of, next_of, prev_of}
use Rattle.layout.specs.Layout.{side}
use Rattle.layout.specs.Mate.{mate}
use Rattle.layout.specs.Items.{some, face_in, is_ring}
use Rattle.euler.specs.Queries.{faces_in}
use Rattle.euler.specs.Exec.{links_after, points_after}
use Rattle.runs.specs.Run.{State, state, read_at, entry}
use Rattle.takedown.specs.declared.ends.Ends.{Ends}
use Rattle.takedown.specs.Inversion.{Work, act, links_in, free_face, free_loop, free_edge, outside, of_solid, in_ring}
use Rattle.takedown.specs.Inversion.{is_spur, is_crossed, is_ring_of, make_outer, move_rings, turn_ring, turn_c, kvsf}
use Rattle.takedown.specs.Inversion.{kev, kef, kemr, turns, short_log, Ended, ended, Inverted, inverted, begin}

-- the least of low..n that passes, or 0
abbrev pub seek : ℕ → ℕ → (ℕ → Bool) → ℕ
seek n low p = least_from (n + 1 - low) low p

-- the lesser, the greater of two
unfoldable pub lesser : ℕ → ℕ → ℕ
lesser a b = pick (ltb a b) a b

unfoldable pub greater : ℕ → ℕ → ℕ
greater a b = pick (ltb a b) b a

-- a solid is entered: nothing is known but its root and the number of its faces
abbrev pub ends_at : ℕ → ℕ → ℕ → ℕ → ℕ → Ends
ends_at s r n border stray =
    record {
      solid = s;
      root = r;
      faces = n;
      border = border;
      stray = stray;
      half = 1;
      ring = 1;
      pair = 0;
      spur = 1;
      tip = 1;
      tip2 = 1;
      tip3 = 1;
      tip4 = 1;
      cross = 1;
      lone = 1;
    }

-- the least solid in use, none below low is
abbrev pub solid_from : Shape → List ℕ → ℕ → ℕ
solid_from sh x low = seek sh.solids low (λ s. some (solid_used sh x s))

unfoldable pub enter : Shape → List ℕ → ℕ → Ends
enter sh x low = ends_at (solid_from sh x low) (face_in sh x (solid_from sh x low))
    (faces_in sh x (solid_from sh x low)) 1 1

-- the work, and what is carried on
pub record Swift : Type 0 where
  pub work : Work
  pub ends : Ends

-- ---- A

-- the least of b and the mates of the half-edges from j up to before stop, at most n of them
unfoldable pub least_mate : Shape → ℕ → List ℕ → ℕ → ℕ → ℕ → ℕ
least_mate sh zero x j stop b = b
least_mate sh (suc n) x j stop b = pick (eqb j stop) b (least_mate sh n x (next_of sh x j) stop (lesser (mate j) b))

-- loop l is a ring of a face of solid s other than the root r
abbrev pub stray_ring : Shape → List ℕ → ℕ → ℕ → ℕ → Bool
stray_ring sh x s r l = (eqb (face_solid sh x (loop_face sh x l)) s && not (eqb (loop_face sh x l) r)) && is_ring sh x l

-- what is found, or the number behind the last
abbrev pub or_past : ℕ → ℕ → ℕ
or_past n k = pick (some k) k (n + 1)

-- the least such loop; none is below
abbrev pub loop_from : Shape → List ℕ → Ends → ℕ
loop_from sh x e = or_past sh.loops (seek sh.loops e.stray (stray_ring sh x e.solid e.root))

-- the rings of k's face are moved: from the least ring on, or from 1 where the outer loop has become one
abbrev pub moved_from : Shape → Ends → List ℕ → ℕ → ℕ → Work → Work
moved_from sh e x k low w =
    move_rings sh (sh.loops + 1 - low) low (side sh x k) e.root (make_outer sh (loop_of sh x k) (side sh x k) w)

-- a face goes. If no ring was moved, only the mates of its half-edges can be new candidates, and no loop becomes a ring
abbrev pub across_ends : Shape → List ℕ → Ends → ℕ → ℕ → Bool → Ends
across_ends sh x e k loop still =
    ends_at e.solid e.root (e.faces - 1) (pick still (least_mate sh (2 * sh.edges) x (next_of sh x k) k k) 1)
    (pick still loop 1)

-- v: the rings are moved
abbrev pub across_turn : Shape → Ends → List ℕ → ℕ → ℕ → Work → Work → Swift
across_turn sh e x k loop w v =
    record { work = act sh v (kef k); ends = across_ends sh x e k loop (eqb v.done w.done) }

abbrev pub across_from : Shape → Ends → List ℕ → ℕ → ℕ → Work → Swift
across_from sh e x k loop w =
    across_turn sh e x k loop w (moved_from sh e x k (pick (is_ring sh x (loop_of sh x k)) 1 loop) w)

abbrev pub across : Shape → Ends → List ℕ → ℕ → Work → Swift
across sh e x k w = across_from sh e x k (loop_from sh x e) w

-- ---- B

-- the least of b, the half-edges from j up to before stop, and their mates
unfoldable pub least_run : Shape → ℕ → List ℕ → ℕ → ℕ → ℕ → ℕ
least_run sh zero x j stop b = b
least_run sh (suc n) x j stop b =
    pick (eqb j stop) b (least_run sh n x (next_of sh x j) stop (lesser (lesser j (mate j)) b))

-- after mfkrh and kef k: only what came before k or its mate can be a new spur; behind kemr two more tips
abbrev pub ring_ends : Shape → List ℕ → Ends → ℕ → Ends
ring_ends sh x e k = record {
  solid = e.solid;
  root = e.root;
  faces = e.faces;
  border = 1;
  stray = 1;
  half = e.half;
  ring = pick (eqb e.pair 1) (2 * sh.edges + 1) k;
  pair = 0;
  spur = pick (eqb e.pair 1) e.spur (lesser e.spur (lesser (prev_of sh x k) (prev_of sh x (mate k))));
  tip = e.tip;
  tip2 = e.tip2;
  tip3 = pick (eqb e.pair 1) (prev_of sh x k) e.tip3;
  tip4 = pick (eqb e.pair 1) (prev_of sh x (mate k)) e.tip4;
  cross = e.cross;
  lone = 1;
}

-- after kev k: only what came before k can be a new spur; it is the first tip, and the old one takes k's place
abbrev pub spur_ends : Shape → List ℕ → Ends → ℕ → Ends
spur_ends sh x e k = record {
  solid = e.solid;
  root = e.root;
  faces = e.faces;
  border = 1;
  stray = 1;
  half = e.half;
  ring = 2 * sh.edges + 1;
  pair = 0;
  spur = greater e.spur k;
  tip = prev_of sh x k;
  tip2 = pick (eqb e.tip2 k) e.tip e.tip2;
  tip3 = pick (eqb e.tip3 k) e.tip e.tip3;
  tip4 = pick (eqb e.tip4 k) e.tip e.tip4;
  cross = e.cross;
  lone = 1;
}

-- after kemr k: there was no spur, and only what came before k or its mate can be one. The new ring holds what was
-- between k and its mate; only its half-edges and their mates can lie in another loop than their mates
abbrev pub cross_ends : Shape → List ℕ → Ends → ℕ → Ends
cross_ends sh x e k = record {
  solid = e.solid;
  root = e.root;
  faces = e.faces;
  border = 1;
  stray = 1;
  half = e.half;
  ring = least_run sh (2 * sh.edges) x (next_of sh x k) (mate k) (2 * sh.edges + 1);
  pair = 1;
  spur = 2 * sh.edges + 1;
  tip = prev_of sh x k;
  tip2 = prev_of sh x (mate k);
  tip3 = prev_of sh x k;
  tip4 = prev_of sh x (mate k);
  cross = k;
  lone = 1;
}

-- the lesser of b and t, if t is a spur below the end
unfoldable pub tipped : Shape → List ℕ → Ends → ℕ → ℕ → ℕ
tipped sh x e t b = pick (ltb t e.spur && is_spur sh x e.solid t) (lesser t b) b

-- the least tip that is one, or the number behind the last half-edge
abbrev pub least_tip : Shape → List ℕ → Ends → ℕ
least_tip sh x e =
    tipped sh x e e.tip
    (tipped sh x e e.tip2 (tipped sh x e e.tip3 (tipped sh x e e.tip4 (2 * sh.edges + 1))))

-- the least spur
abbrev pub spur_or : Shape → List ℕ → Ends → ℕ → ℕ
spur_or sh x e t = pick (eqb t (2 * sh.edges + 1)) (seek (2 * sh.edges) e.spur (is_spur sh x e.solid)) t

unfoldable pub spur_from : Shape → List ℕ → Ends → ℕ
spur_from sh x e = spur_or sh x e (least_tip sh x e)

-- the first half-edge of the solid is h
abbrev pub with_half : Ends → ℕ → Ends
with_half e h = record {
  solid = e.solid;
  root = e.root;
  faces = e.faces;
  border = e.border;
  stray = e.stray;
  half = h;
  ring = e.ring;
  pair = e.pair;
  spur = e.spur;
  tip = e.tip;
  tip2 = e.tip2;
  tip3 = e.tip3;
  tip4 = e.tip4;
  cross = e.cross;
  lone = e.lone;
}

abbrev pub cross_turn : Shape → Ends → List ℕ → ℕ → ℕ → Work → Swift
cross_turn sh e x h k w = record { work = act sh w (kemr k (free_loop sh x)); ends = cross_ends sh x (with_half e h) k }

abbrev pub spur_turn : Shape → Ends → List ℕ → ℕ → ℕ → Work → Swift
spur_turn sh e x h k w =
    pick (some k) (record { work = act sh w (kev k); ends = spur_ends sh x (with_half e h) k })
    (cross_turn sh e x h (seek (2 * sh.edges) e.cross (is_crossed sh x e.solid)) w)

abbrev pub ring_turn : Shape → Ends → List ℕ → ℕ → ℕ → Work → Swift
ring_turn sh e x h k w =
    pick (some k)
    (record { work = turn_ring sh k (loop_of sh x k) (free_face sh x) w; ends = ring_ends sh x (with_half e h) k })
    (spur_turn sh e x h (spur_from sh x e) w)

-- ---- C, and the end of a solid

-- the next solid is entered
abbrev pub entered : Shape → ℕ → Work → Swift
entered sh s w = record { work = w; ends = enter sh (links_in w) s }

-- the root loses its ring l, and no half-edge is left
abbrev pub bare_ends : Shape → Ends → ℕ → Ends
bare_ends sh e l = record {
  solid = e.solid;
  root = e.root;
  faces = e.faces;
  border = 1;
  stray = 1;
  half = 2 * sh.edges + 1;
  ring = 1;
  pair = 0;
  spur = 1;
  tip = 1;
  tip2 = 1;
  tip3 = 1;
  tip4 = 1;
  cross = 1;
  lone = l;
}

abbrev pub last_turn : Shape → Ends → List ℕ → ℕ → Work → Swift
last_turn sh e x l w =
    pick (some l) (record { work = turn_c sh (face_outer sh x e.root) l (free_edge sh x) w; ends = bare_ends sh e l })
    (entered sh e.solid (act sh w (kvsf e.solid)))

-- ---- the whole

abbrev pub half_turn : Shape → Ends → List ℕ → ℕ → Work → Swift
half_turn sh e x h w =
    pick (some h) (ring_turn sh e x h (seek (2 * sh.edges) e.ring (in_ring sh x e.solid)) w)
    (last_turn sh e x (seek sh.loops e.lone (is_ring_of sh x e.root)) w)

-- a turn of the table x of w
unfoldable pub swift_turn : Shape → Ends → List ℕ → Work → Swift
swift_turn sh e x w =
    pick (eqb e.faces 1)
    (half_turn sh e x (seek (2 * sh.edges) e.half (of_solid sh x e.solid)) w)
    (across sh e x (seek (2 * sh.edges) e.border (outside sh x e.root)) w)

-- the turn lacks a number
abbrev pub ring_lacks : Shape → Ends → List ℕ → ℕ → Bool
ring_lacks sh e x k =
    pick (some k) (eqb (free_face sh x) 0) (pick (some (spur_from sh x e)) false (eqb (free_loop sh x) 0))

abbrev pub half_lacks : Shape → Ends → List ℕ → ℕ → Bool
half_lacks sh e x h =
    pick (some h) (ring_lacks sh e x (seek (2 * sh.edges) e.ring (in_ring sh x e.solid)))
    (pick (some (seek sh.loops e.lone (is_ring_of sh x e.root))) (eqb (free_edge sh x) 0) false)

unfoldable pub swift_lacks : Shape → Ends → List ℕ → Bool
swift_lacks sh e x =
    pick (eqb e.faces 1) (half_lacks sh e x (seek (2 * sh.edges) e.half (of_solid sh x e.solid))) false

-- turns until no solid is in use or a turn lacks a number, at most n
unfoldable pub swift_by : ℕ → Shape → Swift → Ended
swift_by zero sh t = ended false t.work
swift_by (suc n) sh t =
    pick (eqb t.ends.solid 0) (ended false t.work)
    (pick (swift_lacks sh t.ends (links_in t.work)) (ended true t.work)
    (swift_by n sh (swift_turn sh t.ends (links_in t.work) t.work)))

-- ---- the roll-back

-- the first operator of the live log carried out, and nothing logged
abbrev pub undone_one : Shape → State → State
undone_one sh t =
    state (links_after sh t.links (read_at sh t.log t.start).op)
    (points_after sh t.links t.points (read_at sh t.log t.start).op) t.log
    (read_at sh t.log t.start).next

-- the first n
unfoldable pub undone : ℕ → Shape → State → State
undone zero sh t = t
undone (suc n) sh t = undone n sh (undone_one sh t)

-- as many as were done, and the start handed in
abbrev pub rolled_back : Shape → State → Work → State
rolled_back sh t w =
    state (undone w.done sh w.state).links (undone w.done sh w.state).points w.state.log t.start

-- ---- the entry point

abbrev pub swiftly_by : Shape → State → Ended → Inverted
swiftly_by sh t e = pick e.lack (inverted 10 0 (begin (rolled_back sh t e.work))) (inverted 0 0 e.work)

-- as invertOf
unfoldable pub swift_of : State → Inverted
swift_of t =
    pick (eqb (entry t).refusal 0)
    (pick (short_log (shape_of t.links) t) (inverted 9 0 (begin t))
    (swiftly_by (shape_of t.links) t
    (swift_by (turns (shape_of t.links)) (shape_of t.links) (entered (shape_of t.links) 1 (begin t)))))
    (inverted (entry t).refusal (entry t).rule (begin t))
