-- The text of a solid shows it: for every table that passes the check and every solid that is not refused.
use Rattle.std.specs.Prelude.{◌≡◌, List, map, ℕ, ℤ}
use Rattle.std.proofs.Common.{ap, ◌∙◌, eqb→eq}
use Rattle.laws.specs.Bools.{true_T, eqb_same}
use Rattle.layout.specs.Layout.{shape_of, face_solid, start_of}
use Rattle.table.specs.Valid.{Valid}
use Rattle.sound_tables.specs.ValidGood.{valid_good}
use Rattle.wavefront.specs.Obj.{own_vertex, own_face, own_faces, rank, solid_refusal}
use Rattle.wavefront_read.specs.ReadBack.{cycle_of}
use Rattle.wavefront_read.specs.Laps.{turn_round, map_turn}
use Rattle.wavefront_read.specs.TurnedRound.{showable, onwards, turned_round}
use Rattle.wavefront_read.specs.Passing.{passing_only, passing_all, passing_rising}
use Rattle.wavefront_read.specs.Ranks.{map_same, rank_names, rank_one_to_one, rank_onto, all_vertices}
use Rattle.wavefront_read.specs.Ranks.{start_own, index_names, corner_points, every_used}
use Rattle.wavefront_read.specs.Length.{obj_some, obj_length, obj_longest}
use Rattle.wavefront_read.specs.Shown.{table_cycle, TextShows}

-- THE TEXT SHOWS THE SOLID
pub text_shows : (x : List ℕ) (p : List ℤ) → Valid x p → (s : ℕ) → solid_refusal (shape_of x) x s ≡ 0
    → TextShows (shape_of x) x p s
text_shows x p v s h =
    let sh = shape_of x in
    let g = valid_good x p v in
    let a = g.sound in
    let q = showable sh x s h in
    record {
      faces = λ f. (
        λ m.
            let r = passing_only sh.faces (own_face sh x s) f m in (r.0, eqb→eq (face_solid sh x f) s r.1),
        λ r. passing_all sh.faces (own_face sh x s) f r.0 (true_T (eqb_same r.1)),
      );
      faces_rise = passing_rising sh.faces (own_face sh x s);
      vertices = λ v. (
        passing_only sh.vertices (own_vertex sh x s) v,
        λ o. passing_all sh.vertices (own_vertex sh x s) v o.0 o.1,
      );
      vertices_rise = passing_rising sh.vertices (own_vertex sh x s);
      loops = turned_round a q;
      cycles = map_same (cycle_of sh x s) (λ f. turn_round (table_cycle sh x s f)) (own_faces sh x s) (λ f m.
          let r = passing_only sh.faces (own_face sh x s) f m in
          ap (map (λ k. rank sh x s (start_of sh x k)))
          (turned_round a q f r.0 (eqb→eq (face_solid sh x f) s r.1)).written
          ∙ map_turn (λ k. rank sh x s (start_of sh x k)) (onwards sh x f));
      named = rank_names sh x s;
      apart = rank_one_to_one sh x s;
      onto = rank_onto sh x s;
      used = every_used a q;
      index = index_names a q;
      corners = corner_points a q;
      starts = start_own _ a;
      none_isolated = all_vertices a q;
      some = obj_some a q;
      size = obj_length g q;
      longest = obj_longest g q;
    }
