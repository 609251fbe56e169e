-- Faces and solids put together anew: the marks of the solids, the solid and outer loop of each face and the face of
-- each loop change, nothing else does. What has to be shown of such a change, and that it is enough.
use Rattle.std.specs.Prelude.{◌≡◌, refl, ◌≢◌, false, List, [], ◌∷◌, ℕ, ◌≤◌, ℤ}
use Rattle.std.proofs.Common.{⊎_elim, arith}
use Rattle.laws.specs.Bools.{pick, split, ask}
use Rattle.layout.specs.declared.shape.Shape.{Shape}
use Rattle.layout.specs.Mate.{mate}
use Rattle.layout.specs.Fields.{Field, SolidUsed, Solid, Outer, Face, Loop, Columns, among}
use Rattle.sound_tables.specs.Solids.{Solids}
use Rattle.sound_tables.specs.Sound.{In, HalfUsed, FaceUsed, FaceSound, Sound, vertex_same, sound_agree}

-- the fields that change
abbrev pub grouping : List Field
grouping = SolidUsed ∷ Solid ∷ Outer ∷ Face ∷ []

-- d is c with faces and solids put together anew: marks and solids belong together, outer loops name their faces, the
-- loops in use are those that were
pub record Regroup (sh : Shape) (c d : Columns) : Type 0 where
  pub mark : (n : ℕ) → In sh.solids n → d SolidUsed n ≤ 1
  pub solid : (n : ℕ) → In sh.solids n → d SolidUsed n ≢ 0 → (f : ℕ) × In sh.faces f × (d Solid f ≡ n)
  pub face_free : (f : ℕ) → In sh.faces f → d Solid f ≡ 0 → d Outer f ≡ 0
  pub face : (f : ℕ) → FaceUsed sh d f → FaceSound sh d f
  pub loop_free : (l : ℕ) → In sh.loops l → c Face l ≡ 0 → d Face l ≡ 0
  pub loop : (l : ℕ) → In sh.loops l → c Face l ≢ 0 → FaceUsed sh d (d Face l)
  pub solids : Solids (HalfUsed sh c) (FaceUsed sh d) (λ k. d Face (c Loop k)) mate (d Solid)
  pub others : (F : Field) → among grouping F ≡ false → (n : ℕ) → d F n ≡ c F n

module _ {sh : Shape} {p : List ℤ} {c d : Columns} (a : Sound sh p c) (r : Regroup sh c d) where
  -- a loop that was in use is
  still_used : (l : ℕ) → In sh.loops l → c Face l ≢ 0 → d Face l ≢ 0
  still_used l i h z = let q = (r.loop l i h).0 in omega (arith, q, z)

  -- the columns of d that change, beside those of c that stay
  abbrev mixed : Columns
  mixed F = pick (among grouping F) (d F) (c F)

  -- these are the columns of d
  d_mixed : (F : Field) (n : ℕ) → d F n ≡ mixed F n
  d_mixed F n = ⊎_elim (λ e. rw e) (λ e. rw e (r.others F e n)) (ask (among grouping F))

  -- they are sound
  mixed_sound : Sound sh p mixed
  mixed_sound = record {
    solid_mark = r.mark;
    solid = r.solid;
    face_free = r.face_free;
    face = λ f i h.
        let q = r.face f (i.0, i.1, h) in
        record {
          solid_in = q.solid_in;
          solid_used_lem = q.solid_used_lem;
          outer_in = q.outer_in;
          outer_face =
              q.outer_face;
        };
    loop_free = λ l i h. split (c Face l) 0 (λ z. a.loop_free l i z) (λ z. absurd (still_used l i z h));
    loop = λ l i h.
        let u : c Face l ≢ 0 = λ z. h (r.loop_free l i z) in
        let b = a.loop l i u in
        let q = r.loop l i u in
        record { face_in_lem = (q.0, q.1); face_used = q.2; first = b.first; either = b.either };
    half_free = λ k i h. let b = a.half_free k i h in record { loop = b.loop; next = b.next; prev = b.prev };
    half = λ k i h.
        let b = a.half k i h in
        record {
          start_in = b.start_in;
          start_used = b.start_used;
          loop_in = b.loop_in;
          loop_used = still_used (c Loop k) b.loop_in b.loop_used;
        };
    vertex = λ v i h. vertex_same (λ l i. refl) (λ k i. refl) (a.vertex v i h);
    point = λ v i. let b = a.point v i in record { range = b.range; zero = b.zero };
    rules = a.rules;
    solids = r.solids;
  }

  -- the table is sound afterwards
  pub regroup_sound : Sound sh p d
  regroup_sound = sound_agree sh p (λ F n h. d_mixed F n) mixed_sound
