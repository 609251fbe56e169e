-- Access is total: past the last record it would read another record's word, past the list's end a 0. On a sound table
-- that never happens: every number that a record in use holds is within its capacity and names an item in use, and a
-- number within its capacity reads the word of the record that it names.
use Rattle.std.specs.Prelude.{◌≡◌, refl, ◌≢◌, ◌⊎◌, List, ℕ, zero, suc, ◌+◌, ◌*◌, ◌≤◌, ◌<◌, ℤ, length, get_or}
use Rattle.std.proofs.Common.{◌∙◌, inl, inr, ⊎_elim, arith}
use Rattle.laws.specs.Columns.{in_kind}
use Rattle.laws.specs.Permutations.{undo_in}
use Rattle.layout.specs.declared.shape.Shape.{Shape}
use Rattle.layout.specs.Layout.{solid_used, face_solid, face_outer, loop_face, loop_first, loop_isolated, start_of}
use Rattle.layout.specs.Layout.{loop_of}
use Rattle.layout.specs.Layout.{next_of, prev_of, vertex_used}
use Rattle.layout.specs.Mate.{mate}
use Rattle.layout.specs.Fields.{Field, Capacity, SolidUsed, Solid, Outer, Face, First, Isolated, Start, Loop, Next}
use Rattle.layout.specs.Fields.{Prev, VertexUsed, group_of, word_of, group_at, cap_of, column, field_in}
use Rattle.sound_tables.specs.Sound.{In, HalfUsed}
use Rattle.sound_tables.specs.Labels.{label_found}
use Rattle.sound_tables.specs.Good.{Good, own}

-- ---- a number within its capacity

-- where field F of record i + 1 stands
abbrev pub place_of : Shape → Field → ℕ → ℕ
place_of sh F i = (group_at sh (group_of F)).base + (group_at sh (group_of F)).width * i + word_of F

-- where the records that have field F end
abbrev pub end_of : Shape → Field → ℕ
end_of sh F = (group_at sh (group_of F)).base + (group_at sh (group_of F)).width * (group_at sh (group_of F)).count

-- field F of record n is read from that record, among the records of its kind and within the list
pub record Reads (sh : Shape) (x : List ℕ) (F : Field) (n : ℕ) : Type 0 where
  pub index : ℕ
  pub number : suc index ≡ n
  pub from : (group_at sh (group_of F)).base ≤ place_of sh F index
  pub below : place_of sh F index < end_of sh F
  pub inside : end_of sh F ≤ length x
  pub word : column sh F x n ≡ get_or x (place_of sh F index) 0

-- ---- the numbers that records in use hold

-- n is an item, by its capacity, and its mark, the word that tells it is in use, is not 0
abbrev pub Item : ℕ → (ℕ → ℕ) → ℕ → Type 0
Item cap mark n = In cap n × (mark n ≢ 0)

-- the same, or no item
abbrev pub NoneOrItem : ℕ → (ℕ → ℕ) → ℕ → Type 0
NoneOrItem cap mark n = (n ≡ 0) ⊎ Item cap mark n

pub record FaceHolds (sh : Shape) (x : List ℕ) (f : ℕ) : Type 0 where
  pub solid : Item sh.solids (solid_used sh x) (face_solid sh x f)
  pub outer : Item sh.loops (loop_face sh x) (face_outer sh x f)

pub record LoopHolds (sh : Shape) (x : List ℕ) (l : ℕ) : Type 0 where
  pub face : Item sh.faces (face_solid sh x) (loop_face sh x l)
  pub first : NoneOrItem (2 * sh.edges) (start_of sh x) (loop_first sh x l)
  pub isolated : NoneOrItem sh.vertices (vertex_used sh x) (loop_isolated sh x l)

pub record HalfHolds (sh : Shape) (x : List ℕ) (k : ℕ) : Type 0 where
  pub start : Item sh.vertices (vertex_used sh x) (start_of sh x k)
  pub loop : Item sh.loops (loop_face sh x) (loop_of sh x k)
  pub next : Item (2 * sh.edges) (start_of sh x) (next_of sh x k)
  pub prev : Item (2 * sh.edges) (start_of sh x) (prev_of sh x k)
  pub mate : Item (2 * sh.edges) (start_of sh x) (mate k)

-- each number held is within its capacity, and each number within its capacity reads the record that it names
pub record HeldInRange (sh : Shape) (x : List ℕ) : Type 0 where
  pub face : (f : ℕ) → Item sh.faces (face_solid sh x) f → FaceHolds sh x f
  pub loop : (l : ℕ) → Item sh.loops (loop_face sh x) l → LoopHolds sh x l
  pub half : (k : ℕ) → Item (2 * sh.edges) (start_of sh x) k → HalfHolds sh x k
  pub reads : (F : Field) (n : ℕ) → In (cap_of sh F) n → Reads sh x F n

-- ---- on a sound table

module _ {sh : Shape} {x : List ℕ} {p : List ℤ} (g : Good sh x p) where
  -- each kind of record ends within the list
  end_inside : (F : Field) → end_of sh F ≤ length x
  end_inside Capacity = omega (arith, g.fit)
  end_inside SolidUsed = omega (arith, g.fit)
  end_inside Solid = omega (arith, g.fit)
  end_inside Outer = omega (arith, g.fit)
  end_inside Face = omega (arith, g.fit)
  end_inside First = omega (arith, g.fit)
  end_inside Isolated = omega (arith, g.fit)
  end_inside Start = omega (arith, g.fit)
  end_inside Loop = omega (arith, g.fit)
  end_inside Next = omega (arith, g.fit)
  end_inside Prev = omega (arith, g.fit)
  end_inside VertexUsed = omega (arith, g.fit)

  reads : (F : Field) (n : ℕ) → In (cap_of sh F) n → Reads sh x F n
  reads F zero i = absurd (omega (arith, i.0))
  reads F (suc n) i = record {
    index = n;
    number = refl;
    from = omega arith;
    below = in_kind (group_at sh (group_of F)) (word_of F) n (field_in sh F).0 (omega (arith, i.1));
    inside = end_inside F;
    word = refl;
  }

  -- a half-edge in use, said twice
  used : (k : ℕ) → Item (2 * sh.edges) (start_of sh x) k → HalfUsed sh (own sh x) k
  used k i = (i.0.0, i.0.1, i.1)

  item : (k : ℕ) → HalfUsed sh (own sh x) k → Item (2 * sh.edges) (start_of sh x) k
  item k u = ((u.0, u.1), u.2)

  face_holds : (f : ℕ) → Item sh.faces (face_solid sh x) f → FaceHolds sh x f
  face_holds f i =
      let r = g.sound.face f i.0 i.1 in
      record {
        solid = (r.solid_in, r.solid_used_lem);
        outer =
            (r.outer_in, λ z. omega (arith, i.0.0, z, r.outer_face));
      }

  -- a half-edge that is not free: it names a loop
  names_used : (k : ℕ) → In (2 * sh.edges) k → loop_of sh x k ≢ 0 → start_of sh x k ≢ 0
  names_used k i h z = h (g.sound.half_free k i z).loop

  loop_holds : (l : ℕ) → Item sh.loops (loop_face sh x) l → LoopHolds sh x l
  loop_holds l i =
      let r = g.sound.loop l i.0 i.1 in
      record {
        face = (r.face_in_lem, r.face_used);
        first = ⊎_elim
            (λ h.
            let m = label_found (2 * sh.edges) (loop_of sh x) l (λ z. h.0 (r.first ∙ z)) in
            inr (rw r.first (m.range, names_used _ m.range (λ z. omega (arith, i.0.0, z, m.label)))))
            (λ h. inl h.0) r.either;
        isolated = ⊎_elim (λ h. inl h.1) (λ h. inr (h.1, h.2)) r.either;
      }

  half_holds : (k : ℕ) → Item (2 * sh.edges) (start_of sh x) k → HalfHolds sh x k
  half_holds k i =
      let u = used k i in
      let r = g.sound.half k i.0 i.1 in
      let l = g.sound.rules.loops.perm in
      record {
        start = (r.start_in, r.start_used);
        loop = (r.loop_in, r.loop_used);
        next = item _ (l.f_in k u);
        prev = item _ (undo_in l (prev_of sh x) g.sound.rules.undone k u);
        mate = item _ (g.sound.rules.mate_in k u);
      }

  pub held_in_range : HeldInRange sh x
  held_in_range = record { face = face_holds; loop = loop_holds; half = half_holds; reads = reads }
