-- Rules 4 and 5 once the edge is out: the two loops are joined by an exchange, and the spur that the edge then is
-- comes out.
use Rattle.std.specs.Prelude.{◌≡◌, refl, ◌≢◌, ◌⊎◌, ℕ, ◌*◌}
use Rattle.std.proofs.Common.{sym, ap, ◌∙◌, subst, inl, inr, ⊎_elim}
use Rattle.laws.specs.Bools.{split}
use Rattle.laws.specs.Update.{relabel, relabel_at, relabel_off}
use Rattle.laws.specs.Permutations.{inj}
use Rattle.laws.specs.Cycles.{Cycles, agree}
use Rattle.laws.specs.Moves.{Or, xchg, merge_cycles}
use Rattle.layout.specs.declared.shape.Shape.{Shape}
use Rattle.layout.specs.Mate.{mate}
use Rattle.layout.specs.MateLaws.{mate_mate}
use Rattle.layout.specs.Fields.{Start, Loop, Next, Prev, Columns}
use Rattle.sound_tables.specs.EdgeIn.{Rules}
use Rattle.sound_tables.specs.Sound.{halves, HalfUsed}
use Rattle.sound_cuts.specs.Seats.{seat_out, xchg_back}
use Rattle.sound_cuts.specs.Relation.{Spot, seat, spur, off_a, off_b, l_m, ba, Cut, used_a, used_b, used_to}
use Rattle.sound_cuts.specs.Relation.{used_from, With, or_used, used_or, around, start_c, loop_stays, loop_goes}
use Rattle.sound_cuts.specs.Spur.{vertex_seat, seat_place, vertex_place, a_new, b_new, Q_in, Q_a, next_spur}
use Rattle.sound_cuts.specs.Spur.{next_mate}

module _ {sh : Shape} {c d : Columns} {q : Spot} (k : Cut sh c d q)
    (r : Rules (2 * sh.edges) mate (HalfUsed sh d) (halves d)) where
  -- as many half-edges
  abbrev n : ℕ
  n = 2 * sh.edges

  -- the mate of one in c is in c
  mates : (i : ℕ) → HalfUsed sh c i → HalfUsed sh c (mate i)
  mates i x = used_from k (mate i) (r.mate_in i (used_to k i x))
      (λ e. off_b k.site i x (sym (mate_mate i) ∙ ap mate e ∙ k.site.ab))
      (λ e. off_a k.site i x (sym (mate_mate i) ∙ ap mate e ∙ ba k.site))

  -- ---- loops

  -- Q is in the new loop
  loop_Q : d Loop q.Q ≡ q.m
  loop_Q = sym (r.loops.keeps q.Q (around k).2) ∙ ap (d Loop) k.next_Q ∙ k.loop_b

  -- the two loops are joined, and a and b come out
  loops : Cycles n (HalfUsed sh c) (c Next) (c Loop)
  loops = agree
      (seat_out
      (seat_out
      (agree (merge_cycles r.loops q.a q.Q (used_a k) (around k).2 two) (used_or k) (or_used k)
      (λ i x. back i (used_or k i x)) (λ i x. refl))
      (b_new k.site) (inl (inl refl)))
      (a_new k.site) (seat_place k.site))
      (λ i x. x) (λ i x. x) (λ i x. refl) label
    where
      -- their names differ
      two : d Loop q.a ≢ d Loop q.Q
      two z = l_m k.site (sym k.loop_a ∙ z ∙ loop_Q)

      -- Q is in use
      Q_with : With sh c q q.Q
      Q_with = ⊎_elim (λ e. inl e) (λ u. inr (inr u)) (Q_in k.site)

      -- joined they are the spur's
      back : (i : ℕ) → With sh c q i → spur c q i ≡ xchg (d Next) q.a q.Q i
      back i x = xchg_back (spur c q) (d Next) q.a q.Q (λ e. Q_a k.site (sym e))
          (next_spur k q.a (inr (inl refl))) (next_spur k q.Q Q_with) i (next_spur k i x)

      -- with c's names
      label : (i : ℕ) → HalfUsed sh c i → c Loop i ≡ relabel (d Loop) (d Loop q.Q) (d Loop q.a) i
      label i x = split (d Loop i) q.m
          (λ e. loop_goes k i x e ∙ sym (relabel_at (d Loop) _ _ (e ∙ sym loop_Q) ∙ k.loop_a))
          (λ e. sym (loop_stays k i x e) ∙ sym (relabel_off (d Loop) _ _ (λ z. e (z ∙ loop_Q))))

  -- ---- vertices

  -- both halves come out
  verts : Cycles n (HalfUsed sh c) (λ i. c Next (mate i)) (c Start)
  verts = agree
      (seat_out
      (seat_out (agree r.verts (used_or k) (or_used k) (λ i x. sym (next_mate k mates i (used_or k i x)))
      (λ i x. refl))
      (b_new k.site) (inl at_b))
      (a_new k.site) at_a)
      (λ i x. x) (λ i x. x) (λ i x. refl) (λ i x. sym (start_c k i x))
    where
      -- the mate of Q is a or of c
      at_b : Or q.a (HalfUsed sh c) (mate q.Q)
      at_b = ⊎_elim (λ e. inl (ap mate e ∙ ba k.site)) (λ u. inr (mates q.Q u)) (Q_in k.site)

      -- so is a's seat
      at_a : HalfUsed sh c (vertex_seat q) ⊎ (vertex_seat q ≡ q.a)
      at_a = ⊎_elim (λ o. inl (subst (HalfUsed sh c) (sym o.1) (mates (seat q) o.0))) (λ o. inr o.1)
          (vertex_place k.site)

  -- ---- all

  -- previous undoes next
  undone : (i : ℕ) → HalfUsed sh c i → c Prev (c Next i) ≡ i
  undone i x = split i q.P
      (λ e. ⊎_elim (λ o. absurd (off_a k.site i x (e ∙ o.before)))
      (λ o. ap (λ j. c Prev (c Next j)) e ∙ ap (c Prev) o.next ∙ o.prev ∙ sym e) k.site.near.at_a)
      (λ e. split i q.Q
      (λ g. ⊎_elim (λ o. absurd (off_b k.site i x (g ∙ o.before)))
      (λ o. ap (λ j. c Prev (c Next j)) g ∙ ap (c Prev) o.next ∙ o.prev ∙ sym g) k.site.near.at_b)
      (λ g.
      let u = used_to k i x in
      let f = off_a k.site i x in
      let h = off_b k.site i x in
      let P = r.loops.perm in
      ap (c Prev) (sym (k.next_else i f h e g))
      ∙ sym (k.prev_else (d Next i)
      (λ z. e (inj P u (around k).0 (z ∙ sym k.next_P))) (λ z. g (inj P u (around k).2 (z ∙ sym k.next_Q)))
      (λ z. f (inj P u (used_a k) (z ∙ sym k.next_a))) (λ z. h (inj P u (used_b k) (z ∙ sym k.next_b))))
      ∙ r.undone i u))

  -- the rules without the edge
  pub mend_rules : Rules (2 * sh.edges) mate (HalfUsed sh c) (halves c)
  mend_rules = record { mate_in = mates; loops = loops; verts = verts; undone = undone }
