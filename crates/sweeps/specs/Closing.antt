-- The mef half of a loop's sweep, over columns. Side j stands as H j, K j, S j in loop l, followed by T j: a riser's
-- second half, the corner's half-edge, the next riser. mef from H i to T i closes side i and leaves the later ones.
use Rattle.std.specs.Prelude.{◌≡◌, ◌≢◌, ℕ, ◌*◌, ℤ, List}
use Rattle.std.proofs.Common.{sym, ap, ◌∙◌, ⊎_elim}
use Rattle.layout.specs.declared.shape.Shape.{Shape}
use Rattle.layout.specs.Mate.{mate}
use Rattle.layout.specs.Fields.{Start, Loop, Next, Prev, Columns}
use Rattle.sound_tables.specs.EdgeIn.{next_prev}
use Rattle.sound_tables.specs.Sound.{In, HalfUsed, Sound}
use Rattle.sweeps.specs.Closed.{Parted, Closed, Lapped}
use Rattle.sweeps.specs.Rising.{On}
use Rattle.sweeps.specs.Lifted.{Side, side_round, only_four}

-- one side closed: mef from h to t, where h, k, s, t follow each other in loop l
module _ {sh : Shape} {p p' : List ℤ} {c d : Columns} {l a f m h k s t : ℕ} (S : Sound sh p c) (S' : Sound sh p' d)
    (A : Parted sh c d l a (mate a) f m) (B : Closed sh c d h t a) (af : c Start a ≡ 0) (bf : c Start (mate a) ≡ 0)
    (bin : In (2 * sh.edges) (mate a))
    (oh : On sh c l h k) (ok : On sh c l k s) (os : On sh c l s t) (hk : h ≢ k) (hs : h ≢ s) (ks : k ≢ s) (ht : h ≢ t)
  where
    -- what is in use is not new
    off_a : (n : ℕ) → HalfUsed sh c n → n ≢ a
    off_a n u e = u.2 (ap (c Start) e ∙ af)

    -- nor its mate
    off_b : (n : ℕ) → HalfUsed sh c n → n ≢ mate a
    off_b n u e = u.2 (ap (c Start) e ∙ bf)

    -- and stays in use
    used_on : (n : ℕ) → HalfUsed sh c n → HalfUsed sh d n
    used_on n u = (u.0, u.1, λ e. u.2 (sym (A.start_else n u.1 (off_a n u) (off_b n u)) ∙ e))

    -- s stands before t
    Q_is : c Prev t ≡ s
    Q_is = ap (c Prev) (sym os.2) ∙ S.rules.undone s os.0

    -- what is not followed by h does not stand before it
    not_P : (n y : ℕ) → c Next n ≡ y → y ≢ h → n ≢ c Prev h
    not_P n y e g z = g (sym e ∙ ap (c Next) z ∙ next_prev S.rules h oh.0)

    -- so it is followed as it was, if it is not s
    next_on : (n y : ℕ) → HalfUsed sh c n → c Next n ≡ y → y ≢ h → n ≢ s → d Next n ≡ y
    next_on n y u e g z =
        B.next_else n u.1 (off_a n u) (off_b n u) (not_P n y e g) (λ w. z (w ∙ Q_is)) ∙ e

    -- THE SIDE STANDS in the new loop
    pub closed_side : Side sh d m f k s (mate a) h
    closed_side = side_round S' (bin.0, bin.1, A.start_b) A.loop_b B.next_b
        (next_on h k oh.0 oh.2 (λ z. hk (sym z)) hs) (next_on k s ok.0 ok.2 (λ z. hs (sym z)) ks)
        (ap (d Next) (sym Q_is) ∙ B.next_Q) A.face_new A.solid_new A.outer_new

    -- A HALF-EDGE OF l THAT IS NONE OF THESE STAYS IN l
    loop_on : (n : ℕ) → HalfUsed sh c n → n ≢ h → n ≢ k → n ≢ s → d Loop n ≡ c Loop n
    loop_on n u nh nk ns = A.loop_else n u.1 (off_a n u)
        (λ e. ⊎_elim nk (⊎_elim ns (⊎_elim (off_b n u) nh)) (only_four S' closed_side n (used_on n u) e))

    -- and is followed as it was, if not by h
    pub stays : (n y : ℕ) → On sh c l n y → n ≢ h → n ≢ k → n ≢ s → y ≢ h → On sh d l n y
    stays n y o nh nk ns yh =
        (used_on n o.0, loop_on n o.0 nh nk ns ∙ o.1, next_on n y o.0 o.2 yh ns)

    -- the one before h is followed by a
    pub lifted : (n : ℕ) → On sh c l n h → n ≢ h → n ≢ k → n ≢ s → On sh d l n a
    lifted n o nh nk ns =
        let e : c Prev h ≡ n = ap (c Prev) (sym o.2) ∙ S.rules.undone n o.0 in
        (used_on n o.0, loop_on n o.0 nh nk ns ∙ o.1, ap (d Next) (sym e) ∙ B.next_P)

-- the only side of a loop: mef with way 2 at h, where h, k, s follow each other in loop l
module _ {sh : Shape} {p p' : List ℤ} {c d : Columns} {l a f m h k s : ℕ} (S : Sound sh p c) (S' : Sound sh p' d)
    (A : Parted sh c d l a (mate a) f m) (B : Lapped sh c d h a) (af : c Start a ≡ 0) (bf : c Start (mate a) ≡ 0)
    (bin : In (2 * sh.edges) (mate a))
    (oh : On sh c l h k) (ok : On sh c l k s) (os : On sh c l s h) (hs : h ≢ s) (ks : k ≢ s)
  where
    -- s stands before h
    prev_is : c Prev h ≡ s
    prev_is = ap (c Prev) (sym os.2) ∙ S.rules.undone s os.0

    -- the others are followed as they were
    next_same : (n : ℕ) → HalfUsed sh c n → n ≢ s → d Next n ≡ c Next n
    next_same n u z = B.next_else n u.1 (λ e. u.2 (ap (c Start) e ∙ af)) (λ e. u.2 (ap (c Start) e ∙ bf))
        (λ w. z (w ∙ prev_is))

    -- THE SIDE STANDS
    pub lapped_side : Side sh d m f k s (mate a) h
    lapped_side = side_round S' (bin.0, bin.1, A.start_b) A.loop_b B.next_b
        (next_same h oh.0 hs ∙ oh.2) (next_same k ok.0 ks ∙ ok.2) (ap (d Next) (sym prev_is) ∙ B.next_Q)
        A.face_new A.solid_new A.outer_new
