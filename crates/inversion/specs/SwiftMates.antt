-- What A's turn leaves where it is: the least mate along a loop, and turns in which no ring was moved.
use Rattle.std.specs.Prelude.{◌≡◌, refl, Bool, true, false, List, ℕ, zero, suc, ◌+◌, ◌-◌, ◌≤◌, ◌<◌}
use Rattle.std.proofs.Common.{sym, ap, ◌∙◌, arith}
use Rattle.laws.specs.Bools.{pick, split, eqb_same, eqb_other}
use Rattle.laws.specs.Permutations.{iter}
use Rattle.layout.specs.declared.shape.Shape.{Shape}
use Rattle.layout.specs.Layout.{next_of}
use Rattle.layout.specs.Mate.{mate}
use Rattle.layout.specs.Items.{is_ring}
use Rattle.sound_tables.specs.Sound.{In}
use Rattle.sound_tables.specs.Walking.{Steps, steps_on}
use Rattle.takedown.specs.Inversion.{Work, act, links_in, is_ring_of, make_outer, move_rings}
use Rattle.takedown.specs.Inversion.{rmov}
use Rattle.inversion.specs.Border.{moves_none}
use Rattle.takedown.specs.Swift.{lesser, least_mate}
use Rattle.inversion.specs.SwiftKept.{lesser_left, lesser_right, lesser_low}

-- ---- the least mate

pub mate_below : (sh : Shape) (n d : ℕ) (x : List ℕ) (j stop b : ℕ) → d ≤ n → Steps (next_of sh x) j stop d
    → least_mate sh n x j stop b ≤ b
unfolding least_mate iter
mate_below sh zero d x j stop b h w = omega arith
mate_below sh (suc n) zero x j stop b h w = rw (eqb_same w.at) (omega arith)
mate_below sh (suc n) (suc d) x j stop b h w =
    let o = steps_on (next_of sh x) j stop d w in
    rw (eqb_other o.0)
    (omega (
      arith,
      mate_below sh n d x (next_of sh x j) stop (lesser (mate j) b) (omega arith) o.1,
      lesser_right (mate j) b,
    ))

-- it is not above the mate of any half-edge on the way
pub mate_met : (sh : Shape) (n d : ℕ) (x : List ℕ) (j stop b : ℕ) → d ≤ n → Steps (next_of sh x) j stop d → (t : ℕ)
    → t < d
    → least_mate sh n x j stop b ≤ mate (iter (next_of sh x) t j)
unfolding least_mate iter
mate_met sh zero d x j stop b h w t l = absurd (omega arith)
mate_met sh (suc n) zero x j stop b h w t l = absurd (omega arith)
mate_met sh (suc n) (suc d) x j stop b h w zero l =
    let o = steps_on (next_of sh x) j stop d w in
    rw (eqb_other o.0)
    (omega (
      arith,
      mate_below sh n d x (next_of sh x j) stop (lesser (mate j) b) (omega arith) o.1,
      lesser_left (mate j) b,
    ))
mate_met sh (suc n) (suc d) x j stop b h w (suc t) l =
    let o = steps_on (next_of sh x) j stop d w in
    rw (eqb_other o.0) (mate_met sh n d x (next_of sh x j) stop (lesser (mate j) b) (omega arith) o.1 t
    (omega arith))

pub mate_low : (sh : Shape) (n d : ℕ) (x : List ℕ) (j stop b : ℕ) → d ≤ n → Steps (next_of sh x) j stop d → 1 ≤ b
    → ((t : ℕ) → t < d → 1 ≤ mate (iter (next_of sh x) t j)) → 1 ≤ least_mate sh n x j stop b
unfolding least_mate iter
mate_low sh zero d x j stop b h w l f = l
mate_low sh (suc n) zero x j stop b h w l f = rw (eqb_same w.at) l
mate_low sh (suc n) (suc d) x j stop b h w l f =
    let o = steps_on (next_of sh x) j stop d w in
    rw (eqb_other o.0) (mate_low sh n d x (next_of sh x j) stop (lesser (mate j) b) (omega arith) o.1
    (lesser_low (mate j) b (f 0 (omega arith)) l) (λ t q. f (suc t) (omega arith)))

-- ---- nothing was done

-- the count never falls
pub moves_more : (sh : Shape) (n i f r : ℕ) (w : Work) → w.done ≤ (move_rings sh n i f r w).done
unfolding move_rings act
moves_more sh zero i f r w = omega arith
moves_more sh (suc n) i f r w = by (λ v. moves_more sh n (i + 1) f r v) (is_ring_of sh (links_in w) f i)
  where
    by : ((v : Work) → v.done ≤ (move_rings sh n (i + 1) f r v).done) → (t : Bool)
        → w.done ≤ (move_rings sh n (i + 1) f r (pick t (act sh w (rmov i r)) w)).done
    by ih true = omega (arith, ih (act sh w (rmov i r)))
    by ih false = ih w

-- where it stays, there was no ring
pub moves_still : (sh : Shape) (n i f r : ℕ) (w : Work) → (move_rings sh n i f r w).done ≡ w.done
    → (move_rings sh n i f r w ≡ w) × ((m : ℕ) → i ≤ m → m < i + n → is_ring_of sh (links_in w) f m ≡ false)
unfolding move_rings act
moves_still sh zero i f r w e = (refl, λ m a b. absurd (omega arith))
moves_still sh (suc n) i f r w e = by (λ h. moves_still sh n (i + 1) f r w h) (is_ring_of sh (links_in w) f i) refl e
  where
    by : ((move_rings sh n (i + 1) f r w).done ≡ w.done → (move_rings sh n (i + 1) f r w ≡ w)
        × ((m : ℕ) → i + 1 ≤ m → m < i + 1 + n → is_ring_of sh (links_in w) f m ≡ false))
        → (t : Bool) → is_ring_of sh (links_in w) f i ≡ t
        → (move_rings sh n (i + 1) f r (pick t (act sh w (rmov i r)) w)).done ≡ w.done
        → (move_rings sh n (i + 1) f r (pick t (act sh w (rmov i r)) w) ≡ w)
        × ((m : ℕ) → i ≤ m → m < i + suc n → is_ring_of sh (links_in w) f m ≡ false)
    by ih true q h = absurd (omega (arith, h, moves_more sh n (i + 1) f r (act sh w (rmov i r))))
    by ih false q h = let c = ih h in (
      c.0,
      λ m a b. split m i (λ z. ap (is_ring_of sh (links_in w) f) z ∙ q)
          (λ z. c.1 m (omega arith) (omega arith)),
    )

-- and loops that are no rings of the face may be left out
moves_off : (sh : Shape) (d n i f r : ℕ) (w : Work)
    → ((m : ℕ) → i ≤ m → m < i + d → is_ring_of sh (links_in w) f m ≡ false) → move_rings sh (d + n) i f r w
    ≡ move_rings sh n (i + d) f r w
unfolding move_rings
moves_off sh zero n i f r w h = let a : 0 + n ≡ n = omega arith in let b : i + 0 ≡ i = omega arith in rw (a, b)
moves_off sh (suc d) n i f r w h =
    let a : suc d + n ≡ suc (d + n) = omega arith in
    let b : i + suc d ≡ i + 1 + d = omega arith in
    rw (a, b) (moves_none sh (d + n) i f r w (links_in w) refl (h i (omega arith) (omega arith))
    ∙ moves_off sh d n (i + 1) f r w (λ m l u. h m (omega arith) (omega arith)))

pub moves_from : (sh : Shape) (low f r : ℕ) (w : Work) → 1 ≤ low → low ≤ sh.loops + 1
    → ((m : ℕ) → In sh.loops m → m < low → is_ring_of sh (links_in w) f m ≡ false)
    → move_rings sh (sh.loops + 1 - low) low f r w ≡ move_rings sh sh.loops 1 f r w
moves_from sh low f r w l u h =
    let a : low - 1 + (sh.loops + 1 - low) ≡ sh.loops = omega arith in
    let b : 1 + (low - 1) ≡ low = omega arith in
    let q = moves_off sh (low - 1) (sh.loops + 1 - low) 1 f r w (λ m c d. h m (c, omega arith) (omega arith)) in
    sym (rw (a, b) at q)

pub outer_more : (sh : Shape) (l f : ℕ) (w : Work) → w.done ≤ (make_outer sh l f w).done
unfolding make_outer act
outer_more sh l f w = by (is_ring sh (links_in w) l)
  where
    by : (t : Bool) → w.done ≤ (pick t (act sh w (rmov l f)) w).done
    by true = omega arith
    by false = omega arith

pub outer_still : (sh : Shape) (l f : ℕ) (w : Work) → (make_outer sh l f w).done ≡ w.done → (make_outer sh l f w ≡ w)
    × (is_ring sh (links_in w) l ≡ false)
unfolding make_outer act
outer_still sh l f w e = by (is_ring sh (links_in w) l) refl e
  where
    by : (t : Bool) → is_ring sh (links_in w) l ≡ t → (pick t (act sh w (rmov l f)) w).done ≡ w.done
        → (pick t (act sh w (rmov l f)) w ≡ w) × (is_ring sh (links_in w) l ≡ false)
    by true q h = absurd (omega (arith, h))
    by false q h = (refl, q)
