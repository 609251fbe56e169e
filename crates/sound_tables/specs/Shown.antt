-- The operators' common steps, seen through the columns: whole records, an edge in, an edge out, a loop's first anew, a
-- sweep over the faces.
use Rattle.std.specs.Prelude.{◌≡◌, refl, ◌≢◌, false, List, ℕ, zero, suc, ◌-◌, ◌*◌, ◌≤◌, ◌<◌}
use Rattle.std.proofs.Common.{ap, ◌∙◌, arith}
use Rattle.laws.specs.Bools.{split, eqb_other}
use Rattle.laws.specs.Update.{upd_same, upd_off}
use Rattle.laws.specs.Columns.{sweep}
use Rattle.laws.specs.Cycles.{Cycles}
use Rattle.layout.specs.declared.shape.Shape.{Shape}
use Rattle.layout.specs.Mate.{mate}
use Rattle.euler.specs.Surgery.{edge_writes, no_edge_writes, edge_in, edge_out, seek, first_from, renew}
use Rattle.layout.specs.Fields.{Field, Solid, First, Isolated, Loop, Next, sweep_field, Columns, change, same_field}
use Rattle.layout.specs.Writes.{changes}
use Rattle.sound_tables.specs.Cells.{Shows, shows_put}
use Rattle.sound_tables.specs.WriteLaws.{shows_writes}
use Rattle.sound_tables.specs.Sound.{In, first_of}
use Rattle.sound_tables.specs.Walking.{seek_first}

-- ---- half-edges: what the surgery of `euler` writes, on columns

-- the columns of `edge_in`
abbrev pub with_edge : Columns → ℕ → ℕ → ℕ → ℕ → ℕ → ℕ → ℕ → ℕ → ℕ → Columns
with_edge c k u l n p u' l' n' p' = changes (edge_writes k u l n p u' l' n' p') c

-- and of `edge_out`
abbrev pub without_edge : Columns → ℕ → ℕ → ℕ → ℕ → ℕ → Columns
without_edge c k p n p' n' = changes (no_edge_writes k p n p' n') c

-- an edge in
pub shows_edge : {sh : Shape} {x : List ℕ} {c : Columns} → Shows sh x c → (k u l n p u' l' n' p' : ℕ)
    → In (2 * sh.edges) k → In (2 * sh.edges) (mate k) → In (2 * sh.edges) n → In (2 * sh.edges) p
    → In (2 * sh.edges) n' → In (2 * sh.edges) p'
    → Shows sh (edge_in sh x k u l n p u' l' n' p') (with_edge c k u l n p u' l' n' p')
unfolding edge_in
shows_edge s k u l n p u' l' n' p' ik im jn ip in' ip' =
    shows_writes (edge_writes k u l n p u' l' n' p') s
    (ik, (ik, (ik, (ik, (im, (im, (im, (im, (ip, (jn, (ip', (in', tt))))))))))))

-- an edge out
pub shows_no_edge : {sh : Shape} {x : List ℕ} {c : Columns} → Shows sh x c → (k p n p' n' : ℕ)
    → In (2 * sh.edges) k → In (2 * sh.edges) (mate k) → In (2 * sh.edges) p → In (2 * sh.edges) n
    → In (2 * sh.edges) p' → In (2 * sh.edges) n'
    → Shows sh (edge_out sh x k p n p' n') (without_edge c k p n p' n')
unfolding edge_out
shows_no_edge s k p n p' n' ik im ip jn ip' in' =
    shows_writes (no_edge_writes k p n p' n') s
    (ip, (jn, (ip', (in', (ik, (ik, (ik, (ik, (im, (im, (im, (im, tt))))))))))))

-- ---- a loop's first anew

-- loop l has first k and isolated vertex v
abbrev pub with_first : Columns → ℕ → ℕ → ℕ → Columns
with_first c l k v = change (change c First l k) Isolated l v

-- where it has no half-edge, it is isolated at u
pub shows_isolated : {sh : Shape} {x : List ℕ} {c : Columns} → Shows sh x c → (l low u : ℕ) → In sh.loops l
    → Shows sh (renew sh x l low 0 u) (with_first c l 0 u)
unfolding renew seek
shows_isolated s l low u i =
    let z : 0 - low ≡ 0 = omega arith in
    rw z (shows_put (shows_put s First l 0 i.0 i.1) Isolated l u i.0 i.1)

-- where its half-edges are the cycle of k, none of them below `low`, first is the least that names it
pub shows_first : {sh : Shape} {x : List ℕ} {c : Columns} {U : ℕ → Type 0} → Shows sh x c → (l low k u : ℕ)
    → In sh.loops l → Cycles (2 * sh.edges) U (c Next) (c Loop) → U k → c Loop k ≡ l
    → ((i : ℕ) → In (2 * sh.edges) i → c Loop i ≡ l → U i) → ((i : ℕ) → In (2 * sh.edges) i → c Loop i ≡ l → low ≤ i)
    → Shows sh (renew sh x l low k u) (with_first c l (first_of sh c l) 0)
unfolding renew
shows_first {sh} {x} {c} {U} s l low k u i y w e all from =
    let d : k ≢ 0 = λ z. omega (arith, y.perm.low k w, z) in
    let q : first_from sh x l low k ≡ first_of sh c l =
    seek_first sh x c U l low k (k - low) s y i.0 w e all from (omega arith) in
    rw (eqb_other d, q) (shows_put (shows_put s First l (first_of sh c l) i.0 i.1) Isolated l 0 i.0 i.1)

-- ---- a sweep over the faces: each solid becomes g of the face and of what it was

-- the columns after the faces 1 to n
unfoldable pub sweep_columns : Columns → ℕ → (ℕ → ℕ → ℕ) → Columns
sweep_columns c zero g = c
sweep_columns c (suc n) g = change (sweep_columns c n g) Solid (suc n) (g (suc n) (sweep_columns c n g Solid (suc n)))

-- and the list that shows them
pub shows_sweep : {sh : Shape} {x : List ℕ} {c : Columns} → Shows sh x c → (n : ℕ) (g : ℕ → ℕ → ℕ) → n ≤ sh.faces
    → Shows sh (sweep_field sh Solid n g x) (sweep_columns c n g)
unfolding sweep sweep_columns
shows_sweep s zero g h = s
shows_sweep s (suc n) g h =
    let r = shows_sweep s n g (omega arith) in
    rw (r.at Solid (suc n) h) (shows_put r Solid (suc n) (g (suc n) _) (omega arith) h)

-- above n nothing has changed
pub sweep_above : (c : Columns) (n : ℕ) (g : ℕ → ℕ → ℕ) (f : ℕ) → n < f → sweep_columns c n g Solid f ≡ c Solid f
unfolding sweep_columns
sweep_above c zero g f h = refl
sweep_above c (suc n) g f h = upd_off _ _ (omega arith) ∙ sweep_above c n g f (omega arith)

-- up to n each is g of what it was
pub sweep_at : (c : Columns) (n : ℕ) (g : ℕ → ℕ → ℕ) (f : ℕ) → In n f → sweep_columns c n g Solid f ≡ g f (c Solid f)
unfolding sweep_columns
sweep_at c zero g f i = absurd (omega (arith, i.0, i.1))
sweep_at c (suc n) g f i = split f (suc n)
    (λ e. rw e (upd_same _ (suc n) _ ∙ ap (g (suc n)) (sweep_above c n g (suc n) (omega arith))))
    (λ d. upd_off _ _ d ∙ sweep_at c n g f (i.0, omega (arith, i.1, d)))

-- and the other columns stay
pub sweep_other : (c : Columns) (n : ℕ) (g : ℕ → ℕ → ℕ) (F : Field) → same_field Solid F ≡ false → (k : ℕ)
    → sweep_columns c n g F k ≡ c F k
unfolding sweep_columns
sweep_other c zero g F e k = refl
sweep_other c (suc n) g F e k = rw e (sweep_other c n g F e k)
