-- A table of the right length, seen through its columns: a store changes one entry of one column and nothing else, and
-- a table is settled by its columns. All for the kinds of record as a list, so that no kind is looked at by itself.
use Rattle.std.specs.Prelude.{◌≡◌, refl, ◌≢◌, List, [], ◌∷◌, ℕ, zero, suc, ◌+◌, ◌*◌, ◌≤◌, ◌<◌, length, get_or}
use Rattle.std.proofs.Common.{sym, ◌∙◌, subst, inl, inr, ⊎_elim, arith}
use Rattle.laws.specs.Bools.{split, le?, eqb_same, eqb_other}
use Rattle.laws.specs.Update.{upd, upd_same, upd_off}
use Rattle.laws.specs.Columns.{Kind, Chained, Agree, AllAgree, columns_ext, store_length}
use Rattle.laws.specs.Columns.{col_store, col_store_other, col_store_apart}
use Rattle.layout.specs.declared.shape.Shape.{Shape}
use Rattle.layout.specs.Fields.{Field, group_of, word_of, groups, group_at, cell, put_cell, cap_of}
use Rattle.layout.specs.Fields.{column, put, Columns, change, field_same, field_in, Named, field_named}

-- ---- kinds in a chain

-- where a kind ends
abbrev pub end : Kind → ℕ
end κ = κ.base + κ.width * κ.count

-- kind i of a list; past the last there is none
abbrev nth : List Kind → ℕ → Kind
nth κs i = get_or κs i (record { base = 0; width = 0; count = 0 })

-- a chain does not end before it begins
chain_up : (κs : List Kind) (from to : ℕ) → Chained from κs to → from ≤ to
chain_up [] from to c = omega arith
chain_up (κ ∷ κs) from to c = omega (arith, chain_up κs (from + κ.width * κ.count) to c.2)

-- and has one end
chain_end : (κs : List Kind) (from to to' : ℕ) → Chained from κs to → Chained from κs to' → to ≡ to'
chain_end [] from to to' c d = sym c ∙ d
chain_end (κ ∷ κs) from to to' c d = chain_end κs (from + κ.width * κ.count) to to' c.2 d.2

-- each kind lies within it
chain_in : (κs : List Kind) (from to i : ℕ) → Chained from κs to → i < length κs → (from ≤ (nth κs i).base)
    × (end (nth κs i) ≤ to)
chain_in [] from to i c h = absurd (omega arith)
chain_in (κ ∷ κs) from to zero c h = omega (arith, c.0, chain_up κs (from + κ.width * κ.count) to c.2)
chain_in (κ ∷ κs) from to (suc i) c h = let r = chain_in κs (from + κ.width * κ.count) to i c.2 (omega arith) in
    (omega (arith, r.0), r.1)

-- and ends before the next ones begin
pub chain_apart : (κs : List Kind) (from to i j : ℕ) → Chained from κs to → j < length κs → i < j
    → end (nth κs i) ≤ (nth κs j).base
chain_apart [] from to i j c h l = absurd (omega arith)
chain_apart (κ ∷ κs) from to i zero c h l = absurd (omega arith)
chain_apart (κ ∷ κs) from to zero (suc j) c h l =
    omega (arith, c.0, (chain_in κs (from + κ.width * κ.count) to j c.2 (omega arith)).0)
chain_apart (κ ∷ κs) from to (suc i) (suc j) c h l = chain_apart κs (from + κ.width * κ.count) to i j c.2
    (omega arith) (omega arith)

-- ---- a table that its columns show

-- the kinds fill the list, and up to its capacity each column is what c says
pub record Shows (sh : Shape) (x : List ℕ) (c : Columns) : Type 0 where
  pub fit : Chained 0 (groups sh) (length x)
  pub at : (F : Field) (n : ℕ) → n ≤ cap_of sh F → column sh F x n ≡ c F n

-- a table shows its own columns
pub shows_own : (sh : Shape) (x : List ℕ) → Chained 0 (groups sh) (length x) → Shows sh x (λ F. column sh F x)
shows_own sh x fit = record { fit = fit; at = λ F n h. refl }

-- and what agrees with what it shows
pub shows_agree : {sh : Shape} {x : List ℕ} {c d : Columns} → Shows sh x c
    → ((F : Field) (n : ℕ) → n ≤ cap_of sh F → c F n ≡ d F n) → Shows sh x d
shows_agree s e = record { fit = s.fit; at = λ F n h. s.at F n h ∙ e F n h }

module _ (sh : Shape) (x : List ℕ) (fit : Chained 0 (groups sh) (length x)) (g w : ℕ) (hg : g < 6)
    (hw : w < (group_at sh g).width) (k v : ℕ) (uk : k ≤ (group_at sh g).count) where
  -- a store keeps the length
  put_length : length (put_cell sh g w x k v) ≡ length x
  put_length = store_length (group_at sh g) w x k v

  -- its own column
  put_same : 1 ≤ k → (n : ℕ) → cell sh g w (put_cell sh g w x k v) n ≡ upd (cell sh g w x) k v n
  put_same lk n = col_store (group_at sh g) w x (chain_in (groups sh) 0 (length x) g fit hg).1 hw k v n lk uk

  -- another column of the kind
  put_word : (w' : ℕ) → w' < (group_at sh g).width → w' ≢ w → (n : ℕ) → cell sh g w' (put_cell sh g w x k v) n
      ≡ cell sh g w' x n
  put_word w' hw' d n = col_store_other 0 (group_at sh g) w' w x hw' hw d k v n

  -- a column of another kind
  put_apart : (g' w' : ℕ) → g' < 6 → w' < (group_at sh g').width → g' ≢ g → (n : ℕ) → n ≤ (group_at sh g').count
      → cell sh g' w' (put_cell sh g w x k v) n ≡ cell sh g' w' x n
  put_apart g' w' hg' hw' d n un =
      col_store_apart 0 (group_at sh g') (group_at sh g) w' w x hw' hw
      (⊎_elim (λ h. inl (chain_apart (groups sh) 0 (length x) g' g fit hg h))
      (λ h. inr (chain_apart (groups sh) 0 (length x) g g' fit hg' (omega arith))) (le? (suc g') g))
      k v n uk un

-- changes of functions that agree at n agree there
pub upd_near : (f g : ℕ → ℕ) (k v n : ℕ) → f n ≡ g n → upd f k v n ≡ upd g k v n
unfolding upd
upd_near f g k v n e = rw e

-- the columns after a change, by cases
change_same : (c : Columns) (F : Field) (k v n : ℕ) → change c F k v F n ≡ upd (c F) k v n
change_same c F k v n = rw (eqb_same {m = group_of F} refl, eqb_same {m = word_of F} refl)

-- another word of the same kind of record stays
change_word : (c : Columns) (F G : Field) (k v n : ℕ) → group_of F ≡ group_of G → word_of F ≢ word_of G
    → change c F k v G n ≡ c G n
change_word c F G k v n e d = rw (eqb_same e, eqb_other d)

-- and a word of another kind
change_group : (c : Columns) (F G : Field) (k v n : ℕ) → group_of F ≢ group_of G → change c F k v G n ≡ c G n
change_group c F G k v n d = rw (eqb_other d)

-- a store to field F of record k shows as that change of the columns
pub shows_put : {sh : Shape} {x : List ℕ} {c : Columns} → Shows sh x c → (F : Field) (k v : ℕ) → 1 ≤ k → k ≤ cap_of sh F
    → Shows sh (put sh F x k v) (change c F k v)
shows_put {sh} {x} {c} s F k v lk uk = record {
  fit = subst (Chained 0 (groups sh))
      (sym (put_length sh x s.fit (group_of F) (word_of F) (field_in sh F).1 (field_in sh F).0 k v uk)) s.fit;
  at = λ G n h. split (group_of F) (group_of G)
      (λ e. split (word_of F) (word_of G)
      (λ e'. subst (λ H. n ≤ cap_of sh H → column sh H (put sh F x k v) n ≡ change c F k v H n) (field_same F G e e')
      (own n) h) (λ d. subst (λ g. cell sh g (word_of G) (put sh F x k v) n ≡ cell sh g (word_of G) x n) e
      (put_word sh x s.fit (group_of F) (word_of F) (field_in sh F).1 (field_in sh F).0 k v uk (word_of G)
      (subst (λ g. word_of G < (group_at sh g).width) (sym e) (field_in sh G).0) (λ z. d (sym z)) n)
      ∙ s.at G n h ∙ sym (change_word c F G k v n e d)))
      (λ d. put_apart sh x s.fit (group_of F) (word_of F) (field_in sh F).1 (field_in sh F).0 k v uk (group_of G)
      (word_of G) (field_in sh G).1 (field_in sh G).0 (λ z. d (sym z)) n h
      ∙ s.at G n h ∙ sym (change_group c F G k v n d));
}
  where
    -- the field itself
    own : (n : ℕ) → n ≤ cap_of sh F → column sh F (put sh F x k v) n ≡ change c F k v F n
    own n h = put_same sh x s.fit (group_of F) (word_of F) (field_in sh F).1 (field_in sh F).0 k v uk lk n
        ∙ upd_near (column sh F x) (c F) k v n (s.at F n h) ∙ sym (change_same c F k v n)

-- ---- two tables of one shape with the same columns are equal

-- kinds that agree one by one agree all
all_agree : (κs : List Kind) (x y : List ℕ) → ((i : ℕ) → Agree 0 (nth κs i) x y) → AllAgree 0 κs x y
all_agree [] x y h = tt
all_agree (κ ∷ κs) x y h = (h 0, all_agree κs x y (λ i. h (suc i)))

-- lists that show the same columns
pub shows_ext : {sh : Shape} {x y : List ℕ} {c d : Columns} → Shows sh x c → Shows sh y d
    → ((F : Field) (n : ℕ) → 1 ≤ n → n ≤ cap_of sh F → c F n ≡ d F n) → x ≡ y
shows_ext {sh} {x} {y} {c} {d} s t e =
    columns_ext 0 0 (groups sh) x y (chain_end (groups sh) 0 (length x) (length y) s.fit t.fit) s.fit
    (λ k h. absurd (omega arith))
    (all_agree (groups sh) x y group)
  where
    -- word j of the records of kind g
    by : (g j n : ℕ) → Named g j → 1 ≤ n → n ≤ (group_at sh g).count → cell sh g j x n ≡ cell sh g j y n
    by g j n r l = subst (λ i. n ≤ (group_at sh i).count → cell sh i j x n ≡ cell sh i j y n) r.group
        (λ u. subst (λ i. cell sh (group_of r.field) i x n ≡ cell sh (group_of r.field) i y n) r.word
        (s.at r.field n u ∙ e r.field n l u ∙ sym (t.at r.field n u)))

    group : (g : ℕ) → Agree 0 (group_at sh g) x y
    group g j n h l u = by g j n (field_named sh g j h) l u

-- ---- a store and the store that undoes it

-- an entry changed and changed back
pub upd_back : (f : ℕ → ℕ) (k a b : ℕ) → f k ≡ b → (n : ℕ) → upd (upd f k a) k b n ≡ f n
upd_back f k a b e n = split n k (λ x. rw x (upd_same (upd f k a) k b ∙ sym e)) (λ x. upd_off _ b x ∙ upd_off f a x)

-- on the columns
change_back : (c : Columns) (F G : Field) (k v w : ℕ) → c F k ≡ w → (n : ℕ) → change (change c F k v) F k w G n ≡ c G n
change_back c F G k v w e n = split (group_of F) (group_of G)
    (λ q. split (word_of F) (word_of G)
    (λ q'. subst (λ H. change (change c F k v) F k w H n ≡ c H n) (field_same F G q q')
    (rw (eqb_same {m = group_of F} refl, eqb_same {m = word_of F} refl) (upd_back (c F) k v w e n)))
    (λ d. rw (eqb_same q, eqb_other d)))
    (λ d. rw (eqb_other d))

-- the list is as it was
pub put_back : {sh : Shape} {x : List ℕ} {c : Columns} → Shows sh x c → (F : Field) (k v w : ℕ) → 1 ≤ k
    → k ≤ cap_of sh F → c F k ≡ w → put sh F (put sh F x k v) k w ≡ x
put_back {sh} {x} {c} s F k v w lk uk e = shows_ext (shows_put (shows_put s F k v lk uk) F k w lk uk) s
    (λ G n i j. change_back c F G k v w e n)
