-- Taking an operator is reading it and then admitting it: a pass over the operands of its code, then its condition.
use Rattle.std.specs.Prelude.{◌≡◌, ◌≢◌, Bool, ◌&&◌, not, ℕ, ◌≤◌, ◌<◌, eqb, leb, T, ℤ, pos, length, take, drop}
use Rattle.std.specs.Prelude.{replicate}
use Rattle.std.specs.Prelude.{Option, Some, None}
use Rattle.std.proofs.Math.Path.{refl, ap, subst}
use Rattle.std.proofs.Common.{sym, ◌∙◌, inl, inr, zero-add, arith, eqb→eq, take-append-drop}
use Rattle.std.proofs.Math.Logic.{⊎_elim}
use Rattle.std.proofs.Math.Bool.{true, false}
use mathlib.Core.List.{List, [], ◌∷◌, map}
use Rattle.std.proofs.Math.ListN.{get_or}
use borrow.Author.Tests.{eq-eqb, ne_eqb, leb-true}
use Rattle.laws.specs.Bools.{pick, allb, ask, split, le?, eqb_same, and_T, true_T, T_true}
use Rattle.script.specs.declared.ReadAnswer.{ReadAnswer}
use Rattle.codec.specs.declared.operands.Pattern.{Pattern}
use Rattle.numbers.specs.Number.{read_number}
use Rattle.codec.specs.Operands.{last_code, unused, rows, pattern, largests, in_ranges, unwires}
use Rattle.codec.specs.OperandBytes.{on_numbers, read_operands}
use Rattle.script.specs.Operator.{refused, read_behind}
use Rattle.script.specs.AnswerLaws.{operator_bad, operator_behind, operator_none}
use Rattle.codec.specs.Ranges.{each_row, eight}
use Rattle.layout.specs.declared.shape.Shape.{Shape}
use Rattle.layout.specs.Small.{Small}
use Rattle.euler.specs.Exec.{operator_by, limits, condition, use_refusals, admit_of}
use Rattle.runs.specs.Run.{admit_read, read_at}
use Rattle.runs_take.specs.Take.{Scan, scan_is, joined, scan, Told, told, settled, read_from, Answers}
use Rattle.runs_take.specs.Turns.{settled_holds, settled_fails, settled_low, settled_high}
use Rattle.runs_take.specs.Pass.{Late, Used, Unused, Agrees, uses_of, uses_late, uses_same, agree}

-- ---- the kinds of a code: as many as it has operands, unused ones behind them

abbrev some_kinds : List ℕ → Bool
some_kinds ks = allb (map (λ k. not (eqb k unused)) ks)

abbrev no_kinds : List ℕ → Bool
no_kinds ks = allb (map (λ k. eqb k unused) ks)

-- those of the operands, and those behind them
abbrev used : Pattern → List ℕ
used p = take p.count p.kinds

abbrev past : Pattern → List ℕ
past p = drop p.count p.kinds

abbrev split? : Pattern → Bool
split? p = leb p.count 8 && (some_kinds (used p) && no_kinds (past p))

all_split : allb (map split? rows) ≡ true
unfolding rows
all_split = refl

split_code : (code : ℕ) → split? (pattern code) ≡ true
split_code = each_row split? refl all_split

used_by : (ks : List ℕ) → T (some_kinds ks) → Used ks
used_by [] t = tt
used_by (k ∷ ks) t =
    let b = and_T (not (eqb k unused)) (some_kinds ks) t in
    ((λ e. subst (λ c. T (not c)) (eqb_same e) b.0), used_by ks b.1)

unused_by : (ks : List ℕ) → T (no_kinds ks) → Unused ks
unused_by [] t = tt
unused_by (k ∷ ks) t =
    let b = and_T (eqb k unused) (no_kinds ks) t in (eqb→eq k unused b.0, unused_by ks b.1)

module _ (code : ℕ) where
  parts : T (leb (pattern code).count 8) × T (some_kinds (used (pattern code)) && no_kinds (past (pattern code)))
  parts = and_T (leb (pattern code).count 8) _ (true_T (split_code code))

  pub few : (p : Pattern) → p ≡ pattern code → p.count ≤ 8
  few p e = rw e (leb-true (pattern code).count 8 (T_true parts.0))

  both : Used (used (pattern code)) × Unused (past (pattern code))
  both =
      let b = and_T (some_kinds (used (pattern code))) _ parts.1 in
      (used_by (used (pattern code)) b.0, unused_by (past (pattern code)) b.1)

-- ---- what the pass says of the operator read

module _ (sh : Shape) (z : Small sh) (x s : List ℕ) (at code : ℕ) where
  abbrev kinds : List ℕ
  kinds = (pattern code).kinds

  -- all numbers in range
  abbrev fit : List ℕ → Bool
  fit ns = in_ranges (largests (limits sh)) kinds ns

  -- the numbers that are read, as an operator
  abbrev got : List ℕ → ℕ → ReadAnswer
  got ns next = record { refusal = 0; next = next; op = operator_by code (unwires kinds ns) }

  abbrev read_is : Option (List ℕ × ℕ) → ReadAnswer
  read_is m = on_numbers m (λ ns next. pick (fit ns) (got ns next) (refused 5 at)) (refused 3 at)

  in_range_lem : (ns : List ℕ) (next : ℕ) (b : Bool) → fit ns ≡ b
      → read_is (Some (ns, next)) ≡ pick b (got ns next) (refused 5 at)
  in_range_lem ns next b t = ap (λ c. pick c (got ns next) (refused 5 at)) t

  -- 3 and 5 are refusals of reading
  low : (a : Scan) (m : Option (List ℕ × ℕ)) → Agrees sh x s a 0 [] kinds m → a.refusal ≢ 0 → a.refusal ≤ 5
      → read_is m ≡ refused a.refusal at
  unfolding joined
  low a (Some (ns, next)) e n l =
      let f = ap (λ (b : Scan). b.refusal) e in
      ⊎_elim
      (λ t.
      let g : a.refusal ≡ uses_of sh x kinds ns = rw t at f in
      absurd (⊎_elim (λ u. n (g ∙ u)) (λ u. omega arith) (uses_late sh x kinds ns)))
      (λ t. let g : a.refusal ≡ 5 = rw t at f in in_range_lem ns next false t ∙ ap (λ v. refused v at) (sym g))
      (ask (fit ns))
  low a None e n l = ap (λ v. refused v at) (sym e)

  -- else the operator is read, and the refusal is that of its items
  abbrev IsRead : Scan → ReadAnswer → Type 0
  IsRead a r =
      (r ≡ record { refusal = 0; next = a.next; op = operator_by code a.args })
      × (use_refusals sh x (operator_by code a.args) kinds 0 ≡ a.refusal)

  high : (a : Scan) (m : Option (List ℕ × ℕ)) → Agrees sh x s a 0 [] kinds m → Late a.refusal → IsRead a (read_is m)
  unfolding joined
  high a (Some (ns, next)) e l =
      let f = ap (λ (b : Scan). b.refusal) e in
      ⊎_elim
      (λ t.
      let g : a ≡ scan_is (uses_of sh x kinds ns) next (unwires kinds ns) =
      e ∙ ap (λ b. scan_is (joined 0 b (uses_of sh x kinds ns)) next (unwires kinds ns)) t in
      let u = uses_same sh z x (operator_by code (unwires kinds ns)) kinds ns 0 t in
      subst (λ (b : Scan). IsRead b (read_is (Some (ns, next)))) (sym g)
      (in_range_lem ns next true t, u (λ j. ap (λ i. get_or (unwires kinds ns) i (pos 0)) (zero-add j))))
      (λ t. let g : a.refusal ≡ 5 = rw t at f in absurd (⊎_elim (λ u. omega arith) (λ u. omega arith) l))
      (ask (fit ns))
  high a None e l = absurd (⊎_elim (λ u. omega arith) (λ u. omega arith) l)

  -- ---- the operator settled answers what was read

  answer : (r : ReadAnswer) (t : Told) (args : List ℤ) (v next : ℕ) → t ≡ told v next → admit_read sh x r ≡ v
      → r.next ≡ next → (v ≡ 0 → operator_by code args ≡ r.op) → Answers sh x r code t args
  answer r t args v next e f g h = rw e (sym f, (sym g, h))

  module _ (a : Scan) (r : ReadAnswer) where
    refused_answers : r ≡ refused a.refusal at → a.refusal ≢ 0 → a.refusal ≤ 5
        → Answers sh x r code (settled sh x at code a) a.args
    unfolding admit_read
    refused_answers e n l =
        answer r _ a.args a.refusal at (sym (settled_low sh x at code a n l))
        (rw (e, ne_eqb a.refusal 0 n)) (rw e) (λ k. absurd (n k))

    module _ (e : IsRead a r) where
      used_answers : a.refusal ≢ 0 → 5 < a.refusal → Answers sh x r code (settled sh x at code a) a.args
      unfolding admit_read admit_of
      used_answers n l =
          answer r _ a.args a.refusal a.next (sym (settled_high sh x at code a n l))
          (rw (e.0, e.1, ne_eqb a.refusal 0 n)) (rw e.0) (λ k. absurd (n k))

      fits_answers : a.refusal ≡ 0 → condition sh x (operator_by code a.args) ≡ true
          → Answers sh x r code (settled sh x at code a) a.args
      unfolding admit_read admit_of
      fits_answers n c =
          answer r _ a.args 0 a.next (sym (settled_holds sh x at code a n _ refl c))
          (rw (e.0, e.1, eq-eqb a.refusal 0 n, c)) (rw e.0) (λ k. rw e.0)

      fails_answers : a.refusal ≡ 0 → condition sh x (operator_by code a.args) ≡ false
          → Answers sh x r code (settled sh x at code a) a.args
      unfolding admit_read admit_of
      fails_answers n c =
          answer r _ a.args 8 a.next (sym (settled_fails sh x at code a n _ refl c))
          (rw (e.0, e.1, eq-eqb a.refusal 0 n, c)) (rw e.0) (λ k. absurd (omega arith))

  answers : (a : Scan) (m : Option (List ℕ × ℕ)) → Agrees sh x s a 0 [] kinds m
      → Answers sh x (read_is m) code (settled sh x at code a) a.args
  answers a m g =
      split a.refusal 0
      (λ n.
      let h = high a m g (inl n) in
      ⊎_elim (λ c. fits_answers a (read_is m) h n c) (λ c. fails_answers a (read_is m) h n c)
      (ask (condition sh x (operator_by code a.args))))
      (λ n.
      ⊎_elim (λ l. refused_answers a (read_is m) (low a m g n l) n l)
      (λ l. used_answers a (read_is m) (high a m g (inr l)) n l)
      (le? a.refusal 5))

  -- ---- the ways out of the code

  -- the pass over the operands of the code
  abbrev passed : ℕ → List ℤ → Scan
  passed behind args = scan sh x s (used (pattern code)) 0 behind 0 args

  passed_agrees : (behind : ℕ)
      → Agrees sh x s (passed behind (replicate 8 (pos 0))) 0 [] kinds (read_operands kinds s behind)
  passed_agrees behind =
      subst (λ n. Agrees sh x s (passed behind (replicate n (pos 0))) 0 [] kinds (read_operands kinds s behind))
      (eight code)
      (subst (λ ks. Agrees sh x s (passed behind (replicate (length ks) (pos 0))) 0 [] ks (read_operands ks s behind))
      (take-append-drop (pattern code).count kinds)
      (agree sh x s (used (pattern code)) (past (pattern code)) (both code).0 (both code).1 0 behind 0 [] refl))

  module _ (p : Pattern) (f : p ≡ pattern code) (behind : ℕ) where
    pub behind_none : p.count ≡ 0 → (t : Told) → t ≡ told 4 at → (args : List ℤ)
        → Answers sh x (read_from sh s at code behind) code t args
    unfolding read_behind admit_read
    behind_none n t e args =
        let r : read_from sh s at code behind ≡ refused 4 at = rw (← f, eq-eqb p.count 0 n) in
        rw (e, r) (refl, (refl, λ k. absurd (omega arith)))

    pub behind_some : p.count ≢ 0 → (a : Scan)
        → a ≡ scan sh x s (take p.count p.kinds) 0 behind 0 (replicate 8 (pos 0))
        → (t : Told) → t ≡ settled sh x at code a → Answers sh x (read_from sh s at code behind) code t a.args
    unfolding read_behind
    behind_some n a g t h =
        let v : a ≡ passed behind (replicate 8 (pos 0)) = rw f at g in
        let w : Agrees sh x s a 0 [] kinds (read_operands kinds s behind) =
        subst (λ b. Agrees sh x s b 0 [] kinds (read_operands kinds s behind)) (sym v) (passed_agrees behind) in
        let r : read_from sh s at code behind ≡ read_is (read_operands kinds s behind) =
        rw (ne_eqb (pattern code).count 0 (λ e. n (rw f e))) in
        rw (h, r) (answers a (read_operands kinds s behind) w)

-- the ways out of taking
module _ (sh : Shape) (x s : List ℕ) (at : ℕ) where
  pub take_bad : read_number s at ≡ None → (t : Told) → t ≡ told 3 at → (args : List ℤ)
      → Answers sh x (read_at sh s at) 0 t args
  unfolding admit_read
  take_bad e t f args =
      let r = operator_bad (limits sh) s at _ e refl in rw (f, ← r) (refl, (refl, λ k. absurd (omega arith)))

  pub take_none : (code behind : ℕ) → read_number s at ≡ Some (code, behind) → last_code < code
      → (t : Told) → t ≡ told 4 at → (args : List ℤ) → Answers sh x (read_at sh s at) 0 t args
  unfolding admit_read
  take_none code behind e h t f args =
      let r = operator_none (limits sh) s at _ code behind e h refl in
      rw (f, ← r) (refl, (refl, λ k. absurd (omega arith)))

  pub take_some : (code behind : ℕ) → read_number s at ≡ Some (code, behind) → (t : Told) (args : List ℤ)
      → Answers sh x (read_from sh s at code behind) code t args → Answers sh x (read_at sh s at) code t args
  take_some code behind e t args g =
      subst (λ r. Answers sh x r code t args) (operator_behind (limits sh) s at _ code behind e refl) g
