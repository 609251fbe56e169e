-- The kernels that document 01 names as those that must not get through, each by what it does wrong and by nothing
-- else, and two of their kind with the redo log of document 02: none of them meets the contract of run, of undo or of
-- redo, since at a checked example it leaves otherwise than the definition.
use Rattle.std.specs.Prelude.{◌≡◌, refl, ◌≢◌, List, [], ℕ, ℤ, get_or, length, replicate}
use Rattle.std.proofs.Common.{sym, ap, ◌∙◌, arith}
use Rattle.laws.specs.Search.{all_to, least_from}
use Rattle.laws.specs.Sums.{sum_to}
use Rattle.laws.specs.Walks.{meets}
use Rattle.laws.specs.Columns.{sweep}
use Rattle.laws.specs.Closure.{across, pass, rounds, linkedb}
use Rattle.numbers.specs.Number.{third, second, first, read_number, groups}
use Rattle.codec.specs.Operands.{pattern, rows, in_ranges, in_range, zig, zag, wire, unwire}
use Rattle.codec.specs.OperandBytes.{read_operand, read_operands, operand_bytes, operands_bytes}
use Rattle.script.specs.Operator.{read_behind, read_operator, operator_bytes, operator_refusal, put_bytes}
use Rattle.layout.specs.Layout.{shape_of}
use Rattle.layout.specs.Mate.{mate}
use Rattle.check_shells.specs.Shells.{within, joins, linked_by}
use Rattle.check_items.specs.Rules.{solid_range, face_range, loop_range, half_range, vertex_range, rule1, solid_names}
use Rattle.check_items.specs.Rules.{face_names, loop_names, half_names, rule2, loop_either, rule3, half_links}
use Rattle.check_items.specs.Rules.{first_names}
use Rattle.check_items.specs.Rules.{half_in_loop, rule4, vertex_either, half_at_vertex, rule5, half_sides, face_linked}
use Rattle.check_items.specs.Rules.{rule6}
use Rattle.check_items.specs.Rules.{broken_rule}
use Rattle.table.specs.Sizes.{sizes_fit}
use Rattle.table.specs.Check.{check_of}
use Rattle.euler.specs.Surgery.{corner, edge_in, edge_out, relabel, seek, renew}
use Rattle.euler.specs.EdgeOperators.{mev_links, kev_test, kev_links, mef_test, mef_links, kef_test, kef_links}
use Rattle.euler.specs.FaceOperators.{mvsf_links, kvsf_test, kvsf_links, kfmrh_test, kfmrh_links, linked_after}
use Rattle.euler.specs.FaceOperators.{mfkrh_test}
use Rattle.euler.specs.FaceOperators.{mfkrh_links}
use Rattle.euler.specs.Exec.{admit_of, use_refusals, use_refusal, use_word, condition, links_after, points_after}
use Rattle.euler.specs.Exec.{marks_after}
use Rattle.euler.specs.Valence.{less_starts, more_starts}
use Rattle.euler.specs.Exec.{killed_vertex, inverse}
use Rattle.runs.specs.Run.{Leaves, step_of, carry_of, admit_read, inverse_bytes, carry_refusal, run_refusal, stepped}
use Rattle.runs.specs.Run.{run_from, entry, run_of}
use Rattle.runs.specs.Move.{part_of, move_of}
use Rattle.sessions.specs.declared.Session.{Session}
use Rattle.sessions.specs.declared.Left.{Left}
use Rattle.runs.specs.declared.answers.RunAnswer.{RunAnswer}
use Rattle.sessions.specs.declared.UndoAnswer.{UndoAnswer}
use Rattle.sessions.specs.declared.RedoAnswer.{RedoAnswer}
use Rattle.sessions.specs.Session.{session_run, session_undo, session_redo}
use Rattle.sessions.specs.Editing.{Editing, log_state, run_in, undo_in, redo_in}
use Rattle.evidence_cases.specs.Case.{redo_at}
use Rattle.evidence_cases.specs.RowsRuns.{script_b, scriptBC, narrow, logless}
use Rattle.evidence_cases.specs.Tables.{links_empty, links_b, links_c, log_b, empty, table_b, undone_with}

-- ---- kernels and their contracts

-- a kernel's run: what it leaves of table, log and session, by the redo log's length and a script
abbrev pub Runner : Type 0
Runner = List ℕ → List ℤ → List ℕ → ℕ → Session → List ℕ → Leaves (Left RunAnswer)

-- its undo or redo: what it leaves of table, redo log or log, and session, by both logs and a number
abbrev pub Mover : Type 0 → Type 0
Mover A = List ℕ → List ℤ → List ℕ → List ℕ → Session → ℕ → Leaves A

-- a kernel's run on what an editor lends
abbrev pub run_by : Runner → Editing → List ℕ → Leaves (Left RunAnswer)
run_by k t s = k t.links t.points t.log (length t.redo) t.session s

-- and its undo or redo
abbrev pub move_by : {A : Type 0} → Mover A → Editing → ℕ → Leaves A
move_by k t n = k t.links t.points t.log t.redo t.session n

-- the contract of run
abbrev pub Runs : Runner → Type 0
Runs k = (x : List ℕ) (p : List ℤ) (log : List ℕ) (redo : ℕ) (s : Session) (script : List ℕ)
    → k x p log redo s script ≡ session_run x p log redo s script

-- of undo or redo: the mover to be met
abbrev pub Moves : {A : Type 0} → Mover A → Mover A → Type 0
Moves d k = (x : List ℕ) (p : List ℤ) (log redo : List ℕ) (s : Session) (n : ℕ)
    → k x p log redo s n ≡ d x p log redo s n

-- which is then met on what an editor lends
moved : {A : Type 0} (d k : Mover A) → Moves d k → (t : Editing) (n : ℕ) → move_by k t n ≡ move_by d t n
moved d k m t n = m t.links t.points t.log t.redo t.session n

-- ---- what the definitions leave, by computation

-- b's table with a redo log of eight bytes, which undo of b just fills
abbrev pub snug : Editing
snug = redo_at table_b (replicate 8 221) 8

-- b undone: b to redo
abbrev pub undone_b : Editing
undone_b = redo_at (undone_with log_b) script_b 0

-- nothing run; b; b and c as one script; the first operator of b and c; b where its inverse just fits, and where it
-- does not; b undone, the redo log just long enough; b redone
made : ((run_in empty []).links ≡ links_empty) × ((run_in empty script_b).links ≡ links_b)
    × ((run_in empty script_b).answer.answer.refusal ≡ 0) × ((run_in empty script_b).answer.answer.done ≡ 1)
    × ((run_in empty scriptBC).links ≡ links_c)
    × ((step_of (shape_of links_empty) (log_state empty) scriptBC 0).state.links ≡ links_b)
    × ((run_in narrow script_b).answer.answer.refusal ≡ 0) × ((run_in logless script_b).answer.answer.done ≡ 0)
    × ((undo_in snug 1).answer.answer.refusal ≡ 0) × ((redo_in undone_b 1).links ≡ links_b)
unfolding session_run session_undo session_redo run_of move_of part_of entry check_of sizes_fit broken_rule rule1 rule2
    rule3
    rule4 rule5 rule6 solid_range face_range loop_range half_range vertex_range solid_names face_names loop_names
    half_names
    loop_either half_links first_names half_in_loop vertex_either half_at_vertex half_sides face_linked all_to
    least_from sum_to
    meets linkedb rounds pass across mate within joins linked_by third second first read_number groups pattern rows
    in_ranges in_range zig zag wire unwire read_operand read_operands read_behind read_operator operand_bytes
    operands_bytes
    operator_bytes operator_refusal put_bytes admit_read inverse_bytes carry_refusal carry_of step_of run_refusal
    stepped run_from
    admit_of use_refusals use_refusal use_word condition links_after marks_after less_starts more_starts points_after
    killed_vertex inverse corner edge_in edge_out relabel seek renew sweep mvsf_links kvsf_test kvsf_links mev_links
    kev_test
    kev_links mef_test mef_links kef_test kef_links kfmrh_test kfmrh_links linked_after mfkrh_test mfkrh_links
made = (refl, refl, refl, refl, refl, refl, refl, refl, refl, refl)

-- two lists that differ at place i, 0 in one and 1 in the other, are not the same
differ : (i : ℕ) {x y : List ℕ} → x ≡ y → get_or x i 0 ≡ 0 → get_or y i 0 ≡ 1 → ⊥
differ i e a b = let z : ◌≡◌ {A = ℕ} 0 1 = sym a ∙ ap (λ l. get_or l i 0) e ∙ b in omega (arith, z)

-- ---- run

-- place 5 is the solid's word, place 16 the start of the first half-edge
module _ (k : Runner) (m : Runs k) where
  -- what the kernel leaves of what an editor lends
  ran_by : (t : Editing) (s : List ℕ) → run_by k t s ≡ run_in t s
  ran_by t s = m t.links t.points t.log (length t.redo) t.session s

  -- operators reported done over an untouched table, whatever is answered
  pub not_untouched : ((t : Editing) (s : List ℕ) → (run_by k t s).links ≡ t.links) → ⊥
  not_untouched h = differ 5 (sym (h empty script_b) ∙ ap (λ r. r.links) (ran_by empty script_b) ∙ made.1) refl refl

  -- the first operator performed, the others merely counted
  pub not_first_alone : ((t : Editing) (s : List ℕ)
      → (run_by k t s).links ≡ (step_of (shape_of t.links) (log_state t) s 0).state.links) → ⊥
  not_first_alone h = differ 16
      (sym (h empty scriptBC ∙ made.5) ∙ ap (λ r. r.links) (ran_by empty scriptBC) ∙ made.4) refl refl

  -- an invented done count: one that the script alone tells
  pub not_invented : (n : List ℕ → ℕ) → ((t : Editing) (s : List ℕ) → (run_by k t s).answer.answer.done ≡ n s) → ⊥
  not_invented n h =
      let done : Leaves (Left RunAnswer) → ℕ = λ r. r.answer.answer.done in
      let a : n script_b ≡ 1 = sym (h empty script_b) ∙ ap done (ran_by empty script_b) ∙ made.3 in
      let b : n script_b ≡ 0 = sym (h logless script_b) ∙ ap done (ran_by logless script_b) ∙ made.7 in
      omega (arith, a, b)

  -- "log full" with space left: the inverse just fits
  pub not_full_early : (run_by k narrow script_b).answer.answer.refusal ≡ 9 → ⊥
  not_full_early h =
      let z : ◌≡◌ {A = ℕ} 9 0 = sym h ∙ ap (λ r. r.answer.answer.refusal) (ran_by narrow script_b) ∙ made.6 in
      omega (arith, z)

  -- each script refused
  pub not_refusing : ((t : Editing) (s : List ℕ) → (run_by k t s).answer.answer.refusal ≢ 0) → ⊥
  not_refusing h = h empty script_b (ap (λ r. r.answer.answer.refusal) (ran_by empty script_b) ∙ made.2)

  -- one fixed table
  pub not_fixed : (y : List ℕ) → ((t : Editing) (s : List ℕ) → (run_by k t s).links ≡ y) → ⊥
  not_fixed y h = differ 5
      (sym (ap (λ r. r.links) (ran_by empty []) ∙ made.0) ∙ h empty [] ∙ sym (h empty script_b)
      ∙ ap (λ r. r.links) (ran_by empty script_b) ∙ made.1) refl refl

-- ---- undo and redo

module _ (k : Mover (Left UndoAnswer)) (m : Moves session_undo k) where
  -- undo of b, where the redo log just holds it, is not refused
  undone_0 : (move_by k snug 1).answer.answer.refusal ≡ 0
  undone_0 = ap (λ r. r.answer.answer.refusal) (moved session_undo k m snug 1) ∙ made.8

  -- "log ended" before it has: the live part has one operator more
  pub not_ended_early : (move_by k snug 1).answer.answer.refusal ≡ 11 → ⊥
  not_ended_early h = let z : ◌≡◌ {A = ℕ} 11 0 = sym h ∙ undone_0 in omega (arith, z)

  -- "redo log full" with exactly enough room
  pub not_undo_full_early : (move_by k snug 1).answer.answer.refusal ≡ 9 → ⊥
  not_undo_full_early h = let z : ◌≡◌ {A = ℕ} 9 0 = sym h ∙ undone_0 in omega (arith, z)

-- redo reporting operators done over an untouched table, whatever is answered
pub not_redo_untouched : (k : Mover (Left RedoAnswer)) → Moves session_redo k
    → ((t : Editing) (n : ℕ) → (move_by k t n).links ≡ t.links) → ⊥
not_redo_untouched k m h = differ 5
    (sym (h undone_b 1) ∙ ap (λ r. r.links) (moved session_redo k m undone_b 1) ∙ made.9) refl refl
