-- Slips that the program's definition does not have: what it says at an example, and what it would say with the slip.
use Rattle.std.specs.Prelude.{◌≡◌, refl, ◌≢◌, false, List, [], ◌∷◌, ℕ, eqb, get_or, length, replicate}
use Rattle.std.proofs.Common.{sym, ap, ◌∙◌}
use Rattle.std.proofs.lemmas.Bool.{false≢true}
use Rattle.laws.specs.Bools.{eqb_same}
use Rattle.table.specs.Clear.{empty_links}
use Rattle.table.specs.Count.{count_of}
use Rattle.text.specs.Decimal.{digits, decimal}
use Rattle.runs.specs.Run.{Ran, state, ran, run_of}
use Rattle.report.specs.Text.{field, answer_line, text_of, too_long}
use Rattle.zoghvari.specs.Program.{empty, report_of, program_of}

-- lists with two numbers at place i are not equal
two_lists : (i : ℕ) (x y : List ℕ) → eqb (get_or x i 0) (get_or y i 0) ≡ false → x ≢ y
two_lists i x y f e = false≢true (sym f ∙ eqb_same (ap (λ l. get_or l i 0) e))

-- an input of 4,096 bytes is not too long
pub longest_taken : program_of (replicate 4096 0) ≢ too_long
unfolding program_of report_of text_of answer_line field
longest_taken = two_lists 0 (program_of (replicate 4096 0)) too_long refl

-- and one of 4,097 bytes is not run
pub longer_not_run : program_of (replicate 4097 0) ≢ report_of (run_of empty (replicate 4097 0))
unfolding program_of report_of text_of answer_line field
longer_not_run = two_lists 0 (program_of (replicate 4097 0)) (report_of (run_of empty (replicate 4097 0))) refl

-- there is room for 64 solids, not 63
pub solids_64 : empty.links ≢ empty_links 63 64 64 64 64
unfolding empty
solids_64 = two_lists 0 empty.links (empty_links 63 64 64 64 64) refl

-- the log has 40,960 bytes, not one less, and starts at its end
pub log_40960 : (length empty.log ∷ empty.start ∷ []) ≢ (40959 ∷ 40959 ∷ [])
unfolding empty
log_40960 = two_lists 0 (length empty.log ∷ empty.start ∷ []) (40959 ∷ 40959 ∷ []) refl

-- a run that was refused with 7 after one operator of eight bytes
abbrev refused : Ran
refused = ran 7 1 8 (state [] [] [] 0)

-- done and used are not exchanged
pub done_first : report_of refused ≢ text_of 7 8 1 (count_of [] [])
unfolding report_of text_of answer_line field decimal digits
done_first = two_lists 15 (report_of refused) (text_of 7 8 1 (count_of [] [])) refl

-- the refusal is printed, not 0
pub refusal_shown : report_of refused ≢ text_of 0 1 8 (count_of [] [])
unfolding report_of text_of answer_line field decimal digits
refusal_shown = two_lists 8 (report_of refused) (text_of 0 1 8 (count_of [] [])) refl
