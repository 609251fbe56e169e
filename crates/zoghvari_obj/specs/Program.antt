-- The program that prints a part, as a function from the bytes it reads to the bytes it prints (document 02, job 2). A
-- part is the least solid in use of the table that a script builds. Where there is no text of it, the program prints
-- one line that OBJ takes for a comment.
use Rattle.std.specs.Prelude.{ℕ, List, ◌∷◌, ◌++◌, eqb, leb, ℤ, length, replicate}
use Rattle.laws.specs.Bools.{pick}
use Rattle.laws.specs.Search.{least}
use Rattle.layout.specs.declared.shape.Shape.{Shape}
use Rattle.layout.specs.Layout.{shape_of, solid_used}
use Rattle.layout.specs.Items.{some}
use Rattle.table.specs.Clear.{empty_links, empty_points}
use Rattle.runs.specs.Run.{State, state, Ran, run_of}
use Rattle.text.specs.Put.{newline}
use Rattle.report.specs.Text.{field, refusal_label, too_long}
use Rattle.wavefront.specs.Obj.{obj_text, solid_refusal}

-- an empty table of capacities 1,024 with an empty log of 655,360 bytes
unfoldable pub empty : State
empty = state (empty_links 1024 1024 1024 1024 1024) (empty_points 1024) (replicate 655360 0) 655360

-- a comment: "# " in front of its words
abbrev pub comment : List ℕ → List ℕ
comment words = 35 ∷ 32 ∷ words

-- "# refusal " and the number
unfoldable pub refusal_line : ℕ → List ℕ
refusal_line n = field (comment refusal_label) n ++ newline

-- the least solid in use, or 0, which is no solid
abbrev pub least_solid : Shape → List ℕ → ℕ
least_solid sh x = least sh.solids (λ s. some (solid_used sh x s))

-- a solid as text, or what it is refused with: 5 where it is none, 12 where OBJ cannot show it
unfoldable pub solid_text : Shape → List ℕ → List ℤ → ℕ → List ℕ
solid_text sh x p s = pick (eqb (solid_refusal sh x s) 0) (obj_text sh x p s) (refusal_line (solid_refusal sh x s))

-- what is printed of a table
abbrev pub part_text : List ℕ → List ℤ → List ℕ
part_text x p = solid_text (shape_of x) x p (least_solid (shape_of x) x)

-- what is printed of a run: its refusal, else the table that it left
unfoldable pub run_text : Ran → List ℕ
run_text r = pick (eqb r.answer.refusal 0) (part_text r.links r.points) (refusal_line r.answer.refusal)

-- an input of at most 65,536 bytes is run as a script
unfoldable pub program_of : List ℕ → List ℕ
program_of s = pick (leb (length s) 65536) (run_text (run_of empty s)) (comment too_long)
