-- The numbers that documents 01 and 02 give to rules and refusals, 0 for none.
use Rattle.std.specs.Prelude.{ℕ, Bool, true, false, Result, Ok, Err}
use Rattle.refusals.specs.declared.Rule.{Rule}
use Rattle.refusals.specs.declared.Rule.TheVariants.{Ranges, Names, Either, Joins, Vertices, Shells}
use Rattle.refusals.specs.declared.Refusal.{Refusal}
use Rattle.refusals.specs.declared.Refusal.TheVariants.{Memory, Unsound, BadNumber, BadCode, OutOfRange, ItemFree}
use Rattle.refusals.specs.declared.Refusal.TheVariants.{ItemUsed, ConditionFails, LogFull, NoNumberLeft}
use Rattle.refusals.specs.declared.Refusal.TheVariants.{LogEnded, NotPlain, TextTooLong, LoneLoop}

-- a rule's number
abbrev pub rule_number : Rule → ℕ
rule_number Ranges = 1
rule_number Names = 2
rule_number Either = 3
rule_number Joins = 4
rule_number Vertices = 5
rule_number Shells = 6

-- a refusal's number
abbrev pub number_of : Refusal → ℕ
number_of Memory = 1
number_of (Unsound rule) = 2
number_of BadNumber = 3
number_of BadCode = 4
number_of OutOfRange = 5
number_of ItemFree = 6
number_of ItemUsed = 7
number_of ConditionFails = 8
number_of LogFull = 9
number_of NoNumberLeft = 10
number_of LogEnded = 11
number_of NotPlain = 12
number_of TextTooLong = 13
number_of LoneLoop = 14

-- the number of the broken rule that comes with 2, else 0
abbrev pub rule_of : Refusal → ℕ
rule_of (Unsound rule) = rule_number rule
rule_of Memory = 0
rule_of BadNumber = 0
rule_of BadCode = 0
rule_of OutOfRange = 0
rule_of ItemFree = 0
rule_of ItemUsed = 0
rule_of ConditionFails = 0
rule_of LogFull = 0
rule_of NoNumberLeft = 0
rule_of LogEnded = 0
rule_of NotPlain = 0
rule_of TextTooLong = 0
rule_of LoneLoop = 0

-- what a result refuses with, 0 where it is a value
abbrev pub refusal_in : {A : Type 0} → Result A Refusal → ℕ
refusal_in (Ok x) = 0
refusal_in (Err e) = number_of e

-- the broken rule, 0 where there is none
abbrev pub rule_in : {A : Type 0} → Result A Refusal → ℕ
rule_in (Ok x) = 0
rule_in (Err e) = rule_of e

-- the number of the broken rule, 0 where all hold
abbrev pub broken_in : {A : Type 0} → Result A Rule → ℕ
broken_in (Ok x) = 0
broken_in (Err r) = rule_number r

-- a test's answer
abbrev pub unless : {E : Type 0} → Bool → E → Result (Unit {0}) E
unless true e = Ok tt
unless false e = Err e
