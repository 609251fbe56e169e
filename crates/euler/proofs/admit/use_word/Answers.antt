use mathlib.Core.Path.{refl}
use mathlib.Core.Logic.{inl, inr}
use native.Mathlib.Omega.{arith}
use Rattle.euler.specs.AdmitLaws.{word_at, word_two, word_solid, word_none}
use Rattle.euler.proofs.admit.use_word.Goals as goal

pub returns-in-8 : goal.returns-in-8
returns-in-8 c = word_at _ _ _ _ 8 _ _ c.in-8.is refl c.start_of.ensures.0

pub returns-in-11 : goal.returns-in-11
returns-in-11 c = word_at _ _ _ _ 11 _ _ c.in-11.is refl c.vertex_used.ensures.0

pub returns-in-1 : goal.returns-in-1
returns-in-1 c = word_solid _ _ _ _ _ (omega arith) (omega arith) c.solid_used.ensures.0

pub returns-in-4 : goal.returns-in-4
returns-in-4 c = word_two _ _ _ _ 4 _ _ (omega arith) (omega arith) refl refl c.face_solid.ensures.0

pub returns-in-6 : goal.returns-in-6
returns-in-6 c = word_two _ _ _ _ 6 _ _ (omega arith) (omega arith) refl refl c.loop_face.ensures.0

pub returns-in-9 : goal.returns-in-9
returns-in-9 c = word_two _ _ _ _ 9 _ _ (omega arith) (omega arith) refl refl c.start_of-in-9.ensures.0

pub returns-in_default : goal.returns-in_default
returns-in_default c = word_none _ _ _ _ (inl (omega arith))

pub returns-in_default-2 : goal.returns-in_default-2
returns-in_default-2 c = word_none _ _ _ _ (inr (omega arith))
