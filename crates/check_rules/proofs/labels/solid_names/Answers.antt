use native.Mathlib.Omega.{arith}
use Rattle.check_rules.specs.LabelsLaws.{solid_free, solid_named}
use Rattle.check_rules.proofs.labels.solid_names.Goals as goal

pub returns-then-solid_used-eq0 : goal.returns-then-solid_used-eq0
returns-then-solid_used-eq0 c = solid_free _ _ _ _ (omega arith)

pub returns : goal.returns
returns c = solid_named _ _ _ _ _ (omega arith) (grind arith)
