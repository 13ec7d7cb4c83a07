use Rattle.std.proofs.Common.{codes, arith, ltb-false, ltb-true}
use Rattle.std.proofs.lemmas.Slice.Eq.{text_from_reads}
use Rattle.reading.proofs.operator_name.operator.Goals as goal

pub returns-in-or : goal.returns-in-or
returns-in-or c = text_from_reads _ (codes "or") (omega (arith, ltb-true, ltb-false)) (omega arith)

pub returns-in-and : goal.returns-in-and
returns-in-and c = text_from_reads _ (codes "and") (omega (arith, ltb-true, ltb-false)) (omega arith)

pub returns-in-add : goal.returns-in-add
returns-in-add c = text_from_reads _ (codes "add") (omega (arith, ltb-true, ltb-false)) (omega arith)

pub returns-in-max : goal.returns-in-max
returns-in-max c = text_from_reads _ (codes "max") (omega (arith, ltb-true, ltb-false)) (omega arith)
