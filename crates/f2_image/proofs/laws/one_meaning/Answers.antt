use Rattle.f2_image.proofs.OneBase.{one_base}
use Rattle.f2_image.proofs.OneMarks.{one_list_of_marks}
use Rattle.f2_image.proofs.laws.one_meaning.Goals as goal

pub returns-clause-base : goal.returns-clause-base
returns-clause-base c = one_base

pub returns-clause-marks : goal.returns-clause-marks
returns-clause-marks c = one_list_of_marks
