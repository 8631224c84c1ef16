use Rattle.f2_image_laws.proofs.SoundMarks.{sound_marks_fit, sound_runs_stay_fit}
use Rattle.f2_image_laws.proofs.fitting.sound_marks_fit.Goals as goal

pub returns-clause-marks : goal.returns-clause-marks
returns-clause-marks c = sound_marks_fit

pub returns-clause-runs : goal.returns-clause-runs
returns-clause-runs c = sound_runs_stay_fit
