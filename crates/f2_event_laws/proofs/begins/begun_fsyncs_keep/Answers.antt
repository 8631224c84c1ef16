use Rattle.f2_event_laws.proofs.Begun.{begun_fsyncs}
use Rattle.f2_event_laws.proofs.begins.begun_fsyncs_keep.Goals as goal

pub returns : goal.returns
returns c = begun_fsyncs
