use Rattle.f2_nat_journal.proofs.EntryReads.{journal_of-summary_block}
use Rattle.f2_nat_journal.proofs.written_journal_reads_back.Goals as goal

pub returns : goal.returns
returns c = journal_of-summary_block
