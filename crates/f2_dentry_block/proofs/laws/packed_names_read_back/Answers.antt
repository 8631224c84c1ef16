use Rattle.f2_dentry_block.proofs.ReadBack.{packed-reads_back}
use Rattle.f2_dentry_block.proofs.laws.packed_names_read_back.Goals as goal

pub returns : goal.returns
returns c dentries fitting =
    let back = packed-reads_back dentries fitting in
    (back.names, back.sound)
