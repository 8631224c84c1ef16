use Rattle.f2_block_laws.proofs.Listings.{blocks_counted, has_names, page_block, is_page_block}
use Rattle.f2_block_laws.proofs.directories.packed_directories_stand.Goals as goal

pub returns-clause-names : goal.returns-clause-names
returns-clause-names c = λ most_size tree places directory dentries good short are packed. has_names most_size tree good short directory dentries are places packed

pub returns-clause-blocks : goal.returns-clause-blocks
returns-clause-blocks c = λ most_size tree places row dentries good short kind are packed page block there.
    is_page_block places row page block (page_block most_size tree good short row.ino dentries are places packed page block there) kind

pub returns-clause-counted : goal.returns-clause-counted
returns-clause-counted c = blocks_counted
