use Rattle.f2_block_laws.proofs.Members.{from_contains, contains_in}
use Rattle.f2_block_laws.proofs.Ways.{inode_there, direct_there, named_above}
use Rattle.f2_block_laws.proofs.Needed.{needed}
use Rattle.f2_block_laws.proofs.Counts.{nodes_counted, tree_counted}
use Rattle.f2_block_laws.proofs.whole.all_nodes_are_named.Goals as goal

pub returns-clause-named : goal.returns-clause-named
returns-clause-named c = named_above

pub returns-clause-inodes : goal.returns-clause-inodes
returns-clause-inodes c = inode_there

pub returns-clause-direct : goal.returns-clause-direct
returns-clause-direct c = λ places ino pages has page offset there direct. direct_there places ino pages has page offset (from_contains pages page there) direct

pub returns-clause-needed : goal.returns-clause-needed
returns-clause-needed c = λ places ino pages inode direct named. needed places ino pages inode (λ page offset there. direct page offset (contains_in pages page there)) named

pub returns-clause-counted : goal.returns-clause-counted
returns-clause-counted c = nodes_counted

pub returns-clause-whole : goal.returns-clause-whole
returns-clause-whole c = tree_counted
