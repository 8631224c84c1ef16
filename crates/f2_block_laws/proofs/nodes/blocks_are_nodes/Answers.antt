use Rattle.f2_block_laws.proofs.NodeBlocks.{is_node_block, is_inode_of}
use Rattle.f2_block_laws.proofs.nodes.blocks_are_nodes.Goals as goal

pub returns-clause-nodes : goal.returns-clause-nodes
returns-clause-nodes c = λ places ino offset node made pages nids block same reads footer. is_node_block places ino made pages nids same offset block reads node footer

pub returns-clause-inodes : goal.returns-clause-inodes
returns-clause-inodes c = is_inode_of
