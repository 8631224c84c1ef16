use Rattle.std.proofs.Common.{◌≡◌, ◌∙◌, ℕ, List, [], ◌∷◌, ap, drop, rules}
use Rattle.f2_format.specs.Inode.{inode_of}
use Rattle.f2_node_block.specs.declared.inodes.Inode.{Inode}
use Rattle.f2_node_block.specs.Inodes as written
use Rattle.f2_node_block.proofs.InodeLemmas.{Fits-fields_of, inode_of-inode_bytes}
use Rattle.f2_blocks.specs.Blocks.{address_of, fields_of, words_of}
use Rattle.f2_blocks.proofs.Fields.{five_fit, padded-twice}
use Rattle.f2_blocks.proofs.blocks.put_inode.Goals as goal

pub returns-clause-reads_back : goal.returns-clause-reads_back
returns-clause-reads_back g c =
    let row = c.args.row in
    let pages = (g.P.PageAddresses.addresses c.args.index.now) in
    let nids : List ℕ = c.nid_of.result ∷ c.nid_of-2.result ∷ c.nid_of-3.result ∷ c.nid_of-4.result ∷ c.nid_of-5.result ∷ [] in
    let inode : Inode =
    record {
      kind = row.kind;
      size = row.size;
      pino = row.pino;
      name_len = c.len.result;
      name = c.padded.result;
      addr = c.put_addresses.new.into;
      nid = nids;
    }
    in
    let named = padded-twice row.name.now c.padded.result c.len.result c.padded.ensures c.len.ensures in
    let addressed : c.put_addresses.new.into ≡ words_of (address_of pages) 923 = c.put_addresses.ensures.written in
    let same : written.fields_of inode row.blocks ≡ fields_of row pages c.args.nids.now =
    λ i.
    record {
      mode = written.mode_of row.kind;
      links = written.links_of row.kind;
      size = row.size;
      blocks = row.blocks;
      parent = row.pino;
      name_length = c.len.ensures i;
      name = named i;
      addresses = addressed i;
      nids = c.nid_of.ensures i ∷ c.nid_of-2.ensures i ∷ c.nid_of-3.ensures i ∷ c.nid_of-4.ensures i ∷ c.nid_of-5.ensures i ∷ [];
    }
    in
    let each_nid =
    five_fit c.nid_of.result c.nid_of-2.result c.nid_of-3.result c.nid_of-4.result c.nid_of-5.result (search rules) (search rules) (search rules) (search rules) (search rules)
    in
    let fits = Fits-fields_of inode row.blocks (search rules) (search rules) (search rules) (search rules) (search rules) (search rules) c.put_addresses.ensures.fit (search rules) each_nid in
    ap inode_of c.write_inode.ensures.written ∙ inode_of-inode_bytes (written.fields_of inode row.blocks) (drop 4072 c.args.into.now) fits ∙ same
