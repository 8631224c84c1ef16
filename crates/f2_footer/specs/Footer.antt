-- A footer as a value of the program: the fields of `struct node_footer`, its flag taken apart.
use Rattle.std.specs.Prelude.{ℕ, List}
use Rattle.f2_format.specs.Bytes.{Field}
use Rattle.f2_format.specs.Footer.{footer_nid, footer_ino, footer_offset, has_fsync_mark, has_dentry_mark, footer_version, footer_next, footer_fields, flag_of}
use Rattle.f2_footer.specs.declared.Footer.{Footer}

-- the footer of the node in a block
abbrev pub footer_of : List ℕ → Footer
footer_of block =
    record {
      nid = footer_nid block;
      ino = footer_ino block;
      offset = footer_offset block;
      fsync = has_fsync_mark block;
      dent = has_dentry_mark block;
      cp_ver = footer_version block;
      next = footer_next block;
    }

-- the fields of this footer in a block
abbrev pub fields_of : Footer → List Field
fields_of f = footer_fields f.nid f.ino (flag_of f.offset f.fsync f.dent) f.cp_ver f.next
