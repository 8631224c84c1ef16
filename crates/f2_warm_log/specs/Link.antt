-- What a submit writes into the footer of a node's block.
use Rattle.std.specs.Prelude.{ℕ, List, [], ◌∷◌}
use Rattle.f2_format.specs.Bytes.{number_bytes, with_fields}
use Rattle.f2_format.specs.Footer.{FOOTER_VERSION, FOOTER_NEXT}

-- the block with this version and this next address in its footer, and every other byte as it was
-- (`fill_node_footer_blkaddr` of fs/f2fs/node.h)
abbrev pub linked_block : List ℕ → ℕ → ℕ → List ℕ
linked_block block version next = with_fields block ((FOOTER_VERSION, number_bytes 8 version) ∷ (FOOTER_NEXT, number_bytes 4 next) ∷ [])
