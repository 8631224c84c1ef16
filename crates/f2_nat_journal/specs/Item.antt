-- An entry of the journal as a value of the program.
use Rattle.std.specs.Prelude.{ℕ, List, map}
use Rattle.f2_format.specs.Nat.{NodePlace}
use Rattle.f2_format.specs.Journal.{JournalList}
use Rattle.f2_nat_block.specs.NatEntry.{place_of}
use Rattle.f2_nat_journal.specs.declared.Item.{Item}

-- the nid of an entry, and what it says of it
abbrev pub pair_of : Item → ℕ × NodePlace
pair_of item = (item.nid, place_of item.entry)

-- the journal that these entries make
abbrev pub journal_list : List Item → JournalList
journal_list items = map pair_of items
