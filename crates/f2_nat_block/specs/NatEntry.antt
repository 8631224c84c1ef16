-- An entry of the node address table as a value of the program.
use Rattle.f2_format.specs.Nat.{NodePlace}
use Rattle.f2_nat_block.specs.declared.entries.NatEntry.{NatEntry}

-- the entry with this ino and this address
abbrev pub entry_of : NodePlace → NatEntry
entry_of place = record { ino = place.0; addr = place.1 }

-- the ino and the address of an entry
abbrev pub place_of : NatEntry → NodePlace
place_of entry = (entry.ino, entry.addr)
