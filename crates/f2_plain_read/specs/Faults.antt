-- Faults of reading a tree: those of a disk's reads, and of building a tree from what was read.
use Rattle.f2_disk.specs.declared.faults.ReadFault as disk
use Rattle.f2_plain_read.specs.declared.faults.BuildFault as build
use Rattle.f2_plain_read.specs.declared.faults.ReadFault.{ReadFault}
use Rattle.f2_plain_read.specs.declared.faults.ReadFault.TheVariants.{Read, Bad, Memory}

abbrev pub fault_of : disk.ReadFault → ReadFault
fault_of disk.TheVariants.Read = Read
fault_of disk.TheVariants.Memory = Memory

abbrev pub unbuilt : build.BuildFault → ReadFault
unbuilt build.TheVariants.Bad = Bad
unbuilt build.TheVariants.Memory = Memory
