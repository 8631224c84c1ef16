-- Which fault of making an image comes from which of saving its checkpoint.
use Rattle.f2_plain_save.specs.declared.faults.SaveFault as save
use Rattle.f2_mount.specs.declared.faults.MakeFault.{MakeFault}
use Rattle.f2_mount.specs.declared.faults.MakeFault.TheVariants.{Write, Memory}

abbrev pub fault_of : save.SaveFault → MakeFault
fault_of save.TheVariants.Write = Write
fault_of save.TheVariants.Memory = Memory
