-- All that a running volume keeps, once an fsync was acknowledged.
use Rattle.f2_model.specs.State.{InFsync}
use Rattle.f2_event_laws.specs.WholeAcks.{AcknowledgementsKeepWhole}
use Rattle.f2_event_laws.proofs.Acknowledged.{acknowledged_kept}
use Rattle.f2_event_laws.proofs.Maps.{found_left}

pub acknowledgements_whole : AcknowledgementsKeepWhole
acknowledgements_whole lists layout state places unwritten seat ino progress whole there part none gap = record {
  kept = acknowledged_kept lists layout state places unwritten seat ino progress whole.kept there part none gap;
  dirty = whole.dirty;
  nodes = whole.nodes;
  pages = whole.pages;
  nids = λ file low n found. let own = whole.nids file low n found in record { known = own.known; own = own.own };
  owners = whole.owners;
  unshrunk = λ other file next found. whole.unshrunk other file next (found_left state.flights seat other (InFsync file next) found).1;
  logged = whole.logged;
  counts = λ file row found place small same. let is = whole.counts file row found place small same in record { nid = is.nid; least = is.least; most = is.most; inode = is.inode; shape = is.shape };
}
