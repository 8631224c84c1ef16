-- What is kept on a disk of which fewer numbers of nodes are known.
use Rattle.std.proofs.Common.{◌≡◌, ℕ, ◌<◌, List, length, slice_index_or, refl}
use Rattle.std.specs.List.{AllZip}
use Rattle.f2_disk.specs.Contents.{Contents}
use Rattle.f2_model.specs.State.{State, Mark}
use Rattle.f2_image.specs.Chains.{no_block, marked_places}
use Rattle.f2_stored.specs.Layout.{Layout, Nids, chained}
use Rattle.f2_stored.specs.Logs.{HoldsLog}
use Rattle.f2_stored.specs.Numbers.{IsNumbered, CountsAt}
use Rattle.f2_stored.specs.Marks.{HoldsMark}
use Rattle.f2_stored.specs.Stored.{KeepsPacks, KeepsLog}
use Rattle.f2_change_laws.specs.Forgetting.{AreFewer, NumbersMayBeForgotten}
use Rattle.f2_change_laws.proofs.Each.{zip_weaker}
use Rattle.f2_change_laws.proofs.Counts.{marked_below}
use Rattle.f2_change_laws.proofs.KeptMarks.{mark_kept}
use Rattle.f2_change_laws.proofs.KeptImages.{packs_kept}
use Rattle.f2_change_laws.proofs.Fewer.{fewer_same}

module _ (lists : Contents) (layout : Layout) (state : State) (nids : Nids) (packs : KeepsPacks lists layout state) (keeps : KeepsLog lists layout state) (fewer : AreFewer layout nids) where
  abbrev after : Layout
  after = record layout { nids = nids }

  numbered : (place : ℕ) → place < length (chained layout) → CountsAt (chained layout) place → IsNumbered after (slice_index_or (chained layout) place no_block)
  numbered place small counts =
      let is = keeps.nids.log place small counts in
      record { nid = fewer.log place small counts; least = is.least; most = is.most; inode = is.inode; shape = is.shape }

  marks : AllZip (HoldsMark lists after state.base) (marked_places (chained layout)) state.marks
  marks = zip_weaker (λ place. place < length (chained layout)) (HoldsMark lists layout state.base) (HoldsMark lists after state.base) one_mark (marked_places (chained layout)) state.marks (marked_below (chained layout)) keeps.marks
    where
      one_mark : (at : ℕ) (mark : Mark) → at < length (chained layout) → HoldsMark lists layout state.base at mark → HoldsMark lists after state.base at mark
      one_mark at mark small is = mark_kept lists lists layout after state.base at mark refl refl (λ page. refl) (λ k owner known. known) (λ k owner known inside. fewer_same lists lists k refl) is

  log : HoldsLog lists after
  log = record {
    linked = keeps.log.linked;
    own = keeps.log.own;
    held = keeps.log.held;
    fresh = keeps.log.fresh;
    within = keeps.log.within;
    settled = keeps.log.settled;
    addresses = keeps.log.addresses;
    differ = keeps.log.differ;
    next = keeps.log.next;
    short = keeps.log.short;
  }

  pub packs_still : KeepsPacks lists (record layout { nids = nids }) state
  packs_still =
      packs_kept lists lists refl layout state layout.log layout.settled layout.next nids layout.owners state.marks state.acknowledged packs packs.whole packs.packs packs.no_later packs.pending

  pub log_still : KeepsLog lists (record layout { nids = nids }) state
  log_still = record {
    base = keeps.base;
    no_log = keeps.no_log;
    log = log;
    nids = record {
      base = fewer.base;
      log = numbered;
      differ = λ one other nid here there. keeps.nids.differ one other nid (fewer.known one nid here) (fewer.known other nid there);
    };
    owners = record { base = keeps.owners.base; few = keeps.owners.few };
    marks = marks;
    acknowledged = keeps.acknowledged;
    fitting = keeps.fitting;
  }

pub numbers_may_be_forgotten : NumbersMayBeForgotten
numbers_may_be_forgotten lists layout state nids packs keeps fewer = (packs_still lists layout state nids packs keeps fewer, log_still lists layout state nids packs keeps fewer)
