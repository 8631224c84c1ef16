-- What changes in memory alone changes nothing in what a disk keeps.
use Rattle.std.proofs.Common.{◌≤◌, [], length, take, sym, ◌∙◌, subst, subst₂}
use Rattle.std.specs.Prelude.{All}
use Rattle.f2_disk.specs.Contents.{Contents}
use Rattle.f2_model.specs.State.{State, rolled}
use Rattle.f2_model.specs.declared.bounds.Limits.{Limits}
use Rattle.f2_room_laws.specs.ProperTrees.{IsProperTree}
use Rattle.f2_stored.specs.Layout.{Layout}
use Rattle.f2_stored.specs.Bases.{HoldsImage, HoldsSome, HasFormat}
use Rattle.f2_stored.specs.Marks.{HoldsMarks, marks_within}
use Rattle.f2_image_laws.specs.Rolled.{image_limits}
use Rattle.f2_room_laws.specs.Fitting.{FitsBase, NamesDiffer, AreFitting}
use Rattle.f2_stored.specs.Changes.{LeaveTheSame}
use Rattle.f2_stored.specs.Stored.{KeepsPacks, KeepsLog, KeepsImage, IsStored}
use Rattle.f2_stored.specs.Stored as stored

module _ (lists : Contents) (layout : Layout) (one other : State) (same : LeaveTheSame one other) where
  keeps_packs : KeepsPacks lists layout one → KeepsPacks lists layout other
  keeps_packs keeps = record {
    whole = keeps.whole;
    packs = keeps.packs;
    no_later = keeps.no_later;
    pending = subst (HoldsSome lists layout.base layout.pending) (sym same.pending) keeps.pending;
    format = keeps.format ∙ sym same.format;
    next_format = subst (HasFormat layout.pending) (sym same.next_format) keeps.next_format;
    version = keeps.version ∙ sym same.version;
    early = keeps.early;
  }

  fitting : (limits : Limits) → AreFitting limits one → AreFitting limits other
  fitting limits are = record {
    base = subst₂ (λ base marks. All (FitsBase limits base) marks) (sym same.base) (sym same.marks) are.base;
    names = subst NamesDiffer (sym same.marks) are.names;
    trees = λ place from to.
        subst₂ (λ base marks. IsProperTree limits (rolled base (take place marks))) (sym same.base) (sym same.marks)
        (are.trees place (subst (λ least. least ≤ place) same.acknowledged from) (subst (λ marks. place ≤ length marks) same.marks to));
  }

  keeps_log : KeepsLog lists layout one → KeepsLog lists layout other
  keeps_log keeps = record {
    base = subst (λ base. HoldsImage lists layout.base base []) (sym same.base) keeps.base;
    no_log = keeps.no_log;
    log = keeps.log;
    nids = keeps.nids;
    owners = keeps.owners;
    marks = subst₂ (HoldsMarks lists layout) (sym same.base) (sym same.marks) keeps.marks;
    acknowledged = subst (λ least. least ≤ marks_within layout layout.settled) (sym same.acknowledged) keeps.acknowledged;
    fitting = fitting (image_limits layout.base.ckpt.geom) keeps.fitting;
  }

  keeps_image : KeepsImage lists layout one → KeepsImage lists layout other
  keeps_image keeps = record {
    base = subst₂ (HoldsImage lists layout.base) (sym same.base) (sym same.marks) keeps.base;
    log = keeps.log;
    ends = keeps.ends;
    acknowledged = subst₂ (λ least marks. least ≤ length marks) (sym same.acknowledged) (sym same.marks) keeps.acknowledged;
  }

pub memory_keeps : (lists : Contents) (layout : Layout) (one other : State) → IsStored lists layout one → LeaveTheSame one other → IsStored lists layout other
memory_keeps lists layout one other (stored.running packs log) same = stored.running (keeps_packs lists layout one other same packs) (keeps_log lists layout one other same log)
memory_keeps lists layout one other (stored.mounting packs image) same = stored.mounting (keeps_packs lists layout one other same packs) (keeps_image lists layout one other same image)
