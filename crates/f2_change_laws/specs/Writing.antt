-- Writes, made or failed.
use Rattle.std.specs.Prelude.{◌≡◌, ℕ, ◌<◌, List, length, slice_index_or, None}
use Rattle.f2_disk.specs.Contents.{Contents, IsBlock, IsWritten, IsWriteFailed}
use Rattle.f2_model.specs.State.{State}
use Rattle.f2_stored.specs.Layout.{Open, Written, Failed, Layout}
use Rattle.f2_stored.specs.Changes.{Wrote, IsFree, MayBeWritten, no_position, with_fate}
use Rattle.f2_stored.specs.Stored.{KeepsPacks, KeepsLog, IsStored}

-- a write at a free address keeps a state: a page's, or that of a block of a checkpoint in flight
abbrev pub FreeWritesKeep : Type 0
FreeWritesKeep =
    (lists new : Contents) (layout : Layout) (state : State) (at : ℕ) (content : List ℕ) →
    IsStored lists layout state →
    at < length lists →
    IsFree layout at →
    MayBeWritten layout at content →
    Wrote lists at content new →
    IsStored new layout state

-- the write of an open position's block, with how it ended
abbrev pub SubmitsKeep : Type 0
SubmitsKeep =
    (lists new : Contents) (layout : Layout) (state : State) (place : ℕ) →
    KeepsPacks lists layout state →
    KeepsLog lists layout state →
    layout.pending ≡ None →
    place < length layout.log →
    (slice_index_or layout.log place no_position).fate ≡ Open →
    (slice_index_or layout.log place no_position).logged.at < length lists →
    IsBlock (slice_index_or layout.log place no_position).logged.block →
    (IsWritten (slice_index_or layout.log place no_position).logged.at (slice_index_or layout.log place no_position).logged.block lists new →
    KeepsPacks new (with_fate layout place Written) state × KeepsLog new (with_fate layout place Written) state)
    × (IsWriteFailed (slice_index_or layout.log place no_position).logged.at (slice_index_or layout.log place no_position).logged.block lists new →
    KeepsPacks new (with_fate layout place Failed) state × KeepsLog new (with_fate layout place Failed) state)
