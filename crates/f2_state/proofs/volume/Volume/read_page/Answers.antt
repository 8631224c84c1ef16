use Rattle.std.proofs.Common.{◌≡◌, true, ℕ, List, sym, subst}
use Rattle.std.specs.Prelude.{Option, Some, OnOk}
use Rattle.std.specs.FinMap as map
use Rattle.f2_disk.specs.Contents.{Contents}
use Rattle.f2_model.specs.Content.{page_of, zero_page}
use Rattle.f2_model.specs.State.{State}
use Rattle.f2_model.specs.declared.rows.Kind.TheVariants.{Regular}
use Rattle.f2_model.specs.declared.rows.Row.{Row}
use Rattle.f2_state.specs.Looks.{OnlyLooks}
use Rattle.f2_state.specs.Seen.{Seen}
use Rattle.f2_state.specs.Standing.{StandsIn, is_between}
use Rattle.f2_state.proofs.PageReads.{known_by, unknown_by, dirty_content, zero_content, content_read, block_read, is_current}
use Rattle.f2_state.proofs.Tables.{on_ok}
use Rattle.f2_state.proofs.Unchanged.{looks_read, volume_still}
use Rattle.f2_state.proofs.volume.Volume.read_page.Goals as goal

abbrev Holds : {D : Type 0} → (D → Option Contents) → ℕ → ℕ → List ℕ → Seen D → Type 0
Holds contents ino page bytes volume =
    (from : State) (row : Row) → StandsIn (contents volume.disk) volume from → is_between from ≡ true → map.get from.live ino ≡ Some row → row.kind ≡ Regular → bytes ≡ page_of row.pages page

pub returns-in-Some-clause-content : goal.returns-in-Some-clause-content
returns-in-Some-clause-content g c =
    subst (Holds g.D.Disk.contents c.args.ino c.args.page c.in-Some.content.now) c.self.view_is (λ from row stands quiet there file.
    dirty_content stands.lists _ from stands.stands c.args.ino c.args.page row there _ (sym c.in-Some.ensures))

pub returns-then-at-eq0-clause-content : goal.returns-then-at-eq0-clause-content
unfolding zero_page
returns-then-at-eq0-clause-content g c =
    subst (Holds g.D.Disk.contents c.args.ino c.args.page zero_page) c.self.view_is (λ from row stands quiet there file.
    zero_content stands.lists _ from stands.stands c.args.ino c.args.page row there file (sym c.in_default.ensures) quiet
    (unknown_by _ c.address.result c.unwrap_or-at.result c.address.ensures c.unwrap_or-at.ensures c.if-at-eq0.true))

pub read-requires-clause-current : goal.read-requires-clause-current
read-requires-clause-current g c =
    is_current (g.D.Disk.contents c.self.inside.disk) _ c.args.ino c.args.page c.unwrap_or-at.result c.self.invariant.somewhere
    (known_by _ c.address.result c.unwrap_or-at.result c.address.ensures c.unwrap_or-at.ensures c.if-at-eq0.false)

pub invariant_of-self : goal.invariant_of-self
invariant_of-self g c =
    volume_still g.D.Disk.contents g.D.Disk.meter _ _ c.self.invariant
    (looks_read g.D.Disk.contents g.D.Disk.meter _ c.read.new.disk c.read.new.self c.args.ino c.args.page c.unwrap_or-at.result c.read.new.into c.read.result
    (known_by _ c.address.result c.unwrap_or-at.result c.address.ensures c.unwrap_or-at.ensures c.if-at-eq0.false) c.if-at-eq0.false (sym c.in_default.ensures)
    c.read.ensures.content c.read.ensures.others c.read.ensures.err c.read.ensures.store c.read.ensures.reads)

pub returns-clause-content : goal.returns-clause-content
returns-clause-content g c =
    subst (λ volume. OnOk c.read.result (Holds g.D.Disk.contents c.args.ino c.args.page c.read.new.into volume)) c.self.view_is
    (on_ok c.read.result _ _ c.read.ensures.content (λ read from row stands quiet there file.
    content_read (g.D.Disk.contents c.self.inside.disk) _ from c.args.ino c.args.page c.unwrap_or-at.result row c.read.new.into stands quiet there file (sym c.in_default.ensures)
    (known_by _ c.address.result c.unwrap_or-at.result c.address.ensures c.unwrap_or-at.ensures c.if-at-eq0.false)
    (block_read c.self.inside.pages c.args.ino c.args.page c.unwrap_or-at.result (g.D.Disk.contents c.self.inside.disk) c.read.new.into (sym c.in_default.ensures) read)))

pub returns-clause-looks : goal.returns-clause-looks
returns-clause-looks g c =
    let was = c.self.inside in
    subst (λ old. OnlyLooks g.D.Disk.contents g.D.Disk.meter old
    (record { disk = c.read.new.disk; geometry = was.geometry; mode = was.mode; files = was.files; pages = c.read.new.self; history = was.history })) c.self.view_is
    (looks_read g.D.Disk.contents g.D.Disk.meter _ c.read.new.disk c.read.new.self c.args.ino c.args.page c.unwrap_or-at.result c.read.new.into c.read.result
    (known_by _ c.address.result c.unwrap_or-at.result c.address.ensures c.unwrap_or-at.ensures c.if-at-eq0.false) c.if-at-eq0.false (sym c.in_default.ensures)
    c.read.ensures.content c.read.ensures.others c.read.ensures.err c.read.ensures.store c.read.ensures.reads)
