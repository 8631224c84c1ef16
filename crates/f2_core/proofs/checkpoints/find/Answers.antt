use Rattle.std.proofs.Common.{Err, not, sym, ap, subst, ◌∙◌, true≢false}
use Rattle.f2_core.specs.Found.{FindsHeld}
use Rattle.f2_core.proofs.Finding.{on_ok, finds, finds_none, finds_other, same_sizes, stays_held}
use Rattle.f2_core.proofs.checkpoints.find.Goals as goal

pub returns-then-ne-clause-bad : goal.returns-then-ne-clause-bad
returns-then-ne-clause-bad g c = λ _.
    let geom = c.args.geometry.now in
    let was = g.D.Disk.contents c.args.disk.now in
    let tree = c.in-Ok.field-0.tree in
    let stored = c.in-Ok.field-0.stored in
    let flush = on_ok c.flush.result (sym c.is_err.ensures.value ∙ c.if-is_err.false) c.flush.ensures.flushed in
    let found = finds geom was (g.D.Disk.contents c.flush.new.self) tree stored flush c.in-Ok.ensures.found in
    finds_other geom was (record { files = tree; stored = stored }) found (λ flat sizes. true≢false (sym c.if-ne.true ∙ c.ne.ensures ∙ ap not (same_sizes stored.geometry geom sizes)))

pub returns-then-ne-clause-kept : goal.returns-then-ne-clause-kept
returns-then-ne-clause-kept g c =
    let flush = on_ok c.flush.result (sym c.is_err.ensures.value ∙ c.if-is_err.false) c.flush.ensures.flushed in
    stays_held c.args.geometry.now (g.D.Disk.contents c.args.disk.now) (g.D.Disk.contents c.flush.new.self) (g.D.Disk.contents c.read.new.disk) flush c.read.ensures.reads.kept

pub returns-in-Ok-Some-clause-found : goal.returns-in-Ok-Some-clause-found
returns-in-Ok-Some-clause-found g c =
    let geom = c.args.geometry.now in
    let was = g.D.Disk.contents c.args.disk.now in
    let tree = c.in-Ok.field-0.tree in
    let stored = c.in-Ok.field-0.stored in
    let flush = on_ok c.flush.result (sym c.is_err.ensures.value ∙ c.if-is_err.false) c.flush.ensures.flushed in
    let found = finds geom was (g.D.Disk.contents c.flush.new.self) tree stored flush c.in-Ok.ensures.found in
    let taken = rw c.in-Ok-Some.field-0-is at c.in-Ok-Some.ensures in
    subst (λ files. FindsHeld geom was (record { files = files; stored = stored })) (sym taken.0) found

pub returns-in-Ok-Some-clause-kept : goal.returns-in-Ok-Some-clause-kept
returns-in-Ok-Some-clause-kept g c =
    let flush = on_ok c.flush.result (sym c.is_err.ensures.value ∙ c.if-is_err.false) c.flush.ensures.flushed in
    stays_held c.args.geometry.now (g.D.Disk.contents c.args.disk.now) (g.D.Disk.contents c.flush.new.self) (g.D.Disk.contents c.read.new.disk) flush c.read.ensures.reads.kept

pub returns-in-Ok-None-clause-bad : goal.returns-in-Ok-None-clause-bad
returns-in-Ok-None-clause-bad g c = λ _.
    let geom = c.args.geometry.now in
    let was = g.D.Disk.contents c.args.disk.now in
    let tree = c.in-Ok.field-0.tree in
    let stored = c.in-Ok.field-0.stored in
    let flush = on_ok c.flush.result (sym c.is_err.ensures.value ∙ c.if-is_err.false) c.flush.ensures.flushed in
    let found = finds geom was (g.D.Disk.contents c.flush.new.self) tree stored flush c.in-Ok.ensures.found in
    let other = rw c.in-Ok-None.field-0-is at c.in-Ok-None.ensures in
    finds_other geom was (record { files = tree; stored = stored }) found (λ flat sizes. other flat)

pub returns-in-Ok-None-clause-kept : goal.returns-in-Ok-None-clause-kept
returns-in-Ok-None-clause-kept g c =
    let flush = on_ok c.flush.result (sym c.is_err.ensures.value ∙ c.if-is_err.false) c.flush.ensures.flushed in
    stays_held c.args.geometry.now (g.D.Disk.contents c.args.disk.now) (g.D.Disk.contents c.flush.new.self) (g.D.Disk.contents c.read.new.disk) flush c.read.ensures.reads.kept

pub returns-in-Err-clause-kept : goal.returns-in-Err-clause-kept
returns-in-Err-clause-kept g c =
    let flush = on_ok c.flush.result (sym c.is_err.ensures.value ∙ c.if-is_err.false) c.flush.ensures.flushed in
    stays_held c.args.geometry.now (g.D.Disk.contents c.args.disk.now) (g.D.Disk.contents c.flush.new.self) (g.D.Disk.contents c.read.new.disk) flush c.read.ensures.reads.kept

pub returns-in-Err-Read-clause-kept : goal.returns-in-Err-Read-clause-kept
returns-in-Err-Read-clause-kept g c =
    let flush = on_ok c.flush.result (sym c.is_err.ensures.value ∙ c.if-is_err.false) c.flush.ensures.flushed in
    stays_held c.args.geometry.now (g.D.Disk.contents c.args.disk.now) (g.D.Disk.contents c.flush.new.self) (g.D.Disk.contents c.read.new.disk) flush c.read.ensures.reads.kept

pub returns-in-Err-Bad-clause-bad : goal.returns-in-Err-Bad-clause-bad
returns-in-Err-Bad-clause-bad g c = λ _.
    let flush = on_ok c.flush.result (sym c.is_err.ensures.value ∙ c.if-is_err.false) c.flush.ensures.flushed in
    finds_none c.args.geometry.now (g.D.Disk.contents c.args.disk.now) (g.D.Disk.contents c.flush.new.self) flush (c.in-Err-Bad.ensures.bad (ap (λ e. Err e) c.in-Err-Bad.field-0-is))

pub returns-in-Err-Bad-clause-kept : goal.returns-in-Err-Bad-clause-kept
returns-in-Err-Bad-clause-kept g c =
    let flush = on_ok c.flush.result (sym c.is_err.ensures.value ∙ c.if-is_err.false) c.flush.ensures.flushed in
    stays_held c.args.geometry.now (g.D.Disk.contents c.args.disk.now) (g.D.Disk.contents c.flush.new.self) (g.D.Disk.contents c.read.new.disk) flush c.read.ensures.reads.kept

pub returns-in-Err-Memory-clause-kept : goal.returns-in-Err-Memory-clause-kept
returns-in-Err-Memory-clause-kept g c =
    let flush = on_ok c.flush.result (sym c.is_err.ensures.value ∙ c.if-is_err.false) c.flush.ensures.flushed in
    stays_held c.args.geometry.now (g.D.Disk.contents c.args.disk.now) (g.D.Disk.contents c.flush.new.self) (g.D.Disk.contents c.read.new.disk) flush c.read.ensures.reads.kept
