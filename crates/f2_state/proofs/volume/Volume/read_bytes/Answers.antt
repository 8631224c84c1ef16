use Rattle.std.proofs.Common.{◌≡◌, ◌+◌, ◌*◌, ◌<◌, min, max, ap, ◌∙◌, arith}
use Rattle.f2_model.specs.Content.{PAGE, bytes_between}
use Rattle.f2_state.proofs.PartBytes.{step_bytes}
use Rattle.f2_state.proofs.Unchanged.{looks_then}
use Rattle.f2_state.proofs.volume.Volume.read_bytes.Goals as goal

pub loop-page-preserved : goal.loop-page-preserved
loop-page-preserved g c =
    let some : c.args.from < c.args.to = omega (arith, c.if-from-to.false) in
    let before : c.loop-page.page * PAGE < c.args.to = omega (arith, some, c.loop-page-test.true) in
    let behind : c.args.from < c.loop-page.page * PAGE + PAGE = omega (arith, c.loop-page.auto.page) in
    record {
      looks = looks_then g.D.Disk.contents g.D.Disk.meter c.args.self.now c.loop-page.self c.read_part.new.self c.loop-page.invariant.looks c.in_ok-read_part.ensures.looks;
      content = λ from row stands quiet there file.
          step_bytes row.pages c.args.from c.args.to c.loop-page.page c.loop-page.bytes c.read_part.new.bytes some before behind
          (c.loop-page.invariant.content from row stands quiet there file)
          (c.in_ok-read_part.ensures.content from row (c.loop-page.invariant.looks.stands from stands) quiet there file);
    }

pub returns-clause-content : goal.returns-clause-content
returns-clause-content g c = λ from row stands quiet there file.
    let end : min c.args.to (max c.args.from (c.loop-page.page * PAGE)) ≡ c.args.to = omega (arith, c.if-from-to.false, c.loop-page-test.false) in
    c.loop-page.invariant.content from row stands quiet there file ∙ ap (bytes_between row.pages c.args.from) end
