use Rattle.std.proofs.Common.{◌∙◌, ap, sym}
use Rattle.std.specs.Prelude.{is_some}
use Rattle.f2_image.specs.Faults as faults
use Rattle.f2_overlay.proofs.BasedNames.{directory_in, not_directory, name_free, name_taken}
use Rattle.f2_overlay.proofs.names.check_name.Goals as goal

pub returns-then-not-is_good-clause-fault : goal.returns-then-not-is_good-clause-fault
returns-then-not-is_good-clause-fault c image ckpt place base brings =
    (base.has, faults.marked_bad_name place c.args.directory c.args.name.now brings (sym c.if-not-is_good.ensures))

pub returns-in_default-clause-fault : goal.returns-in_default-clause-fault
returns-in_default-clause-fault c image ckpt place base brings = (
  base.has,
  record {
    place = place;
    parent = c.args.directory;
    name = c.args.name.now;
    brings = brings;
    none = not_directory image ckpt c.args.walk.now base c.args.directory (ap is_some (sym c.in_default.ensures));
  },
)

pub returns-then-is_some-clause-fault : goal.returns-then-is_some-clause-fault
returns-then-is_some-clause-fault c image ckpt place base brings =
    let known = sym c.in-Some.ensures in
    let taken = name_taken image ckpt c.args.walk.now base c.args.directory c.in-Some.names.now c.args.name.now known (ap is_some (sym c.get-2.ensures) ∙ sym c.if-is_some.ensures) in
    let directory = directory_in image ckpt c.args.walk.now base c.args.directory (ap is_some known) in
    (base.has, faults.in_base place c.args.directory c.args.name.now taken.0 brings directory.0 taken.1.0 taken.1.1)

pub returns-clause-fit : goal.returns-clause-fit
returns-clause-fit c image ckpt base =
    let known = sym c.in-Some.ensures in
    record {
      good = sym c.if-not-is_good.ensures;
      under = directory_in image ckpt c.args.walk.now base c.args.directory (ap is_some known);
      free = name_free image ckpt c.args.walk.now base c.args.directory c.in-Some.names.now c.args.name.now known (ap is_some (sym c.get-2.ensures) ∙ sym c.if-is_some.ensures);
    }
