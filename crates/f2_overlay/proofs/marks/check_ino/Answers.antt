use Rattle.std.proofs.Common.{sym, ap, ◌∙◌}
use Rattle.std.specs.Prelude.{Option, is_some}
use Rattle.f2_recover.proofs.Sets.{not_both}
use Rattle.f2_recover.specs.declared.rows.BaseRow.{BaseRow}
use Rattle.f2_overlay.proofs.Maps.{none_of}
use Rattle.f2_overlay.proofs.Unreached.{free_nid, bad_ino}
use Rattle.f2_overlay.proofs.marks.check_ino.Goals as goal

pub returns-then-contains-clause-free : goal.returns-then-contains-clause-free
returns-then-contains-clause-free c image ckpt base none = absurd (not_both (sym c.contains.ensures ∙ c.if-contains.true) (ap (λ (o : Option BaseRow). is_some o) none))

pub returns-then-has_nid-clause-fault : goal.returns-then-has_nid-clause-fault
returns-then-has_nid-clause-fault c image ckpt place block base is read =
    bad_ino image ckpt c.args.walk.now base place block c.args.footer is read (none_of _ (sym c.contains.ensures ∙ c.if-contains.false)) (sym c.has_nid.ensures ∙ c.if-has_nid.true)

pub returns-clause-free : goal.returns-clause-free
returns-clause-free c image ckpt base none = free_nid image ckpt c.args.walk.now base c.args.footer.ino (sym c.has_nid.ensures ∙ c.if-has_nid.false)
