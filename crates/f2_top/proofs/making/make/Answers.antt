use Rattle.std.proofs.Common.{◌≡◌, refl, sym, ap, ◌∙◌, subst, arith, Err}
use Rattle.f2_disk.specs.Contents.{WhereTold}
use Rattle.f2_format.specs.Geometry.{ImageGeometry, node_third, data_third}
use Rattle.f2_mount.specs.Making.{HasNewImage}
use Rattle.f2_play.specs.Lines.{ended}
use Rattle.f2_script.specs.Steps.{made_spelling}
use Rattle.f2_top.specs.Making.{room}
use Rattle.f2_top.proofs.MakingLemmas.{sizes, own_sizes, same_sizes, on_ok, told_flushed, told_new}
use Rattle.f2_top.proofs.making.make.Goals as goal

pub returns-then-blocks-asked-clause-refused : goal.returns-then-blocks-asked-clause-refused
returns-then-blocks-asked-clause-refused g c =
    let flush = on_ok c.flush.result (sym c.is_err.ensures.value ∙ c.if-is_err.false) c.flush.ensures.flushed in (
      room (own_sizes (sizes c.args.asked.blocks c.args.asked.nat) c.in-Ok.geometry c.in-Ok.ensures.exact)
          (omega (arith, c.if-blocks-asked.true, c.blocks-blocks.ensures.count, c.flush.ensures.within.same_blocks)) refl (c.blocks-blocks.ensures.count ∙ c.flush.ensures.within.same_blocks),
      told_flushed _ _ flush,
      refl,
    )

pub returns-in_default-clause-refused : goal.returns-in_default-clause-refused
returns-in_default-clause-refused g c =
    let flush = on_ok c.flush.result (sym c.is_err.ensures.value ∙ c.if-is_err.false) c.flush.ensures.flushed in (
      record {
        own = own_sizes (sizes c.args.asked.blocks c.args.asked.nat) c.in-Ok.geometry c.in-Ok.ensures.exact;
        room = omega (arith, c.if-blocks-asked.false, c.blocks-blocks.ensures.count, c.flush.ensures.within.same_blocks);
      },
      told_flushed _ _ flush,
      refl,
    )

pub returns-in-Ok-mkfs-clause-made : goal.returns-in-Ok-mkfs-clause-made
returns-in-Ok-mkfs-clause-made g c =
    let asked = sizes c.args.asked.blocks c.args.asked.nat in
    let same : c.in-Ok.geometry ≡ asked = same_sizes asked c.in-Ok.geometry c.in-Ok.ensures.exact in
    let flush = on_ok c.flush.result (sym c.is_err.ensures.value ∙ c.if-is_err.false) c.flush.ensures.flushed in (
      record { own = own_sizes asked c.in-Ok.geometry c.in-Ok.ensures.exact; room = omega (arith, c.if-blocks-asked.false, c.blocks-blocks.ensures.count, c.flush.ensures.within.same_blocks) },
      told_new asked _ _ _ flush (subst (λ (e : ImageGeometry). WhereTold (g.D.Disk.contents c.flush.new.self) (g.D.Disk.contents c.mkfs.new.disk) (HasNewImage e)) same c.in-Ok-mkfs.ensures.made),
      subst (λ (e : ImageGeometry). c.in-Ok-mkfs_line.text.items ≡ ended (made_spelling (node_third e) (data_third e))) same c.in-Ok-mkfs_line.ensures,
    )

pub returns-clause-refused : goal.returns-clause-refused
returns-clause-refused g c =
    let asked = sizes c.args.asked.blocks c.args.asked.nat in
    let flush = on_ok c.flush.result (sym c.is_err.ensures.value ∙ c.if-is_err.false) c.flush.ensures.flushed in (
      record { own = own_sizes asked c.in-Ok.geometry c.in-Ok.ensures.exact; room = omega (arith, c.if-blocks-asked.false, c.blocks-blocks.ensures.count, c.flush.ensures.within.same_blocks) },
      told_flushed _ _ ((c.in-Err-Memory.ensures.memory (ap Err c.in-Err-Memory.field-0-is)).0 ∙ flush),
      refl,
    )
