use Rattle.std.proofs.Common.{◌≡◌, ◌+◌, ℕ, length, ◌∙◌, ap, arith, subst, sym}
use Rattle.std.specs.Ordering.{nat_cmp}
use Rattle.std.specs.FinMap as map
use Rattle.f2_plain_read.specs.Building.{IsBuilt, AreBelow}
use Rattle.f2_plain_read.specs.declared.built.Built.{Built}
use Rattle.f2_disk.proofs.UsingLaws.{reads_none}
use Rattle.f2_plain_read.proofs.Telling.{reads_to, reads_as, tells_on, fault_came}
use Rattle.f2_plain_read.proofs.Building.{built_nothing, built_none}
use Rattle.f2_plain_read.proofs.built.read_files.Goals as goal
use Rattle.f2_plain_read.proofs.built.read_files.Goals.{then-at-ne0+in_ok-add_file, else-at-ne0}

pub loop-ino-init : goal.loop-ino-init
loop-ino-init g c = record {
  reads = reads_none _ _ _;
  built = λ image t tree stored out table. built_nothing image tree stored out _ c.new.ensures c.new-2.ensures c.new-3.ensures;
  keys = λ ino there. absurd (there (ap (λ places. map.get places ino) c.new-3.ensures ∙ map.get-empty nat_cmp ino));
}

pub loop-ino-preserved : goal.loop-ino-preserved
loop-ino-preserved g c =
    let ino = c.loop-ino.ino in
    let before = c.loop-ino.invariant in
    elim c.if-at-ne0.branch [
      | then-at-ne0+in_ok-add_file w ↦
          record {
            reads = reads_to g.D.Disk.contents g.D.Disk.meter c.args.disk.now c.loop-ino.disk w.add_file.new.disk c.if-at-ne0.disk w.disk-is before.reads w.in_ok-add_file.ensures.reads;
            built = λ image t tree stored out table.
                subst (λ (b : Built). IsBuilt tree stored.places (ino + 1) b) (sym w.built-is)
                (w.in_ok-add_file.ensures.built image (tells_on _ _ image before.reads.kept t) tree stored out (table ino c.loop-ino-test.true) (before.built image t tree stored out table));
            keys = subst (λ (b : Built). AreBelow (length c.args.table.now) b.places) (sym w.built-is) (w.in_ok-add_file.ensures.keys (length c.args.table.now) c.loop-ino-test.true before.keys);
          }
      | else-at-ne0 w ↦
          record {
            reads = reads_as g.D.Disk.contents g.D.Disk.meter c.args.disk.now c.loop-ino.disk c.if-at-ne0.disk w.disk-is before.reads;
            built = λ image t tree stored out table.
                subst (λ (b : Built). IsBuilt tree stored.places (ino + 1) b) (sym w.built-is)
                (built_none image tree stored out ino (sym w.if-at-ne0.false ∙ table ino c.loop-ino-test.true) c.loop-ino.built (before.built image t tree stored out table));
            keys = subst (λ (b : Built). AreBelow (length c.args.table.now) b.places) (sym w.built-is) before.keys;
          }
    ]

pub returns-in_err-add_file-clause-bad : goal.returns-in_err-add_file-clause-bad
returns-in_err-add_file-clause-bad g c bad image t tree stored out table =
    c.in_err-add_file.ensures.bad (fault_came _ _ _ c.from_residual.ensures.1 bad) image (tells_on _ _ image c.loop-ino.invariant.reads.kept t) tree stored out
    (table c.loop-ino.ino c.loop-ino-test.true) (c.loop-ino.invariant.built image t tree stored out table)

pub returns-clause-built : goal.returns-clause-built
returns-clause-built g c image t tree stored out table =
    let all : c.loop-ino.ino ≡ length c.args.table.now = omega arith in
    subst (λ (n : ℕ). IsBuilt tree stored.places n c.loop-ino.built) all (c.loop-ino.invariant.built image t tree stored out table)
