use Rattle.std.proofs.Common.{◌∙◌, ◌<◌, ◌≤◌, refl, sym, subst}
use Rattle.std.specs.FinSet as set
use Rattle.f2_format.specs.Geometry.{ImageGeometry, nid_limit, node_third, data_third}
use Rattle.f2_recover.proofs.Checkpoints.{has_table, ckpt_with, read_as, in_table}
use Rattle.f2_recover.proofs.Telling.{fault_holds, reads_then}
use Rattle.f2_recover.proofs.Walked.{not_deeper, are_taken, all_nodes}
use Rattle.f2_recover.proofs.base.read_base.Goals as goal

pub returns-in_err-journal-clause-fault : goal.returns-in_err-journal-clause-fault
returns-in_err-journal-clause-fault g c =
    fault_holds _ _ _ c.from_residual.ensures.1 (λ image ckpt tells is. c.in_err-journal.ensures.fault image ckpt is.summary_is)

pub returns-in_err-check_entries-clause-fault : goal.returns-in_err-check_entries-clause-fault
returns-in_err-check_entries-clause-fault g c =
    fault_holds _ _ _ c.from_residual-in_err-check_entries.ensures.1
    (λ image ckpt tells is.
    c.in_err-check_entries.ensures.fault image ckpt is.geom_is is.summary_is (has_table c.args.g.now c.args.bitmap.now c.args.summary.now c.in_ok-journal.ensures.has ckpt is))

pub returns-in_err-table-clause-fault : goal.returns-in_err-table-clause-fault
returns-in_err-table-clause-fault g c =
    fault_holds _ _ _ c.from_residual-in_err-table.ensures.1 (λ image ckpt tells is. c.in_err-table.ensures.fault image ckpt)

pub returns-in_err-walk-clause-fault : goal.returns-in_err-walk-clause-fault
returns-in_err-walk-clause-fault g c =
    fault_holds _ _ _ c.from_residual-in_err-walk.ensures.1
    (λ image ckpt tells is.
    let with = ckpt_with c.args.g.now c.args.bitmap.now c.args.summary.now c.in_ok-journal.ensures.has ckpt is _ c.in_ok-journal.ensures.journal in
    c.in_err-walk.ensures.fault image ckpt (read_as _ _ _ _ _ _ image ckpt c.in_ok-table.ensures.reads.kept refl c.deref.ensures.value (c.in_ok-table.ensures.table image ckpt tells with)))

pub returns-in_err-check_reached-clause-fault : goal.returns-in_err-check_reached-clause-fault
returns-in_err-check_reached-clause-fault g c =
    fault_holds _ _ _ c.from_residual-in_err-check_reached.ensures.1
    (λ image ckpt tells is.
    let with = ckpt_with c.args.g.now c.args.bitmap.now c.args.summary.now c.in_ok-journal.ensures.has ckpt is _ c.in_ok-journal.ensures.journal in
    let read = c.in_ok-table.ensures.table image ckpt tells with in
    let walked = c.in_ok-walk.ensures.walked image ckpt (read_as _ _ _ _ _ _ image ckpt c.in_ok-table.ensures.reads.kept refl c.deref.ensures.value read) in
    c.in_err-check_reached.ensures.fault _ image ckpt (read_as _ _ _ _ _ _ image ckpt refl c.in_ok-walk.ensures.geom c.deref-2.ensures.value read) (all_nodes image ckpt _ walked))

pub returns-in_err-check_counts-clause-fault : goal.returns-in_err-check_counts-clause-fault
returns-in_err-check_counts-clause-fault g c =
    fault_holds _ _ _ c.from_residual-in_err-check_counts.ensures.1
    (λ image ckpt tells is.
    let with = ckpt_with c.args.g.now c.args.bitmap.now c.args.summary.now c.in_ok-journal.ensures.has ckpt is _ c.in_ok-journal.ensures.journal in
    let read = c.in_ok-table.ensures.table image ckpt tells with in
    let walked = c.in_ok-walk.ensures.walked image ckpt (read_as _ _ _ _ _ _ image ckpt c.in_ok-table.ensures.reads.kept refl c.deref.ensures.value read) in
    c.in_err-check_counts.ensures.fault image ckpt _ _ _ _ with.has is.geom_is (are_taken image ckpt _ walked))

pub returns-in_err-check_counts-clause-reads : goal.returns-in_err-check_counts-clause-reads
returns-in_err-check_counts-clause-reads g c = reads_then _ _ _ _ _ _ c.in_ok-table.ensures.reads c.in_ok-walk.ensures.reads

pub returns-clause-base : goal.returns-clause-base
returns-clause-base g c image ckpt tells is =
    let with = ckpt_with c.args.g.now c.args.bitmap.now c.args.summary.now c.in_ok-journal.ensures.has ckpt is _ c.in_ok-journal.ensures.journal in
    let read = c.in_ok-table.ensures.table image ckpt tells with in
    let again = read_as _ _ _ _ _ c.deref-2.result.now image ckpt refl refl c.deref-2.ensures.value read in
    record {
      has = with.has;
      walked = c.in_ok-walk.ensures.walked image ckpt (read_as _ _ _ _ _ _ image ckpt c.in_ok-table.ensures.reads.kept refl c.deref.ensures.value read);
      geom_is = c.in_ok-walk.ensures.geom ∙ sym is.geom_is;
      entries = c.in_ok-check_entries.ensures.right ckpt is.geom_is is.summary_is;
      reached = λ nid within there. c.in_ok-check_reached.ensures.right nid (in_table _ _ _ image ckpt again nid within) (λ none. there (sym (again.told nid (subst (λ (e : ImageGeometry). nid < nid_limit e) is.geom_is within)) ∙ none));
      few_nodes = subst (λ (e : ImageGeometry). set.len c.in_ok-walk.walk.zones.nodes ≤ node_third e) (sym is.geom_is) c.in_ok-check_counts.ensures.nodes;
      few_pages = subst (λ (e : ImageGeometry). set.len c.in_ok-walk.walk.zones.pages ≤ data_third e) (sym is.geom_is) c.in_ok-check_counts.ensures.pages;
      deep = not_deeper c.args.g.now c.in_ok-walk.walk.rows _ c.in_ok-walk.ensures.queue;
    }
