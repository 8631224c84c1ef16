use Rattle.std.proofs.Common.{◌∙◌, ◌⊎◌, ℕ, ◌*◌, ◌<◌, ◌≤◌, ◌==◌, subst}
use Rattle.std.specs.Prelude.{slice_index}
use Rattle.std.specs.List.{count_by}
use Rattle.f2_image.specs.Faults as faults
use Rattle.f2_recover.proofs.JournalNids.{none_bad, entry_bad}
use Rattle.f2_recover.proofs.journals.check_entries.Goals as goal

pub returns-in-Ok-clause-right : goal.returns-in-Ok-clause-right
returns-in-Ok-clause-right c ckpt sizes summary =
    none_bad ckpt c.args.g.now c.args.summary.now c.deref.result.now sizes summary (c.deref.ensures.value ∙ c.in_ok-nids.ensures)
    (λ k small. let right = c.in-Ok.ensures.right k small in (subst (λ (n : ℕ). slice_index c.deref.result.now k < 455 * n) c.nat.ensures.value right.0, right.1))

pub returns-clause-fault : goal.returns-clause-fault
returns-clause-fault c image ckpt sizes summary has = (
  has,
  faults.entry (entry_bad ckpt c.args.g.now c.args.summary.now c.deref.result.now sizes summary (c.deref.ensures.value ∙ c.in_ok-nids.ensures) c.in-Err.nid
      (subst (λ (n : ℕ). (2 ≤ count_by (λ one. one == c.in-Err.nid) c.deref.result.now) ⊎ ((1 ≤ count_by (λ one. one == c.in-Err.nid) c.deref.result.now) × (455 * n ≤ c.in-Err.nid))) c.nat.ensures.value c.in-Err.ensures.wrong)),
)
