use Rattle.std.proofs.Common.{◌<◌, ◌≤◌, ℕ, sym, ap, ◌∙◌, subst, arith}
use Rattle.f2_bitset.specs.Numbers.{Numbers}
use Rattle.f2_overlay.proofs.Maps.{not_none, one_some}
use Rattle.f2_takeover.proofs.ChangeSteps.{changed_none, changed_with, changed_without}
use Rattle.f2_takeover.proofs.changes.changed_directories.Goals as goal
use Rattle.f2_takeover.proofs.changes.changed_directories.Goals.{in-Some+then-directory-limit, in-Some+else-directory-limit, in_default}

pub loop-ino-init : goal.loop-ino-init
loop-ino-init c =
    let is = c.in_ok-changed.ensures in
    record {
      first = ap (λ (s : Numbers). s.first) is;
      count = ap (λ (s : Numbers). s.count) is;
      are = changed_none c.args.rolls.now c.args.walk.now.rows c.nid_limit-limit.result c.in_ok-changed.changed.members (ap (λ (s : Numbers). s.members) is);
    }

past : (a b : ℕ) → a < b → b ≤ a → ⊥
past a b low high = omega (arith, low, high)

pub loop-ino-preserved : goal.loop-ino-preserved
loop-ino-preserved c =
    let rolls = c.args.rolls.now in
    let base = c.args.walk.now.rows in
    let limit = c.nid_limit-limit.result in
    let before = c.loop-ino.invariant in
    elim c.match-gaining.branch [
      | in-Some+then-directory-limit w ↦ record {
        first = ap (λ (s : Numbers). s.first) (w.changed-is ∙ w.insert.ensures) ∙ before.first;
        count = ap (λ (s : Numbers). s.count) (w.changed-is ∙ w.insert.ensures) ∙ before.count;
        are = changed_with rolls base limit c.loop-ino.ino c.loop-ino.changed.members c.match-gaining.changed.members before.are w.in-Some.directory (sym c.gaining.ensures ∙ w.in-Some.is)
            (ap (λ (s : Numbers). s.members) (w.changed-is ∙ w.insert.ensures));
      }
      | in-Some+else-directory-limit w ↦ record {
        first = ap (λ (s : Numbers). s.first) w.changed-is ∙ before.first;
        count = ap (λ (s : Numbers). s.count) w.changed-is ∙ before.count;
        are = changed_without rolls base limit c.loop-ino.ino c.loop-ino.changed.members c.match-gaining.changed.members before.are
            (λ directory is low. past directory limit low (subst (λ n. limit ≤ n) (one_some w.in-Some.directory directory (sym (sym c.gaining.ensures ∙ w.in-Some.is) ∙ is)) w.if-directory-limit.false)) (ap (λ (s : Numbers). s.members) w.changed-is);
      }
      | in_default w ↦ record {
        first = ap (λ (s : Numbers). s.first) w.changed-is ∙ before.first;
        count = ap (λ (s : Numbers). s.count) w.changed-is ∙ before.count;
        are = changed_without rolls base limit c.loop-ino.ino c.loop-ino.changed.members c.match-gaining.changed.members before.are
            (λ directory is low. not_none directory (sym (sym c.gaining.ensures ∙ w.in_default.is) ∙ is)) (ap (λ (s : Numbers). s.members) w.changed-is);
      }
    ]
