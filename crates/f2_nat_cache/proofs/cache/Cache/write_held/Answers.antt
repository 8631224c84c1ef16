use Rattle.std.proofs.Common.{◌≡◌, ℕ, ◌+◌, ◌<◌, List, Option, length, true, false, cond, ap, sym, subst, set, ◌∙◌, arith}
use Rattle.std.specs.Prelude.{map as list_map}
use Rattle.std.specs.List.{range_with_len}
use Rattle.std.proofs.lemmas.List.{length-set}
use Rattle.std.proofs.lemmas.Bool.Decides.{nat_tests}
use Rattle.f2_nat_cache.specs.Plan.{fits_journal, held_then, held_with_pending}
use Rattle.f2_nat_cache.specs.Table.{Table}
use Rattle.f2_nat_cache.proofs.Checkpoints.{Alike, Reaches, alike_set, all_tell_more, pending_alike, reaches_all, reaches_other, reaches_written, tells_alike}
use Rattle.f2_nat_cache.proofs.cache.Cache.write_held.Goals as goal
use Rattle.f2_nat_cache.proofs.cache.Cache.write_held.Goals.{then-is_pending, else-is_pending}

pub loop-block-preserved : goal.loop-block-preserved
loop-block-preserved c =
    let t = c.args.self.now in
    let s = c.loop-block.self in
    let s' = c.if-is_pending.self in
    let n = c.loop-block.block in
    let before = c.loop-block.invariant in
    let reaches : Reaches t s n = record { done = before.done; rest = before.rest } in
    elim c.if-is_pending.branch [
      | then-is_pending w ↦
          let written = held_with_pending s n in
          let is = w.self-is ∙ w.write_block.ensures.held in
          let held = ap (λ (x : Table). x.held) is in
          let pending = sym (pending_alike t s n before.same) ∙ sym w.if-is_pending.ensures in
          let within : n < length s.held = omega (arith, before.long, c.nat-block-end.ensures.value, ap (λ (x : Table). x.geom.nat) c.self.view_is) in
          let after = reaches_written t s s' n before.same reaches within pending held in
          record {
            same = alike_set t s s' (set s.held n written) before.same is;
            long = ap (λ (hs : List (Option (List ℕ))). length hs) held ∙ length-set s.held n written ∙ before.long;
            done = after.done;
            rest = after.rest;
            told = all_tell_more t n before.told (λ content _ here. tells_alike t s n content before.same (w.write_block.ensures.told content (before.rest n (omega arith) ∙ here)));
          }
      | else-is_pending w ↦
          let none = sym (pending_alike t s n before.same) ∙ sym w.if-is_pending.ensures in
          let after = subst (λ (x : Table). Reaches t x (n + 1)) (sym w.self-is) (reaches_other t s n reaches none) in
          record {
            same = subst (Alike t) (sym w.self-is) before.same;
            long = ap (λ (x : Table). length x.held) w.self-is ∙ before.long;
            done = after.done;
            rest = after.rest;
            told = all_tell_more t n before.told (λ content pending. let wrong : ◌≡◌ false true = sym none ∙ pending in cc);
          }
    ]

pub returns-clause-held : goal.returns-clause-held
returns-clause-held c =
    let t = c.args.self.now in
    let s = c.loop-block.self in
    let before = c.loop-block.invariant in
    let over : fits_journal t ≡ false = grind (arith, nat_tests, c.needed.ensures.value, c.if-needed-le-MOST_JOURNAL_ENTRIES.false) in
    let done = reaches_all t s (λ k h. before.done k (omega (arith, h, c.loop-block-test.false, c.nat-block-end.ensures.value, ap (λ (x : Table). x.geom.nat) c.self.view_is))) before.long in
    before.same ∙ ap (λ hs. record t { held = hs }) (done ∙ sym (ap (λ b. cond b t.held (list_map (held_then t) (range_with_len 0 t.geom.nat))) over))
