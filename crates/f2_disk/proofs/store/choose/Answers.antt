use Rattle.std.proofs.Common.{◌≡◌, ◌+◌, ◌%◌, ◌∙◌, get_or, ap, sym, arith}
use Rattle.std.proofs.lemmas.List.{get_or_read}
use Rattle.f2_disk.specs.declared.store.Older.{Older}
use Rattle.f2_disk.proofs.ChooseLaws.{IsRun, chosen_none, chosen_all, chosen_newest, chosen_older}
use Rattle.f2_disk.proofs.store.choose.Goals as goal
use Rattle.f2_disk.proofs.store.choose.Goals.{then-kept-count+in-Some-1, then-kept-count+in-None-1, else-kept-count}

pub loop-next-init : goal.loop-next-init
loop-next-init c = (0, chosen_none c.args.pick c.args.newest.now c.args.older.now c.requires)

pub loop-next-preserved : goal.loop-next-preserved
loop-next-preserved c =
    let at = c.index-older-next.result.at in
    let run : IsRun c.loop-next.older c.loop-next.next c.run_len-count.result = record {
      some = c.run_len-count.ensures.some;
      bound = c.run_len-count.ensures.bound;
      same = c.run_len-count.ensures.same;
      later = c.run_len-count.ensures.later;
    } in
    let first : (d : Older) → (get_or c.loop-next.older c.loop-next.next d).at ≡ at =
    λ d. ap (λ (e : Older). e.at) (sym (get_or_read c.loop-next.older c.loop-next.next c.index-older-next.result c.loop-next-test.true c.index-older-next.is d)) in
    let done = c.loop-next.invariant.0 in
    let chosen = c.loop-next.invariant.1 in (
      at + 1,
      elim c.if-kept-count.branch [
        | then-kept-count+in-Some-1 w ↦
            let m = c.loop-next.next + c.loop-next.rest % (c.run_len-count.result + 1) in
            let e = w.index-older-next-then-kept-count.result in
            let left : Older = record { at = (get_or c.loop-next.older m e).at; content = w.take.new.self } in
            rw (w.newest-is, w.older-is, ← c.index-older-next.is)
            (chosen_older c.args.pick c.args.newest.now c.args.older.now done c.loop-next.next c.loop-next.rest c.loop-next.newest c.loop-next.older
            c.requires chosen c.run_len-count.result at run first w.if-kept-count.true w.take.result e w.take.ensures.value
            left (run.same m e (omega arith) (omega arith) ∙ first e) w.take.ensures.after)
        | then-kept-count+in-None-1 w ↦
            let m = c.loop-next.next + c.loop-next.rest % (c.run_len-count.result + 1) in
            let e = w.index-older-next-then-kept-count.result in
            let left : Older = record { at = (get_or c.loop-next.older m e).at; content = w.take.new.self } in
            rw (w.newest-is, w.older-is, ← c.index-older-next.is)
            (chosen_older c.args.pick c.args.newest.now c.args.older.now done c.loop-next.next c.loop-next.rest c.loop-next.newest c.loop-next.older
            c.requires chosen c.run_len-count.result at run first w.if-kept-count.true w.take.result e w.take.ensures.value
            left (run.same m e (omega arith) (omega arith) ∙ first e) w.take.ensures.after)
        | else-kept-count w ↦
            rw (w.newest-is, w.older-is)
            (chosen_newest c.args.pick c.args.newest.now c.args.older.now done c.loop-next.next c.loop-next.rest c.loop-next.newest c.loop-next.older
            c.requires chosen c.run_len-count.result at run first w.if-kept-count.false)
      ],
    )

pub returns-clause-chosen : goal.returns-clause-chosen
returns-clause-chosen c =
    chosen_all c.args.pick c.args.newest.now c.args.older.now _ _ _ _ _ c.loop-next.invariant.1
    (omega (arith, c.loop-next.invariant.1.size))
