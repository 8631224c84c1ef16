use Rattle.std.proofs.Common.{◌≡◌, ◌∙◌, ◌++◌, ◌∷◌, List, [], length, length-append, refl, sym, ap, arith, append_assoc}
use Rattle.f2_dentry_block.specs.declared.dents.Dent.{Dent}
use Rattle.f2_recover.proofs.Telling.{fault_holds, read_on, reads_none, reads_then}
use Rattle.f2_recover.proofs.DentTurns.{longer_none, longer_then, names_none, next_dent, took_more, took_all}
use Rattle.f2_recover.proofs.walk.take_dents.Goals as goal

pub loop-dent-init : goal.loop-dent-init
loop-dent-init g c = record {
  all = c.into_iter-dent-iterator.ensures.into_iter_gives.0;
  reads = reads_none _ _;
  geom = c.requires.geom;
  queue = c.requires.queue;
  longer = longer_none _;
  walked = λ image ckpt done places read fresh are below is. (is, names_none _ _ c.new-names.ensures);
}

pub loop-dent-preserved : goal.loop-dent-preserved
loop-dent-preserved g c =
    let before = c.loop-dent.invariant in
    let front = c.loop-dent.yielded in
    let rest = c.next.new.self.rest.items in
    let whole = ap (λ (xs : List Dent). front ++ xs) (sym c.in-Some.ensures.steps.0) ∙ before.all in
    record {
      all = append_assoc front (c.in-Some.dent ∷ []) rest ∙ whole;
      reads = reads_then _ _ _ _ _ _ before.reads c.in_ok-take_dent.ensures.reads;
      geom = c.in_ok-take_dent.ensures.geom;
      queue = c.in_ok-take_dent.ensures.queue;
      longer = longer_then _ _ _ before.longer c.in_ok-take_dent.ensures.longer;
      walked = λ image ckpt done places read fresh are below is.
          let now = before.walked image ckpt done places read fresh are below is in
          let at = next_dent front rest c.in-Some.dent c.args.dents.items whole in
          took_more image ckpt done c.args.directory places c.args.dents.items _ _ front c.in-Some.dent
          (c.in_ok-take_dent.ensures.walked image ckpt done places c.args.dents.items (length front) (read_on _ _ _ _ _ image ckpt before.reads.kept refl read) fresh are at.0 at.1 below now.1 now.0);
    }

pub returns-in_err-take_dent-clause-fault : goal.returns-in_err-take_dent-clause-fault
returns-in_err-take_dent-clause-fault g c =
    let before = c.loop-dent.invariant in
    let front = c.loop-dent.yielded in
    let rest = c.next.new.self.rest.items in
    let whole = ap (λ (xs : List Dent). front ++ xs) (sym c.in-Some.ensures.steps.0) ∙ before.all in
    fault_holds _ _ _ c.from_residual.ensures.1
    (λ image ckpt done places read fresh are below is.
    let now = before.walked image ckpt done places read fresh are below is in
    let at = next_dent front rest c.in-Some.dent c.args.dents.items whole in
    c.in_err-take_dent.ensures.fault image ckpt done places c.args.dents.items (length front) (read_on _ _ _ _ _ image ckpt before.reads.kept refl read) fresh are at.0 at.1 below now.1 now.0)

pub returns-clause-walked : goal.returns-clause-walked
returns-clause-walked g c image ckpt done places read fresh are below is =
    let front = c.loop-dent.yielded in
    let rest = c.loop-dent.dent-iterator.rest in
    let before = c.loop-dent.invariant in
    let all : length front ≡ length c.args.dents.items = omega (arith, ap length before.all, length-append front rest.items, rest.ok.0, c.in-None.ensures.steps.0) in
    took_all image ckpt done c.args.directory places c.args.dents.items _ _ front all (before.walked image ckpt done places read fresh are below is)
