use Rattle.std.proofs.Common.{◌≡◌, ◌==◌, not, ap, subst, rules, tests}
use Rattle.std.proofs.lemmas.Fn.{filter_same}
use Rattle.f2_reference_state.specs.Numbers.{Numbers, after_removal}
use Rattle.f2_reference_state.proofs.numbers.Numbers.file_removed.Goals as goal

pub returns : goal.returns
returns c =
    let left = filter_same _ (λ node. not (node.ino == c.args.ino)) _ (λ x b f' k. search (rules, tests)) _ _ c.retain.ensures.filtered in
    subst (λ (seen : Numbers). record { live = c.retain.new.self.items; base = c.self.inside.base.items; log = c.self.inside.log.items } ≡ after_removal seen c.args.ino)
    c.self.view_is (ap (λ live. record { live = live; base = c.self.inside.base.items; log = c.self.inside.log.items }) left)
