use Rattle.std.proofs.Common.{◌≡◌, Ok, refl, ap, ◌∙◌, arith}
use Rattle.std.specs.Prelude.{nat_lt}
use Rattle.std.specs.List.{range_with_len}
use Rattle.std.specs.FinMap as map
use Rattle.std.proofs.lemmas.Iterator.{items_from_collect, YieldsList-from_range}
use Rattle.f2_files.specs.Shape.{with_all_pages}
use Rattle.f2_files.proofs.PageMaps.{Addressed}
use Rattle.f2_files.proofs.addresses.Addresses.resize.Goals as goal

pub returns-clause-ok : goal.returns-clause-ok
returns-clause-ok c =
    let end = c.args.end in
    let numbers : c.in_ok-numbers.numbers.items ≡ range_with_len 0 end = items_from_collect {E = Unit {0}} (Ok c.in_ok-numbers.numbers) c.in_ok-numbers.ensures.ran (YieldsList-from_range 0 end end refl (omega arith)) in
    c.cut.ensures ∙ ap (λ (m : Addressed). map.retain_keys m (λ page. nat_lt page end)) (c.in_ok-add_all.ensures.all ∙ ap (with_all_pages c.args.self.now) (c.as_slice.ensures.value ∙ numbers))
