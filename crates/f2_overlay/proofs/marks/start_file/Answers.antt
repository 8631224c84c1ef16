use Rattle.std.proofs.Common.{sym, ap, ◌∙◌}
use Rattle.std.specs.Ordering.{nat_cmp}
use Rattle.std.specs.Option.{option_copied}
use Rattle.std.specs.FinMap as map
use Rattle.f2_overlay.specs.declared.rolls.Roll.{Roll}
use Rattle.f2_overlay.proofs.Maps.{get_taken-other}
use Rattle.f2_overlay.proofs.Starts.{start_row}
use Rattle.f2_overlay.proofs.marks.start_file.Goals as goal

pub returns-in-Some-clause-others : goal.returns-in-Some-clause-others
returns-in-Some-clause-others c other different = ap (λ (m : map.FinMap nat_cmp Roll). map.get m other) c.take.ensures.left ∙ get_taken-other c.args.rolls.now c.args.ino other different

pub returns-in_err-addresses_of-in-Some-get-clause-others : goal.returns-in_err-addresses_of-in-Some-get-clause-others
returns-in_err-addresses_of-in-Some-get-clause-others c other different = ap (λ (m : map.FinMap nat_cmp Roll). map.get m other) c.take.ensures.left ∙ get_taken-other c.args.rolls.now c.args.ino other different

pub returns-in_ok-addresses_of-in-Some-get-clause-pages : goal.returns-in_ok-addresses_of-in-Some-get-clause-pages
returns-in_ok-addresses_of-in-Some-get-clause-pages c =
    start_row _ _ c.in-Some-get.row.now c.deref.result.now _ (sym c.take.ensures.taken ∙ c.in_default.is) (sym c.get.ensures ∙ ap (λ o. option_copied o) c.in-Some-get.is) c.deref.ensures.value c.in_ok-addresses_of-in-Some-get.ensures

pub returns-in_ok-addresses_of-in-Some-get-clause-others : goal.returns-in_ok-addresses_of-in-Some-get-clause-others
returns-in_ok-addresses_of-in-Some-get-clause-others c other different = ap (λ (m : map.FinMap nat_cmp Roll). map.get m other) c.take.ensures.left ∙ get_taken-other c.args.rolls.now c.args.ino other different

pub returns-in-None-clause-others : goal.returns-in-None-clause-others
returns-in-None-clause-others c other different = ap (λ (m : map.FinMap nat_cmp Roll). map.get m other) c.take.ensures.left ∙ get_taken-other c.args.rolls.now c.args.ino other different
