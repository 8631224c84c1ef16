use Rattle.std.proofs.Common.{[], ap, sym, ◌∙◌}
use Rattle.f2_script.specs.Words.{shown}
use Rattle.f2_script.proofs.WordLemmas.{shown_first}
use Rattle.f2_script.proofs.LineKinds.{not_when, line_no_verb, line_read}
use Rattle.f2_script.proofs.line_readers.line_of.Goals as goal

pub returns-in_default-of : goal.returns-in_default-of
returns-in_default-of c =
    let split = sym c.in_ok-words.ensures ∙ ap shown (sym c.as_slice.ensures.value) ∙ shown_first c.as_slice.result.now record { ref_ptr = (0, 0); now = [] } c.in-len1-up.len_at_least in
    line_no_verb c.args.text.now _ _ split (not_when c.says_nothing.result c.says_nothing.ensures c.if-says_nothing.false) c.in_default-of.ensures

pub returns : goal.returns
returns c =
    let split = sym c.in_ok-words.ensures ∙ ap shown (sym c.as_slice.ensures.value) ∙ shown_first c.as_slice.result.now record { ref_ptr = (0, 0); now = [] } c.in-len1-up.len_at_least in
    line_read c.line_after.result c.args.text.now _ _ c.in-Some.verb split c.in-Some.ensures (not_when c.says_nothing.result c.says_nothing.ensures c.if-says_nothing.false) c.line_after.ensures
