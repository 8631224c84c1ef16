use Rattle.std.proofs.Common.{subst}
use Rattle.f2_script.specs.Grammar.{IsRequest}
use Rattle.f2_script.proofs.WordLemmas.{shown_first}
use Rattle.f2_script.proofs.VerbLemmas.{no_op}
use Rattle.f2_script.proofs.requests.request_of.Goals as goal

pub returns-in_default-of : goal.returns-in_default-of
returns-in_default-of c = λ x h.
    no_op _ _ c.in_default-of.ensures x (subst (λ texts. IsRequest texts x) (shown_first c.args.words.now _ c.in-len1-up.len_at_least) h)
