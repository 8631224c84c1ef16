use Rattle.std.proofs.Common.{◌≡◌, ℕ, Option, Some, None, refl, sym, ap, ◌∙◌}
use Rattle.std.specs.Option.{is_some, IfSome, IsNone}
use Rattle.std.proofs.lemmas.Bool.{false≢true}
use Rattle.f2_overlay.proofs.BasedNids.{nid_known, nid_only, no_row}
use Rattle.f2_overlay.proofs.nids.nid_of.Goals as goal

if_some : (found : Option ℕ) (P : ℕ → Type 0) → ((nid : ℕ) → found ≡ Some nid → P nid) → IfSome found P
if_some None P holds = tt
if_some (Some nid) P holds = holds nid refl

not_some : (found : Option ℕ) (nid : ℕ) → IsNone found → found ≡ Some nid → ⊥
not_some found nid none is = false≢true (sym none ∙ ap is_some is)

pub returns-in_err-row-clause-none : goal.returns-in_err-row-clause-none
returns-in_err-row-clause-none c = λ none image ckpt nid base node. no_row image ckpt c.args.walk.now base c.args.ino c.args.offset nid (sym c.in_err-row.ensures) node

pub returns-clause-is : goal.returns-clause-is
returns-clause-is c = if_some c.get-2.result _ (λ nid is image ckpt base.
    nid_only image ckpt c.args.walk.now base c.args.ino c.args.offset nid c.in_ok-row.row.now (sym c.in_ok-row.ensures) (sym c.get-2.ensures ∙ is))

pub returns-clause-none : goal.returns-clause-none
returns-clause-none c = λ none image ckpt nid base node. not_some c.get-2.result nid none
    (c.get-2.ensures ∙ nid_known image ckpt c.args.walk.now base c.args.ino c.args.offset nid c.in_ok-row.row.now node (sym c.in_ok-row.ensures))
