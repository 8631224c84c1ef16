use Rattle.std.proofs.Common.{◌≡◌, ◌++◌, ◌∷◌, [], List, length, refl, sym, ap, ◌∙◌, append_assoc, append-nil, arith}
use Rattle.f2_dentry_block.specs.declared.dents.Dent.{Dent}
use Rattle.f2_found.proofs.Copies.{copy_more, copy_all}
use Rattle.f2_found.proofs.copying.copied_names.Goals as goal

no_dents : (dents : List Dent) → length dents ≡ 0 → [] ≡ dents
no_dents [] none = refl
no_dents (dent ∷ dents) none = absurd (omega (arith, none))

pub loop-dent-preserved : goal.loop-dent-preserved
loop-dent-preserved c =
    let before = c.loop-dent.invariant in
    let front = c.loop-dent.yielded in
    let rest = c.next.new.self.rest.items in
    let whole = ap (λ (xs : List Dent). front ++ xs) (sym c.in-Some.ensures.steps.0) ∙ before.all in
    record {
      all = append_assoc front (c.in-Some.dent ∷ []) rest ∙ whole;
      copied = copy_more c.args.directory.now front rest c.in-Some.dent c.loop-dent.names _ whole before.copied c.in_ok-put.ensures.ok;
    }

pub returns : goal.returns
returns c =
    let before = c.loop-dent.invariant in
    let front = c.loop-dent.yielded in
    let rest = c.loop-dent.dent-iterator.rest in
    let none : length rest.items ≡ 0 = omega (arith, rest.ok.0, c.in-None.ensures.steps.0) in
    copy_all c.args.directory.now front c.loop-dent.names (sym (append-nil front) ∙ ap (λ (xs : List Dent). front ++ xs) (no_dents rest.items none) ∙ before.all) before.copied
