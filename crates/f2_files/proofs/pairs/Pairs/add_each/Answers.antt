use Rattle.std.proofs.Common.{◌≡◌, ◌+◌, ℕ, List, [], ◌∷◌, ◌++◌, true, false, take, get_or, ap, sym, ◌∙◌}
use Rattle.std.specs.FinSet as set
use Rattle.std.proofs.lemmas.List.{take_more}
use Rattle.f2_model.specs.State.{Pairs, with_pairs, without_pairs}
use Rattle.f2_files.proofs.PairSets.{undone_more, with_more, with_there}
use Rattle.f2_files.proofs.pairs.Pairs.add_each.Goals as goal
use Rattle.f2_files.proofs.pairs.Pairs.add_each.Goals.{then-not-contains+in_ok-add, else-not-contains}

pub loop-number-preserved : goal.loop-number-preserved
loop-number-preserved c =
    let ino = c.args.ino in
    let old : Pairs = c.args.self.now in
    let at : Pairs = c.loop-number.self in
    let i = c.loop-number.number-index in
    let xs : List ℕ = c.args.numbers.now in
    let number : ℕ = get_or xs i 0 in
    let more : take (i + 1) xs ≡ take i xs ++ number ∷ [] = take_more xs i 0 c.loop-number-test.true in
    let grown : set.insert at (ino, number) ≡ with_pairs ino old (take (i + 1) xs) =
    ap (λ (s : Pairs). set.insert s (ino, number)) c.loop-number.invariant.all ∙ sym (with_more ino old (take i xs) number) ∙ ap (with_pairs ino old) (sym more) in
    elim c.if-not-contains.branch [
      | then-not-contains+in_ok-add w ↦ (
          let free : set.contains at (ino, number) ≡ false = sym c.contains.ensures ∙ w.if-not-contains.true in
          let put = w.in_ok-add.ensures.set in
          let added = w.in_ok-add.ensures.added in
          record {
            all = w.self-is ∙ put ∙ grown;
            undo = ap (λ (s : Pairs). without_pairs ino s c.if-not-contains.added.items) (w.self-is ∙ put) ∙ ap (without_pairs ino (set.insert at (ino, number))) (ap (λ v. v.items) w.added-is ∙ added) ∙ undone_more ino at c.loop-number.added.items number free ∙ c.loop-number.invariant.undo;
          })
      | else-not-contains w ↦ (
          let there : set.contains at (ino, number) ≡ true = sym c.contains.ensures ∙ w.if-not-contains.false in
          record {
            all = w.self-is ∙ sym (with_there ino at number there) ∙ grown;
            undo = ap (λ (s : Pairs). without_pairs ino s c.if-not-contains.added.items) w.self-is ∙ ap (without_pairs ino at) (ap (λ v. v.items) w.added-is) ∙ c.loop-number.invariant.undo;
          })
    ]
