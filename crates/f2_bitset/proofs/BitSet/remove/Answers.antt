use Rattle.std.proofs.Common.{sym, ap, ◌∙◌, arith}
use Rattle.std.proofs.lemmas.List.{get_or_default}
use Rattle.f2_bitset.specs.Numbers.{Numbers}
use Rattle.f2_bitset.proofs.Members.{remove-absent}
use Rattle.f2_bitset.proofs.Bitmap.{covers_of, remove_bit}
use Rattle.f2_bitset.proofs.BitSet.remove.Goals as goal

pub overflow_sub-self : goal.overflow_sub-self
overflow_sub-self c =
    let removed = remove_bit _ _ _ _ _ c.args.number c.args.self.now c.self.invariant c.self.view_is c.if-contains.ensures.in_range (sym c.contains.ensures.member ∙ c.if-contains.true) in
    omega (arith, removed.2)

pub invariant_of-self : goal.invariant_of-self
invariant_of-self c =
    let removed = remove_bit _ _ _ _ _ c.args.number c.args.self.now c.self.invariant c.self.view_is c.if-contains.ensures.in_range (sym c.contains.ensures.member ∙ c.if-contains.true) in
    let first = ap (λ (s : Numbers). s.first) c.self.view_is in
    let count = ap (λ (s : Numbers). s.count) c.self.view_is in
    let word = c.index_mut.ensures.value ∙ get_or_default c.self.inside.words.items _ c.index_mut.result.now 0 (omega (arith, c.if-contains.ensures.in_range, first, count, (covers_of c.self.invariant))) in
    rw (word, c.min-self-inside.ensures) removed.0

pub returns-then-contains : goal.returns-then-contains
returns-then-contains c =
    let removed = remove_bit _ _ _ _ _ c.args.number c.args.self.now c.self.invariant c.self.view_is c.if-contains.ensures.in_range (sym c.contains.ensures.member ∙ c.if-contains.true) in
    let first = ap (λ (s : Numbers). s.first) c.self.view_is in
    let count = ap (λ (s : Numbers). s.count) c.self.view_is in
    let word = c.index_mut.ensures.value ∙ get_or_default c.self.inside.words.items _ c.index_mut.result.now 0 (omega (arith, c.if-contains.ensures.in_range, first, count, (covers_of c.self.invariant))) in
    rw word removed.1

pub returns-else-contains : goal.returns-else-contains
returns-else-contains c =
    ap (λ m. record c.args.self.now { members = m }) (sym (remove-absent _ _ (sym c.contains.ensures.member ∙ c.if-contains.false)))
