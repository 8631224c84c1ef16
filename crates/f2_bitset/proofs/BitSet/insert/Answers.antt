use Rattle.std.proofs.Common.{sym, ap, ◌∙◌, arith}
use Rattle.std.proofs.lemmas.List.{get_or_default}
use Rattle.f2_bitset.specs.Numbers.{Numbers}
use Rattle.f2_bitset.proofs.Members.{insert-present}
use Rattle.f2_bitset.proofs.Bitmap.{covers_of, insert_bit}
use Rattle.f2_bitset.proofs.BitSet.insert.Goals as goal

pub overflow_add-self : goal.overflow_add-self
overflow_add-self c =
    let inserted = insert_bit _ _ _ _ _ c.args.number c.args.self.now c.self.invariant c.self.view_is c.requires (sym c.contains.ensures.member ∙ c.if-not-contains.true) in
    omega (arith, inserted.2, c.self.invariant.fits)

pub invariant_of-self : goal.invariant_of-self
invariant_of-self c =
    let inserted = insert_bit _ _ _ _ _ c.args.number c.args.self.now c.self.invariant c.self.view_is c.requires (sym c.contains.ensures.member ∙ c.if-not-contains.true) in
    let first = ap (λ (s : Numbers). s.first) c.self.view_is in
    let count = ap (λ (s : Numbers). s.count) c.self.view_is in
    let word = c.index_mut.ensures.value ∙ get_or_default c.self.inside.words.items _ c.index_mut.result.now 0 (omega (arith, c.requires, first, count, (covers_of c.self.invariant))) in
    rw word inserted.0

pub returns-then-not-contains : goal.returns-then-not-contains
returns-then-not-contains c =
    let inserted = insert_bit _ _ _ _ _ c.args.number c.args.self.now c.self.invariant c.self.view_is c.requires (sym c.contains.ensures.member ∙ c.if-not-contains.true) in
    let first = ap (λ (s : Numbers). s.first) c.self.view_is in
    let count = ap (λ (s : Numbers). s.count) c.self.view_is in
    let word = c.index_mut.ensures.value ∙ get_or_default c.self.inside.words.items _ c.index_mut.result.now 0 (omega (arith, c.requires, first, count, (covers_of c.self.invariant))) in
    rw word inserted.1

pub returns-else-not-contains : goal.returns-else-not-contains
returns-else-not-contains c =
    ap (λ m. record c.args.self.now { members = m }) (sym (insert-present _ _ (sym c.contains.ensures.member ∙ c.if-not-contains.false)))
