use Rattle.std.proofs.Common.{◌≡◌, ◌+◌, ◌*◌, ◌<◌, refl, sym, subst, arith}
use Rattle.std.proofs.lemmas.Bool.Decides.{nat_tests}
use Rattle.f2_blocks.specs.Tree.{node_at, node_limit}
use Rattle.f2_blocks.proofs.Shape.{first_is, none_has_nids, node_within}
use Rattle.f2_blocks.proofs.tree.slots_of.Goals as goal

pub overflow_cast-result : goal.overflow_cast-result
overflow_cast-result c = omega (arith, first_is c.args.offset c.in-Some.page c.in-Some.ensures.first)

pub returns-in-Some-clause-slots : goal.returns-in-Some-clause-slots
returns-in-Some-clause-slots c =
    let found = first_is c.args.offset c.in-Some.page c.in-Some.ensures.first in
    record { kind = found.0; is = found.1 }

pub returns-in-Some-clause-within : goal.returns-in-Some-clause-within
returns-in-Some-clause-within c = (first_is c.args.offset c.in-Some.page c.in-Some.ensures.first).2

pub returns-in-None-2-clause-slots : goal.returns-in-None-2-clause-slots
returns-in-None-2-clause-slots c =
    record {
      kind = none_has_nids c.args.offset c.requires.below c.requires.limit (c.in-None.ensures.none.0 refl);
      each = λ slot h. grind (arith, nat_tests);
    }

pub returns-in-None-2-clause-within : goal.returns-in-None-2-clause-within
returns-in-None-2-clause-within c =
    record {
      below = omega arith;
      limit = λ slot h.
          let kind = none_has_nids c.args.offset c.requires.below c.requires.limit (c.in-None.ensures.none.0 refl) in
          let at : c.args.offset + 1 + slot * 1 ≡ node_at c.args.offset slot = grind (arith, nat_tests) in
          subst (λ n. n < node_limit) (sym at) (node_within c.args.offset slot kind c.requires.limit h);
    }
