use Rattle.std.proofs.Common.{◌≡◌, codes, IsTrue, arith, rules}
use Rattle.std.proofs.lemmas.Grind.{common_steps}
use Rattle.std.specs.Prelude.{◌↔◌, string_bytes}
use Rattle.f2_top.proofs.ListingLemmas.{two_items, asks_tree, first_asks}
use Rattle.f2_top.proofs.listing.is_tree.Goals as goal

pub returns-in-len2 : goal.returns-in-len2
returns-in-len2 c =
    let two = two_items string_bytes c.args.words.now c.command-item.result (omega arith) c.command-item.is in
    let said : IsTrue c.eq.result ↔ (string_bytes c.command-item.result ≡ codes "tree") = first_of (search rules, grind (arith, common_steps)) in
    (λ yes. asks_tree _ _ two.0 two.1 (said.0 yes), λ tree. said.1 (first_asks _ _ two.0 two.1 tree))
