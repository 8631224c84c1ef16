use Rattle.std.proofs.Common.{◌≡◌, codes, subst, arith, rules}
use Rattle.std.proofs.lemmas.Grind.{common_steps}
use Rattle.std.specs.Prelude.{string_bytes}
use Rattle.f2_script.specs.Words.{IsWord, Number}
use Rattle.f2_top.proofs.MakingLemmas.{four_items, asks}
use Rattle.f2_top.proofs.making.sizes_asked.Goals as goal

pub returns : goal.returns
returns c =
    let four = four_items string_bytes c.args.words.now c.command-item.result c.blocks-item.result c.nat-item.result (omega arith) c.command-item.is c.blocks-item.is c.nat-item.is in
    let said : string_bytes c.command-item.result ≡ codes "mkfs" = first_of (search rules, grind (arith, common_steps)) in
    let blocks : IsWord (Number 0 4294967295 c.in_ok-blocks.blocks) (string_bytes c.blocks-item.result) = subst (IsWord (Number 0 4294967295 c.in_ok-blocks.blocks)) c.as_bytes.ensures.value c.in_ok-blocks.ensures in
    let nat : IsWord (Number 0 4294967295 c.in_ok-nat.nat) (string_bytes c.nat-item.result) = subst (IsWord (Number 0 4294967295 c.in_ok-nat.nat)) c.as_bytes-2.ensures.value c.in_ok-nat.ensures in
    asks _ _ four.0 _ _ _ _ four.1 said blocks nat
