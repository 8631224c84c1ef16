use Rattle.std.proofs.Common.{◌≡◌, ℕ, ◌<◌, List, refl, ap, ◌∙◌, arith}
use Rattle.std.specs.Prelude.{slice_index}
use Rattle.std.specs.FinMap as map
use Rattle.f2_format.specs.Inode.{node_word}
use Rattle.f2_image.specs.Chains.{Logged, block_in}
use Rattle.f2_recover.proofs.Telling.{fault_holds}
use Rattle.f2_overlay.proofs.OwnersMore.{more_same, more_then}
use Rattle.f2_overlay.proofs.PutNodes.{nodes_none, node_passed, node_put, node_pages, nodes_all, within_limit, block_at_place, logged_at}
use Rattle.f2_overlay.specs.Taking.{node_of}
use Rattle.f2_overlay.proofs.TakenNodes.{taken_none, node_taken, node_left, taken_all}
use Rattle.f2_overlay.proofs.putting.put_nodes.Goals as goal

pub overflow_cast-first : goal.overflow_cast-first
overflow_cast-first c = let most = within_limit c.in-Some.offset c.in-Some-first_page.page c.in-Some-first_page.ensures.first in omega (arith, most)

pub put_addresses-requires : goal.put_addresses-requires
put_addresses-requires c = let most = within_limit c.in-Some.offset c.in-Some-first_page.page c.in-Some-first_page.ensures.first in omega (arith, most, c.words_of-words.ensures.size)

pub loop-offset-init : goal.loop-offset-init
loop-offset-init c = record { put = nodes_none c.args.log.now c.args.newest c.args.pages.now; nodes = taken_none c.args.log.now c.args.newest c.args.nodes.now; more = more_same c.args.owners.now; own = λ own. own; right = λ image ckpt sizes pages right. right }

-- the words are those of the block
words_are : (log : List Logged) (words block : List ℕ) (place : ℕ) → block ≡ block_in log place → ((slot : ℕ) → slot < 1018 → slice_index words slot ≡ node_word block slot) → (slot : ℕ) → slot < 1018 → slice_index words slot ≡ node_word (block_in log place) slot
words_are log words block place same are slot small = are slot small ∙ ap (λ (b : List ℕ). node_word b slot) same

pub loop-offset-preserved-in-Continue-branch-2 : goal.loop-offset-preserved-in-Continue-branch-2
loop-offset-preserved-in-Continue-branch-2 c =
    let before = c.loop-offset.invariant in
    let one = c.in_ok-put_addresses.ensures in
    let there = c.in-Some.ensures.taken in
    let small = c.requires c.in-Some.offset c.in-Some.place (before.put.fewer c.in-Some.offset c.in-Some.place there) in
    let block : c.deref.result.now ≡ block_in c.args.log.now c.in-Some.place = c.deref.ensures ∙ ap (λ (x : Logged). x.block) c.logged.view_is ∙ block_at_place c.args.log.now c.in-Some.place c.index-log-place.result small c.index-log-place.is in
    let words = words_are c.args.log.now c.words_of-words.result c.deref.result.now c.in-Some.place block c.words_of-words.ensures.words in
    record {
      put = node_put c.args.log.now c.args.newest c.loop-offset.newest c.take_one.new.self c.args.pages.now c.loop-offset.pages c.in-Some.offset c.in-Some.place there c.in-Some.ensures.left before.put c.in-Some-first_page.page
          c.words_of-words.result c.in-Some-first_page.ensures.first c.words_of-words.ensures.size words c.put_addresses.new.pages one.put;
      nodes = node_taken c.args.log.now c.args.newest c.loop-offset.newest c.take_one.new.self c.args.nodes.now c.loop-offset.nodes c.in-Some.offset c.in-Some.place there (before.put.fewer c.in-Some.offset c.in-Some.place there) c.in-Some.ensures.left
          before.nodes c.in-Some-first_page.page c.in-Some-first_page.ensures.first.held c.put.new.self
          (c.in_ok-put.ensures.ok ∙ ap (map.insert c.loop-offset.nodes c.in-Some.offset) (c.node_at.ensures ∙ ap node_of (logged_at c.args.log.now c.in-Some.place c.index-log-place.result small c.index-log-place.is)));
      more = more_then _ _ _ before.more one.more;
      own = λ own. one.own (before.own own);
      right = λ image ckpt sizes pages right.
          one.right image ckpt sizes
          (node_pages c.args.log.now c.args.newest c.loop-offset.newest c.take_one.new.self c.args.pages.now c.loop-offset.pages c.in-Some.offset c.in-Some.place there c.in-Some.ensures.left before.put c.in-Some-first_page.page
          c.words_of-words.result c.in-Some-first_page.ensures.first c.words_of-words.ensures.size words image ckpt c.args.ino pages)
          (before.right image ckpt sizes pages right);
    }

pub loop-offset-preserved : goal.loop-offset-preserved
loop-offset-preserved c =
    let before = c.loop-offset.invariant in
    record {
      put = node_passed c.args.log.now c.args.newest c.loop-offset.newest c.take_one.new.self c.args.pages.now c.loop-offset.pages c.in-Some.offset c.in-Some.place c.in-Some.ensures.taken c.in-Some.ensures.left before.put
          (c.in_default-first_page.ensures.none.0 refl);
      nodes = node_left c.args.log.now c.args.newest c.loop-offset.newest c.take_one.new.self c.args.nodes.now c.loop-offset.nodes c.in-Some.offset c.in-Some.place c.in-Some.ensures.taken
          (before.put.fewer c.in-Some.offset c.in-Some.place c.in-Some.ensures.taken) c.in-Some.ensures.left before.nodes (c.in_default-first_page.ensures.none.0 refl);
      more = before.more;
      own = before.own;
      right = before.right;
    }

pub returns-in_err-put_addresses-clause-fault : goal.returns-in_err-put_addresses-clause-fault
returns-in_err-put_addresses-clause-fault c =
    let before = c.loop-offset.invariant in
    let there = c.in-Some.ensures.taken in
    let small = c.requires c.in-Some.offset c.in-Some.place (before.put.fewer c.in-Some.offset c.in-Some.place there) in
    let block : c.deref.result.now ≡ block_in c.args.log.now c.in-Some.place = c.deref.ensures ∙ ap (λ (x : Logged). x.block) c.logged.view_is ∙ block_at_place c.args.log.now c.in-Some.place c.index-log-place.result small c.index-log-place.is in
    let words = words_are c.args.log.now c.words_of-words.result c.deref.result.now c.in-Some.place block c.words_of-words.ensures.words in
    fault_holds _ _ _ c.from_residual.ensures.1
    (λ image ckpt has sizes pages right.
    c.in_err-put_addresses.ensures.fault image ckpt has sizes
    (node_pages c.args.log.now c.args.newest c.loop-offset.newest c.take_one.new.self c.args.pages.now c.loop-offset.pages c.in-Some.offset c.in-Some.place there c.in-Some.ensures.left before.put c.in-Some-first_page.page
    c.words_of-words.result c.in-Some-first_page.ensures.first c.words_of-words.ensures.size words image ckpt c.args.ino pages)
    (before.right image ckpt sizes pages right))

pub returns-clause-put : goal.returns-clause-put
returns-clause-put c = nodes_all c.args.log.now c.args.newest c.loop-offset.newest c.args.pages.now c.loop-offset.pages c.in_default.ensures.none c.loop-offset.invariant.put

pub returns-clause-nodes : goal.returns-clause-nodes
returns-clause-nodes c = taken_all c.args.log.now c.args.newest c.loop-offset.newest c.args.nodes.now c.loop-offset.nodes c.in_default.ensures.none c.loop-offset.invariant.nodes
