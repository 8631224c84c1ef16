use Rattle.std.proofs.Common.{◌≡◌, ◌++◌, ◌*◌, ℕ, List, ap, ◌∙◌, arith, drop}
use Rattle.std.specs.List.{flat_map}
use Rattle.f2_format.specs.Bytes.{number_bytes}
use Rattle.f2_format.specs.Offsets.{node_slots}
use Rattle.f2_blocks.specs.Blocks.{words_of, word_of}
use Rattle.f2_blocks.specs.Slots.{word_in}
use Rattle.f2_blocks.proofs.Fields.{word_in-is}
use Rattle.f2_blocks.proofs.Words.{Written-none, Written-more, words_of-same}
use Rattle.f2_blocks.proofs.blocks.put_slots.Goals as goal

pub loop-slot-init : goal.loop-slot-init
loop-slot-init g c = Written-none (word_in (g.P.PageAddresses.addresses c.args.index.now) c.args.nids.now c.slots_of-slots.result) c.args.into.now

pub loop-slot-preserved : goal.loop-slot-preserved
loop-slot-preserved g c =
    Written-more (word_in (g.P.PageAddresses.addresses c.args.index.now) c.args.nids.now c.slots_of-slots.result) c.loop-slot.slot c.word_of.result c.args.into.now c.loop-slot.into c.write_word.new.b
    c.loop-slot.invariant c.loop-slot-test.true c.word_of.ensures c.write_word.ensures.written c.write_word.ensures.reads_back c.write_word.ensures.others

pub returns-clause-written : goal.returns-clause-written
returns-clause-written g c =
    let word = word_in (g.P.PageAddresses.addresses c.args.index.now) c.args.nids.now c.slots_of-slots.result in
    let all : c.loop-slot.slot ≡ node_slots = omega arith in
    let same = words_of-same word (word_of (g.P.PageAddresses.addresses c.args.index.now) c.args.nids.now c.args.offset) node_slots
    (λ slot h. word_in-is (g.P.PageAddresses.addresses c.args.index.now) c.args.nids.now c.args.offset c.slots_of-slots.result slot c.slots_of-slots.ensures.slots h)
    in
    c.loop-slot.invariant.bytes
    ∙ ap (λ (n : ℕ). flat_map (number_bytes 4) (words_of word n) ++ drop (4 * n) c.args.into.now) all
    ∙ ap (λ (words : List ℕ). flat_map (number_bytes 4) words ++ drop 4072 c.args.into.now) same
