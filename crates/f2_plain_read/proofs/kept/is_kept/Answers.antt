use Rattle.std.proofs.Common.{◌≡◌, ℕ, ◌+◌, ◌*◌, ◌∙◌, ap, sym, subst, refl, arith}
use Rattle.std.specs.FinSet as set
use Rattle.std.proofs.lemmas.Bool.{leb-true, le-leb}
use Rattle.f2_bitset.specs.Numbers.{Numbers}
use Rattle.f2_plain_read.specs.Keeping.{AreKeptBelow}
use Rattle.f2_plain_read.proofs.Taking.{Taken}
use Rattle.f2_plain_read.proofs.Keeping.{kept_nothing, kept_next, kept_none, kept_all, few_enough}
use Rattle.f2_plain_read.proofs.kept.is_kept.Goals as goal
use Rattle.f2_plain_read.proofs.kept.is_kept.Goals.{in-Some+else-not-take_node+else-not-take_pages, in_default, then-len-cn, else-len-cn}

pub loop-ino-init : goal.loop-ino-init
loop-ino-init c =
    let nodes_are = c.in_ok-nodes.ensures in
    let pages_are = c.in_ok-pages.ensures in
    record {
      node_zone = (ap (λ (n : Numbers). n.first) nodes_are ∙ c.node_first.ensures.value, ap (λ (n : Numbers). n.count) nodes_are ∙ ap (λ n. 3 * n) c.cn.ensures.value);
      page_zone = (ap (λ (n : Numbers). n.first) pages_are ∙ c.data_first.ensures.value, ap (λ (n : Numbers). n.count) pages_are ∙ ap (λ n. 3 * n) c.cd.ensures.value);
      kept = kept_nothing c.args.geometry.now c.args.places.now c.in_ok-nodes.nodes.members c.in_ok-pages.pages.members (ap (λ (n : Numbers). n.members) nodes_are) (ap (λ (n : Numbers). n.members) pages_are);
    }

pub loop-ino-preserved : goal.loop-ino-preserved
loop-ino-preserved c =
    let geom = c.args.geometry.now in
    let places = c.args.places.now in
    let ino = c.loop-ino.ino in
    let nodes = c.loop-ino.nodes.members in
    let pages = c.loop-ino.pages.members in
    let before = c.loop-ino.invariant in
    elim c.match-get.branch [
      | in-Some+else-not-take_node+else-not-take_pages w ↦
          let nodes_are = w.nodes-is ∙ w.if-not-take_node.ensures.taken in
          let free = w.if-not-take_node.ensures.free.0 refl in
          let took = w.if-not-take_pages.ensures in
          record {
            node_zone = (ap (λ (n : Numbers). n.first) nodes_are ∙ before.node_zone.0, ap (λ (n : Numbers). n.count) nodes_are ∙ before.node_zone.1);
            page_zone = (ap (λ (n : Numbers). n.first) w.pages-is ∙ took.zone.0, ap (λ (n : Numbers). n.count) w.pages-is ∙ took.zone.1);
            kept =
                subst (λ (t : Taken). AreKeptBelow geom places (ino + 1) t c.match-get.pages.members) (sym (ap (λ (n : Numbers). n.members) nodes_are))
                (subst (λ (t : Taken). AreKeptBelow geom places (ino + 1) (set.insert nodes w.in-Some.place.now.at) t) (sym (ap (λ (n : Numbers). n.members) w.pages-is))
                (kept_next geom places ino nodes pages before.kept w.in-Some.place.now (sym w.in-Some.ensures) took.whole free w.take_pages.new.pages.members (took.free.0 refl) took.taken));
          }
      | in_default w ↦
          record {
            node_zone = (ap (λ (n : Numbers). n.first) w.nodes-is ∙ before.node_zone.0, ap (λ (n : Numbers). n.count) w.nodes-is ∙ before.node_zone.1);
            page_zone = (ap (λ (n : Numbers). n.first) w.pages-is ∙ before.page_zone.0, ap (λ (n : Numbers). n.count) w.pages-is ∙ before.page_zone.1);
            kept =
                subst (λ (t : Taken). AreKeptBelow geom places (ino + 1) t c.match-get.pages.members) (sym (ap (λ (n : Numbers). n.members) w.nodes-is))
                (subst (λ (t : Taken). AreKeptBelow geom places (ino + 1) nodes t) (sym (ap (λ (n : Numbers). n.members) w.pages-is))
                (kept_none geom places ino nodes pages before.kept (sym w.in_default.ensures)));
          }
    ]

pub returns : goal.returns
returns c =
    let geom = c.args.geometry.now in
    let places = c.args.places.now in
    let all : c.loop-ino.ino ≡ c.args.limit = omega arith in
    let are = subst (λ (n : ℕ). AreKeptBelow geom places n c.loop-ino.nodes.members c.loop-ino.pages.members) all c.loop-ino.invariant.kept in
    let few = few_enough geom places c.args.limit c.loop-ino.nodes.members c.loop-ino.pages.members c.requires are in
    elim c.if-len-cn.branch [
      | then-len-cn w ↦ (
        λ t. kept_all geom places c.args.limit c.loop-ino.nodes.members c.loop-ino.pages.members c.requires are
            (omega (arith, c.len.ensures.len, c.cn-2.ensures.value, w.if-len-cn.true))
            (omega (arith, w.len-then-len-cn.ensures.len, w.cd-then-len-cn.ensures.value, leb-true w.len-then-len-cn.result w.cd-then-len-cn.result (sym w.result-is ∙ t))),
        λ kept. w.result-is ∙ le-leb w.len-then-len-cn.result w.cd-then-len-cn.result (omega (arith, w.len-then-len-cn.ensures.len, w.cd-then-len-cn.ensures.value, (few kept).1)),
      )
      | else-len-cn w ↦ (
        λ t. absurd (omega (arith, leb-true c.len.result c.cn-2.result (sym w.result-is ∙ t), w.if-len-cn.false)),
        λ kept. absurd (omega (arith, c.len.ensures.len, c.cn-2.ensures.value, (few kept).0, w.if-len-cn.false)),
      )
    ]
