use Rattle.std.proofs.Common.{◌<◌, [], length, get_or, ap, sym, ◌∙◌, arith}
use Rattle.f2_disk.specs.Contents.{last_of}
use Rattle.f2_disk.specs.Store.{Stored, content_of}
use Rattle.f2_disk.proofs.StoreLaws.{length-lists_of, last_of-lists_of}
use Rattle.f2_disk.proofs.store.Store.read.Goals as goal

pub index-requires : goal.index-requires
index-requires c =
    omega (arith, length-lists_of c.self.inside.newest.items c.self.inside.older.items, ap (λ (s : Stored). length s.lists) c.self.view_is)

pub returns-in-Some : goal.returns-in-Some
returns-in-Some c =
    let newest = c.self.inside.newest.items in
    let older = c.self.inside.older.items in
    let within : c.args.at < length newest =
    omega (arith, length-lists_of newest older, ap (λ (s : Stored). length s.lists) c.self.view_is) in
    c.deref.ensures ∙ ap content_of (sym c.in-Some.is)
    ∙ last_of-lists_of newest older c.args.at c.index.result.now within c.index.ensures
    ∙ ap (λ (s : Stored). last_of (get_or s.lists c.args.at [])) c.self.view_is

pub returns-in-None : goal.returns-in-None
returns-in-None c =
    let newest = c.self.inside.newest.items in
    let older = c.self.inside.older.items in
    let within : c.args.at < length newest =
    omega (arith, length-lists_of newest older, ap (λ (s : Stored). length s.lists) c.self.view_is) in
    c.blank_block.ensures.zeros ∙ ap content_of (sym c.in-None.is)
    ∙ last_of-lists_of newest older c.args.at c.index.result.now within c.index.ensures
    ∙ ap (λ (s : Stored). last_of (get_or s.lists c.args.at [])) c.self.view_is
